use Rattle.memory_desc.proofs.Common.{ap, false, is_other, option_map, plain_line_content, plain_statement, refl, sym, true, ◌∙◌}
use Rattle.memory_desc.proofs.Repeats.{other_line, passing_on, repeat_stops, repeat_ends, same_line}
use Rattle.memory_desc.proofs.search.check_repeats.Goals as goal

pub returns : goal.returns
returns c = repeat_ends c.loop-line.invariant.passing c.in-None.ensures.steps.0

pub returns-then-first-line : goal.returns-then-first-line
returns-then-first-line c =
    let there = sym c.first_line.ensures ∙ ap (option_map plain_statement) c.in-Some-first_line.is in
    repeat_stops {t = true} c.subject_of-subject.result c.loop-line.invariant.passing c.in-Some.ensures.steps (ap plain_line_content (sym c.in-Some-said.is) ∙ c.said.ensures) c.subject_of-subject.ensures
    (λ _. sym (ap (is_other c.in-Some.line.number) there ∙ other_line (plain_statement c.in-Some-first_line.first) c.if-first-line.true)) refl

pub loop-line-preserved-then-is_new : goal.loop-line-preserved-then-is_new
loop-line-preserved-then-is_new c = record {
  can_next = tt;
  is_finite = tt;
  passing =
      passing_on {t = false} c.subject_of-subject.result c.loop-line.invariant.passing c.in-Some.ensures.steps (ap plain_line_content (sym c.in-Some-said.is) ∙ c.said.ensures) c.subject_of-subject.ensures
      (λ f. sym (f (c.is_new.ensures.new c.if-is_new.true))) refl c.is_new.ensures.kept c.is_new.ensures.stay;
}

pub loop-line-preserved-in_default-first_line : goal.loop-line-preserved-in_default-first_line
loop-line-preserved-in_default-first_line c = record {
  can_next = tt;
  is_finite = tt;
  passing =
      passing_on {t = false} c.subject_of-subject.result c.loop-line.invariant.passing c.in-Some.ensures.steps (ap plain_line_content (sym c.in-Some-said.is) ∙ c.said.ensures) c.subject_of-subject.ensures
      (λ _. sym (ap (is_other c.in-Some.line.number) (sym c.first_line.ensures ∙ ap (option_map plain_statement) c.in_default-first_line.is))) refl c.is_new.ensures.kept c.is_new.ensures.stay;
}

pub loop-line-preserved : goal.loop-line-preserved
loop-line-preserved c =
    let there = sym c.first_line.ensures ∙ ap (option_map plain_statement) c.in-Some-first_line.is in
    record {
      can_next = tt;
      is_finite = tt;
      passing =
          passing_on {t = false} c.subject_of-subject.result c.loop-line.invariant.passing c.in-Some.ensures.steps (ap plain_line_content (sym c.in-Some-said.is) ∙ c.said.ensures) c.subject_of-subject.ensures
          (λ _. sym (ap (is_other c.in-Some.line.number) there ∙ same_line (plain_statement c.in-Some-first_line.first) c.if-first-line.false)) refl c.is_new.ensures.kept c.is_new.ensures.stay;
    }
