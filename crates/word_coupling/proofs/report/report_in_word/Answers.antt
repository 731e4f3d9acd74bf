use Rattle.std.proofs.Common.{◌∙◌, ◌-◌, ap, sym, subst, length, nat_lt}
use Rattle.word_coupling.specs.inner.Judged.{AreJudgedInWord, in_word_text}
use Rattle.report_lines.specs.Lines.{total_line}
use Rattle.word_coupling.proofs.Reports.{reports}
use Rattle.word_coupling.proofs.report.report_in_word.Goals as goal

pub returns : goal.returns
returns c =
    let verdicts = c.as_slice-verdicts.result.now in
    let right = subst (AreJudgedInWord c.args.march.now c.args.memory.now c.args.items.now) (sym c.as_slice-verdicts.ensures.value) c.in_ok-judged.ensures in
    reports c.args.march.now c.args.memory.now c.args.items.now verdicts right _ _ _
    (ap (λ n. nat_lt n (length verdicts)) c.count_covered-covered.ensures.value)
    (c.in_ok-write_judged.ensures
    ∙ ap (λ n. in_word_text c.args.march.now c.args.memory.now (length c.args.items.now - n) n verdicts) c.count_couplings-couplings.ensures.value)
    (c.in_ok-total_text.ensures ∙ ap (total_line (length verdicts)) c.count_covered-covered.ensures.value)
