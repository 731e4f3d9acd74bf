use Rattle.std.proofs.Common.{◌≡◌, ◌∙◌, ap, sym, ◌++◌, List, ℕ, arith, append_assoc, append-nil}
use Rattle.std.specs.Prelude.{codes}
use Rattle.march_core.specs.Visits.{direction_at}
use Rattle.report_lines.specs.Lines.{directions_text, letter}
use Rattle.report_lines.proofs.LinesGrow.{no_letters, one_letter_more, two_parts}
use Rattle.report_lines.proofs.passing.write_directions.Goals as goal

pub loop-element-init : goal.loop-element-init
loop-element-init c =
    sym (append-nil c.put.new.out.items) ∙ ap (λ l. c.put.new.out.items ++ l) (sym (no_letters c.args.directions))

pub loop-element-preserved : goal.loop-element-preserved
loop-element-preserved c =
    let old : List ℕ = c.put.new.out.items in
    let before : List ℕ = directions_text c.args.directions c.loop-element.element in
    let here : List ℕ = letter (direction_at c.args.directions c.loop-element.element) in
    c.in_ok-put-2.ensures.ok ∙ ap (λ l. c.loop-element.out.items ++ l) c.letter_at.ensures ∙ ap (λ l. l ++ here) c.loop-element.invariant
    ∙ append_assoc old before here ∙ ap (λ l. old ++ l) (sym (one_letter_more c.args.directions c.loop-element.element))

pub returns : goal.returns
returns c =
    let all : c.loop-element.element ≡ c.args.size = omega (arith, c.loop-element.auto.element-end, c.loop-element-test.false) in
    two_parts c.args.out.now.items (codes " directions ") (directions_text c.args.directions c.args.size) c.put.new.out.items c.loop-element.out.items c.in_ok-put.ensures.ok
    (c.loop-element.invariant ∙ ap (λ n. c.put.new.out.items ++ directions_text c.args.directions n) all)
