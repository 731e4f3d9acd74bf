use Rattle.std.proofs.Common.{◌≡◌, ◌∙◌, None, Some, sym, arith, rules}
use Rattle.word_coupling.proofs.Elements.{march_step}
use Rattle.word_coupling.proofs.couple.run_march.Goals as goal

pub returns-in_err-pair : goal.returns-in_err-pair
returns-in_err-pair c =
    let ended : c.from_residual.result ≡ None = search rules in
    ended
    ∙ sym (march_step c.args.reading c.args.prim.now c.args.background c.args.march.now c.loop-element.element c.loop-element.pair None (omega arith)
    (sym c.in_err-pair.was ∙ c.run_element.ensures))
    ∙ c.loop-element.invariant

pub loop-element-preserved : goal.loop-element-preserved
loop-element-preserved c =
    sym (march_step c.args.reading c.args.prim.now c.args.background c.args.march.now c.loop-element.element c.loop-element.pair (Some c.in_ok-pair.pair) (omega arith)
    (sym c.in_ok-pair.was ∙ c.run_element.ensures))
    ∙ c.loop-element.invariant
