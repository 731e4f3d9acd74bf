use Rattle.std.proofs.Common.{◌∙◌, Some, ap, sym}
use Rattle.array_sim.proofs.Runs.{pause_there, sweep_there}
use Rattle.word_coupling.specs.inner.Couples.{run_ops, run_element}
use Rattle.word_coupling.proofs.couple.run_element.Goals as goal

pub returns-then-is_pause : goal.returns-then-is_pause
returns-then-is_pause c =
    ap Some c.pause.ensures.pair
    ∙ sym (ap (λ e. run_element c.args.reading c.args.prim.now c.args.background e c.args.start)
    (pause_there c.args.march.now c.args.element c.requires (sym c.if-is_pause.ensures)))

pub returns : goal.returns
returns c =
    c.run_ops.ensures
    ∙ ap (λ ops. run_ops c.args.reading c.args.prim.now c.args.background ops c.args.start) c.ops.ensures.value
    ∙ sym (ap (λ e. run_element c.args.reading c.args.prim.now c.args.background e c.args.start)
    (sweep_there c.args.march.now c.args.element c.requires (sym c.if-is_pause.ensures)))
