use Rattle.std.proofs.Common.{None, subst}
use Rattle.microcode.specs.declared.place.Extent.{Extent}
use Rattle.microcode.specs.Running.{IsAt as IsPlaced, IsBehind as IsPlacedBehind}
use Rattle.controller.proofs.Mirror.{turned_none}
use Rattle.controller.proofs.control.turn.Goals as goal

pub returns-in-None-clause-turned : goal.returns-in-None-clause-turned
returns-in-None-clause-turned c = λ march at.
    turned_none march c.args.code.now c.args.memory.now c.args.place c.args.run c.known.ensures c.if-not-run.false at
    (subst (λ (g : Extent). IsPlaced march c.args.code.now g c.args.place → IsPlacedBehind march c.args.code.now g c.args.place None)
    c.extent_of.ensures.extent (c.in-None.ensures march) at)
