use Rattle.std.proofs.Common.{List, ◌+◌, length, ap, sym, subst, arith, take, length-append}
use Rattle.dynamic_prover.specs.declared.leg.Leg.{Leg}
use Rattle.dynamic_prover.specs.inner.Legs.{AreLegs}
use Rattle.dynamic_prover.proofs.Tables.{legs_more}
use Rattle.dynamic_prover.proofs.leg.legs_of.Goals as goal

pub loop-element-preserved : goal.loop-element-preserved
loop-element-preserved c = record {
  are = subst (λ (ls : List Leg). AreLegs c.args.prim.now (take (c.loop-element.element + 1) c.args.march.now) ls) (sym c.push.ensures.items)
      (legs_more c.args.prim.now c.args.march.now c.loop-element.legs.items c.loop-element.element c.leg_of.result (omega arith) c.loop-element.invariant.are
      (c.leg_of.ensures c.args.prim.now c.new-on_aggressor.ensures c.new-on_victim.ensures));
  count = omega (arith, ap length c.push.ensures.items, length-append {A = Leg});
}
