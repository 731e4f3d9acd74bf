use Rattle.chip_rtl.proofs.Building.{others_turn, members_turn}
use Rattle.chip_rtl.proofs.expressions.all_over.Goals as goal

pub loop-i-preserved : goal.loop-i-preserved
loop-i-preserved c = others_turn c.args.group c.loop-i.i 0 c.args.groups.now _ c.loop-i-test.true c.loop-i.auto.i c.if-groups-i.false c.loop-i.invariant

pub loop-i-preserved-then-groups-i : goal.loop-i-preserved-then-groups-i
loop-i-preserved-then-groups-i c =
    members_turn c.args.group c.loop-i.i 0 c.args.groups.now _ _ c.loop-i-test.true c.loop-i.auto.i c.if-groups-i.true c.in_ok-all.ensures c.loop-i.invariant
