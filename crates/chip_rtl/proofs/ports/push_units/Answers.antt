use Rattle.std.proofs.Common.{◌≡◌, slice_index_or}
use Rattle.chip_rtl.proofs.Building.{ports_turn}
use Rattle.chip_rtl.proofs.ports.push_units.Goals as goal

pub loop-i-preserved : goal.loop-i-preserved
loop-i-preserved c =
    let is = c.index-memories-i.is in
    let same : c.index-memories-i.result ≡ slice_index_or c.args.memories.now c.loop-i.i c.index-memories-i.result = cc in
    ports_turn c.loop-i.i c.args.memories.now c.index-memories-i.result _ _ _ c.loop-i-test.true same c.in_ok-push_unit.ensures c.loop-i.invariant
