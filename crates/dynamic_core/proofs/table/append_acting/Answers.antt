use Rattle.std.proofs.Common.{arith, map}
use Rattle.fault_core.specs.declared.primitive.Act.TheVariants.{Read}
use Rattle.dynamic_core.specs.Table.{accesses, acting}
use Rattle.dynamic_core.proofs.Rooms.{room}
use Rattle.dynamic_core.proofs.table.append_acting.Goals as goal

pub append_seconds-requires : goal.append_seconds-requires
append_seconds-requires c =
    let left = room (λ first. map (acting c.args.state first) accesses) c.args.senses.now.items c.loop-first.senses.items accesses c.loop-first.first-index Read c.loop-first.invariant c.loop-first-test.true in
    omega (arith, left, c.requires)
