use Rattle.std.proofs.Common.{rules, refl, ◌∙◌}
use Rattle.dynamic_core.specs.Table.{wrong_acts, acting_senses}
use Rattle.dynamic_core.proofs.Acting.{acting_accesses}
use Rattle.dynamic_core.proofs.Rooms.{piece_room, piece_more, all_pieces}
use Rattle.dynamic_core.proofs.table.append_victims.Goals as goal

pub append_wrong-requires : goal.append_wrong-requires
append_wrong-requires g c = (
  search rules,
  (
    c.requires.aggressor,
    (
      acting_accesses c.as_slice-vic-items.result.now c.loop-vic.vic-index c.vic-item.result (c.as_slice-vic-items.ensures.value ∙ c.acting_senses.ensures) c.loop-vic-test.true c.vic-item.is,
      piece_room (wrong_acts c.args.agg.now) c.as_slice-vic-items.result.now acting_senses c.loop-vic.vic-index c.vic-item.result c.args.prims.now.items c.loop-vic.prims.items 30 _
          (c.as_slice-vic-items.ensures.value ∙ c.acting_senses.ensures) refl c.loop-vic-test.true c.vic-item.is c.loop-vic.invariant c.requires.room,
    ),
  ),
)

pub loop-vic-preserved : goal.loop-vic-preserved
loop-vic-preserved g c =
    piece_more (wrong_acts c.args.agg.now) c.as_slice-vic-items.result.now c.loop-vic.vic-index c.vic-item.result c.args.prims.now.items c.loop-vic.prims.items
    c.append_wrong.new.prims.items c.loop-vic-test.true c.vic-item.is c.loop-vic.invariant c.append_wrong.ensures

pub returns : goal.returns
returns g c =
    all_pieces (wrong_acts c.args.agg.now) c.as_slice-vic-items.result.now acting_senses c.loop-vic.vic-index c.args.prims.now.items c.loop-vic.prims.items
    (c.as_slice-vic-items.ensures.value ∙ c.acting_senses.ensures) c.loop-vic-test.false c.loop-vic.invariant
