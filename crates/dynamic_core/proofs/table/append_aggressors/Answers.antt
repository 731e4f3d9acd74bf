use Rattle.std.proofs.Common.{rules, refl, ◌∙◌}
use Rattle.dynamic_core.specs.Table.{disturbs, acting_senses}
use Rattle.dynamic_core.proofs.Acting.{acting_some, acting_accesses}
use Rattle.dynamic_core.proofs.Rooms.{piece_room, piece_more, all_pieces}
use Rattle.dynamic_core.proofs.table.append_aggressors.Goals as goal

pub append_disturbed-requires : goal.append_disturbed-requires
append_disturbed-requires g c = (
  search rules,
  (
    acting_some c.as_slice-agg-items.result.now c.loop-agg.agg-index c.agg-item.result (c.as_slice-agg-items.ensures.value ∙ c.acting_senses.ensures) c.loop-agg-test.true c.agg-item.is,
    (
      acting_accesses c.as_slice-agg-items.result.now c.loop-agg.agg-index c.agg-item.result (c.as_slice-agg-items.ensures.value ∙ c.acting_senses.ensures) c.loop-agg-test.true c.agg-item.is,
      piece_room disturbs c.as_slice-agg-items.result.now acting_senses c.loop-agg.agg-index c.agg-item.result c.args.prims.now.items c.loop-agg.prims.items 36 _
          (c.as_slice-agg-items.ensures.value ∙ c.acting_senses.ensures) refl c.loop-agg-test.true c.agg-item.is c.loop-agg.invariant c.requires,
    ),
  ),
)

pub loop-agg-preserved : goal.loop-agg-preserved
loop-agg-preserved g c =
    piece_more disturbs c.as_slice-agg-items.result.now c.loop-agg.agg-index c.agg-item.result c.args.prims.now.items c.loop-agg.prims.items
    c.append_disturbed.new.prims.items c.loop-agg-test.true c.agg-item.is c.loop-agg.invariant c.append_disturbed.ensures

pub returns : goal.returns
returns g c =
    all_pieces disturbs c.as_slice-agg-items.result.now acting_senses c.loop-agg.agg-index c.args.prims.now.items c.loop-agg.prims.items
    (c.as_slice-agg-items.ensures.value ∙ c.acting_senses.ensures) c.loop-agg-test.false c.loop-agg.invariant
