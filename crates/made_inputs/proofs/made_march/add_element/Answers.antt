use Rattle.std.proofs.Common.{◌≡◌, List, IsTrue, take, get_or, sym, subst}
use Rattle.march_core.specs.declared.operation.Op.TheVariants.{W0}
use Rattle.march_core.specs.March.{MarchElement}
use Rattle.march_core.specs.Building.{with_op, ends_in_sweep}
use Rattle.made_inputs.proofs.MarchLaws.{sweep_last, has_room, op_added, has, held}
use Rattle.made_inputs.proofs.made_march.add_element.Goals as goal

pub op-requires : goal.op-requires
op-requires c =
    let so_far = take c.loop-op.op-index c.args.ops.now in
    subst (λ (l : List MarchElement). IsTrue (ends_in_sweep l)) (sym c.loop-op.invariant) (sweep_last c.args.builder.now c.args.order so_far)

pub unwrap-requires-in-loop-op : goal.unwrap-requires-in-loop-op
unwrap-requires-in-loop-op c =
    c.op.ensures.variant.1
    (has_room c.args.builder.now c.loop-op.builder c.args.order c.args.ops.now c.loop-op.op-index c.loop-op-test.true c.requires.few c.requires.all c.loop-op.invariant)

pub loop-op-preserved : goal.loop-op-preserved
loop-op-preserved c =
    let with_it : c.op.new.self ≡ with_op c.loop-op.builder (get_or c.args.ops.now c.loop-op.op-index W0) =
    held c.op.result _ (has c.op.result c.unwrap-in-loop-op.result c.unwrap-in-loop-op.ensures) c.op.ensures.ok in
    op_added c.args.builder.now c.loop-op.builder c.op.new.self c.args.order c.args.ops.now c.loop-op.op-index c.loop-op-test.true c.loop-op.invariant with_it
