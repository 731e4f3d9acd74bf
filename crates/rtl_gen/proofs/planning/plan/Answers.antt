use Rattle.std.proofs.Common.{◌-◌, ap}
use Rattle.rtl_gen.proofs.Made.{planned, widthed}
use Rattle.rtl_gen.proofs.Sizes.{is_plan}
use Rattle.rtl_gen.proofs.planning.plan.Goals as goal

pub invariant_of-result : goal.invariant_of-result
invariant_of-result c =
    let d = c.args.memory.now in
    record {
      is_plan = is_plan c.args.march.now d _
          (planned c.args.march.now d _ c.scramble-scramble.result.now c.words.ensures.memory c.scramble-scramble.ensures
          c.module_of.ensures c.elements.ensures c.words.ensures.value c.bits.ensures.value c.backgrounds.ensures
          (ap (λ n. n - 1) c.latency.ensures.value) c.polarity.ensures.value c.pause_of-pause.ensures.pauses c.address_bits.ensures.value
          c.is_identity.ensures c.rows.ensures)
          c.most_ops-most.result
          (widthed c.args.march.now d _ c.scramble-scramble.result.now c.most_ops-most.result c.len.result c.address_bits-2.result c.backgrounds-count.result.now c.scramble-scramble.ensures c.rows.ensures
          c.pause_of-pause.ensures.low c.pause_of-pause.ensures.high c.visit_width.ensures.pause c.address_bits.ensures.value c.address_bits-2.ensures.value c.visit_width.ensures.address c.visit_width.ensures.narrow
          c.len.ensures.value c.width_of.ensures.width
          c.most_ops-most.ensures.some c.most_ops-most.ensures.few c.most_ops-most.ensures.each c.width_of-2.ensures.width
          c.backgrounds-count.ensures.value c.width_of-3.ensures.width)
          c.len.ensures.march c.words.ensures.memory;
    }

pub returns-clause-plans : goal.returns-clause-plans
returns-clause-plans c =
    planned c.args.march.now c.args.memory.now _ c.scramble-scramble.result.now c.words.ensures.memory c.scramble-scramble.ensures
    c.module_of.ensures c.elements.ensures c.words.ensures.value c.bits.ensures.value c.backgrounds.ensures
    (ap (λ n. n - 1) c.latency.ensures.value) c.polarity.ensures.value c.pause_of-pause.ensures.pauses c.address_bits.ensures.value
    c.is_identity.ensures c.rows.ensures
