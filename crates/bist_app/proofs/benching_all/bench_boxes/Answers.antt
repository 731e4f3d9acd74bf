use Rattle.bist_app.proofs.Common.{rules, ◌≡◌, ◌∙◌, ◌<◌, length, arith, subst, sym, ModuleTree, Fit, registers_of}
use Rattle.bist_app.proofs.AllBenched.{blank_right, at_most_one, goes_more, boxes_counted, one_gone, one_less, first_has_room, rest_have_room, zeros_for_registers}
use Rattle.bist_app.proofs.benching_all.bench_boxes.Goals as goal

pub take_fitted-requires-clause-room : goal.take_fitted-requires-clause-room
take_fitted-requires-clause-room g c = first_has_room _ _ c.loop-devices.invariant.rooms

pub does_fail-requires-clause-zeros : goal.does_fail-requires-clause-zeros
does_fail-requires-clause-zeros g c =
    subst (λ (mo : ModuleTree). Fit (registers_of mo) c.deref.result.now) (sym c.loop-devices.invariant.tree)
    (zeros_for_registers (registers_of c.args.design.now.tree) c.args.design.now.registers c.in_ok-zeros.zeros.items c.deref.result.now
    c.requires.zero c.in_ok-zeros.ensures c.deref.ensures.value)

pub loop-devices-preserved : goal.loop-devices-preserved
loop-devices-preserved g c =
    let some : 0 < length c.loop-devices.devices.items = search rules in
    let less = one_less c.loop-devices.devices.items c.take_fitted.new.devices.items some c.in_ok-device.ensures.taken in
    let few = at_most_one c.does_fail.result in
    let goes = goes_more _ c.args.march.now c.args.memory.now _ c.loop-devices.devices.items c.take_fitted.new.devices.items _ c.loop-devices.failing
    c.from-failing.result c.does_fail.result c.from-failing.ensures (blank_right c.args.march.now c.args.memory.now c.unplanted_passes.ensures.alone) some c.in_ok-device.ensures.taken c.in_ok-device.ensures.tells c.does_fail.ensures.end
    c.loop-devices.invariant.goes_on in
    record {
      tree = c.does_fail.ensures.kept ∙ c.loop-devices.invariant.tree;
      bound = omega (arith, less, few, c.from-failing.ensures, c.loop-devices.invariant.bound);
      gone = one_gone _ _ c.loop-devices.devices.items c.take_fitted.new.devices.items c.loop-devices.invariant.gone c.in_ok-device.ensures.taken;
      rooms = rest_have_room _ _ c.loop-devices.devices.items c.take_fitted.new.devices.items c.in_ok-device.ensures.taken c.loop-devices.invariant.rooms;
      goes_on = goes;
    }

pub returns-clause-counts : goal.returns-clause-counts
returns-clause-counts g c =
    let none : length c.loop-devices.devices.items ≡ 0 = search rules in
    boxes_counted _ c.args.march.now c.args.memory.now c.args.devices.now.items c.loop-devices.devices.items c.loop-devices.failing
    c.loop-devices.invariant.goes_on none
