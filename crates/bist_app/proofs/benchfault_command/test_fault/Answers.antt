use Rattle.bist_app.proofs.Common.{◌<◌, Ok, length, subst, FitsAggressor}
use Rattle.bist_app.proofs.Caught.{planted_wrong}
use Rattle.bist_app.proofs.Faulted.{fault_benched, plants}
use Rattle.bist_app.proofs.benchfault_command.test_fault.Goals as goal

pub returns-clause-answer : goal.returns-clause-answer
returns-clause-answer g c =
    let items = c.args.devices.now.items in
    let given = subst (λ b. FitsAggressor b c.args.prim.now (Ok tt)) c.is_some.ensures c.in_ok-fit_aggressor.ensures.answer in
    let some = subst (λ l. 0 < length l) c.deref.ensures.value c.in_ok-want_box.ensures.some in
    let wrong =
    planted_wrong c.args.march.now c.args.memory.now c.planted_for-planted.result c.known.ensures c.known-2.ensures c.planted_for-planted.ensures.fits.0 c.closing.ensures
    c.planted_fails.ensures.alone in
    let leaves =
    fault_benched _ items c.args.march.now c.args.memory.now c.planted_for-planted.result c.test_beside.result some wrong
    c.test_beside.ensures.wants c.test_beside.ensures.benched in
    let run =
    plants _ items _ _ _ c.args.march.now c.args.memory.now c.args.prim.now c.args.shape c.planted_for-planted.result c.test_beside.result
    c.deref.ensures.value c.deref-2.ensures.value c.in_ok-want_box.ensures.answer c.in_ok-fit_places.ensures.answer c.in_ok-fit_room.ensures.answer
    c.planted_for-planted.ensures.value leaves c.test_beside.ensures.left in
    (Ok tt, given, (Ok tt, c.in_ok-fit_length.ensures.answer, run))
