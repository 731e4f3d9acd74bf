use Rattle.bist_app.proofs.Common.{◌≡◌, ◌+◌, arith, test_length}
use Rattle.chip_rtl.specs.ChipTest.{TestUnit}
use Rattle.bist_app.proofs.ReadUnits.{pushed}
use Rattle.bist_app.proofs.units.push_unit.Goals as goal

pub returns : goal.returns
returns c = λ us h.
    let unit : TestUnit = record { march = c.args.march; memory = c.args.memory; weight = c.args.weight } in
    let count = c.span.ensures.count in
    let most = c.span.ensures.at_most in
    let from = c.from.ensures in
    let latency = c.latency.ensures.value in
    let high = c.latency.ensures.memory.latency_high in
    let is : c.span.result + 1 + c.from.result ≡ test_length unit = cc in
    pushed c.args.table.now _ us unit (c.span.result + 1 + c.from.result) h
    c.in_ok-push.ensures.items c.in_ok-push-2.ensures.items c.push-3.ensures.items c.push-4.ensures.items is (omega arith) (omega (arith, most, from, latency, high))
