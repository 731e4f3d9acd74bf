use Rattle.std.proofs.Common.{◌≡◌, ◌∙◌, ◌-◌, length, take, true, false}
use Rattle.verilog_read.specs.inner.Ends.{ends_choice}
use Rattle.verilog_read.specs.inner.Frames.{alone_of}
use Rattle.verilog_read.specs.inner.Holding.{nests_of}
use Rattle.verilog_read.proofs.Ends.{innermost_takes, others_take, none_takes, take_fewer}
use Rattle.verilog_read.proofs.takes.nests_take.Goals as goal

pub returns-then-not-ends_choice : goal.returns-then-not-ends_choice
returns-then-not-ends_choice c =
    let ns = c.loop-rest.rest.now in
    let b = alone_of c.args.outer.now in
    let n = c.innermost-item.result in
    let e : ends_choice n ≡ false = cc in
    innermost_takes ns n b c.args.mark c.nest_takes.result c.in-len1-up.len_at_least c.innermost-item.is (c.nest_takes.ensures (nests_of (take (length ns - 1) ns) b) e) ∙ c.loop-rest.invariant.1

pub loop-rest-preserved : goal.loop-rest-preserved
loop-rest-preserved c =
    let ns = c.loop-rest.rest.now in
    let b = alone_of c.args.outer.now in
    let n = c.innermost-item.result in
    let e : ends_choice n ≡ true = cc in
    (take_fewer ns (length c.args.nests.now) c.loop-rest.invariant.0, others_take ns n b c.args.mark c.in-len1-up.len_at_least c.innermost-item.is e ∙ c.loop-rest.invariant.1)

pub returns : goal.returns
returns c = none_takes c.loop-rest.rest.now (alone_of c.args.outer.now) c.args.mark c.base_takes.result c.in_default.len_below c.base_takes.ensures ∙ c.loop-rest.invariant.1
