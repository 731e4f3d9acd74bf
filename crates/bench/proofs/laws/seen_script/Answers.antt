use Rattle.std.proofs.Common.{arith}
use Rattle.bench.proofs.Histories.{script}
use Rattle.bench.proofs.laws.seen_script.Goals as goal

pub returns : goal.returns
returns c =
    let count = c.span.ensures.count in
    let most = c.span.ensures.at_most in
    script c.args.march.now c.args.memory.now c.known.ensures c.known-2.ensures (omega (arith, count, most))
