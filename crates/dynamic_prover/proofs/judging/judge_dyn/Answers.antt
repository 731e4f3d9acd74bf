use Rattle.std.proofs.Common.{arith}
use Rattle.dynamic_prover.proofs.Judged.{none_covered, escape_verdict, escape_at}
use Rattle.dynamic_prover.proofs.judging.judge_dyn.Goals as goal

pub returns-in-Some-clause-verdict : goal.returns-in-Some-clause-verdict
returns-in-Some-clause-verdict c = escape_verdict c.args.march.now c.args.prim.now c.in-Some.escape c.known.ensures c.in-Some.ensures

pub returns-in-Some-clause-each_size : goal.returns-in-Some-clause-each_size
returns-in-Some-clause-each_size c size more =
    escape_at c.args.march.now c.args.prim.now c.in-Some.escape c.known.ensures c.in-Some.ensures size more

pub returns-in-None-clause-verdict : goal.returns-in-None-clause-verdict
returns-in-None-clause-verdict c = none_covered c.args.march.now c.args.prim.now c.known.ensures c.in-None.ensures

pub returns-in-None-clause-each_size : goal.returns-in-None-clause-each_size
returns-in-None-clause-each_size c size more =
    none_covered c.args.march.now c.args.prim.now c.known.ensures c.in-None.ensures size (omega arith)
