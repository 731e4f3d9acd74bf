use Rattle.sequence_faults.proofs.Verdict.{judged, judged_at}
use Rattle.sequence_faults.proofs.escape.least_sequence_escape.Goals as goal

pub returns-clause-verdict : goal.returns-clause-verdict
returns-clause-verdict c = judged c.args.march.now c.args.prim.now c.known.ensures c.known-2.ensures c.least_found.result c.least_found.ensures

pub returns-clause-each_size : goal.returns-clause-each_size
returns-clause-each_size c = judged_at c.args.march.now c.args.prim.now c.known.ensures c.known-2.ensures c.least_found.result c.least_found.ensures
