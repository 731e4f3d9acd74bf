use Rattle.linked_faults.proofs.Alone.{as_one}
use Rattle.linked_faults.proofs.Both.{never_both}
use Rattle.linked_faults.proofs.Least.{judged}
use Rattle.linked_faults.proofs.Places.{have_spots}
use Rattle.linked_faults.proofs.escape.least_linked_escape.Goals as goal

pub returns-clause-verdict : goal.returns-clause-verdict
returns-clause-verdict c = (judged c.args.march.now c.args.link.now c.least_found.result c.known.ensures c.least_found.ensures).0

pub returns-clause-each_size : goal.returns-clause-each_size
returns-clause-each_size c = (judged c.args.march.now c.args.link.now c.least_found.result c.known.ensures c.least_found.ensures).1

pub returns-clause-one_acts : goal.returns-clause-one_acts
returns-clause-one_acts c = never_both c.args.link.now

pub returns-clause-as_one : goal.returns-clause-as_one
returns-clause-as_one c = as_one c.args.link.now

pub returns-clause-places : goal.returns-clause-places
returns-clause-places c = have_spots c.args.link.now
