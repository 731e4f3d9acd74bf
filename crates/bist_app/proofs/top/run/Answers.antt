use Rattle.bist_app.proofs.Complete.{complete_told}
use Rattle.bist_app.proofs.Statuses.{usage_has_no_shape, no_shape_ends, read_fault_rose, write_fault_rose, silent_rose}
use Rattle.bist_app.proofs.Conformance.{leaves_conformance}
use Rattle.bist_app.proofs.Headline.{leaves_compilation}
use Rattle.bist_app.proofs.OneAnswer.{one_answer, same_files}
use Rattle.bist_app.proofs.TestedChip.{leaves_tested_chip}
use Rattle.bist_app.proofs.top.run.Goals as goal

pub returns-clause-usage : goal.returns-clause-usage
returns-clause-usage g c = usage_has_no_shape _ _ _ _ _ _ c.decide_and_end.ensures.answer

pub returns-clause-no_shape : goal.returns-clause-no_shape
returns-clause-no_shape g c = no_shape_ends _ _ _ _ _ _ c.decide_and_end.ensures.answer

pub returns-clause-one_files : goal.returns-clause-one_files
returns-clause-one_files g c = same_files (g.H.Host.state c.args.host.now).files _ c.args.words.now

pub returns-clause-compilation : goal.returns-clause-compilation
returns-clause-compilation g c =
    leaves_compilation c.args.words.now _ _ (g.H.Host.state c.args.host.now) (g.H.Host.state c.decide_and_end.new.host)
    c.decide_and_end.result.status c.decide_and_end.ensures.answer

pub returns-clause-conformance : goal.returns-clause-conformance
returns-clause-conformance g c =
    leaves_conformance c.args.words.now _ _ (g.H.Host.state c.args.host.now) (g.H.Host.state c.decide_and_end.new.host)
    c.decide_and_end.result.status c.decide_and_end.ensures.answer

pub returns-clause-tested_chip : goal.returns-clause-tested_chip
returns-clause-tested_chip g c =
    leaves_tested_chip c.args.words.now _ _ (g.H.Host.state c.args.host.now) (g.H.Host.state c.decide_and_end.new.host)
    c.decide_and_end.result.status c.decide_and_end.ensures.answer

pub returns-clause-complete : goal.returns-clause-complete
returns-clause-complete g c = complete_told _ _ _ _ _ _ c.decide_and_end.ensures.answer

pub returns-clause-one_answer : goal.returns-clause-one_answer
returns-clause-one_answer g c = one_answer (g.H.Host.state c.args.host.now).files _ c.args.words.now

pub returns-clause-read_fault : goal.returns-clause-read_fault
returns-clause-read_fault g c = read_fault_rose _ _ _ _ _ _ c.decide_and_end.ensures.answer

pub returns-clause-write_fault : goal.returns-clause-write_fault
returns-clause-write_fault g c = write_fault_rose _ _ _ _ _ _ c.decide_and_end.ensures.answer

pub returns-clause-not_told : goal.returns-clause-not_told
returns-clause-not_told g c = silent_rose _ _ _ _ _ _ c.decide_and_end.ensures.answer
