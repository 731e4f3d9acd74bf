use Rattle.bist_app.proofs.Deciding.{decided_and_ended}
use Rattle.bist_app.proofs.top.decide_and_end.Goals as goal

pub returns-clause-answer : goal.returns-clause-answer
returns-clause-answer g c =
    decided_and_ended c.args.words.now _ _ (g.H.Host.state c.args.host.now) (g.H.Host.state c.decide-outcome.new.host) (g.H.Host.state c.conclude.new.host) c.decide-outcome.result
    c.conclude.result.status c.decide-outcome.ensures.kept c.decide-outcome.ensures.answer c.decide-outcome.ensures.cause c.conclude.ensures.reads c.conclude.ensures.answer
