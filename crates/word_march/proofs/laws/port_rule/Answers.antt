use Rattle.word_march.proofs.Ports.{met, agree, lasting}
use Rattle.word_march.proofs.laws.port_rule.Goals as goal

pub returns-clause-met : goal.returns-clause-met
returns-clause-met c = met

pub returns-clause-determined : goal.returns-clause-determined
returns-clause-determined c = agree

pub returns-clause-lasting : goal.returns-clause-lasting
returns-clause-lasting c = lasting
