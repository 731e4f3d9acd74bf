use Rattle.bist_app.proofs.Common.{Some, subst}
use Rattle.port_check.specs.declared.answer.CheckFault.{CheckFault}
use Rattle.port_check.specs.Refusals.{Refuses}
use Rattle.bist_app.proofs.Checked.{too_long, wrong_ports, wanting}
use Rattle.bist_app.proofs.check_command.run_refusal.Goals as goal

pub returns-in-TooLong-clause-answer : goal.returns-in-TooLong-clause-answer
returns-in-TooLong-clause-answer c = λ mo march d h.
    too_long mo march d c.in-TooLong.cycles (subst (λ (f : CheckFault). Refuses march d mo.ports (Some f)) c.in-TooLong.is h)

pub returns-in-WrongPorts-clause-answer : goal.returns-in-WrongPorts-clause-answer
returns-in-WrongPorts-clause-answer c = λ mo march d h.
    wrong_ports mo march d c.in-WrongPorts.name (subst (λ (f : CheckFault). Refuses march d mo.ports (Some f)) c.in-WrongPorts.is h)

pub returns-in-NoMemory-clause-answer : goal.returns-in-NoMemory-clause-answer
returns-in-NoMemory-clause-answer c = λ mo march d h.
    wanting mo march d (subst (λ (f : CheckFault). Refuses march d mo.ports (Some f)) c.in-NoMemory.is h)
