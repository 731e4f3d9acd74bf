use Rattle.std.proofs.Common.{◌∙◌, refl}
use Rattle.bist_endings.specs.Ending.{write_failed_line}
use Rattle.bist_endings.proofs.Said.{nothing_said, text_said}
use Rattle.bist_endings.proofs.concluding.end_failed_write.Goals as goal

pub returns-in-Ok-clause-said : goal.returns-in-Ok-clause-said
returns-in-Ok-clause-said g c =
    text_said (g.H.Host.state c.args.host.now) (g.H.Host.state c.say_line.new.host) c.deref.result.now (write_failed_line c.args.position) c.say_line.result
    (c.deref.ensures.value ∙ c.in-Ok.ensures) c.say_line.ensures.answer

pub returns-in_default-clause-said : goal.returns-in_default-clause-said
returns-in_default-clause-said g c =
    let said = (g.H.Host.state c.args.host.now).said in
    nothing_said said said (write_failed_line c.args.position) refl
