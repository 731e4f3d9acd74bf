use Rattle.bist_endings.proofs.Writes.{writes_more}
use Rattle.bist_endings.proofs.concluding.+write_outputs.Goals as goal

pub returns-in-Ok-clause-answer : goal.returns-in-Ok-clause-answer
returns-in-Ok-clause-answer g t c =
    writes_more c.args.words.now c.args.outputs.now c.first-item.result _ c.deref.result.now
    (g.H.Host.state c.args.host.now).files (g.H.Host.state c.write_file.new.self).files (g.H.Host.state c.write_outputs.new.host).files c.write_outputs.result
    c.in-len1-up.len_at_least c.first-item.is c.requires c.deref.ensures.value c.in-Ok.ensures.answer c.write_outputs.ensures.answer
