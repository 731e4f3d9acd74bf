use Rattle.std.proofs.Common.{◌∙◌}
use Rattle.bist_app.proofs.Making.{made_from}
use Rattle.bist_app.proofs.make.made.Goals as goal

pub returns : goal.returns
returns c =
    made_from c.args.number c.in_ok-memory.memory c.march_of-march.result c.deref-2.result.now c.in_ok-listed.listed.items c.made_of.result
    c.march_of-march.ensures (c.deref-2.ensures.value ∙ c.in_ok-items.ensures.value) c.in_ok-listed.ensures.form c.in_ok-memory.ensures c.made_of.ensures
