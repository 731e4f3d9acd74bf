use Rattle.std.proofs.Common.{ap, ◌∙◌}
use Rattle.bist_text.specs.ReservedWords.{is_among}
use Rattle.verilog_tree.proofs.Hashed.{set_has}
use Rattle.verilog_tree.proofs.tables.NameSet.contains.Goals as goal

pub returns : goal.returns
returns c =
    let n = c.args.name.now.bytes in
    c.contains.ensures ∙ set_has c.self.inside.names.keys n ∙ ap (is_among n) c.self.view_is
