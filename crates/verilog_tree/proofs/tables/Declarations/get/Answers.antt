use Rattle.std.proofs.Common.{option_map, sym, ap, ◌∙◌}
use Rattle.std.specs.Option.{option_copied}
use Rattle.verilog_tree.specs.Names.{lookup}
use Rattle.verilog_tree.proofs.Hashed.{named, table_lookup}
use Rattle.verilog_tree.proofs.tables.Declarations.get.Goals as goal

pub returns-in-Some : goal.returns-in-Some
returns-in-Some c =
    let n = c.args.name.now.bytes in
    ap (option_map (named n)) (ap option_copied (sym c.in-Some.is) ∙ c.get.ensures.value)
    ∙ sym (table_lookup c.self.inside.forms.entries n)
    ∙ ap (λ l. lookup l n) c.self.view_is

pub returns-in-None : goal.returns-in-None
returns-in-None c =
    let n = c.args.name.now.bytes in
    ap (option_map (named n)) (ap option_copied (sym c.in-None.is) ∙ c.get.ensures.value)
    ∙ sym (table_lookup c.self.inside.forms.entries n)
    ∙ ap (λ l. lookup l n) c.self.view_is
