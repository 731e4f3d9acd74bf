use Rattle.std.proofs.Common.{sym, ap, ◌∙◌, map}
use Rattle.indexmap.proofs.CallerLemmas.{insert_entry-new}
use Rattle.verilog_tree.specs.Seen.{declaration}
use Rattle.verilog_tree.specs.inner.Tables.{same_name}
use Rattle.verilog_tree.specs.Tables.{with_declared}
use Rattle.verilog_tree.proofs.Hashed.{declares, table_none, declared_already, declared_last, on_ok, ok_now, err_now}
use Rattle.verilog_tree.proofs.tables.Declarations.add.Goals.{in-Ok, in-Err}
use Rattle.verilog_tree.proofs.tables.Declarations.add.Goals as goal

pub returns-then-contains_key : goal.returns-then-contains_key
returns-then-contains_key c =
    let d = declaration c.args.declared in
    sym c.self.view_is
    ∙ declared_already c.self.inside.forms.entries d (sym c.contains_key.ensures ∙ c.if-contains_key.true)
    ∙ ap (λ l. with_declared l d) c.self.view_is

pub returns : goal.returns
returns c =
    let d = declaration c.args.declared in
    let es = c.self.inside.forms.entries in
    let absent = sym c.contains_key.ensures ∙ c.if-contains_key.false in
    elim c.match-insert.branch [
      | in-Ok w ↦ ok_now c.match-insert.result _ _ w.result-is (
          ap (map declares) (on_ok c.insert.result _ _ w.in-Ok.is c.insert.ensures.entries ∙ insert_entry-new same_name c.self.inside.forms c.args.declared.name _ (table_none es d.name absent))
          ∙ declared_last es c.args.declared.name _ absent
          ∙ ap (λ l. with_declared l d) c.self.view_is)
      | in-Err w ↦ err_now c.match-insert.result _ _ w.result-is
    ]
