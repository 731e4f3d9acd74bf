use Rattle.std.proofs.Common.{ap, ◌∙◌, map}
use Rattle.verilog_tree.specs.Tables.{with_name}
use Rattle.verilog_tree.proofs.Hashed.{set_more, if_ok, ok_now, err_now}
use Rattle.verilog_tree.proofs.tables.NameSet.add.Goals.{in-Ok, in-Err}
use Rattle.verilog_tree.proofs.tables.NameSet.add.Goals as goal

pub returns : goal.returns
returns c =
    elim c.match-insert.branch [
      | in-Ok w ↦ ok_now c.match-insert.result _ _ w.result-is (
          ap (map (λ k. k.bytes)) (if_ok c.insert.result _ _ w.in-Ok.is c.insert.ensures.keys)
          ∙ set_more c.self.inside.names.keys c.args.name
          ∙ ap (λ l. with_name l c.args.name.bytes) c.self.view_is)
      | in-Err w ↦ err_now c.match-insert.result _ _ w.result-is
    ]
