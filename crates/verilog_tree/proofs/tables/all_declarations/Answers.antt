use Rattle.std.proofs.Common.{◌≡◌, ℕ, List, [], map, ap, ◌∙◌}
use Rattle.std.proofs.lemmas.Result.{IfOk-weaker}
use Rattle.verilog_tree.specs.Plain.{plain_module}
use Rattle.verilog_tree.specs.Names.{Declaration, declarations, lookup}
use Rattle.verilog_tree.specs.Seen.{declaration}
use Rattle.verilog_tree.specs.inner.Tables.{with_all}
use Rattle.verilog_tree.proofs.Behind.{all_found}
use Rattle.verilog_tree.proofs.tables.all_declarations.Goals as goal

pub returns : goal.returns
returns c =
    let mo = plain_module c.args.module.now in
    let ds = declarations mo.ports mo.items in
    let given = map declaration c.deref.result.now in
    IfOk-weaker c.by_name.result (λ (all : List Declaration). all ≡ with_all [] given) (λ (all : List Declaration). (n : List ℕ) → lookup all n ≡ lookup ds n)
    (λ all e n. ap (λ l. lookup l n) (e ∙ ap (with_all []) (ap (map declaration) c.deref.ensures.value ∙ c.in_ok-declared.ensures)) ∙ all_found [] ds n)
    c.by_name.ensures
