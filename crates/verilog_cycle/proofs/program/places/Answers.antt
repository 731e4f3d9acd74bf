use Rattle.std.proofs.Common.{◌≡◌, ℕ, List, ◌++◌, IfOk, map, ap, ◌∙◌, subst}
use Rattle.std.proofs.lemmas.List.{map-append}
use Rattle.arrayvec.specs.ArrayString.{ArrayString}
use Rattle.verilog_tree.specs.Seen.{declaration}
use Rattle.verilog_cycle.specs.Design.{names}
use Rattle.verilog_cycle.specs.Seen.{plain_names}
use Rattle.verilog_cycle.proofs.program.places.Goals as goal

pub returns-in-Ok : goal.returns-in-Ok
returns-in-Ok c =
    let rs = names (map declaration c.args.registers.now) in
    let is = names (map declaration c.args.inputs.now) in
    let ns = plain_names c.args.nets.now in
    subst (λ (l : List (List ℕ)). IfOk c.new.result (λ (all : List (List ℕ)). all ≡ l))
    (ap plain_names c.in-Ok.ensures.items ∙ map-append (λ (n : ArrayString). n.bytes) c.push_names_of-2.new.list.items c.args.nets.now
    ∙ ap (λ l. l ++ ns) (c.in_ok-push_names_of-2.ensures ∙ ap (λ l. l ++ is) (c.in_ok-push_names_of.ensures ∙ ap (λ l. plain_names l ++ rs) c.new-all.ensures.items)))
    c.new.ensures
