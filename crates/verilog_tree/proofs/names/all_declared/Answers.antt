use Rattle.std.proofs.Common.{[], ◌∷◌, ◌++◌, map, refl, ap, ◌∙◌}
use Rattle.verilog_tree.specs.declared.tree.Port.{Port}
use Rattle.verilog_tree.specs.Plain.{plain_port}
use Rattle.verilog_tree.specs.Names.{port_declarations}
use Rattle.verilog_tree.specs.Seen.{declaration}
use Rattle.verilog_tree.proofs.Appended.{item_more}
use Rattle.verilog_tree.proofs.names.all_declared.Goals as goal

pub loop-port-preserved : goal.loop-port-preserved
loop-port-preserved c =
    item_more (λ (p : Port). port_declarations (plain_port p ∷ [])) (λ ps. port_declarations (map plain_port ps)) (map declaration c.loop-port.all.items) (map declaration c.push.new.all.items) _ _ c.loop-port.port-index c.port-item.result (λ y ys. refl)
    c.loop-port-test.true c.port-item.is
    (c.in_ok-push.ensures ∙ ap (λ d. map declaration c.loop-port.all.items ++ d ∷ []) c.declared_port.ensures)
    c.loop-port.invariant
