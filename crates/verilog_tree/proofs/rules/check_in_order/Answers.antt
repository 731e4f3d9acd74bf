use Rattle.std.proofs.Common.{[], ◌++◌, map, ap, sym, ◌∙◌, rules}
use Rattle.verilog_tree.specs.Plain.{plain_item, plain_port, plain_module}
use Rattle.verilog_tree.specs.Names.{port_declarations}
use Rattle.verilog_tree.specs.Seen.{declaration}
use Rattle.verilog_tree.specs.Rules.{port_twice, port_clock}
use Rattle.verilog_tree.proofs.Behind.{module_breaks, driven_behind}
use Rattle.verilog_tree.proofs.Refusals.{tells_now, tells_later}
use Rattle.verilog_tree.proofs.rules.check_in_order.Goals as goal

pub returns-in_err-check_items : goal.returns-in_err-check_items
returns-in_err-check_items c =
    let ports = c.in_ok-add_ports_once.ensures.added ∙ ap (λ e. e ++ port_declarations (map plain_port c.deref.result.now)) c.requires.declared ∙ ap (λ l. port_declarations (map plain_port l)) c.deref.ensures.value in
    let twice = sym (ap (λ e. port_twice e (port_declarations (map plain_port c.deref.result.now))) c.requires.declared ∙ ap (λ l. port_twice [] (port_declarations (map plain_port l))) c.deref.ensures.value) ∙ c.in_ok-add_ports_once.ensures.refuses in
    let clock = sym (ap (λ l. port_clock (port_declarations (map plain_port l))) c.deref-2.ensures.value) ∙ c.in_ok-clk_is_input.ensures in
    let same = ap (map plain_item) c.deref-3.ensures.value in
    let e = module_breaks (plain_module c.args.module.now) (map plain_item c.deref-3.result.now) c.args.widths.now (map declaration c.args.declared.now) c.add_ports_once.new.all c.args.before.now.assigned c.args.before.now.set c.requires.named c.requires.listed ports c.requires.assigned c.requires.set same in
    search (rules, tells_now, tells_later)

pub returns : goal.returns
returns c =
    let mo = plain_module c.args.module.now in
    let given = map plain_item c.deref-3.result.now in
    let all = map declaration c.args.declared.now in
    let b = c.args.before.now in
    let ports = c.in_ok-add_ports_once.ensures.added ∙ ap (λ e. e ++ port_declarations (map plain_port c.deref.result.now)) c.requires.declared ∙ ap (λ l. port_declarations (map plain_port l)) c.deref.ensures.value in
    let same = ap (map plain_item) c.deref-3.ensures.value in
    driven_behind mo given all b.assigned c.check_items.new.before.assigned c.driven.result c.requires.assigned same c.in_ok-check_items.ensures.assigned c.requires.listed
    (sym (ap (λ e. port_twice e (port_declarations (map plain_port c.deref.result.now))) c.requires.declared ∙ ap (λ l. port_twice [] (port_declarations (map plain_port l))) c.deref.ensures.value) ∙ c.in_ok-add_ports_once.ensures.refuses)
    (sym (ap (λ l. port_clock (port_declarations (map plain_port l))) c.deref-2.ensures.value) ∙ c.in_ok-clk_is_input.ensures)
    (sym (module_breaks mo given c.args.widths.now all c.add_ports_once.new.all b.assigned b.set c.requires.named c.requires.listed ports c.requires.assigned c.requires.set same) ∙ c.in_ok-check_items.ensures.refuses)
    c.driven.ensures
