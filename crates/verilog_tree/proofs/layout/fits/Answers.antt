use Rattle.std.proofs.Common.{◌≡◌, ◌+◌, Bool, true, false, ◌&&◌, map, drop, refl, ap, sym, ◌∙◌}
use Rattle.std.proofs.lemmas.List.{at_drop_all}
use Rattle.verilog_tree.specs.Plain.{plain_item, plain_port, plain_module}
use Rattle.verilog_tree.specs.Words.{is_name}
use Rattle.verilog_tree.specs.Formed.{formed}
use Rattle.verilog_tree.specs.Fits.{items_fit, ports_fit}
use Rattle.verilog_tree.proofs.InOrder.{at_item}
use Rattle.verilog_tree.proofs.layout.fits.Goals.{then-not-formed-via-then-not-formed, then-not-formed-via-else-not-formed+then-not-is_name}
use Rattle.verilog_tree.proofs.layout.fits.Goals as goal

-- the four tests, one behind another
not_first : (t u v s : Bool) → t ≡ false → false ≡ (t && u && v && s)
not_first t u v s p = rw p refl

not_second : (t u v s : Bool) → t ≡ true → u ≡ false → false ≡ (t && u && v && s)
not_second t u v s p q = rw (p, q) refl

first_two : (t u v s : Bool) → true ≡ t → true ≡ u → (v && s) ≡ (t && u && v && s)
first_two t u v s p q = rw (sym p, sym q) refl

pub returns-then-not-formed : goal.returns-then-not-formed
returns-then-not-formed c =
    let mo = plain_module c.args.module.now in
    elim c.then-not-formed.branch [
      | then-not-formed-via-then-not-formed w ↦ not_first (formed mo) (is_name mo.name) (ports_fit mo.ports) (items_fit 64 mo.items) (sym c.formed.ensures ∙ w.if-not-formed.true)
      | then-not-formed-via-else-not-formed+then-not-is_name w ↦ not_second (formed mo) (is_name mo.name) (ports_fit mo.ports) (items_fit 64 mo.items) (sym c.formed.ensures ∙ w.if-not-formed.false) (sym w.is_name.ensures ∙ w.if-not-is_name.true)
    ]

pub loop-port-init : goal.loop-port-init
loop-port-init c = refl

pub returns-then-not-is_name-2 : goal.returns-then-not-is_name-2
returns-then-not-is_name-2 c =
    let mo = plain_module c.args.module.now in
    let ports = c.deref-port-items.result.now in
    ap (λ t. t && items_fit 64 mo.items)
    (ap (λ t. t && ports_fit (map plain_port (drop (c.loop-port.port-index + 1) ports))) c.if-not-is_name-2.ensures
    ∙ sym (at_item (λ ps. ports_fit (map plain_port ps)) ports c.loop-port.port-index c.port-item.result c.loop-port-test.true c.port-item.is)
    ∙ c.loop-port.invariant
    ∙ ap (λ l. ports_fit (map plain_port l)) c.deref-port-items.ensures.value)
    ∙ first_two (formed mo) (is_name mo.name) (ports_fit mo.ports) (items_fit 64 mo.items) c.if-not-formed.ensures c.if-not-is_name.ensures

pub loop-port-preserved : goal.loop-port-preserved
loop-port-preserved c =
    let ports = c.deref-port-items.result.now in
    ap (λ t. t && ports_fit (map plain_port (drop (c.loop-port.port-index + 1) ports))) c.if-not-is_name-2.ensures
    ∙ sym (at_item (λ ps. ports_fit (map plain_port ps)) ports c.loop-port.port-index c.port-item.result c.loop-port-test.true c.port-item.is)
    ∙ c.loop-port.invariant

pub returns : goal.returns
returns c =
    let mo = plain_module c.args.module.now in
    let ports = c.deref-port-items.result.now in
    c.items_fit.ensures
    ∙ ap (λ l. items_fit 64 (map plain_item l)) c.deref.ensures.value
    ∙ ap (λ t. t && items_fit 64 mo.items) (sym (at_drop_all (λ ps. ports_fit (map plain_port ps)) ports c.loop-port.port-index c.loop-port-test.false) ∙ c.loop-port.invariant ∙ ap (λ l. ports_fit (map plain_port l)) c.deref-port-items.ensures.value)
    ∙ first_two (formed mo) (is_name mo.name) (ports_fit mo.ports) (items_fit 64 mo.items) c.if-not-formed.ensures c.if-not-is_name.ensures
