use Rattle.std.proofs.Common.{◌≡◌, List, [], ◌∷◌, ◌++◌, map, refl, ap, ap₂, ◌∙◌}
use Rattle.std.proofs.lemmas.List.{map-append}
use Rattle.verilog_tree.specs.Plain.{plain_port}
use Rattle.chip_rtl.specs.Tops.{unit_ports}
use Rattle.chip_rtl.proofs.ports.ports.Goals as goal

two : {X : Type 0} {w x y z : X} {us vs : List X} → w ≡ x → y ≡ z → us ≡ vs → w ∷ y ∷ us ≡ x ∷ z ∷ vs
two e h g = ap₂ (λ a l. a ∷ l) e (ap₂ (λ b l. b ∷ l) h g)

pub returns : goal.returns
returns c =
    let units = unit_ports 0 c.args.memories.now in
    let ends = map plain_port (c.port-3.result ∷ c.port-4.result ∷ []) in
    ap (map plain_port) c.in_ok-extend_from_slice.ensures.items
    ∙ map-append plain_port c.push_units.new.ports.items (c.port-3.result ∷ c.port-4.result ∷ [])
    ∙ ap (λ l. l ++ ends) (c.in_ok-push_units.ensures ∙ ap (λ l. map plain_port l ++ units) c.in_ok-ports.ensures.items)
    ∙ two c.port.ensures c.port-2.ensures (ap (λ l. units ++ l) (two c.port-3.ensures c.port-4.ensures refl))
