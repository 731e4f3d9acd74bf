-- Public. The top of a collar: it places the interface, the self-test and the macro, and has wires and links alone.
use Rattle.std.specs.Prelude.{◌≡◌, true, None, ℕ, List, [], ◌∷◌, ◌++◌, map, codes}
use Rattle.verilog_tree.specs.declared.tree.Dir.TheVariants.{Input, Output}
use Rattle.verilog_tree.specs.Plain.{ModuleItem, WireItem, ModulePort, ModuleTree}
use Rattle.verilog_tree.specs.Formed.{formed}
use Rattle.verilog_tree.specs.Rules.{first_break}
use Rattle.memory_desc.specs.Descriptions.{Description}
use Rattle.self_test.specs.SelfTest.{module_name}
use Rattle.chip_rtl.specs.ChipTree.{LinkTree, PlacedTree, TopTree}
use Rattle.macro_pins.specs.declared.pins.PinKind.{PinKind}
use Rattle.macro_pins.specs.declared.pins.PinKind.TheVariants.{Tie}
use Rattle.macro_pins.specs.declared.pins.Output.{Output as MacroOutput}
use Rattle.macro_pins.specs.declared.pins.Macro.{Macro}
use Rattle.macro_pins.specs.Pins.{PinTree, Pins, pins_of}
use Rattle.collar_rtl.specs.Interface.{at_pin, port, functional_port, interface}
use Rattle.collar_top.specs.Links.{all_differ, all_once}

-- a macro with what it has beside the port: further outputs for the chip, and further inputs that hang on the clock
pub record Placing : Type 0 where
  pub pins : Pins
  pub outputs : List ModulePort
  pub clocks : List (List ℕ)

abbrev pub plain_output : MacroOutput → ModulePort
plain_output o = port Output o.name.bytes o.width

abbrev pub placing_of : Macro → Placing
placing_of m = record { pins = pins_of m; outputs = map plain_output m.outputs.items; clocks = map (λ n. n.bytes) m.clocks.items }

-- ---- ports and wires

abbrev pub chip_ports : List PinTree → List ModulePort
chip_ports [] = []
chip_ports (p ∷ ps) = functional_port p.kind p ++ chip_ports ps

abbrev pub top_ports : Placing → ℕ → List ModulePort
top_ports m b =
    port Input (codes "clk") 1 ∷ port Input (codes "test") 1 ∷ port Output (codes "done") 1 ∷ port Output (codes "fail") 1
    ∷ (chip_ports m.pins.inputs ++ (port Output m.pins.rdata b ∷ m.outputs))

abbrev pub pin_wires : List PinTree → List ModuleItem
pin_wires [] = []
pin_wires (p ∷ ps) = WireItem (at_pin p.name) p.width ∷ pin_wires ps

abbrev pub top_wires : Pins → ℕ → ℕ → List ModuleItem
top_wires p b a =
    WireItem (codes "bist_reset") 1 ∷ WireItem (codes "bist_en") 1 ∷ WireItem (codes "bist_we") 1 ∷ WireItem (codes "bist_addr") a
    ∷ WireItem (codes "bist_wdata") b ∷ WireItem (codes "bist_rdata") b ∷ (pin_wires p.inputs ++ WireItem (at_pin p.rdata) b ∷ [])

-- ---- links

abbrev pub link : List ℕ → List ℕ → LinkTree
link p n = record { port = p; net = n }

abbrev pub same : List ℕ → LinkTree
same n = link n n

abbrev pub self_test_links : List LinkTree
self_test_links =
    same (codes "clk") ∷ link (codes "reset") (codes "bist_reset") ∷ link (codes "rdata") (codes "bist_rdata")
    ∷ link (codes "en") (codes "bist_en") ∷ link (codes "we") (codes "bist_we") ∷ link (codes "addr") (codes "bist_addr")
    ∷ link (codes "wdata") (codes "bist_wdata") ∷ same (codes "done") ∷ same (codes "fail") ∷ []

abbrev pub functional_link : PinKind → PinTree → List LinkTree
functional_link Tie p = []
functional_link kind p = same p.name ∷ []

abbrev pub pin_links : List PinTree → List LinkTree
pin_links [] = []
pin_links (p ∷ ps) = functional_link p.kind p ++ (same (at_pin p.name) ∷ pin_links ps)

-- each port to the net of its name
abbrev pub interface_links : Pins → List LinkTree
interface_links p =
    same (codes "clk") ∷ same (codes "test") ∷ same (codes "bist_en") ∷ same (codes "bist_we") ∷ same (codes "bist_addr")
    ∷ same (codes "bist_wdata") ∷ same (codes "bist_rdata") ∷ same (codes "bist_reset")
    ∷ (pin_links p.inputs ++ same (at_pin p.rdata) ∷ same p.rdata ∷ [])

abbrev pub to_interface : List ℕ → LinkTree
to_interface n = link n (at_pin n)

abbrev pub to_clock : List ℕ → LinkTree
to_clock n = link n (codes "clk")

abbrev pub macro_links : Placing → List LinkTree
macro_links m =
    to_clock m.pins.clk
    ∷ (map (λ p. to_interface p.name) m.pins.inputs ++ (to_interface m.pins.rdata ∷ (map (λ o. same o.name) m.outputs ++ map to_clock m.clocks)))

-- ---- the top

abbrev pub interface_name : List ℕ → List ℕ
interface_name name = name ++ codes "_interface"

abbrev pub placed_three : Placing → Description → List PlacedTree
placed_three m d =
    record { unit = interface_name d.name; name = codes "pins"; links = interface_links m.pins }
    ∷ record { unit = module_name d.name; name = codes "self_test"; links = self_test_links }
    ∷ record { unit = m.pins.name; name = codes "memory"; links = macro_links m } ∷ []

-- its ports and wires as a module, and the top that places these in it
abbrev pub frame_of : Placing → Description → ModuleTree
frame_of m d = record { name = d.name ++ codes "_collar"; ports = top_ports m d.bits; items = top_wires m.pins d.bits d.scramble.width }

abbrev pub top_with : ModuleTree → List PlacedTree → TopTree
top_with frame placed = record { name = frame.name; ports = frame.ports; items = frame.items; placed = placed }

abbrev pub collar_top_of : Placing → Description → TopTree
collar_top_of m d = top_with (frame_of m d) (placed_three m d)

-- the interface breaks no rule and can be written, and the top has no two ports or wires of one name and links no port twice
pub record IsLegal (m : Placing) (d : Description) : Type 0 where
  pub sized : formed (interface (interface_name d.name) m.pins d.bits d.scramble.width) ≡ true
  pub lawful : first_break (interface (interface_name d.name) m.pins d.bits d.scramble.width) ≡ None
  pub named : all_differ (top_ports m d.bits) (top_wires m.pins d.bits d.scramble.width) ≡ true
  pub linked : all_once (placed_three m d) ≡ true
