-- Public. What a collar's top connects.
use Rattle.std.specs.Prelude.{◌≡◌, ℕ, true, false, Option, Some, List, [], ◌∷◌, ◌++◌, map, codes}
use Rattle.march_core.specs.March.{MarchElement}
use Rattle.memory_desc.specs.Descriptions.{Description}
use Rattle.verilog_tree.specs.declared.tree.Dir.TheVariants.{Input, Output}
use Rattle.verilog_tree.specs.Plain.{ModulePort, ModuleTree}
use Rattle.verilog_tree.specs.Meaning.{Env, Settles, next}
use Rattle.self_test.specs.WrongPort.{is_input}
use Rattle.self_test.specs.SelfTest.{SelfTest}
use Rattle.word_device.specs.declared.device.Planted.{Planted}
use Rattle.word_device.specs.Ports.{shape_of}
use Rattle.word_device.specs.Memories.{Behaviour, words_with}
use Rattle.word_device.specs.Answers.{IsWhole}
use Rattle.linked_faults.specs.declared.link.Link.{Link}
use Rattle.decoder_faults.specs.Decoding.{Decoder}
use Rattle.dynamic_core.specs.Primitive.{DynamicPrimitive}
use Rattle.word_faults.specs.Linked.{Bits, linked as linked_at}
use Rattle.word_faults.specs.Decoders.{decoded}
use Rattle.word_faults.specs.Dynamic.{DynPlaces, dynamic}
use Rattle.word_coupling.specs.declared.reading.Reading.{Reading}
use Rattle.word_coupling.specs.Memories.{read_by}
use Rattle.chip_rtl.specs.ChipTree.{LinkTree, PlacedTree}
use Rattle.chip_rtl.specs.Together.{net_of}
use Rattle.macro_pins.specs.Pins.{PinTree}
use Rattle.macro_pins.specs.Macros.{Values, Held, MacroCycle}
use Rattle.collar_rtl.specs.Interface.{test, at_pin, port, interface}
use Rattle.collar_top.specs.Links.{all_once}
use Rattle.collar_top.specs.CollarTops.{Placing, placed_three, interface_name, collar_top_of}
use Rattle.collar_test.specs.CollarTest.{Among, is_tied, Cycle, Linked, Kept, memory_of, IsKind, HasSize, HasHeldSize, AreRun}

-- A placed module: each of its inputs has the value of the net that it is linked to, and each net that an output is linked to has that of the
-- output.
pub record IsPlaced (links : List LinkTree) (ports : List ModulePort) (nets inputs values : Env) : Type 0 where
  pub given : (q : ModulePort) → Among q ports → is_input q.dir ≡ true → inputs q.name ≡ nets (net_of links q.name)
  pub drives : (q : ModulePort) → Among q ports → is_input q.dir ≡ false → nets (net_of links q.name) ≡ values q.name

-- the ports of a macro
abbrev pub pin_port : PinTree → ModulePort
pin_port q = port Input q.name q.width

abbrev pub clock_port : List ℕ → ModulePort
clock_port n = port Input n 1

abbrev pub macro_ports : Placing → ℕ → List ModulePort
macro_ports m b =
    clock_port m.pins.clk
    ∷ (map pin_port m.pins.inputs ++ (port Output m.pins.rdata b ∷ (m.outputs ++ map clock_port m.clocks)))

-- The interface, the self-test and the macro are placed so, in this order, with these nets.
abbrev pub ArePlaced : List PlacedTree → Placing → Description → (mo col : ModuleTree) → (nets : Env) → Cycle → (test_inputs pin_inputs : Env) → Values → Type 0
ArePlaced (i ∷ t ∷ m ∷ []) w d mo col nets c test_inputs pin_inputs macro =
    IsPlaced i.links col.ports nets pin_inputs c.pins × IsPlaced t.links mo.ports nets test_inputs c.own
    × IsPlaced m.links (macro_ports w d.bits) nets macro macro
ArePlaced other w d mo col nets c test_inputs pin_inputs macro = ⊥

-- what these nets connect
pub record Connects (w : Placing) (nets : Env) (c : Cycle) (test_inputs pin_inputs : Env) (macro : Values) : Type 0 where
  -- the self-test and the interface
  pub linked : Linked test_inputs pin_inputs c
  -- each pin of the macro has the value of the interface's output for it, and the interface is given the macro's word
  pub pins : (q : PinTree) → Among q w.pins.inputs → macro q.name ≡ c.pins (at_pin q.name)
  pub word : macro w.pins.rdata ≡ c.pins (at_pin w.pins.rdata)
  -- the chip drives the functional port and `test`, and reads the word and the outcome
  pub driven : (q : PinTree) → Among q w.pins.inputs → (is_tied q.kind → ⊥) → pin_inputs q.name ≡ nets q.name
  pub tested : c.pins test ≡ nets test
  pub read : nets w.pins.rdata ≡ c.pins w.pins.rdata
  pub done : nets (codes "done") ≡ c.own (codes "done")
  pub fail : nets (codes "fail") ≡ c.own (codes "fail")

-- and the clock goes to each clock
pub record IsClocked (links : List LinkTree) (names : List (List ℕ)) : Type 0 where
  pub clocked : (n : List ℕ) → Among n names → net_of links n ≡ codes "clk"

abbrev pub AreClocked : List PlacedTree → Placing → Type 0
AreClocked (i ∷ t ∷ m ∷ []) w = IsClocked i.links (codes "clk" ∷ []) × IsClocked t.links (codes "clk" ∷ []) × IsClocked m.links (w.pins.clk ∷ w.clocks)
AreClocked other w = ⊥

-- The top of a collar connects equal names, each pin of the macro to the interface, and the clock to each clock.
abbrev pub TopConnects : Type 0
TopConnects =
    (mo : ModuleTree) (march : List MarchElement) (d : Description) (w : Placing) → SelfTest mo march d → all_once (placed_three w d) ≡ true
    → AreClocked (collar_top_of w d).placed w
    × ((nets own pins test_inputs pin_inputs macro : Env) (c : Cycle)
    → Settles mo own test_inputs c.own → Settles (interface (interface_name d.name) w.pins d.bits d.scramble.width) pins pin_inputs c.pins
    → ArePlaced (collar_top_of w d).placed w d mo (interface (interface_name d.name) w.pins d.bits d.scramble.width) nets c test_inputs pin_inputs macro
    → Connects w nets c test_inputs pin_inputs macro)

-- ---- histories of the top

-- a cycle of the modules, the nets of the top, and the values at the macro
pub record TopCycle : Type 0 where
  pub cycle : Cycle
  pub nets : Env
  pub macro : Values

module _ {S : Type 0} (b : Behaviour S) (Good : S → Type 0) (mo : ModuleTree) (march : List MarchElement) (d : Description) (w : Placing) where
  -- cycles of the modules that the top places, one after another, with a macro of this behaviour
  abbrev pub AreInTop : Env → Env → Held (Kept S) → List TopCycle → Type 0
  AreInTop own pins h [] = Unit {0}
  AreInTop own pins h (c ∷ cs) =
      (test_inputs : Env) × (pin_inputs : Env) × (left : Held (Kept S)) × Settles mo own test_inputs c.cycle.own
      × Settles (interface (interface_name d.name) w.pins d.bits d.scramble.width) pins pin_inputs c.cycle.pins
      × ArePlaced (collar_top_of w d).placed w d mo (interface (interface_name d.name) w.pins d.bits d.scramble.width) c.nets c.cycle test_inputs pin_inputs c.macro
      × MacroCycle (memory_of b (shape_of d)) (IsKind Good) w.pins c.macro h left
      × AreInTop (next mo c.cycle.own) (next (interface (interface_name d.name) w.pins d.bits d.scramble.width) c.cycle.pins) left cs

  -- they are cycles of a self-test behind its interface: so all that is proved of those holds of them
  abbrev pub RunsInTop : Type 0
  RunsInTop =
      (own pins : Env) (h : Held (Kept S)) (cs : List TopCycle) → AreInTop own pins h cs
      → AreRun b Good mo march d w.pins (interface_name d.name) own pins h (map (λ c. c.cycle) cs)

-- in front of each memory that is told
pub record TopRuns (mo : ModuleTree) (march : List MarchElement) (d : Description) (w : Placing) : Type 0 where
  pub words : (planted : Option Planted) → RunsInTop (words_with planted) (IsWhole d planted) mo march d w
  pub links : (link : Link) (at : Bits) → RunsInTop (linked_at link at) (HasSize d) mo march d w
  pub decoders : (decoder : Decoder) (read : ℕ → List ℕ → ℕ) → RunsInTop (decoded decoder read) (HasSize d) mo march d w
  pub dynamics : (prim : DynamicPrimitive) (at : DynPlaces) → RunsInTop (dynamic prim at) (HasHeldSize d) mo march d w
  pub in_words : (reading : Reading) (i : Planted) → RunsInTop (read_by reading i) (IsWhole d (Some i)) mo march d w

abbrev pub TopShows : Type 0
TopShows =
    (mo : ModuleTree) (march : List MarchElement) (d : Description) (w : Placing) → SelfTest mo march d → all_once (placed_three w d) ≡ true
    → TopRuns mo march d w
