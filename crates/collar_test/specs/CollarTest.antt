-- Public. A self-test behind its collar, in front of a macro: that it has cycles there, and how it ends, whenever `test` rises.
use Rattle.std.specs.Prelude.{◌≡◌, ◌⊎◌, ◌+◌, ◌%◌, ◌^◌, ◌≤◌, ℕ, suc, Bool, true, false, IsTrue, if◌then◌else◌, List, [], ◌∷◌, ◌++◌, Some, None, length, map, slice_get, codes}
use Rattle.std.specs.Str.{bytes_eq}
use Rattle.fault_core.specs.Primitive.{Primitive, IsPrimitive, is_retention}
use Rattle.march_core.specs.March.{MarchElement, IsMarch}
use Rattle.array_sim.specs.Detection.{Detects}
use Rattle.memory_desc.specs.Descriptions.{Description, IsMemory}
use Rattle.verilog_tree.specs.Plain.{ModuleTree}
use Rattle.verilog_tree.specs.Names.{is_clk}
use Rattle.verilog_tree.specs.Meaning.{Env, Settles, next}
use Rattle.verilog_tree.specs.Formed.{formed}
use Rattle.verilog_tree.specs.Rules.{first_break}
use Rattle.verilog_tree.specs.Wires.{Starts}
use Rattle.word_march.specs.Commands.{span, cycle_count}
use Rattle.word_march.specs.PortRule.{PortValues}
use Rattle.self_test.specs.Ports.{port_values}
use Rattle.self_test.specs.SelfTest.{SelfTest}
use Rattle.word_device.specs.declared.device.Planted.{Planted}
use Rattle.word_device.specs.declared.device.PortCmd.{PortCmd}
use Rattle.word_device.specs.declared.shape.Shape.{Shape}
use Rattle.word_device.specs.Chips.{FitsMemory}
use Rattle.word_device.specs.Ports.{shape_of, addressed, idle_more}
use Rattle.word_device.specs.Joint.{EndsFailing}
use Rattle.word_device.specs.Answers.{IsWhole}
use Rattle.word_device.specs.Memories.{Behaviour, acted_at, answer_at, rested, words_with}
use Rattle.linked_faults.specs.declared.link.Link.{Link}
use Rattle.linked_faults.specs.Linking.{IsLinked}
use Rattle.linked_faults.specs.Detection.{Detects as DetectsLink}
use Rattle.decoder_faults.specs.declared.fault.DecoderFault.{DecoderFault}
use Rattle.decoder_faults.specs.Decoding.{AddressPair, FitsPair, Decoder, HasFault}
use Rattle.decoder_faults.specs.Detection.{DetectsDecoder}
use Rattle.dynamic_core.specs.Primitive.{DynamicPrimitive, IsDynamic}
use Rattle.dynamic_core.specs.Detecting.{DetectsDyn}
use Rattle.word_faults.specs.Laws.{BeginsAfresh}
use Rattle.word_faults.specs.Linked.{Bits, FitsBits, linked}
use Rattle.word_faults.specs.Dynamic.{DynPlaces, FitsDynPlaces, HeldWords, dynamic}
use Rattle.word_faults.specs.Decoders.{decoded, ReadsSomeBit}
use Rattle.word_coupling.specs.declared.reading.Reading.{Reading}
use Rattle.word_coupling.specs.Words.{in_word, AreBits, DetectsBy}
use Rattle.word_coupling.specs.Memories.{read_by}
use Rattle.macro_pins.specs.declared.pins.PinKind.{PinKind}
use Rattle.macro_pins.specs.declared.pins.PinKind.TheVariants.{Tie}
use Rattle.macro_pins.specs.Pins.{PinTree, Pins, has_enable}
use Rattle.macro_pins.specs.Asked.{Asked, PinAsks, PinsAsk}
use Rattle.macro_pins.specs.Ports.{IsPort}
use Rattle.macro_pins.specs.Macros.{PortMemory, own as answer_of, Stands, due_after, Held, MacroCycle}
use Rattle.macro_pins.specs.Going.{IsHeld}
use Rattle.collar_rtl.specs.Interface.{test, at_pin, en_at, we_at, addr_at, wdata_at, interface}
use Rattle.collar_rtl.specs.Collared.{given_word, AllInTest, AllPass}

-- ---- a memory of a behaviour

-- its state, and the count of idle cycles
pub record Kept (S : Type 0) : Type 0 where
  pub state : S
  pub idle : ℕ

abbrev pub cmd_of : Asked → PortCmd
cmd_of a = record { en = a.en; we = a.we; addr = a.addr; wdata = a.wdata }

abbrev pub memory_of : {S : Type 0} → Behaviour S → Shape → PortMemory (Kept S)
memory_of b shape = record {
  after = λ s a. record {
    state = if a.en then acted_at b shape s.state (cmd_of a) (addressed shape a.addr) else rested b shape s.state s.idle;
    idle = if a.en then 0 else idle_more shape s.idle;
  };
  reply = λ s a. answer_at b shape s.state (cmd_of a) (addressed shape a.addr) % 2 ^ shape.bits;
}

abbrev pub IsKind : {S : Type 0} → (S → Type 0) → Kept S → Type 0
IsKind Good s = Good s.state

-- as many words as the memory has
abbrev pub HasSize : Description → List ℕ → Type 0
HasSize d words = length words ≡ d.words

-- ---- cycles

-- the environments of the self-test and of the interface
pub record Cycle : Type 0 where
  pub own : Env
  pub pins : Env

-- The top links the self-test and the interface by these nets.
pub record Linked (test_inputs pin_inputs : Env) (c : Cycle) : Type 0 where
  pub reset : test_inputs (codes "reset") ≡ c.pins (codes "bist_reset")
  pub rdata : test_inputs (codes "rdata") ≡ given_word c.pins
  pub en : pin_inputs (en_at 0) ≡ c.own (codes "en")
  pub we : pin_inputs (we_at 0) ≡ c.own (codes "we")
  pub addr : pin_inputs (addr_at 0) ≡ c.own (codes "addr")
  pub wdata : pin_inputs (wdata_at 0) ≡ c.own (codes "wdata")

module _ {S : Type 0} (m : PortMemory S) (Good : S → Type 0) (p : Pins) (mo col : ModuleTree) where
  -- cycles of a self-test, its interface and a macro, one after another; `test` and the functional port are as they are
  abbrev pub AreTested : Env → Env → Held S → List Cycle → Type 0
  AreTested own pins h [] = Unit {0}
  AreTested own pins h (c ∷ cs) =
      (test_inputs : Env) × (pin_inputs : Env) × (left : Held S) × Settles mo own test_inputs c.own × Settles col pins pin_inputs c.pins
      × Linked test_inputs pin_inputs c × MacroCycle m Good p (λ n. c.pins (at_pin n)) h left
      × AreTested (next mo c.own) (next col c.pins) left cs

-- `test` is 0 in the first cycle, and 1 in all others
abbrev pub Rises : List Cycle → Type 0
Rises [] = Unit {0}
Rises (c ∷ cs) = (c.pins test ≡ 0) × AllInTest (map (λ x. x.pins) cs)

-- ---- use

-- while `test` is 0 the self-test shows neither `done` nor `fail`, and asks for nothing
pub record Quiet (q : PortValues) : Type 0 where
  pub en : q.en ≡ false
  pub done : q.done ≡ false
  pub fail : q.fail ≡ false

-- What the chip drives asks for this command; a tie isn't driven.
abbrev pub ChipPinAsks : Bool → PinKind → PinTree → Asked → ℕ → Type 0
ChipPinAsks enabled Tie p a v = Unit {0}
ChipPinAsks enabled kind p a v = PinAsks enabled kind p a v

abbrev pub ChipAsks : Bool → List PinTree → Asked → Env → Type 0
ChipAsks enabled [] a e = Unit {0}
ChipAsks enabled (p ∷ ps) a e = ChipPinAsks enabled p.kind p a (e p.name) × ChipAsks enabled ps a e

abbrev pub AllInUse : List Cycle → Type 0
AllInUse [] = Unit {0}
AllInUse (c ∷ cs) = (c.pins test ≡ 0) × AllInUse cs

-- A cycle of use: the self-test is quiet, each pin of the macro is what the chip drives, and the chip has the macro's word and its commands.
pub record UseCycle {S : Type 0} (m : PortMemory S) (Good : S → Type 0) (p : Pins) (c : Cycle) (now left : Held S) : Type 0 where
  pub quiet : Quiet (port_values c.own)
  pub pins : AllPass p.inputs c.pins
  pub word : Stands now.due (c.pins p.rdata)
  pub asked : (a : Asked) → ChipAsks (has_enable p.inputs) p.inputs a c.pins
      → (left.state ≡ m.after now.state a) × (left.due ≡ due_after now.due (answer_of m now.state a))
  pub good : Good left.state
  pub as_many : length left.due ≡ length now.due

abbrev pub AreUsed : {S : Type 0} → PortMemory S → (S → Type 0) → Pins → Held S → List Cycle → Type 0
AreUsed m Good p h [] = Unit {0}
AreUsed {S = S} m Good p h (c ∷ cs) = (left : Held S) × UseCycle m Good p c h left × AreUsed m Good p left cs

-- no command
abbrev pub nothing : Asked
nothing = record { en = false; we = false; addr = 0; wdata = 0 }

-- the macro is asked for nothing in the first cycle
abbrev pub AsksNothing : Pins → List Cycle → Type 0
AsksNothing p [] = Unit {0}
AsksNothing p (c ∷ cs) = PinsAsk p nothing (λ n. c.pins (at_pin n))

-- ---- how a test ends

abbrev pub Among : {A : Type 0} → A → List A → Type 0
Among x [] = ⊥
Among x (y ∷ ys) = (y ≡ x) ⊎ Among x ys

abbrev pub is_tied : PinKind → Type 0
is_tied Tie = Unit {0}
is_tied other = ⊥

-- a name that the collar doesn't need for itself
abbrev pub IsFree : Pins → List ℕ → Type 0
IsFree p n =
    (is_clk n ≡ false) × (bytes_eq n (en_at 0) ≡ false) × (bytes_eq n (we_at 0) ≡ false) × (bytes_eq n (addr_at 0) ≡ false)
    × (bytes_eq n (wdata_at 0) ≡ false) × (bytes_eq n (at_pin p.rdata) ≡ false)

-- `test` and the functional port are what the chip drives, from cycle t on
abbrev pub AreDriven : Pins → (ℕ → Env) → ℕ → List Cycle → Type 0
AreDriven p chip t [] = Unit {0}
AreDriven p chip t (c ∷ cs) =
    (c.pins test ≡ chip t test) × ((q : PinTree) → Among q p.inputs → (is_tied q.kind → ⊥) → IsFree p q.name → c.pins q.name ≡ chip t q.name)
    × AreDriven p chip (suc t) cs

module _ {S : Type 0} (b : Behaviour S) (Good : S → Type 0) (mo : ModuleTree) (march : List MarchElement) (d : Description) (p : Pins) where
  abbrev pub AreRun : List ℕ → Env → Env → Held (Kept S) → List Cycle → Type 0
  AreRun name own pins h cycles = AreTested (memory_of b (shape_of d)) (IsKind Good) p mo (interface name p d.bits d.scramble.width) own pins h cycles

  -- Before a macro with the pins of a port there are so many cycles, whatever the chip does in them within the widths, from any registers and
  -- from whatever the macro holds, where the interface breaks no rule.
  abbrev pub HasRuns : Type 0
  HasRuns =
      (name : List ℕ) (own pins : Env) (h : Held (Kept S)) (chip : ℕ → Env) (k : ℕ)
      → formed mo ≡ true → IsPort p → formed (interface name p d.bits d.scramble.width) ≡ true
      → first_break (interface name p d.bits d.scramble.width) ≡ None
      → Starts mo own (λ n. 0) → Starts (interface name p d.bits d.scramble.width) pins (λ n. 0)
      → ((t : ℕ) → Starts (interface name p d.bits d.scramble.width) (λ n. 0) (chip t)) → IsHeld (IsKind Good) d.bits h
      → (cycles : List Cycle) × (length cycles ≡ k) × AreRun name own pins h cycles × AreDriven p chip 0 cycles

  -- In the cycle in which the test is done, it has ended so. What the registers and the macro hold at first is anything, and so are the cycles
  -- before `test` rises and those behind the test.
  abbrev pub EndsWith : (PortValues → Type 0) → Type 0
  EndsWith Ends =
      (name : List ℕ) (own pins : Env) (h : Held (Kept S)) (before cycles behind : List Cycle)
      → Good h.state.state → 1 ≤ length h.due → p.before + length h.due + p.after ≡ d.latency
      → AreRun name own pins h (before ++ (cycles ++ behind)) → length cycles ≡ cycle_count march d → Rises cycles
      → (c : Cycle) → slice_get cycles (span march d + 1 + d.latency) ≡ Some c → Ends (port_values c.own)

  -- While `test` is 0 the chip has the macro: from the first such cycle on, in whatever state a test that was broken off has left it.
  abbrev pub HasUse : Type 0
  HasUse =
      (name : List ℕ) (own pins : Env) (h : Held (Kept S)) (before cycles behind : List Cycle)
      → Good h.state.state → AreRun name own pins h (before ++ (cycles ++ behind)) → AllInUse cycles
      → (held : Held (Kept S)) × Good held.state.state × (length held.due ≡ length h.due)
      × AreUsed (memory_of b (shape_of d)) (IsKind Good) p held cycles

  pub record EndsBehind (Ends : PortValues → Type 0) : Type 0 where
    pub runs : HasRuns
    pub uses : HasUse
    pub ends : EndsWith Ends

  -- The same, where the chip asks for nothing in the last cycle of use.
  abbrev pub EndsRested : (PortValues → Type 0) → Type 0
  EndsRested Ends =
      (name : List ℕ) (own pins : Env) (h : Held (Kept S)) (before cycles behind : List Cycle)
      → Good h.state.state → 1 ≤ length h.due → p.before + length h.due + p.after ≡ d.latency
      → AreRun name own pins h (before ++ (cycles ++ behind)) → length cycles ≡ cycle_count march d → Rises cycles → AsksNothing p cycles
      → (c : Cycle) → slice_get cycles (span march d + 1 + d.latency) ≡ Some c → Ends (port_values c.own)

  -- a chip that drives so in the first of the cycles behind these asks for nothing
  abbrev pub HasRest : Type 0
  HasRest =
      (name : List ℕ) (own pins : Env) (h : Held (Kept S)) (chip : ℕ → Env) (before cycles : List Cycle)
      → AreRun name own pins h (before ++ cycles) → AreDriven p chip 0 (before ++ cycles) → ((q : PinTree) → Among q p.inputs → IsFree p q.name)
      → chip (length before) test ≡ 0 → ChipAsks (has_enable p.inputs) p.inputs nothing (chip (length before)) → AsksNothing p cycles

  pub record EndsBehindRest (Ends : PortValues → Type 0) : Type 0 where
    pub runs : HasRuns
    pub uses : HasUse
    pub rests : HasRest
    pub ends : EndsRested Ends

-- beside each instance of a primitive, at any place that fits, with `fail`
abbrev pub FailsBehind : ModuleTree → List MarchElement → Description → Pins → Primitive → Type 0
FailsBehind mo march d p prim =
    (i : Planted) → i.prim ≡ prim → FitsMemory i d.words d.bits → EndsBehind (words_with (Some i)) (IsWhole d (Some i)) mo march d p EndsFailing

-- so beside each linked fault at bits of different words, and each fault of the decoder at any two, whatever else is wrong with it
abbrev pub FailsLinkedBehind : ModuleTree → List MarchElement → Description → Pins → Link → Type 0
FailsLinkedBehind mo march d p link = (at : Bits) → FitsBits link at d.words d.bits → EndsBehind (linked link at) (HasSize d) mo march d p EndsFailing

abbrev pub FailsDecoderBehind : ModuleTree → List MarchElement → Description → Pins → DecoderFault → Type 0
FailsDecoderBehind mo march d p fault =
    (at : AddressPair) (decoder : Decoder) (read : ℕ → List ℕ → ℕ) → FitsPair at d.words → HasFault decoder fault at → ReadsSomeBit d.bits decoder read
    → EndsBehind (decoded decoder read) (HasSize d) mo march d p EndsFailing

-- and beside each instance at two bits of one word, in this reading
abbrev pub FailsInWordBehind : ModuleTree → List MarchElement → Description → Pins → Reading → Primitive → Type 0
FailsInWordBehind mo march d p reading prim =
    (word agg vic : ℕ) → AreBits d word agg vic
    → EndsBehind (read_by reading (in_word prim word agg vic)) (IsWhole d (Some (in_word prim word agg vic))) mo march d p EndsFailing

-- and beside each instance of a dynamic primitive, at any place that fits
abbrev pub HasHeldSize : Description → HeldWords → Type 0
HasHeldSize d h = length h.words ≡ d.words

abbrev pub FailsDynamicBehind : ModuleTree → List MarchElement → Description → Pins → DynamicPrimitive → Type 0
FailsDynamicBehind mo march d p prim =
    (at : DynPlaces) → FitsDynPlaces prim at d.words d.bits → EndsBehindRest (dynamic prim at) (HasHeldSize d) mo march d p EndsFailing

-- beside a sound macro without
pub record EndsSound (q : PortValues) : Type 0 where
  pub done : IsTrue q.done
  pub passes : q.fail ≡ false

abbrev pub PassesBehind : ModuleTree → List MarchElement → Description → Pins → Type 0
PassesBehind mo march d p = EndsBehind (words_with None) (IsWhole d None) mo march d p EndsSound

-- a collar with at most three registers on either way
pub record IsShort (p : Pins) : Type 0 where
  pub before : p.before ≤ 3
  pub after : p.after ≤ 3

-- what a self-test behind its collar catches: all that its march detects
pub record TestsBehind (mo : ModuleTree) (march : List MarchElement) (d : Description) (p : Pins) : Type 0 where
  pub passes : PassesBehind mo march d p
  pub fails : (prim : Primitive) → IsPrimitive prim → Detects march prim → FailsBehind mo march d p prim
  -- of which a pause sets off one primitive at most
  pub fails_linked : (link : Link) → IsLinked link → (is_retention link.first ≡ false) ⊎ (is_retention link.second ≡ false) → DetectsLink march link
      → FailsLinkedBehind mo march d p link
  pub fails_decoder : (fault : DecoderFault) → DetectsDecoder march fault → FailsDecoderBehind mo march d p fault
  -- where a run of the background 0 begins afresh
  pub fails_dynamic : (prim : DynamicPrimitive) → IsDynamic prim → BeginsAfresh prim march d → DetectsDyn march prim
      → FailsDynamicBehind mo march d p prim
  pub fails_in_word : (prim : Primitive) (reading : Reading) → IsPrimitive prim → DetectsBy reading march d prim → FailsInWordBehind mo march d p reading prim

abbrev pub CollarTests : Type 0
CollarTests =
    (mo : ModuleTree) (march : List MarchElement) (d : Description) (p : Pins) → SelfTest mo march d → IsMarch march → IsMemory d → IsShort p
    → TestsBehind mo march d p

-- in each cycle of use, whatever stands in the registers and in the macro
abbrev pub QuietInUse : Type 0
QuietInUse =
    (mo : ModuleTree) (march : List MarchElement) (d : Description) (p : Pins) (name : List ℕ) (own pins test_inputs pin_inputs : Env) (c : Cycle)
    → SelfTest mo march d → Settles mo own test_inputs c.own → Settles (interface name p d.bits d.scramble.width) pins pin_inputs c.pins
    → Linked test_inputs pin_inputs c → c.pins test ≡ 0 → Quiet (port_values c.own)

-- ---- that there are cycles

-- a joint cycle with these registers, in which each input of the interface but the command is this one
pub record JointCycle (mo col : ModuleTree) (own pins chip : Env) : Type 0 where
  pub cycle : Cycle
  pub test_inputs : Env
  pub pin_inputs : Env
  pub own_settles : Settles mo own test_inputs cycle.own
  pub pins_settle : Settles col pins pin_inputs cycle.pins
  pub linked : Linked test_inputs pin_inputs cycle
  pub as_driven :
      (n : List ℕ) → bytes_eq n (en_at 0) ≡ false → bytes_eq n (we_at 0) ≡ false → bytes_eq n (addr_at 0) ≡ false → bytes_eq n (wdata_at 0) ≡ false
      → pin_inputs n ≡ chip n

-- Whatever the registers hold, the chip drives and the macro answers within their widths, there is one, where the interface breaks no rule.
abbrev pub JointSettles : Type 0
JointSettles =
    (mo : ModuleTree) (march : List MarchElement) (d : Description) (p : Pins) (name : List ℕ) (own pins chip : Env)
    → SelfTest mo march d → formed (interface name p d.bits d.scramble.width) ≡ true → first_break (interface name p d.bits d.scramble.width) ≡ None
    → Starts mo own (λ n. 0) → Starts (interface name p d.bits d.scramble.width) pins chip
    → JointCycle mo (interface name p d.bits d.scramble.width) own pins chip
