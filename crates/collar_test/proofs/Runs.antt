-- Cycle by cycle, a self-test and its interface go on in front of a macro that does.
use Rattle.std.proofs.Common.{◌≡◌, ◌^◌, ◌<◌, ℕ, zero, suc, Bool, true, false, cond, List, [], ◌∷◌, length, Some, None, refl, sym, ap, subst, ◌∙◌, arith, map, ◌++◌}
use Rattle.std.proofs.Math.Nat.{one-le-pow}
use Rattle.std.specs.Str.{bytes_eq}
use Rattle.std.proofs.lemmas.Slice.Eq.{bytes_eq-Decides}
use Rattle.march_core.specs.March.{MarchElement}
use Rattle.memory_desc.specs.Descriptions.{Description}
use Rattle.verilog_tree.specs.declared.names.Kind.{Kind}
use Rattle.verilog_tree.specs.declared.names.Kind.TheVariants as N
use Rattle.verilog_tree.specs.Plain.{ModuleTree}
use Rattle.verilog_tree.specs.Formed.{formed}
use Rattle.verilog_tree.specs.Names.{Declaration, declarations, lookup, declared_width, port_declaration}
use Rattle.verilog_tree.specs.Meaning.{Env, settled_width, next}
use Rattle.verilog_tree.specs.Rules.{first_break}
use Rattle.verilog_tree.specs.Wires.{GivenWithin, Starts}
use Rattle.verilog_tree.proofs.Clean.{found}
use Rattle.verilog_tree.proofs.Settling.{lawful_module}
use Rattle.verilog_open.proofs.Histories.{starts_at}
use Rattle.verilog_open.proofs.Within.{next_fits}
use Rattle.self_test.specs.SelfTest.{SelfTest}
use Rattle.word_device.specs.Ports.{shape_of}
use Rattle.word_device.specs.Memories.{Behaviour}
use Rattle.word_device.proofs.Answering.{IsLawful}
use Rattle.macro_pins.specs.Pins.{PinTree, Pins}
use Rattle.macro_pins.specs.Ports.{IsPort}
use Rattle.macro_pins.specs.Macros.{Held, Stands}
use Rattle.macro_pins.specs.Going.{IsHeld, GoesOn}
use Rattle.macro_pins.proofs.Going.{goes_on}
use Rattle.collar_rtl.specs.Interface.{test, at_pin, interface, port as named_port, pin_ports, word_ports, ports as interface_ports}
use Rattle.verilog_tree.specs.declared.tree.Dir.TheVariants.{Input}
use Rattle.collar_rtl.proofs.Settles.{word_among, fresh_lookup, ds, Among as Declared}
use Rattle.collar_test.specs.CollarTest.{Kept, memory_of, IsKind, Cycle, Among, is_tied, IsFree, AreDriven, AreRun, HasRuns}
use Rattle.collar_test.proofs.Listed.{on_left, mapped, input_among, behind_eight, declared}
use Rattle.collar_test.proofs.Kept.{keeps, low, tells}
use Rattle.collar_test.proofs.Joint.{each_given, given_at, joint}

-- what a cycle leaves fits
fits_next : (mo : ModuleTree) → formed mo ≡ true → first_break mo ≡ None → (e : Env) → ((n : List ℕ) → e n < 2 ^ settled_width mo n) → Starts mo (next mo e) (λ n. 0)
fits_next mo forms legal e within =
    starts_at (next mo e) (λ n. 0) (declarations mo.ports mo.items) [] (declarations mo.ports mo.items) (lawful_module mo forms legal).fresh refl
    (λ x q. by x q x.kind refl)
  where
    by : (x : Declaration) → lookup (declarations mo.ports mo.items) x.name ≡ Some x → (k : Kind) → x.kind ≡ k → GivenWithin (next mo e) (λ n. 0) k x.name x.width
    by x q N.Input i = λ c. one-le-pow x.width 2 (omega arith)
    by x q N.Wire i = tt
    by x q N.Register i = subst (λ (v : ℕ). next mo e x.name < 2 ^ v) (ap declared_width q) (next_fits mo forms legal e within x.name)

-- what the interface is given with this word of the macro
abbrev with_word : Pins → ℕ → Env → Env
with_word p v chip n = cond (bytes_eq n (at_pin p.rdata)) v (chip n)

module _ {S : Type 0} (b : Behaviour S) (Good : S → Type 0) (lawful : IsLawful b Good) (mo : ModuleTree) (march : List MarchElement) (d : Description) (p : Pins) (name : List ℕ)
    (tests : SelfTest mo march d) (port : IsPort p)
    (own_forms : formed mo ≡ true) (forms : formed (interface name p d.bits d.scramble.width) ≡ true) (legal : first_break (interface name p d.bits d.scramble.width) ≡ None)
    (chip : ℕ → Env) (chip_fit : (t : ℕ) → Starts (interface name p d.bits d.scramble.width) (λ n. 0) (chip t)) where
  -- the macro
  abbrev g : GoesOn (memory_of b (shape_of d)) (IsKind Good) p d.bits
  g = goes_on (memory_of b (shape_of d)) (IsKind Good) d.bits (tells b Good lawful (shape_of d)) (keeps b Good lawful (shape_of d)) (low b Good lawful (shape_of d)) p port

  abbrev col : ModuleTree
  col = interface name p d.bits d.scramble.width

  abbrev all : List Declaration
  all = ds p d.bits d.scramble.width

  -- the inputs with a word of the macro fit
  starts_with : (pins : Env) (t v : ℕ) → Starts (interface name p d.bits d.scramble.width) pins (λ n. 0) → v < 2 ^ d.bits
      → Starts (interface name p d.bits d.scramble.width) pins (with_word p v (chip t))
  starts_with pins t v fit low = starts_at pins (with_word p v (chip t)) all [] all (lawful_module col forms legal).fresh refl (λ x q. by x q x.kind refl)
    where
      word_wide : (x : Declaration) → lookup all x.name ≡ Some x → x.name ≡ at_pin p.rdata → v < 2 ^ x.width
      word_wide x q same =
          let there : lookup all (at_pin p.rdata) ≡ Some (record { name = at_pin p.rdata; kind = N.Input; width = d.bits }) =
          fresh_lookup [] all (record { name = at_pin p.rdata; kind = N.Input; width = d.bits }) (lawful_module col forms legal).fresh (word_among p d.bits d.scramble.width) in
          let one : x ≡ record { name = at_pin p.rdata; kind = N.Input; width = d.bits } =
          let z : Some x ≡ Some (record { name = at_pin p.rdata; kind = N.Input; width = d.bits }) = sym q ∙ ap (lookup all) same ∙ there in cc in
          subst (λ (y : Declaration). v < 2 ^ y.width) (sym one) low

      input : (x : Declaration) → lookup all x.name ≡ Some x → chip t x.name < 2 ^ x.width → (b : Bool) → bytes_eq x.name (at_pin p.rdata) ≡ b → cond b v (chip t x.name) < 2 ^ x.width
      input x q small true i = word_wide x q ((bytes_eq-Decides x.name (at_pin p.rdata)).0 i)
      input x q small false i = small

      by : (x : Declaration) → lookup all x.name ≡ Some x → (k : Kind) → x.kind ≡ k → GivenWithin pins (with_word p v (chip t)) k x.name x.width
      by x q N.Input i =
          λ clk.
          let before : GivenWithin (λ n. 0) (chip t) N.Input x.name x.width =
          subst (λ (k : Kind). GivenWithin (λ n. 0) (chip t) k x.name x.width) i (found (λ y. GivenWithin (λ n. 0) (chip t) y.kind y.name y.width) all x.name x (each_given (λ n. 0) (chip t) all (chip_fit t)) q).0 in
          input x q (before clk) (bytes_eq x.name (at_pin p.rdata)) refl
      by x q N.Wire i = tt
      by x q N.Register i =
          subst (λ (k : Kind). GivenWithin pins (λ n. 0) k x.name x.width) i (found (λ y. GivenWithin pins (λ n. 0) y.kind y.name y.width) all x.name x (each_given pins (λ n. 0) all fit) q).0

  -- an input of the functional port is declared
  input_declared : (q : PinTree) → Among q p.inputs → (is_tied q.kind → ⊥) → Declared (record { name = q.name; kind = N.Input; width = q.width }) (ds p d.bits d.scramble.width)
  input_declared q h untied =
      let there : Among (named_port Input q.name q.width) (interface_ports p d.bits d.scramble.width) =
      behind_eight (named_port Input q.name q.width) _ _ _ _ _ _ _ _ (pin_ports p.inputs ++ word_ports p d.bits)
      (on_left (named_port Input q.name q.width) (pin_ports p.inputs) (word_ports p d.bits) (input_among q p.inputs untied h)) in
      declared _ (ds p d.bits d.scramble.width)
      (on_left _ (map port_declaration (interface_ports p d.bits d.scramble.width)) _ (mapped port_declaration (named_port Input q.name q.width) (interface_ports p d.bits d.scramble.width) there))

  goes : (k t : ℕ) (own pins : Env) (h : Held (Kept S)) → Starts mo own (λ n. 0) → Starts (interface name p d.bits d.scramble.width) pins (λ n. 0) → IsHeld (IsKind Good) d.bits h
      → (cycles : List Cycle) × (length cycles ≡ k) × AreRun b Good mo march d p name own pins h cycles × AreDriven p chip t cycles
  goes zero t own pins h own_fit pins_fit held = ([], refl, tt, tt)
  goes (suc k) t own pins h own_fit pins_fit held =
      let v : ℕ = g.word h in
      let j = joint mo march d tests p name forms legal own pins (with_word p v (chip t)) own_fit (starts_with pins t v pins_fit (g.low h held)) in
      let c : Cycle = j.cycle in
      let given = given_at pins j.pin_inputs c.pins all (record { name = at_pin p.rdata; kind = N.Input; width = d.bits }) j.pins_settle.given (word_among p d.bits d.scramble.width) in
      let word : c.pins (at_pin p.rdata) ≡ v =
      given refl ∙ j.as_driven (at_pin p.rdata) refl refl refl refl
      ∙ ap (λ (b : Bool). cond b v (chip t (at_pin p.rdata))) ((bytes_eq-Decides (at_pin p.rdata) (at_pin p.rdata)).1 refl) in
      let cycle = g.goes (λ n. c.pins (at_pin n)) h held (subst (λ (x : ℕ). Stands h.due x) (sym word) (g.stands h held)) in
      let tested : c.pins test ≡ chip t test = j.pins_settle.given.1.0 refl ∙ j.as_driven test refl refl refl refl in
      let rest = goes k (suc t) (next mo c.own) (next col c.pins) (g.left (λ n. c.pins (at_pin n)) h) (fits_next mo own_forms tests.legal c.own j.own_settles.within)
      (fits_next col forms legal c.pins j.pins_settle.within) (g.held (λ n. c.pins (at_pin n)) h held) in
      let driven : (q : PinTree) → Among q p.inputs → (is_tied q.kind → ⊥) → IsFree p q.name → c.pins q.name ≡ chip t q.name =
      λ q h untied free.
      given_at pins j.pin_inputs c.pins all (record { name = q.name; kind = N.Input; width = q.width }) j.pins_settle.given (input_declared q h untied) free.0
      ∙ j.as_driven q.name free.1 free.2 free.3 free.4 ∙ ap (λ (b : Bool). cond b v (chip t q.name)) free.5 in
      (c ∷ rest.0, ap suc rest.1, (j.test_inputs, j.pin_inputs, g.left (λ n. c.pins (at_pin n)) h, j.own_settles, j.pins_settle, j.linked, cycle, rest.2), (tested, driven, rest.3))

pub has_runs : {S : Type 0} (b : Behaviour S) (Good : S → Type 0) → IsLawful b Good → (mo : ModuleTree) (march : List MarchElement) (d : Description) (p : Pins) → SelfTest mo march d
    → HasRuns b Good mo march d p
has_runs b Good lawful mo march d p tests name own pins h chip k own_forms port forms legal own_fit pins_fit chip_fit held =
    goes b Good lawful mo march d p name tests port own_forms forms legal chip chip_fit k 0 own pins h own_fit pins_fit held
