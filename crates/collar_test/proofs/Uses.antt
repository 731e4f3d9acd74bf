-- While `test` is 0 the chip has the macro.
use Rattle.std.proofs.Common.{ℕ, suc, arith, ◌+◌, length, Bool, List, [], ◌∷◌, ◌++◌, sym, subst, ◌∙◌, ◌≡◌, inl, inr, refl}
use Rattle.march_core.specs.March.{MarchElement}
use Rattle.memory_desc.specs.Descriptions.{Description}
use Rattle.verilog_tree.specs.Plain.{ModuleTree}
use Rattle.verilog_tree.specs.Meaning.{Env, next}
use Rattle.self_test.specs.SelfTest.{SelfTest}
use Rattle.word_device.specs.Ports.{shape_of}
use Rattle.word_device.specs.Memories.{Behaviour}
use Rattle.macro_pins.specs.declared.pins.PinKind.{PinKind}
use Rattle.macro_pins.specs.declared.pins.PinKind.TheVariants as K
use Rattle.macro_pins.specs.Pins.{PinTree, Pins, has_enable}
use Rattle.macro_pins.specs.Asked.{Asked, PinAsks, AllAsk}
use Rattle.macro_pins.specs.Macros.{Held, Stands}
use Rattle.collar_rtl.specs.Interface.{test, at_pin, interface}
use Rattle.collar_rtl.specs.Collared.{PinPasses, AllPass}
use Rattle.collar_rtl.proofs.Equations.{passes_through}
use Rattle.collar_test.specs.CollarTest.{Kept, memory_of, IsKind, Cycle, ChipPinAsks, ChipAsks, AllInUse, AreUsed, AreRun, HasUse, HasRest, nothing, AsksNothing, Among, is_tied, IsFree, AreDriven}
use Rattle.collar_test.proofs.Ends.{quiet_in_use}
use Rattle.collar_test.proofs.Histories.{begins, first_cycles}

pin_asks : (enabled : Bool) (k : PinKind) (p : PinTree) (a : Asked) (e : Env) → PinPasses k p e → ChipPinAsks enabled k p a (e p.name) → PinAsks enabled k p a (e (at_pin p.name))
pin_asks enabled K.Enable p a e same asks = same ∙ asks
pin_asks enabled K.Write p a e same asks = λ on. same ∙ asks on
pin_asks enabled K.ReadAlone p a e same asks = same ∙ asks
pin_asks enabled K.WriteAlone p a e same asks = same ∙ asks
pin_asks enabled K.Address p a e same asks = λ on. same ∙ asks on
pin_asks enabled K.Data p a e same asks = λ on we. same ∙ asks on we
pin_asks enabled K.Mask p a e same asks = λ on. same ∙ asks on
pin_asks enabled K.Pass p a e same asks = tt
pin_asks enabled K.Fixed p a e same asks = same ∙ asks
pin_asks enabled K.Tie p a e same asks = same

all_ask : (enabled : Bool) (ps : List PinTree) (a : Asked) (e : Env) → AllPass ps e → ChipAsks enabled ps a e → AllAsk enabled ps a (λ n. e (at_pin n))
all_ask enabled [] a e same asks = tt
all_ask enabled (p ∷ ps) a e same asks = (pin_asks enabled p.kind p a e same.0 asks.0, all_ask enabled ps a e same.1 asks.1)

-- the same where the nets have the chip's values
pin_same : (enabled : Bool) (k : PinKind) (p : PinTree) (a : Asked) (v w : ℕ) → ((is_tied k → ⊥) → v ≡ w) → ChipPinAsks enabled k p a w → ChipPinAsks enabled k p a v
pin_same enabled K.Enable p a v w same asks = subst (λ (x : ℕ). PinAsks enabled K.Enable p a x) (sym (same (λ t. t))) asks
pin_same enabled K.Write p a v w same asks = subst (λ (x : ℕ). PinAsks enabled K.Write p a x) (sym (same (λ t. t))) asks
pin_same enabled K.ReadAlone p a v w same asks = subst (λ (x : ℕ). PinAsks enabled K.ReadAlone p a x) (sym (same (λ t. t))) asks
pin_same enabled K.WriteAlone p a v w same asks = subst (λ (x : ℕ). PinAsks enabled K.WriteAlone p a x) (sym (same (λ t. t))) asks
pin_same enabled K.Address p a v w same asks = subst (λ (x : ℕ). PinAsks enabled K.Address p a x) (sym (same (λ t. t))) asks
pin_same enabled K.Data p a v w same asks = subst (λ (x : ℕ). PinAsks enabled K.Data p a x) (sym (same (λ t. t))) asks
pin_same enabled K.Mask p a v w same asks = subst (λ (x : ℕ). PinAsks enabled K.Mask p a x) (sym (same (λ t. t))) asks
pin_same enabled K.Pass p a v w same asks = tt
pin_same enabled K.Fixed p a v w same asks = subst (λ (x : ℕ). PinAsks enabled K.Fixed p a x) (sym (same (λ t. t))) asks
pin_same enabled K.Tie p a v w same asks = tt

all_same : (enabled : Bool) (ps : List PinTree) (a : Asked) (e f : Env) → ((q : PinTree) → Among q ps → (is_tied q.kind → ⊥) → e q.name ≡ f q.name) → ChipAsks enabled ps a f
    → ChipAsks enabled ps a e
all_same enabled [] a e f same asks = tt
all_same enabled (p ∷ ps) a e f same asks =
    (pin_same enabled p.kind p a (e p.name) (f p.name) (λ untied. same p (inl refl) untied) asks.0, all_same enabled ps a e f (λ q h untied. same q (inr h) untied) asks.1)

module _ {S : Type 0} (b : Behaviour S) (Good : S → Type 0) (mo : ModuleTree) (march : List MarchElement) (d : Description) (p : Pins) (tests : SelfTest mo march d) where
  used : (name : List ℕ) (own pins : Env) (h : Held (Kept S)) (cs : List Cycle) → AreRun b Good mo march d p name own pins h cs → AllInUse cs
      → AreUsed (memory_of b (shape_of d)) (IsKind Good) p h cs
  used name own pins h [] run off = tt
  used name own pins h (c ∷ cs) run off =
      let passes = passes_through p d.bits d.scramble.width name pins run.1 c.pins run.4 in
      let all : AllPass p.inputs c.pins = passes.pins off.0 in (
        run.2,
        record {
          quiet = quiet_in_use mo march d p name own pins run.0 run.1 c tests run.3 run.4 run.5 off.0;
          pins = all;
          word = subst (λ (v : ℕ). Stands h.due v) (sym passes.word) run.6.word;
          asked = λ a asks. run.6.asked a (all_ask (has_enable p.inputs) p.inputs a c.pins all asks);
          good = run.6.good;
          as_many = run.6.as_many;
        },
        used name (next mo c.own) (next (interface name p d.bits d.scramble.width) c.pins) run.2 cs run.7 off.1,
      )

  pub has_use : HasUse b Good mo march d p
  has_use name own pins h before cycles behind good run off =
      let from = begins b Good mo march d p name before (cycles ++ behind) own pins h good run in
      let there = first_cycles b Good mo march d p name cycles behind from.own from.pins from.held from.run in
      (from.held, from.good, from.as_many, used name from.own from.pins from.held cycles there off)

  rests_at : (name : List ℕ) (own pins : Env) (h : Held (Kept S)) (chip : ℕ → Env) (t : ℕ) (cs : List Cycle)
      → AreRun b Good mo march d p name own pins h cs → AreDriven p chip t cs → ((q : PinTree) → Among q p.inputs → IsFree p q.name)
      → chip t test ≡ 0 → ChipAsks (has_enable p.inputs) p.inputs nothing (chip t) → AsksNothing p cs
  rests_at name own pins h chip t [] run driven free off asks = tt
  rests_at name own pins h chip t (c ∷ cs) run driven free off asks =
      let passes = passes_through p d.bits d.scramble.width name pins run.1 c.pins run.4 in
      all_ask (has_enable p.inputs) p.inputs nothing c.pins (passes.pins (driven.0 ∙ off))
      (all_same (has_enable p.inputs) p.inputs nothing c.pins (chip t) (λ q h untied. driven.1 q h untied (free q h)) asks)

  rests_behind : (name : List ℕ) (own pins : Env) (h : Held (Kept S)) (chip : ℕ → Env) (t u : ℕ) (before cs : List Cycle) → u ≡ length before + t
      → AreRun b Good mo march d p name own pins h (before ++ cs) → AreDriven p chip t (before ++ cs) → ((q : PinTree) → Among q p.inputs → IsFree p q.name)
      → chip u test ≡ 0 → ChipAsks (has_enable p.inputs) p.inputs nothing (chip u) → AsksNothing p cs
  rests_behind name own pins h chip t u [] cs at run driven free off asks =
      let same : u ≡ t = omega (arith, at) in
      rests_at name own pins h chip t cs run driven free (subst (λ (k : ℕ). chip k test ≡ 0) same off)
      (subst (λ (k : ℕ). ChipAsks (has_enable p.inputs) p.inputs nothing (chip k)) same asks)
  rests_behind name own pins h chip t u (c ∷ before) cs at run driven free off asks =
      rests_behind name (next mo c.own) (next (interface name p d.bits d.scramble.width) c.pins) run.2 chip (suc t) u before cs (omega (arith, at)) run.7 driven.2 free off asks

  pub has_rest : HasRest b Good mo march d p
  has_rest name own pins h chip before cycles run driven free off asks =
      rests_behind name own pins h chip 0 (length before) before cycles (omega arith) run driven free off asks
