-- In test the self-test sees the memory of the macro, later by the registers.
use Rattle.std.proofs.Common.{◌≡◌, ◌+◌, ◌<◌, ◌≤◌, ℕ, zero, suc, List, [], ◌∷◌, length, Option, None, refl, sym, subst, arith}
use Rattle.verilog_tree.specs.Plain.{ModuleTree}
use Rattle.verilog_tree.specs.Meaning.{Env, next}
use Rattle.macro_pins.specs.Pins.{Pins}
use Rattle.macro_pins.specs.Macros.{PortMemory, own, Stands, due_after, AreCycles, Held}
use Rattle.collar_rtl.specs.Interface.{at_pin, rdata_at, interface}
use Rattle.collar_rtl.specs.Collared.{command_at, given_word, AreCollared, AllInTest, Seen, Keeps, SeenInTest}
use Rattle.collar_rtl.proofs.Staging.{IsSome, Follows, Through, stages_in, stages_out}
use Rattle.collar_rtl.proofs.Equations.{of_ends, pins_ask}
use Rattle.collar_rtl.proofs.Registers.{command_goes_on, word_goes_on}

is_some : (q : List (Option ℕ)) → 1 ≤ length q → IsSome q
is_some [] h = absurd (omega arith)
is_some (w ∷ q) h = tt

padded : ℕ → List (Option ℕ) → List (Option ℕ)
padded zero q = q
padded (suc n) q = None ∷ padded n q

length_padded : (n : ℕ) (q : List (Option ℕ)) → length (padded n q) ≡ n + length q
unfolding padded
length_padded zero q = omega arith
length_padded (suc n) q = let rest = length_padded n q in omega arith

module _ {S : Type 0} (m : PortMemory S) (Good : S → Type 0) (name : List ℕ) (p : Pins) (b a : ℕ) (in_few : p.before ≤ 3) (out_few : p.after ≤ 3) where
  abbrev mo : ModuleTree
  mo = interface name p b a

  -- at the macro
  at_macro : (regs : Env) (h : Held S) (es : List Env) → AreCollared m Good p mo regs h es → AllInTest es
      → AreCycles m (command_at p.before) (λ e. e (at_pin p.rdata)) h.state h.due es
  at_macro regs h [] run test = tt
  at_macro regs h (e ∷ es) run test =
      let left : Held S = run.1 in
      let done = run.3.asked (command_at p.before e) (pins_ask p b a name regs run.0 e run.2 test.0) in
      let rest = at_macro (next mo e) left es run.4 test.1 in (
        run.3.word,
        subst (λ (s : S). AreCycles m (command_at p.before) (λ e. e (at_pin p.rdata)) s (due_after h.due (own m h.state (command_at p.before e))) es) done.0
            (subst (λ (q : List (Option ℕ)). AreCycles m (command_at p.before) (λ e. e (at_pin p.rdata)) left.state q es) done.1 rest),
      )

  commands_follow : (k : ℕ) → k < p.before → (regs : Env) (h : Held S) (e : Env) (es : List Env) → AreCollared m Good p mo regs h (e ∷ es) → AllInTest (e ∷ es)
      → Follows (λ x y. command_at (suc k) y ≡ command_at k x) (e ∷ es)
  commands_follow k low regs h e [] run test = tt
  commands_follow k low regs h e (f ∷ es) run test = (
    command_goes_on p b a name e run.4.0 f run.4.2 k low in_few test.0,
    commands_follow k low (next mo e) run.1 f es run.4 test.1,
  )

  words_follow : (k : ℕ) → k < p.after → (regs : Env) (h : Held S) (e : Env) (es : List Env) → AreCollared m Good p mo regs h (e ∷ es)
      → Follows (λ x y. y (rdata_at p.rdata (suc k)) ≡ x (rdata_at p.rdata k)) (e ∷ es)
  words_follow k low regs h e [] run = tt
  words_follow k low regs h e (f ∷ es) run = (word_goes_on p b a name e run.4.0 f run.4.2 k low out_few, words_follow k low (next mo e) run.1 f es run.4)

  -- the word that the self-test is given
  given_is : (regs : Env) (h : Held S) (es : List Env) → AreCollared m Good p mo regs h es → (s : S) (q : List (Option ℕ))
      → AreCycles m (command_at 0) (λ e. e (rdata_at p.rdata p.after)) s q es → AreCycles m (command_at 0) given_word s q es
  given_is regs h [] run s q cycles = tt
  given_is regs h (e ∷ es) run s q cycles =
      let word : given_word e ≡ e (rdata_at p.rdata p.after) = (of_ends p b a name regs run.0 e run.2).1.0 in (
        subst (λ (v : ℕ). Stands q v) (sym word) cycles.0,
        given_is (next mo e) run.1 es run.4 (m.after s (command_at 0 e)) (due_after q (own m s (command_at 0 e))) cycles.1,
      )

  -- where this holds of the macro's state at first, and what stands in the registers keeps it
  pub seen_so : (Calm : S → Type 0) (regs : Env) (h : Held S) (e : Env) (es : List Env) → 1 ≤ length h.due → Calm h.state
      → ((k : ℕ) (s : S) → k < p.before → Calm s → Calm (m.after s (command_at (suc k) e))) → AreCollared m Good p mo regs h (e ∷ es) → AllInTest (e ∷ es)
      → Seen m Calm (p.before + length h.due + p.after) (e ∷ es)
  seen_so Calm regs h e es some calm keeps run test =
      let here : Through m Calm (command_at p.before) (λ e. e (rdata_at p.rdata 0)) (length h.due) (e ∷ es) =
      record { state = h.state; due = h.due; good = calm; under_way = refl; some = is_some h.due some; cycles = at_macro regs h (e ∷ es) run test } in
      let back = stages_in m Calm command_at (λ e. e (rdata_at p.rdata 0)) p.before (length h.due) p.before e es keeps
      (λ k low. commands_follow k low regs h e es run test) (omega arith) here in
      let there = stages_out m Calm (command_at 0) (λ k e. e (rdata_at p.rdata k)) p.after (p.before + length h.due) p.after e es
      (λ k low. words_follow k low regs h e es run) (omega arith) back in
      record {
        state = there.state;
        due = there.due;
        good = there.good;
        under_way = there.under_way;
        cycles = given_is regs h (e ∷ es) run there.state there.due there.cycles;
      }

  pub seen : Keeps m Good → (regs : Env) (h : Held S) (es : List Env) → 1 ≤ length h.due → Good h.state → AreCollared m Good p mo regs h es → AllInTest es
      → Seen m Good (p.before + length h.due + p.after) es
  seen keeps regs h [] some good run test =
      let size = length_padded (p.before + p.after) h.due in
      record { state = h.state; due = padded (p.before + p.after) h.due; good = good; under_way = omega arith; cycles = tt }
  seen keeps regs h (e ∷ es) some good run test = seen_so Good regs h e es some good (λ k s low. keeps s (command_at (suc k) e)) run test

pub seen_in_test : {S : Type 0} (m : PortMemory S) (Good : S → Type 0) → Keeps m Good → SeenInTest m Good
seen_in_test m Good keeps name p b w regs h es in_few out_few some good run test =
    seen m Good name p b w in_few out_few keeps regs h es some good run test
