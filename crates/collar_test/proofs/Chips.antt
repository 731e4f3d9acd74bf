-- What a memory is answered to commands, one after another, is what it answers to them at its port.
use Rattle.std.proofs.Common.{◌≡◌, ◌<◌, ◌≤◌, ◌^◌, ◌%◌, ℕ, zero, suc, Bool, true, false, cond, Option, Some, None, List, [], ◌∷◌, drop, take, length, map, refl, ap, sym, ◌∙◌, arith}
use Rattle.std.specs.Prelude.{if◌then◌else◌, slice_get, slice_index}
use Rattle.word_march.specs.declared.operations.PortOp.{PortOp}
use Rattle.word_device.specs.declared.device.PortCmd.{PortCmd}
use Rattle.word_device.specs.declared.shape.Shape.{Shape}
use Rattle.word_device.specs.Ports.{queued, addressed}
use Rattle.word_device.specs.Runs.{IsSlot, AreSlots}
use Rattle.word_device.specs.Memories.{Behaviour, Memory, answer_at, own_answer}
use Rattle.word_device.specs.Answers.{own_answers}
use Rattle.word_device.proofs.Answering.{IsLawful}
use Rattle.macro_pins.specs.Asked.{Asked}
use Rattle.macro_pins.specs.Macros.{Values, own}
use Rattle.collar_rtl.proofs.Waiting.{state_at}
use Rattle.collar_test.specs.CollarTest.{Kept, cmd_of, memory_of}

module _ {S : Type 0} (b : Behaviour S) (Good : S → Type 0) (lawful : IsLawful b Good) (shape : Shape) (c : Values → Asked) (r : Values → ℕ) where
  abbrev pub chip_of : Kept S → List ℕ → Memory S
  chip_of s pending = record { state = s.state; pending = pending; idle = s.idle }

  abbrev pub cmds_of : List Values → List PortCmd
  cmds_of es = map (λ e. cmd_of (c e)) es

  abbrev state : Kept S → List Values → ℕ → Kept S
  state s es t = state_at (memory_of b shape) c r s es t

  own_at : (es : List Values) (s : Kept S) (pending : List ℕ) (t : ℕ) (e : Values) → slice_get es t ≡ Some e
      → slice_index (own_answers b shape (chip_of s pending) (cmds_of es)) t ≡ own_answer b shape (chip_of (state s es t) []) (cmd_of (c e))
  unfolding own_answers
  own_at [] s pending t e at = cc
  own_at (g ∷ es) s pending zero e at =
      let same : g ≡ e = cc in
      ap (λ (x : Values). own_answer b shape (chip_of s []) (cmd_of (c x))) same
  own_at (g ∷ es) s pending (suc t) e at =
      own_at es ((memory_of b shape).after s (c g)) (drop 1 (queued pending (own_answer b shape (chip_of s pending) (cmd_of (c g))))) t e at

  -- a read's own answer
  own_read : (s : Kept S) (a : Asked) → a.en ≡ true → a.we ≡ false
      → own (memory_of b shape) s a ≡ Some (own_answer b shape (chip_of s []) (cmd_of a) % 2 ^ shape.bits)
  own_read s a on read =
      let word : ℕ = answer_at b shape s.state (cmd_of a) (addressed shape a.addr) in
      ap (λ (t : Bool). cond t (cond a.we None (Some (word % 2 ^ shape.bits))) None) on
      ∙ ap (λ (t : Bool). cond t None (Some (word % 2 ^ shape.bits))) read
      ∙ ap (λ (t : Bool). Some ((if t then word else 0) % 2 ^ shape.bits)) (sym on)

  -- of the first cycles alone
  at_first : (n : ℕ) (es : List Values) (t : ℕ) → t < n → slice_get (take n es) t ≡ slice_get es t
  at_first zero es t low = absurd (omega arith)
  at_first (suc n) [] t low = refl
  at_first (suc n) (e ∷ es) zero low = refl
  at_first (suc n) (e ∷ es) (suc t) low = at_first n es t (omega arith)

  state_first : (n : ℕ) (s : Kept S) (es : List Values) (t : ℕ) → t < n → state s (take n es) t ≡ state s es t
  state_first zero s es t low = absurd (omega arith)
  state_first (suc n) s [] t low = refl
  state_first (suc n) s (e ∷ es) zero low = refl
  state_first (suc n) s (e ∷ es) (suc t) low = state_first n ((memory_of b shape).after s (c e)) es t (omega arith)

  -- the word of a read in these cycles
  pub read_answer : (n : ℕ) (es : List Values) (s : Kept S) (t : ℕ) (e : Values) → t < n → slice_get es t ≡ Some e → (c e).en ≡ true → (c e).we ≡ false
      → own (memory_of b shape) (state s es t) (c e) ≡ Some (slice_index (own_answers b shape (chip_of s []) (cmds_of (take n es))) t % 2 ^ shape.bits)
  read_answer n es s t e low at on read =
      let here = own_at (take n es) s [] t e (at_first n es t low ∙ at) in
      own_read (state s es t) (c e) on read
      ∙ ap (λ (x : Kept S). Some (own_answer b shape (chip_of x []) (cmd_of (c e)) % 2 ^ shape.bits)) (sym (state_first n s es t low))
      ∙ ap (λ (v : ℕ). Some (v % 2 ^ shape.bits)) (sym here)

  -- the cycles carry these slots
  pub slots_of : (ss : List (Option PortOp)) (es : List Values) → length ss ≤ length es
      → ((t : ℕ) (s : Option PortOp) (e : Values) → slice_get ss t ≡ Some s → slice_get es t ≡ Some e → IsSlot s (cmd_of (c e)))
      → AreSlots ss (cmds_of (take (length ss) es))
  slots_of [] es long each = tt
  slots_of (s ∷ ss) [] long each = absurd (omega arith)
  slots_of (s ∷ ss) (e ∷ es) long each = (each 0 s e refl refl, slots_of ss es (omega arith) (λ t x f a b. each (suc t) x f a b))
