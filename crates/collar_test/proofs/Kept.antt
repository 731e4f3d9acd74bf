-- A memory of a lawful behaviour: each command leaves a good state, and what it does hangs on what it is asked alone.
use Rattle.std.proofs.Common.{◌≡◌, ◌<◌, ◌^◌, ◌%◌, ℕ, Bool, true, false, cond, Option, Some, None, refl, ap, ◌∙◌, arith}
use Rattle.std.specs.Prelude.{if◌then◌else◌, ◌==◌, bit_xor}
use Rattle.std.proofs.Math.Nat.{one-le-pow, mod-lt}
use Rattle.word_device.specs.declared.shape.Shape.{Shape}
use Rattle.word_device.specs.declared.device.PortCmd.{PortCmd}
use Rattle.word_device.specs.Ports.{addressed, stored_op, shown, idle_more}
use Rattle.word_device.proofs.Porting.{op_of}
use Rattle.word_device.specs.Memories.{Behaviour, acted_at, answer_at, rested}
use Rattle.word_device.proofs.Answering.{IsLawful, state_same, reply_same}
use Rattle.macro_pins.specs.Asked.{Asked}
use Rattle.macro_pins.specs.Ports.{SameAsked}
use Rattle.macro_pins.specs.Macros.{own}
use Rattle.macro_pins.specs.Going.{TellsAsked}
use Rattle.collar_rtl.specs.Collared.{Keeps}
use Rattle.collar_test.specs.CollarTest.{Kept, cmd_of, memory_of, IsKind}

module _ {S : Type 0} (b : Behaviour S) (Good : S → Type 0) (lawful : IsLawful b Good) (shape : Shape) where
  acts : (s : S) (cmd : PortCmd) (at : Option ℕ) → Good s → Good (acted_at b shape s cmd at)
  acts s cmd None good = good
  acts s cmd (Some k) good = lawful.good_after s (stored_op shape cmd k) good

  rests : (s : S) (idle : ℕ) → Good s → Good (rested b shape s idle)
  rests s idle good = go (idle_more shape idle == shape.pause)
    where
      go : (t : Bool) → Good (if t then b.paused s else b.idled s)
      go true = lawful.good_paused s good
      go false = lawful.good_idled s good

  pub keeps : Keeps (memory_of b shape) (IsKind Good)
  keeps s a good = go a.en
    where
      go : (t : Bool) → Good (if t then acted_at b shape s.state (cmd_of a) (addressed shape a.addr) else rested b shape s.state s.idle)
      go true = acts s.state (cmd_of a) (addressed shape a.addr) good
      go false = rests s.state s.idle good

  pub low : (s : Kept S) (a : Asked) → (memory_of b shape).reply s a < 2 ^ shape.bits
  low s a = mod-lt (answer_at b shape s.state (cmd_of a) (addressed shape a.addr)) (one-le-pow shape.bits 2 (omega arith))

  -- ---- the same command

  abbrev stored : ℕ → ℕ
  stored w = bit_xor (w % 2 ^ shape.bits) shape.polarity

  module _ (x y : Asked) (same : SameAsked x y) (on : x.en ≡ true) where
    stored_same : y.we ≡ true → stored x.wdata ≡ stored y.wdata
    stored_same w = ap stored (same.wdata on (same.we on ∙ w))

    acted_same : (s : S) → acted_at b shape s (cmd_of x) (addressed shape x.addr) ≡ acted_at b shape s (cmd_of y) (addressed shape y.addr)
    acted_same s = ap (λ a. acted_at b shape s (cmd_of x) (addressed shape a)) (same.addr on) ∙ go (addressed shape y.addr)
      where
        go : (at : Option ℕ) → acted_at b shape s (cmd_of x) at ≡ acted_at b shape s (cmd_of y) at
        go None = refl
        go (Some k) =
            ap (λ w. b.after s (op_of w k (stored x.wdata))) (same.we on)
            ∙ state_same b Good lawful s y.we k (stored x.wdata) (stored y.wdata) stored_same

    answer_same : (s : S) → answer_at b shape s (cmd_of x) (addressed shape x.addr) ≡ answer_at b shape s (cmd_of y) (addressed shape y.addr)
    answer_same s = ap (λ a. answer_at b shape s (cmd_of x) (addressed shape a)) (same.addr on) ∙ go (addressed shape y.addr)
      where
        go : (at : Option ℕ) → answer_at b shape s (cmd_of x) at ≡ answer_at b shape s (cmd_of y) at
        go None = refl
        go (Some k) =
            ap (λ w. shown w shape.polarity (b.reply s (op_of w k (stored x.wdata)))) (same.we on)
            ∙ ap (shown y.we shape.polarity) (reply_same b Good lawful s y.we k (stored x.wdata) (stored y.wdata) stored_same)

  abbrev kept : S → ℕ → Kept S
  kept s idle = record { state = s; idle = idle }

  after_same : (s : Kept S) (x y : Asked) → SameAsked x y → (memory_of b shape).after s x ≡ (memory_of b shape).after s y
  after_same s x y same = go x.en y.en refl refl
    where
      go : (t u : Bool) → x.en ≡ t → y.en ≡ u
          → kept (if t then acted_at b shape s.state (cmd_of x) (addressed shape x.addr) else rested b shape s.state s.idle) (if t then 0 else idle_more shape s.idle)
          ≡ kept (if u then acted_at b shape s.state (cmd_of y) (addressed shape y.addr) else rested b shape s.state s.idle) (if u then 0 else idle_more shape s.idle)
      go true true h k = ap (λ z. kept z 0) (acted_same x y same h s.state)
      go false false h k = refl
      go true false h k = let e = same.en in cc
      go false true h k = let e = same.en in cc

  own_same : (s : Kept S) (x y : Asked) → SameAsked x y → own (memory_of b shape) s x ≡ own (memory_of b shape) s y
  own_same s x y same = go x.en y.en refl refl
    where
      reads : (v w : Bool) → v ≡ w → x.en ≡ true
          → cond v None (Some ((memory_of b shape).reply s x)) ≡ cond w None (Some ((memory_of b shape).reply s y))
      reads true true e h = refl
      reads false false e h = ap (λ n. Some (n % 2 ^ shape.bits)) (answer_same x y same h s.state)
      reads true false e h = cc
      reads false true e h = cc

      go : (t u : Bool) → x.en ≡ t → y.en ≡ u
          → cond t (cond x.we None (Some ((memory_of b shape).reply s x))) None ≡ cond u (cond y.we None (Some ((memory_of b shape).reply s y))) None
      go true true h k = reads x.we y.we (same.we h) h
      go false false h k = refl
      go true false h k = let e = same.en in cc
      go false true h k = let e = same.en in cc

  pub tells : TellsAsked (memory_of b shape)
  tells = record { after = after_same; answer = own_same }
