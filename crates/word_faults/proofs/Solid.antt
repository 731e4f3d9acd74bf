-- The words of the background 0, seen at one bit.
use Rattle.std.proofs.Common.{◌≡◌, ◌≢◌, ◌<◌, ◌^◌, ◌%◌, ℕ, Bool, true, false, Option, Some, None, List, [], ◌∷◌, refl, ap, sym, ◌∙◌}
use Rattle.std.specs.Prelude.{if◌then◌else◌, IsTrue, ◌&&◌, ◌==◌, ◌/◌}
use Rattle.std.proofs.lemmas.Nat.Bits.{bit_at_cat_low}
use Rattle.std.proofs.lemmas.Nat.{shr_split}
use Rattle.std.specs.Int.{bit_at}
use Rattle.fault_core.specs.declared.primitive.Act.TheVariants.{Write, Read}
use Rattle.march_core.specs.declared.operation.Op.{Op}
use Rattle.march_core.specs.declared.operation.Op.TheVariants.{W0, W1, R0, R1}
use Rattle.march_core.specs.declared.operation.Order.{Order}
use Rattle.march_core.specs.declared.operation.Order.TheVariants.{Up, Down, Any}
use Rattle.march_core.specs.March.{MarchElement, order_of}
use Rattle.march_core.specs.Operation.{is_wrong_of}
use Rattle.march_core.specs.Runs.{upward, up, is_write, data_value}
use Rattle.march_core.specs.Visits.{Visit, allows, is_direction}
use Rattle.array_sim.specs.Run.{act_of}
use Rattle.backgrounds.specs.Backgrounds.{word_of}
use Rattle.word_march.specs.Commands.{word_op}
use Rattle.word_device.specs.Chips.{has_bit, act_on}
use Rattle.word_device.proofs.Catching.{has_bit_solid}

-- the low bits of a number
pub has_bit_low : (n bits j : ℕ) → j < bits → has_bit (n % 2 ^ bits) j ≡ has_bit n j
unfolding has_bit
has_bit_low n bits j h =
    ap (λ (b : ℕ). b == 1) (sym (bit_at_cat_low (n / 2 ^ bits) bits (n % 2 ^ bits) j h) ∙ ap (λ m. bit_at m j) (shr_split n bits))

pub act_solid : (bits j : ℕ) (v : Visit) → j < bits → act_on (word_op bits 0 v) j ≡ act_of v.op
act_solid bits j v h = go v.op
  where
    go : (op : Op) → (if is_write op then Write (has_bit (word_of 0 (data_value op) bits) j) else Read) ≡ act_of op
    go W0 = ap Write (has_bit_solid bits j false h)
    go W1 = ap Write (has_bit_solid bits j true h)
    go R0 = refl
    go R1 = refl

-- a wrong answer is that of a read, and isn't its data value
pub wrong_read : (op : Op) (answer : Option Bool) → is_wrong_of op answer ≡ true → (is_write op ≡ false) × (act_of op ≡ Read) × (answer ≢ Some (data_value op))
wrong_read W0 answer e = cc
wrong_read W1 answer e = cc
wrong_read R0 None e = (refl, refl, λ h. cc)
wrong_read R0 (Some true) e = (refl, refl, λ h. cc)
wrong_read R0 (Some false) e = cc
wrong_read R1 None e = (refl, refl, λ h. cc)
wrong_read R1 (Some false) e = (refl, refl, λ h. cc)
wrong_read R1 (Some true) e = cc

-- so a word that shows it at a bit isn't the expected word
pub word_differs : (bits j : ℕ) (v : Visit) (reply : ℕ) → j < bits → ◌≢◌ {A = Option Bool} (Some (has_bit reply j)) (Some (data_value v.op)) → reply % 2 ^ bits ≢ word_of 0 (data_value v.op) bits
word_differs bits j v reply h differs = λ same.
    differs (ap Some (sym (has_bit_low reply bits j h) ∙ ap (λ w. has_bit w j) same ∙ has_bit_solid bits j (data_value v.op) h))

pub up_fits : (march : List MarchElement) → IsTrue (is_direction march (up march))
up_fits [] = refl
up_fits (e ∷ es) = go (order_of e) (up_fits es)
  where
    go : (order : Order) → IsTrue (is_direction es (up es)) → IsTrue (allows order (upward order) && is_direction es (up es))
    go Up rest = rest
    go Down rest = rest
    go Any rest = rest
