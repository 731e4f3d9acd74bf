-- A bit of a word that is set, and the bits of a background and its complement.
use Rattle.std.proofs.Common.{◌≡◌, ◌≢◌, ◌+◌, ◌-◌, ◌<◌, ◌^◌, ◌%◌, ◌/◌, ℕ, zero, suc, Bool, true, false, not, eqb, refl, ap, sym, ◌∙◌, ⊎_elim, arith}
use Rattle.std.specs.Prelude.{if◌then◌else◌, ◌==◌, bit_xor}
use Rattle.std.specs.Int.{bit_at}
use Rattle.std.proofs.Math.Nat.{mod-eq_of_lt}
use Rattle.std.proofs.lemmas.Bool.Decides.{eqb_tells}
use Rattle.std.proofs.lemmas.Nat.{shr_split}
use Rattle.std.proofs.lemmas.Nat.Bits.{bit_at_xor, bit_at-pow_other, bit_at-lt, bit_at_ones, bit_at_cat_low}
use Rattle.fault_core.specs.Primitive.{same_bit}
use Rattle.cell_machine.proofs.Closing.{differs}
use Rattle.backgrounds.specs.Backgrounds.{word_of}
use Rattle.backgrounds.proofs.StripeLemmas.{complement}
use Rattle.word_device.specs.Chips.{has_bit, with_bit}
use Rattle.word_device.proofs.Lanes.{with_bit_same}
use Rattle.word_device.proofs.Porting.{twice}
use Rattle.word_coupling.specs.inner.Couples.{value_in}

-- the other bits stay
pub with_bit_other : (w i j : ℕ) (b : Bool) → j ≢ i → has_bit (with_bit w i b) j ≡ has_bit w j
unfolding with_bit has_bit
with_bit_other w i j b ne = at (same_bit (bit_at w i == 1) b)
  where
    flipped : bit_at (bit_xor w (2 ^ i)) j ≡ bit_at w j
    flipped =
        let low : bit_at w j < 2 = bit_at-lt w j in
        bit_at_xor w (2 ^ i) j ∙ ap (λ x. (bit_at w j + x) % 2) (bit_at-pow_other i j ne) ∙ (let s : (bit_at w j + 0) % 2 ≡ bit_at w j = omega arith in s)

    at : (s : Bool) → has_bit (if s then w else bit_xor w (2 ^ i)) j ≡ has_bit w j
    at true = refl
    at false = ap (λ (n : ℕ). n == 1) flipped

-- a bit that is set to itself
pub with_bit_kept : (w i : ℕ) → with_bit w i (has_bit w i) ≡ w
unfolding with_bit
with_bit_kept w i = at (has_bit w i)
  where
    at : (h : Bool) → (if same_bit h h then w else bit_xor w (2 ^ i)) ≡ w
    at true = refl
    at false = refl

-- the word with a bit at a position where it has another one, or the same
abbrev set_as : ℕ → ℕ → Bool → Bool → ℕ
set_as x i held b = if same_bit held b then x else bit_xor x (2 ^ i)

-- the last of two settings counts
pub with_bit_twice : (w i : ℕ) (b c : Bool) → with_bit (with_bit w i b) i c ≡ with_bit w i c
unfolding with_bit
with_bit_twice w i b c = ap (λ h. set_as (with_bit w i b) i h c) (with_bit_same w i b) ∙ at (has_bit w i) b c
  where
    back : bit_xor (bit_xor w (2 ^ i)) (2 ^ i) ≡ w
    back = twice w (2 ^ i)

    at : (h b c : Bool) → set_as (set_as w i h b) i b c ≡ set_as w i h c
    at true true true = refl
    at true true false = refl
    at true false true = back
    at true false false = refl
    at false true true = refl
    at false true false = back
    at false false true = refl
    at false false false = refl

-- the low bits of a number
pub has_bit_low : (n bits j : ℕ) → j < bits → has_bit (n % 2 ^ bits) j ≡ has_bit n j
unfolding has_bit
has_bit_low n bits j h =
    ap (λ (b : ℕ). b == 1) (sym (bit_at_cat_low (n / 2 ^ bits) bits (n % 2 ^ bits) j h) ∙ ap (λ m. bit_at m j) (shr_split n bits))

same : (a b : Bool) → a ≡ b → same_bit a b ≡ true
same true true e = refl
same true false e = cc
same false true e = cc
same false false e = refl

-- a word in which a bit is set is the word itself exactly where it has that bit
pub low_same : (bits w i : ℕ) (b : Bool) → w < 2 ^ bits → i < bits → (with_bit w i b % 2 ^ bits == w) ≡ same_bit b (has_bit w i)
low_same bits w i b fits inside =
    ⊎_elim
    (λ (h : (eqb (with_bit w i b % 2 ^ bits) w ≡ true) × (with_bit w i b % 2 ^ bits ≡ w)).
    h.0
    ∙ sym (same b (has_bit w i)
    (sym (with_bit_same w i b) ∙ sym (has_bit_low (with_bit w i b) bits i inside) ∙ ap (λ (n : ℕ). has_bit n i) h.1)))
    (λ (h : (eqb (with_bit w i b % 2 ^ bits) w ≡ false) × (with_bit w i b % 2 ^ bits ≢ w)).
    h.0
    ∙ sym (differs b (has_bit w i)
    (λ e. h.1 (ap (λ c. with_bit w i c % 2 ^ bits) e ∙ ap (λ (n : ℕ). n % 2 ^ bits) (with_bit_kept w i) ∙ mod-eq_of_lt fits))))
    (eqb_tells (with_bit w i b % 2 ^ bits) w)

-- the bits of a complement
complement_bit : (bits b j : ℕ) → b < 2 ^ bits → j < bits → has_bit (2 ^ bits - 1 - b) j ≡ not (has_bit b j)
unfolding has_bit
complement_bit bits b j fits inside =
    ap (λ (n : ℕ). bit_at n j == 1) (sym (complement bits b fits))
    ∙ ap (λ (n : ℕ). n == 1) (bit_at_xor (2 ^ bits - 1) b j ∙ ap (λ (x : ℕ). (x + bit_at b j) % 2) (bit_at_ones bits j inside))
    ∙ at (bit_at b j) (bit_at-lt b j)
  where
    at : (x : ℕ) → x < 2 → ((1 + x) % 2 == 1) ≡ not (x == 1)
    at zero h = refl
    at (suc zero) h = refl
    at (suc (suc x)) h = absurd (omega arith)

-- the bit that stands for a data value
pub word_bit : (bits b j : ℕ) (v : Bool) → b < 2 ^ bits → j < bits → has_bit (word_of b v bits) j ≡ value_in (has_bit b j) v
word_bit bits b j true fits inside = complement_bit bits b j fits inside
word_bit bits b j false fits inside = at (has_bit b j)
  where
    at : (h : Bool) → h ≡ not (not h)
    at true = refl
    at false = refl
