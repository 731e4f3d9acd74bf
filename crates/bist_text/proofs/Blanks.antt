-- The set of the blanks has the bytes that the grammar calls so.
use Rattle.std.proofs.Common.{◌≡◌, ℕ, zero, suc, ◌-◌, ◌<◌, ◌≤◌, ◌==◌, ◌&&◌, Bool, true, false, not, cond, ◌∙◌, refl, sym, ap, subst, arith}
use Rattle.std.proofs.lemmas.Bool.{eqb-true, and_parts, ltb-true}
use Rattle.std.proofs.lemmas.Bool.Decides.{nat_tests}
use Rattle.std.proofs.lemmas.Nat.Bits.{bit_at-zero}
use Rattle.std.specs.Prelude.{nat_lt}
use Rattle.std.specs.Int.{bit_at}
use Rattle.bist_text.specs.ByteSets.{in_set}
use Rattle.bist_text.specs.declared.byte_set.ByteSet.{ByteSet}
use Rattle.bist_text.specs.Grammar.{is_blank}
use Rattle.bist_text.proofs.LinePieces.{at_bool}

-- whether two tests agree on the bytes below n
unfoldable agree : (ℕ → Bool) → (ℕ → Bool) → ℕ → Bool
agree p q zero = true
agree p q (suc n) = cond (p n) (q n) (not (q n)) && agree p q n

agree_at : (s t : Bool) → cond s t (not t) ≡ true → s ≡ t
agree_at true true e = refl
agree_at true false e = sym e
agree_at false true e = e
agree_at false false e = refl

agrees : (p q : ℕ → Bool) (n k : ℕ) → agree p q n ≡ true → k < n → p k ≡ q k
unfolding agree
agrees p q zero k h l = absurd (omega arith)
agrees p q (suc n) k h l =
    let parts = and_parts (cond (p n) (q n) (not (q n))) (agree p q n) h in
    at_bool (λ t. (k == n) ≡ t → p k ≡ q k) (k == n)
    (λ e _. let same : k ≡ n = eqb-true k n e in subst (λ (x : ℕ). p x ≡ q x) (sym same) (agree_at (p n) (q n) parts.0))
    (λ e _. agrees p q n k parts.1 (grind (arith, nat_tests))) refl

-- a set has the bytes of a class
abbrev pub Has : ByteSet → (ℕ → Bool) → Type 0
Has set p = (c : ℕ) → in_set set c ≡ p c

-- no byte from 128 on is of a class
abbrev Low : (ℕ → Bool) → Type 0
Low p = (c : ℕ) → 128 ≤ c → p c ≡ false

set_has : (low : ℕ) (p : ℕ → Bool) → agree (in_set (record { low = low; high = 0 })) p 128 ≡ true → Low p → Has (record { low = low; high = 0 }) p
set_has low p h f c =
    at_bool (λ t. nat_lt c 128 ≡ t → in_set (record { low = low; high = 0 }) c ≡ p c) (nat_lt c 128)
    (λ e _. agrees (in_set (record { low = low; high = 0 })) p 128 c h (ltb-true c 128 e))
    (λ e _. (
    let far : 128 ≤ c = grind (arith, nat_tests) in
    let none : p c ≡ false = f c far in
    let off : in_set (record { low = low; high = 0 }) c ≡ (bit_at 0 (c - 128) == 1) = ap (λ t. cond t (bit_at low c) (bit_at 0 (c - 128)) == 1) e in
    off ∙ ap (λ x. x == 1) (bit_at-zero (c - 128)) ∙ sym none))
    refl

blank_low : Low is_blank
blank_low c h = grind (arith, nat_tests)

pub blanks_have : Has (record { low = 4294976000; high = 0 }) is_blank
unfolding agree
blanks_have = set_has 4294976000 is_blank refl blank_low
