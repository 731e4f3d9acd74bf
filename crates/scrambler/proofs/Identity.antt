-- Scramblings that change nothing.
use Rattle.std.proofs.Common.{◌≡◌, ◌≢◌, ℕ, zero, suc, ◌+◌, ◌*◌, ◌%◌, ◌^◌, ◌<◌, ◌≤◌, ◌==◌, true, false, List, ◌∙◌, length, slice_index, refl, sym, ap, subst, arith, inl, inr}
use Rattle.std.proofs.Math.Path.{ap₂}
use Rattle.std.proofs.Math.Pow.{pow-lt}
use Rattle.std.proofs.Math.Nat.{mul-one, one-mul, pow-suc, mod-eq_of_lt}
use Rattle.std.proofs.lemmas.Bool.{and_parts, and_from, and_left, and_right, cases_lt, eqb-true, eq-eqb, ne_eqb}
use Rattle.std.proofs.lemmas.Grind.{same_number_lists}
use Rattle.scrambler.specs.Scrambling.{Scrambling, row, doublings, identity, are_units, is_identity}

doublings_at : (x n i : ℕ) → i < n → slice_index (doublings x n) i ≡ x * 2 ^ i
doublings_at x zero i h = absurd (omega arith)
doublings_at x (suc n) zero h = sym (mul-one x)
doublings_at x (suc n) (suc i) h =
    let rest = doublings_at (x + x) n i (omega arith) in
    let twice : (x + x) * 2 ^ i ≡ x * (2 ^ i * 2) = omega arith in
    rest ∙ twice ∙ ap (λ (n : ℕ). x * n) (sym (pow-suc 2 i))

doublings_count : (x n : ℕ) → length (doublings x n) ≡ n
doublings_count x zero = refl
doublings_count x (suc n) = ap suc (doublings_count (x + x) n)

units_at : (w i : ℕ) → i < w → row (identity w) i ≡ 2 ^ i
units_at w i h = doublings_at 1 w i h ∙ one-mul (2 ^ i)

are_units_below : (w n : ℕ) → n ≤ w → are_units (identity w) n ≡ true
are_units_below w zero h = refl
are_units_below w (suc n) h =
    and_from (are_units (identity w) n) (row (identity w) n == 2 ^ n) (are_units_below w n (omega arith))
    (eq-eqb (row (identity w) n) (2 ^ n) (units_at w n (omega arith)))

pub identity_is_identity : (w : ℕ) → is_identity (identity w) ≡ true
identity_is_identity w = are_units_below w w (omega arith)

unit_of : (s : Scrambling) (n i : ℕ) → are_units s n ≡ true → i < n → row s i ≡ 2 ^ i
unit_of s zero i h l = absurd (omega arith)
unit_of s (suc n) i h l =
    let parts = and_parts (are_units s n) (row s n == 2 ^ n) h in
    elim (cases_lt i n) [
      | inl q ↦ unit_of s n i parts.0 q
      | inr q ↦ let e : n ≡ i = omega arith in subst (λ (k : ℕ). row s k ≡ 2 ^ k) e (eqb-true (row s n) (2 ^ n) parts.1)
    ]

with_width : ℕ → List ℕ → ℕ → Scrambling
with_width w rows c = record { width = w; rows = rows; constant = c }

pub identity_by_rows : (s : Scrambling) → length s.rows ≡ s.width → is_identity s ≡ true → s ≡ identity s.width
unfolding with_width
identity_by_rows s count h =
    let parts = and_parts (s.constant == 0) (are_units s s.width) h in
    let size = doublings_count 1 s.width in
    let rows : s.rows ≡ doublings 1 s.width =
    same_number_lists s.rows (doublings 1 s.width) (omega arith)
    (λ k l. let p : k < s.width = omega arith in unit_of s s.width k parts.1 p ∙ sym (units_at s.width k p)) in
    ap₂ (with_width s.width) rows (eqb-true s.constant 0 parts.0)

-- each row of one is its own bit alone
pub unit_rows : (s : Scrambling) → is_identity s ≡ true → (s.constant ≡ 0) × ((i : ℕ) → i < s.width → row s i ≡ 2 ^ i)
unit_rows s h =
    let parts = and_parts (s.constant == 0) (are_units s s.width) h in
    (eqb-true s.constant 0 parts.0, λ i l. unit_of s s.width i parts.1 l)

-- ---- a row that does not name its own bit alone

units_end : (s : Scrambling) (n i : ℕ) → i < n → row s i ≢ 2 ^ i → are_units s n ≡ false
units_end s zero i h ne = absurd (omega arith)
units_end s (suc n) i h ne =
    elim (cases_lt i n) [
      | inl p ↦ and_left (are_units s n) (row s n == 2 ^ n) (units_end s n i p ne)
      | inr p ↦ let e : i ≡ n = omega arith in
          and_right (are_units s n) (row s n == 2 ^ n) (ne_eqb (row s n) (2 ^ n) (subst (λ (k : ℕ). row s k ≢ 2 ^ k) e ne))
    ]

pub no_identity : (s : Scrambling) (i r : ℕ) → i < s.width → i < 16 → r ≡ row s i → r ≢ 1 * 2 ^ i % 65536 → false ≡ is_identity s
no_identity s i r h w e ne =
    let small : 1 * 2 ^ i % 65536 ≡ 2 ^ i = ap (λ (x : ℕ). x % 65536) (one-mul (2 ^ i)) ∙ mod-eq_of_lt (pow-lt {j = 16} w) in
    sym (and_right (s.constant == 0) (are_units s s.width) (units_end s s.width i h (λ same. ne (e ∙ same ∙ sym small))))
