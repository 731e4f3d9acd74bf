-- The rows that a refusal names, one after another.
use Rattle.std.proofs.Common.{◌≡◌, ◌≢◌, ◌≤◌, ℕ, ◌+◌, arith, ◌/◌, ◌^◌, ◌++◌, if◌then◌else◌, Bool, List, [], sym, ◌∙◌, ap, bit_and, decimal, codes, add-one, append_assoc}
use Rattle.std.proofs.lemmas.Bool.{eq-eqb, ne_eqb}
use Rattle.std.proofs.lemmas.Nat.Bits.{shr_and_one}
use Rattle.std.specs.Int.{bit_at}
use Rattle.bist_endings.specs.Ending.{row_text, rows_text}

pub row_taken : (rows i : ℕ) → bit_and (rows / 2 ^ i) 1 ≡ 1 → row_text rows i ≡ codes " a" ++ decimal i
row_taken rows i b = ap (λ (t : Bool). if t then codes " a" ++ decimal i else []) (eq-eqb (bit_at rows i) 1 (sym (shr_and_one rows i) ∙ b))

pub row_left : (rows i : ℕ) → bit_and (rows / 2 ^ i) 1 ≢ 1 → row_text rows i ≡ []
row_left rows i b = ap (λ (t : Bool). if t then codes " a" ++ decimal i else []) (ne_eqb (bit_at rows i) 1 (λ e. b (shr_and_one rows i ∙ e)))

pub rows_more : (before out new : List ℕ) (rows i : ℕ) → out ≡ before ++ rows_text rows i → new ≡ out ++ row_text rows i
    → new ≡ before ++ rows_text rows (i + 1)
rows_more before out new rows i o e =
    e ∙ ap (λ (x : List ℕ). x ++ row_text rows i) o ∙ append_assoc before (rows_text rows i) (row_text rows i)
    ∙ ap (λ (n : ℕ). before ++ rows_text rows n) (sym (add-one i))

sixteen : (i : ℕ) → i ≤ 16 → 16 ≤ i → i ≡ 16
sixteen i below above = omega (arith, below, above)

pub rows_all : (before out : List ℕ) (rows i : ℕ) → i ≤ 16 → 16 ≤ i → out ≡ before ++ rows_text rows i → out ≡ before ++ rows_text rows 16
rows_all before out rows i below above o = o ∙ ap (λ (n : ℕ). before ++ rows_text rows n) (sixteen i below above)
