-- A word says one number.
use Rattle.bist_app.proofs.Common.{lit<, ◌^◌, ℕ, List, arith, codes, subst, sym, ◌<◌, ◌∙◌, ◌≡◌, IsNumber}
use Rattle.std.proofs.lemmas.Fmt.{decimal_injective, decimal_is_IsNumeral}
use Rattle.std.specs.Str.Parse.{AllDigits}

below_64 : (n : ℕ) → n < 10 ^ 9 → n < 2 ^ 64
below_64 n h = let big : 10 ^ 9 < 2 ^ 64 = lit< tt in omega (arith, h, big)

pub number_one : (text : List ℕ) (m n : ℕ) → IsNumber text m → IsNumber text n → m ≡ n
number_one text m n h i = decimal_injective m n (below_64 m h.0) (below_64 n i.0) (sym h.1 ∙ i.1)

-- `none` is no number
pub no_number : (text : List ℕ) (n : ℕ) → text ≡ codes "none" → IsNumber text n → ⊥
no_number text n h i =
    let digits : AllDigits 10 (codes "none") = subst (AllDigits 10) (sym i.1 ∙ h) (decimal_is_IsNumeral n (below_64 n i.0)).0.1 in
    let first : 23 < 10 = digits.0 in
    omega (arith, first)
