-- Counts that grow item by item.
use Rattle.std.proofs.Common.{◌≡◌, ◌+◌, ◌<◌, ◌≤◌, ℕ, Bool, true, false, List, take, get_or, length, ap, sym, ◌∙◌, arith}
use Rattle.std.specs.Int.{from_bool}
use Rattle.std.specs.Prelude.{count_by}
use Rattle.std.proofs.lemmas.List.Sums.{count_by_more_yes, count_by_more_no}

-- the items that pass, among the first i + 1
pub counted_more : {X : Type 0} (p : X → Bool) (xs : List X) (i : ℕ) (d x : X) (n : ℕ) (b : Bool) → i < length xs → x ≡ get_or xs i d → p x ≡ b → n ≡ count_by p (take i xs) → n + from_bool b ≡ count_by p (take (i + 1) xs)
counted_more p xs i d x n true l e f h = ap (λ m. m + 1) h ∙ sym (count_by_more_yes p xs i d l (ap p (sym e) ∙ f))
counted_more p xs i d x n false l e f h = let none : n + 0 ≡ n = omega arith in none ∙ h ∙ sym (count_by_more_no p xs i d l (ap p (sym e) ∙ f))

pub one_at_most : (b : Bool) → from_bool b ≤ 1
one_at_most true = omega arith
one_at_most false = omega arith
