-- Lists of bits that are tested to be the same.
use Rattle.std.proofs.Common.{◌≡◌, Bool, true, false, List, [], ◌∷◌, refl, ap, ◌∙◌}
use Rattle.std.proofs.Math.Bool.{beq}
use Rattle.std.specs.Cmp.Lexicographic.{pointwise}
use Rattle.std.proofs.lemmas.Bool.{and_parts}

same_bit : (a b : Bool) → beq a b ≡ true → a ≡ b
same_bit true true e = refl
same_bit true false e = cc
same_bit false true e = cc
same_bit false false e = refl

pub same_lists : (xs ys : List Bool) → pointwise beq xs ys ≡ true → xs ≡ ys
same_lists [] [] e = refl
same_lists [] (y ∷ ys) e = cc
same_lists (x ∷ xs) [] e = cc
same_lists (x ∷ xs) (y ∷ ys) e =
    let both = and_parts (beq x y) (pointwise beq xs ys) e in ap (λ b. b ∷ xs) (same_bit x y both.0) ∙ ap (λ l. y ∷ l) (same_lists xs ys both.1)
