-- Inner. Only helps proofs: three bits by their numbers.
use Rattle.std.proofs.Common.{◌≡◌, ◌<◌, Bool, true, false, get_or, List, [], ◌∷◌, refl, ap, sym, ◌∙◌, arith}
use Rattle.linked_faults.specs.declared.three.Three.{Three}
use Rattle.linked_faults.specs.Escapes.{three_number}

abbrev three : Bool → Bool → Bool → Three
three x y z = record { x = x; y = y; z = z }

abbrev all_threes : List Three
all_threes =
    three false false false ∷ three false false true ∷ three false true false ∷ three false true true
    ∷ three true false false ∷ three true false true ∷ three true true false ∷ three true true true ∷ []

at_each : (P : Three → Type 0) → P (three false false false) → P (three false false true) → P (three false true false) → P (three false true true)
    → P (three true false false) → P (three true false true) → P (three true true false) → P (three true true true) → (q : Three) → P q
at_each P a b c d e f g h q = go q.x q.y q.z
  where
    go : (x y z : Bool) → P (three x y z)
    go false false false = a
    go false false true = b
    go false true false = c
    go false true true = d
    go true false false = e
    go true false true = f
    go true true false = g
    go true true true = h

pub number_below : (q : Three) → three_number q < 8
number_below q =
    at_each (λ q. three_number q < 8) (omega arith) (omega arith) (omega arith) (omega arith) (omega arith) (omega arith) (omega arith) (omega arith) q

at_number : (q d : Three) → get_or all_threes (three_number q) d ≡ q
at_number q d = at_each (λ q. get_or all_threes (three_number q) d ≡ q) refl refl refl refl refl refl refl refl q

pub same_number : (q r : Three) → three_number q ≡ three_number r → q ≡ r
same_number q r e = sym (at_number q q) ∙ ap (λ k. get_or all_threes k q) e ∙ at_number r q
