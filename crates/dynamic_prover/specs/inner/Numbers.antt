-- Inner. Only helps proofs: the contents of the two cells by their numbers.
use Rattle.std.proofs.Common.{◌≡◌, ◌<◌, Bool, true, false, Option, Some, None, List, [], ◌∷◌, get_or, refl, ap, sym, ◌∙◌, arith}
use Rattle.cell_machine.specs.Pairs.{pair_of}
use Rattle.dynamic_prover.specs.declared.own_cells.OwnCells.{OwnCells}
use Rattle.dynamic_prover.specs.inner.Own.{own_as}
use Rattle.dynamic_prover.specs.inner.Legs.{own_number}

abbrev at : Bool → Bool → Bool → OwnCells
at a v armed = own_as (pair_of a v) armed

at_each : (P : OwnCells → Type 0) → P (at false false false) → P (at false false true) → P (at false true false) → P (at false true true)
    → P (at true false false) → P (at true false true) → P (at true true false) → P (at true true true) → (q : OwnCells) → P q
at_each P a b c d e f g h q = go q.pair.a q.pair.v q.armed
  where
    go : (x y z : Bool) → P (at x y z)
    go false false false = a
    go false false true = b
    go false true false = c
    go false true true = d
    go true false false = e
    go true false true = f
    go true true false = g
    go true true true = h

pub own_below : (q : OwnCells) → own_number q < 8
own_below q =
    at_each (λ q. own_number q < 8) (omega arith) (omega arith) (omega arith) (omega arith) (omega arith) (omega arith) (omega arith) (omega arith) q

abbrev all_own : List OwnCells
all_own =
    at false false false ∷ at false false true ∷ at false true false ∷ at false true true ∷ at true false false ∷ at true false true ∷ at true true false ∷ at true true true ∷ []

at_number : (q d : OwnCells) → get_or all_own (own_number q) d ≡ q
at_number q d = at_each (λ q. get_or all_own (own_number q) d ≡ q) refl refl refl refl refl refl refl refl q

-- the number tells the contents
pub same_own : (q r : OwnCells) → own_number q ≡ own_number r → q ≡ r
same_own q r e = sym (at_number q q) ∙ ap (λ k. get_or all_own k q) e ∙ at_number r q
