-- Inner. Only helps proofs: the pairs by their numbers.
use Rattle.std.proofs.Common.{◌≡◌, ◌<◌, Bool, true, false, get_or, refl, ap, sym, ◌∙◌, arith}
use Rattle.cell_machine.specs.declared.pair.Pair.{Pair}
use Rattle.pair_tracker.specs.Survivors.{pair_number}
use Rattle.pair_tracker.specs.Reached.{all_pairs}

-- what holds at the four pairs holds at each
pub at_each_pair : (P : Pair → Type 0) → P (record { a = false; v = false }) → P (record { a = false; v = true }) → P (record { a = true; v = false })
    → P (record { a = true; v = true }) → (q : Pair) → P q
at_each_pair P w x y z q = go q.a q.v
  where
    go : (a v : Bool) → P (record { a = a; v = v })
    go false false = w
    go false true = x
    go true false = y
    go true true = z

pub number_below : (q : Pair) → pair_number q < 8
number_below q = at_each_pair (λ q. pair_number q < 8) (omega arith) (omega arith) (omega arith) (omega arith) q

pub at_number : (q d : Pair) → get_or all_pairs (pair_number q) d ≡ q
at_number q d = at_each_pair (λ q. get_or all_pairs (pair_number q) d ≡ q) refl refl refl refl q

pub same_number : (q r : Pair) → pair_number q ≡ pair_number r → q ≡ r
same_number q r e = sym (at_number q q) ∙ ap (λ k. get_or all_pairs k q) e ∙ at_number r q
