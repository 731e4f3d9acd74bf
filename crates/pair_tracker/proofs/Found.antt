-- The list of the pairs that are reached, each with its least word.
use Rattle.std.proofs.Common.{◌≡◌, ◌+◌, ◌<◌, ℕ, zero, suc, Bool, true, false, Option, Some, None, List, [], ◌∷◌, map, get_or, refl, ap, sym, subst, arith}
use Rattle.std.specs.List.{AllByRecursion, filter_map, Contains, cons_option}
use Rattle.std.specs.List.Sorted.{IsStrictlyIncreasing}
use Rattle.std.specs.Option.{option_map}
use Rattle.cell_machine.specs.declared.pair.Pair.{Pair}
use Rattle.cell_machine.specs.Pairs.{pair_of}
use Rattle.pair_tracker.specs.declared.placement.Survivor.{Survivor}
use Rattle.pair_tracker.specs.Survivors.{pair_number}
use Rattle.pair_tracker.specs.Reached.{all_pairs, with_word}

pub each_found : (P : Survivor → Type 0) (words : Pair → Option ℕ) (qs : List Pair)
    → ((q : Pair) (word : ℕ) → words q ≡ Some word → P (record { pair = q; directions = word })) → AllByRecursion P (filter_map (with_word words) qs)
each_found P words [] holds = tt
each_found P words (q ∷ qs) holds = go (words q) (λ w e. holds q w e) (each_found P words qs holds)
  where
    go : (o : Option ℕ) → ((w : ℕ) → o ≡ Some w → P (record { pair = q; directions = w })) → AllByRecursion P (filter_map (with_word words) qs)
        → AllByRecursion P (cons_option (option_map (λ word. record { pair = q; directions = word }) o) (filter_map (with_word words) qs))
    go None h rest = rest
    go (Some w) h rest = (h w refl, rest)

contains_first : {X : Type 0} → (x : X) (xs : List X) → Contains (x ∷ xs) x
contains_first x xs = (0, omega arith, refl)

contains_rest : {X : Type 0} → (y x : X) (xs : List X) → Contains xs x → Contains (y ∷ xs) x
contains_rest y x xs (k, within, is) = (suc k, omega arith, is)

contains_cons : (o : Option Survivor) (s : Survivor) (xs : List Survivor) → Contains xs s → Contains (cons_option o xs) s
contains_cons None s xs h = h
contains_cons (Some t) s xs h = contains_rest t s xs h

contains_here : (o : Option Survivor) (s : Survivor) (xs : List Survivor) → o ≡ Some s → Contains (cons_option o xs) s
contains_here o s xs e = subst (λ o. Contains (cons_option o xs) s) (sym e) (contains_first s xs)

abbrev found_at : ℕ → Bool → Bool → Survivor
found_at word a v = record { pair = pair_of a v; directions = word }

pub found_there : (words : Pair → Option ℕ) (q : Pair) (word : ℕ) → words q ≡ Some word
    → Contains (filter_map (with_word words) all_pairs) (record { pair = q; directions = word })
found_there words q word e = go q.a q.v e
  where
    go : (a v : Bool) → words (record { a = a; v = v }) ≡ Some word
        → Contains (filter_map (with_word words) all_pairs) (record { pair = record { a = a; v = v }; directions = word })
    go false false some = contains_here (with_word words (pair_of false false)) (found_at word false false) _ (ap (option_map (λ w. record { pair = pair_of false false; directions = w })) some)
    go false true some =
        contains_cons (with_word words (pair_of false false)) (found_at word false true) _
        (contains_here (with_word words (pair_of false true)) (found_at word false true) _ (ap (option_map (λ w. record { pair = pair_of false true; directions = w })) some))
    go true false some =
        contains_cons (with_word words (pair_of false false)) (found_at word true false) _
        (contains_cons (with_word words (pair_of false true)) (found_at word true false) _
        (contains_here (with_word words (pair_of true false)) (found_at word true false) _ (ap (option_map (λ w. record { pair = pair_of true false; directions = w })) some)))
    go true true some =
        contains_cons (with_word words (pair_of false false)) (found_at word true true) _
        (contains_cons (with_word words (pair_of false true)) (found_at word true true) _
        (contains_cons (with_word words (pair_of true false)) (found_at word true true) _
        (contains_here (with_word words (pair_of true true)) (found_at word true true) _ (ap (option_map (λ w. record { pair = pair_of true true; directions = w })) some))))

-- the numbers in a list, each below the next
abbrev Rises : List ℕ → Type 0
Rises [] = Unit {0}
Rises (x ∷ []) = Unit {0}
Rises (x ∷ y ∷ xs) = (x < y) × Rises (y ∷ xs)

rises_strictly : (xs : List ℕ) → Rises xs → IsStrictlyIncreasing xs
rises_strictly [] h k within = absurd (omega arith)
rises_strictly (x ∷ []) h k within = absurd (omega arith)
rises_strictly (x ∷ y ∷ xs) h zero within = h.0
rises_strictly (x ∷ y ∷ xs) h (suc k) within =
    let more : suc (k + 1) ≡ suc k + 1 = omega arith in
    subst (λ n. get_or (y ∷ xs) k 0 < get_or (x ∷ y ∷ xs) n 0) more (rises_strictly (y ∷ xs) h.1 k (omega arith))

listed : Option ℕ → Option ℕ → Option ℕ → Option ℕ → List Survivor
listed a b c d =
    cons_option (option_map (λ word. found_at word false false) a) (cons_option (option_map (λ word. found_at word false true) b)
    (cons_option (option_map (λ word. found_at word true false) c) (cons_option (option_map (λ word. found_at word true true) d) [])))

rising : (a b c d : Option ℕ) → Rises (map (λ s. pair_number s.pair) (listed a b c d))
unfolding listed
rising None None None None = tt
rising None None None (Some d) = tt
rising None None (Some c) None = tt
rising None None (Some c) (Some d) = (omega arith, tt)
rising None (Some b) None None = tt
rising None (Some b) None (Some d) = (omega arith, tt)
rising None (Some b) (Some c) None = (omega arith, tt)
rising None (Some b) (Some c) (Some d) = (omega arith, (omega arith, tt))
rising (Some a) None None None = tt
rising (Some a) None None (Some d) = (omega arith, tt)
rising (Some a) None (Some c) None = (omega arith, tt)
rising (Some a) None (Some c) (Some d) = (omega arith, (omega arith, tt))
rising (Some a) (Some b) None None = (omega arith, tt)
rising (Some a) (Some b) None (Some d) = (omega arith, (omega arith, tt))
rising (Some a) (Some b) (Some c) None = (omega arith, (omega arith, tt))
rising (Some a) (Some b) (Some c) (Some d) = (omega arith, (omega arith, (omega arith, tt)))

pub found_ordered : (words : Pair → Option ℕ) → IsStrictlyIncreasing (map (λ s. pair_number s.pair) (filter_map (with_word words) all_pairs))
unfolding listed
found_ordered words =
    rises_strictly (map (λ s. pair_number s.pair) (filter_map (with_word words) all_pairs))
    (rising (words (pair_of false false)) (words (pair_of false true)) (words (pair_of true false)) (words (pair_of true true)))
