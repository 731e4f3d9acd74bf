-- Numbers of which the first ascend: a search in both parts finds a number just where it is one of them.
use Rattle.memory_desc.proofs.Common.{Bool, Contains, Err, IsTrue, List, MatchResult, MayBeMet, MayHave, Ok, Result, Subject, [], ap, ap₂, arith, at_bool, cases_lt, drop, eq-eqb, eqb-true, false, get_or, get_or_default_zero, inl, inr, length, length-append, list_any, nat_eq, refill, refl, subst, sym, take, take-append_seam, take-length, true, ℕ, ◌++◌, ◌+◌, ◌<◌, ◌==◌, ◌||◌, ◌↔◌, ◌∙◌, ◌∷◌, ◌≡◌, ◌≤◌}
use Rattle.std.proofs.lemmas.Cmp.{nat_eq_equiv}
use Rattle.std.proofs.lemmas.List.Elements.{Contains-get_or, Contains-append_left, Contains-append_right, Contains-append_cases}
use Rattle.std.proofs.lemmas.List.Sorted.{searched, length_permutation, Contains-permutation, IsNonDecreasingBy-from_sort}
use Rattle.std.proofs.lemmas.Map.Views.{Contains-from_any, list_any-from_Contains}
use Rattle.std.specs.List.Sorted.{IsNonDecreasing, IsBinarySearchResult, IsPermutation, IsSorted}
use Rattle.std.specs.Ordering.{nat_cmp}
use Rattle.std.specs.Result.{is_ok}
use Rattle.memory_desc.specs.declared.content.Subject.TheVariants.{Row}

eqb_turns : (i j : ℕ) → (i == j) ≡ (j == i)
eqb_turns i j =
    at_bool (λ t. (i == j) ≡ t → (i == j) ≡ (j == i)) (i == j)
    (λ e _. e ∙ sym (eq-eqb j i (sym (eqb-true i j e))))
    (λ e _. at_bool (λ t. (j == i) ≡ t → (i == j) ≡ (j == i)) (j == i)
    (λ f _. (let k : (i == j) ≡ true = eq-eqb i j (sym (eqb-true j i f)) in let z : ⊥ = cc in absurd z))
    (λ f _. e ∙ sym f) refl) refl

any_there : (n : ℕ) (xs : List ℕ) → list_any (λ y. nat_eq y n) xs ≡ true → Contains xs n
any_there n xs h = Contains-from_any {eq = λ x y. nat_eq y x} (λ x y e. sym (eqb-true y x e)) n xs h

turned : (n : ℕ) (xs : List ℕ) → list_any (λ y. nat_eq y n) xs ≡ list_any (nat_eq n) xs
turned n [] = refl
turned n (x ∷ xs) = ap₂ (λ (a b : Bool). a || b) (eqb_turns x n) (turned n xs)

there_any : (n : ℕ) (xs : List ℕ) → Contains xs n → list_any (λ y. nat_eq y n) xs ≡ true
there_any n xs h = turned n xs ∙ list_any-from_Contains nat_eq_equiv n xs h

pub among_recent : (items front back : List ℕ) (n : ℕ) (t : Bool) → items ≡ front ++ back → t ≡ list_any (λ y. nat_eq y n) back → t ≡ true → IsTrue t ↔ Contains items n
among_recent items front back n t whole e h =
    (λ _. subst (λ xs. Contains xs n) (sym whole) (Contains-append_right front back n (any_there n back (sym e ∙ h))), λ _. h)

pub among_ascending : (items front back : List ℕ) (n : ℕ) (t u : Bool) (r : Result ℕ ℕ) → items ≡ front ++ back → t ≡ list_any (λ y. nat_eq y n) back → t ≡ false
    → IsNonDecreasing front → IsBinarySearchResult (λ y. nat_cmp y n) front r → u ≡ is_ok r → IsTrue u ↔ Contains items n
among_ascending items front back n t u r whole e f rising found is = go r (searched front n r found (λ i j p q. rising i j 0 p q)) is
  where
    go : (r : Result ℕ ℕ) → MatchResult r (λ i. (i < length front) × (get_or front i 0 ≡ n))
        (λ i. (i ≤ length front) × ((k : ℕ) → k < i → get_or front k 0 < n) × ((k : ℕ) → i ≤ k → k < length front → n < get_or front k 0)) → u ≡ is_ok r → IsTrue u ↔ Contains items n
    go (Ok i) s is =
        (λ _. subst (λ xs. Contains xs n) (sym whole) (Contains-append_left front back n (subst (Contains front) s.1 (Contains-get_or front i 0 s.0))), λ _. is)
    go (Err i) s is = (
      λ y. (let z : ⊥ = cc in absurd z),
      λ c. elim (Contains-append_cases front back n (subst (λ xs. Contains xs n) whole c)) [
        | inl h ↦ absurd (apart i s h)
        | inr h ↦ (let y = there_any n back h in let z : ⊥ = cc in absurd z)
      ],
    )
      where
        apart : (i : ℕ) → (i ≤ length front) × ((k : ℕ) → k < i → get_or front k 0 < n) × ((k : ℕ) → i ≤ k → k < length front → n < get_or front k 0) → Contains front n → ⊥
        apart i s h =
            let same = get_or_default_zero front h.0 n h.1 in
            elim (cases_lt h.0 i) [
              | inl p ↦ (let low = s.1 h.0 p in let e = h.2 in omega (arith, low, e, same))
              | inr p ↦ (let high = s.2 h.0 p h.1 in let e = h.2 in omega (arith, high, e, same))
            ]

pub met_row : (items : List ℕ) (q : Subject) (n : ℕ) → q ≡ Row n → MayHave items n → MayBeMet items q
met_row items q n e h = subst (MayBeMet items) (sym e) h

pub not_met : (items : List ℕ) (q : Subject) (n : ℕ) (t : Bool) → q ≡ Row n → length items ≤ 65536 → (length items == 65536) ≡ false → IsTrue t ↔ Contains items n → t ≡ false → MayBeMet items q → ⊥
not_met items q n t e few full there apart m = go (subst (MayBeMet items) e m)
  where
    go : MayHave items n → ⊥
    go (inl h) = (let same = eq-eqb (length items) 65536 (omega (arith, h, few)) in let z : ⊥ = cc in absurd z)
    go (inr h) = (let found : t ≡ true = there.1 h in let z : ⊥ = cc in absurd z)

-- ---- a number is added

pub is_added : (old new : List ℕ) (number : ℕ) → new ≡ old ++ number ∷ [] → MayHave new number
is_added old new number e = inr (subst (λ xs. Contains xs number) (sym e) (Contains-append_right old (number ∷ []) number (Contains-get_or (number ∷ []) 0 0 (omega arith))))

pub stays_added : (old new : List ℕ) (number : ℕ) → new ≡ old ++ number ∷ [] → (n : ℕ) → MayHave old n → MayHave new n
stays_added old new number e n (inr h) = inr (subst (λ xs. Contains xs n) (sym e) (Contains-append_left old (number ∷ []) n h))
stays_added old new number e n (inl h) = (let longer : length new ≡ length old + 1 = ap length e ∙ length-append old (number ∷ []) in inl (omega (arith, h, longer)))

permuted_has : (old new : List ℕ) (n : ℕ) → IsPermutation old new → MayHave old n → MayHave new n
permuted_has old new n p (inr h) = inr (Contains-permutation old new n p h)
permuted_has old new n p (inl h) = (let same = length_permutation old new p in inl (omega (arith, h, same)))

pub is_kept : (old more new : List ℕ) (number : ℕ) → more ≡ old ++ number ∷ [] → IsPermutation more new → MayHave new number
is_kept old more new number e p = permuted_has more new number p (is_added old more number e)

pub stays_kept : (old more new : List ℕ) (number : ℕ) → more ≡ old ++ number ∷ [] → IsPermutation more new → (n : ℕ) → MayHave old n → MayHave new n
stays_kept old more new number e p n h = permuted_has more new n p (stays_added old more number e n h)

pub rising_by : (items slice front : List ℕ) (sorted : ℕ) → slice ≡ items → front ≡ take sorted slice → IsNonDecreasing (take sorted items) → IsNonDecreasing front
rising_by items slice front sorted e f h = subst IsNonDecreasing (sym (f ∙ ap (take sorted) e)) h

-- ---- after a sort

refilled : (old new : List ℕ) → length new ≡ length old → refill (length old) old new ≡ new
refilled old new e = subst (λ n. take n (new ++ drop (length new) old) ≡ new) e (take-append_seam new (drop (length new) old))

pub rising_whole : (old new : List ℕ) (n : ℕ) → length new ≡ length old → n ≡ length (refill (length old) old new) → IsSorted nat_cmp new
    → IsNonDecreasing (take n (refill (length old) old new))
rising_whole old new n e f h =
    let all : take n (refill (length old) old new) ≡ new =
    ap (λ xs. take n xs) (refilled old new e) ∙ ap (λ n. take n new) (f ∙ ap length (refilled old new e)) ∙ take-length new in
    subst IsNonDecreasing (sym all) (IsNonDecreasingBy-from_sort (λ x. x) new h)

pub permuted : (old slice new : List ℕ) → slice ≡ old → length new ≡ length slice → IsPermutation slice new → IsPermutation old (refill (length old) old new)
permuted old slice new e f p = subst (IsPermutation old) (sym (refilled old new (f ∙ ap length e))) (subst (λ xs. IsPermutation xs new) e p)
