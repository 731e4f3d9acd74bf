-- The small arrays in their order.
use Rattle.std.proofs.Common.{◌≡◌, ℕ, zero, suc, Bool, true, false, ◌&&◌, Some, List, [], ◌∷◌, ◌++◌, ◌⊎◌, inl, inr, ⊎_elim, map, slice_get, refl, ap, sym, subst, ◌∙◌}
use Rattle.std.specs.List.{AllByRecursion}
use Rattle.cell_machine.specs.declared.pair.Pair.{Pair}
use Rattle.cell_machine.specs.Pairs.{pair_of}
use Rattle.dynamic_prover.specs.declared.spot.Spot.{Spot}
use Rattle.dynamic_prover.specs.Escapes.{address_number, digits_of}
use Rattle.dynamic_prover.specs.inner.Spots.{spots_of, two_cell_spots, alone, aggressor_first, victim_first, starts_of, content_from, Candidate, candidate_at, candidates_at, candidates_of}
use Rattle.dynamic_prover.proofs.Ordered.{is_before}

-- a value stands in a list
abbrev pub IsIn : {X : Type 0} → X → List X → Type 0
IsIn c [] = ⊥
IsIn c (x ∷ xs) = (c ≡ x) ⊎ IsIn c xs

pub in_at : {X : Type 0} (xs : List X) (k : ℕ) (c : X) → slice_get xs k ≡ Some c → IsIn c xs
in_at [] k c e = cc
in_at (x ∷ xs) zero c e = let same : c ≡ x = cc in inl same
in_at (x ∷ xs) (suc k) c e = inr (in_at xs k c e)

pub all_in : {X : Type 0} (P : X → Type 0) (xs : List X) (c : X) → AllByRecursion P xs → IsIn c xs → P c
all_in P [] c all h = absurd h
all_in P (x ∷ xs) c all h = ⊎_elim (λ (e : c ≡ x). subst P (sym e) all.0) (λ (r : IsIn c xs). all_in P xs c all.1 r) h

pub in_split : {X : Type 0} (before : List X) (x : X) (behind : List X) (c : X) → IsIn c (before ++ x ∷ behind) → IsIn c before ⊎ ((c ≡ x) ⊎ IsIn c behind)
in_split [] x behind c h = inr h
in_split (b ∷ bs) x behind c h =
    ⊎_elim (λ (e : c ≡ b). inl (inl e)) (λ (r : IsIn c (bs ++ x ∷ behind)). ⊎_elim (λ (i : IsIn c bs). inl (inr i)) (λ (i : (c ≡ x) ⊎ IsIn c behind). inr i) (in_split bs x behind c r)) h

in_front : {X : Type 0} (xs ys : List X) (c : X) → IsIn c xs → IsIn c (xs ++ ys)
in_front [] ys c h = absurd h
in_front (x ∷ xs) ys c h = ⊎_elim (λ (e : c ≡ x). inl e) (λ (r : IsIn c xs). inr (in_front xs ys c r)) h

in_back : {X : Type 0} (xs ys : List X) (c : X) → IsIn c ys → IsIn c (xs ++ ys)
in_back [] ys c h = h
in_back (x ∷ xs) ys c h = inr (in_back xs ys c h)

in_either : {X : Type 0} (xs ys : List X) (c : X) → IsIn c (xs ++ ys) → IsIn c xs ⊎ IsIn c ys
in_either [] ys c h = inr h
in_either (x ∷ xs) ys c h = ⊎_elim (λ (e : c ≡ x). inl (inl e)) (λ (r : IsIn c (xs ++ ys)). ⊎_elim (λ (i : IsIn c xs). inl (inr i)) (λ (i : IsIn c ys). inr i) (in_either xs ys c r)) h

pub in_middle : {X : Type 0} (before : List X) (x : X) (behind : List X) → IsIn x (before ++ x ∷ behind)
in_middle before x behind = in_back before (x ∷ behind) x (inl refl)

-- candidates by their spot and their start
in_starts : (s : Spot) (pairs : List Pair) (q : Pair) → IsIn q pairs → IsIn (candidate_at s q) (map (candidate_at s) pairs)
in_starts s [] q h = absurd h
in_starts s (x ∷ xs) q h = ⊎_elim (λ (e : q ≡ x). inl (ap (candidate_at s) e)) (λ (r : IsIn q xs). inr (in_starts s xs q r)) h

pub in_candidates : (spots : List Spot) (s : Spot) (q : Pair) → IsIn s spots → IsIn q (starts_of s) → IsIn (candidate_at s q) (candidates_of spots)
in_candidates [] s q h i = absurd h
in_candidates (x ∷ xs) s q h i =
    ⊎_elim
    (λ (e : s ≡ x). in_front (candidates_at x) (candidates_of xs) (candidate_at s q) (subst (λ y. IsIn (candidate_at s q) (candidates_at y)) e (in_starts s (starts_of s) q i)))
    (λ (r : IsIn s xs). in_back (candidates_at x) (candidates_of xs) (candidate_at s q) (in_candidates xs s q r i)) h

-- a candidate's spot, and its start, are listed
pub record IsListed (spots : List Spot) (c : Candidate) : Type 0 where
  pub spot : IsIn c.spot spots
  pub start : IsIn c.pair (starts_of c.spot)

of_starts : (s : Spot) (pairs : List Pair) (c : Candidate) → IsIn c (map (candidate_at s) pairs) → (c.spot ≡ s) × IsIn c.pair pairs
of_starts s [] c h = absurd h
of_starts s (x ∷ xs) c h =
    ⊎_elim (λ (e : c ≡ candidate_at s x). (ap (λ (d : Candidate). d.spot) e, inl (ap (λ (d : Candidate). d.pair) e)))
    (λ (r : IsIn c (map (candidate_at s) xs)). let t = of_starts s xs c r in (t.0, inr t.1)) h

pub listed : (spots : List Spot) (c : Candidate) → IsIn c (candidates_of spots) → IsListed spots c
listed [] c h = absurd h
listed (x ∷ xs) c h =
    ⊎_elim
    (λ (i : IsIn c (candidates_at x)).
    let t = of_starts x (starts_of x) c i in
    record { spot = inl t.0; start = subst (λ s. IsIn c.pair (starts_of s)) (sym t.0) t.1 })
    (λ (i : IsIn c (candidates_of xs)). let t = listed xs c i in record { spot = inr t.spot; start = t.start })
    (in_either (candidates_at x) (candidates_of xs) c h)

-- the numbers that order candidates
abbrev pub order_of : Candidate → List ℕ
order_of c = c.spot.size ∷ address_number c.spot.agg ∷ c.spot.vic ∷ digits_of (content_from c.spot.agg c.spot.vic c.pair 0 c.spot.size)

abbrev is_before_all : Candidate → List Candidate → Bool
is_before_all c [] = true
is_before_all c (d ∷ ds) = is_before (order_of c) (order_of d) && is_before_all c ds

abbrev are_ordered : List Candidate → Bool
are_ordered [] = true
are_ordered (c ∷ cs) = is_before_all c cs && are_ordered cs

candidates_ordered : (two : Bool) → are_ordered (candidates_of (spots_of two)) ≡ true
candidates_ordered true = refl
candidates_ordered false = refl

both_hold : (a b : Bool) → (a && b) ≡ true → (a ≡ true) × (b ≡ true)
both_hold true b e = (refl, e)
both_hold false b e = cc

before_each : (c : Candidate) (ds : List Candidate) (d : Candidate) → is_before_all c ds ≡ true → IsIn d ds → is_before (order_of c) (order_of d) ≡ true
before_each c [] d e h = absurd h
before_each c (x ∷ xs) d e h =
    let t = both_hold (is_before (order_of c) (order_of x)) (is_before_all c xs) e in
    ⊎_elim (λ (s : d ≡ x). ap (λ y. is_before (order_of c) (order_of y)) s ∙ t.0) (λ (r : IsIn d xs). before_each c xs d t.1 r) h

ordered_behind : (before : List Candidate) (c : Candidate) (behind : List Candidate) (d : Candidate) → are_ordered (before ++ c ∷ behind) ≡ true → IsIn d behind
    → is_before (order_of c) (order_of d) ≡ true
ordered_behind [] c behind d e h = before_each c behind d (both_hold (is_before_all c behind) (are_ordered behind) e).0 h
ordered_behind (b ∷ bs) c behind d e h =
    ordered_behind bs c behind d (both_hold (is_before_all b (bs ++ c ∷ behind)) (are_ordered (bs ++ c ∷ behind)) e).1 h

pub before_behind : (two : Bool) (before : List Candidate) (c : Candidate) (behind : List Candidate) (d : Candidate) → candidates_of (spots_of two) ≡ before ++ c ∷ behind → IsIn d behind
    → is_before (order_of c) (order_of d) ≡ true
before_behind two before c behind d split h = ordered_behind before c behind d (sym (ap are_ordered split) ∙ candidates_ordered two) h

-- each content of the two cells is a start, and without an aggressor each content of the victim
in_aggressor_first : (a v : Bool) → IsIn (pair_of a v) aggressor_first
in_aggressor_first false false = inl refl
in_aggressor_first false true = inr (inl refl)
in_aggressor_first true false = inr (inr (inl refl))
in_aggressor_first true true = inr (inr (inr (inl refl)))

in_victim_first : (a v : Bool) → IsIn (pair_of a v) victim_first
in_victim_first false false = inl refl
in_victim_first true false = inr (inl refl)
in_victim_first false true = inr (inr (inl refl))
in_victim_first true true = inr (inr (inr (inl refl)))

in_alone : (v : Bool) → IsIn (pair_of false v) alone
in_alone false = inl refl
in_alone true = inr (inl refl)

each_start : AllByRecursion (λ s. (a v : Bool) → IsIn (pair_of a v) (starts_of s)) two_cell_spots
each_start = (
  λ a v. in_aggressor_first a v,
  (
    λ a v. in_victim_first a v,
    (
      λ a v. in_aggressor_first a v,
      (
        λ a v. in_victim_first a v,
        (
          λ a v. in_aggressor_first a v,
          (λ a v. in_victim_first a v, (λ a v. in_aggressor_first a v, (λ a v. in_victim_first a v, tt))),
        ),
      ),
    ),
  ),
)

pub start_listed : (two : Bool) (s : Spot) (q : Pair) → IsIn s (spots_of two) → (two ≡ false → q.a ≡ false) → IsIn q (starts_of s)
start_listed true s q h off = all_in (λ s. (a v : Bool) → IsIn (pair_of a v) (starts_of s)) two_cell_spots s each_start h q.a q.v
start_listed false s q h off =
    let bit : q.a ≡ false = off refl in
    subst (λ b. IsIn (pair_of b q.v) (starts_of s)) (sym bit) (all_in (λ s. IsIn (pair_of false q.v) (starts_of s)) (spots_of false) s (in_alone q.v, (in_alone q.v, (in_alone q.v, tt))) h)

-- and without an aggressor a start has 0 beside the victim
alone_off : AllByRecursion (λ (q : Pair). q.a ≡ false) alone
alone_off = (refl, (refl, tt))

pub start_off : (two : Bool) (s : Spot) (q : Pair) → IsIn s (spots_of two) → IsIn q (starts_of s) → two ≡ false → q.a ≡ false
start_off true s q h i e = cc
start_off false s q h i e =
    all_in (λ (s : Spot). IsIn q (starts_of s) → q.a ≡ false) (spots_of false) s
    (λ j. all_in (λ (r : Pair). r.a ≡ false) alone q alone_off j, (λ j. all_in (λ (r : Pair). r.a ≡ false) alone q alone_off j, (λ j. all_in (λ (r : Pair). r.a ≡ false) alone q alone_off j, tt))) h i
