-- The marks of the search for an order.
use Rattle.std.proofs.Common.{◌≡◌, ◌≢◌, ℕ, ◌+◌, ◌-◌, ◌<◌, ◌≤◌, Bool, true, false, eqb, ◌⊎◌, inl, inr, List, [], ◌∷◌, ◌++◌, length, take, get_or, None, refl, sym, ap, ◌∙◌, subst, append_assoc, arith}
use Rattle.std.proofs.Math.ListN.{replicate}
use Rattle.std.specs.List.{list_all}
use Rattle.std.proofs.lemmas.List.{length-replicate, get_or-replicate, get_or_past}
use Rattle.std.proofs.lemmas.List.Sorted.{list_any-IsPermutation}
use Rattle.std.proofs.lemmas.Bool.{cases_lt}
use Rattle.std.proofs.lemmas.Bool.Decides.{eqb_tells}
use Rattle.verilog_code.specs.Places.{put}
use Rattle.verilog_code.proofs.Putting.{length_put, put_here, put_there}
use Rattle.verilog_cycle.specs.inner.Graph.{is_in, needed, LeadsTo, Marked, FirstMissing, from_first}
use Rattle.verilog_cycle.proofs.Walk.{same, or_true, in_left, in_parts, in_at, no_end, all_more, place_moves}

-- a number of a list with one more is one of the list, or that
one_behind : (a : List ℕ) (m q : ℕ) → is_in (a ++ m ∷ []) q ≡ true → (is_in a q ≡ true) ⊎ (q ≡ m)
one_behind a m q h = elim (in_parts a (m ∷ []) q h) [ inl k ↦ inl k | inr k ↦ inr (elim (or_true (eqb q m) false k) [ inl e ↦ same q m e | inr e ↦ absurd (let f : false ≡ true → ⊥ = λ x. cc in f e) ]) ]

-- ---- a mark that is set

set_met : (m : List ℕ) (t c q : ℕ) → t < length m → ((eqb q t ≡ true) × (q ≡ t)) ⊎ ((eqb q t ≡ false) × (q ≢ t)) → (get_or m q 0 ≢ 0) ⊎ (q ≡ t) → get_or (put m t (c + 1)) q 0 ≢ 0
set_met m t c q lt (inl e) k = λ z.
    let here : get_or (put m t (c + 1)) t 0 ≡ c + 1 = put_here m t (c + 1) 0 lt in
    let n : c + 1 ≡ 0 = sym here ∙ ap (λ (j : ℕ). get_or (put m t (c + 1)) j 0) (sym e.1) ∙ z in
    absurd (omega (arith, n))
set_met m t c q lt (inr e) (inl k) = λ z. k (sym (put_there m t q (c + 1) 0 e.1) ∙ z)
set_met m t c q lt (inr e) (inr is) = absurd (e.1 is)

set_passed : (g : List (List ℕ)) (o m : List ℕ) (t c q : ℕ) → t < length m → list_all (is_in o) (take c (needed g t)) ≡ true → list_all (is_in o) (take (get_or m q 0 - 1) (needed g q)) ≡ true →
    ((eqb q t ≡ true) × (q ≡ t)) ⊎ ((eqb q t ≡ false) × (q ≢ t)) → list_all (is_in o) (take (get_or (put m t (c + 1)) q 0 - 1) (needed g q)) ≡ true
set_passed g o m t c q lt all before (inl e) =
    let here : get_or (put m t (c + 1)) t 0 - 1 ≡ c = ap (λ (k : ℕ). k - 1) (put_here m t (c + 1) 0 lt) ∙ (let k : c + 1 - 1 ≡ c = omega arith in k) in
    subst (λ (j : ℕ). list_all (is_in o) (take (get_or (put m t (c + 1)) j 0 - 1) (needed g j)) ≡ true) (sym e.1)
    (subst (λ (k : ℕ). list_all (is_in o) (take k (needed g t)) ≡ true) (sym here) all)
set_passed g o m t c q lt all before (inr e) =
    subst (λ (k : ℕ). list_all (is_in o) (take (k - 1) (needed g q)) ≡ true) (sym (put_there m t q (c + 1) 0 e.1)) before

met_or : (g : List (List ℕ)) (o p p1 m : List ℕ) (t q : ℕ) → Marked g o p m → (is_in (o ++ p) q ≡ true) ⊎ (q ≡ t) → (get_or m q 0 ≢ 0) ⊎ (q ≡ t)
met_or g o p p1 m t q h (inl k) = inl (h.met q k)
met_or g o p p1 m t q h (inr is) = inr is

-- the mark of a number of which the order has c needs, where no other number is new on the path
marked_set : (g : List (List ℕ)) (o p p1 m : List ℕ) (t c : ℕ) → Marked g o p m → t < length g → list_all (is_in o) (take c (needed g t)) ≡ true → ((q : ℕ) → is_in (o ++ p1) q ≡ true → (is_in (o ++ p) q ≡ true) ⊎ (q ≡ t)) → Marked g o p1 (put m t (c + 1))
marked_set g o p p1 m t c h lt all old =
    let size = h.size in
    let within : t < length m = omega (arith, lt, size) in
    record {
      size = length_put m t (c + 1) ∙ size;
      met = λ q k. set_met m t c q within (eqb_tells q t) (met_or g o p p1 m t q h (old q k));
      passed = λ q. set_passed g o m t c q within all (h.passed q) (eqb_tells q t);
    }

-- ---- the turns

-- a number goes on the path
pub marked_entered : (g : List (List ℕ)) (o p p1 m m1 : List ℕ) (n : ℕ) → Marked g o p m → n < length g → m1 ≡ put m n 1 → p1 ≡ p ++ n ∷ [] → Marked g o p1 m1
marked_entered g o p p1 m m1 n h lt set more =
    let old : (q : ℕ) → is_in (o ++ (p ++ n ∷ [])) q ≡ true → (is_in (o ++ p) q ≡ true) ⊎ (q ≡ n) = λ q k. one_behind (o ++ p) n q (subst (λ (l : List ℕ). is_in l q ≡ true) (sym (append_assoc o p (n ∷ []))) k) in
    subst (Marked g o p1) (sym set) (subst (λ (l : List ℕ). Marked g o l (put m n 1)) (sym more) (marked_set g o p (p ++ n ∷ []) m n 0 h lt refl old))

-- the first goes on the path
pub marked_begun : (g : List (List ℕ)) (o e p m m1 : List ℕ) (s : ℕ) → Marked g o [] m → s < length g → e ≡ [] → p ≡ e ++ s ∷ [] → m1 ≡ put m s 1 → Marked g o p m1
marked_begun g o e p m m1 s h lt none more set = marked_entered g o e p m m1 s (subst (λ (l : List ℕ). Marked g o l m) (sym none) h) lt set more

-- more of what the last of the path needs is in the order
pub marked_top : (g : List (List ℕ)) (o p p1 m m1 : List ℕ) (t c : ℕ) → Marked g o p m → t < length g → p1 ≡ p → list_all (is_in o) (take c (needed g t)) ≡ true → m1 ≡ put m t (c + 1) → Marked g o p1 m1
marked_top g o p p1 m m1 t c h lt is all set =
    subst (Marked g o p1) (sym set) (subst (λ (l : List ℕ). Marked g o l (put m t (c + 1))) (sym is) (marked_set g o p p m t c h lt all (λ q k. inl k)))

-- the last of the path is placed
pub marked_placed : (g : List (List ℕ)) (o o' p p' m : List ℕ) (t : ℕ) → Marked g o p m → p ≡ p' ++ t ∷ [] → o' ≡ o ++ t ∷ [] → Marked g o' p' m
marked_placed g o o' p p' m t h is more =
    subst (λ (l : List ℕ). Marked g l p' m) (sym more) record {
      size = h.size;
      met = λ q k. h.met q (ap (λ l. is_in (o ++ l) q) is ∙ list_any-IsPermutation (eqb q) (o ++ (p' ++ t ∷ [])) ((o ++ t ∷ []) ++ p') (place_moves o p' t) ∙ k);
      passed = λ q. all_more o (o ++ t ∷ []) (take (get_or m q 0 - 1) (needed g q)) (λ j k. in_left o (t ∷ []) j k) (h.passed q);
    }

none_met : (g : List (List ℕ)) (n q : ℕ) → (q < n) ⊎ (n ≤ q) → list_all (is_in []) (take (get_or {A = ℕ} (replicate n 0) q 0 - 1) (needed g q)) ≡ true
none_met g n q (inl lt) = ap (λ (k : ℕ). list_all (is_in []) (take (k - 1) (needed g q))) (get_or-replicate n q 0 0 lt)
none_met g n q (inr ge) = ap (λ (k : ℕ). list_all (is_in []) (take (k - 1) (needed g q))) (get_or_past (replicate n 0) q 0 (subst (λ (k : ℕ). k ≤ q) (sym (length-replicate n 0)) ge))

-- no number has a mark
pub marked_none : (g : List (List ℕ)) (o m : List ℕ) (n : ℕ) → o ≡ [] → n ≡ length g → m ≡ replicate n 0 → Marked g o [] m
marked_none g o m n empty size is =
    subst (λ (l : List ℕ). Marked g l [] m) (sym empty) (subst (Marked g [] []) (sym is) record {
      size = length-replicate n 0 ∙ size;
      met = λ q k. cc;
      passed = λ q. none_met g n q (cases_lt q n);
    })

-- ---- what the last of the path lacks

-- a number without a mark makes no loop
pub no_loop : (p : List ℕ) (n k : ℕ) → (is_in p n ≡ true → k ≢ 0) → k ≡ 0 → from_first n p ≡ None
no_loop p n k h z = no_end n p (by_test (is_in p n) refl)
  where
    by_test : (t : Bool) → is_in p n ≡ t → is_in p n ≡ false
    by_test true e = absurd (h e z)
    by_test false e = e

pub lacking_leads : (g : List (List ℕ)) (o n : List ℕ) (t i : ℕ) → FirstMissing o n i → n ≡ needed g t → LeadsTo g t (get_or n i 0)
lacking_leads g o n t i h is = subst (λ (l : List ℕ). is_in l (get_or n i 0) ≡ true) is (in_at n i h.there)
