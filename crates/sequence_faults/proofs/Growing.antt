-- An instance in an array stands so in one of a cell more.
use Rattle.std.proofs.Common.{◌≡◌, ◌≢◌, ◌+◌, ◌-◌, ◌<◌, ◌≤◌, ℕ, zero, suc, Bool, false, cond, eqb, nat_lt, Option, Some, None, List, [], ◌∷◌, length, map, get_or, refl, ap, sym, subst, ◌∙◌, ◌⊎◌, inl, inr, ⊎_elim, arith}
use Rattle.std.specs.List.{AllByRecursion, insert, remove}
use Rattle.std.proofs.lemmas.Bool.{ne_eqb, lt-ltb, le-ltb, cases_lt}
use Rattle.std.proofs.lemmas.Bool.Decides.{nat_tests}
use Rattle.std.proofs.lemmas.List.{length-map}
use Rattle.std.proofs.lemmas.List.Edits.{length-insert}
use Rattle.std.proofs.Math.ListN.{get_or-map}
use Rattle.march_core.specs.March.{MarchElement}
use Rattle.march_core.specs.Visits.{Direction}
use Rattle.pair_tracker.specs.Few.{few_run}
use Rattle.sequence_faults.specs.declared.few.Spots.{Spots}
use Rattle.sequence_faults.specs.Primitive.{SequencePrimitive}
use Rattle.sequence_faults.specs.Stepping.{held_as, nothing}
use Rattle.sequence_faults.specs.Detection.{AreDifferent, FitsAt}
use Rattle.sequence_faults.specs.inner.Few.{machine_of, seat_at, order_at, spots_at, few_at}
use Rattle.sequence_faults.proofs.Seen.{place, IsSeat, Says, says}
use Rattle.sequence_faults.proofs.Shrinking.{lower, IsIdle, Lowered, lower_below, lower_above, same_run}
use Rattle.sequence_faults.proofs.Lowering.{all_on, lowered, few_lowered}

abbrev raise : ℕ → ℕ → ℕ
raise g x = cond (nat_lt x g) x (x + 1)

raise_below : (g x : ℕ) → x < g → raise g x ≡ x
raise_below g x h = ap (λ b. cond b x (x + 1)) (lt-ltb x g h)

raise_above : (g x : ℕ) → g ≤ x → raise g x ≡ x + 1
raise_above g x h = ap (λ b. cond b x (x + 1)) (le-ltb x g h)

lower_raise : (g x : ℕ) → lower g (raise g x) ≡ x
lower_raise g x =
    ⊎_elim
    (λ (h : x < g). ap (lower g) (raise_below g x h) ∙ lower_below g x (omega arith))
    (λ (h : g ≤ x). ap (lower g) (raise_above g x h) ∙ lower_above g (x + 1) (omega arith) ∙ back x)
    (cases_lt x g)
  where
    back : (x : ℕ) → x + 1 - 1 ≡ x
    back x = omega arith

raise_off : (g x : ℕ) → raise g x ≢ g
raise_off g x e =
    ⊎_elim (λ (h : x < g). let p = raise_below g x h in omega arith) (λ (h : g ≤ x). let p = raise_above g x h in omega arith) (cases_lt x g)

raise_apart : (g x y : ℕ) → x ≢ y → raise g x ≢ raise g y
raise_apart g x y ne e = ne (sym (lower_raise g x) ∙ ap (lower g) e ∙ lower_raise g y)

raise_within : (g n x : ℕ) → x < n → raise g x < suc n
raise_within g n x k =
    ⊎_elim (λ (h : x < g). let p = raise_below g x h in omega arith) (λ (h : g ≤ x). let p = raise_above g x h in omega arith) (cases_lt x g)

lower_all : (g : ℕ) (at : List ℕ) → map (lower g) (map (raise g) at) ≡ at
lower_all g [] = refl
lower_all g (x ∷ xs) = ap (λ y. y ∷ map (lower g) (map (raise g) xs)) (lower_raise g x) ∙ ap (λ l. x ∷ l) (lower_all g xs)

all_off : (g : ℕ) (at : List ℕ) → AllByRecursion (λ x. x ≢ g) (map (raise g) at)
all_off g [] = tt
all_off g (x ∷ xs) = (raise_off g x, all_off g xs)

raised_different : (g : ℕ) (at : List ℕ) → AreDifferent at → AreDifferent (map (raise g) at)
raised_different g [] d = tt
raised_different g (x ∷ xs) d = (all_on (λ y. x ≢ y) (λ z. raise g x ≢ z) (raise g) (λ y k. raise_apart g x y k) xs d.0, raised_different g xs d.1)

raised_fits : (p : SequencePrimitive) (at : List ℕ) (n g : ℕ) → FitsAt p at n → FitsAt p (map (raise g) at) (suc n)
raised_fits p at n g fits = record {
  each = length-map at (raise g) ∙ fits.each;
  within = all_on (λ x. x < n) (λ x. x < suc n) (raise g) (λ x k. raise_within g n x k) at fits.within;
  different = raised_different g at fits.different;
}

-- ---- the cells by their addresses, before and behind

test_up : (g x : ℕ) → eqb (g + 1) (raise g x) ≡ eqb g x
test_up g x =
    ⊎_elim
    (λ (h : x < g). ap (eqb (g + 1)) (raise_below g x h) ∙ ne_eqb (g + 1) x (omega arith) ∙ sym (ne_eqb g x (omega arith)))
    (λ (h : g ≤ x). ap (eqb (g + 1)) (raise_above g x h) ∙ same_test (g + 1) (x + 1) g x (omega arith))
    (cases_lt x g)
  where
    same_test : (a b c d : ℕ) → a + d ≡ b + c → eqb a b ≡ eqb c d
    same_test a b c d e = grind (arith, nat_tests)

test_down : (g x y : ℕ) → y < g → eqb y (raise g x) ≡ eqb y x
test_down g x y k =
    ⊎_elim
    (λ (h : x < g). ap (eqb y) (raise_below g x h))
    (λ (h : g ≤ x). ap (eqb y) (raise_above g x h) ∙ ne_eqb y (x + 1) (omega arith) ∙ sym (ne_eqb y x (omega arith)))
    (cases_lt x g)

abbrev seat_by : Bool → Bool → Bool → Option ℕ
seat_by p q r = cond p (Some 0) (cond q (Some 1) (cond r (Some 2) None))

module _ (at : List ℕ) (n g : ℕ) (few : g < n) where
  abbrev s : Spots
  s = spots_at n at

  abbrev u : Spots
  u = spots_at (suc n) (map (raise g) at)

  raised_at : (i d e : ℕ) → g ≤ d → e ≡ d + 1 → get_or (map (raise g) at) i e ≡ raise g (get_or at i d)
  raised_at i d e h is = ap (get_or (map (raise g) at) i) (is ∙ sym (raise_above g d h)) ∙ get_or-map (raise g) at i d

  seats : (y z : ℕ) → ((x : ℕ) → eqb y (raise g x) ≡ eqb z x) → seat_at u y ≡ seat_at s z
  seats y z same =
      ap (λ x. seat_by (eqb y x) (eqb y u.b) (eqb y u.c)) (raised_at 0 n (suc n) (omega arith) (omega arith))
      ∙ ap (λ x. seat_by (eqb y (raise g s.a)) (eqb y x) (eqb y u.c)) (raised_at 1 (n + 1) (suc n + 1) (omega arith) (omega arith))
      ∙ ap (λ x. seat_by (eqb y (raise g s.a)) (eqb y (raise g s.b)) (eqb y x)) (raised_at 2 (n + 2) (suc n + 2) (omega arith) (omega arith))
      ∙ ap (λ b. seat_by b (eqb y (raise g s.b)) (eqb y (raise g s.c))) (same s.a) ∙ ap (λ b. seat_by (eqb z s.a) b (eqb y (raise g s.c))) (same s.b)
      ∙ ap (λ b. seat_by (eqb z s.a) (eqb z s.b) b) (same s.c)

-- where another cell may be put
record Gap (s : Spots) (n : ℕ) : Type 0 where
  g : ℕ
  within : g < n
  idle : (seat_at s g ≡ None) ⊎ ((g ≡ 1) × (i : ℕ) × (j : ℕ) × (seat_at s 0 ≡ Some i) × (seat_at s 1 ≡ Some j))

gap : (s : Spots) (n : ℕ) → 2 ≤ n → Gap s n
gap s n some = go (seat_at s 0) (seat_at s 1) refl refl
  where
    go : (o p : Option ℕ) → seat_at s 0 ≡ o → seat_at s 1 ≡ p → Gap s n
    go None p e f = record { g = 0; within = omega arith; idle = inl e }
    go (Some i) None e f = record { g = 1; within = omega arith; idle = inl f }
    go (Some i) (Some j) e f = record { g = 1; within = omega arith; idle = inr (refl, i, j, e, f) }

zero_one : ◌≡◌ {A = ℕ} 0 1 → ⊥
zero_one e = omega arith

idle_there : (at : List ℕ) (n : ℕ) (found : Gap (spots_at n at) n) → IsIdle (spots_at (suc n) (map (raise found.g) at)) found.g
idle_there at n found = go found.idle
  where
    g : ℕ
    g = found.g

    above : seat_at (spots_at (suc n) (map (raise found.g) at)) (found.g + 1) ≡ seat_at (spots_at n at) found.g
    above = seats at n found.g found.within (found.g + 1) found.g (λ x. test_up found.g x)

    apart : (i j : ℕ) → seat_at (spots_at n at) 0 ≡ Some i → seat_at (spots_at n at) 1 ≡ Some j → i ≢ j
    apart i j e f same =
        let low : IsSeat (spots_at n at) 0 i = subst (Says (spots_at n at) 0) e (says (spots_at n at) 0) in
        let high : IsSeat (spots_at n at) 1 j = subst (Says (spots_at n at) 1) f (says (spots_at n at) 1) in
        zero_one (low.is ∙ ap (place (spots_at n at)) same ∙ sym high.is)

    go : (seat_at (spots_at n at) found.g ≡ None) ⊎ ((found.g ≡ 1) × (i : ℕ) × (j : ℕ) × (seat_at (spots_at n at) 0 ≡ Some i) × (seat_at (spots_at n at) 1 ≡ Some j))
        → IsIdle (spots_at (suc n) (map (raise found.g) at)) found.g
    go (inl none) = inl (above ∙ none)
    go (inr (one, i, j, e, f)) = inr (record {
      before = 0;
      next = one;
      i = i;
      j = j;
      below = seats at n found.g found.within 0 0 (λ x. test_down found.g x 0 (omega (arith, one))) ∙ e;
      above = above ∙ ap (seat_at (spots_at n at)) one ∙ f;
      apart = apart i j e f;
    })

remove-insert : (xs : List Bool) (i : ℕ) (x : Bool) → i ≤ length xs → remove (insert xs i x) i ≡ xs
remove-insert xs zero x h = refl
remove-insert [] (suc i) x h = absurd (omega arith)
remove-insert (y ∷ ys) (suc i) x h = ap (λ l. y ∷ l) (remove-insert ys i x (omega arith))

-- an array of a cell more, whose cells do the same
pub record Grown (p : SequencePrimitive) (march : List MarchElement) (ds : List Direction) (at : List ℕ) (content : List Bool) : Type 0 where
  pub more_at : List ℕ
  pub more : List Bool
  pub size : length more ≡ suc (length content)
  pub fits : FitsAt p more_at (suc (length content))
  pub same : few_run (machine_of p) (order_at (spots_at (suc (length content)) more_at)) (few_at (spots_at (suc (length content)) more_at) (held_as more nothing)) march ds
      ≡ few_run (machine_of p) (order_at (spots_at (length content) at)) (few_at (spots_at (length content) at) (held_as content nothing)) march ds

pub grown : (p : SequencePrimitive) (march : List MarchElement) (ds : List Direction) (at : List ℕ) (content : List Bool) → 2 ≤ length content → FitsAt p at (length content) → Grown p march ds at content
grown p march ds at content some fits =
    let n : ℕ = length content in
    let found : Gap (spots_at n at) n = gap (spots_at n at) n some in
    let g : ℕ = found.g in
    let few : g < n = found.within in
    let high : List ℕ = map (raise g) at in
    let more : List Bool = insert content g false in
    let longer = length-insert content g false (omega arith) in
    let size : length more ≡ suc n = omega (arith, longer) in
    let down : Lowered g (spots_at (suc n) high) (spots_at n (map (lower g) high)) = lowered high n g few (all_off g at) (idle_there at n found) in
    record {
      more_at = high;
      more = more;
      size = size;
      fits = raised_fits p at n g fits;
      same =
          same_run g (spots_at (suc n) high) (spots_at n (map (lower g) high)) down p march ds (few_at (spots_at (suc n) high) (held_as more nothing))
          ∙ ap (λ q. few_run (machine_of p) (order_at (spots_at n (map (lower g) high))) q march ds) (few_lowered (spots_at (suc n) high) (spots_at n (map (lower g) high)) more g (omega arith) down)
          ∙ ap (λ l. few_run (machine_of p) (order_at (spots_at n (map (lower g) high))) (few_at (spots_at n (map (lower g) high)) (held_as l nothing)) march ds) (remove-insert content g false (omega arith))
          ∙ ap (λ l. few_run (machine_of p) (order_at (spots_at n l)) (few_at (spots_at n l) (held_as content nothing)) march ds) (lower_all g at);
    }
