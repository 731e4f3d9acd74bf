-- There is one first place that exceeds a limit, and what has one is no march.
use Rattle.std.proofs.Common.{◌≡◌, ℕ, true, zero, suc, ◌+◌, ◌<◌, ◌≤◌, List, [], ◌∷◌, ◌++◌, length, take, refl, ap, sym, subst, ◌∙◌, arith, length-append, inl, inr, ⊎_elim}
use Rattle.std.specs.List.{AllByRecursion}
use Rattle.std.proofs.lemmas.Grind.{flat_map-append}
use Rattle.march_core.specs.declared.operation.Order.{Order}
use Rattle.march_core.specs.declared.operation.Op.{Op}
use Rattle.march_core.specs.declared.fault.MarchFault.{MarchFault}
use Rattle.march_core.specs.declared.fault.MarchFault.TheVariants.{Unexpected, Truncated, Empty, TooManyElements, TooManyOps, TooManyInAll, ReadBeforeWrite, WrongExpect}
use Rattle.march_core.specs.March.{MarchElement, pause, sweep, order_of, ops_of, is_pause, all_ops, ops_at, IsElement, IsMarch}
use Rattle.march_core.proofs.Refusals.{refused_once}
use Rattle.march_core.proofs.Scanning.{refused_no_march}
use Rattle.march_syntax.specs.Answers.{Refuses}
use Rattle.march_syntax.specs.Limits.{IsWithin, BeforeOp, BeforeElement, so_far, Exceeds}

-- ---- counts

-- how many operations stand before an element
before : List MarchElement → ℕ → ℕ
before es k = length (all_ops (take k es))

count : List MarchElement → ℕ → ℕ
count es k = length (ops_at es k)

before-step : (es : List MarchElement) (k : ℕ) → k < length es → before es (suc k) ≡ before es k + count es k
unfolding before count
before-step [] k h = absurd (omega arith)
before-step (e ∷ es) zero h = simp length-append (omega arith)
before-step (e ∷ es) (suc k) h =
    let rest : length (all_ops (take (suc k) es)) ≡ length (all_ops (take k es)) + length (ops_at es k) = before-step es k (omega arith) in
    length-append (ops_of e) (all_ops (take (suc k) es)) ∙ ap (λ n. length (ops_of e) + n) rest
    ∙ omega (arith, length-append (ops_of e) (all_ops (take k es)))

before-grows : (es : List MarchElement) (i k : ℕ) → i ≤ k → before es i ≤ before es k
unfolding before
before-grows [] zero zero h = omega arith
before-grows [] zero (suc k) h = omega arith
before-grows [] (suc i) zero h = omega arith
before-grows [] (suc i) (suc k) h = omega arith
before-grows (e ∷ es) zero k h = omega arith
before-grows (e ∷ es) (suc i) zero h = absurd (omega arith)
before-grows (e ∷ es) (suc i) (suc k) h =
    let rest : length (all_ops (take i es)) ≤ length (all_ops (take k es)) = before-grows es i k (omega arith) in
    omega (arith, length-append (ops_of e) (all_ops (take i es)), length-append (ops_of e) (all_ops (take k es)), rest)

-- each element before one has at most 16 operations
abbrev FewBefore : List MarchElement → ℕ → Type 0
FewBefore es k = (m : ℕ) → m < k → count es m ≤ 16

few_before : (whole rest : List MarchElement) → AllByRecursion (λ e. length (ops_of e) ≤ 16) whole → FewBefore (whole ++ rest) (length whole)
unfolding count
few_before [] rest all m h = absurd (omega arith)
few_before (e ∷ es) rest all zero h = all.0
few_before (e ∷ es) rest all (suc m) h = few_before es rest all.1 m (omega arith)

front : (xs ys : List MarchElement) → AllByRecursion (λ e. length (ops_of e) ≤ 16) (xs ++ ys) → AllByRecursion (λ e. length (ops_of e) ≤ 16) xs
front [] ys all = tt
front (x ∷ xs) ys all = (all.0, front xs ys all.1)

before_whole : (whole rest : List MarchElement) → before (whole ++ rest) (length whole) ≡ length (all_ops whole)
unfolding before
before_whole [] [] = refl
before_whole [] (r ∷ rest) = refl
before_whole (e ∷ es) rest =
    let same : length (all_ops (take (length es) (es ++ rest))) ≡ length (all_ops es) = before_whole es rest in
    length-append (ops_of e) (all_ops (take (length es) (es ++ rest))) ∙ ap (λ n. length (ops_of e) + n) same ∙ sym (length-append (ops_of e) (all_ops es))

count_there : (whole : List MarchElement) (e : MarchElement) (rest : List MarchElement) → count (whole ++ e ∷ rest) (length whole) ≡ length (ops_of e)
unfolding count
count_there [] e rest = refl
count_there (x ∷ xs) e rest = count_there xs e rest

-- ---- a place before an operation, within the limits

record Stands (es : List MarchElement) (k j : ℕ) : Type 0 where
  pub inside : k < length es
  pub below : k < 64
  pub few : FewBefore es k
  pub there : j < count es k
  pub within : before es k + j ≤ 256

so_far_count : (whole : List MarchElement) (order : Order) (ops : List Op) → length (all_ops (whole ++ sweep order ops ∷ [])) ≡ length (all_ops whole) + length ops
so_far_count whole order ops =
    ap length (flat_map-append ops_of whole (sweep order ops ∷ [])) ∙ length-append (all_ops whole) (ops ++ [])
    ∙ ap (λ n. length (all_ops whole) + n) (length-append ops [] ∙ omega arith)

stands : (es : List MarchElement) (place : BeforeOp es) → IsWithin (so_far place) → Stands es (length place.whole) (length place.ops)
stands es place w = subst (λ l. Stands l (length place.whole) (length place.ops)) (sym place.split) here
  where
    whole : List MarchElement
    whole = place.whole

    counted : count (place.whole ++ place.element ∷ place.others) (length place.whole) ≡ length place.ops + length (place.next ∷ place.more)
    counted =
        count_there place.whole place.element place.others ∙ ap length place.ops_split ∙ length-append place.ops (place.next ∷ place.more)

    here : Stands (place.whole ++ place.element ∷ place.others) (length place.whole) (length place.ops)
    here =
        let n : length (so_far place) ≡ length place.whole + 1 = length-append place.whole (sweep (order_of place.element) place.ops ∷ []) in
        let m : length (all_ops (so_far place)) ≡ length (all_ops place.whole) + length place.ops =
        so_far_count place.whole (order_of place.element) place.ops in
        let b = before_whole place.whole (place.element ∷ place.others) in record {
          inside = omega (arith, length-append place.whole (place.element ∷ place.others));
          below = omega (arith, w.elements_within);
          few =
              few_before place.whole (place.element ∷ place.others) (front place.whole (sweep (order_of place.element) place.ops ∷ []) w.each);
          there = omega (arith, counted);
          within = omega (arith, w.ops_within, b);
        }

in_all_there : (es : List MarchElement) (place : BeforeOp es) → length (all_ops (so_far place)) ≡ 256 → before es (length place.whole) + length place.ops ≡ 256
in_all_there es place full =
    let b : before es (length place.whole) ≡ length (all_ops place.whole) =
    ap (λ l. before l (length place.whole)) place.split ∙ before_whole place.whole (place.element ∷ place.others) in
    omega (arith, so_far_count place.whole (order_of place.element) place.ops, b)

-- ---- no two of them

-- behind an operation that is one too many in all, none is within the limits
past_all : (es : List MarchElement) (i j k n : ℕ) → Stands es i j → before es i + j ≡ 256 → i < k → before es k + n ≤ 256 → ⊥
past_all es i j k n s full h within =
    omega (arith, before-step es i s.inside, before-grows es (suc i) k (omega arith), s.there)

ops_in_one : (es : List MarchElement) (i k : ℕ) → Stands es i 16 → Stands es k 16 → i ≡ k
ops_in_one es i k s t =
    let a : i < k → ⊥ = λ h. let n = t.few i h in omega (arith, s.there) in
    let b : k < i → ⊥ = λ h. let n = s.few k h in omega (arith, t.there) in
    omega (arith, a, b)

ops_or_all : (es : List MarchElement) (i k j : ℕ) → Stands es i 16 → Stands es k j → j < 16 → before es k + j ≡ 256 → ⊥
ops_or_all es i k j s t less full =
    let a : i < k → ⊥ = λ h. let n = t.few i h in omega (arith, s.there) in
    let b : k < i → ⊥ = λ h. past_all es k j i 16 t full h s.within in
    let e : i ≡ k = omega (arith, a, b) in
    let w : before es k + 16 ≤ 256 = subst (λ n. before es n + 16 ≤ 256) e s.within in
    omega arith

record Starts (es : List MarchElement) : Type 0 where
  pub few : FewBefore es 64
  pub within : before es 64 ≤ 256

starts : (es : List MarchElement) (place : BeforeElement es) → IsWithin place.whole → length place.whole ≡ 64 → Starts es
starts es place w full =
    subst Starts (sym place.split)
    (record {
      few = subst (FewBefore (place.whole ++ place.next ∷ place.others)) full (few_before place.whole (place.next ∷ place.others) w.each);
      within =
          subst (λ n. before (place.whole ++ place.next ∷ place.others) n ≤ 256) full
          (omega (arith, w.ops_within, before_whole place.whole (place.next ∷ place.others)));
    })

ops_or_elements : (es : List MarchElement) (i : ℕ) → Stands es i 16 → Starts es → ⊥
ops_or_elements es i s t = let n = t.few i s.below in omega (arith, s.there)

all_or_elements : (es : List MarchElement) (i j : ℕ) → Stands es i j → before es i + j ≡ 256 → Starts es → ⊥
all_or_elements es i j s full t = past_all es i j 64 0 s full s.below (omega (arith, t.within))

at_sixteen : (es : List MarchElement) (k j : ℕ) → j ≡ 16 → Stands es k j → Stands es k 16
at_sixteen es k j e s = subst (Stands es k) e s

exceeds_once : (es : List MarchElement) (f g : MarchFault) → Exceeds es f → Exceeds es g → f ≡ g
exceeds_once es TooManyElements TooManyElements p q = refl
exceeds_once es TooManyInAll TooManyInAll p q = refl
exceeds_once es (TooManyOps i) (TooManyOps k) (p, w, n, e) (q, v, m, d) =
    ap TooManyOps (sym e ∙ ops_in_one es (length p.whole) (length q.whole) (at_sixteen es _ _ n (stands es p w)) (at_sixteen es _ _ m (stands es q v)) ∙ d)
exceeds_once es (TooManyOps i) TooManyInAll (p, w, n, e) (q, v, m, d) =
    absurd (ops_or_all es (length p.whole) (length q.whole) (length q.ops) (at_sixteen es _ _ n (stands es p w)) (stands es q v) m (in_all_there es q d))
exceeds_once es TooManyInAll (TooManyOps k) (p, w, n, e) (q, v, m, d) =
    absurd (ops_or_all es (length q.whole) (length p.whole) (length p.ops) (at_sixteen es _ _ m (stands es q v)) (stands es p w) n (in_all_there es p e))
exceeds_once es TooManyElements (TooManyOps k) (p, w, n) (q, v, m, d) =
    absurd (ops_or_elements es (length q.whole) (at_sixteen es _ _ m (stands es q v)) (starts es p w n))
exceeds_once es (TooManyOps k) TooManyElements (q, v, m, d) (p, w, n) =
    absurd (ops_or_elements es (length q.whole) (at_sixteen es _ _ m (stands es q v)) (starts es p w n))
exceeds_once es TooManyElements TooManyInAll (p, w, n) (q, v, m, d) =
    absurd (all_or_elements es (length q.whole) (length q.ops) (stands es q v) (in_all_there es q d) (starts es p w n))
exceeds_once es TooManyInAll TooManyElements (q, v, m, d) (p, w, n) =
    absurd (all_or_elements es (length q.whole) (length q.ops) (stands es q v) (in_all_there es q d) (starts es p w n))
exceeds_once es (Unexpected k) g p q = absurd p
exceeds_once es Truncated g p q = absurd p
exceeds_once es Empty g p q = absurd p
exceeds_once es (ReadBeforeWrite i j) g p q = absurd p
exceeds_once es (WrongExpect i j) g p q = absurd p
exceeds_once es f (Unexpected k) p q = absurd q
exceeds_once es f Truncated p q = absurd q
exceeds_once es f Empty p q = absurd q
exceeds_once es f (ReadBeforeWrite i j) p q = absurd q
exceeds_once es f (WrongExpect i j) p q = absurd q

-- ---- what exceeds a limit isn't within the limits

each_at : {A : Type 0} (P : A → Type 0) (xs : List A) (y : A) (ys : List A) → AllByRecursion P (xs ++ y ∷ ys) → P y
each_at P [] y ys h = h.0
each_at P (x ∷ xs) y ys h = each_at P xs y ys h.1

ops_count : (whole : List MarchElement) (e : MarchElement) (others : List MarchElement)
    → length (all_ops (whole ++ e ∷ others)) ≡ length (all_ops whole) + (length (ops_of e) + length (all_ops others))
ops_count whole e others =
    ap length (flat_map-append ops_of whole (e ∷ others)) ∙ length-append (all_ops whole) (ops_of e ++ all_ops others)
    ∙ ap (λ n. length (all_ops whole) + n) (length-append (ops_of e) (all_ops others))

more_ops_there : (es : List MarchElement) (place : BeforeOp es) → length place.ops + 1 ≤ length (ops_of place.element)
more_ops_there es place =
    let n : length (ops_of place.element) ≡ length place.ops + length (place.next ∷ place.more) =
    ap length place.ops_split ∙ length-append place.ops (place.next ∷ place.more) in
    omega arith

exceeds_past : (es : List MarchElement) (fault : MarchFault) → Exceeds es fault → IsWithin es → ⊥
exceeds_past es TooManyElements (place, w, n) m =
    omega (arith, m.elements_within, ap length place.split, length-append place.whole (place.next ∷ place.others))
exceeds_past es (TooManyOps i) (place, w, n, e) m =
    let few : length (ops_of place.element) ≤ 16 =
    each_at (λ e. length (ops_of e) ≤ 16) place.whole place.element place.others
    (subst (AllByRecursion (λ e. length (ops_of e) ≤ 16)) place.split m.each) in
    omega (arith, more_ops_there es place)
exceeds_past es TooManyInAll (place, w, n, e) m =
    let all : length (all_ops es) ≡ length (all_ops place.whole) + (length (ops_of place.element) + length (all_ops place.others)) =
    ap (λ x. length (all_ops x)) place.split ∙ ops_count place.whole place.element place.others in
    omega (arith, m.ops_within, so_far_count place.whole (order_of place.element) place.ops, more_ops_there es place)
exceeds_past es (Unexpected k) h m = h
exceeds_past es Truncated h m = h
exceeds_past es Empty h m = h
exceeds_past es (ReadBeforeWrite i j) h m = h
exceeds_past es (WrongExpect i j) h m = h

march_within : (es : List MarchElement) → IsMarch es → IsWithin es
march_within es march = record { elements_within = march.elements_within; each = each es march.each; ops_within = march.ops_within }
  where
    few : (e : MarchElement) → IsElement e → length (ops_of e) ≤ 16
    few pause h = omega arith
    few (sweep order ops) h = ⊎_elim (λ (p : is_pause (sweep order ops) ≡ true). cc) (λ (p : (0 < length ops) × (length ops ≤ 16)). p.1) h

    each : (xs : List MarchElement) → AllByRecursion IsElement xs → AllByRecursion (λ e. length (ops_of e) ≤ 16) xs
    each [] all = tt
    each (x ∷ xs) all = (few x all.0, each xs all.1)

-- ---- refusals

pub refuses_once : (es : List MarchElement) (f g : MarchFault) → Refuses es f → Refuses es g → f ≡ g
refuses_once es f g (inl p) (inl q) = exceeds_once es f g p q
refuses_once es f g (inl p) (inr q) = absurd (exceeds_past es f p q.0)
refuses_once es f g (inr p) (inl q) = absurd (exceeds_past es g q p.0)
refuses_once es f g (inr p) (inr q) = refused_once es f g p.1 q.1

pub refuses_no_march : (es : List MarchElement) (f : MarchFault) → Refuses es f → IsMarch es → ⊥
refuses_no_march es f (inl p) march = exceeds_past es f p (march_within es march)
refuses_no_march es f (inr p) march = refused_no_march es f p.1 march
