-- What one more operation in the last element changes.
use Rattle.std.proofs.Common.{◌≡◌, ℕ, suc, Bool, true, false, ◌==◌, ◌&&◌, ◌||◌, inl, inr, ◌+◌, ◌-◌, ◌<◌, ◌≤◌, List, [], ◌∷◌, ◌++◌, length, get_or, set, refl, ap, sym, ◌∙◌, arith, length-append, take, drop, not, IsTrue, ◌↔◌, ⊎_elim}
use Rattle.std.proofs.Math.Seq.{take-append_seam}
use Rattle.std.specs.List.{AllByRecursion, refill}
use Rattle.march_core.specs.declared.operation.Op.{Op}
use Rattle.std.proofs.lemmas.Bool.Decides.{nat_tests}
use Rattle.march_core.specs.March.{MarchElement, pause, sweep, order_of, ops_of, is_pause, all_ops, has_sweep, IsElement, IsMarch}
use Rattle.march_core.specs.Building.{with_op, last_ops, ends_in_sweep, HasOps, IsBuilt, IsFilled}
use Rattle.march_core.specs.inner.Building.{some_empty}
use Rattle.march_core.specs.Operation.{IsConsistent}

-- an element with one more operation
abbrev pub pushed : MarchElement → Op → MarchElement
pushed e op = sweep (order_of e) (ops_of e ++ op ∷ [])

-- an element at the end is an element
pub sweep_is_some : (xs : List MarchElement) → IsTrue (ends_in_sweep xs) → 0 < length xs
sweep_is_some [] h = cc
sweep_is_some (e ∷ es) h = omega arith

pub last_ops-get : (xs : List MarchElement) (d : MarchElement) → 0 < length xs → last_ops xs ≡ ops_of (get_or xs (length xs - 1) d)
last_ops-get [] d h = absurd (omega arith)
last_ops-get (e ∷ []) d h = refl
last_ops-get (e ∷ f ∷ es) d h =
    let n : length (e ∷ f ∷ es) - 1 ≡ suc (length (f ∷ es) - 1) = omega arith in
    rw n (last_ops-get (f ∷ es) d (omega arith))

-- the element at the end, where it isn't a pause
pub sweep_at_end : (xs : List MarchElement) (d : MarchElement) → IsTrue (ends_in_sweep xs) → is_pause (get_or xs (length xs - 1) d) ≡ false
sweep_at_end [] d h = cc
sweep_at_end (pause ∷ []) d h = cc
sweep_at_end (sweep order ops ∷ []) d h = refl
sweep_at_end (e ∷ f ∷ es) d h =
    let n : length (e ∷ f ∷ es) - 1 ≡ suc (length (f ∷ es) - 1) = omega arith in
    rw n (sweep_at_end (f ∷ es) d h)

-- the write of the last element
pub write_last : (xs : List MarchElement) (d new : MarchElement) (op : Op) → 0 < length xs
    → new ≡ pushed (get_or xs (length xs - 1) d) op → set xs (length xs - 1) new ≡ with_op xs op
write_last [] d new op h e = absurd (omega arith)
write_last (x ∷ []) d new op h e = ap (λ n. n ∷ []) e
write_last (x ∷ f ∷ es) d new op h e =
    let n : length (x ∷ f ∷ es) - 1 ≡ suc (length (f ∷ es) - 1) = omega arith in
    rw n (ap (λ l. x ∷ l) (write_last (f ∷ es) d new op (omega arith) (rw n at e)))

pub length-with_op : (xs : List MarchElement) (op : Op) → length (with_op xs op) ≡ length xs
length-with_op [] op = refl
length-with_op (x ∷ []) op = refl
length-with_op (x ∷ f ∷ es) op = ap suc (length-with_op (f ∷ es) op)

pub length-all_ops-with_op : (xs : List MarchElement) (op : Op) → 0 < length xs → length (all_ops (with_op xs op)) ≡ length (all_ops xs) + 1
length-all_ops-with_op [] op h = absurd (omega arith)
length-all_ops-with_op (x ∷ []) op h = simp length-append (omega arith)
length-all_ops-with_op (x ∷ f ∷ es) op h =
    let rest = length-all_ops-with_op (f ∷ es) op (omega arith) in
    rw (length-append (ops_of x) (all_ops (with_op (f ∷ es) op)), length-append (ops_of x) (all_ops (f ∷ es))) (omega (arith, rest))

pub within-with_op : (xs : List MarchElement) (op : Op) → AllByRecursion (λ e. length (ops_of e) ≤ 16) xs → length (last_ops xs) < 16
    → AllByRecursion (λ e. length (ops_of e) ≤ 16) (with_op xs op)
within-with_op [] op all room = tt
within-with_op (x ∷ []) op all room = (simp length-append (omega arith), tt)
within-with_op (x ∷ f ∷ es) op all room = (all.0, within-with_op (f ∷ es) op all.1 room)

-- one more operation keeps what a builder keeps
pub built-with_op : (xs : List MarchElement) (total : ℕ) (op : Op) → IsBuilt xs total → 0 < length xs → length (last_ops xs) < 16 → total < 256
    → IsBuilt (with_op xs op) (total + 1)
built-with_op xs total op built some room within =
    record {
      each = within-with_op xs op built.each room;
      counted = omega (arith, built.counted, length-all_ops-with_op xs op some);
      within = omega arith;
    }

-- an element that isn't a pause and has no operation
abbrev pub is_empty : MarchElement → Bool
is_empty e = not (is_pause e) && (length (ops_of e) == 0)

has_ops : (e : MarchElement) → is_empty e ≡ false → HasOps e
has_ops pause h = inl refl
has_ops (sweep order []) h = cc
has_ops (sweep order (op ∷ ops)) h = inr (omega arith)

no_ops : (e : MarchElement) → is_empty e ≡ true → HasOps e → ⊥
no_ops pause h has = cc
no_ops (sweep order []) h has = ⊎_elim (λ (p : false ≡ true). cc) (λ (p : 0 < 0). omega arith) has
no_ops (sweep order (op ∷ ops)) h has = filled (length ops) h
  where
    filled : (n : ℕ) → (suc n == 0) ≡ true → ⊥
    filled n e = grind (arith, nat_tests)

pub all_filled : (xs : List MarchElement) → some_empty xs ≡ false → AllByRecursion HasOps xs
all_filled [] none = tt
all_filled (x ∷ xs) none = (has_ops x (first (is_empty x) (some_empty xs) none), all_filled xs (rest (is_empty x) (some_empty xs) none))
  where
    first : (a b : Bool) → a || b ≡ false → a ≡ false
    first true b e = e
    first false b e = refl

    rest : (a b : Bool) → a || b ≡ false → b ≡ false
    rest true b e = cc
    rest false b e = e

pub not_filled : (xs : List MarchElement) → some_empty xs ≡ true → AllByRecursion HasOps xs → ⊥
not_filled [] e all = cc
not_filled (x ∷ xs) e all = either (is_empty x) (some_empty xs) refl e (no_ops x) (λ (rest : some_empty xs ≡ true). not_filled xs rest all.1)
  where
    either : (a b : Bool) → is_empty x ≡ a → a || b ≡ true → (is_empty x ≡ true → HasOps x → ⊥) → (b ≡ true → ⊥) → ⊥
    either true b is e first rest = first is all.0
    either false b is e first rest = rest e

-- where something has an operation, something isn't a pause
pub ops_sweep : (xs : List MarchElement) → 0 < length (all_ops xs) → IsTrue (has_sweep xs)
ops_sweep [] h = absurd (omega arith)
ops_sweep (pause ∷ xs) h = ops_sweep xs h
ops_sweep (sweep order ops ∷ xs) h = refl

-- what isn't a pause has an operation
pub sweep_ops : (xs : List MarchElement) → IsTrue (has_sweep xs) → AllByRecursion HasOps xs → 0 < length (all_ops xs)
sweep_ops [] h all = cc
sweep_ops (pause ∷ xs) h all = sweep_ops xs h all.1
sweep_ops (sweep order ops ∷ xs) h all =
    ⊎_elim (λ (p : false ≡ true). cc) (λ (p : 0 < length ops). simp length-append (omega arith)) all.0

-- the elements of a march have operations
pub march_filled : (xs : List MarchElement) → IsMarch xs → IsFilled xs
march_filled xs march = (march.some, each xs march.each)
  where
    each : (xs : List MarchElement) → AllByRecursion IsElement xs → AllByRecursion HasOps xs
    each [] all = tt
    each (x ∷ xs) all =
        (⊎_elim (λ (p : is_pause x ≡ true). inl p) (λ (h : (0 < length (ops_of x)) × (length (ops_of x) ≤ 16)). inr (h.0)) all.0, each xs all.1)

-- a march has an element
pub march_some : (xs : List MarchElement) → IsMarch xs → 0 < length xs
march_some [] march = let some = march.some in cc
march_some (x ∷ xs) march = omega arith

pub filled_march : (xs : List MarchElement) (total : ℕ) → IsBuilt xs total → length xs ≤ 64 → IsFilled xs → IsConsistent (all_ops xs) → IsMarch xs
filled_march xs total built within filled consistent =
    record {
      some = filled.0;
      elements_within = within;
      each = each xs built.each filled.1;
      ops_within = omega (arith, built.counted, built.within);
      consistent = consistent;
    }
  where
    each : (xs : List MarchElement) → AllByRecursion (λ e. length (ops_of e) ≤ 16) xs → AllByRecursion HasOps xs → AllByRecursion IsElement xs
    each [] within filled = tt
    each (x ∷ xs) within filled =
        (⊎_elim (λ (p : is_pause x ≡ true). inl p) (λ (h : 0 < length (ops_of x)). inr (h, within.0)) filled.0, each xs within.1 filled.1)

-- a number that isn't the greatest allowed is below it
pub room_left : (xs ys : List MarchElement) (held : ℕ) → AllByRecursion (λ e. length (ops_of e) ≤ 16) xs → ys ≡ xs → 0 < length xs → held ≡ length (last_ops xs) → (held ≡ 16 → ⊥)
    → length (last_ops ys) < 16
room_left xs ys held all same some is other = rw same (omega (arith, last_within xs all some, is, other))
  where
    last_within : (xs : List MarchElement) → AllByRecursion (λ e. length (ops_of e) ≤ 16) xs → 0 < length xs → length (last_ops xs) ≤ 16
    last_within [] all some = absurd (omega arith)
    last_within (x ∷ []) all some = all.0
    last_within (x ∷ f ∷ es) all some = last_within (f ∷ es) all.1 (omega arith)

-- where an operation was taken there was room
pub taken_room : (xs now self : List MarchElement) (total : ℕ) (b : Bool) → b ≡ true → IsBuilt xs total → xs ≡ self → now ≡ xs → length (last_ops now) < 16 → (total ≡ 256 → ⊥)
    → (b ≡ true) ↔ ((length (last_ops self) < 16) × (length (all_ops self) < 256))
taken_room xs now self total b taken built same read room other =
    let last : length (last_ops self) < 16 = rw (← same) (rw (← read) room) in
    let all : length (all_ops self) < 256 = rw (← same) (omega (arith, built.counted, built.within)) in
    (λ t. (last, all), λ r. taken)

-- a whole slice written back over one of its length is that slice
pub refill_whole : (old new : List MarchElement) → length new ≡ length old → refill (length old) old new ≡ new
refill_whole old new same = ap (λ n. take n (new ++ drop (length new) old)) (sym same) ∙ take-append_seam new (drop (length new) old)

pub built_after : (old now new : List MarchElement) (total : ℕ) (op : Op) → IsBuilt old total → 0 < length old → length (last_ops now) < 16
    → (total ≡ 256 → ⊥) → now ≡ old → new ≡ with_op now op → IsBuilt (refill (length old) old new) (total + 1)
built_after old now new total op built some room other same after =
    let within : total ≤ 256 = built.within in
    let is : new ≡ with_op old op = after ∙ ap (λ l. with_op l op) same in
    let lengths : length new ≡ length old = ap length is ∙ length-with_op old op in
    rw (refill_whole old new lengths) (rw is (built-with_op old total op built some (rw same at room) (omega arith)))

pub filled_iff : (es : List MarchElement) (total : ℕ) (b : Bool) → b ≡ some_empty es → total ≡ length (all_ops es) → (total ≡ 0 → ⊥) → IsTrue (not b) ↔ IsFilled es
filled_iff es total true e counted some = (λ t. absurd (cc), λ filled. absurd (not_filled es (sym e) filled.1))
filled_iff es total false e counted some = (λ t. (ops_sweep es (omega arith), all_filled es (sym e)), λ filled. refl)

pub unfilled : (es : List MarchElement) (total : ℕ) → total ≡ length (all_ops es) → total ≡ 0 → IsTrue (not (total == 0)) ↔ IsFilled es
unfilled es total counted none =
    let zero_ops : not (total == 0) ≡ false = grind (arith, nat_tests) in
    (λ t. absurd (none_true (not (total == 0)) zero_ops t), λ filled. let some = sweep_ops es filled.0 filled.1 in absurd (omega arith))
  where
    none_true : (b : Bool) → b ≡ false → IsTrue b → ⊥
    none_true b e t = cc
