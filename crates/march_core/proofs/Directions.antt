-- Steps of a loop over the elements of a march, beside a direction word.
use Rattle.std.proofs.Common.{◌≡◌, ℕ, zero, suc, ◌+◌, ◌-◌, ◌<◌, ◌≤◌, List, [], ◌∷◌, length, get_or, drop, refl, ap, sym, ◌∙◌, arith, map, subst, ⊎_elim, Bool, true, false, ◌&&◌}
use Rattle.std.proofs.lemmas.List.{drop_more, drop_all}
use Rattle.std.specs.List.{AllByRecursion, range_with_len}
use Rattle.march_core.specs.declared.operation.Order.{Order}
use Rattle.march_core.specs.declared.operation.Op.{Op}
use Rattle.march_core.specs.March.{MarchElement, IsElement, order_of, ops_of, is_pause, order_at, ops_at, is_pause_at}
use Rattle.march_core.specs.Visits.{Direction, allows, is_direction, direction_at}

pub order_at-get : (es : List MarchElement) (i : ℕ) (d : MarchElement) → i < length es → order_at es i ≡ order_of (get_or es i d)
order_at-get [] i d h = absurd (omega arith)
order_at-get (e ∷ es) zero d h = refl
order_at-get (e ∷ es) (suc i) d h = order_at-get es i d (omega arith)

pub ops_at-get : (es : List MarchElement) (i : ℕ) (d : MarchElement) → i < length es → ops_at es i ≡ ops_of (get_or es i d)
ops_at-get [] i d h = absurd (omega arith)
ops_at-get (e ∷ es) zero d h = refl
ops_at-get (e ∷ es) (suc i) d h = ops_at-get es i d (omega arith)

pub is_pause_at-get : (es : List MarchElement) (i : ℕ) (d : MarchElement) → i < length es → is_pause_at es i ≡ is_pause (get_or es i d)
is_pause_at-get [] i d h = absurd (omega arith)
is_pause_at-get (e ∷ es) zero d h = refl
is_pause_at-get (e ∷ es) (suc i) d h = is_pause_at-get es i d (omega arith)

-- an element of a march that isn't a pause has an operation
pub sweep_has_ops : (es : List MarchElement) (i : ℕ) → AllByRecursion IsElement es → i < length es → is_pause_at es i ≡ false → 0 < length (ops_at es i)
sweep_has_ops [] i all h p = absurd (omega arith)
sweep_has_ops (e ∷ es) zero all h p =
    ⊎_elim (λ (q : is_pause e ≡ true). cc) (λ (q : (0 < length (ops_of e)) × (length (ops_of e) ≤ 16)). q.0) all.0
sweep_has_ops (e ∷ es) (suc i) all h p = sweep_has_ops es i all.1 (omega arith) p

pub some_ops : (held es : List MarchElement) (i : ℕ) (ops : List Op) → held ≡ es → AllByRecursion IsElement held → i < length es → ops ≡ ops_at es i
    → is_pause_at es i ≡ false → 0 < length ops
some_ops held es i ops same all h is p =
    let has : 0 < length (ops_at es i) = sweep_has_ops es i (subst (AllByRecursion IsElement) same all) h p in omega (arith, ap length is)

-- the rest of a range begins with its number
pub range_more : (i n : ℕ) → i < n → range_with_len i (n - i) ≡ i ∷ range_with_len (i + 1) (n - (i + 1))
range_more i n h =
    let e : n - i ≡ suc (n - (i + 1)) = omega arith in rw e refl

-- the directions of the elements from this one on
abbrev pub directions_from : ℕ → ℕ → ℕ → List Direction
directions_from word i n = map (direction_at word) (range_with_len i (n - i))

pub direction_step : (es : List MarchElement) (word i : ℕ) (d : MarchElement) (order : Order) → i < length es → d ≡ get_or es i d → order ≡ order_of d
    → is_direction (drop i es) (directions_from word i (length es))
    ≡ allows order (direction_at word i) && is_direction (drop (i + 1) es) (directions_from word (i + 1) (length es))
direction_step es word i d order h at is =
    let same : order ≡ order_of (get_or es i d) = is ∙ ap order_of at in
    rw (drop_more es i d h, range_more i (length es) h, same) refl

pub direction_end : (es : List MarchElement) (word i : ℕ) → length es ≤ i → is_direction (drop i es) (directions_from word i (length es)) ≡ true
direction_end es word i h =
    let none : length es - i ≡ 0 = omega arith in
    rw (drop_all i es h, none) refl

pub order_read : (held es : List MarchElement) (i : ℕ) (e : MarchElement) (order : Order) → held ≡ es → i < length es → e ≡ get_or held i e → order ≡ order_of e → order ≡ order_at es i
order_read held es i e order same h at is =
    is ∙ ap order_of at ∙ sym (order_at-get held i e (rw same h)) ∙ ap (λ l. order_at l i) same

pub ops_read : (held es : List MarchElement) (i : ℕ) (e : MarchElement) (ops : List Op) → held ≡ es → i < length es → e ≡ get_or held i e → ops ≡ ops_of e → ops ≡ ops_at es i
ops_read held es i e ops same h at is =
    is ∙ ap ops_of at ∙ sym (ops_at-get held i e (rw same h)) ∙ ap (λ l. ops_at l i) same

pub pause_read : (held es : List MarchElement) (i : ℕ) (e : MarchElement) (b : Bool) → held ≡ es → i < length es → e ≡ get_or held i e → b ≡ is_pause e → b ≡ is_pause_at es i
pause_read held es i e b same h at is =
    is ∙ ap is_pause at ∙ sym (is_pause_at-get held i e (rw same h)) ∙ ap (λ l. is_pause_at l i) same

pub refused_at : (es : List MarchElement) (word i : ℕ) (d : MarchElement) (order : Order) (whole : Bool) → i < length es → d ≡ get_or es i d → order ≡ order_of d
    → false ≡ allows order (direction_at word i) → is_direction (drop i es) (directions_from word i (length es)) ≡ whole → false ≡ whole
refused_at es word i d order whole h at is refused before =
    let step = direction_step es word i d order h at is in
    let stopped : allows order (direction_at word i) && is_direction (drop (i + 1) es) (directions_from word (i + 1) (length es)) ≡ false =
    ap (λ b. b && is_direction (drop (i + 1) es) (directions_from word (i + 1) (length es))) (sym refused) in
    sym stopped ∙ sym step ∙ before

pub allowed_at : (es : List MarchElement) (word i : ℕ) (d : MarchElement) (order : Order) (whole : Bool) → i < length es → d ≡ get_or es i d → order ≡ order_of d
    → true ≡ allows order (direction_at word i) → is_direction (drop i es) (directions_from word i (length es)) ≡ whole
    → is_direction (drop (i + 1) es) (directions_from word (i + 1) (length es)) ≡ whole
allowed_at es word i d order whole h at is allowed before =
    let step = direction_step es word i d order h at is in
    let goes_on : allows order (direction_at word i) && is_direction (drop (i + 1) es) (directions_from word (i + 1) (length es))
    ≡ is_direction (drop (i + 1) es) (directions_from word (i + 1) (length es)) =
    ap (λ b. b && is_direction (drop (i + 1) es) (directions_from word (i + 1) (length es))) (sym allowed) in
    sym goes_on ∙ sym step ∙ before
