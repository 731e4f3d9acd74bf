-- The addresses of an array do the same as its shape.
use Rattle.std.proofs.Common.{◌≡◌, ◌≢◌, ◌+◌, ◌-◌, ◌<◌, ◌≤◌, ℕ, zero, suc, Bool, true, false, cond, nat_lt, Option, Some, None, List, [], ◌∷◌, ◌++◌, map, reverse, refl, ap, sym, subst, ◌∙◌, append-nil, arith}
use Rattle.std.proofs.lemmas.List.{reverse-append}
use Rattle.std.proofs.lemmas.Bool.Decides.{nat_tests}
use Rattle.std.specs.List.{range_with_len}
use Rattle.std.specs.Option.{option_and_then}
use Rattle.march_core.specs.declared.operation.Op.{Op}
use Rattle.march_core.specs.Visits.{Upward, Downward, addresses}
use Rattle.cell_machine.specs.declared.pair.Side.{Side}
use Rattle.cell_machine.specs.declared.pair.Side.TheVariants.{A, V}
use Rattle.dynamic_core.specs.Primitive.{DynamicPrimitive}
use Rattle.dynamic_prover.specs.declared.own_cells.OwnCells.{OwnCells}
use Rattle.pair_tracker.specs.Few.{ops_run}
use Rattle.dynamic_prover.specs.inner.Own.{machine_of}
use Rattle.pair_tracker.specs.Few.{passed, cells_run}
use Rattle.dynamic_prover.specs.inner.Shapes.{is_some_cell, shape_as, shape_of, in_direction, other_cells, tags_of}
use Rattle.pair_tracker.proofs.Tags.{map-reverse, side_at, side_at-aggressor, side_at-victim, side_at-elsewhere}
use Rattle.dynamic_prover.proofs.Passing.{DoesSame}
use Rattle.dynamic_prover.proofs.Crossing.{other_side, crossing}

-- two lists of cells that do the same
abbrev Does : DynamicPrimitive → List Op → List (Option Side) → List (Option Side) → Type 0
Does p ops xs ys = (q : OwnCells) → cells_run (machine_of p) q xs ops ≡ cells_run (machine_of p) q ys ops

abbrev others : ℕ → List (Option Side)
others zero = []
others (suc n) = None ∷ others n

-- a place of this many cells
abbrev block : ℕ → List (Option Side)
block n = other_cells (is_some_cell n)

abbrev past : ℕ → Side → List (Option Side) → List (Option Side)
past n s rest = others n ++ Some s ∷ rest

passed_again : (p : DynamicPrimitive) (ops : List Op) (q : OwnCells) → passed (machine_of p) ops (passed (machine_of p) ops q) ≡ passed (machine_of p) ops q
passed_again p [] q = refl
passed_again p (op ∷ ops) q = refl

-- a place of other cells does what one of them does
more_others : (p : DynamicPrimitive) (ops : List Op) (n : ℕ) (rest : List (Option Side)) (q : OwnCells)
    → cells_run (machine_of p) (passed (machine_of p) ops q) (others n ++ rest) ops ≡ cells_run (machine_of p) (passed (machine_of p) ops q) rest ops
more_others p ops zero rest q = refl
more_others p ops (suc n) rest q =
    ap (λ r. cells_run (machine_of p) r (others n ++ rest) ops) (passed_again p ops q) ∙ more_others p ops n rest q

does_block : (p : DynamicPrimitive) (ops : List Op) (n : ℕ) (rest : List (Option Side)) → Does p ops (others n ++ rest) (block n ++ rest)
does_block p ops zero rest q = refl
does_block p ops (suc n) rest q = more_others p ops n rest q

does_rest : (p : DynamicPrimitive) (ops : List Op) (n : ℕ) (xs ys : List (Option Side)) → Does p ops xs ys → Does p ops (block n ++ xs) (block n ++ ys)
does_rest p ops zero xs ys d q = d q
does_rest p ops (suc n) xs ys d q = d (passed (machine_of p) ops q)

does_side : (p : DynamicPrimitive) (ops : List Op) (s : Side) (xs ys : List (Option Side)) → Does p ops xs ys → Does p ops (Some s ∷ xs) (Some s ∷ ys)
does_side p ops s xs ys d q = go (ops_run (machine_of p) q s ops)
  where
    go : (r : Option OwnCells) → option_and_then (λ r. cells_run (machine_of p) r xs ops) r ≡ option_and_then (λ r. cells_run (machine_of p) r ys ops) r
    go None = refl
    go (Some r) = d r

does_behind : (p : DynamicPrimitive) (ops : List Op) (n : ℕ) (s : Side) (xs ys : List (Option Side)) → Does p ops (Some s ∷ xs) (Some s ∷ ys)
    → Does p ops (past n s xs) (block n ++ Some s ∷ ys)
does_behind p ops n s xs ys d q = does_block p ops n (Some s ∷ xs) q ∙ does_rest p ops n (Some s ∷ xs) (Some s ∷ ys) d q

does_last : (p : DynamicPrimitive) (ops : List Op) (n : ℕ) → Does p ops (others n) (block n)
does_last p ops n q =
    ap (λ l. cells_run (machine_of p) q l ops) (sym (append-nil (others n))) ∙ does_block p ops n [] q ∙ ap (λ l. cells_run (machine_of p) q l ops) (append-nil (block n))

-- other cells between the two do nothing
does_between : (p : DynamicPrimitive) (ops : List Op) (n : ℕ) (s : Side) (xs ys : List (Option Side)) → Does p ops xs ys
    → Does p ops (Some s ∷ past n (other_side s) xs) (Some s ∷ Some (other_side s) ∷ ys)
does_between p ops n s xs ys d q = go (ops_run (machine_of p) q s ops) refl
  where
    t : Side
    t = other_side s

    near : (r : OwnCells) → ops_run (machine_of p) q s ops ≡ Some r → (n : ℕ) → cells_run (machine_of p) r (block n ++ Some t ∷ ys) ops ≡ cells_run (machine_of p) r (Some t ∷ ys) ops
    near r e zero = refl
    near r e (suc n) = ap (option_and_then (λ z. cells_run (machine_of p) z ys ops)) (crossing p s ops q r e)

    go : (o : Option OwnCells) → ops_run (machine_of p) q s ops ≡ o
        → option_and_then (λ r. cells_run (machine_of p) r (past n t xs) ops) o ≡ option_and_then (λ r. cells_run (machine_of p) r (Some t ∷ ys) ops) o
    go None e = refl
    go (Some r) e = does_behind p ops n t xs ys (does_side p ops t xs ys d) r ∙ near r e n

-- lists from behind
reverse-others : (n : ℕ) → reverse (others n) ≡ others n
reverse-others zero = refl
reverse-others (suc n) = reverse-append (None ∷ []) (others n) ∙ ap (λ l. l ++ None ∷ []) (reverse-others n) ∙ turn n
  where
    turn : (n : ℕ) → others n ++ None ∷ [] ≡ others (suc n)
    turn zero = refl
    turn (suc n) = ap (λ l. None ∷ l) (turn n)

-- one cell between two lists
reverse-between : (xs ys : List (Option Side)) (s : Side) → reverse (xs ++ Some s ∷ ys) ≡ reverse ys ++ Some s ∷ reverse xs
reverse-between xs ys s =
    reverse-append xs (Some s ∷ ys) ∙ ap (λ l. l ++ reverse xs) (reverse-append (Some s ∷ []) ys) ∙ regroup (reverse ys) (reverse xs)
  where
    regroup : (us ws : List (Option Side)) → (us ++ Some s ∷ []) ++ ws ≡ us ++ Some s ∷ ws
    regroup [] ws = refl
    regroup (u ∷ us) ws = ap (λ l. u ∷ l) (regroup us ws)

regroup_two : (xs ys zs : List (Option Side)) (s t : Side) → (zs ++ Some t ∷ ys) ++ Some s ∷ xs ≡ zs ++ Some t ∷ (ys ++ Some s ∷ xs)
regroup_two xs ys [] s t = refl
regroup_two xs ys (z ∷ zs) s t = ap (λ l. z ∷ l) (regroup_two xs ys zs s t)

reverse-one : (n r : ℕ) (s : Side) → reverse (past n s (others r)) ≡ past r s (others n)
reverse-one n r s =
    reverse-between (others n) (others r) s ∙ ap (λ l. l ++ Some s ∷ reverse (others n)) (reverse-others r) ∙ ap (λ l. past r s l) (reverse-others n)

reverse-two : (n m r : ℕ) (s t : Side) → reverse (past n s (past m t (others r))) ≡ past r t (past m s (others n))
reverse-two n m r s t =
    reverse-between (others n) (past m t (others r)) s ∙ ap (λ l. l ++ Some s ∷ reverse (others n)) (reverse-one m r t)
    ∙ ap (λ l. (past r t (others m)) ++ Some s ∷ l) (reverse-others n) ∙ regroup_two (others n) (others m) (others r) s t

-- which cells a range of addresses holds
range_off : (a v k m : ℕ) → ((x : ℕ) → k ≤ x → x < k + m → (x ≢ a) × (x ≢ v)) → map (side_at a v) (range_with_len k m) ≡ others m
range_off a v k zero off = refl
range_off a v k (suc m) off =
    let here = off k (omega arith) (omega arith) in
    ap (λ t. t ∷ map (side_at a v) (range_with_len (k + 1) m)) (side_at-elsewhere a v k here.0 here.1)
    ∙ ap (λ l. None ∷ l) (range_off a v (k + 1) m (λ x low high. off x (omega arith) (omega arith)))

-- a cell of the instance behind m others
range_past : (a v k m r : ℕ) (s : Side) → side_at a v (k + m) ≡ Some s → ((x : ℕ) → k ≤ x → x < k + m → (x ≢ a) × (x ≢ v))
    → map (side_at a v) (range_with_len k (m + suc r)) ≡ past m s (map (side_at a v) (range_with_len (k + m + 1) r))
range_past a v k zero r s is off =
    let from : k + 0 ≡ k = omega arith in
    let len : 0 + suc r ≡ suc r = omega arith in
    ap (λ l. map (side_at a v) (range_with_len k l)) len
    ∙ ap (λ x. side_at a v x ∷ map (side_at a v) (range_with_len (x + 1) r)) (sym from)
    ∙ ap (λ t. t ∷ map (side_at a v) (range_with_len (k + 0 + 1) r)) is
range_past a v k (suc m) r s is off =
    let here = off k (omega arith) (omega arith) in
    let len : suc m + suc r ≡ suc (m + suc r) = omega arith in
    let next : k + 1 + m ≡ k + suc m = omega arith in
    ap (λ l. map (side_at a v) (range_with_len k l)) len
    ∙ ap (λ t. t ∷ map (side_at a v) (range_with_len (k + 1) (m + suc r))) (side_at-elsewhere a v k here.0 here.1)
    ∙ ap (λ l. None ∷ l)
    (range_past a v (k + 1) m r s (ap (side_at a v) next ∙ is) (λ x low high. off x (omega arith) (omega arith))
    ∙ ap (λ x. past m s (map (side_at a v) (range_with_len (x + 1) r))) next)

-- the whole array
range_two : (a v n x y : ℕ) (s t : Side) → x < y → y < n → side_at a v x ≡ Some s → side_at a v y ≡ Some t → ((z : ℕ) → z ≢ x → z ≢ y → (z ≢ a) × (z ≢ v))
    → map (side_at a v) (range_with_len 0 n) ≡ past x s (past (y - 1 - x) t (others (n - 1 - y)))
range_two a v n x y s t xy yn sx sy off =
    let whole : n ≡ x + suc (n - 1 - x) = omega arith in
    let mid : n - 1 - x ≡ (y - 1 - x) + suc (n - 1 - y) = omega arith in
    let zero_x : 0 + x ≡ x = omega arith in
    let at_y : 0 + x + 1 + (y - 1 - x) ≡ y = omega arith in
    ap (λ l. map (side_at a v) (range_with_len 0 l)) whole
    ∙ range_past a v 0 x (n - 1 - x) s (ap (side_at a v) zero_x ∙ sx) (λ z low high. off z (omega arith) (omega arith))
    ∙ ap (λ l. past x s (map (side_at a v) (range_with_len (0 + x + 1) l))) mid
    ∙ ap (past x s)
    (range_past a v (0 + x + 1) (y - 1 - x) (n - 1 - y) t (ap (side_at a v) at_y ∙ sy) (λ z low high. off z (omega arith) (omega arith))
    ∙ ap (past (y - 1 - x) t) (range_off a v (0 + x + 1 + (y - 1 - x) + 1) (n - 1 - y) (λ z low high. off z (omega arith) (omega arith))))

range_one : (a v n : ℕ) → n ≤ a → v < n → map (side_at a v) (range_with_len 0 n) ≡ past v V (others (n - 1 - v))
range_one a v n far within =
    let apart : a ≢ v = omega arith in
    let whole : n ≡ v + suc (n - 1 - v) = omega arith in
    let zero_v : 0 + v ≡ v = omega arith in
    ap (λ l. map (side_at a v) (range_with_len 0 l)) whole
    ∙ range_past a v 0 v (n - 1 - v) V (ap (side_at a v) zero_v ∙ side_at-victim a v apart) (λ z low high. (omega arith, omega arith))
    ∙ ap (past v V) (range_off a v (0 + v + 1) (n - 1 - v) (λ z low high. (omega arith, omega arith)))

-- two cells of the array, in the order of their addresses
over_two : (p : DynamicPrimitive) (a v n l m r : ℕ) (s : Side) → map (side_at a v) (range_with_len 0 n) ≡ past l s (past m (other_side s) (others r))
    → DoesSame p a v n (shape_as (is_some_cell l) s (Some (other_side s)) (is_some_cell r))
unfolding addresses
over_two p a v n l m r s e Upward q ops =
    ap (λ x. cells_run (machine_of p) q x ops) e ∙ does_behind p ops l s (past m (other_side s) (others r)) (Some (other_side s) ∷ block r) (does_between p ops m s (others r) (block r) (does_last p ops r)) q
over_two p a v n l m r s e Downward q ops =
    ap (λ x. cells_run (machine_of p) q x ops) (map-reverse (side_at a v) (range_with_len 0 n) ∙ ap reverse e ∙ reverse-two l m r s (other_side s))
    ∙ back s
  where
    back : (s : Side) → cells_run (machine_of p) q (past r (other_side s) (past m s (others l))) ops
        ≡ cells_run (machine_of p) q (tags_of (in_direction Downward (shape_as (is_some_cell l) s (Some (other_side s)) (is_some_cell r)))) ops
    back A = does_behind p ops r V (past m A (others l)) (Some A ∷ block l) (does_between p ops m V (others l) (block l) (does_last p ops l)) q
    back V = does_behind p ops r A (past m V (others l)) (Some V ∷ block l) (does_between p ops m A (others l) (block l) (does_last p ops l)) q

over_one : (p : DynamicPrimitive) (a v n l r : ℕ) (s : Side) → map (side_at a v) (range_with_len 0 n) ≡ past l s (others r)
    → DoesSame p a v n (shape_as (is_some_cell l) s None (is_some_cell r))
unfolding addresses
over_one p a v n l r s e Upward q ops =
    ap (λ x. cells_run (machine_of p) q x ops) e ∙ does_behind p ops l s (others r) (block r) (does_side p ops s (others r) (block r) (does_last p ops r)) q
over_one p a v n l r s e Downward q ops =
    ap (λ x. cells_run (machine_of p) q x ops) (map-reverse (side_at a v) (range_with_len 0 n) ∙ ap reverse e ∙ reverse-one l r s)
    ∙ does_behind p ops r s (others l) (block l) (does_side p ops s (others l) (block l) (does_last p ops l)) q

-- two cells of the array
pub over_pair : (p : DynamicPrimitive) (a v n : ℕ) → a ≢ v → a < n → v < n → DoesSame p a v n (shape_of (Some a) v n)
over_pair p a v n ne an vn = go (nat_lt a v) refl
  where
    Goal : Bool → Type 0
    Goal b = DoesSame p a v n (cond b (shape_as (is_some_cell a) A (Some V) (is_some_cell (n - 1 - v))) (shape_as (is_some_cell v) V (Some A) (is_some_cell (n - 1 - a))))

    up : a < v → Goal true
    up lt = over_two p a v n a (v - 1 - a) (n - 1 - v) A (range_two a v n a v A V lt vn (side_at-aggressor a v) (side_at-victim a v ne) (λ z za zv. (za, zv)))

    down : v < a → Goal false
    down lt = over_two p a v n v (a - 1 - v) (n - 1 - a) V (range_two a v n v a V A lt an (side_at-victim a v ne) (side_at-aggressor a v) (λ z zv za. (za, zv)))

    less : nat_lt a v ≡ true → a < v
    less e = grind (arith, nat_tests)

    more : nat_lt a v ≡ false → v < a
    more e = grind (arith, nat_tests)

    go : (b : Bool) → nat_lt a v ≡ b → Goal (nat_lt a v)
    go true e = subst Goal (sym e) (up (less e))
    go false e = subst Goal (sym e) (down (more e))

-- the victim alone
pub over_victim : (p : DynamicPrimitive) (a v n : ℕ) → n ≤ a → v < n → DoesSame p a v n (shape_of None v n)
over_victim p a v n high within = over_one p a v n v (n - 1 - v) V (range_one a v n high within)
