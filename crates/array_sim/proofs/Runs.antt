-- Runs of steps, one part after another.
use Rattle.std.proofs.Common.{◌≡◌, ℕ, zero, suc, ◌+◌, ◌-◌, ◌<◌, ◌≤◌, Bool, true, false, cond, Option, Some, None, List, [], ◌∷◌, ◌++◌, length, get_or, drop, reverse, refl, ap, sym, ◌∙◌, arith}
use Rattle.std.proofs.lemmas.List.{drop_more, drop_all, get_or-reverse, length-reverse, map-append}
use Rattle.std.proofs.lemmas.List.FromFn.{length-range_with_len, get_or-range_with_len}
use Rattle.std.specs.List.{range_with_len}
use Rattle.fault_core.specs.declared.cells.Places.{Places}
use Rattle.fault_core.specs.Primitive.{Primitive}
use Rattle.fault_core.specs.Cells.{step_cells, step_answer, pause_cells}
use Rattle.march_core.specs.declared.operation.Op.{Op}
use Rattle.march_core.specs.March.{MarchElement, pause, sweep, element_at, order_at, ops_at, is_pause_at}
use Rattle.march_core.specs.Operation.{is_wrong_of}
use Rattle.march_core.specs.Visits.{Visit, MarchStep, pausing, visiting, miss_at, Direction, Upward, Downward, cell_visits, address_visits, addresses, element_visits, visits_from, is_down_at, direction_at}
use Rattle.march_core.specs.Addresses.{address_at, direction_of}
use Rattle.march_core.specs.inner.Addresses.{steps_of}
use Rattle.march_core.specs.declared.visit.Miss.{Miss}
use Rattle.march_core.proofs.Directions.{directions_from, range_more}
use Rattle.array_sim.specs.inner.Run.{Outcome, run_of}
use Rattle.array_sim.specs.Run.{act_of}

-- what the first visit makes of a run
abbrev pub after_first : Bool → List Bool → Visit → Outcome → Outcome
after_first wrong next v rest = cond wrong (record { cells = next; miss = Some (miss_at v) }) rest

-- a part without a miss is followed by the rest
pub run_on : (p : Primitive) (at : Places) (cells : List Bool) (xs ys : List MarchStep) → (run_of p at cells xs).miss ≡ None
    → run_of p at cells (xs ++ ys) ≡ run_of p at (run_of p at cells xs).cells ys
run_on p at cells [] ys none = refl
run_on p at cells (pausing e ∷ xs) ys none = run_on p at (pause_cells p at cells) xs ys none
run_on p at cells (visiting x ∷ xs) ys none =
    let next : List Bool = step_cells p at cells x.address (act_of x.op) in
    elim (is_wrong_of x.op (step_answer p at cells x.address (act_of x.op)))
    as (λ wrong. (after_first wrong next x (run_of p at next xs)).miss ≡ None
    → after_first wrong next x (run_of p at next (xs ++ ys)) ≡ run_of p at (after_first wrong next x (run_of p at next xs)).cells ys)
    [ true ↦ λ n. cc | false ↦ λ n. run_on p at next xs ys n ] none

-- a part with a miss is the end
pub run_stops : (p : Primitive) (at : Places) (cells : List Bool) (xs ys : List MarchStep) (miss : Miss) → (run_of p at cells xs).miss ≡ Some miss
    → run_of p at cells (xs ++ ys) ≡ run_of p at cells xs
run_stops p at cells [] ys miss some = cc
run_stops p at cells (pausing e ∷ xs) ys miss some = run_stops p at (pause_cells p at cells) xs ys miss some
run_stops p at cells (visiting x ∷ xs) ys miss some =
    let next : List Bool = step_cells p at cells x.address (act_of x.op) in
    elim (is_wrong_of x.op (step_answer p at cells x.address (act_of x.op)))
    as (λ wrong. (after_first wrong next x (run_of p at next xs)).miss ≡ Some miss
    → after_first wrong next x (run_of p at next (xs ++ ys)) ≡ after_first wrong next x (run_of p at next xs))
    [ true ↦ λ n. refl | false ↦ λ n. run_stops p at next xs ys miss n ] some

-- the addresses from a place on
pub addresses_rest : (d : Direction) (n place : ℕ) → place < n → drop place (addresses d n) ≡ address_at d place n ∷ drop (place + 1) (addresses d n)
unfolding addresses address_at
addresses_rest Upward n place h =
    let len : place < length (range_with_len 0 n) = rw length-range_with_len h in
    drop_more (range_with_len 0 n) place 0 len ∙ ap (λ x. x ∷ drop (place + 1) (range_with_len 0 n)) (get_or-range_with_len 0 n place 0 h ∙ (omega arith))
addresses_rest Downward n place h =
    let len : place < length (reverse (range_with_len 0 n)) = rw (length-reverse, length-range_with_len) h in
    let at : get_or (reverse (range_with_len 0 n)) place 0 ≡ n - 1 - place =
    get_or-reverse (range_with_len 0 n) place 0 (rw length-range_with_len h)
    ∙ ap (λ l. get_or (range_with_len 0 n) (l - 1 - place) 0) (length-range_with_len 0 n)
    ∙ get_or-range_with_len 0 n (n - 1 - place) 0 (omega arith) ∙ (omega arith) in
    drop_more (reverse (range_with_len 0 n)) place 0 len ∙ ap (λ x. x ∷ drop (place + 1) (reverse (range_with_len 0 n))) at

-- the visits of an element from a place on
abbrev pub visits_rest : ℕ → List Op → Direction → ℕ → ℕ → List MarchStep
visits_rest element ops d n place = steps_of (address_visits element ops (drop place (addresses d n)))

pub visits_rest_more : (element : ℕ) (ops : List Op) (d : Direction) (n place : ℕ) → place < n
    → visits_rest element ops d n place ≡ steps_of (cell_visits element (address_at d place n) 0 ops) ++ visits_rest element ops d n (place + 1)
visits_rest_more element ops d n place h =
    ap (λ xs. steps_of (address_visits element ops xs)) (addresses_rest d n place h)
    ∙ map-append visiting (cell_visits element (address_at d place n) 0 ops) (address_visits element ops (drop (place + 1) (addresses d n)))

pub element_goes_on : (p : Primitive) (at : Places) (cells next : List Bool) (element address : ℕ) (ops : List Op) (d : Direction) (n place : ℕ) (miss : Option Miss) (whole : Outcome)
    → place < n → address ≡ address_at d place n → next ≡ (run_of p at cells (steps_of (cell_visits element address 0 ops))).cells
    → miss ≡ (run_of p at cells (steps_of (cell_visits element address 0 ops))).miss → miss ≡ None
    → run_of p at cells (visits_rest element ops d n place) ≡ whole → run_of p at next (visits_rest element ops d n (place + 1)) ≡ whole
element_goes_on p at cells next element address ops d n place miss whole h is next_is miss_is none before =
    ap (λ l. run_of p at l (visits_rest element ops d n (place + 1))) next_is
    ∙ sym (run_on p at cells (steps_of (cell_visits element address 0 ops)) (visits_rest element ops d n (place + 1)) (sym miss_is ∙ none))
    ∙ ap (λ x. run_of p at cells (steps_of (cell_visits element x 0 ops) ++ visits_rest element ops d n (place + 1))) is
    ∙ sym (ap (run_of p at cells) (visits_rest_more element ops d n place h)) ∙ before

pub element_stops : (p : Primitive) (at : Places) (cells next : List Bool) (element address : ℕ) (ops : List Op) (d : Direction) (n place : ℕ) (found : Miss) (miss : Option Miss) (whole : Outcome)
    → place < n → address ≡ address_at d place n → next ≡ (run_of p at cells (steps_of (cell_visits element address 0 ops))).cells
    → miss ≡ (run_of p at cells (steps_of (cell_visits element address 0 ops))).miss → miss ≡ Some found
    → run_of p at cells (visits_rest element ops d n place) ≡ whole → (next ≡ whole.cells) × (Some found ≡ whole.miss)
element_stops p at cells next element address ops d n place found miss whole h is next_is miss_is some before =
    let ends = sym (run_stops p at cells (steps_of (cell_visits element address 0 ops)) (visits_rest element ops d n (place + 1)) found (sym miss_is ∙ some))
    ∙ ap (λ x. run_of p at cells (steps_of (cell_visits element x 0 ops) ++ visits_rest element ops d n (place + 1))) is
    ∙ sym (ap (run_of p at cells) (visits_rest_more element ops d n place h)) ∙ before in
    (next_is ∙ ap (λ (o : Outcome). o.cells) ends, sym some ∙ miss_is ∙ ap (λ (o : Outcome). o.miss) ends)

-- no address is behind the last
pub addresses_past : (d : Direction) (n place : ℕ) → n ≤ place → drop place (addresses d n) ≡ []
unfolding addresses
addresses_past Upward n place h = drop_all place (range_with_len 0 n) (rw length-range_with_len h)
addresses_past Downward n place h = drop_all place (reverse (range_with_len 0 n)) (rw (length-reverse, length-range_with_len) h)

pub element_ends : (p : Primitive) (at : Places) (cells : List Bool) (element : ℕ) (ops : List Op) (d : Direction) (n place : ℕ) (whole : Outcome)
    → n ≤ place → run_of p at cells (visits_rest element ops d n place) ≡ whole → (cells ≡ whole.cells) × (None ≡ whole.miss)
element_ends p at cells element ops d n place whole h before =
    let ends = sym (ap (λ l. run_of p at cells (steps_of (address_visits element ops l))) (addresses_past d n place h)) ∙ before in
    (ap (λ (o : Outcome). o.cells) ends, ap (λ (o : Outcome). o.miss) ends)

-- an element by its number and by its parts
pub element_at-get : (es : List MarchElement) (i : ℕ) (d : MarchElement) → i < length es → element_at es i ≡ get_or es i d
element_at-get [] i d h = absurd (omega arith)
element_at-get (e ∷ es) zero d h = refl
element_at-get (e ∷ es) (suc i) d h = element_at-get es i d (omega arith)

pub pause_there : (es : List MarchElement) (i : ℕ) → i < length es → is_pause_at es i ≡ true → element_at es i ≡ pause
pause_there [] i h is = absurd (omega arith)
pause_there (pause ∷ es) zero h is = refl
pause_there (sweep order ops ∷ es) zero h is = cc
pause_there (e ∷ es) (suc i) h is = pause_there es i (omega arith) is

pub sweep_there : (es : List MarchElement) (i : ℕ) → i < length es → is_pause_at es i ≡ false → element_at es i ≡ sweep (order_at es i) (ops_at es i)
sweep_there [] i h is = absurd (omega arith)
sweep_there (pause ∷ es) zero h is = cc
sweep_there (sweep order ops ∷ es) zero h is = refl
sweep_there (e ∷ es) (suc i) h is = sweep_there es i (omega arith) is

pub direction_read : (word i : ℕ) (down : Bool) → down ≡ is_down_at word i → direction_of down ≡ direction_at word i
unfolding direction_at
direction_read word i down e = ap direction_of e ∙ (elim (is_down_at word i) as (λ b. direction_of b ≡ cond b Downward Upward) [ true ↦ refl | false ↦ refl ])

-- the visits of an element, as the code finds its parts
pub pause_visits : (es : List MarchElement) (i : ℕ) (d : Direction) (n : ℕ) → i < length es → is_pause_at es i ≡ true
    → element_visits i (element_at es i) d n ≡ pausing i ∷ []
pause_visits es i d n h is = ap (λ e. element_visits i e d n) (pause_there es i h is)

pub sweep_visits : (es : List MarchElement) (i word : ℕ) (n : ℕ) (ops : List Op) (down : Bool) → i < length es → is_pause_at es i ≡ false
    → ops ≡ ops_at es i → down ≡ is_down_at word i
    → element_visits i (element_at es i) (direction_at word i) n ≡ steps_of (address_visits i ops (addresses (direction_of down) n))
sweep_visits es i word n ops down h is ops_is down_is =
    ap (λ e. element_visits i e (direction_at word i) n) (sweep_there es i h is)
    ∙ ap (λ l. steps_of (address_visits i l (addresses (direction_at word i) n))) (sym ops_is)
    ∙ ap (λ d. steps_of (address_visits i ops (addresses d n))) (sym (direction_read word i down down_is))

-- the visits of a march from an element on
abbrev pub march_rest : List MarchElement → ℕ → ℕ → ℕ → List MarchStep
march_rest m word i n = visits_from i (drop i m) (directions_from word i (length m)) n

pub march_rest_more : (m : List MarchElement) (word i n : ℕ) → i < length m
    → march_rest m word i n ≡ element_visits i (element_at m i) (direction_at word i) n ++ march_rest m word (i + 1) n
march_rest_more m word i n h =
    let cut : drop i m ≡ element_at m i ∷ drop (i + 1) m = drop_more m i pause h ∙ ap (λ e. e ∷ drop (i + 1) m) (sym (element_at-get m i pause h)) in
    rw (cut, range_more i (length m) h) refl

pub march_goes_on : (p : Primitive) (at : Places) (m : List MarchElement) (word i n : ℕ) (cells next : List Bool) (miss : Option Miss) (whole : Outcome)
    → i < length m → length cells ≡ n
    → next ≡ (run_of p at cells (element_visits i (element_at m i) (direction_at word i) (length cells))).cells
    → miss ≡ (run_of p at cells (element_visits i (element_at m i) (direction_at word i) (length cells))).miss → miss ≡ None
    → run_of p at cells (march_rest m word i n) ≡ whole → run_of p at next (march_rest m word (i + 1) n) ≡ whole
march_goes_on p at m word i n cells next miss whole h size next_is miss_is none before =
    let part : List MarchStep = element_visits i (element_at m i) (direction_at word i) (length cells) in
    let same : part ≡ element_visits i (element_at m i) (direction_at word i) n = ap (element_visits i (element_at m i) (direction_at word i)) size in
    ap (λ l. run_of p at l (march_rest m word (i + 1) n)) next_is
    ∙ sym (run_on p at cells part (march_rest m word (i + 1) n) (sym miss_is ∙ none))
    ∙ ap (λ l. run_of p at cells (l ++ march_rest m word (i + 1) n)) same
    ∙ sym (ap (run_of p at cells) (march_rest_more m word i n h)) ∙ before

pub march_stops : (p : Primitive) (at : Places) (m : List MarchElement) (word i n : ℕ) (cells next : List Bool) (found : Miss) (miss : Option Miss) (whole : Outcome)
    → i < length m → length cells ≡ n
    → next ≡ (run_of p at cells (element_visits i (element_at m i) (direction_at word i) (length cells))).cells
    → miss ≡ (run_of p at cells (element_visits i (element_at m i) (direction_at word i) (length cells))).miss → miss ≡ Some found
    → run_of p at cells (march_rest m word i n) ≡ whole → (next ≡ whole.cells) × (Some found ≡ whole.miss)
march_stops p at m word i n cells next found miss whole h size next_is miss_is some before =
    let part : List MarchStep = element_visits i (element_at m i) (direction_at word i) (length cells) in
    let same : part ≡ element_visits i (element_at m i) (direction_at word i) n = ap (element_visits i (element_at m i) (direction_at word i)) size in
    let ends : run_of p at cells part ≡ whole = sym (run_stops p at cells part (march_rest m word (i + 1) n) found (sym miss_is ∙ some))
    ∙ ap (λ l. run_of p at cells (l ++ march_rest m word (i + 1) n)) same
    ∙ sym (ap (run_of p at cells) (march_rest_more m word i n h)) ∙ before in
    (next_is ∙ ap (λ (o : Outcome). o.cells) ends, sym some ∙ miss_is ∙ ap (λ (o : Outcome). o.miss) ends)

pub march_ends : (p : Primitive) (at : Places) (m : List MarchElement) (word i n : ℕ) (cells : List Bool) (whole : Outcome)
    → length m ≤ i → run_of p at cells (march_rest m word i n) ≡ whole → (cells ≡ whole.cells) × (None ≡ whole.miss)
march_ends p at m word i n cells whole h before =
    let none : drop i m ≡ [] = drop_all i m h in
    let ends = sym (ap (λ l. run_of p at cells (visits_from i l (directions_from word i (length m)) n)) none) ∙ before in
    (ap (λ (o : Outcome). o.cells) ends, ap (λ (o : Outcome). o.miss) ends)
