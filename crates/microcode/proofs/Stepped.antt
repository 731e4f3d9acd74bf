-- The steps of one run are those of the march's visits.
use Rattle.std.proofs.Common.{◌≡◌, ℕ, zero, suc, ◌+◌, ◌-◌, ◌<◌, ◌≤◌, Bool, if◌then◌else◌, List, [], ◌∷◌, ◌++◌, length, map, slice_get, slice_index, flat_map, Option, Some, None, refl, sym, ◌∙◌, ap, ap₂, arith, append-nil, zero-add}
use Rattle.std.proofs.lemmas.List.{map-append}
use Rattle.std.proofs.lemmas.Option.{get_or_from_slice_get, slice_get_within}
use Rattle.march_core.specs.declared.operation.Order.TheVariants.{Up, Down, Any}
use Rattle.march_core.specs.declared.operation.Op.{Op}
use Rattle.march_core.specs.March.{MarchElement, pause, sweep, order_of, element_at, IsMarch}
use Rattle.march_core.specs.Visits.{Direction, Upward, Downward, cell_visits, addresses, address_visits, visiting, element_visits, visits_from}
use Rattle.march_core.proofs.Built.{march_some}
use Rattle.march_core.specs.Runs.{upward, up}
use Rattle.march_core.proofs.Addresses.{length-addresses, address_upward, address_downward}
use Rattle.microcode.specs.declared.code.Instr.{Instr}
use Rattle.microcode.specs.declared.place.CodePlace.{CodePlace}
use Rattle.microcode.specs.Code.{opers_of, instr_of, assemble}
use Rattle.microcode.specs.Places.{IsExtent, index_in, visits_of, element_slots, run_slots, rest, next_place, is_last}
use Rattle.microcode.specs.inner.Places.{all_slots}
use Rattle.microcode.specs.Rows.{rows}
use Rattle.microcode.specs.Running.{digits, IsAt, IsBehind}
use Rattle.microcode.specs.Steps.{Step, step_of, steps, one_run, step_in, step_at, LeavesAt}
use Rattle.microcode.proofs.Rows.{rows_are}
use Rattle.microcode.proofs.Turn.{turns, all_starts, opers_some, visits_some}
use Rattle.microcode.proofs.Behind.{first_zero, is_instr}

pub run_is : (words : ℕ) → 1 ≤ words → IsExtent (one_run words)
run_is words h = record { words = h; pause = omega arith; runs = omega arith }

-- ---- the visits of an element

pub address_is : (order : Direction) (size k x : ℕ) → slice_get (addresses order size) k ≡ Some x → index_in order size k ≡ x
address_is order size k x h =
    let within = slice_get_within (addresses order size) k x h in
    let count = length-addresses order size in
    let there : slice_index (addresses order size) k ≡ x = get_or_from_slice_get (addresses order size) k x 0 h in
    by_order order (omega arith) there
  where
    by_order : (o : Direction) → k < size → slice_index (addresses o size) k ≡ x → index_in o size k ≡ x
    by_order Upward l e = sym (address_upward size k l) ∙ e
    by_order Downward l e = sym (address_downward size k l) ∙ e

-- the operations on a cell, from number n on
abbrev cell_steps : MarchElement → ℕ → ℕ → List Op → List Step
cell_steps x address n [] = []
cell_steps x address n (op ∷ ops) = (record { index = address; instr = instr_of x n }) ∷ cell_steps x address (n + 1) ops

abbrev by_element : ℕ → MarchElement → List Step
by_element words pause = (record { index = 0; instr = instr_of pause 0 }) ∷ []
by_element words (sweep order ops) = flat_map (λ a. cell_steps (sweep order ops) a 0 ops) (addresses (upward order) words)

cell_rows : (x : MarchElement) (address i : ℕ) (ops : List Op) → rows (λ o. (record { index = address; instr = instr_of x o }) ∷ []) i (length ops) ≡ cell_steps x address i ops
cell_rows x address i [] = refl
cell_rows x address i (op ∷ ops) = ap (λ (l : List Step). (record { index = address; instr = instr_of x i }) ∷ l) (cell_rows x address (i + 1) ops)

element_rows : (words : ℕ) (x : MarchElement) → rows (λ v. rows (λ o. step_in x words v o ∷ []) 0 (opers_of x)) 0 (visits_of (one_run words) x) ≡ by_element words x
element_rows words pause = refl
element_rows words (sweep order ops) =
    let x = sweep order ops in
    let places = addresses (upward order) words in
    ap (rows (λ v. rows (λ o. step_in x words v o ∷ []) 0 (length ops)) 0) (sym (length-addresses (upward order) words))
    ∙ rows_are (λ v. rows (λ o. step_in x words v o ∷ []) 0 (length ops)) (λ a. cell_steps x a 0 ops) places 0
    (λ k a there.
    let at : 0 + k ≡ k = zero-add k in
    ap (λ v. rows (λ o. step_in x words v o ∷ []) 0 (length ops)) at
    ∙ ap (λ (b : ℕ). rows (λ o. (record { index = b; instr = instr_of x o }) ∷ []) 0 (length ops)) (address_is (upward order) words k a there)
    ∙ cell_rows x a 0 ops)

-- ---- the run

pub element_is : (march : List MarchElement) (e : ℕ) (x : MarchElement) → slice_get march e ≡ Some x → element_at march e ≡ x
element_is [] e x h = cc
element_is (y ∷ march) zero x h = cc
element_is (y ∷ march) (suc e) x h = element_is march e x h

run_rows : (march : List MarchElement) (words : ℕ) → run_slots (step_at march words) march (one_run words) 0 ≡ flat_map (by_element words) march
run_rows march words =
    rows_are (element_slots (step_at march words) march (one_run words) 0) (by_element words) march 0
    (λ k x there.
    let at : 0 + k ≡ k = zero-add k in
    ap (element_slots (step_at march words) march (one_run words) 0) at
    ∙ ap (λ (y : MarchElement). rows (λ v. rows (λ o. step_in y words v o ∷ []) 0 (opers_of y)) 0 (visits_of (one_run words) y)) (element_is march k x there)
    ∙ element_rows words x)

all_rows : (march : List MarchElement) (words : ℕ) → all_slots (step_at march words) march (one_run words) ≡ flat_map (by_element words) march
all_rows march words = append-nil (run_slots (step_at march words) march (one_run words) 0) ∙ run_rows march words

-- ---- the visits of the march

module _ (march : List MarchElement) (words : ℕ) where
  of_cell : (x : MarchElement) (e a n : ℕ) (ops : List Op) → element_at march e ≡ x → map (step_of march) (map visiting (cell_visits e a n ops)) ≡ cell_steps x a n ops
  of_cell x e a n [] h = refl
  of_cell x e a n (op ∷ ops) h =
      ap₂ (λ (y : MarchElement) (l : List Step). (record { index = a; instr = instr_of y n }) ∷ l) h (of_cell x e a (n + 1) ops h)

  of_sweep : (x : MarchElement) (e : ℕ) (ops : List Op) (xs : List ℕ) → element_at march e ≡ x
      → map (step_of march) (map visiting (address_visits e ops xs)) ≡ flat_map (λ a. cell_steps x a 0 ops) xs
  of_sweep x e ops [] h = refl
  of_sweep x e ops (a ∷ xs) h =
      ap (map (step_of march)) (map-append visiting (cell_visits e a 0 ops) (address_visits e ops xs))
      ∙ map-append (step_of march) (map visiting (cell_visits e a 0 ops)) (map visiting (address_visits e ops xs))
      ∙ ap₂ (λ (l m : List Step). l ++ m) (of_cell x e a 0 ops h) (of_sweep x e ops xs h)

  of_element : (x : MarchElement) (e : ℕ) → element_at march e ≡ x → map (step_of march) (element_visits e x (upward (order_of x)) words) ≡ by_element words x
  of_element pause e h = ap (λ (y : MarchElement). (record { index = 0; instr = instr_of y 0 }) ∷ []) h
  of_element (sweep order ops) e h = of_sweep (sweep order ops) e ops (addresses (upward order) words) h

  of_march : (e : ℕ) (es : List MarchElement) → ((k : ℕ) (x : MarchElement) → slice_get es k ≡ Some x → element_at march (e + k) ≡ x)
      → map (step_of march) (visits_from e es (up es) words) ≡ flat_map (by_element words) es
  of_march e [] h = refl
  of_march e (x ∷ es) h =
      let here : e ≡ e + 0 = omega arith in
      map-append (step_of march) (element_visits e x (upward (order_of x)) words) (visits_from (e + 1) es (up es) words)
      ∙ ap₂ (λ (l m : List Step). l ++ m) (of_element x e (ap (element_at march) here ∙ h 0 x refl))
      (of_march (e + 1) es (λ k y there. let on : e + 1 + k ≡ e + suc k = omega arith in ap (element_at march) on ∙ h (suc k) y there))

steps_are : (march : List MarchElement) (words : ℕ) → steps march words ≡ flat_map (by_element words) march
steps_are march words = of_march march words 0 march (λ k x there. let at : 0 + k ≡ k = zero-add k in ap (element_at march) at ∙ element_is march k x there)

abbrev first : CodePlace
first = record { first = 0; oper = 0; visit = 0; element = 0; back = 0 }

-- ---- the beginning

pub first_at : (march : List MarchElement) (code : List Instr) (words : ℕ) → IsMarch march → code ≡ assemble march → 1 ≤ words → IsAt march code (one_run words) first
first_at march code words m e h = record {
  accepted = m;
  assembled = e;
  first = sym (first_zero march);
  place = record {
    back = omega arith;
    element = march_some march m;
    visit = visits_some march (one_run words) 0 (run_is words h);
    oper = opers_some march 0 m.each;
  };
}

pub begins : (march : List MarchElement) (code : List Instr) (words : ℕ) → IsMarch march → code ≡ assemble march → 1 ≤ words → LeavesAt march code words (Some first) (steps march words)
begins march code words m e h = (
  first_at march code words m e h,
  steps_are march words ∙ sym (all_rows march words)
      ∙ all_starts (step_at march words) march (one_run words) (λ e. opers_some march e m.each) (λ e. visits_some march (one_run words) e (run_is words h)) (march_some march m) (omega arith),
)

-- ---- one step

index_is : (x : MarchElement) (words visit o : ℕ)
    → (if (instr_of x o).pause then 0 else (if (instr_of x o).down then words - 1 - visit else visit)) ≡ (step_in x words visit o).index
index_is pause words visit o = refl
index_is (sweep Up ops) words visit o = refl
index_is (sweep Down ops) words visit o = refl
index_is (sweep Any ops) words visit o = refl

-- what is left behind a place
pub behind_leaves : (march : List MarchElement) (code : List Instr) (words : ℕ) (p : CodePlace) (q : Option CodePlace) → 1 ≤ words → IsAt march code (one_run words) p
    → IsBehind march code (one_run words) p q
    → (more : List Step) × (rest (step_at march words) march (one_run words) (digits p) ≡ step_at march words (digits p) ∷ more) × LeavesAt march code words q more
behind_leaves march code words p q h at b = go q b
  where
    turn : rest (step_at march words) march (one_run words) (digits p)
        ≡ step_at march words (digits p) ∷ (if is_last march (one_run words) (digits p) then [] else rest (step_at march words) march (one_run words) (next_place march (one_run words) (digits p)))
    turn = (turns (step_at march words) march (one_run words) (digits p) at.accepted (run_is words h) at.place).left

    go : (q : Option CodePlace) → IsBehind march code (one_run words) p q
        → (more : List Step) × (rest (step_at march words) march (one_run words) (digits p) ≡ step_at march words (digits p) ∷ more) × LeavesAt march code words q more
    go None b = (
      [],
      turn ∙ ap (λ (t : Bool). step_at march words (digits p) ∷ (if t then [] else rest (step_at march words) march (one_run words) (next_place march (one_run words) (digits p)))) b.0,
      refl,
    )
    go (Some q) b = (
      rest (step_at march words) march (one_run words) (digits q),
      turn
          ∙ ap (λ (t : Bool). step_at march words (digits p) ∷ (if t then [] else rest (step_at march words) march (one_run words) (next_place march (one_run words) (digits p)))) b.2
          ∙ ap (λ r. step_at march words (digits p) ∷ rest (step_at march words) march (one_run words) r) (sym b.1),
      (b.0, refl),
    )

-- the step that is given is the one of the place
pub step_is : (march : List MarchElement) (code : List Instr) (words : ℕ) (p : CodePlace) (i : Instr) (index : ℕ) → 1 ≤ words → IsAt march code (one_run words) p
    → slice_get code (p.first + p.oper) ≡ Some i → index ≡ (if i.pause then 0 else (if i.down then words - 1 - p.visit else p.visit))
    → step_at march words (digits p) ≡ record { index = index; instr = i }
step_is march code words p i index h at there e =
    let x = element_at march p.element in
    let is : i ≡ instr_of x p.oper = is_instr march (one_run words) code p i (run_is words h) at there in
    let same : index ≡ (step_in x words p.visit p.oper).index =
    e ∙ ap (λ (j : Instr). if j.pause then 0 else (if j.down then words - 1 - p.visit else p.visit)) is ∙ index_is x words p.visit p.oper in
    λ j. record { index = sym same j; instr = sym is j }
