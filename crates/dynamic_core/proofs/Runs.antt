-- Runs of steps, one part after another.
use Rattle.std.proofs.Common.{◌≡◌, ℕ, ◌+◌, ◌<◌, ◌≤◌, Bool, true, false, cond, Option, Some, None, List, [], ◌∷◌, ◌++◌, length, refl, ap, sym, ◌∙◌}
use Rattle.fault_core.specs.declared.cells.Places.{Places}
use Rattle.march_core.specs.declared.operation.Op.{Op}
use Rattle.march_core.specs.March.{MarchElement, element_at}
use Rattle.march_core.specs.Visits.{MarchStep, pausing, visiting, Direction, cell_visits, address_visits, element_visits, direction_at, miss_at}
use Rattle.march_core.specs.declared.visit.Miss.{Miss}
use Rattle.march_core.specs.Operation.{is_wrong_of}
use Rattle.array_sim.specs.Run.{act_of}
use Rattle.march_core.specs.Addresses.{address_at}
use Rattle.march_core.specs.inner.Addresses.{steps_of}
use Rattle.array_sim.proofs.Runs.{visits_rest, visits_rest_more, addresses_past, march_rest, march_rest_more}
use Rattle.dynamic_core.specs.Primitive.{DynamicPrimitive}
use Rattle.dynamic_core.specs.Dynamic.{Held, dyn_step, dyn_answer, after_pause}
use Rattle.dynamic_core.specs.inner.Dynamic.{Ending, Differs, Ends, dyn_run, miss_of, held_of, ending_as}

-- one part of a run behind another
abbrev pub then_run : Ending → (Held → Ending) → Ending
then_run (Differs miss h) f = Differs miss h
then_run (Ends h) f = f h

pub run_append : (p : DynamicPrimitive) (at : Places) (h : Held) (xs ys : List MarchStep) → dyn_run p at h (xs ++ ys) ≡ then_run (dyn_run p at h xs) (λ g. dyn_run p at g ys)
run_append p at h [] ys = refl
run_append p at h (pausing e ∷ xs) ys = run_append p at (after_pause h) xs ys
run_append p at h (visiting x ∷ xs) ys =
    let next : Held = dyn_step p at h x.address (act_of x.op) in
    first next (is_wrong_of x.op (dyn_answer p at h x.address (act_of x.op))) _ _ (run_append p at next xs ys)
  where
    first : (next : Held) (wrong : Bool) (both one : Ending) → both ≡ then_run one (λ g. dyn_run p at g ys)
        → cond wrong (Differs (miss_at x) next) both ≡ then_run (cond wrong (Differs (miss_at x) next) one) (λ g. dyn_run p at g ys)
    first next true both one e = refl
    first next false both one e = e

-- a part that ended so is followed by the rest
pub part_goes_on : (p : DynamicPrimitive) (at : Places) (h next : Held) (miss : Option Miss) (part rest steps : List MarchStep) (whole : Ending)
    → steps ≡ part ++ rest → ending_as miss next ≡ dyn_run p at h part → miss ≡ None → dyn_run p at h steps ≡ whole → dyn_run p at next rest ≡ whole
part_goes_on p at h next miss part rest steps whole split ends none before =
    ap (λ o. then_run o (λ g. dyn_run p at g rest)) (ap (λ m. ending_as m next) (sym none) ∙ ends)
    ∙ sym (ap (dyn_run p at h) split ∙ run_append p at h part rest) ∙ before

pub part_stops : (p : DynamicPrimitive) (at : Places) (h next : Held) (found : Miss) (miss : Option Miss) (part rest steps : List MarchStep) (whole : Ending)
    → steps ≡ part ++ rest → ending_as miss next ≡ dyn_run p at h part → miss ≡ Some found → dyn_run p at h steps ≡ whole → Differs found next ≡ whole
part_stops p at h next found miss part rest steps whole split ends some before =
    ap (λ o. then_run o (λ g. dyn_run p at g rest)) (ap (λ m. ending_as m next) (sym some) ∙ ends)
    ∙ sym (ap (dyn_run p at h) split ∙ run_append p at h part rest) ∙ before

-- the cells of an element
pub cell_next : (element address : ℕ) (ops : List Op) (d : Direction) (n place : ℕ) → place < n → address ≡ address_at d place n
    → visits_rest element ops d n place ≡ steps_of (cell_visits element address 0 ops) ++ visits_rest element ops d n (place + 1)
cell_next element address ops d n place within is =
    visits_rest_more element ops d n place within ∙ ap (λ x. steps_of (cell_visits element x 0 ops) ++ visits_rest element ops d n (place + 1)) (sym is)

pub sweep_ends : (p : DynamicPrimitive) (at : Places) (h : Held) (element : ℕ) (ops : List Op) (d : Direction) (n place : ℕ) (whole : Ending)
    → n ≤ place → dyn_run p at h (visits_rest element ops d n place) ≡ whole → Ends h ≡ whole
sweep_ends p at h element ops d n place whole past before =
    sym (ap (λ l. dyn_run p at h (steps_of (address_visits element ops l))) (addresses_past d n place past)) ∙ before

-- an ending by its parts
pub ending_miss : (miss : Option Miss) (h : Held) → miss ≡ miss_of (ending_as miss h)
ending_miss None h = refl
ending_miss (Some miss) h = refl

pub ending_held : (miss : Option Miss) (h : Held) → h ≡ held_of (ending_as miss h)
ending_held None h = refl
ending_held (Some miss) h = refl

-- a cell's part, and an element's part
pub sweep_goes_on : (p : DynamicPrimitive) (at : Places) (h next : Held) (miss : Option Miss) (element address : ℕ) (ops : List Op) (d : Direction) (n place : ℕ) (whole : Ending)
    → place < n → address ≡ address_at d place n → ending_as miss next ≡ dyn_run p at h (steps_of (cell_visits element address 0 ops)) → miss ≡ None
    → dyn_run p at h (visits_rest element ops d n place) ≡ whole → dyn_run p at next (visits_rest element ops d n (place + 1)) ≡ whole
sweep_goes_on p at h next miss element address ops d n place whole within is ends none before =
    part_goes_on p at h next miss (steps_of (cell_visits element address 0 ops)) (visits_rest element ops d n (place + 1)) (visits_rest element ops d n place) whole
    (cell_next element address ops d n place within is) ends none before

pub sweep_stops : (p : DynamicPrimitive) (at : Places) (h next : Held) (found : Miss) (miss : Option Miss) (element address : ℕ) (ops : List Op) (d : Direction) (n place : ℕ) (whole : Ending)
    → place < n → address ≡ address_at d place n → ending_as miss next ≡ dyn_run p at h (steps_of (cell_visits element address 0 ops)) → miss ≡ Some found
    → dyn_run p at h (visits_rest element ops d n place) ≡ whole → Differs found next ≡ whole
sweep_stops p at h next found miss element address ops d n place whole within is ends some before =
    part_stops p at h next found miss (steps_of (cell_visits element address 0 ops)) (visits_rest element ops d n (place + 1)) (visits_rest element ops d n place) whole
    (cell_next element address ops d n place within is) ends some before

pub march_goes_on : (p : DynamicPrimitive) (at : Places) (h next : Held) (miss : Option Miss) (m : List MarchElement) (word i n : ℕ) (whole : Ending)
    → i < length m → length h.cells ≡ n → ending_as miss next ≡ dyn_run p at h (element_visits i (element_at m i) (direction_at word i) (length h.cells)) → miss ≡ None
    → dyn_run p at h (march_rest m word i n) ≡ whole → dyn_run p at next (march_rest m word (i + 1) n) ≡ whole
march_goes_on p at h next miss m word i n whole within size ends none before =
    part_goes_on p at h next miss (element_visits i (element_at m i) (direction_at word i) n) (march_rest m word (i + 1) n) (march_rest m word i n) whole
    (march_rest_more m word i n within) (ends ∙ ap (λ k. dyn_run p at h (element_visits i (element_at m i) (direction_at word i) k)) size) none before

pub march_stops : (p : DynamicPrimitive) (at : Places) (h next : Held) (found : Miss) (miss : Option Miss) (m : List MarchElement) (word i n : ℕ) (whole : Ending)
    → i < length m → length h.cells ≡ n → ending_as miss next ≡ dyn_run p at h (element_visits i (element_at m i) (direction_at word i) (length h.cells)) → miss ≡ Some found
    → dyn_run p at h (march_rest m word i n) ≡ whole → Differs found next ≡ whole
march_stops p at h next found miss m word i n whole within size ends some before =
    part_stops p at h next found miss (element_visits i (element_at m i) (direction_at word i) n) (march_rest m word (i + 1) n) (march_rest m word i n) whole
    (march_rest_more m word i n within) (ends ∙ ap (λ k. dyn_run p at h (element_visits i (element_at m i) (direction_at word i) k)) size) some before
