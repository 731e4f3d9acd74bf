-- The slots of the run are the lists of lists of the four digits.
use Rattle.std.proofs.Common.{◌≡◌, ℕ, zero, suc, ◌+◌, ◌<◌, if◌then◌else◌, List, [], ◌∷◌, ◌++◌, length, map, replicate, slice_get, slice_index_or, flat_map, Option, Some, None, refl, sym, ◌∙◌, ap, ap₂, arith, append-nil, zero-add}
use Rattle.std.proofs.lemmas.List.Concat.{flat_map-append}
use Rattle.std.proofs.lemmas.Option.{get_or_from_slice_get}
use Rattle.march_core.specs.declared.operation.Op.{Op}
use Rattle.march_core.specs.declared.operation.Op.TheVariants.{R0}
use Rattle.march_core.specs.Visits.{cell_visits, addresses, address_visits}
use Rattle.backgrounds.specs.Backgrounds.{word_of}
use Rattle.word_march.specs.declared.operations.PortOp.{PortOp}
use Rattle.march_core.specs.Runs.{upward, is_write, data_value}
use Rattle.march_core.proofs.Addresses.{length-addresses}
use Rattle.march_core.specs.March.{MarchElement, pause, sweep, order_of, ops_of, is_pause, IsMarch}
use Rattle.march_core.specs.Visits.{MarchStep, visiting, element_visits, visits_from, visits}
use Rattle.memory_desc.specs.Descriptions.{Description, IsMemory}
use Rattle.march_core.specs.Runs.{up}
use Rattle.word_march.specs.Commands.{word_step, run_in, word_steps, port_op, spread, slots}
use Rattle.microcode.specs.Rows.{rows}
use Rattle.microcode.specs.Code.{opers_of}
use Rattle.controller.specs.inner.Places.{visits_of, element_slots, run_slots, all_slots}
use Rattle.microcode.specs.Places.{index_in}
use Rattle.controller.specs.Standing.{Starts}
use Rattle.microcode.proofs.Stepped.{address_is, element_is as element_found}
use Rattle.microcode.proofs.Rows.{rows_are}
use Rattle.controller.proofs.Turn.{all_starts, visits_some}
use Rattle.microcode.proofs.Turn.{opers_some}
use Rattle.march_core.proofs.Built.{march_some}
use Rattle.word_march.proofs.Spread.{all_commands, length-cycles, command_stands, only_commands}

-- ---- lists

flat_map-map : {X Y A : Type 0} (f : Y → List A) (g : X → Y) (xs : List X) → flat_map f (map g xs) ≡ flat_map (λ x. f (g x)) xs
flat_map-map f g [] = refl
flat_map-map f g (x ∷ xs) = ap (λ l. f (g x) ++ l) (flat_map-map f g xs)

flat_map-flat_map : {X Y A : Type 0} (f : Y → List A) (g : X → List Y) (xs : List X) → flat_map f (flat_map g xs) ≡ flat_map (λ x. flat_map f (g x)) xs
flat_map-flat_map f g [] = refl
flat_map-flat_map f g (x ∷ xs) = flat_map-append f (g x) (flat_map g xs) ∙ ap (λ l. flat_map f (g x) ++ l) (flat_map-flat_map f g xs)

flat_map-same : {X A : Type 0} (f g : X → List A) (xs : List X) → ((x : X) → f x ≡ g x) → flat_map f xs ≡ flat_map g xs
flat_map-same f g [] h = refl
flat_map-same f g (x ∷ xs) h = ap₂ (λ a b. a ++ b) (h x) (flat_map-same f g xs h)

rows_of : {X A : Type 0} (F : ℕ → List A) (g : X → List A) (xs : List X)
    → ((k : ℕ) (x : X) → slice_get xs k ≡ Some x → F k ≡ g x) → rows F 0 (length xs) ≡ flat_map g xs
rows_of F g xs h = rows_are F g xs 0 (λ k x e. ap F (zero-add k) ∙ h k x e)

abbrev idle : ℕ → List (Option PortOp)
idle x = None ∷ []

idle_rows : (i n : ℕ) → rows idle i n ≡ replicate n None
idle_rows i zero = refl
idle_rows i (suc n) = ap (λ l. None ∷ l) (idle_rows (i + 1) n)

-- ---- the visits

-- an operation on a cell
abbrev pub op_slot : Description → ℕ → ℕ → Op → List (Option PortOp)
op_slot d b x op = Some (port_op d (record { write = is_write op; index = x; word = word_of b (data_value op) d.bits })) ∷ []

-- an element
abbrev pub by_element : Description → ℕ → MarchElement → List (Option PortOp)
by_element d b pause = replicate d.pause None
by_element d b (sweep order ops) = flat_map (λ x. flat_map (op_slot d b x) ops) (addresses (upward order) d.words)

module _ (d : Description) (b : ℕ) where
  abbrev of_step : MarchStep → List (Option PortOp)
  of_step s = spread d (word_step d.bits b s)

  of_cell : (e x n : ℕ) (ops : List Op) → flat_map (λ v. of_step (visiting v)) (cell_visits e x n ops) ≡ flat_map (op_slot d b x) ops
  of_cell e x n [] = refl
  of_cell e x n (op ∷ ops) = ap (λ l. op_slot d b x op ++ l) (of_cell e x (n + 1) ops)

  of_sweep : (e : ℕ) (ops : List Op) (xs : List ℕ) → flat_map of_step (map visiting (address_visits e ops xs)) ≡ flat_map (λ x. flat_map (op_slot d b x) ops) xs
  of_sweep e ops xs =
      flat_map-map of_step visiting (address_visits e ops xs)
      ∙ flat_map-flat_map (λ v. of_step (visiting v)) (λ x. cell_visits e x 0 ops) xs
      ∙ flat_map-same (λ x. flat_map (λ v. of_step (visiting v)) (cell_visits e x 0 ops)) (λ x. flat_map (op_slot d b x) ops) xs (λ x. of_cell e x 0 ops)

  of_element : (e : ℕ) (x : MarchElement) → flat_map of_step (element_visits e x (upward (order_of x)) d.words) ≡ by_element d b x
  of_element e pause = append-nil (replicate d.pause None)
  of_element e (sweep order ops) = of_sweep e ops (addresses (upward order) d.words)

  of_march : (e : ℕ) (march : List MarchElement) → flat_map of_step (visits_from e march (up march) d.words) ≡ flat_map (by_element d b) march
  of_march e [] = refl
  of_march e (x ∷ march) =
      flat_map-append of_step (element_visits e x (upward (order_of x)) d.words) (visits_from (e + 1) march (up march) d.words)
      ∙ ap₂ (λ l m. l ++ m) (of_element e x) (of_march (e + 1) march)

pub slots_are : (march : List MarchElement) (d : Description) → slots march d ≡ flat_map (λ b. flat_map (by_element d b) march) d.backgrounds
slots_are march d =
    flat_map-flat_map (spread d) (run_in march d) d.backgrounds
    ∙ flat_map-same (λ b. flat_map (spread d) (run_in march d b)) (λ b. flat_map (by_element d b) march) d.backgrounds
    (λ b. flat_map-map (spread d) (word_step d.bits b) (visits march (up march) d.words) ∙ of_march d b 0 march)

-- ---- the digits

-- what the port does at a visit and operation of this element
abbrev slot_in : Description → ℕ → MarchElement → ℕ → ℕ → Option PortOp
slot_in d b x y o = if is_pause x then None else Some (port_op d (record {
  write = is_write (slice_index_or (ops_of x) o R0);
  index = index_in (upward (order_of x)) d.words y;
  word = word_of b (data_value (slice_index_or (ops_of x) o R0)) d.bits;
}))

abbrev slots_in : Description → ℕ → MarchElement → List (Option PortOp)
slots_in d b x = rows (λ y. rows (λ o. slot_in d b x y o ∷ []) 0 (opers_of x)) 0 (visits_of d x)

element_is : (d : Description) (b : ℕ) (x : MarchElement) → slots_in d b x ≡ by_element d b x
element_is d b pause = idle_rows 0 d.pause
element_is d b (sweep order ops) =
    let places = addresses (upward order) d.words in
    ap (rows (λ y. rows (λ o. slot_in d b (sweep order ops) y o ∷ []) 0 (length ops)) 0) (sym (length-addresses (upward order) d.words))
    ∙ rows_of (λ y. rows (λ o. slot_in d b (sweep order ops) y o ∷ []) 0 (length ops)) (λ x. flat_map (op_slot d b x) ops) places
    (λ y x there. rows_of (λ o. slot_in d b (sweep order ops) y o ∷ []) (op_slot d b x) ops
    (λ o op here. ap₂ (λ x' op'. op_slot d b x' op') (address_is (upward order) d.words y x there) (get_or_from_slice_get ops o op R0 here)))

digits_are : (march : List MarchElement) (d : Description) → all_slots march d ≡ flat_map (λ b. flat_map (by_element d b) march) d.backgrounds
digits_are march d =
    rows_of (run_slots march d) (λ b. flat_map (by_element d b) march) d.backgrounds
    (λ i b at_b. rows_of (element_slots march d i) (by_element d b) march
    (λ e x at_x. ap₂ (λ b' x'. slots_in d b' x') (get_or_from_slice_get d.backgrounds i b 0 at_b) (element_found march e x at_x) ∙ element_is d b x))

pub start : (march : List MarchElement) (d : Description) → IsMarch march → IsMemory d → Starts march d
start march d m n =
    let opers = λ (e : ℕ). opers_some march e m.each in
    let visits = λ (e : ℕ). visits_some march d e n in
    let some = march_some march m in
    let set : 0 < length d.backgrounds = let h = n.tested.some in omega arith in
    record {
      place = record { back = set; element = some; visit = visits 0; oper = opers 0 };
      first = sym (all_starts march d opers visits some set) ∙ digits_are march d ∙ sym (slots_are march d);
      commands = all_commands d (word_steps march d);
      stands = command_stands d (word_steps march d);
      only = only_commands d (word_steps march d);
      count = length-cycles d (word_steps march d);
    }
