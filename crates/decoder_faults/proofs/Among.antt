-- An element that catches a fault of the address decoder does so whatever the other addresses reach: what it writes last stays in each cell that it has written.
use Rattle.std.proofs.Common.{◌≡◌, ◌≢◌, ◌+◌, ◌<◌, ℕ, Bool, true, false, not, cond, nat_lt, ◌||◌, ◌&&◌, eqb, Option, Some, None, is_some, List, [], ◌∷◌, ◌++◌, length, map, refl, ap, sym, subst, ◌∙◌, ⊎_elim}
use Rattle.std.specs.Prelude.{slice_set}
use Rattle.std.proofs.lemmas.Bool.{and_parts, eq-eqb}
use Rattle.std.proofs.lemmas.Bool.Decides.{eqb_tells}
use Rattle.std.proofs.lemmas.List.{length-set, get_or-set_same, get_or-set_other, append_assoc}
use Rattle.fault_core.specs.Cells.{cell}
use Rattle.fault_core.specs.Primitive.{same_bit}
use Rattle.march_core.specs.declared.operation.Op.{Op}
use Rattle.march_core.specs.declared.operation.Op.TheVariants.{W0, W1, R0, R1}
use Rattle.march_core.specs.inner.Addresses.{steps_of}
use Rattle.march_core.specs.March.{MarchElement, pause, sweep, order_of, ops_of}
use Rattle.march_core.specs.Operation.{is_wrong_of, written_by, expected_by}
use Rattle.march_core.specs.Visits.{MarchStep, pausing, visiting, Direction, Upward, Downward, allows, is_direction, cell_visits, address_visits, addresses, element_visits, visits_from, visits}
use Rattle.array_sim.specs.Run.{act_of}
use Rattle.array_sim.proofs.RunsBy.{run_by, differs_where, visits_split}
use Rattle.cell_machine.specs.declared.pair.Side.{Side}
use Rattle.cell_machine.specs.declared.pair.Side.TheVariants.{A, V}
use Rattle.cell_machine.specs.Seen.{place_of}
use Rattle.pair_tracker.proofs.Tags.{kept, side_at, side_is, pair_ordered}
use Rattle.decoder_faults.specs.declared.fault.WiredRead.{WiredRead}
use Rattle.decoder_faults.specs.declared.fault.WiredRead.TheVariants.{And, Or, Own}
use Rattle.decoder_faults.specs.declared.fault.DecoderFault.{DecoderFault}
use Rattle.decoder_faults.specs.declared.fault.DecoderFault.TheVariants.{NoCell, OtherCell, BothCells, TakenCell}
use Rattle.decoder_faults.specs.Conditions.{read_first, later, written_last, turned, is_bit, does_tell, has_read, does_show, catches, some_element, meets}
use Rattle.decoder_faults.specs.Decoding.{AddressPair, FitsPair, Decoder, Reach, no_cell, one_cell, two_cells, reach_of_x, reach_of_y, reach_of, HasFault, wired_bit, write_through, read_through, act_through, answer_through}
use Rattle.decoder_faults.specs.Detection.{cells_behind, is_wrong_there, DetectsDecoder, DetectsAmong}
use Rattle.decoder_faults.proofs.Elements.{caught_by, sides_by}
use Rattle.decoder_faults.proofs.Meeting.{x_first_in, sides_ordered, no_ops, passes_in, element_passes}
use Rattle.decoder_faults.proofs.Passing.{has_alone}
use Rattle.decoder_faults.proofs.Seen.{length-act_through}

-- ---- what an operation leaves in a cell

abbrev hits : Reach → ℕ → Bool
hits (no_cell answer) y = false
hits (one_cell c) y = eqb y c
hits (two_cells wired c d) y = eqb y d || eqb y c

-- what is left, by whether it is written to, and what is written last
abbrev left_in : Bool → Option Bool → Bool → Bool
left_in hit None bit = bit
left_in hit (Some written) bit = cond hit written bit

left_twice : (hit : Bool) (first last : Option Bool) (bit : Bool) → left_in hit last (left_in hit first bit) ≡ left_in hit (later first last) bit
left_twice hit first None bit = refl
left_twice true first (Some written) bit = refl
left_twice false None (Some written) bit = refl
left_twice false (Some other) (Some written) bit = refl

set_at : (cells : List Bool) (c y : ℕ) (bit : Bool) → y < length cells → cell (slice_set cells c bit) y ≡ cond (eqb y c) bit (cell cells y)
set_at cells c y bit within =
    ⊎_elim
    (λ (h : (eqb y c ≡ true) × (y ≡ c)).
    ap (cell (slice_set cells c bit)) h.1 ∙ get_or-set_same cells c bit false (subst (λ k. k < length cells) h.1 within) ∙ sym (ap (λ b. cond b bit (cell cells y)) h.0))
    (λ (h : (eqb y c ≡ false) × (y ≢ c)). get_or-set_other cells c y bit false h.1 ∙ sym (ap (λ b. cond b bit (cell cells y)) h.0))
    (eqb_tells y c)

write_at : (reach : Reach) (cells : List Bool) (y : ℕ) (bit : Bool) → y < length cells → cell (write_through reach cells bit) y ≡ cond (hits reach y) bit (cell cells y)
write_at (no_cell answer) cells y bit within = refl
write_at (one_cell c) cells y bit within = set_at cells c y bit within
write_at (two_cells wired c d) cells y bit within =
    set_at (slice_set cells c bit) d y bit (subst (λ n. y < n) (sym (length-set cells c bit)) within) ∙ ap (cond (eqb y d) bit) (set_at cells c y bit within)
    ∙ either (eqb y d) (eqb y c)
  where
    either : (a b : Bool) → cond a bit (cond b bit (cell cells y)) ≡ cond (a || b) bit (cell cells y)
    either true b = refl
    either false b = refl

act_at : (reach : Reach) (cells : List Bool) (y : ℕ) (op : Op) → y < length cells → cell (act_through reach cells (act_of op)) y ≡ left_in (hits reach y) (written_by op) (cell cells y)
act_at reach cells y W0 within = write_at reach cells y false within
act_at reach cells y W1 within = write_at reach cells y true within
act_at reach cells y R0 within = refl
act_at reach cells y R1 within = refl

-- ---- what catches the fault

turned_parts : (read left : Option Bool) (bit : Bool) → turned read left ≡ Some bit → (read ≡ Some bit) × (left ≡ Some (not bit))
turned_parts None left bit e = cc
turned_parts (Some r) None bit e = cc
turned_parts (Some false) (Some false) bit e = cc
turned_parts (Some true) (Some true) bit e = cc
turned_parts (Some false) (Some true) bit e = let same : false ≡ bit = cc in (ap Some same, ap (λ b. Some (not b)) same)
turned_parts (Some true) (Some false) bit e = let same : true ≡ bit = cc in (ap Some same, ap (λ b. Some (not b)) same)

other_answer : (reach : Reach) (cells : List Bool) (op : Op) (bit : Bool) → expected_by op ≡ Some bit → read_through reach cells ≡ not bit
    → is_wrong_of op (answer_through reach cells (act_of op)) ≡ true
other_answer reach cells W0 bit e read = cc
other_answer reach cells W1 bit e read = cc
other_answer reach cells R0 bit e read =
    let same : false ≡ bit = cc in ap (λ b. is_wrong_of R0 (Some b)) (read ∙ ap not (sym same))
other_answer reach cells R1 bit e read =
    let same : true ≡ bit = cc in ap (λ b. is_wrong_of R1 (Some b)) (read ∙ ap not (sym same))

-- a direction that is open, of an element that catches the fault
caught_in : (fault : DecoderFault) (below : Bool) (e : MarchElement) (d : Direction) → catches fault below e ≡ true → allows (order_of e) d ≡ true
    → caught_by fault (x_first_in below d) (ops_of e) ≡ true
caught_in fault below e d some open_ =
    one (caught_by fault (x_first_in below d) (ops_of e)) (ap (λ b. b && not (caught_by fault (x_first_in below d) (ops_of e))) (sym open_) ∙ passes d)
  where
    neither : (a b : Bool) → a || b ≡ false → (a ≡ false) × (b ≡ false)
    neither true b h = cc
    neither false b h = (refl, h)

    none : passes_in fault below e Upward || passes_in fault below e Downward ≡ false
    none = element_passes fault below e ∙ ap not some

    passes : (d : Direction) → passes_in fault below e d ≡ false
    passes Upward = (neither (passes_in fault below e Upward) (passes_in fault below e Downward) none).0
    passes Downward = (neither (passes_in fault below e Upward) (passes_in fault below e Downward) none).1

    one : (b : Bool) → not b ≡ false → b ≡ true
    one true h = refl
    one false h = cc

none_if : {X : Type 0} (b : Bool) (o : Option X) → o ≡ None → cond b None o ≡ None
none_if true o e = refl
none_if false o e = e

-- ---- the visits

module _ (at : AddressPair) (decoder : Decoder) (n : ℕ) (fits : FitsPair at n) where
  abbrev run : List Bool → List MarchStep → Option (List Bool)
  run cells steps = run_by (cells_behind decoder) (is_wrong_there decoder) cells steps

  abbrev tag : ℕ → Option Side
  tag = side_at at.x at.y

  -- what differs behind any content differs behind any steps
  none_behind : (steps rest : List MarchStep) (cells : List Bool) → length cells ≡ n → ((c : List Bool) → length c ≡ n → run c rest ≡ None) → run cells (steps ++ rest) ≡ None
  none_behind [] rest cells size on = on cells size
  none_behind (pausing e ∷ steps) rest cells size on = none_behind steps rest cells size on
  none_behind (visiting v ∷ steps) rest cells size on =
      none_if (is_wrong_there decoder cells v) (run (act_through (decoder v.address) cells (act_of v.op)) (steps ++ rest))
      (none_behind steps rest (act_through (decoder v.address) cells (act_of v.op)) (length-act_through (decoder v.address) cells (act_of v.op) ∙ size) on)

  -- the visits to an address lead from one kind of content to another, or a read differs
  abbrev Leads : ℕ → List Op → ℕ → (List Bool → Type 0) → (List Bool → Type 0) → Type 0
  Leads e ops z From To =
      (k : ℕ) (rest : List MarchStep) (cells : List Bool) → length cells ≡ n → From cells → ((c : List Bool) → length c ≡ n → To c → run c rest ≡ None)
      → run cells (steps_of (cell_visits e z k ops) ++ rest) ≡ None

  -- to what the operations write last
  writes : (e z : ℕ) (ops : List Op) (bit : Bool) → Leads e ops z (λ c. cell c at.y ≡ bit) (λ c. cell c at.y ≡ left_in (hits (decoder z) at.y) (written_last ops) bit)
  writes e z [] bit k rest cells size is on = on cells size is
  writes e z (op ∷ ops) bit k rest cells size is on =
      let next : List Bool = act_through (decoder z) cells (act_of op) in
      let hit : Bool = hits (decoder z) at.y in
      let within : at.y < length cells = subst (λ m. at.y < m) (sym size) fits.y_within in
      none_if (is_wrong_of op (answer_through (decoder z) cells (act_of op))) (run next (steps_of (cell_visits e z (k + 1) ops) ++ rest))
      (writes e z ops (left_in hit (written_by op) bit) (k + 1) rest next (length-act_through (decoder z) cells (act_of op) ∙ size)
      (act_at (decoder z) cells at.y op within ∙ ap (left_in hit (written_by op)) is)
      (λ c same left. on c same (left ∙ left_twice hit (written_by op) (written_last ops) bit)))

  -- nowhere, where the first of them is a read of another bit
  differs : (e z : ℕ) (ops : List Op) (bit : Bool) (From To : List Bool → Type 0) → read_first ops ≡ Some bit → ((c : List Bool) → From c → read_through (decoder z) c ≡ not bit)
      → Leads e ops z From To
  differs e z [] bit From To first reads k rest cells size from on = cc
  differs e z (op ∷ ops) bit From To first reads k rest cells size from on =
      ap (λ b. cond b None (run (act_through (decoder z) cells (act_of op)) (steps_of (cell_visits e z (k + 1) ops) ++ rest)))
      (other_answer (decoder z) cells op bit first (reads cells from))

  -- or where one is a read of another bit than no cell answers
  unanswered : (e z : ℕ) (ops : List Op) (answer : Bool) (From To : List Bool → Type 0) → decoder z ≡ no_cell answer → has_read (not answer) ops ≡ true
      → Leads e ops z (λ c. Unit {0}) To
  unanswered e z [] answer From To none some k rest cells size from on = cc
  unanswered e z (op ∷ ops) answer From To none some k rest cells size from on =
      go (is_bit (not answer) (expected_by op)) refl
      (λ more. unanswered e z ops answer From To none more (k + 1) rest (act_through (decoder z) cells (act_of op)) (length-act_through (decoder z) cells (act_of op) ∙ size) tt on)
    where
      next : List Bool
      next = act_through (decoder z) cells (act_of op)

      twice : (b : Bool) → b ≡ not (not b)
      twice true = refl
      twice false = refl

      expects : (o : Option Bool) → is_bit (not answer) o ≡ true → o ≡ Some (not answer)
      expects None e = cc
      expects (Some other) e = ap Some (sym (alike (not answer) other e))
        where
          alike : (a b : Bool) → same_bit a b ≡ true → a ≡ b
          alike true true e = refl
          alike false false e = refl
          alike true false e = cc
          alike false true e = cc

      go : (b : Bool) → is_bit (not answer) (expected_by op) ≡ b → (has_read (not answer) ops ≡ true → run next (steps_of (cell_visits e z (k + 1) ops) ++ rest) ≡ None)
          → cond (is_wrong_of op (answer_through (decoder z) cells (act_of op))) None (run next (steps_of (cell_visits e z (k + 1) ops) ++ rest)) ≡ None
      go true here later_on =
          ap (λ b. cond b None (run next (steps_of (cell_visits e z (k + 1) ops) ++ rest)))
          (other_answer (decoder z) cells op (not answer) (expects (expected_by op) here) (ap (λ r. read_through r cells) none ∙ twice answer))
      go false here later_on =
          none_if (is_wrong_of op (answer_through (decoder z) cells (act_of op))) (run next (steps_of (cell_visits e z (k + 1) ops) ++ rest))
          (later_on (sym (ap (λ b. b || has_read (not answer) ops) here) ∙ some))

  -- ---- the two addresses in turn, among others

  abbrev visits_to : ℕ → List Op → List ℕ → List MarchStep → List MarchStep
  visits_to e ops zs rest = steps_of (address_visits e ops zs) ++ rest

  abbrev place : Side → ℕ
  place s = place_of at.x at.y s

  first_visits : (e z : ℕ) (ops : List Op) (zs : List ℕ) (rest : List MarchStep) (cells : List Bool)
      → run cells (steps_of (cell_visits e z 0 ops) ++ visits_to e ops zs rest) ≡ None → run cells (visits_to e ops (z ∷ zs) rest) ≡ None
  first_visits e z ops zs rest cells none =
      ap (λ l. run cells (l ++ rest)) (visits_split e z ops zs)
      ∙ ap (run cells) (append_assoc (steps_of (cell_visits e z 0 ops)) (steps_of (address_visits e ops zs)) rest) ∙ none

  same_name : (s t : Side) (ts us : List (Option Side)) → Some s ∷ ts ≡ Some t ∷ us → (s ≡ t) × (ts ≡ us)
  same_name s t ts us e = (cc, cc)

  second_turn : (e : ℕ) (ops : List Op) (t : Side) (Ready : List Bool → Type 0) → ((z : ℕ) → Leads e ops z Ready Ready) → Leads e ops (place t) Ready (λ c. ⊥)
      → (zs : List ℕ) → kept (map tag zs) ≡ Some t ∷ [] → (rest : List MarchStep) (cells : List Bool) → length cells ≡ n → Ready cells → run cells (visits_to e ops zs rest) ≡ None
  second_turn e ops t Ready stays ends [] names rest cells size ready = cc
  second_turn e ops t Ready stays ends (z ∷ zs) names rest cells size ready =
      first_visits e z ops zs rest cells (go (tag z) refl (λ others c same left. second_turn e ops t Ready stays ends zs others rest c same left))
    where
      go : (o : Option Side) → tag z ≡ o
          → (kept (map tag zs) ≡ Some t ∷ [] → (c : List Bool) → length c ≡ n → Ready c → run c (visits_to e ops zs rest) ≡ None)
          → run cells (steps_of (cell_visits e z 0 ops) ++ visits_to e ops zs rest) ≡ None
      go None is further = stays z 0 (visits_to e ops zs rest) cells size ready (further (ap (λ o. kept (o ∷ map tag zs)) (sym is) ∙ names))
      go (Some s) is further =
          let same : s ≡ t = (same_name s t (kept (map tag zs)) [] (ap (λ o. kept (o ∷ map tag zs)) (sym is) ∙ names)).0 in
          let here : z ≡ place t = side_is at.x at.y z s is ∙ ap place same in
          subst (λ y. run cells (steps_of (cell_visits e y 0 ops) ++ visits_to e ops zs rest) ≡ None) (sym here)
          (ends 0 (visits_to e ops zs rest) cells size ready (λ c same no. absurd no))

  both_turns : (e : ℕ) (ops : List Op) (s t : Side) (Ready : List Bool → Type 0) → Leads e ops (place s) (λ c. Unit {0}) Ready → ((z : ℕ) → Leads e ops z Ready Ready)
      → Leads e ops (place t) Ready (λ c. ⊥) → (zs : List ℕ) → kept (map tag zs) ≡ Some s ∷ Some t ∷ []
      → (rest : List MarchStep) (cells : List Bool) → length cells ≡ n → run cells (visits_to e ops zs rest) ≡ None
  both_turns e ops s t Ready begins stays ends [] names rest cells size = cc
  both_turns e ops s t Ready begins stays ends (z ∷ zs) names rest cells size =
      first_visits e z ops zs rest cells (go (tag z) refl (λ others c same. both_turns e ops s t Ready begins stays ends zs others rest c same))
    where
      go : (o : Option Side) → tag z ≡ o
          → (kept (map tag zs) ≡ Some s ∷ Some t ∷ [] → (c : List Bool) → length c ≡ n → run c (visits_to e ops zs rest) ≡ None)
          → run cells (steps_of (cell_visits e z 0 ops) ++ visits_to e ops zs rest) ≡ None
      go None is further =
          none_behind (steps_of (cell_visits e z 0 ops)) (visits_to e ops zs rest) cells size (further (ap (λ o. kept (o ∷ map tag zs)) (sym is) ∙ names))
      go (Some r) is further =
          let parts = same_name r s (kept (map tag zs)) (Some t ∷ []) (ap (λ o. kept (o ∷ map tag zs)) (sym is) ∙ names) in
          let here : z ≡ place s = side_is at.x at.y z r is ∙ ap place parts.0 in
          subst (λ y. run cells (steps_of (cell_visits e y 0 ops) ++ visits_to e ops zs rest) ≡ None) (sym here)
          (begins 0 (visits_to e ops zs rest) cells size tt (λ c same ready. second_turn e ops t Ready stays ends zs parts.1 rest c same ready))

  abbrev first_side : Bool → Side
  first_side true = A
  first_side false = V

  abbrev second_side : Bool → Side
  second_side true = V
  second_side false = A

  sides_are : (b : Bool) → sides_by b ≡ Some (first_side b) ∷ Some (second_side b) ∷ []
  sides_are true = refl
  sides_are false = refl

  -- an element that turns a bit: both addresses reach cell y
  module _ (reaches_y : (s : Side) → hits (decoder (place s)) at.y ≡ true) (e : ℕ) (ops : List Op) (bit : Bool) (turns : turned (read_first ops) (written_last ops) ≡ Some bit) where
    abbrev Ready : List Bool → Type 0
    Ready c = cell c at.y ≡ not bit

    left : (z : ℕ) (before : Bool) → left_in (hits (decoder z) at.y) (written_last ops) before ≡ cond (hits (decoder z) at.y) (not bit) before
    left z before = ap (λ w. left_in (hits (decoder z) at.y) w before) (turned_parts (read_first ops) (written_last ops) bit turns).1

    begins : (s : Side) → Leads e ops (place s) (λ c. Unit {0}) Ready
    begins s k rest cells size any on =
        writes e (place s) ops (cell cells at.y) k rest cells size refl
        (λ c same is. on c same (is ∙ left (place s) (cell cells at.y) ∙ ap (λ b. cond b (not bit) (cell cells at.y)) (reaches_y s)))

    stays : (z : ℕ) → Leads e ops z Ready Ready
    stays z k rest cells size ready on =
        writes e z ops (not bit) k rest cells size ready (λ c same is. on c same (is ∙ left z (not bit) ∙ either (hits (decoder z) at.y)))
      where
        either : (b : Bool) → cond b (not bit) (not bit) ≡ not bit
        either true = refl
        either false = refl

    pub turn_differs : (s t : Side) → ((c : List Bool) → Ready c → read_through (decoder (place t)) c ≡ not bit) → (zs : List ℕ) → kept (map tag zs) ≡ Some s ∷ Some t ∷ []
        → (rest : List MarchStep) (cells : List Bool) → length cells ≡ n → run cells (visits_to e ops zs rest) ≡ None
    turn_differs s t reads zs names rest cells size =
        both_turns e ops s t Ready (begins s) stays
        (differs e (place t) ops bit Ready (λ c. ⊥) (turned_parts (read_first ops) (written_last ops) bit turns).0 reads) zs names rest cells size

  -- an element that reads what x doesn't answer
  read_differs : (e : ℕ) (ops : List Op) (answer : Bool) → decoder at.x ≡ no_cell answer → has_read (not answer) ops ≡ true → (x_first : Bool) (zs : List ℕ)
      → kept (map tag zs) ≡ sides_by x_first → (rest : List MarchStep) (cells : List Bool) → length cells ≡ n → run cells (visits_to e ops zs rest) ≡ None
  read_differs e ops answer none some true zs names rest cells size =
      both_turns e ops A V (λ c. ⊥) (unanswered e at.x ops answer (λ c. Unit {0}) (λ c. ⊥) none some)
      (λ z k rest c same no on. absurd no) (λ k rest c same no on. absurd no) zs names rest cells size
  read_differs e ops answer none some false zs names rest cells size =
      both_turns e ops V A (λ c. Unit {0}) (λ k rest c same any on. none_behind (steps_of (cell_visits e at.y k ops)) rest c same (λ d s. on d s tt))
      (λ z k rest c same any on. none_behind (steps_of (cell_visits e z k ops)) rest c same (λ d s. on d s tt))
      (unanswered e at.x ops answer (λ c. Unit {0}) (λ c. ⊥) none some) zs names rest cells size

-- ---- the elements of a march

some_of : (o : Option Bool) → is_some o ≡ true → (bit : Bool) × (o ≡ Some bit)
some_of None some = cc
some_of (Some bit) some = (bit, refl)

shown : (wired : WiredRead) (x_first : Bool) (o : Option Bool) → does_show wired x_first o ≡ true → (bit : Bool) × (o ≡ Some bit) × ((x_first || does_tell wired bit) ≡ true)
shown wired x_first None shows = cc
shown wired x_first (Some bit) shows = (bit, refl, shows)

told : (wired : WiredRead) (own bit : Bool) → does_tell wired bit ≡ true → wired_bit wired own (not bit) ≡ not bit
told And true true tells = refl
told And false true tells = refl
told And own false tells = cc
told Or true false tells = refl
told Or false false tells = refl
told Or own true tells = cc
told Own own bit tells = cc

module _ (at : AddressPair) (decoder : Decoder) (n : ℕ) (fits : FitsPair at n) where
  abbrev Differs : ℕ → List Op → Bool → Type 0
  Differs e ops x_first =
      (zs : List ℕ) → kept (map (side_at at.x at.y) zs) ≡ sides_by x_first → (rest : List MarchStep) (cells : List Bool) → length cells ≡ n
      → run at decoder n fits cells (visits_to at decoder n fits e ops zs rest) ≡ None

  both_hit : (fault : DecoderFault) → HasFault decoder fault at → hits (reach_of_x fault at) at.y ≡ true → hits (reach_of_y fault at) at.y ≡ true
      → (s : Side) → hits (decoder (place_of at.x at.y s)) at.y ≡ true
  both_hit fault has x y A = ap (λ r. hits r at.y) has.at_x ∙ x
  both_hit fault has x y V = ap (λ r. hits r at.y) has.at_y ∙ y

  own_hit : eqb at.y at.y ≡ true
  own_hit = eq-eqb at.y at.y refl

  caught_differs : (fault : DecoderFault) → HasFault decoder fault at → (e : ℕ) (ops : List Op) (x_first : Bool) → caught_by fault x_first ops ≡ true → Differs e ops x_first
  caught_differs (NoCell answer) has e ops x_first caught = read_differs at decoder n fits e ops answer has.at_x caught x_first
  caught_differs (TakenCell answer wired) has e ops x_first caught = read_differs at decoder n fits e ops answer has.at_x caught x_first
  caught_differs OtherCell has e ops x_first caught =
      λ zs names. turn_differs at decoder n fits (both_hit OtherCell has own_hit own_hit) e ops turns.0 turns.1 (first_side at decoder n fits x_first) (second_side at decoder n fits x_first)
      (reads (second_side at decoder n fits x_first)) zs (names ∙ sides_are at decoder n fits x_first)
    where
      turns : (bit : Bool) × (turned (read_first ops) (written_last ops) ≡ Some bit)
      turns = some_of (turned (read_first ops) (written_last ops)) caught

      reads : (t : Side) (c : List Bool) → cell c at.y ≡ not turns.0 → read_through (decoder (place_of at.x at.y t)) c ≡ not turns.0
      reads A c ready = ap (λ r. read_through r c) has.at_x ∙ ready
      reads V c ready = ap (λ r. read_through r c) has.at_y ∙ ready
  caught_differs (BothCells wired) has e ops true caught =
      let turns = shown wired true (turned (read_first ops) (written_last ops)) caught in
      turn_differs at decoder n fits (both_hit (BothCells wired) has (ap (λ b. b || eqb at.y at.x) own_hit) own_hit) e ops turns.0 turns.1 A V
      (λ c ready. ap (λ r. read_through r c) has.at_y ∙ ready)
  caught_differs (BothCells wired) has e ops false caught =
      let turns = shown wired false (turned (read_first ops) (written_last ops)) caught in
      turn_differs at decoder n fits (both_hit (BothCells wired) has (ap (λ b. b || eqb at.y at.x) own_hit) own_hit) e ops turns.0 turns.1 V A
      (λ c ready. ap (λ r. read_through r c) has.at_x ∙ ap (wired_bit wired (cell c at.x)) ready ∙ told wired (cell c at.x) turns.0 turns.2)

  march_differs : (fault : DecoderFault) → HasFault decoder fault at → (es : List MarchElement) (ds : List Direction) (k : ℕ) → is_direction es ds ≡ true
      → some_element (catches fault (nat_lt at.x at.y)) es ≡ true → (cells : List Bool) → length cells ≡ n → run at decoder n fits cells (visits_from k es ds n) ≡ None
  march_differs fault has [] ds k allowed some cells size = cc
  march_differs fault has (e ∷ es) [] k allowed some cells size = cc
  march_differs fault has (e ∷ es) (d ∷ ds) k allowed some cells size =
      go (catches fault below e) refl (λ more c same. march_differs fault has es ds (k + 1) parts.1 more c same)
    where
      below : Bool
      below = nat_lt at.x at.y

      parts : (allows (order_of e) d ≡ true) × (is_direction es ds ≡ true)
      parts = and_parts (allows (order_of e) d) (is_direction es ds) allowed

      here : (e : MarchElement) → caught_by fault (x_first_in below d) (ops_of e) ≡ true → run at decoder n fits cells (element_visits k e d n ++ visits_from (k + 1) es ds n) ≡ None
      here pause caught = absurd (let clash : true ≡ false = sym caught ∙ no_ops fault (x_first_in below d) in cc)
      here (sweep order ops) caught =
          caught_differs fault has k ops (x_first_in below d) caught (addresses d n)
          (pair_ordered at.x at.y n fits.apart fits.x_within fits.y_within d ∙ sides_ordered below d) (visits_from (k + 1) es ds n) cells size

      go : (b : Bool) → catches fault below e ≡ b
          → (some_element (catches fault below) es ≡ true → (c : List Bool) → length c ≡ n → run at decoder n fits c (visits_from (k + 1) es ds n) ≡ None)
          → run at decoder n fits cells (element_visits k e d n ++ visits_from (k + 1) es ds n) ≡ None
      go true some_here further = here e (caught_in fault below e d some_here parts.0)
      go false none_here further =
          none_behind at decoder n fits (element_visits k e d n) (visits_from (k + 1) es ds n) cells size
          (further (sym (ap (λ b. b || some_element (catches fault below) es) none_here) ∙ some))

-- a march whose elements meet the fault catches it, whatever the other addresses reach
pub caught_among : (march : List MarchElement) (fault : DecoderFault) → meets march fault ≡ true → DetectsAmong march fault
caught_among march fault met ds decoder at content allowed fits has =
    differs_where (cells_behind decoder) (is_wrong_there decoder) content (visits march ds (length content))
    (march_differs at decoder (length content) fits fault has march ds 0 allowed (each (nat_lt at.x at.y)) content refl)
  where
    both : (some_element (catches fault true) march ≡ true) × (some_element (catches fault false) march ≡ true)
    both = and_parts (some_element (catches fault true) march) (some_element (catches fault false) march) met

    each : (below : Bool) → some_element (catches fault below) march ≡ true
    each true = both.0
    each false = both.1

-- so it detects it alone
pub met_detects : (march : List MarchElement) (fault : DecoderFault) → meets march fault ≡ true → DetectsDecoder march fault
met_detects march fault met n more ds at content allowed fits size =
    caught_among march fault met ds (reach_of fault at) at content allowed (subst (FitsPair at) (sym size) fits) (has_alone fault at fits.apart)
