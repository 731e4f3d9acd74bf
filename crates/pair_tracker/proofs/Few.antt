-- A run on a whole array, seen from the few cells of a fault: while every read of another cell is right, the few go through what they go through alone.
use Rattle.std.proofs.Common.{◌≡◌, ◌≢◌, ◌+◌, ◌<◌, ℕ, Bool, true, false, cond, ◌||◌, eqb, Option, Some, None, List, [], ◌∷◌, ◌++◌, length, map, refl, ap, sym, subst, ◌∙◌, ⊎_elim}
use Rattle.std.proofs.lemmas.Bool.{eq-eqb}
use Rattle.std.proofs.lemmas.Bool.Decides.{eqb_tells}
use Rattle.std.proofs.lemmas.List.{get_or-set_same}
use Rattle.std.specs.Option.{option_and_then}
use Rattle.fault_core.specs.Cells.{cell, plain_cells, plain_answer}
use Rattle.march_core.specs.declared.operation.Op.{Op}
use Rattle.march_core.specs.declared.operation.Op.TheVariants.{W0, W1, R0, R1}
use Rattle.march_core.specs.March.{MarchElement, IsMarch, pause, sweep, all_ops}
use Rattle.march_core.specs.Operation.{is_wrong_of}
use Rattle.march_core.specs.Visits.{Visit, MarchStep, pausing, visiting, Direction, cell_visits, address_visits, addresses, visits_from, visits}
use Rattle.march_core.specs.inner.Addresses.{steps_of}
use Rattle.march_core.specs.inner.Scan.{after_op, is_right, scan_of}
use Rattle.march_core.proofs.Consistent.{consistent_scan, last_after}
use Rattle.array_sim.specs.Differing.{SomeDiffersBy, left_behind}
use Rattle.array_sim.specs.Run.{act_of}
use Rattle.array_sim.proofs.RunsBy.{run_by, run_append, differs_where, right_where, visits_split}
use Rattle.cell_machine.proofs.Projection.{cell-plain_cells_other}
use Rattle.pair_tracker.specs.Few.{Machine, Order, ops_run, passed, cell_run, cells_run, few_run}
use Rattle.pair_tracker.proofs.Sides.{contains, Distinct, AllBelow, addresses_distinct, addresses_below, addresses_all}

pub right_first : (b : Bool) (r : Option (Option Bool)) (next : Option Bool) → cond b r None ≡ Some next → (b ≡ true) × (r ≡ Some next)
right_first true r next e = (refl, e)
right_first false r next e = cc

-- a right read is answered so by a cell that holds what was written last
plain_right : (op : Op) (last : Option Bool) (cells : List Bool) (x : ℕ) → is_right last op ≡ true → ((bit : Bool) → last ≡ Some bit → cell cells x ≡ bit)
    → is_wrong_of op (plain_answer cells x (act_of op)) ≡ false
plain_right W0 last cells x right held = refl
plain_right W1 last cells x right held = refl
plain_right R0 None cells x right held = cc
plain_right R1 None cells x right held = cc
plain_right R0 (Some true) cells x right held = cc
plain_right R0 (Some false) cells x right held = let e : cell cells x ≡ false = held false refl in rw e refl
plain_right R1 (Some false) cells x right held = cc
plain_right R1 (Some true) cells x right held = let e : cell cells x ≡ true = held true refl in rw e refl

plain_held : (op : Op) (last : Option Bool) (cells : List Bool) (x : ℕ) → x < length cells → ((bit : Bool) → last ≡ Some bit → cell cells x ≡ bit)
    → (bit : Bool) → after_op last op ≡ Some bit → cell (plain_cells cells x (act_of op)) x ≡ bit
plain_held W0 last cells x within held bit e = get_or-set_same cells x false false within ∙ cc
plain_held W1 last cells x within held bit e = get_or-set_same cells x true false within ∙ cc
plain_held R0 last cells x within held bit e = held bit e
plain_held R1 last cells x within held bit e = held bit e

-- the scan of a list in two parts
pub scan_parts : (last : Option Bool) (xs ys : List Op) (end : Option Bool) → scan_of last (xs ++ ys) ≡ Some end
    → (mid : Option Bool) × (scan_of last xs ≡ Some mid) × (scan_of mid ys ≡ Some end)
scan_parts last [] ys end e = (last, refl, e)
scan_parts last (x ∷ xs) ys end e =
    let h = right_first (is_right last x) (scan_of (after_op last x) (xs ++ ys)) end e in
    let rest = scan_parts (after_op last x) xs ys end h.1 in
    (rest.0, ap (λ b. cond b (scan_of (after_op last x) xs) None) h.0 ∙ rest.1, rest.2)

-- each other cell holds what its last write wrote: before its visit, or after it
abbrev pub Agrees : {I : Type 0} → (ℕ → Option I) → ℕ → List ℕ → Option Bool → Option Bool → List Bool → Type 0
Agrees tag n xs last next cells = (y : ℕ) → y < n → tag y ≡ None → (bit : Bool) → cond (contains y xs) last next ≡ Some bit → cell cells y ≡ bit

-- what is seen of a state, and whether all reads of other cells are right
module _ {S Q : Type 0} (see : S → Q) (Strict : Type 0) where
  -- a run of what is seen of a state is what the run of the state shows of it; if a read of another cell may be wrong, the state's may end before
  abbrev pub Shows : Option Q → Option S → (S → Type 0) → Type 0
  Shows None None Left = Unit {0}
  Shows None (Some c) Left = ⊥
  Shows (Some q) None Left = Strict → ⊥
  Shows (Some q) (Some c) Left = (see c ≡ q) × Left c

  shows_less : (r : Option Q) (o : Option S) (K L : S → Type 0) → ((c : S) → K c → L c) → Shows r o K → Shows r o L
  shows_less None None K L f s = tt
  shows_less None (Some c) K L f s = absurd s
  shows_less (Some q) None K L f s = s
  shows_less (Some q) (Some c) K L f s = (s.0, f c s.1)

  stopped : (r : Option Q) (L : S → Type 0) → (Strict → ⊥) → Shows r None L
  stopped None L s = tt
  stopped (Some q) L s = s

  shows_on : (r : Option Q) (o : Option S) (f : Q → Option Q) (g : S → Option S) (K L : S → Type 0)
      → Shows r o K → ((c : S) → K c → Shows (f (see c)) (g c) L) → Shows (option_and_then f r) (option_and_then g o) L
  shows_on None None f g K L s k = tt
  shows_on None (Some c) f g K L s k = absurd s
  shows_on (Some q) None f g K L s k = stopped (f q) L s
  shows_on (Some q) (Some c) f g K L s k = subst (λ (r : Q). Shows (f r) (g c) L) s.0 (k c s.1)

  -- steps in two parts
  shows_parts : (after : S → MarchStep → S) (is_wrong : S → Visit → Bool) (s : S) (xs ys : List MarchStep) (r : Option Q) (f : Q → Option Q) (K L : S → Type 0)
      → Shows r (run_by after is_wrong s xs) K → ((c : S) → K c → Shows (f (see c)) (run_by after is_wrong c ys) L)
      → Shows (option_and_then f r) (run_by after is_wrong s (xs ++ ys)) L
  shows_parts after is_wrong s xs ys r f K L shown k =
      subst (λ (o : Option S). Shows (option_and_then f r) o L) (sym (run_append after is_wrong s xs ys))
      (shows_on r (run_by after is_wrong s xs) f (λ c. run_by after is_wrong c ys) K L shown k)

  -- the first visit, by the test of its answer: to one of the few, and to another cell
  own_first : (told wrong : Bool) (r : Option Q) (o : Option S) (K L : S → Type 0)
      → wrong ≡ told → ((c : S) → K c → L c) → Shows r o K → Shows (cond told None r) (cond wrong None o) L
  own_first true true r o K L e f h = tt
  own_first true false r o K L e f h = cc
  own_first false true r o K L e f h = cc
  own_first false false r o K L e f h = shows_less r o K L f h

  other_first : (wrong : Bool) (r : Option Q) (o : Option S) (K L : S → Type 0)
      → (Strict → wrong ≡ false) → ((c : S) → K c → L c) → Shows r o K → Shows r (cond wrong None o) L
  other_first true r o K L e f h = stopped r L (λ strict. let clash : true ≡ false = e strict in cc)
  other_first false r o K L e f h = shows_less r o K L f h

-- by what a step leaves of a state and which visits are wrong, the cells of a state, what is seen of it, which of the few an address is, what holds, and whether each other cell is good
module _ {S Q I : Type 0} (after : S → MarchStep → S) (is_wrong : S → Visit → Bool) (cells : S → List Bool) (see : S → Q) (tag : ℕ → Option I) (n : ℕ)
    (m : Machine Q I) (Holds : S → Type 0) (Strict : Type 0) where
  -- how the steps on an array of n cells look from the few
  pub record Sees : Type 0 where
    pub size : Strict → (s : S) → Holds s → length (cells s) ≡ n
    pub holds : (s : S) (step : MarchStep) → Holds s → Holds (after s step)
    pub own_wrong : (s : S) (v : Visit) (i : I) → tag v.address ≡ Some i → v.address < n → Holds s → is_wrong s v ≡ is_wrong_of v.op (m.answer (see s) i (act_of v.op))
    pub own_seen : (s : S) (v : Visit) (i : I) → tag v.address ≡ Some i → v.address < n → Holds s → see (after s (visiting v)) ≡ m.step (see s) i (act_of v.op)
    pub own_leaves : Strict → (s : S) (v : Visit) (i : I) (y : ℕ) → tag v.address ≡ Some i → tag y ≡ None → Holds s → cell (cells (after s (visiting v))) y ≡ cell (cells s) y
    pub other_wrong : Strict → (s : S) (v : Visit) → tag v.address ≡ None → v.address < n → Holds s → is_wrong s v ≡ is_wrong_of v.op (plain_answer (cells s) v.address (act_of v.op))
    pub other_seen : (s : S) (v : Visit) → tag v.address ≡ None → v.address < n → Holds s → see (after s (visiting v)) ≡ m.other (see s)
    pub other_cells : Strict → (s : S) (v : Visit) → tag v.address ≡ None → v.address < n → Holds s → cells (after s (visiting v)) ≡ plain_cells (cells s) v.address (act_of v.op)
    pub other_twice : (q : Q) → m.other (m.other q) ≡ m.other q
    pub pause_seen : (s : S) (e : ℕ) → Holds s → see (after s (pausing e)) ≡ m.pause (see s)
    pub pause_leaves : Strict → (s : S) (e y : ℕ) → tag y ≡ None → Holds s → cell (cells (after s (pausing e))) y ≡ cell (cells s) y

  abbrev run : S → List MarchStep → Option S
  run s steps = run_by after is_wrong s steps

  abbrev Agree : List ℕ → Option Bool → Option Bool → S → Type 0
  Agree xs last next s = Strict → Agrees tag n xs last next (cells s)

  agrees_off : (x : ℕ) (xs : List ℕ) (last next : Option Bool) (s t : S) → Agree (x ∷ xs) last next s
      → (Strict → (y : ℕ) → tag y ≡ None → y ≢ x → cell (cells t) y ≡ cell (cells s) y) → (Strict → (bit : Bool) → tag x ≡ None → next ≡ Some bit → cell (cells t) x ≡ bit)
      → contains x xs ≡ false → Agree xs last next t
  agrees_off x xs last next s t agrees others here off strict y within out bit e =
      ⊎_elim
      (λ (h : (eqb y x ≡ true) × (y ≡ x)).
      let P : ℕ → Type 0 = λ z. tag z ≡ None → cond (contains z xs) last next ≡ Some bit → cell (cells t) z ≡ bit in
      subst P (sym h.1) (λ zo is. here strict bit zo (ap (λ b. cond b last next) (sym off) ∙ is)) out e)
      (λ (h : (eqb y x ≡ false) × (y ≢ x)). others strict y out h.1 ∙ agrees strict y within out bit (ap (λ b. cond (b || contains y xs) last next) h.0 ∙ e))
      (eqb_tells y x)

  left_of : (s c : S) (steps : List MarchStep) → run s steps ≡ Some c → left_behind after s steps ≡ c
  left_of s c [] e = cc
  left_of s c (pausing e ∷ steps) ends = left_of (after s (pausing e)) c steps ends
  left_of s c (visiting v ∷ steps) ends = left_of (after s (visiting v)) c steps (go (is_wrong s v) ends)
    where
      go : (b : Bool) → cond b None (run (after s (visiting v)) steps) ≡ Some c → run (after s (visiting v)) steps ≡ Some c
      go true e = cc
      go false e = e

  module _ (sees : Sees) where
    -- what the visits of an element to one of the few leave
    record Keeps (before left : S) : Type 0 where
      holds : Holds left
      others : Strict → (y : ℕ) → tag y ≡ None → cell (cells left) y ≡ cell (cells before) y

    own_visit : (e x k : ℕ) (i : I) → tag x ≡ Some i → x < n → (ops : List Op) (s : S) → Holds s
        → Shows see Strict (ops_run m (see s) i ops) (run s (steps_of (cell_visits e x k ops))) (Keeps s)
    own_visit e x k i is within [] s holds = (refl, record { holds = holds; others = λ strict y out. refl })
    own_visit e x k i is within (op ∷ ops) s holds =
        let v : Visit = record { element = e; address = x; number = k; op = op } in
        let next : S = after s (visiting v) in
        let rest_steps : List MarchStep = steps_of (cell_visits e x (k + 1) ops) in
        let moved : Shows see Strict (ops_run m (m.step (see s) i (act_of op)) i ops) (run next rest_steps) (Keeps next) =
        subst (λ (q : Q). Shows see Strict (ops_run m q i ops) (run next rest_steps) (Keeps next)) (sees.own_seen s v i is within holds)
        (own_visit e x (k + 1) i is within ops next (sees.holds s (visiting v) holds)) in
        own_first see Strict (is_wrong_of op (m.answer (see s) i (act_of op))) (is_wrong s v) (ops_run m (m.step (see s) i (act_of op)) i ops) (run next rest_steps)
        (Keeps next) (Keeps s) (sees.own_wrong s v i is within holds)
        (λ c kept. record { holds = kept.holds; others = λ strict y out. kept.others strict y out ∙ sees.own_leaves strict s v i y is out holds }) moved

    -- what those to another cell leave: only that cell may change, and it holds what was written last
    record Passes (x : ℕ) (next : Option Bool) (before left : S) : Type 0 where
      holds : Holds left
      others : Strict → (y : ℕ) → y ≢ x → cell (cells left) y ≡ cell (cells before) y
      held : Strict → (bit : Bool) → next ≡ Some bit → cell (cells left) x ≡ bit

    passed_twice : (ops : List Op) (q : Q) → passed m ops (m.other q) ≡ m.other q
    passed_twice [] q = refl
    passed_twice (op ∷ ops) q = sees.other_twice q

    other_visit : (e x k : ℕ) → tag x ≡ None → x < n → (ops : List Op) (last next : Option Bool) (s : S) → Holds s → scan_of last ops ≡ Some next
        → (Strict → (bit : Bool) → last ≡ Some bit → cell (cells s) x ≡ bit)
        → Shows see Strict (Some (passed m ops (see s))) (run s (steps_of (cell_visits e x k ops))) (Passes x next s)
    other_visit e x k out within [] last next s holds scanned held =
        let same : last ≡ next = cc in
        (refl, record { holds = holds; others = λ strict y ne. refl; held = λ strict bit is. held strict bit (same ∙ is) })
    other_visit e x k out within (op ∷ ops) last next s holds scanned held =
        let v : Visit = record { element = e; address = x; number = k; op = op } in
        let left : S = after s (visiting v) in
        let rest_steps : List MarchStep = steps_of (cell_visits e x (k + 1) ops) in
        let test = right_first (is_right last op) (scan_of (after_op last op) ops) next scanned in
        let plain : Strict → cells left ≡ plain_cells (cells s) x (act_of op) = λ strict. sees.other_cells strict s v out within holds in
        let inside : Strict → x < length (cells s) = λ strict. subst (λ k. x < k) (sym (sees.size strict s holds)) within in
        let rest = other_visit e x (k + 1) out within ops (after_op last op) next left (sees.holds s (visiting v) holds) test.1
        (λ strict bit is. ap (λ l. cell l x) (plain strict) ∙ plain_held op last (cells s) x (inside strict) (held strict) bit is) in
        let seen : passed m ops (see left) ≡ m.other (see s) = ap (passed m ops) (sees.other_seen s v out within holds) ∙ passed_twice ops (see s) in
        other_first see Strict (is_wrong s v) (Some (m.other (see s))) (run left rest_steps) (Passes x next left) (Passes x next s)
        (λ strict. sees.other_wrong strict s v out within holds ∙ plain_right op last (cells s) x test.0 (held strict))
        (λ c passes. record {
          holds = passes.holds;
          others = λ strict y ne. passes.others strict y ne ∙ ap (λ l. cell l y) (plain strict) ∙ cell-plain_cells_other (cells s) x (act_of op) y ne;
          held = passes.held;
        })
        (subst (λ (q : Q). Shows see Strict (Some q) (run left rest_steps) (Passes x next left)) seen rest)

    record Leaves (next : Option Bool) (s : S) : Type 0 where
      holds : Holds s
      agrees : Agree [] None next s

    -- the visits to an address, and then to others
    address_visit : (e : ℕ) (ops : List Op) (last next : Option Bool) → scan_of last ops ≡ Some next → (x : ℕ) (xs : List ℕ) (s : S) (behind : List MarchStep)
        → contains x xs ≡ false → x < n → Holds s → Agree (x ∷ xs) last next s
        → ((c : S) → Holds c → Agree xs last next c → Shows see Strict (cells_run m (see c) (map tag xs) ops) (run c behind) (Leaves next))
        → Shows see Strict (cells_run m (see s) (map tag (x ∷ xs)) ops) (run s (steps_of (cell_visits e x 0 ops) ++ behind)) (Leaves next)
    address_visit e ops last next scanned x xs s behind once within holds agrees on = go (tag x) refl
      where
        front : List MarchStep
        front = steps_of (cell_visits e x 0 ops)

        rest : (K : S → Type 0) → (t : Option I) → Shows see Strict (cell_run m (see s) t ops) (run s front) K → ((c : S) → K c → Holds c × Agree xs last next c)
            → Shows see Strict (option_and_then (λ r. cells_run m r (map tag xs) ops) (cell_run m (see s) t ops)) (run s (front ++ behind)) (Leaves next)
        rest K t first kept =
            shows_parts see Strict after is_wrong s front behind (cell_run m (see s) t ops) (λ r. cells_run m r (map tag xs) ops) K (Leaves next) first
            (λ c k. on c (kept c k).0 (kept c k).1)

        go : (t : Option I) → tag x ≡ t
            → Shows see Strict (option_and_then (λ r. cells_run m r (map tag xs) ops) (cell_run m (see s) t ops)) (run s (front ++ behind)) (Leaves next)
        go (Some i) is =
            rest (Keeps s) (Some i) (own_visit e x 0 i is within ops s holds)
            (λ c kept. (
              kept.holds,
              agrees_off x xs last next s c agrees (λ strict y out ne. kept.others strict y out) (λ strict bit out h. let none : ◌≡◌ {A = Option I} None (Some i) = sym out ∙ is in cc) once,
            ))
        go None is =
            let held : Strict → (bit : Bool) → last ≡ Some bit → cell (cells s) x ≡ bit =
            λ strict bit h. agrees strict x within is bit (ap (λ b. cond (b || contains x xs) last next) (eq-eqb x x refl) ∙ h) in
            rest (Passes x next s) None (other_visit e x 0 is within ops last next s holds scanned held)
            (λ c kept. (kept.holds, agrees_off x xs last next s c agrees (λ strict y out ne. kept.others strict y ne) (λ strict bit out h. kept.held strict bit h) once))

    -- the visits of an element to these addresses
    element_visit : (e : ℕ) (ops : List Op) (last next : Option Bool) → scan_of last ops ≡ Some next
        → (xs : List ℕ) (s : S) → Distinct xs → AllBelow n xs → Holds s → Agree xs last next s
        → Shows see Strict (cells_run m (see s) (map tag xs) ops) (run s (steps_of (address_visits e ops xs))) (Leaves next)
    element_visit e ops last next scanned [] s distinct below holds agrees = (refl, record { holds = holds; agrees = agrees })
    element_visit e ops last next scanned (x ∷ xs) s distinct below holds agrees =
        subst (λ (steps : List MarchStep). Shows see Strict (cells_run m (see s) (map tag (x ∷ xs)) ops) (run s steps) (Leaves next)) (sym (visits_split e x ops xs))
        (address_visit e ops last next scanned x xs s (steps_of (address_visits e ops xs)) distinct.0 below.0 holds agrees
        (λ c h a. element_visit e ops last next scanned xs c distinct.1 below.1 h a))

    module _ (order : Order I) (ordered : (d : Direction) (q : Q) (ops : List Op) → cells_run m q (map tag (addresses d n)) ops ≡ cells_run m q (order d) ops) where
      -- the steps of the elements from one on
      pub march_visit : (es : List MarchElement) (ds : List Direction) (k : ℕ) (last end : Option Bool) (s : S) → scan_of last (all_ops es) ≡ Some end
          → Holds s → Agree [] None last s → Shows see Strict (few_run m order (see s) es ds) (run s (visits_from k es ds n)) Holds
      march_visit [] ds k last end s scanned holds agrees = (refl, holds)
      march_visit (e ∷ es) [] k last end s scanned holds agrees = (refl, holds)
      march_visit (pause ∷ es) (d ∷ ds) k last end s scanned holds agrees =
          let next : S = after s (pausing k) in
          subst (λ (q : Q). Shows see Strict (few_run m order q es ds) (run next (visits_from (k + 1) es ds n)) Holds) (sees.pause_seen s k holds)
          (march_visit es ds (k + 1) last end next scanned (sees.holds s (pausing k) holds) (λ strict y within out bit h. sees.pause_leaves strict s k y out holds ∙ agrees strict y within out bit h))
      march_visit (sweep way ops ∷ es) (d ∷ ds) k last end s scanned holds agrees =
          let parts = scan_parts last ops (all_ops es) end scanned in
          let mid : Option Bool = parts.0 in
          let steps : List MarchStep = steps_of (address_visits k ops (addresses d n)) in
          let before : Agree (addresses d n) last mid s =
          λ strict y within out bit h. agrees strict y within out bit (ap (λ b. cond b last mid) (sym (addresses_all d n y within)) ∙ h) in
          let first : Shows see Strict (cells_run m (see s) (order d) ops) (run s steps) (Leaves mid) =
          subst (λ (r : Option Q). Shows see Strict r (run s steps) (Leaves mid)) (ordered d (see s) ops)
          (element_visit k ops last mid parts.1 (addresses d n) s (addresses_distinct d n) (addresses_below d n) holds before) in
          shows_parts see Strict after is_wrong s steps (visits_from (k + 1) es ds n) (cells_run m (see s) (order d) ops) (λ q. few_run m order q es ds) (Leaves mid) Holds first
          (λ c left. march_visit es ds (k + 1) mid end c parts.2 left.holds left.agrees)

      -- no read differs exactly where the few get through, and then they are what is left
      pub passes_where : Strict → (es : List MarchElement) (ds : List Direction) (k : ℕ) (last end : Option Bool) (s : S) → scan_of last (all_ops es) ≡ Some end
          → Holds s → Agree [] None last s → (q : Q) → few_run m order (see s) es ds ≡ Some q
          → (SomeDiffersBy after is_wrong s (visits_from k es ds n) → ⊥) × (see (left_behind after s (visits_from k es ds n)) ≡ q)
      passes_where strict es ds k last end s scanned holds agrees q e =
          go (run s steps) refl (subst (λ (r : Option Q). Shows see Strict r (run s steps) Holds) e (march_visit es ds k last end s scanned holds agrees))
        where
          steps : List MarchStep
          steps = visits_from k es ds n

          go : (o : Option S) → run s steps ≡ o → Shows see Strict (Some q) o Holds → (SomeDiffersBy after is_wrong s steps → ⊥) × (see (left_behind after s steps) ≡ q)
          go None ends h = absurd (h strict)
          go (Some c) ends h = (right_where after is_wrong s c steps ends, ap see (left_of s c steps ends) ∙ h.0)

      pub caught_where : (es : List MarchElement) (ds : List Direction) (k : ℕ) (last end : Option Bool) (s : S) → scan_of last (all_ops es) ≡ Some end
          → Holds s → Agree [] None last s → few_run m order (see s) es ds ≡ None → SomeDiffersBy after is_wrong s (visits_from k es ds n)
      caught_where es ds k last end s scanned holds agrees e =
          go (run s steps) refl (subst (λ (r : Option Q). Shows see Strict r (run s steps) Holds) e (march_visit es ds k last end s scanned holds agrees))
        where
          steps : List MarchStep
          steps = visits_from k es ds n

          go : (o : Option S) → run s steps ≡ o → Shows see Strict None o Holds → SomeDiffersBy after is_wrong s steps
          go None ends h = differs_where after is_wrong s steps ends
          go (Some c) ends h = absurd h

      pub through_unless : Strict → (es : List MarchElement) (ds : List Direction) (k : ℕ) (last end : Option Bool) (s : S) → scan_of last (all_ops es) ≡ Some end
          → Holds s → Agree [] None last s → (SomeDiffersBy after is_wrong s (visits_from k es ds n) → ⊥)
          → few_run m order (see s) es ds ≡ Some (see (left_behind after s (visits_from k es ds n)))
      through_unless strict es ds k last end s scanned holds agrees passes = go (few_run m order (see s) es ds) refl
        where
          go : (r : Option Q) → few_run m order (see s) es ds ≡ r → few_run m order (see s) es ds ≡ Some (see (left_behind after s (visits_from k es ds n)))
          go None e = absurd (passes (caught_where es ds k last end s scanned holds agrees e))
          go (Some q) e = e ∙ ap Some (sym (passes_where strict es ds k last end s scanned holds agrees q e).1)

      -- the same of a whole march
      module _ (march : List MarchElement) (is : IsMarch march) (ds : List Direction) (s : S) (holds : Holds s) where
        abbrev last : Option Bool
        last = last_after None (all_ops march)

        scanned : scan_of None (all_ops march) ≡ Some last
        scanned = consistent_scan (all_ops march) is.consistent

        nothing : Agree [] None None s
        nothing strict y within out bit h = cc

        pub march_passes : Strict → (q : Q) → few_run m order (see s) march ds ≡ Some q → SomeDiffersBy after is_wrong s (visits march ds n) → ⊥
        march_passes strict q e = (passes_where strict march ds 0 None last s scanned holds nothing q e).0

        pub march_caught : few_run m order (see s) march ds ≡ None → SomeDiffersBy after is_wrong s (visits march ds n)
        march_caught e = caught_where march ds 0 None last s scanned holds nothing e

        pub march_through : Strict → (SomeDiffersBy after is_wrong s (visits march ds n) → ⊥) → (q : Q) × (few_run m order (see s) march ds ≡ Some q)
        march_through strict passes = (_, through_unless strict march ds 0 None last s scanned holds nothing passes)
