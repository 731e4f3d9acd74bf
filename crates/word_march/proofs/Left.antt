-- One operation after another: what is left at a place is its operation, and what is left at the next place.
use Rattle.std.proofs.Common.{◌≡◌, ℕ, zero, suc, ◌+◌, ◌-◌, ◌<◌, ◌≤◌, Bool, true, if◌then◌else◌, List, [], ◌∷◌, ◌++◌, drop, map, length, slice_index, slice_get, filter_map, Option, Some, None, inl, inr, refl, sym, ◌∙◌, ap, subst, arith, append_assoc, add-one}
use Rattle.std.proofs.Math.Path.{ap₂}
use Rattle.std.proofs.Math.Seq.{drop-cons}
use Rattle.std.proofs.lemmas.Bool.{lt-ltb, le-ltb, cases_lt}
use Rattle.std.proofs.lemmas.List.{drop_all, map-append}
use Rattle.std.proofs.lemmas.Option.{get_or_from_slice_get}
use Rattle.std.specs.List.{flat_map}
use Rattle.march_core.specs.declared.operation.Op.{Op}
use Rattle.march_core.specs.March.{MarchElement, pause, sweep, order_at, ops_at, is_pause_at}
use Rattle.march_core.specs.Visits.{Upward, Visit, cell_visits, addresses, address_visits, visiting, visits_from}
use Rattle.march_core.proofs.Addresses.{length-addresses}
use Rattle.memory_desc.specs.Descriptions.{Description}
use Rattle.word_march.specs.declared.operations.WordOp.{WordOp}
use Rattle.word_march.specs.declared.place.MarchPlace.{MarchPlace}
use Rattle.march_core.specs.Runs.{upward, up}
use Rattle.word_march.specs.Commands.{word_op, word_step, run_in, word_ops}
use Rattle.word_march.specs.Standing.{addresses_at, sweeps_from, run_ops, visits_left, run_left, ops_left, IsPlace}
use Rattle.word_march.specs.inner.Standing.{visit_at, ArePauses, IsNextSweep, first_of, IsFirst, Follows, next_op, next_step, next_elem, next_run}

-- ---- lists from a place on

from_place : (xs : List ℕ) (i : ℕ) → i < length xs → drop i xs ≡ slice_index xs i ∷ drop (suc i) xs
from_place xs i h = drop-cons xs i 0 h

from_op : (ops : List Op) (i : ℕ) (o : Op) → i < length ops → slice_get ops i ≡ Some o → drop i ops ≡ o ∷ drop (suc i) ops
from_op ops i o h e = drop-cons ops i o h ∙ ap (λ (x : Op). x ∷ drop (suc i) ops) (get_or_from_slice_get ops i o o e)

-- the visits from an element on, by that element
from_element : (march : List MarchElement) (e i size : ℕ) → e < length march
    → sweeps_from i (drop e march) size ≡ address_visits i (ops_at march e) (addresses_at march e size) ++ sweeps_from (i + 1) (drop (suc e) march) size
from_element [] e i size h = absurd (omega arith)
from_element (x ∷ march) zero i size h = refl
from_element (x ∷ march) (suc e) i size h = from_element march e i size (omega arith)

-- ---- pauses

pub no_visits : (element : ℕ) (xs : List ℕ) → address_visits element [] xs ≡ []
no_visits element [] = refl
no_visits element (x ∷ xs) = no_visits element xs

-- a pause has no visits
one_pause : (march : List MarchElement) (e i size : ℕ) → is_pause_at march e ≡ true → sweeps_from i (drop e march) size ≡ sweeps_from (i + 1) (drop (suc e) march) size
one_pause [] e i size h = cc
one_pause (pause ∷ march) zero i size h =
    ap (λ (vs : List Visit). vs ++ sweeps_from (i + 1) march size) (no_visits i (addresses Upward size))
one_pause (sweep order ops ∷ march) zero i size h = cc
one_pause (x ∷ march) (suc e) i size h = one_pause march e i size h

some_pauses : (march : List MarchElement) (e size m : ℕ) → ArePauses march e (e + m) → sweeps_from e (drop e march) size ≡ sweeps_from (e + m) (drop (e + m) march) size
some_pauses march e size zero h = let same : e ≡ e + 0 = omega arith in ap (λ (n : ℕ). sweeps_from n (drop n march) size) same
some_pauses march e size (suc m) h =
    let one : e + 1 ≡ suc e = omega arith in
    let end : (e + 1) + m ≡ e + suc m = omega arith in
    one_pause march e e size (h e (omega arith) (omega arith))
    ∙ ap (λ (n : ℕ). sweeps_from (e + 1) (drop n march) size) (sym one)
    ∙ some_pauses march (e + 1) size m (λ k l u. h k (omega arith) (omega arith))
    ∙ ap (λ (n : ℕ). sweeps_from n (drop n march) size) end

-- the elements up to n are pauses
pub over_pauses : (march : List MarchElement) (e n size : ℕ) → e ≤ n → ArePauses march e n → sweeps_from e (drop e march) size ≡ sweeps_from n (drop n march) size
over_pauses march e n size h p =
    let there : e + (n - e) ≡ n = omega arith in
    some_pauses march e size (n - e) (λ k l u. p k l (omega arith)) ∙ ap (λ (m : ℕ). sweeps_from m (drop m march) size) there

-- ---- the visits that are left

-- behind the visits of a cell
abbrev behind : List MarchElement → ℕ → ℕ → ℕ → List Visit
behind march size element step =
    address_visits element (ops_at march element) (drop (suc step) (addresses_at march element size))
    ++ sweeps_from (element + 1) (drop (suc element) march) size

first_visit : (march : List MarchElement) (size : ℕ) (p : MarchPlace) (o : Op) → p.op < length (ops_at march p.element)
    → slice_get (ops_at march p.element) p.op ≡ Some o
    → visits_left march size p.element p.step p.op
    ≡ visit_at march size p o ∷ (cell_visits p.element (slice_index (addresses_at march p.element size) p.step) (p.op + 1) (drop (suc p.op) (ops_at march p.element))
    ++ behind march size p.element p.step)
first_visit march size p o h e =
    ap (λ (ops : List Op). cell_visits p.element (slice_index (addresses_at march p.element size) p.step) p.op ops ++ behind march size p.element p.step)
    (from_op (ops_at march p.element) p.op o h e)

-- the next cell
next_cell : (march : List MarchElement) (size element step : ℕ) → step + 1 < size
    → behind march size element step ≡ visits_left march size element (step + 1) 0
next_cell march size element step h =
    let places = addresses_at march element size in
    let ops = ops_at march element in
    let count : length places ≡ size = length-addresses (upward (order_at march element)) size in
    let rest = sweeps_from (element + 1) (drop (suc element) march) size in
    let split : behind march size element step ≡ visits_left march size element (suc step) 0 =
    ap (λ (xs : List ℕ). address_visits element ops xs ++ rest) (from_place places (suc step) (omega arith))
    ∙ append_assoc (cell_visits element (slice_index places (suc step)) 0 ops) (address_visits element ops (drop (suc (suc step)) places)) rest in
    subst (λ (n : ℕ). behind march size element step ≡ visits_left march size element n 0) (sym (add-one step)) split

-- the first cell of an element
enter : (march : List MarchElement) (size element : ℕ) → element < length march → 0 < size
    → sweeps_from element (drop element march) size ≡ visits_left march size element 0 0
enter march size element h p =
    let places = addresses_at march element size in
    let ops = ops_at march element in
    let count : length places ≡ size = length-addresses (upward (order_at march element)) size in
    let rest = sweeps_from (element + 1) (drop (suc element) march) size in
    from_element march element element size h
    ∙ ap (λ (xs : List ℕ). address_visits element ops xs ++ rest) (from_place places 0 (omega arith))
    ∙ append_assoc (cell_visits element (slice_index places 0) 0 ops) (address_visits element ops (drop 1 places)) rest

-- no further cell
no_cell : (march : List MarchElement) (size element step : ℕ) → step + 1 ≡ size
    → behind march size element step ≡ sweeps_from (element + 1) (drop (suc element) march) size
no_cell march size element step e =
    let places = addresses_at march element size in
    let count : length places ≡ size = length-addresses (upward (order_at march element)) size in
    ap (λ (xs : List ℕ). address_visits element (ops_at march element) xs ++ sweeps_from (element + 1) (drop (suc element) march) size)
    (drop_all (suc step) places (omega arith))

-- the next element that isn't a pause
next_element : (march : List MarchElement) (size element step n : ℕ) → step + 1 ≡ size → IsNextSweep march (element + 1) n → 0 < size
    → behind march size element step ≡ visits_left march size n 0 0
next_element march size element step n e next p =
    no_cell march size element step e ∙ ap (λ (m : ℕ). sweeps_from (element + 1) (drop m march) size) (sym (add-one element))
    ∙ over_pauses march (element + 1) n size next.reached next.pauses ∙ enter march size n next.within p

-- the end of a run
end_of_run : (march : List MarchElement) (size element step : ℕ) → step + 1 ≡ size → element < length march → ArePauses march (element + 1) (length march)
    → behind march size element step ≡ []
end_of_run march size element step e h pauses =
    no_cell march size element step e ∙ ap (λ (m : ℕ). sweeps_from (element + 1) (drop m march) size) (sym (add-one element))
    ∙ over_pauses march (element + 1) (length march) size (omega arith) pauses
    ∙ ap (λ (es : List MarchElement). sweeps_from (length march) es size) (drop_all (length march) march (omega arith))

-- ---- the operations that are left

abbrev run_at : List MarchElement → Description → ℕ → List Visit → List WordOp
run_at march d background vs =
    map (word_op d.bits (slice_index d.backgrounds background)) vs ++ flat_map (run_ops march d) (drop (suc background) d.backgrounds)

started : (march : List MarchElement) (d : Description) (p : MarchPlace) → p.background < length d.backgrounds
    → ops_left march d p ≡ run_at march d p.background (visits_left march d.words p.element p.step p.op)
started march d p h = ap (λ (t : Bool). if t then run_left march d p else []) (lt-ltb p.background (length d.backgrounds) h)

-- where a run goes on
within : (march : List MarchElement) (d : Description) (p q : MarchPlace) (o : Op) → p.background < length d.backgrounds → q.background ≡ p.background
    → visits_left march d.words p.element p.step p.op ≡ visit_at march d.words p o ∷ visits_left march d.words q.element q.step q.op
    → ops_left march d p ≡ word_op d.bits (slice_index d.backgrounds p.background) (visit_at march d.words p o) ∷ ops_left march d q
within march d p q o h e v =
    let item = word_op d.bits (slice_index d.backgrounds p.background) (visit_at march d.words p o) in
    started march d p h ∙ ap (run_at march d p.background) v
    ∙ ap (λ (b : ℕ). item ∷ run_at march d b (visits_left march d.words q.element q.step q.op)) (sym e)
    ∙ ap (λ (xs : List WordOp). item ∷ xs) (sym (started march d q (subst (λ (b : ℕ). b < length d.backgrounds) (sym e) h)))

-- another run begins, or none
runs_from : (march : List MarchElement) (d : Description) (b n : ℕ) → IsNextSweep march 0 n → 0 < d.words
    → flat_map (run_ops march d) (drop b d.backgrounds) ≡ ops_left march d (first_of b n)
runs_from march d b n next w =
    elim (cases_lt b (length d.backgrounds)) [
      | inl h ↦ ap (flat_map (run_ops march d)) (from_place d.backgrounds b h)
          ∙ ap (run_at march d b) (over_pauses march 0 n d.words next.reached next.pauses ∙ enter march d.words n next.within w)
          ∙ sym (started march d (first_of b n) h)
      | inr h ↦ ap (flat_map (run_ops march d)) (drop_all b d.backgrounds h)
          ∙ sym (ap (λ (t : Bool). if t then run_left march d (first_of b n) else []) (le-ltb b (length d.backgrounds) h))
    ]

-- ---- the operations are those of the runs, without the pauses

operations : (bits b : ℕ) (vs : List Visit) → filter_map (λ s. s) (map (word_step bits b) (map visiting vs)) ≡ map (word_op bits b) vs
operations bits b [] = refl
operations bits b (v ∷ vs) = ap (λ (xs : List WordOp). word_op bits b v ∷ xs) (operations bits b vs)

both : {A : Type 0} (xs ys : List (Option A)) → filter_map (λ s. s) (xs ++ ys) ≡ filter_map (λ s. s) xs ++ filter_map (λ s. s) ys
both [] ys = refl
both (None ∷ xs) ys = both xs ys
both {A} (Some x ∷ xs) ys = ap (λ (zs : List A). x ∷ zs) (both xs ys)

run_operations : (bits b size e : ℕ) (march : List MarchElement)
    → filter_map (λ s. s) (map (word_step bits b) (visits_from e march (up march) size)) ≡ map (word_op bits b) (sweeps_from e march size)
run_operations bits b size e [] = refl
run_operations bits b size e (pause ∷ march) =
    run_operations bits b size (e + 1) march
    ∙ ap (λ (vs : List Visit). map (word_op bits b) (vs ++ sweeps_from (e + 1) march size)) (sym (no_visits e (addresses Upward size)))
run_operations bits b size e (sweep order ops ∷ march) =
    let here = address_visits e ops (addresses (upward order) size) in
    let rest = visits_from (e + 1) march (up march) size in
    ap (filter_map (λ s. s)) (map-append (word_step bits b) (map visiting here) rest)
    ∙ both (map (word_step bits b) (map visiting here)) (map (word_step bits b) rest)
    ∙ ap₂ (λ (xs ys : List WordOp). xs ++ ys) (operations bits b here) (run_operations bits b size (e + 1) march)
    ∙ sym (map-append (word_op bits b) here (sweeps_from (e + 1) march size))

all_runs : (march : List MarchElement) (d : Description) (bs : List ℕ) → filter_map (λ s. s) (flat_map (run_in march d) bs) ≡ flat_map (run_ops march d) bs
all_runs march d [] = refl
all_runs march d (b ∷ bs) =
    both (run_in march d b) (flat_map (run_in march d) bs)
    ∙ ap₂ (λ (xs ys : List WordOp). xs ++ ys) (run_operations d.bits b d.words 0 march) (all_runs march d bs)

pub runs_are : (march : List MarchElement) (d : Description) → word_ops march d ≡ flat_map (run_ops march d) d.backgrounds
runs_are march d = all_runs march d d.backgrounds

-- all operations are left at the first place
pub all_left : (march : List MarchElement) (d : Description) (p : MarchPlace) → IsFirst march 0 p → 0 < d.words → word_ops march d ≡ ops_left march d p
all_left march d p first w =
    runs_are march d ∙ runs_from march d 0 first.0 first.1 w ∙ ap (λ (q : MarchPlace). ops_left march d q) (sym first.2)

-- where a run ends
over : (march : List MarchElement) (d : Description) (p q : MarchPlace) (o : Op) → p.background < length d.backgrounds
    → IsFirst march (p.background + 1) q → 0 < d.words
    → visits_left march d.words p.element p.step p.op ≡ visit_at march d.words p o ∷ []
    → ops_left march d p ≡ word_op d.bits (slice_index d.backgrounds p.background) (visit_at march d.words p o) ∷ ops_left march d q
over march d p q o h first w v =
    let item = word_op d.bits (slice_index d.backgrounds p.background) (visit_at march d.words p o) in
    started march d p h ∙ ap (run_at march d p.background) v
    ∙ ap (λ (xs : List WordOp). item ∷ xs) (runs_from march d (suc p.background) first.0 first.1 w)
    ∙ ap (λ (n : ℕ). item ∷ ops_left march d (first_of n first.0)) (sym (add-one p.background))
    ∙ ap (λ (r : MarchPlace). item ∷ ops_left march d r) (sym first.2)

-- ---- the four ways to go on

-- behind the last operation on a cell
cell_done : (march : List MarchElement) (size : ℕ) (p : MarchPlace) (o : Op) → p.op < length (ops_at march p.element)
    → slice_get (ops_at march p.element) p.op ≡ Some o → p.op + 1 ≡ length (ops_at march p.element)
    → visits_left march size p.element p.step p.op ≡ visit_at march size p o ∷ behind march size p.element p.step
cell_done march size p o h e last =
    first_visit march size p o h e
    ∙ ap (λ (ops : List Op). visit_at march size p o
    ∷ (cell_visits p.element (slice_index (addresses_at march p.element size) p.step) (p.op + 1) ops ++ behind march size p.element p.step))
    (drop_all (suc p.op) (ops_at march p.element) (omega arith))

-- at each of them, what is left is the operation and what is left behind it
pub left_step : (march : List MarchElement) (d : Description) (p q : MarchPlace) (o : Op) → 0 < d.words → IsPlace march d p
    → p.background < length d.backgrounds → slice_get (ops_at march p.element) p.op ≡ Some o → Follows march d p q
    → ops_left march d p ≡ word_op d.bits (slice_index d.backgrounds p.background) (visit_at march d.words p o) ∷ ops_left march d q
left_step march d p q o w place h e (next_op more is) =
    let on = first_visit march d.words p o place.op e in
    let visit = visit_at march d.words p o in
    let same : cell_visits p.element (slice_index (addresses_at march p.element d.words) p.step) (p.op + 1) (drop (suc p.op) (ops_at march p.element)) ++ behind march d.words p.element p.step
    ≡ visits_left march d.words p.element p.step (p.op + 1) =
    ap (λ (n : ℕ). cell_visits p.element (slice_index (addresses_at march p.element d.words) p.step) (p.op + 1) (drop n (ops_at march p.element)) ++ behind march d.words p.element p.step)
    (sym (add-one p.op)) in
    subst (λ (r : MarchPlace). ops_left march d p ≡ word_op d.bits (slice_index d.backgrounds p.background) visit ∷ ops_left march d r) (sym is)
    (within march d p (record p { op = p.op + 1 }) o h refl (on ∙ ap (λ (vs : List Visit). visit ∷ vs) same))
left_step march d p q o w place h e (next_step last more is) =
    let visit = visit_at march d.words p o in
    subst (λ (r : MarchPlace). ops_left march d p ≡ word_op d.bits (slice_index d.backgrounds p.background) visit ∷ ops_left march d r) (sym is)
    (within march d p (record p { step = p.step + 1; op = 0 }) o h refl
    (cell_done march d.words p o place.op e last ∙ ap (λ (vs : List Visit). visit ∷ vs) (next_cell march d.words p.element p.step more)))
left_step march d p q o w place h e (next_elem last end next is) =
    let visit = visit_at march d.words p o in
    subst (λ (r : MarchPlace). ops_left march d p ≡ word_op d.bits (slice_index d.backgrounds p.background) visit ∷ ops_left march d r) (sym is)
    (within march d p (record p { element = q.element; step = 0; op = 0 }) o h refl
    (cell_done march d.words p o place.op e last ∙ ap (λ (vs : List Visit). visit ∷ vs) (next_element march d.words p.element p.step q.element end next w)))
left_step march d p q o w place h e (next_run last end pauses first) =
    let visit = visit_at march d.words p o in
    over march d p q o h first w
    (cell_done march d.words p o place.op e last ∙ ap (λ (vs : List Visit). visit ∷ vs) (end_of_run march d.words p.element p.step end place.element pauses))
