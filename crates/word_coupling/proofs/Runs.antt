-- The steps of a test at one word are the march in each background, and so are a run of the two bits.
use Rattle.std.proofs.Common.{◌≡◌, ◌≢◌, ◌+◌, ◌<◌, ◌^◌, ℕ, suc, Bool, true, false, ◌||◌, eqb, Option, Some, None, List, [], ◌∷◌, ◌++◌, map, All, refl, ap, sym, ◌∙◌, ⊎_elim, arith}
use Rattle.std.specs.Prelude.{if◌then◌else◌, ◌==◌}
use Rattle.std.specs.List.{flat_map}
use Rattle.std.proofs.Math.Path.{ap₂}
use Rattle.std.proofs.lemmas.List.{map-append}
use Rattle.std.proofs.lemmas.Bool.Decides.{eqb_tells}
use Rattle.fault_core.specs.Primitive.{Primitive}
use Rattle.cell_machine.specs.declared.pair.Pair.{Pair}
use Rattle.cell_machine.specs.Pairs.{pair_of, pair_pause}
use Rattle.march_core.specs.declared.operation.Op.{Op}
use Rattle.march_core.specs.March.{MarchElement, pause, sweep, order_of}
use Rattle.march_core.specs.Runs.{upward, up, is_write, data_value}
use Rattle.march_core.specs.Visits.{Visit, MarchStep, visiting, Direction, cell_visits, address_visits, addresses, element_visits, visits_from}
use Rattle.pair_tracker.proofs.Sides.{contains, Distinct, addresses_distinct, addresses_all}
use Rattle.memory_desc.specs.Descriptions.{Description, IsMemory}
use Rattle.word_march.specs.declared.operations.WordOp.{WordOp}
use Rattle.word_march.specs.Commands.{word_op, word_step, run_in, word_steps}
use Rattle.word_coupling.specs.declared.reading.Reading.{Reading}
use Rattle.word_coupling.specs.declared.couple.PairOp.{PairOp}
use Rattle.word_coupling.specs.inner.Couples.{bits_at, pair_op, run_op, behind, run_ops, run_element, run_march, run_test}
use Rattle.word_coupling.proofs.Bits.{word_bit}
use Rattle.word_coupling.proofs.Stored.{op_at}
use Rattle.word_coupling.proofs.Steps.{run_steps}

-- ---- steps one after another

steps_on : (r : Reading) (p : Primitive) (w agg vic : ℕ) (xs ys : List (Option WordOp)) (pair : Pair)
    → run_steps r p w agg vic (xs ++ ys) pair ≡ behind (run_steps r p w agg vic xs pair) (run_steps r p w agg vic ys)
steps_on r p w agg vic [] ys pair = refl
steps_on r p w agg vic (None ∷ xs) ys pair = steps_on r p w agg vic xs ys (pair_pause p pair)
steps_on r p w agg vic (Some o ∷ xs) ys pair = go (λ q. steps_on r p w agg vic xs ys q) (w == o.index) (run_op r p pair (op_at agg vic o))
  where
    go : ((q : Pair) → run_steps r p w agg vic (xs ++ ys) q ≡ behind (run_steps r p w agg vic xs q) (run_steps r p w agg vic ys))
        → (b : Bool) (z : Option Pair)
        → (if b then behind z (run_steps r p w agg vic (xs ++ ys)) else run_steps r p w agg vic (xs ++ ys) pair)
        ≡ behind (if b then behind z (run_steps r p w agg vic xs) else run_steps r p w agg vic xs pair) (run_steps r p w agg vic ys)
    go rest true None = refl
    go rest true (Some next) = rest next
    go rest false r = rest pair

pub behind_same : (f g : Pair → Option Pair) → ((q : Pair) → f q ≡ g q) → (r : Option Pair) → behind r f ≡ behind r g
behind_same f g same None = refl
behind_same f g same (Some q) = same q

-- two parts, of which the runs are known
both_on : (r : Reading) (p : Primitive) (w agg vic : ℕ) (xs ys : List (Option WordOp)) (pair : Pair) (first : Option Pair) (second : Pair → Option Pair)
    → run_steps r p w agg vic xs pair ≡ first → ((q : Pair) → run_steps r p w agg vic ys q ≡ second q)
    → run_steps r p w agg vic (xs ++ ys) pair ≡ behind first second
both_on r p w agg vic xs ys pair first second is then_is =
    steps_on r p w agg vic xs ys pair ∙ ap (λ (z : Option Pair). behind z (run_steps r p w agg vic ys)) is
    ∙ behind_same (run_steps r p w agg vic ys) second then_is first

-- ---- an element

-- the steps of some visits in a background
abbrev steps_in : ℕ → ℕ → List Visit → List (Option WordOp)
steps_in bits b vs = map (word_step bits b) (map visiting vs)

steps_in-append : (bits b : ℕ) (xs ys : List Visit) → steps_in bits b (xs ++ ys) ≡ steps_in bits b xs ++ steps_in bits b ys
steps_in-append bits b xs ys =
    ap (map (word_step bits b)) (map-append visiting xs ys) ∙ map-append (word_step bits b) (map visiting xs) (map visiting ys)

op_in : (bits b agg vic : ℕ) (v : Visit) → b < 2 ^ bits → agg < bits → vic < bits → op_at agg vic (word_op bits b v) ≡ pair_op (bits_at agg vic b) v.op
op_in bits b agg vic v fits low_agg low_vic =
    ap₂ (λ (x y : Bool). record { write = is_write v.op; bits = pair_of x y })
    (word_bit bits b agg (data_value v.op) fits low_agg) (word_bit bits b vic (data_value v.op) fits low_vic)

-- the visits to one word
cell_here : (r : Reading) (p : Primitive) (bits b w agg vic e x k : ℕ) (ops : List Op) (pair : Pair) → b < 2 ^ bits → agg < bits → vic < bits → eqb w x ≡ true
    → run_steps r p w agg vic (steps_in bits b (cell_visits e x k ops)) pair ≡ run_ops r p (bits_at agg vic b) ops pair
cell_here r p bits b w agg vic e x k [] pair fits low_agg low_vic on = refl
cell_here r p bits b w agg vic e x k (op ∷ ops) pair fits low_agg low_vic on =
    let v : Visit = record { element = e; address = x; number = k; op = op } in
    let rest : List (Option WordOp) = steps_in bits b (cell_visits e x (k + 1) ops) in
    ap (λ (t : Bool). if t then behind (run_op r p pair (op_at agg vic (word_op bits b v))) (run_steps r p w agg vic rest) else run_steps r p w agg vic rest pair) on
    ∙ ap (λ (o : PairOp). behind (run_op r p pair o) (run_steps r p w agg vic rest)) (op_in bits b agg vic v fits low_agg low_vic)
    ∙ behind_same (run_steps r p w agg vic rest) (run_ops r p (bits_at agg vic b) ops)
    (λ q. cell_here r p bits b w agg vic e x (k + 1) ops q fits low_agg low_vic on) (run_op r p pair (pair_op (bits_at agg vic b) op))

cell_away : (r : Reading) (p : Primitive) (bits b w agg vic e x k : ℕ) (ops : List Op) (pair : Pair) → eqb w x ≡ false
    → run_steps r p w agg vic (steps_in bits b (cell_visits e x k ops)) pair ≡ Some pair
cell_away r p bits b w agg vic e x k [] pair off = refl
cell_away r p bits b w agg vic e x k (op ∷ ops) pair off =
    let v : Visit = record { element = e; address = x; number = k; op = op } in
    let rest : List (Option WordOp) = steps_in bits b (cell_visits e x (k + 1) ops) in
    ap (λ (t : Bool). if t then behind (run_op r p pair (op_at agg vic (word_op bits b v))) (run_steps r p w agg vic rest) else run_steps r p w agg vic rest pair) off
    ∙ cell_away r p bits b w agg vic e x (k + 1) ops pair off

-- the visits to words among which this one isn't
addresses_away : (r : Reading) (p : Primitive) (bits b w agg vic e : ℕ) (ops : List Op) (xs : List ℕ) (pair : Pair) → contains w xs ≡ false
    → run_steps r p w agg vic (steps_in bits b (address_visits e ops xs)) pair ≡ Some pair
addresses_away r p bits b w agg vic e ops [] pair off = refl
addresses_away r p bits b w agg vic e ops (x ∷ xs) pair off =
    let parts = neither (eqb w x) (contains w xs) off in
    ap (λ (l : List (Option WordOp)). run_steps r p w agg vic l pair) (steps_in-append bits b (cell_visits e x 0 ops) (address_visits e ops xs))
    ∙ both_on r p w agg vic (steps_in bits b (cell_visits e x 0 ops)) (steps_in bits b (address_visits e ops xs)) pair (Some pair) (λ (q : Pair). Some q)
    (cell_away r p bits b w agg vic e x 0 ops pair parts.0)
    (λ q. addresses_away r p bits b w agg vic e ops xs q parts.1)
  where
    neither : (s t : Bool) → (s || t) ≡ false → (s ≡ false) × (t ≡ false)
    neither true t h = cc
    neither false t h = (refl, h)

-- the visits to words among which it is once
addresses_here : (r : Reading) (p : Primitive) (bits b w agg vic e : ℕ) (ops : List Op) (xs : List ℕ) (pair : Pair) → b < 2 ^ bits → agg < bits → vic < bits
    → Distinct xs → contains w xs ≡ true
    → run_steps r p w agg vic (steps_in bits b (address_visits e ops xs)) pair ≡ run_ops r p (bits_at agg vic b) ops pair
addresses_here r p bits b w agg vic e ops [] pair fits low_agg low_vic distinct on = cc
addresses_here r p bits b w agg vic e ops (x ∷ xs) pair fits low_agg low_vic distinct on =
    ap (λ (l : List (Option WordOp)). run_steps r p w agg vic l pair) (steps_in-append bits b (cell_visits e x 0 ops) (address_visits e ops xs))
    ∙ ⊎_elim
    (λ (h : (eqb w x ≡ true) × (w ≡ x)).
    both_on r p w agg vic (steps_in bits b (cell_visits e x 0 ops)) (steps_in bits b (address_visits e ops xs)) pair (run_ops r p (bits_at agg vic b) ops pair) (λ (q : Pair). Some q)
    (cell_here r p bits b w agg vic e x 0 ops pair fits low_agg low_vic h.0)
    (λ q. addresses_away r p bits b w agg vic e ops xs q (ap (λ (y : ℕ). contains y xs) h.1 ∙ distinct.0))
    ∙ last (run_ops r p (bits_at agg vic b) ops pair))
    (λ (h : (eqb w x ≡ false) × (w ≢ x)).
    both_on r p w agg vic (steps_in bits b (cell_visits e x 0 ops)) (steps_in bits b (address_visits e ops xs)) pair (Some pair) (run_ops r p (bits_at agg vic b) ops)
    (cell_away r p bits b w agg vic e x 0 ops pair h.0)
    (λ q. addresses_here r p bits b w agg vic e ops xs q fits low_agg low_vic distinct.1 (ap (λ (t : Bool). t || contains w xs) (sym h.0) ∙ on)))
    (eqb_tells w x)
  where
    last : (r : Option Pair) → behind r (λ (q : Pair). Some q) ≡ r
    last None = refl
    last (Some q) = refl

-- an element, and the elements from one on
element_is : (r : Reading) (p : Primitive) (bits b w agg vic n k : ℕ) (e : MarchElement) (way : Direction) (pair : Pair) → b < 2 ^ bits → agg < bits → vic < bits → w < n
    → run_steps r p w agg vic (map (word_step bits b) (element_visits k e way n)) pair ≡ run_element r p (bits_at agg vic b) e pair
element_is r p bits b w agg vic n k pause way pair fits low_agg low_vic inside = refl
element_is r p bits b w agg vic n k (sweep order ops) way pair fits low_agg low_vic inside =
    addresses_here r p bits b w agg vic k ops (addresses way n) pair fits low_agg low_vic (addresses_distinct way n) (addresses_all way n w inside)

march_is : (r : Reading) (p : Primitive) (bits b w agg vic n k : ℕ) (es : List MarchElement) (pair : Pair) → b < 2 ^ bits → agg < bits → vic < bits → w < n
    → run_steps r p w agg vic (map (word_step bits b) (visits_from k es (up es) n)) pair ≡ run_march r p (bits_at agg vic b) es pair
march_is r p bits b w agg vic n k [] pair fits low_agg low_vic inside = refl
march_is r p bits b w agg vic n k (e ∷ es) pair fits low_agg low_vic inside =
    let way : Direction = upward (order_of e) in
    let rest : List MarchStep = visits_from (k + 1) es (up es) n in
    ap (λ (l : List (Option WordOp)). run_steps r p w agg vic l pair) (map-append (word_step bits b) (element_visits k e way n) rest)
    ∙ both_on r p w agg vic (map (word_step bits b) (element_visits k e way n)) (map (word_step bits b) rest) pair
    (run_element r p (bits_at agg vic b) e pair) (run_march r p (bits_at agg vic b) es)
    (element_is r p bits b w agg vic n k e way pair fits low_agg low_vic inside)
    (λ q. march_is r p bits b w agg vic n (k + 1) es q fits low_agg low_vic inside)

-- the march in each background
backgrounds_are : (r : Reading) (p : Primitive) (march : List MarchElement) (d : Description) (w agg vic : ℕ) → agg < d.bits → vic < d.bits → w < d.words
    → (set : List ℕ) → All (λ b. b < 2 ^ d.bits) set → (pair : Pair)
    → run_steps r p w agg vic (flat_map (run_in march d) set) pair ≡ run_test r p march agg vic set pair
backgrounds_are r p march d w agg vic low_agg low_vic inside [] fit pair = refl
backgrounds_are r p march d w agg vic low_agg low_vic inside (b ∷ bs) fit pair =
    both_on r p w agg vic (run_in march d b) (flat_map (run_in march d) bs) pair (run_march r p (bits_at agg vic b) march pair) (run_test r p march agg vic bs)
    (march_is r p d.bits b w agg vic d.words 0 march pair (fit 0 0 (omega arith)) low_agg low_vic inside)
    (λ q. backgrounds_are r p march d w agg vic low_agg low_vic inside bs (λ k x l. fit (suc k) x (omega arith)) q)

pub test_is : (r : Reading) (p : Primitive) (march : List MarchElement) (d : Description) (w agg vic : ℕ) → IsMemory d → agg < d.bits → vic < d.bits → w < d.words
    → (pair : Pair) → run_steps r p w agg vic (word_steps march d) pair ≡ run_test r p march agg vic d.backgrounds pair
test_is r p march d w agg vic m low_agg low_vic inside pair =
    backgrounds_are r p march d w agg vic low_agg low_vic inside d.backgrounds m.tested.fit pair
