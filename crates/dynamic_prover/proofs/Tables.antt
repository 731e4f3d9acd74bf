-- The tables lead where the elements of the march lead.
use Rattle.std.proofs.Common.{◌≡◌, ◌+◌, ◌<◌, ◌≤◌, ℕ, Bool, true, false, cond, ◌||◌, Option, Some, None, List, [], ◌∷◌, ◌++◌, length, take, drop, get_or, refl, ap, sym, subst, ◌∙◌, arith}
use Rattle.std.specs.Option.{option_and_then, option_map}
use Rattle.std.proofs.lemmas.List.{take_more, drop_more, drop_all}
use Rattle.pair_tracker.specs.DeadEnds.{AreFrom}
use Rattle.march_core.specs.declared.operation.Op.{Op}
use Rattle.march_core.specs.March.{MarchElement, pause, sweep, element_at, order_at, ops_at, is_pause_at}
use Rattle.march_core.specs.Visits.{Direction, Upward, Downward, allows}
use Rattle.array_sim.proofs.Runs.{element_at-get, pause_there, sweep_there}
use Rattle.cell_machine.specs.declared.pair.Side.{Side}
use Rattle.cell_machine.specs.declared.pair.Side.TheVariants.{A, V}
use Rattle.cell_machine.specs.Pairs.{pair_of}
use Rattle.dynamic_core.specs.Primitive.{DynamicPrimitive}
use Rattle.dynamic_prover.specs.declared.own_cells.OwnCells.{OwnCells}
use Rattle.dynamic_prover.specs.declared.shape.Shape.{Shape}
use Rattle.dynamic_prover.specs.declared.leg.SweepLeg.{SweepLeg}
use Rattle.dynamic_prover.specs.declared.leg.Leg.{Leg}
use Rattle.dynamic_prover.specs.declared.leg.Leg.TheVariants.{Pause, Sweep}
use Rattle.pair_tracker.specs.Few.{ops_run}
use Rattle.dynamic_prover.specs.inner.Own.{own_as, disarmed, machine_of}
use Rattle.pair_tracker.specs.Few.{passed, cells_run}
use Rattle.dynamic_prover.specs.inner.Shapes.{in_direction, other_cells, one_more, tags_of, end_in}
use Rattle.pair_tracker.specs.Ways.{holds_at, ways_at}
use Rattle.dynamic_prover.specs.inner.Ways.{can_pass, least_ways}
use Rattle.dynamic_prover.specs.inner.Legs.{own_number, passed_where, end_from, ends_on, second_end, sweep_end, leg_end, IsLeg, AreLegs}

-- a table of eight, by the contents of the two cells
pub eight : (f : OwnCells → Option OwnCells) (x0 x1 x2 x3 x4 x5 x6 x7 : Option OwnCells)
    → x0 ≡ f (own_as (pair_of false false) false) → x1 ≡ f (own_as (pair_of false false) true)
    → x2 ≡ f (own_as (pair_of false true) false) → x3 ≡ f (own_as (pair_of false true) true)
    → x4 ≡ f (own_as (pair_of true false) false) → x5 ≡ f (own_as (pair_of true false) true)
    → x6 ≡ f (own_as (pair_of true true) false) → x7 ≡ f (own_as (pair_of true true) true)
    → (q : OwnCells) → end_from (x0 ∷ x1 ∷ x2 ∷ x3 ∷ x4 ∷ x5 ∷ x6 ∷ x7 ∷ []) q ≡ f q
eight f x0 x1 x2 x3 x4 x5 x6 x7 e0 e1 e2 e3 e4 e5 e6 e7 q = go q.pair.a q.pair.v q.armed
  where
    go : (a v armed : Bool) → end_from (x0 ∷ x1 ∷ x2 ∷ x3 ∷ x4 ∷ x5 ∷ x6 ∷ x7 ∷ []) (own_as (pair_of a v) armed) ≡ f (own_as (pair_of a v) armed)
    go false false false = e0
    go false false true = e1
    go false true false = e2
    go false true true = e3
    go true false false = e4
    go true false true = e5
    go true true false = e6
    go true true true = e7

-- what a table of some operations says
pub record TellsEnds (p : DynamicPrimitive) (ops : List Op) (leg : SweepLeg) : Type 0 where
  pub some : 0 < length ops
  pub aggressor : (q : OwnCells) → end_from leg.on_aggressor q ≡ ops_run (machine_of p) q A ops
  pub victim : (q : OwnCells) → end_from leg.on_victim q ≡ ops_run (machine_of p) q V ops

side_told : (p : DynamicPrimitive) (ops : List Op) (leg : SweepLeg) → TellsEnds p ops leg → (s : Side) (q : OwnCells) → end_from (ends_on leg s) q ≡ ops_run (machine_of p) q s ops
side_told p ops leg t A q = t.aggressor q
side_told p ops leg t V q = t.victim q

passed_some : (p : DynamicPrimitive) (ops : List Op) (q : OwnCells) → 0 < length ops → passed (machine_of p) ops q ≡ disarmed q
passed_some p [] q h = absurd (omega arith)
passed_some p (op ∷ ops) q h = refl

below_told : (p : DynamicPrimitive) (ops : List Op) (b : Bool) (q : OwnCells) (ts : List (Option Side)) → 0 < length ops
    → cells_run (machine_of p) q (other_cells b ++ ts) ops ≡ cells_run (machine_of p) (passed_where b q) ts ops
below_told p ops true q ts h = ap (λ r. cells_run (machine_of p) r ts ops) (passed_some p ops q h)
below_told p ops false q ts h = refl

above_told : (p : DynamicPrimitive) (ops : List Op) (b : Bool) (q : OwnCells) → 0 < length ops → Some (passed_where b q) ≡ cells_run (machine_of p) q (other_cells b) ops
above_told p ops true q h = ap (λ (r : OwnCells). Some r) (sym (passed_some p ops q h))
above_told p ops false q h = refl

second_told : (p : DynamicPrimitive) (ops : List Op) (leg : SweepLeg) → TellsEnds p ops leg → (second : Option Side) (b : Bool) (q : OwnCells)
    → option_map (passed_where b) (second_end leg second q) ≡ cells_run (machine_of p) q (one_more second ++ other_cells b) ops
second_told p ops leg t None b q = above_told p ops b q t.some
second_told p ops leg t (Some s) b q = ap (option_map (passed_where b)) (side_told p ops leg t s q) ∙ go (ops_run (machine_of p) q s ops)
  where
    go : (o : Option OwnCells) → option_map (passed_where b) o ≡ option_and_then (λ r. cells_run (machine_of p) r (other_cells b) ops) o
    go None = refl
    go (Some r) = above_told p ops b r t.some

sweep_told : (p : DynamicPrimitive) (ops : List Op) (leg : SweepLeg) → TellsEnds p ops leg → (s : Shape) (q : OwnCells) → sweep_end leg s q ≡ cells_run (machine_of p) q (tags_of s) ops
sweep_told p ops leg t s q =
    ap (option_and_then (λ r. option_map (passed_where s.above) (second_end leg s.second r))) (side_told p ops leg t s.first (passed_where s.below q))
    ∙ go (ops_run (machine_of p) (passed_where s.below q) s.first ops)
    ∙ sym (below_told p ops s.below q (Some s.first ∷ (one_more s.second ++ other_cells s.above)) t.some)
  where
    go : (o : Option OwnCells) → option_and_then (λ r. option_map (passed_where s.above) (second_end leg s.second r)) o
        ≡ option_and_then (λ r. cells_run (machine_of p) r (one_more s.second ++ other_cells s.above) ops) o
    go None = refl
    go (Some r) = second_told p ops leg t s.second s.above r

pub sweep_leads : (p : DynamicPrimitive) (ops : List Op) (leg : SweepLeg) → TellsEnds p ops leg → IsLeg p (sweep leg.order ops) (Sweep leg)
sweep_leads p ops leg t shape q d = ap (λ o. cond (allows leg.order d) o None) (sweep_told p ops leg t (in_direction d shape) q)

pub pause_leads : (p : DynamicPrimitive) → IsLeg p pause Pause
pause_leads p shape q Upward = refl
pause_leads p shape q Downward = refl

-- an element by its number
pub pause_found : (p : DynamicPrimitive) (es : List MarchElement) (i : ℕ) → i < length es → is_pause_at es i ≡ true → IsLeg p (element_at es i) Pause
pause_found p es i h is = subst (λ e. IsLeg p e Pause) (sym (pause_there es i h is)) (pause_leads p)

pub sweep_found : (p : DynamicPrimitive) (es : List MarchElement) (i : ℕ) (ops : List Op) (leg : SweepLeg) → i < length es → is_pause_at es i ≡ false
    → ops ≡ ops_at es i → leg.order ≡ order_at es i → TellsEnds p ops leg → IsLeg p (element_at es i) (Sweep leg)
sweep_found p es i ops leg h is ops_are order_is t =
    let there : element_at es i ≡ sweep leg.order ops =
    sweep_there es i h is ∙ ap (λ o. sweep o (ops_at es i)) (sym order_is) ∙ ap (sweep leg.order) (sym ops_are) in
    subst (λ e. IsLeg p e (Sweep leg)) (sym there) (sweep_leads p ops leg t)

-- one more table
pub one_more_leg : (p : DynamicPrimitive) (es : List MarchElement) (ls : List Leg) (e : MarchElement) (l : Leg) → AreLegs p es ls → IsLeg p e l
    → AreLegs p (es ++ e ∷ []) (ls ++ l ∷ [])
one_more_leg p [] [] e l are is = (is, tt)
one_more_leg p [] (m ∷ ms) e l are is = absurd are
one_more_leg p (x ∷ xs) [] e l are is = absurd are
one_more_leg p (x ∷ xs) (m ∷ ms) e l are is = (are.0, one_more_leg p xs ms e l are.1 is)

pub legs_more : (p : DynamicPrimitive) (es : List MarchElement) (ls : List Leg) (i : ℕ) (l : Leg) → i < length es → AreLegs p (take i es) ls → IsLeg p (element_at es i) l
    → AreLegs p (take (i + 1) es) (ls ++ l ∷ [])
legs_more p es ls i l h are is =
    let next : take (i + 1) es ≡ take i es ++ element_at es i ∷ [] =
    take_more es i pause h ∙ ap (λ e. take i es ++ e ∷ []) (sym (element_at-get es i pause h)) in
    subst (λ xs. AreLegs p xs (ls ++ l ∷ [])) (sym next) (one_more_leg p (take i es) ls (element_at es i) l are is)

-- what the tables say of the whole march
held_same : (f g : OwnCells → Bool) → ((r : OwnCells) → f r ≡ g r) → (o w : Option OwnCells) → o ≡ w → holds_at f o ≡ holds_at g w
held_same f g same o w e = ap (holds_at f) e ∙ go w
  where
    go : (w : Option OwnCells) → holds_at f w ≡ holds_at g w
    go None = refl
    go (Some r) = same r

ways_same : (f g : OwnCells → List Direction) → ((r : OwnCells) → f r ≡ g r) → (o w : Option OwnCells) → o ≡ w → ways_at f o ≡ ways_at g w
ways_same f g same o w e = ap (ways_at f) e ∙ go w
  where
    go : (w : Option OwnCells) → ways_at f w ≡ ways_at g w
    go None = refl
    go (Some r) = same r

either_same : (a b c d : Bool) → a ≡ c → b ≡ d → (a || b) ≡ (c || d)
either_same a b c d e f = ap (λ x. x || b) e ∙ ap (λ x. c || x) f

choice_same : (b c : Bool) (x y z w : List Direction) → b ≡ c → x ≡ z → y ≡ w → cond b (Upward ∷ x) (Downward ∷ y) ≡ cond c (Upward ∷ z) (Downward ∷ w)
choice_same b c x y z w e f g =
    ap (λ t. cond t (Upward ∷ x) (Downward ∷ y)) e ∙ ap (λ t. cond c (Upward ∷ t) (Downward ∷ y)) f ∙ ap (λ t. cond c (Upward ∷ z) (Downward ∷ t)) g

pub can_by_legs : (p : DynamicPrimitive) (shape : Shape) (es : List MarchElement) (ls : List Leg) → AreLegs p es ls → (q : OwnCells)
    → can_pass (leg_end shape) ls q ≡ can_pass (end_in p shape) es q
can_by_legs p shape [] [] are q = refl
can_by_legs p shape [] (l ∷ ls) are q = absurd are
can_by_legs p shape (e ∷ es) [] are q = absurd are
can_by_legs p shape (e ∷ es) (l ∷ ls) are q =
    let f : OwnCells → Bool = λ r. can_pass (leg_end shape) ls r in
    let g : OwnCells → Bool = λ r. can_pass (end_in p shape) es r in
    let rest : (r : OwnCells) → f r ≡ g r = λ r. can_by_legs p shape es ls are.1 r in
    either_same (holds_at f (leg_end shape l q Upward)) (holds_at f (leg_end shape l q Downward)) (holds_at g (end_in p shape e q Upward)) (holds_at g (end_in p shape e q Downward))
    (held_same f g rest (leg_end shape l q Upward) (end_in p shape e q Upward) (are.0 shape q Upward))
    (held_same f g rest (leg_end shape l q Downward) (end_in p shape e q Downward) (are.0 shape q Downward))

pub ways_by_legs : (p : DynamicPrimitive) (shape : Shape) (es : List MarchElement) (ls : List Leg) → AreLegs p es ls → (q : OwnCells)
    → least_ways (leg_end shape) ls q ≡ least_ways (end_in p shape) es q
ways_by_legs p shape [] [] are q = refl
ways_by_legs p shape [] (l ∷ ls) are q = absurd are
ways_by_legs p shape (e ∷ es) [] are q = absurd are
ways_by_legs p shape (e ∷ es) (l ∷ ls) are q =
    let f : OwnCells → Bool = λ r. can_pass (leg_end shape) ls r in
    let g : OwnCells → Bool = λ r. can_pass (end_in p shape) es r in
    let h : OwnCells → List Direction = λ r. least_ways (leg_end shape) ls r in
    let k : OwnCells → List Direction = λ r. least_ways (end_in p shape) es r in
    let rest : (r : OwnCells) → h r ≡ k r = λ r. ways_by_legs p shape es ls are.1 r in
    choice_same (holds_at f (leg_end shape l q Upward)) (holds_at g (end_in p shape e q Upward))
    (ways_at h (leg_end shape l q Upward)) (ways_at h (leg_end shape l q Downward)) (ways_at k (end_in p shape e q Upward)) (ways_at k (end_in p shape e q Downward))
    (held_same f g (λ r. can_by_legs p shape es ls are.1 r) (leg_end shape l q Upward) (end_in p shape e q Upward) (are.0 shape q Upward))
    (ways_same h k rest (leg_end shape l q Upward) (end_in p shape e q Upward) (are.0 shape q Upward))
    (ways_same h k rest (leg_end shape l q Downward) (end_in p shape e q Downward) (are.0 shape q Downward))

-- a table by its number
pub leg_is : (legs : List Leg) (i : ℕ) (e blank : Leg) → i < length legs → drop i legs ≡ e ∷ drop (i + 1) legs → get_or legs i blank ≡ e
leg_is legs i e blank h from =
    let heads : get_or legs i blank ∷ drop (i + 1) legs ≡ e ∷ drop (i + 1) legs = sym (drop_more legs i blank h) ∙ from in
    cc

pub legs_from : (legs : List Leg) → length legs ≤ 64 → AreFrom (length legs) (λ i. drop i legs)
legs_from legs few = record { few = few; first = λ i h. (get_or legs i Pause, drop_more legs i Pause h); none = drop_all (length legs) legs (omega arith) }
