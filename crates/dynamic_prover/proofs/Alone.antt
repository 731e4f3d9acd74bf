-- The two cells of an instance as an array of their own.
use Rattle.std.proofs.Common.{◌≡◌, ◌<◌, ℕ, Bool, Option, Some, None, is_some, List, [], ◌∷◌, refl, ap, ◌∙◌, arith}
use Rattle.std.specs.Prelude.{if◌then◌else◌}
use Rattle.fault_core.specs.declared.primitive.Act.{Act}
use Rattle.cell_machine.specs.declared.pair.Side.{Side}
use Rattle.cell_machine.specs.declared.pair.Side.TheVariants.{A, V}
use Rattle.cell_machine.specs.Seen.{pair_at, place_of}
use Rattle.dynamic_core.specs.Primitive.{DynamicSense, DynamicPrimitive}
use Rattle.dynamic_core.specs.Dynamic.{Held, held_as, dyn_step, dyn_answer}
use Rattle.dynamic_core.specs.Detecting.{FitsDynAgg, FitsDyn}
use Rattle.dynamic_prover.specs.declared.own_cells.OwnCells.{OwnCells}
use Rattle.dynamic_prover.specs.inner.Own.{own_as, own_step, own_answer, two_places}
use Rattle.dynamic_prover.proofs.Own.{About, about, step_seen, answer_seen}

pub two_fit : (p : DynamicPrimitive) → FitsDyn p (two_places p) 2
two_fit p = record { victim = omega arith; aggressor = go p.agg }
  where
    go : (agg : Option DynamicSense) → FitsDynAgg agg (if is_some agg then Some 0 else None) 1 2
    go None = tt
    go (Some sense) = (omega arith, omega arith)

seen : (p : DynamicPrimitive) → About p (two_places p) 0 2
seen p = about p (two_places p) 0 2 (two_fit p) (omega arith) (go p.agg)
  where
    go : (agg : Option DynamicSense) (b : ℕ) → (if is_some agg then Some 0 else None) ≡ Some b → b ≡ 0
    go None b e = cc
    go (Some sense) b e = cc

abbrev pub held_by : OwnCells → Held
held_by q = held_as (q.pair.a ∷ q.pair.v ∷ []) q.armed

place_below : (s : Side) → place_of 0 1 s < 2
place_below A = omega arith
place_below V = omega arith

pub acted_alone : (p : DynamicPrimitive) (q : OwnCells) (s : Side) (act : Act) (x : ℕ) (cells : List Bool) (armed : Bool) → x ≡ place_of 0 1 s
    → cells ≡ (dyn_step p (two_places p) (held_by q) x act).cells → armed ≡ (dyn_step p (two_places p) (held_by q) x act).armed
    → own_as (pair_at cells 0 1) armed ≡ own_step p q s act
acted_alone p q s act x cells armed is cells_are armed_is =
    ap (λ c. own_as (pair_at c 0 1) armed) cells_are
    ∙ ap (own_as (pair_at (dyn_step p (two_places p) (held_by q) x act).cells 0 1)) armed_is
    ∙ ap (λ y. own_as (pair_at (dyn_step p (two_places p) (held_by q) y act).cells 0 1) (dyn_step p (two_places p) (held_by q) y act).armed) is
    ∙ step_seen p (two_places p) 0 2 (seen p) (held_by q) s act (place_below s) refl

pub answered_alone : (p : DynamicPrimitive) (q : OwnCells) (s : Side) (act : Act) (x : ℕ) (answer : Option Bool) → x ≡ place_of 0 1 s
    → answer ≡ dyn_answer p (two_places p) (held_by q) x act → answer ≡ own_answer p q s act
answered_alone p q s act x answer is answer_is =
    answer_is ∙ ap (λ y. dyn_answer p (two_places p) (held_by q) y act) is ∙ answer_seen p (two_places p) 0 2 (seen p) (held_by q) s act
