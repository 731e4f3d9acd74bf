-- The run stops at the first read that differs, and nowhere else.
use Rattle.std.proofs.Common.{◌≡◌, Bool, true, false, cond, Option, Some, None, List, [], ◌∷◌, length, refl, ap, sym, ◌∙◌, ◌↔◌}
use Rattle.std.specs.Option.{IsSome, IfSome}
use Rattle.fault_core.specs.declared.cells.Places.{Places}
use Rattle.march_core.specs.March.{MarchElement}
use Rattle.march_core.specs.Visits.{MarchStep, pausing, visiting, Direction, visits, miss_at}
use Rattle.march_core.specs.declared.visit.Miss.{Miss}
use Rattle.array_sim.specs.Run.{act_of}
use Rattle.array_sim.specs.Differing.{left_behind}
use Rattle.array_sim.proofs.Differing.{first_of, first_found, left_at, left_first, all_behind}
use Rattle.dynamic_core.specs.Primitive.{DynamicPrimitive}
use Rattle.dynamic_core.specs.Dynamic.{Held, held_as, dyn_step, after_pause}
use Rattle.dynamic_core.specs.inner.Dynamic.{Ending, Differs, dyn_run, miss_of, held_of}
use Rattle.dynamic_core.specs.Differing.{held_after, is_wrong_visit, SomeDynDiffers, IsFirstDynMiss, StopsAtDyn}
use Rattle.dynamic_core.specs.inner.Detecting.{ending_of}
use Rattle.dynamic_core.specs.Detecting.{IsCaughtDyn}

miss_is : (p : DynamicPrimitive) (at : Places) (h : Held) (steps : List MarchStep) → miss_of (dyn_run p at h steps) ≡ first_of (held_after p at) (is_wrong_visit p at) h steps
miss_is p at h [] = refl
miss_is p at h (pausing e ∷ steps) = miss_is p at (after_pause h) steps
miss_is p at h (visiting v ∷ steps) =
    either (dyn_step p at h v.address (act_of v.op)) (dyn_run p at (dyn_step p at h v.address (act_of v.op)) steps) _
    (miss_is p at (dyn_step p at h v.address (act_of v.op)) steps) (is_wrong_visit p at h v)
  where
    either : (next : Held) (rest : Ending) (first : Option Miss) → miss_of rest ≡ first → (b : Bool)
        → miss_of (cond b (Differs (miss_at v) next) rest) ≡ cond b (Some (miss_at v)) first
    either next rest first e true = refl
    either next rest first e false = e

-- the read that a run names differs first, and some read differs exactly where it names one
pub found : (p : DynamicPrimitive) (at : Places) (h : Held) (steps : List MarchStep) (miss : Option Miss) → miss ≡ miss_of (dyn_run p at h steps)
    → (IsSome miss ↔ SomeDynDiffers p at h steps) × IfSome miss (λ m. IsFirstDynMiss p at h steps m)
found p at h steps miss is = first_found (held_after p at) (is_wrong_visit p at) h steps miss (is ∙ miss_is p at h steps)

-- a march is caught where its run names a read, and nowhere else
pub missed : (march : List MarchElement) (ds : List Direction) (p : DynamicPrimitive) (at : Places) (content : List Bool)
    → IsSome (miss_of (ending_of march ds p at content)) ↔ IsCaughtDyn march ds p at content
missed march ds p at content = (found p at (held_as content false) (visits march ds (length content)) (miss_of (ending_of march ds p at content)) refl).0

held_is : (p : DynamicPrimitive) (at : Places) (h : Held) (steps : List MarchStep) → held_of (dyn_run p at h steps) ≡ left_at (held_after p at) (is_wrong_visit p at) h steps
held_is p at h [] = refl
held_is p at h (pausing e ∷ steps) = held_is p at (after_pause h) steps
held_is p at h (visiting v ∷ steps) =
    either (dyn_step p at h v.address (act_of v.op)) (dyn_run p at (dyn_step p at h v.address (act_of v.op)) steps) _
    (held_is p at (dyn_step p at h v.address (act_of v.op)) steps) (is_wrong_visit p at h v)
  where
    either : (next : Held) (rest : Ending) (left : Held) → held_of rest ≡ left → (b : Bool) → held_of (cond b (Differs (miss_at v) next) rest) ≡ cond b next left
    either next rest left e true = refl
    either next rest left e false = e

-- where no read differs, a run leaves what its steps leave
pub all_left : (p : DynamicPrimitive) (at : Places) (h : Held) (steps : List MarchStep) → miss_of (dyn_run p at h steps) ≡ None
    → held_of (dyn_run p at h steps) ≡ left_behind (held_after p at) h steps
all_left p at h steps passes = held_is p at h steps ∙ all_behind (held_after p at) (is_wrong_visit p at) h steps (sym (miss_is p at h steps) ∙ passes)

-- else it leaves what stands behind the first read that differs
pub stopped : (p : DynamicPrimitive) (at : Places) (h : Held) (steps : List MarchStep) (miss : Option Miss) (left : Held)
    → miss ≡ miss_of (dyn_run p at h steps) → left ≡ held_of (dyn_run p at h steps) → IfSome miss (λ m. StopsAtDyn p at h steps m left.cells)
stopped p at h steps None left is left_is = tt
stopped p at h steps (Some miss) left is left_is =
    let first : IsFirstDynMiss p at h steps miss = (found p at h steps (Some miss) is).1 in
    (first, ap (λ (g : Held). g.cells) (left_is ∙ held_is p at h steps ∙ left_first (held_after p at) (is_wrong_visit p at) h steps miss first))
