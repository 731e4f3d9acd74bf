-- What a run against the first box leaves, where an instance is planted.
use Rattle.bist_app.proofs.Common.{◌≡◌, ◌<◌, ◌∙◌, ℕ, true, List, [], ◌∷◌, length, map, Option, Some, None, is_some, Result, Ok, IfOk, IfErr, refl, subst, arith, MarchElement, Primitive, Description, Planted, Chip, Tells, TellsChip, Told, SomeWrong, run_word, Seen, IsFirstRead, Effects, Refusal, Done, done_of, plain, IsTrue, IfOk-weaker, Boxes, HasBox, FitsRoom, LeavesFirst}
use Rattle.array_sim.specs.Detection.{Detects}
use Rattle.bist_app.specs.declared.benchfault_command.FaultShape.{FaultShape}
use Rattle.bist_app.specs.Bench.{benched_chip, IsSeen, IsBenched}
use Rattle.bist_app.specs.BenchFault.{planted_of, FitsPlaces, IsFaultBenched, LeavesFault, PlantsFault}
use Rattle.bist_app.proofs.Benched.{or_no_memory}

-- ---- what is seen of the run

-- some read is wrong, so one is seen
some_seen : (march : List MarchElement) (d : Description) (words : ℕ → ℕ) (s : Option Seen) → SomeWrong march d words → IsFirstRead march d words s → is_some s ≡ true
some_seen march d words None (j, w) h = absurd (w.differs (h j w.command w.is_command w.is_read))
some_seen march d words (Some s) w h = refl

planted_found : (march : List MarchElement) (d : Description) (i : Planted) (tells : Tells) (done : Done) (chip : Chip) → SomeWrong march d (run_word march d (benched_chip d (Some i)))
    → IsBenched march d (Some i) tells done → tells ≡ TellsChip chip → IsTrue done.found
planted_found march d i tells done chip wrong r is =
    let seen = subst (λ (t : Tells). IsSeen march d (Some i) t r.seen) is r.is_seen in
    r.found ∙ some_seen march d (run_word march d (benched_chip d (Some i))) r.seen wrong seen

pub fault_benched : {B : Type 0} (f : B → Told) (items : List B) (march : List MarchElement) (d : Description) (i : Planted) (r : Result Effects Refusal) → 0 < length items
    → (Detects march i.prim → SomeWrong march d (run_word march d (benched_chip d (Some i)))) → IfErr r (λ e. e ≡ Refusal.NoMemory)
    → IfOk r (λ plan. (b : B) (rest : List B) → items ≡ b ∷ rest → IsBenched march d (Some i) (f b).tells (done_of plan)) → LeavesFault march d i (map f items) (plain r)
unfolding LeavesFault
fault_benched f [] march d i r some wrong wants h = absurd (omega (arith, some))
fault_benched f (b ∷ items) march d i r some wrong wants h =
    or_no_memory (IsFaultBenched march d i (f b).tells) r wants
    (IfOk-weaker r _ _ (λ plan k. let run = k b items refl in record {
      benched = run;
      caught = λ chip is detects. planted_found march d i (f b).tells (done_of plan) chip (wrong detects) run is;
    }) h)

-- the checks before the run, of the same boxes
pub plants : {B : Type 0} (f : B → Told) (items first second : List B) (left : Boxes) (march : List MarchElement) (d : Description) (prim : Primitive) (shape : FaultShape)
    (i : Planted) (r : Result Effects Refusal) → first ≡ items → second ≡ items → HasBox (map f first) (Ok tt) → FitsPlaces d shape (Ok tt) → FitsRoom d (map f second) (Ok tt)
    → i ≡ planted_of prim shape → LeavesFault march d i (map f items) (plain r) → LeavesFirst (map f items) left (plain r)
    → PlantsFault march d prim shape (map f items) left (plain r)
plants f items first second left march d prim shape i r e e' box places room is leaves gone = (
  Ok tt,
  subst (λ l. HasBox (map f l) (Ok tt)) e box,
  (
    Ok tt,
    places,
    (Ok tt, subst (λ l. FitsRoom d (map f l) (Ok tt)) e' room, (subst (λ (j : Planted). LeavesFault march d j (map f items) (plain r)) is leaves, gone)),
  ),
)
