-- The run stops at the first read that differs, and nowhere else.
use Rattle.std.proofs.Common.{◌≡◌, ℕ, Bool, true, false, cond, Option, Some, None, List, [], ◌∷◌, ◌++◌, refl, ap, subst, sym, ◌∙◌, ◌⊎◌, inl, inr, ⊎_elim, ◌↔◌}
use Rattle.std.specs.Option.{IsSome, IfSome}
use Rattle.fault_core.specs.declared.cells.Places.{Places}
use Rattle.fault_core.specs.Primitive.{Primitive}
use Rattle.fault_core.specs.Cells.{step_cells, pause_cells}
use Rattle.march_core.specs.Visits.{Visit, MarchStep, pausing, visiting, miss_at}
use Rattle.march_core.specs.declared.visit.Miss.{Miss}
use Rattle.array_sim.specs.inner.Run.{Outcome, run_of}
use Rattle.array_sim.specs.Run.{act_of}
use Rattle.array_sim.specs.Differing.{left_behind, DiffersBy, SomeDiffersBy, IsFirstBy, behind_first, after_step, is_wrong_at, SomeDiffers, IsFirstMiss, StopsAt}

no_visit : (e : ℕ) (v : Visit) → pausing e ≡ visiting v → ⊥
no_visit e v is = cc

same_visit : (v w : Visit) → visiting v ≡ visiting w → v ≡ w
same_visit v w is = cc

module _ {S : Type 0} (after : S → MarchStep → S) (is_wrong : S → Visit → Bool) where
  -- the first read that differs, if one does
  abbrev pub first_of : S → List MarchStep → Option Miss
  first_of s [] = None
  first_of s (pausing e ∷ steps) = first_of (after s (pausing e)) steps
  first_of s (visiting v ∷ steps) = cond (is_wrong s v) (Some (miss_at v)) (first_of (after s (visiting v)) steps)

  nothing_differs : (s : S) → SomeDiffersBy after is_wrong s [] → ⊥
  nothing_differs s (v, d) = go d.before d.split
    where
      go : (before : List MarchStep) → ◌≡◌ {A = List MarchStep} [] (before ++ visiting v ∷ d.behind) → ⊥
      go [] e = cc
      go (x ∷ xs) e = cc

  -- the visit that differs is the first step, or one behind it
  here_or_behind : (s : S) (step : MarchStep) (steps : List MarchStep) (v : Visit) → DiffersBy after is_wrong s (step ∷ steps) v
      → ((step ≡ visiting v) × (is_wrong s v ≡ true)) ⊎ DiffersBy after is_wrong (after s step) steps v
  here_or_behind s step steps v d = go d.before d.split d.wrong
    where
      go : (before : List MarchStep) → step ∷ steps ≡ before ++ visiting v ∷ d.behind → is_wrong (left_behind after s before) v ≡ true
          → ((step ≡ visiting v) × (is_wrong s v ≡ true)) ⊎ DiffersBy after is_wrong (after s step) steps v
      go [] e wrong = let same : step ≡ visiting v = cc in inl (same, wrong)
      go (x ∷ xs) e wrong =
          let first : x ≡ step = cc in
          let rest : steps ≡ xs ++ visiting v ∷ d.behind = cc in
          inr (record {
            before = xs;
            behind = d.behind;
            split = rest;
            wrong = subst (λ y. is_wrong (left_behind after (after s y) xs) v ≡ true) first wrong;
          })

  differs_behind : (s : S) (step : MarchStep) (steps : List MarchStep) (v : Visit) → DiffersBy after is_wrong (after s step) steps v
      → DiffersBy after is_wrong s (step ∷ steps) v
  differs_behind s step steps v d = record { before = step ∷ d.before; behind = d.behind; split = ap (λ l. step ∷ l) d.split; wrong = d.wrong }

  -- a step that isn't a read that differs, before the first that is
  later : (s : S) (step : MarchStep) (steps : List MarchStep) (miss : Miss) → ((v : Visit) → step ≡ visiting v → is_wrong s v ≡ true → ⊥)
      → IsFirstBy after is_wrong (after s step) steps miss → IsFirstBy after is_wrong s (step ∷ steps) miss
  unfolding differs_behind
  later s step steps miss right first = record {
    visit = first.visit;
    differs = differs_behind s step steps first.visit first.differs;
    none_before = λ (v, d). ⊎_elim
        (λ (h : (step ≡ visiting v) × (is_wrong s v ≡ true)). right v h.0 h.1)
        (λ (h : DiffersBy after is_wrong (after s step) first.differs.before v). first.none_before (v, h))
        (here_or_behind s step first.differs.before v d);
    named = first.named;
  }

  right_visit : (s : S) (x v : Visit) → is_wrong s x ≡ false → visiting x ≡ visiting v → is_wrong s v ≡ true → ⊥
  right_visit s x v right is wrong = let other : is_wrong s v ≡ false = subst (λ y. is_wrong s y ≡ false) (same_visit x v is) right in cc

  first_miss : (s : S) (steps : List MarchStep) (miss : Miss) → first_of s steps ≡ Some miss → IsFirstBy after is_wrong s steps miss
  first_miss s [] miss some = cc
  first_miss s (pausing e ∷ steps) miss some =
      later s (pausing e) steps miss (λ v is wrong. no_visit e v is) (first_miss (after s (pausing e)) steps miss some)
  first_miss s (visiting x ∷ steps) miss some = go (after s (visiting x)) (first_miss (after s (visiting x)) steps miss) (is_wrong s x) refl some
    where
      go : (next : S) → (first_of next steps ≡ Some miss → IsFirstBy after is_wrong (after s (visiting x)) steps miss)
          → (b : Bool) → is_wrong s x ≡ b → cond b (Some (miss_at x)) (first_of next steps) ≡ Some miss → IsFirstBy after is_wrong s (visiting x ∷ steps) miss
      go next rest true wrong is =
          let same : miss ≡ miss_at x = cc in
          record {
            visit = x;
            differs = record { before = []; behind = steps; split = refl; wrong = wrong };
            none_before = λ d. nothing_differs s d;
            named = same;
          }
      go next rest false right is = later s (visiting x) steps miss (λ v is wrong. right_visit s x v right is wrong) (rest is)

  none_differs : (s : S) (steps : List MarchStep) → first_of s steps ≡ None → SomeDiffersBy after is_wrong s steps → ⊥
  none_differs s [] none d = nothing_differs s d
  none_differs s (pausing e ∷ steps) none (v, d) =
      ⊎_elim
      (λ (h : (pausing e ≡ visiting v) × (is_wrong s v ≡ true)). no_visit e v h.0)
      (λ (h : DiffersBy after is_wrong (after s (pausing e)) steps v). none_differs (after s (pausing e)) steps none (v, h))
      (here_or_behind s (pausing e) steps v d)
  none_differs s (visiting x ∷ steps) none (v, d) = go (after s (visiting x)) (none_differs (after s (visiting x)) steps) (is_wrong s x) refl none
    where
      go : (next : S) → (first_of next steps ≡ None → SomeDiffersBy after is_wrong (after s (visiting x)) steps → ⊥)
          → (b : Bool) → is_wrong s x ≡ b → cond b (Some (miss_at x)) (first_of next steps) ≡ None → ⊥
      go next rest true wrong is = cc
      go next rest false right is =
          ⊎_elim
          (λ (h : (visiting x ≡ visiting v) × (is_wrong s v ≡ true)). right_visit s x v right h.0 h.1)
          (λ (h : DiffersBy after is_wrong (after s (visiting x)) steps v). rest is (v, h))
          (here_or_behind s (visiting x) steps v d)

  -- the read that a run names differs first, and some read differs exactly where it names one
  pub first_found : (s : S) (steps : List MarchStep) (miss : Option Miss) → miss ≡ first_of s steps
      → (IsSome miss ↔ SomeDiffersBy after is_wrong s steps) × IfSome miss (λ m. IsFirstBy after is_wrong s steps m)
  first_found s steps None is = ((λ some. absurd (cc), λ d. absurd (none_differs s steps (sym is) d)), tt)
  first_found s steps (Some miss) is =
      let first : IsFirstBy after is_wrong s steps miss = first_miss s steps miss (sym is) in
      ((λ some. (first.visit, first.differs), λ d. refl), first)

  -- what is left behind the first read that differs, or behind all steps
  abbrev pub left_at : S → List MarchStep → S
  left_at s [] = s
  left_at s (pausing e ∷ steps) = left_at (after s (pausing e)) steps
  left_at s (visiting v ∷ steps) = cond (is_wrong s v) (after s (visiting v)) (left_at (after s (visiting v)) steps)

  -- a visit that differs, with none before it, is the one that is named, and the end
  stops_there : (s : S) (before behind : List MarchStep) (v : Visit) → is_wrong (left_behind after s before) v ≡ true
      → (SomeDiffersBy after is_wrong s before → ⊥)
      → (first_of s (before ++ visiting v ∷ behind) ≡ Some (miss_at v)) × (left_at s (before ++ visiting v ∷ behind) ≡ after (left_behind after s before) (visiting v))
  stops_there s [] behind v wrong none =
      (ap (λ b. cond b (Some (miss_at v)) (first_of (after s (visiting v)) behind)) wrong, ap (λ b. cond b (after s (visiting v)) (left_at (after s (visiting v)) behind)) wrong)
  stops_there s (pausing e ∷ xs) behind v wrong none =
      stops_there (after s (pausing e)) xs behind v wrong (λ (w, d). none (w, differs_behind s (pausing e) xs w d))
  stops_there s (visiting x ∷ xs) behind v wrong none =
      go (first_of (after s (visiting x)) (xs ++ visiting v ∷ behind)) (left_at (after s (visiting x)) (xs ++ visiting v ∷ behind))
      (stops_there (after s (visiting x)) xs behind v wrong (λ (w, d). none (w, differs_behind s (visiting x) xs w d))) (is_wrong s x) refl
    where
      go : (named : Option Miss) (left : S) → (named ≡ Some (miss_at v)) × (left ≡ after (left_behind after (after s (visiting x)) xs) (visiting v))
          → (b : Bool) → is_wrong s x ≡ b
          → (cond b (Some (miss_at x)) named ≡ Some (miss_at v)) × (cond b (after s (visiting x)) left ≡ after (left_behind after (after s (visiting x)) xs) (visiting v))
      go named left rest true is = absurd (none (x, record { before = []; behind = xs; split = refl; wrong = is }))
      go named left rest false is = rest

  first_named : (s : S) (steps : List MarchStep) (miss : Miss) → IsFirstBy after is_wrong s steps miss → first_of s steps ≡ Some miss
  first_named s steps miss first =
      ap (first_of s) first.differs.split ∙ (stops_there s first.differs.before first.differs.behind first.visit first.differs.wrong first.none_before).0 ∙ ap Some (sym first.named)

  -- of two that are the first, one is the other
  pub one_first : (s : S) (steps : List MarchStep) (one other : Miss) → IsFirstBy after is_wrong s steps one → IsFirstBy after is_wrong s steps other → one ≡ other
  one_first s steps one other a b = let same : Some one ≡ Some other = sym (first_named s steps one a) ∙ first_named s steps other b in cc

  pub left_first : (s : S) (steps : List MarchStep) (miss : Miss) (first : IsFirstBy after is_wrong s steps miss)
      → left_at s steps ≡ behind_first after is_wrong s steps miss first
  left_first s steps miss first =
      ap (left_at s) first.differs.split ∙ (stops_there s first.differs.before first.differs.behind first.visit first.differs.wrong first.none_before).1

  -- where no read differs, all steps are done
  pub all_behind : (s : S) (steps : List MarchStep) → first_of s steps ≡ None → left_at s steps ≡ left_behind after s steps
  all_behind s [] none = refl
  all_behind s (pausing e ∷ steps) none = all_behind (after s (pausing e)) steps none
  all_behind s (visiting v ∷ steps) none =
      either (first_of (after s (visiting v)) steps) (left_at (after s (visiting v)) steps) (all_behind (after s (visiting v)) steps) (is_wrong s v) none
    where
      either : (named : Option Miss) (left : S) → (named ≡ None → left ≡ left_behind after (after s (visiting v)) steps) → (b : Bool)
          → cond b (Some (miss_at v)) named ≡ None → cond b (after s (visiting v)) left ≡ left_behind after (after s (visiting v)) steps
      either named left rest true is = cc
      either named left rest false is = rest is

-- ---- the run of an array

miss_is : (p : Primitive) (at : Places) (cells : List Bool) (steps : List MarchStep)
    → (run_of p at cells steps).miss ≡ first_of (after_step p at) (is_wrong_at p at) cells steps
miss_is p at cells [] = refl
miss_is p at cells (pausing e ∷ steps) = miss_is p at (pause_cells p at cells) steps
miss_is p at cells (visiting v ∷ steps) =
    either (step_cells p at cells v.address (act_of v.op)) (run_of p at (step_cells p at cells v.address (act_of v.op)) steps) _
    (miss_is p at (step_cells p at cells v.address (act_of v.op)) steps) (is_wrong_at p at cells v)
  where
    either : (next : List Bool) (rest : Outcome) (first : Option Miss) → rest.miss ≡ first → (b : Bool)
        → (let o : Outcome = cond b (record { cells = next; miss = Some (miss_at v) }) rest in o.miss ≡ cond b (Some (miss_at v)) first)
    either next rest first e true = refl
    either next rest first e false = e

pub found : (p : Primitive) (at : Places) (cells : List Bool) (steps : List MarchStep) (miss : Option Miss) → miss ≡ (run_of p at cells steps).miss
    → (IsSome miss ↔ SomeDiffers p at cells steps) × IfSome miss (λ m. IsFirstMiss p at cells steps m)
found p at cells steps miss is = first_found (after_step p at) (is_wrong_at p at) cells steps miss (is ∙ miss_is p at cells steps)

-- a run names a read where one differs, and nowhere else
pub missed : (p : Primitive) (at : Places) (cells : List Bool) (steps : List MarchStep) → IsSome (run_of p at cells steps).miss ↔ SomeDiffers p at cells steps
missed p at cells steps = (found p at cells steps (run_of p at cells steps).miss refl).0

cells_are : (p : Primitive) (at : Places) (cells : List Bool) (steps : List MarchStep)
    → (run_of p at cells steps).cells ≡ left_at (after_step p at) (is_wrong_at p at) cells steps
cells_are p at cells [] = refl
cells_are p at cells (pausing e ∷ steps) = cells_are p at (pause_cells p at cells) steps
cells_are p at cells (visiting v ∷ steps) =
    either (step_cells p at cells v.address (act_of v.op)) (run_of p at (step_cells p at cells v.address (act_of v.op)) steps) _
    (cells_are p at (step_cells p at cells v.address (act_of v.op)) steps) (is_wrong_at p at cells v)
  where
    either : (next : List Bool) (rest : Outcome) (left : List Bool) → rest.cells ≡ left → (b : Bool)
        → (let o : Outcome = cond b (record { cells = next; miss = Some (miss_at v) }) rest in o.cells ≡ cond b next left)
    either next rest left e true = refl
    either next rest left e false = e

-- where no read differs, a run leaves what its steps leave
pub all_left : (p : Primitive) (at : Places) (cells : List Bool) (steps : List MarchStep) → (run_of p at cells steps).miss ≡ None
    → (run_of p at cells steps).cells ≡ left_behind (after_step p at) cells steps
all_left p at cells steps passes =
    cells_are p at cells steps ∙ all_behind (after_step p at) (is_wrong_at p at) cells steps (sym (miss_is p at cells steps) ∙ passes)

-- else it leaves what stands behind the first read that differs
pub stopped : (p : Primitive) (at : Places) (cells : List Bool) (steps : List MarchStep) (miss : Option Miss) (left : List Bool)
    → miss ≡ (run_of p at cells steps).miss → left ≡ (run_of p at cells steps).cells → IfSome miss (λ m. StopsAt p at cells steps m left)
stopped p at cells steps None left is left_is = tt
stopped p at cells steps (Some miss) left is left_is =
    let first : IsFirstMiss p at cells steps miss = (found p at cells steps (Some miss) is).1 in
    (first, left_is ∙ cells_are p at cells steps ∙ left_first (after_step p at) (is_wrong_at p at) cells steps miss first)
