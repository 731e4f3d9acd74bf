use Rattle.std.proofs.Common.{◌≡◌, List, Bool, Option, ap, sym, ◌∙◌, length, None, ◌↔◌, arith}
use Rattle.std.specs.Option.{IsSome, IfSome}
use Rattle.fault_core.specs.declared.cells.Places.{Places}
use Rattle.fault_core.specs.Primitive.{Primitive}
use Rattle.fault_core.specs.Cells.{close_of}
use Rattle.march_core.specs.March.{MarchElement}
use Rattle.march_core.specs.Visits.{Direction, MarchStep, directions_of, visits}
use Rattle.march_core.specs.declared.visit.Miss.{Miss}
use Rattle.array_sim.specs.inner.Run.{Outcome, run_of}
use Rattle.array_sim.specs.Run.{places_of}
use Rattle.array_sim.specs.Differing.{left_behind, after_step, SomeDiffers, IsFirstMiss, StopsAt}
use Rattle.array_sim.proofs.Differing.{found, all_left, stopped}
use Rattle.array_sim.proofs.simulation.simulate.Goals as goal

-- what a run over these steps ends with
record Ran (p : Primitive) (at : Places) (closed : List Bool) (steps : List MarchStep) (miss : Option Miss) (left : List Bool) : Type 0 where
  caught : IsSome miss ↔ SomeDiffers p at closed steps
  first : IfSome miss (λ m. IsFirstMiss p at closed steps m)
  passed : miss ≡ None → left ≡ left_behind (after_step p at) closed steps
  stopped : IfSome miss (λ m. StopsAt p at closed steps m left)

ran : (p : Primitive) (at : Places) (cells closed : List Bool) (march : List MarchElement) (ds : List Direction) (miss : Option Miss) (left : List Bool)
    → length closed ≡ length cells → closed ≡ close_of p at cells
    → miss ≡ (run_of p at closed (visits march ds (length closed))).miss → left ≡ (run_of p at closed (visits march ds (length closed))).cells
    → Ran p at (close_of p at cells) (visits march ds (length cells)) miss left
ran p at cells closed march ds miss left size closes miss_is left_is =
    let steps : List MarchStep = visits march ds (length cells) in
    let same : run_of p at closed (visits march ds (length closed)) ≡ run_of p at (close_of p at cells) steps =
    ap (λ k. run_of p at closed (visits march ds k)) size ∙ ap (λ l. run_of p at l steps) closes in
    let named : miss ≡ (run_of p at (close_of p at cells) steps).miss = miss_is ∙ ap (λ (o : Outcome). o.miss) same in
    let leaves : left ≡ (run_of p at (close_of p at cells) steps).cells = left_is ∙ ap (λ (o : Outcome). o.cells) same in
    record {
      caught = (found p at (close_of p at cells) steps miss named).0;
      first = (found p at (close_of p at cells) steps miss named).1;
      passed = λ none. leaves ∙ all_left p at (close_of p at cells) steps (sym named ∙ none);
      stopped = stopped p at (close_of p at cells) steps miss left named leaves;
    }

pub returns : goal.returns
returns c =
    let r = ran c.args.instance.now.prim (places_of c.args.instance.now) c.args.cells.now c.close_cells.new.cells c.args.march.now
    (directions_of c.args.directions (length c.args.march.now)) c.run_elements.result c.run_elements.new.cells (omega arith) c.close_cells.ensures
    c.run_elements.ensures.miss c.run_elements.ensures.cells in
    record { caught = r.caught; first = r.first; passed = r.passed; stopped = r.stopped }
