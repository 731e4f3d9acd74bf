-- Public. A march on the few cells of a fault alone.
use Rattle.std.specs.Prelude.{Bool, if◌then◌else◌, Option, Some, None, List, [], ◌∷◌}
use Rattle.std.specs.Option.{option_and_then}
use Rattle.fault_core.specs.declared.primitive.Act.{Act}
use Rattle.march_core.specs.declared.operation.Op.{Op}
use Rattle.march_core.specs.March.{MarchElement, pause, sweep, order_of}
use Rattle.march_core.specs.Visits.{Direction, allows}
use Rattle.march_core.specs.Operation.{is_wrong_of}
use Rattle.array_sim.specs.Run.{act_of}

-- what an act on one of the few cells makes of them, and what it answers; what an act on any other cell makes of them, and what a pause does
pub record Machine (Q I : Type 0) : Type 0 where
  pub step : Q → I → Act → Q
  pub answer : Q → I → Act → Option Bool
  pub other : Q → Q
  pub pause : Q → Q

-- the few cells after these operations on one of them, unless a read differs
abbrev pub ops_run : {Q I : Type 0} → Machine Q I → Q → I → List Op → Option Q
ops_run m q i [] = Some q
ops_run m q i (op ∷ ops) = if is_wrong_of op (m.answer q i (act_of op)) then None else ops_run m (m.step q i (act_of op)) i ops

-- after operations on other cells
abbrev pub passed : {Q I : Type 0} → Machine Q I → List Op → Q → Q
passed m [] q = q
passed m (op ∷ ops) q = m.other q

-- the operations on one of the few cells, or on any others
abbrev pub cell_run : {Q I : Type 0} → Machine Q I → Q → Option I → List Op → Option Q
cell_run m q None ops = Some (passed m ops q)
cell_run m q (Some i) ops = ops_run m q i ops

-- on each of these in turn
abbrev pub cells_run : {Q I : Type 0} → Machine Q I → Q → List (Option I) → List Op → Option Q
cells_run m q [] ops = Some q
cells_run m q (t ∷ ts) ops = option_and_then (λ r. cells_run m r ts ops) (cell_run m q t ops)

-- in which order a direction visits the cells
abbrev pub Order : Type 0 → Type 0
Order I = Direction → List (Option I)

-- one element in a direction
abbrev pub element_run : {Q I : Type 0} → Machine Q I → Order I → Q → MarchElement → Direction → Option Q
element_run m order q pause d = Some (m.pause q)
element_run m order q (sweep way ops) d = cells_run m q (order d) ops

-- the elements one after another, each in its direction
abbrev pub few_run : {Q I : Type 0} → Machine Q I → Order I → Q → List MarchElement → List Direction → Option Q
few_run m order q [] ds = Some q
few_run m order q (e ∷ es) [] = Some q
few_run m order q (e ∷ es) (d ∷ ds) = option_and_then (λ r. few_run m order r es ds) (element_run m order q e d)

-- the few cells after an element in a direction, where its order leaves that open and no read differs
abbrev pub end_of : {Q I : Type 0} → Machine Q I → Order I → MarchElement → Q → Direction → Option Q
end_of m order e q d = if allows (order_of e) d then element_run m order q e d else None
