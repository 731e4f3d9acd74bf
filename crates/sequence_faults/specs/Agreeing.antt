-- Public. Static primitives of one operation and dynamic ones of two as sequences, which do the same.
use Rattle.std.specs.Prelude.{◌≡◌, ◌↔◌, ◌++◌, Bool, true, false, if◌then◌else◌, Option, Some, None, is_some, List, [], ◌∷◌, length, ℕ}
use Rattle.fault_core.specs.declared.primitive.Act.{Act}
use Rattle.fault_core.specs.declared.primitive.Sense.{Sense}
use Rattle.fault_core.specs.declared.cells.Places.{Places}
use Rattle.fault_core.specs.Primitive.{Primitive, IsPrimitive, is_retention}
use Rattle.fault_core.specs.Cells.{has_act, FitsPlace}
use Rattle.march_core.specs.March.{MarchElement}
use Rattle.march_core.specs.Visits.{Direction}
use Rattle.array_sim.specs.Detection.{IsCaught as IsCaughtStatic}
use Rattle.dynamic_core.specs.Primitive.{TwoActs, DynamicSense, DynamicPrimitive, IsDynamic, aggressor_acts}
use Rattle.dynamic_core.specs.Detecting.{FitsDyn, IsCaughtDyn}
use Rattle.sequence_faults.specs.Primitive.{SequencePrimitive}
use Rattle.sequence_faults.specs.Detection.{IsCaught}

-- the addresses of an instance, the aggressor's first
abbrev pub beside : Option ℕ → List ℕ
beside None = []
beside (Some a) = a ∷ []

abbrev pub addresses_of : Places → List ℕ
addresses_of at = beside at.agg ++ at.vic ∷ []

-- ---- one operation

abbrev pub agg_state : Option Sense → List Bool
agg_state None = []
agg_state (Some sense) = sense.state ∷ []

abbrev pub one_act : Option Act → List Act
one_act None = []
one_act (Some act) = act ∷ []

abbrev pub agg_act : Option Sense → Option Act
agg_act None = None
agg_act (Some sense) = sense.act

abbrev pub sequence_of_static : Primitive → SequencePrimitive
sequence_of_static p = record {
  states = agg_state p.agg ++ p.vic.state ∷ [];
  actor = if is_some p.vic.act then length (agg_state p.agg) else 0;
  acts = one_act p.vic.act ++ one_act (agg_act p.agg);
  after = p.after;
  answer = p.answer;
}

-- a march catches the one where it catches the other
unfoldable pub AsStatic : Type 0
AsStatic =
    (p : Primitive) (at : Places) (march : List MarchElement) (directions : List Direction) (content : List Bool)
    → IsPrimitive p → has_act p ≡ true → is_retention p ≡ false → FitsPlace p at (length content)
    → IsCaught march directions (sequence_of_static p) (addresses_of at) content ↔ IsCaughtStatic march directions p at content

-- ---- two operations

abbrev pub agg_dyn_state : Option DynamicSense → List Bool
agg_dyn_state None = []
agg_dyn_state (Some sense) = sense.state ∷ []

abbrev pub two_acts : Option TwoActs → List Act
two_acts None = []
two_acts (Some acts) = acts.first ∷ acts.second ∷ []

abbrev pub sequence_of_dynamic : DynamicPrimitive → SequencePrimitive
sequence_of_dynamic p = record {
  states = agg_dyn_state p.agg ++ p.vic.state ∷ [];
  actor = if is_some p.vic.acts then length (agg_dyn_state p.agg) else 0;
  acts = two_acts p.vic.acts ++ two_acts (aggressor_acts p.agg);
  after = p.after;
  answer = p.answer;
}

unfoldable pub AsDynamic : Type 0
AsDynamic =
    (p : DynamicPrimitive) (at : Places) (march : List MarchElement) (directions : List Direction) (content : List Bool)
    → IsDynamic p → FitsDyn p at (length content)
    → IsCaught march directions (sequence_of_dynamic p) (addresses_of at) content ↔ IsCaughtDyn march directions p at content
