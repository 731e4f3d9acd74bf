-- Public. Inversion coupling, CFin: a write that turns the aggressor inverts the victim. It is a link of two primitives.
use Rattle.std.specs.Prelude.{◌≡◌, ◌≢◌, ◌<◌, ◌≤◌, ◌==◌, ◌↔◌, ℕ, Bool, true, not, ◌&&◌, if◌then◌else◌, IsTrue, Some, None, List, length, slice_set}
use Rattle.fault_core.specs.declared.primitive.Act.{Act}
use Rattle.fault_core.specs.declared.primitive.Act.TheVariants.{Write}
use Rattle.fault_core.specs.Primitive.{Primitive, same_bit}
use Rattle.fault_core.specs.Cells.{cell, same_act, plain_cells, plain_answer}
use Rattle.march_core.specs.March.{MarchElement}
use Rattle.march_core.specs.Operation.{is_wrong_of}
use Rattle.march_core.specs.Visits.{Visit, MarchStep, pausing, visiting, Direction, is_direction, visits}
use Rattle.array_sim.specs.Run.{act_of}
use Rattle.array_sim.specs.Differing.{SomeDiffersBy}
use Rattle.linked_faults.specs.declared.link.Link.{Link}
use Rattle.linked_faults.specs.declared.link.LinkPlaces.{LinkPlaces}
use Rattle.linked_faults.specs.Linking.{IsLinked, linked_cells, linked_answer, linked_pause}
use Rattle.linked_faults.specs.Detection.{Detects}

-- the victim's cell and the aggressor's
pub record TwoCells : Type 0 where
  pub agg : ℕ
  pub vic : ℕ

-- whether an act turns the aggressor from this bit
abbrev pub does_turn : Bool → TwoCells → List Bool → ℕ → Act → Bool
does_turn from at cells x act = ((at.agg == x) && same_act (Write (not from)) act) && same_bit (cell cells at.agg) from

-- then the victim is inverted
abbrev pub inverted : Bool → TwoCells → List Bool → ℕ → Act → List Bool
inverted from at cells x act =
    if does_turn from at cells x act then slice_set (plain_cells cells x act) at.vic (not (cell cells at.vic)) else plain_cells cells x act

-- the cells after one step; a pause leaves them
abbrev pub inverted_behind : Bool → TwoCells → List Bool → MarchStep → List Bool
inverted_behind from at cells (pausing element) = cells
inverted_behind from at cells (visiting v) = inverted from at cells v.address (act_of v.op)

-- whether a visit is a read that answers another bit than the march expects: a read answers its cell
abbrev pub is_wrong_cell : List Bool → Visit → Bool
is_wrong_cell cells v = is_wrong_of v.op (plain_answer cells v.address (act_of v.op))

-- in these directions on this content some read answers another bit than the march expects
abbrev pub InversionIsCaught : List MarchElement → List Direction → Bool → TwoCells → List Bool → Type 0
InversionIsCaught march directions from at content =
    SomeDiffersBy (inverted_behind from at) is_wrong_cell content (visits march directions (length content))

-- it is caught at every two cells of every array of three cells or more, from every content, in every choice of directions
abbrev pub DetectsInversion : List MarchElement → Bool → Type 0
DetectsInversion march from =
    (size : ℕ) (directions : List Direction) (at : TwoCells) (content : List Bool) → 3 ≤ size
    → IsTrue (is_direction march directions) → at.agg < size → at.vic < size → at.agg ≢ at.vic → length content ≡ size
    → InversionIsCaught march directions from at content

-- CFds of the same write of the aggressor: from this state of the victim to the other
abbrev pub disturbing : Bool → Bool → Primitive
disturbing from state =
    record { agg = Some (record { state = from; act = Some (Write (not from)) }); vic = record { state = state; act = None }; after = not state; answer = None }

-- one from each state, with one aggressor
abbrev pub both_disturbing : Bool → Bool → Link
both_disturbing from state = record { first = disturbing from state; second = disturbing from (not state); is_shared = true }

-- they are linked, in either order; the run of an array with CFin is the run of that link, act by act; so a march detects both or neither
pub record IsInversion (from state : Bool) : Type 0 where
  pub linked : IsLinked (both_disturbing from state)
  pub cells : (at : LinkPlaces) (cells : List Bool) (x : ℕ) (act : Act)
      → linked_cells (both_disturbing from state) at cells x act ≡ inverted from (record { agg = at.a; vic = at.v }) cells x act
  pub answers : (at : LinkPlaces) (cells : List Bool) (x : ℕ) (act : Act)
      → linked_answer (both_disturbing from state) at cells x act ≡ plain_answer cells x act
  pub pauses : (at : LinkPlaces) (cells : List Bool) → linked_pause (both_disturbing from state) at cells ≡ cells
  pub verdicts : (march : List MarchElement) → Detects march (both_disturbing from state) ↔ DetectsInversion march from

abbrev pub AreInversions : Type 0
AreInversions = (from state : Bool) → IsInversion from state
