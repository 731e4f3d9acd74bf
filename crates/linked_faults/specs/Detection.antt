-- Trusted. When a march detects a linked fault: at one size, and at every size.
use Rattle.std.specs.Prelude.{◌≡◌, ◌≤◌, ℕ, Bool, IsTrue, List, length}
use Rattle.march_core.specs.March.{MarchElement}
use Rattle.march_core.specs.Operation.{is_wrong_of}
use Rattle.march_core.specs.Visits.{Visit, MarchStep, pausing, visiting, Direction, is_direction, visits}
use Rattle.array_sim.specs.Run.{act_of}
use Rattle.array_sim.specs.Differing.{SomeDiffersBy}
use Rattle.linked_faults.specs.declared.link.Link.{Link}
use Rattle.linked_faults.specs.declared.link.LinkPlaces.{LinkPlaces}
use Rattle.linked_faults.specs.Linking.{FitsLinkPlaces, linked_cells, linked_answer, linked_pause}

-- the cells after one step
abbrev pub cells_behind : Link → LinkPlaces → List Bool → MarchStep → List Bool
cells_behind link at cells (pausing element) = linked_pause link at cells
cells_behind link at cells (visiting v) = linked_cells link at cells v.address (act_of v.op)

-- whether a visit is a read that answers another bit than the march expects
abbrev pub is_wrong_there : Link → LinkPlaces → List Bool → Visit → Bool
is_wrong_there link at cells v = is_wrong_of v.op (linked_answer link at cells v.address (act_of v.op))

-- in these directions on this content some read answers another bit than the march expects
abbrev pub IsCaught : List MarchElement → List Direction → Link → LinkPlaces → List Bool → Type 0
IsCaught march directions link at content =
    SomeDiffersBy (cells_behind link at) (is_wrong_there link at) content (visits march directions (length content))

-- in arrays of this size it is caught at every three cells, from every content, in every choice of directions
abbrev pub DetectsAt : ℕ → List MarchElement → Link → Type 0
DetectsAt size march link =
    (directions : List Direction) (at : LinkPlaces) (content : List Bool)
    → IsTrue (is_direction march directions) → FitsLinkPlaces at size → length content ≡ size
    → IsCaught march directions link at content

-- it is caught so in arrays of every size from three cells on
abbrev pub Detects : List MarchElement → Link → Type 0
Detects march link = (size : ℕ) → 3 ≤ size → DetectsAt size march link
