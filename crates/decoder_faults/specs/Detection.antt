-- Trusted. When a march detects a fault of the address decoder: at one size, and at every size.
use Rattle.std.specs.Prelude.{◌≡◌, ◌≤◌, ℕ, Bool, IsTrue, List, length}
use Rattle.march_core.specs.March.{MarchElement}
use Rattle.march_core.specs.Operation.{is_wrong_of}
use Rattle.march_core.specs.Visits.{Visit, MarchStep, pausing, visiting, Direction, is_direction, visits}
use Rattle.array_sim.specs.Run.{act_of}
use Rattle.array_sim.specs.Differing.{SomeDiffersBy}
use Rattle.decoder_faults.specs.declared.fault.DecoderFault.{DecoderFault}
use Rattle.decoder_faults.specs.Decoding.{AddressPair, FitsPair, Decoder, reach_of, HasFault, act_through, answer_through}

-- the cells after one step; a pause leaves them
abbrev pub cells_behind : Decoder → List Bool → MarchStep → List Bool
cells_behind decoder cells (pausing element) = cells
cells_behind decoder cells (visiting v) = act_through (decoder v.address) cells (act_of v.op)

-- whether a visit is a read that answers another bit than the march expects
abbrev pub is_wrong_there : Decoder → List Bool → Visit → Bool
is_wrong_there decoder cells v = is_wrong_of v.op (answer_through (decoder v.address) cells (act_of v.op))

-- in these directions on this content some read answers another bit than the march expects
abbrev pub IsCaught : List MarchElement → List Direction → Decoder → List Bool → Type 0
IsCaught march directions decoder content =
    SomeDiffersBy (cells_behind decoder) (is_wrong_there decoder) content (visits march directions (length content))

-- in arrays of this size the fault is caught at every two addresses, from every content, in every choice of directions
abbrev pub DetectsDecoderAt : ℕ → List MarchElement → DecoderFault → Type 0
DetectsDecoderAt size march fault =
    (directions : List Direction) (at : AddressPair) (content : List Bool)
    → IsTrue (is_direction march directions) → FitsPair at size → length content ≡ size
    → IsCaught march directions (reach_of fault at) content

-- it is caught so in arrays of every size from two cells on
abbrev pub DetectsDecoder : List MarchElement → DecoderFault → Type 0
DetectsDecoder march fault = (size : ℕ) → 2 ≤ size → DetectsDecoderAt size march fault

-- it is caught so whatever the other addresses reach
abbrev pub DetectsAmong : List MarchElement → DecoderFault → Type 0
DetectsAmong march fault =
    (directions : List Direction) (decoder : Decoder) (at : AddressPair) (content : List Bool)
    → IsTrue (is_direction march directions) → FitsPair at (length content) → HasFault decoder fault at
    → IsCaught march directions decoder content
