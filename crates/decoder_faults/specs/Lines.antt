-- Public. A line of the address decoder that is stuck.
use Rattle.std.specs.Prelude.{◌≡◌, ◌<◌, ◌==◌, ◌+◌, ◌-◌, ◌/◌, ◌%◌, ◌^◌, ℕ, Bool, true, false, if◌then◌else◌, IsTrue, List, length}
use Rattle.march_core.specs.March.{MarchElement}
use Rattle.march_core.specs.Visits.{Direction, is_direction}
use Rattle.decoder_faults.specs.Decoding.{Decoder, one_cell}
use Rattle.decoder_faults.specs.Detection.{IsCaught}

-- what a line carries for an address
abbrev pub line_of : ℕ → ℕ → Bool
line_of k address = address / 2 ^ k % 2 == 1

-- the cell that an address reaches where a line is stuck at a bit; beyond the end of an array there is none, and a read answers 0
abbrev pub stuck_cell : ℕ → Bool → ℕ → ℕ
stuck_cell k false address = if line_of k address then address - 2 ^ k else address
stuck_cell k true address = if line_of k address then address else address + 2 ^ k

abbrev pub stuck_line : ℕ → Bool → Decoder
stuck_line k bit address = one_cell (stuck_cell k bit address)

-- an address of the array needs the line
abbrev pub NeedsLine : ℕ → ℕ → Type 0
NeedsLine size k = (address : ℕ) × (address < size) × (line_of k address ≡ true)

-- a stuck line is caught in every array whose addresses need it, from every content, in every choice of directions
abbrev pub DetectsStuckLines : List MarchElement → Type 0
DetectsStuckLines march =
    (size k : ℕ) (bit : Bool) (directions : List Direction) (content : List Bool)
    → NeedsLine size k → IsTrue (is_direction march directions) → length content ≡ size
    → IsCaught march directions (stuck_line k bit) content

-- these are all lines that an array needs: each that isn't beyond its last address
abbrev pub AreAllLines : Type 0
AreAllLines =
    (march : List MarchElement) → DetectsStuckLines march → (size k : ℕ) (bit : Bool) (directions : List Direction) (content : List Bool)
    → 2 ^ k < size → IsTrue (is_direction march directions) → length content ≡ size
    → IsCaught march directions (stuck_line k bit) content
