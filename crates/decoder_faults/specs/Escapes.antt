-- Trusted. Arrays of two cells that pass a march with a fault of the address decoder, the least of them, and what a verdict says.
use Rattle.std.specs.Prelude.{◌≡◌, ◌<◌, ◌≤◌, ◌+◌, ◌*◌, ◌^◌, ◌⊎◌, ℕ, Option, Some, None, List, length}
use Rattle.march_core.specs.March.{MarchElement}
use Rattle.march_core.specs.Visits.{FitsWord, directions_of}
use Rattle.escape_array.specs.Escapes.{content_number}
use Rattle.decoder_faults.specs.declared.fault.DecoderFault.{DecoderFault}
use Rattle.decoder_faults.specs.declared.escape.DecoderEscape.{DecoderEscape}
use Rattle.decoder_faults.specs.Decoding.{AddressPair, FitsPair, reach_of}
use Rattle.decoder_faults.specs.Detection.{IsCaught, DetectsDecoderAt, DetectsDecoder}

abbrev pub addresses_of : DecoderEscape → AddressPair
addresses_of e = record { x = e.x; y = e.y }

-- an array of two cells with the two addresses of its fault, and a direction word that fits the march
pub record IsArray (march : List MarchElement) (e : DecoderEscape) : Type 0 where
  pub addresses : FitsPair (addresses_of e) 2
  pub each_cell : length e.content ≡ 2
  pub is_word : e.directions < 2 ^ 64
  pub directions : FitsWord march e.directions

-- no read differs in it
pub record IsEscape (march : List MarchElement) (e : DecoderEscape) : Type 0 where
  pub array : IsArray march e
  pub passes : IsCaught march (directions_of e.directions (length march)) (reach_of e.fault (addresses_of e)) e.content → ⊥

-- arrays in their order: x at 0 before x at 1, then the contents 00, 01, 10, 11, the digit of cell 0 first
abbrev pub array_number : DecoderEscape → ℕ
array_number e = 4 * e.x + content_number e.content

-- the order of escapes: by the array, then by the direction word
abbrev pub IsNoGreater : DecoderEscape → DecoderEscape → Type 0
IsNoGreater e f =
    (array_number e < array_number f) ⊎ ((array_number e ≡ array_number f) × (e.directions ≤ f.directions))

-- the least escape of its fault
pub record IsLeastEscape (march : List MarchElement) (e : DecoderEscape) : Type 0 where
  pub escape : IsEscape march e
  pub least : (f : DecoderEscape) → f.fault ≡ e.fault → IsEscape march f → IsNoGreater e f

-- none exactly where the fault is detected at every size; else the least escape
abbrev pub IsVerdict : List MarchElement → DecoderFault → Option DecoderEscape → Type 0
IsVerdict march fault None = DetectsDecoder march fault
IsVerdict march fault (Some e) = (e.fault ≡ fault) × IsLeastEscape march e × (DetectsDecoder march fault → ⊥)

-- at this single size the verdict is the same
abbrev pub IsVerdictAt : ℕ → List MarchElement → DecoderFault → Option DecoderEscape → Type 0
IsVerdictAt size march fault None = DetectsDecoderAt size march fault
IsVerdictAt size march fault (Some e) = DetectsDecoderAt size march fault → ⊥
