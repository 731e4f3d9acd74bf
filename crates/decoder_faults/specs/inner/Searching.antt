-- Inner. Only helps proofs: what the search for the least escape finds where x has the lower address, or the higher.
use Rattle.std.specs.Prelude.{◌≡◌, ◌<◌, ℕ, Bool, true, false, Some, List, length}
use Rattle.march_core.specs.March.{MarchElement}
use Rattle.cell_machine.specs.declared.pair.Pair.{Pair}
use Rattle.cell_machine.specs.Seen.{pair_at}
use Rattle.pair_tracker.specs.declared.search.DeadEnds.{DeadEnds}
use Rattle.pair_tracker.specs.Pairs.{sides_in}
use Rattle.pair_tracker.specs.Reached.{AreDeadEnds}
use Rattle.pair_tracker.specs.Survivors.{IsLeastOf, pair_number}
use Rattle.pair_tracker.specs.Tracking.{any_end, GetsThrough}
use Rattle.escape_array.specs.Escapes.{content_number}
use Rattle.decoder_faults.specs.declared.fault.DecoderFault.{DecoderFault}
use Rattle.decoder_faults.specs.declared.escape.DecoderEscape.{DecoderEscape}
use Rattle.decoder_faults.specs.Decoding.{AddressPair}
use Rattle.decoder_faults.specs.Escapes.{addresses_of}
use Rattle.decoder_faults.specs.inner.Pairs.{machine_of}

-- the two addresses in an array of two cells, by whether x has the lower
abbrev pub addresses_in : Bool → AddressPair
addresses_in true = record { x = 0; y = 1 }
addresses_in false = record { x = 1; y = 0 }

abbrev pub start_in : Bool → List Bool → Pair
start_in below content = let at : AddressPair = addresses_in below in pair_at content at.x at.y

-- no read differs in the directions of a word
abbrev pub LetsThrough : List MarchElement → DecoderFault → Bool → List Bool → ℕ → Type 0
LetsThrough march fault below content word = GetsThrough (machine_of fault) (sides_in below) march (start_in below content) word

-- what a search has found out
abbrev pub KnowsOf : List MarchElement → DecoderFault → Bool → DeadEnds → Type 0
KnowsOf march fault below dead = AreDeadEnds pair_number any_end (machine_of fault) (sides_in below) march (length march) dead

-- no content before this one is let through
abbrev pub NoneBefore : List MarchElement → DecoderFault → Bool → ℕ → Type 0
NoneBefore march fault below number =
    (content : List Bool) → length content ≡ 2 → content_number content < number → (word : ℕ)
    → LetsThrough march fault below content word → ⊥

-- the array of the least content that is let through, with its least word
pub record IsLeastIn (march : List MarchElement) (fault : DecoderFault) (below : Bool) (e : DecoderEscape) : Type 0 where
  pub fault_is : e.fault ≡ fault
  pub addresses : addresses_of e ≡ addresses_in below
  pub each_cell : length e.content ≡ 2
  pub before : NoneBefore march fault below (content_number e.content)
  pub word : IsLeastOf (LetsThrough march fault below e.content) (Some e.directions)
