-- A march detects a fault exactly where its elements meet it, so two faults that are met alike are detected alike.
use Rattle.std.proofs.Common.{◌≡◌, ◌↔◌, ℕ, Bool, true, false, ◌&&◌, List, [], ◌∷◌, refl, ap, ◌∙◌, arith}
use Rattle.march_core.specs.March.{MarchElement, IsMarch}
use Rattle.pair_tracker.specs.Pairs.{sides_in}
use Rattle.pair_tracker.specs.Tracking.{GetsThrough}
use Rattle.decoder_faults.specs.declared.fault.WiredRead.{WiredRead}
use Rattle.decoder_faults.specs.declared.fault.DecoderFault.{DecoderFault}
use Rattle.decoder_faults.specs.declared.fault.DecoderFault.TheVariants.{NoCell, TakenCell}
use Rattle.decoder_faults.specs.Conditions.{catches, some_element, meets}
use Rattle.decoder_faults.specs.Detection.{DetectsDecoder}
use Rattle.decoder_faults.specs.inner.Pairs.{machine_of}
use Rattle.decoder_faults.specs.inner.Searching.{start_in}
use Rattle.decoder_faults.proofs.EverySize.{detected_never}
use Rattle.decoder_faults.proofs.Among.{met_detects}
use Rattle.decoder_faults.proofs.Meeting.{gets_through}

never_where : (march : List MarchElement) (fault : DecoderFault) (below : Bool) → IsMarch march → some_element (catches fault below) march ≡ false
    → DetectsDecoder march fault → ⊥
never_where march fault below is none detects =
    let content : List Bool = false ∷ false ∷ [] in
    let through : (word : ℕ) × GetsThrough (machine_of fault) (sides_in below) march (start_in below content) word = gets_through fault below march (start_in below content) is none in
    detected_never march fault below content through.0 is refl through.1 2 (omega arith) (detects 2 (omega arith))

pub met_where : (march : List MarchElement) (fault : DecoderFault) → IsMarch march → DetectsDecoder march fault → meets march fault ≡ true
met_where march fault is detects = go (some_element (catches fault true) march) (some_element (catches fault false) march) refl refl
  where
    go : (a b : Bool) → some_element (catches fault true) march ≡ a → some_element (catches fault false) march ≡ b → meets march fault ≡ true
    go true true e f = ap (λ x. x && some_element (catches fault false) march) e ∙ f
    go false b e f = absurd (never_where march fault true is e detects)
    go true false e f = absurd (never_where march fault false is f detects)

pub as_no_cell : (march : List MarchElement) (answer : Bool) (wired : WiredRead) → IsMarch march
    → DetectsDecoder march (TakenCell answer wired) ↔ DetectsDecoder march (NoCell answer)
as_no_cell march answer wired is = (
  λ detects. met_detects march (NoCell answer) (met_where march (TakenCell answer wired) is detects),
  λ detects. met_detects march (TakenCell answer wired) (met_where march (NoCell answer) is detects),
)
