-- What the two cells of a fault get through, an array of any size does.
use Rattle.std.proofs.Common.{◌≡◌, ◌++◌, ◌-◌, ◌≤◌, ℕ, Bool, true, false, nat_lt, Option, Some, List, [], ◌∷◌, length, replicate, length-append, refl, ap, ◌∙◌, arith}
use Rattle.std.proofs.lemmas.List.{length-replicate}
use Rattle.march_core.specs.March.{MarchElement, IsMarch}
use Rattle.march_core.specs.Visits.{Direction, directions_of}
use Rattle.cell_machine.specs.declared.pair.Pair.{Pair}
use Rattle.pair_tracker.specs.Few.{few_run}
use Rattle.pair_tracker.specs.Pairs.{sides_in}
use Rattle.pair_tracker.proofs.Few.{march_passes, march_through}
use Rattle.pair_tracker.proofs.Tags.{side_at}
use Rattle.pair_tracker.proofs.Through.{through_run, through_fits}
use Rattle.decoder_faults.specs.declared.fault.DecoderFault.{DecoderFault}
use Rattle.decoder_faults.specs.Decoding.{AddressPair, FitsPair, reach_of}
use Rattle.decoder_faults.specs.Detection.{cells_behind, is_wrong_there, IsCaught, DetectsDecoderAt}
use Rattle.decoder_faults.specs.inner.Pairs.{machine_of}
use Rattle.decoder_faults.specs.inner.Searching.{addresses_in, start_in, LetsThrough}
use Rattle.decoder_faults.proofs.Passing.{decoder_sees, sides_ordered}
use Rattle.decoder_faults.proofs.Seen.{seen}

-- the run of the two cells of an array
abbrev pub own_run : DecoderFault → AddressPair → List MarchElement → List Direction → List Bool → Option Pair
own_run fault at march ds content = few_run (machine_of fault) (sides_in (nat_lt at.x at.y)) (seen at content) march ds

module _ (fault : DecoderFault) (at : AddressPair) (march : List MarchElement) (is : IsMarch march) (ds : List Direction) (content : List Bool) (fits : FitsPair at (length content)) where
  abbrev n : ℕ
  n = length content

  abbrev HasSize : List Bool → Type 0
  HasSize cells = length cells ≡ n

  -- no read differs exactly where the two cells get through
  pub passes_where : (q : Pair) → own_run fault at march ds content ≡ Some q → IsCaught march ds (reach_of fault at) content → ⊥
  passes_where q e =
      march_passes (cells_behind (reach_of fault at)) (is_wrong_there (reach_of fault at)) (λ cells. cells) (seen at) (side_at at.x at.y) n (machine_of fault) HasSize (Unit {0})
      (decoder_sees fault at n fits) (sides_in (nat_lt at.x at.y)) (sides_ordered fault at n fits) march is ds content refl tt q e

  pub through_unless : (IsCaught march ds (reach_of fault at) content → ⊥) → (q : Pair) × (own_run fault at march ds content ≡ Some q)
  through_unless passes =
      march_through (cells_behind (reach_of fault at)) (is_wrong_there (reach_of fault at)) (λ cells. cells) (seen at) (side_at at.x at.y) n (machine_of fault) HasSize (Unit {0})
      (decoder_sees fault at n fits) (sides_in (nat_lt at.x at.y)) (sides_ordered fault at n fits) march is ds content refl tt passes

-- the two addresses in arrays of two cells, and of more
pub fits_in : (below : Bool) (n : ℕ) → 2 ≤ n → FitsPair (addresses_in below) n
fits_in true n more = record { x_within = omega arith; y_within = omega arith; apart = omega arith }
fits_in false n more = record { x_within = omega arith; y_within = omega arith; apart = omega arith }

pub lower_in : (below : Bool) → nat_lt (addresses_in below).x (addresses_in below).y ≡ below
lower_in true = refl
lower_in false = refl

same_start : (below : Bool) (content rest : List Bool) → length content ≡ 2 → seen (addresses_in below) (content ++ rest) ≡ start_in below content
same_start below [] rest e = cc
same_start below (a ∷ []) rest e = cc
same_start true (a ∷ b ∷ []) rest e = refl
same_start false (a ∷ b ∷ []) rest e = refl
same_start below (a ∷ b ∷ c ∷ more) rest e = absurd (omega arith)

-- a content of two cells that is let through is let through with more cells behind it
pub passes_with : (march : List MarchElement) (fault : DecoderFault) (below : Bool) (content rest : List Bool) (word : ℕ) → IsMarch march → length content ≡ 2
    → LetsThrough march fault below content word → IsCaught march (directions_of word (length march)) (reach_of fault (addresses_in below)) (content ++ rest) → ⊥
passes_with march fault below content rest word is two through =
    passes_where fault (addresses_in below) march is (directions_of word (length march)) (content ++ rest)
    (fits_in below (length (content ++ rest)) (omega (arith, length-append content rest, two))) through.end
    (ap (λ b. few_run (machine_of fault) (sides_in b) (seen (addresses_in below) (content ++ rest)) march (directions_of word (length march))) (lower_in below)
    ∙ ap (λ q. few_run (machine_of fault) (sides_in below) q march (directions_of word (length march))) (same_start below content rest two)
    ∙ through_run (machine_of fault) (sides_in below) march (start_in below content) word through)

-- so it is detected at no size
pub detected_never : (march : List MarchElement) (fault : DecoderFault) (below : Bool) (content : List Bool) (word : ℕ) → IsMarch march → length content ≡ 2
    → LetsThrough march fault below content word → (size : ℕ) → 2 ≤ size → DetectsDecoderAt size march fault → ⊥
detected_never march fault below content word is two through size more detects =
    let rest : List Bool = replicate (size - 2) false in
    let fits = through_fits (machine_of fault) (sides_in below) march (start_in below content) word through in
    passes_with march fault below content rest word is two through
    (detects (directions_of word (length march)) (addresses_in below) (content ++ rest) fits.allowed (fits_in below size more)
    (omega (arith, length-append content rest, length-replicate (size - 2) false, two, more)))
