-- Trusted. What is said of memories with the linked faults, the faults of the address decoder and the dynamic primitives that a march detects.
use Rattle.std.specs.Prelude.{◌≡◌, ◌<◌, ◌⊎◌, ℕ, zero, suc, false, Option, Some, List, [], ◌∷◌, ◌++◌, is_some, if◌then◌else◌, slice_get}
use Rattle.fault_core.specs.Primitive.{is_retention}
use Rattle.march_core.specs.March.{MarchElement}
use Rattle.march_core.specs.Runs.{up}
use Rattle.march_core.specs.Visits.{Visit, MarchStep, visiting, visits}
use Rattle.memory_desc.specs.Descriptions.{Description}
use Rattle.word_march.specs.Commands.{word_op}
use Rattle.word_device.specs.Chips.{act_on}
use Rattle.word_device.specs.Answers.{Claim, AnswersWrong}
use Rattle.linked_faults.specs.declared.link.Link.{Link}
use Rattle.linked_faults.specs.Linking.{IsLinked}
use Rattle.linked_faults.specs.Detection.{Detects}
use Rattle.decoder_faults.specs.declared.fault.DecoderFault.{DecoderFault}
use Rattle.decoder_faults.specs.Detection.{DetectsDecoder}
use Rattle.dynamic_core.specs.Primitive.{TwoActs, DynamicPrimitive, IsDynamic, aggressor_acts}
use Rattle.dynamic_core.specs.Detecting.{DetectsDyn}
use Rattle.word_faults.specs.Linked.{EachLinked}
use Rattle.word_faults.specs.Decoders.{EachDecoder}
use Rattle.word_faults.specs.Dynamic.{EachDynamic}

-- of each linked fault that the march detects, but of two primitives that a pause sets off: what a row of idle cycles does to these hangs on their number
abbrev pub OfDetectedLinks : Claim → List MarchElement → Description → Type 0
OfDetectedLinks Says march d =
    (link : Link) → IsLinked link → (is_retention link.first ≡ false) ⊎ (is_retention link.second ≡ false) → Detects march link → EachLinked Says d link

-- of each fault of the decoder that it detects
abbrev pub OfDetectedDecoders : Claim → List MarchElement → Description → Type 0
OfDetectedDecoders Says march d = (fault : DecoderFault) → DetectsDecoder march fault → EachDecoder Says d fault

-- ---- where the background before can't begin a dynamic primitive

abbrev pub acts_of : DynamicPrimitive → Option TwoActs
acts_of p = if is_some p.vic.acts then p.vic.acts else aggressor_acts p.agg

-- the last operation of a run in one background and the first of the run in the other are on one word, and at some bit they are the two acts
pub record RunsOn (p : DynamicPrimitive) (steps : List MarchStep) (bits one other : ℕ) : Type 0 where
  pub last : Visit
  pub first : Visit
  pub before : List MarchStep
  pub behind : List MarchStep
  pub is_last : steps ≡ before ++ visiting last ∷ []
  pub is_first : steps ≡ visiting first ∷ behind
  pub same_word : last.address ≡ first.address
  pub acts : TwoActs
  pub are_acts : acts_of p ≡ Some acts
  pub bit : ℕ
  pub low : bit < bits
  pub ends : act_on (word_op bits one last) bit ≡ acts.first
  pub begins : act_on (word_op bits other first) bit ≡ acts.second

-- before the background at this place there is none, or its run doesn't run on into a run of the background 0
abbrev pub IsBegun : DynamicPrimitive → List MarchElement → Description → ℕ → Type 0
IsBegun p march d zero = Unit {0}
IsBegun p march d (suc k) =
    (background : ℕ) → slice_get d.backgrounds k ≡ Some background → RunsOn p (visits march (up march) d.words) d.bits background 0 → ⊥

-- some run of the background 0 begins so
abbrev pub BeginsAfresh : DynamicPrimitive → List MarchElement → Description → Type 0
BeginsAfresh p march d = (k : ℕ) × (slice_get d.backgrounds k ≡ Some 0) × IsBegun p march d k

-- of each dynamic primitive that the march detects, where a run begins afresh
abbrev pub OfDetectedDynamic : Claim → List MarchElement → Description → Type 0
OfDetectedDynamic Says march d = (p : DynamicPrimitive) → IsDynamic p → BeginsAfresh p march d → DetectsDyn march p → EachDynamic Says d p

-- ---- each such memory answers some read wrong

abbrev pub LinkedWrong : List MarchElement → Description → Type 0
LinkedWrong march d = OfDetectedLinks (AnswersWrong march d) march d

abbrev pub DecoderWrong : List MarchElement → Description → Type 0
DecoderWrong march d = OfDetectedDecoders (AnswersWrong march d) march d

abbrev pub DynamicWrong : List MarchElement → Description → Type 0
DynamicWrong march d = OfDetectedDynamic (AnswersWrong march d) march d
