-- Public. That the two readings only differ for a primitive whose act is a write, and what a write finds behind it.
use Rattle.std.specs.Prelude.{◌≡◌, ◌≢◌, ◌<◌, ◌↔◌, ℕ, Bool, true, false, if◌then◌else◌, Option, Some, None, is_some, unwrap_or, List, length}
use Rattle.fault_core.specs.declared.primitive.Act.{Act}
use Rattle.fault_core.specs.declared.primitive.Act.TheVariants.{Write, Read, Pause}
use Rattle.fault_core.specs.Primitive.{Primitive}
use Rattle.cell_machine.specs.Pairs.{agg_act_of}
use Rattle.march_core.specs.March.{MarchElement}
use Rattle.memory_desc.specs.Descriptions.{Description}
use Rattle.word_march.specs.declared.operations.WordOp.{WordOp}
use Rattle.word_device.specs.declared.device.BitPlace.{BitPlace}
use Rattle.word_device.specs.declared.device.Planted.{Planted}
use Rattle.word_device.specs.Chips.{with_bit_in}
use Rattle.word_coupling.specs.declared.reading.Reading.TheVariants.{Before, Behind}
use Rattle.word_coupling.specs.Words.{in_word, words_by, DetectsBy}

abbrev pub is_write_act : Option Act → Bool
is_write_act (Some (Write bit)) = true
is_write_act (Some Read) = false
is_write_act (Some Pause) = false
is_write_act None = false

-- neither of its acts is a write
pub record HasNoWrite (p : Primitive) : Type 0 where
  pub vic : is_write_act p.vic.act ≡ false
  pub agg : is_write_act (agg_act_of p.agg) ≡ false

abbrev pub AreAlike : List MarchElement → Description → Type 0
AreAlike march d = (p : Primitive) → HasNoWrite p → DetectsBy Before march d p ↔ DetectsBy Behind march d p

-- where the act of an instance doesn't fall
abbrev pub other_place : Planted → BitPlace
other_place i = if is_some i.prim.vic.act then unwrap_or i.agg i.vic else i.vic

-- behind a write of its word an instance is as if the bit beside its act had held another bit before
abbrev pub Forgets : Type 0
Forgets =
    (p : Primitive) (word agg vic : ℕ) (words : List ℕ) (o : WordOp) (bit : Bool) → agg ≢ vic → word < length words
    → o.write ≡ true → o.index ≡ word
    → words_by Behind (in_word p word agg vic) (with_bit_in words (other_place (in_word p word agg vic)) bit) o
    ≡ words_by Behind (in_word p word agg vic) words o
