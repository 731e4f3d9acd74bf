-- Trusted. The memory of a number.
use Rattle.std.specs.Prelude.{◌≡◌, ℕ, ◌+◌, codes}
use Rattle.bist_bits.specs.Width.{IsWidthOf}
use Rattle.scrambler.specs.Scrambling.{identity}
use Rattle.backgrounds.specs.Backgrounds.{IsLogSet}
use Rattle.memory_desc.specs.Descriptions.{Description}

-- It has two words more than the number says, of 64 bits each. A read's answer comes in the next cycle, no bit is stored inverted,
-- a pause has one cycle, the addresses are those of the words and as wide as the last one needs, and the backgrounds are the
-- logarithmic set.
pub record IsMadeMemory (number : ℕ) (d : Description) : Type 0 where
  pub name : d.name ≡ codes "made"
  pub words : d.words ≡ number + 2
  pub bits : d.bits ≡ 64
  pub latency : d.latency ≡ 1
  pub polarity : d.polarity ≡ 0
  pub pause : d.pause ≡ 1
  pub width : IsWidthOf (number + 1) d.scramble.width
  pub unscrambled : d.scramble ≡ identity d.scramble.width
  pub backgrounds : IsLogSet 64 d.backgrounds
