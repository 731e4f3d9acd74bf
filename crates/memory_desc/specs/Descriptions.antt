-- Trusted. A memory, as contracts see it.
use Rattle.std.specs.Prelude.{◌≡◌, ℕ, ◌-◌, ◌^◌, ◌<◌, ◌≤◌, false, List, length, All, Contains}
use Rattle.std.specs.Int.{is_power_of_two}
use Rattle.bist_bits.specs.Width.{IsWidthOf}
use Rattle.scrambler.specs.Scrambling.{Scrambling, IsFull, IsInvertible, identity}
use Rattle.memory_desc.specs.Names.{IsName}

pub record Description : Type 0 where
  pub name : List ℕ
  pub words : ℕ
  pub bits : ℕ
  pub latency : ℕ
  pub polarity : ℕ
  pub pause : ℕ
  pub scramble : Scrambling
  pub backgrounds : List ℕ

-- a memory of these parts
abbrev pub assembled : List ℕ → ℕ → ℕ → ℕ → ℕ → ℕ → Scrambling → List ℕ → Description
assembled name words bits latency polarity pause scramble backgrounds = record {
  name = name;
  words = words;
  bits = bits;
  latency = latency;
  polarity = polarity;
  pause = pause;
  scramble = scramble;
  backgrounds = backgrounds;
}

-- 1 to 8 backgrounds for words of this many bits, and the word 0 is among them
pub record IsBackgrounds (bits : ℕ) (set : List ℕ) : Type 0 where
  pub some : 1 ≤ length set
  pub few : length set ≤ 8
  pub fit : All (λ b. b < 2 ^ bits) set
  pub solid : Contains set 0

-- a memory within the limits: an answer comes 1 to 4 cycles after its read, the polarity is a word, a pause has 1 to 65,535
-- cycles, the addresses are as wide as the last index needs, the scrambling is invertible and, where the number of words is no
-- power of two, changes nothing, and among the 1 to 8 backgrounds is the word 0
pub record IsMemory (d : Description) : Type 0 where
  pub name : IsName d.name
  pub words_low : 2 ≤ d.words
  pub words_high : d.words ≤ 65536
  pub bits_low : 1 ≤ d.bits
  pub bits_high : d.bits ≤ 64
  pub latency_low : 1 ≤ d.latency
  pub latency_high : d.latency ≤ 4
  pub polarity : d.polarity < 2 ^ d.bits
  pub pause_low : 1 ≤ d.pause
  pub pause_high : d.pause ≤ 65535
  pub address : IsWidthOf (d.words - 1) d.scramble.width
  pub full : IsFull d.scramble
  pub invertible : IsInvertible d.scramble
  pub unscrambled : is_power_of_two d.words ≡ false → d.scramble ≡ identity d.scramble.width
  pub tested : IsBackgrounds d.bits d.backgrounds
