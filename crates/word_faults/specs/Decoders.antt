-- Trusted. A memory of words whose address decoder has a fault.
use Rattle.std.specs.Prelude.{◌≡◌, ◌<◌, ℕ, if◌then◌else◌, List, slice_set}
use Rattle.memory_desc.specs.Descriptions.{Description}
use Rattle.word_device.specs.Chips.{has_bit}
use Rattle.word_device.specs.Memories.{Behaviour, Memory}
use Rattle.word_device.specs.Answers.{HasWords, Claim}
use Rattle.decoder_faults.specs.declared.fault.DecoderFault.{DecoderFault}
use Rattle.decoder_faults.specs.Decoding.{AddressPair, FitsPair, Decoder, Reach, no_cell, one_cell, two_cells, HasFault, read_through}
use Rattle.word_faults.specs.Cells.{column}

-- a write writes each word that it reaches
abbrev pub write_words : Reach → List ℕ → ℕ → List ℕ
write_words (no_cell answer) words word = words
write_words (one_cell c) words word = slice_set words c word
write_words (two_cells wired c e) words word = slice_set (slice_set words c word) e word

-- a memory with this decoder, which says which words the address of each word reaches; and what is read there of the words
abbrev pub decoded : Decoder → (ℕ → List ℕ → ℕ) → Behaviour (List ℕ)
decoded decoder read = record {
  after = λ words o. if o.write then write_words (decoder o.index) words o.word else words;
  reply = λ words o. if o.write then 0 else read o.index words;
  idled = λ words. words;
  paused = λ words. words;
}

-- At some bit, the same at each address, a read answers as cells do: with the cell that it reaches, with what two together answer, and with a constant
-- where it reaches none. This is of the words as they are stored, so behind the bits that the polarity inverts; the other bits are read in any way.
pub record ReadsSomeBit (bits : ℕ) (decoder : Decoder) (read : ℕ → List ℕ → ℕ) : Type 0 where
  pub bit : ℕ
  pub low : bit < bits
  pub as_cell : (k : ℕ) (words : List ℕ) → has_bit (read k words) bit ≡ read_through (decoder k) (column bit words)

-- said of each memory whose decoder has this fault at any two words, whatever the others reach
abbrev pub EachDecoder : Claim → Description → DecoderFault → Type 0
EachDecoder Says d fault =
    (m : Memory (List ℕ)) (at : AddressPair) (decoder : Decoder) (read : ℕ → List ℕ → ℕ) → HasWords d m → FitsPair at d.words
    → HasFault decoder fault at → ReadsSomeBit d.bits decoder read → Says (List ℕ) (decoded decoder read) m
