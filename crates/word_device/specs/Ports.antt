-- Trusted. A chip behind its port: its words by physical index, the planted instance, the answers that are under way and the count of
-- idle cycles; and what a command in a cycle does to them.
use Rattle.std.specs.Prelude.{ℕ, Option, Some, List, [], ◌∷◌}
use Rattle.memory_desc.specs.Descriptions.{Description}
use Rattle.word_device.specs.declared.device.Planted.{Planted}
use Rattle.word_device.specs.declared.device.PortCmd.{PortCmd}
use Rattle.word_device.specs.declared.shape.Shape.{Shape}
use Rattle.word_device.specs.Chips.{closed_words}
use Rattle.word_device.specs.Memories.{Memory, words_with, acted_at as acted_by, answer_at as answer_by, rested as rested_by, own_answer as own_answer_by, cycle_answer as cycle_answer_by, memory_after}
pub use Rattle.word_device.specs.Memories.{index_at, stored_op, shown, idle_more, queued}
unfoldable pub use Rattle.word_device.specs.Memories.{addressed}

-- the words are kept as they are stored: the bits of the polarity inverted
pub record Chip : Type 0 where
  pub words : List ℕ
  pub planted : Option Planted
  pub pending : List ℕ
  pub idle : ℕ

-- the shape of a memory
abbrev pub shape_of : Description → Shape
shape_of d =
    record { words = d.words; bits = d.bits; scramble = d.scramble; latency = d.latency; polarity = d.polarity; pause = d.pause }

-- ---- a chip is a memory of words with its instance

abbrev pub as_memory : Chip → Memory (List ℕ)
as_memory chip = record { state = chip.words; pending = chip.pending; idle = chip.idle }

abbrev pub acted_at : Shape → Option Planted → List ℕ → PortCmd → Option ℕ → List ℕ
acted_at shape planted words cmd at = acted_by (words_with planted) shape words cmd at

abbrev pub answer_at : Shape → Option Planted → List ℕ → PortCmd → Option ℕ → ℕ
answer_at shape planted words cmd at = answer_by (words_with planted) shape words cmd at

abbrev pub rested : Shape → Option Planted → List ℕ → ℕ → List ℕ
rested shape planted words idle = rested_by (words_with planted) shape words idle

-- what the command itself is answered, and what the cycle answers
abbrev pub own_answer : Shape → Chip → PortCmd → ℕ
own_answer shape chip cmd = own_answer_by (words_with chip.planted) shape (as_memory chip) cmd

abbrev pub cycle_answer : Shape → Chip → PortCmd → ℕ
cycle_answer shape chip cmd = cycle_answer_by (words_with chip.planted) shape (as_memory chip) cmd

abbrev pub chip_after : Shape → Chip → PortCmd → Chip
chip_after shape chip cmd =
    let m : Memory (List ℕ) = memory_after (words_with chip.planted) shape (as_memory chip) cmd in
    record { words = m.state; planted = chip.planted; pending = m.pending; idle = m.idle }

-- commands one after another: what each is answered
abbrev pub own_answers : Shape → Chip → List PortCmd → List ℕ
own_answers shape chip [] = []
own_answers shape chip (cmd ∷ cmds) = own_answer shape chip cmd ∷ own_answers shape (chip_after shape chip cmd) cmds

-- an instance is planted in place of an earlier one, and the words are closed
abbrev pub planted_chip : Planted → Chip → Chip
planted_chip i chip = record { words = closed_words i chip.words; planted = Some i; pending = chip.pending; idle = chip.idle }
