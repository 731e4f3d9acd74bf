-- Trusted. A chip and the cycles of a march, one after another.
use Rattle.std.specs.Prelude.{◌≡◌, ◌≢◌, ◌<◌, ◌^◌, ◌%◌, ℕ, true, false, if◌then◌else◌, Option, Some, None, List, [], ◌∷◌, length, map, slice_get, slice_index}
use Rattle.fault_core.specs.Primitive.{IsPrimitive}
use Rattle.march_core.specs.March.{MarchElement}
use Rattle.array_sim.specs.Detection.{DetectsAt}
use Rattle.memory_desc.specs.Descriptions.{Description}
use Rattle.word_march.specs.declared.operations.PortOp.{PortOp}
use Rattle.word_march.specs.Commands.{port_ops, slots}
use Rattle.word_march.specs.PortRule.{cycle_of}
use Rattle.word_device.specs.declared.device.Planted.{Planted}
use Rattle.word_device.specs.declared.device.PortCmd.{PortCmd}
use Rattle.word_device.specs.Chips.{closed_words, FitsMemory}
use Rattle.word_device.specs.Ports.{Chip, shape_of, own_answers, planted_chip}

-- ---- the cycles of a run, as commands

-- the run: one idle cycle, and then the cycles of the march
abbrev pub run_slots : List MarchElement → Description → List (Option PortOp)
run_slots march d = None ∷ slots march d

-- a command of a march stands at the port; of a read the data play no part
pub record IsCommand (o : PortOp) (cmd : PortCmd) : Type 0 where
  pub enabled : cmd.en ≡ true
  pub write : cmd.we ≡ o.write
  pub address : cmd.addr ≡ o.addr
  pub word : o.write ≡ true → cmd.wdata ≡ o.word

-- what stands at the port in a cycle; in an idle one nothing is enabled
abbrev pub IsSlot : Option PortOp → PortCmd → Type 0
IsSlot None cmd = cmd.en ≡ false
IsSlot (Some o) cmd = IsCommand o cmd

abbrev pub AreSlots : List (Option PortOp) → List PortCmd → Type 0
AreSlots [] [] = Unit {0}
AreSlots [] (cmd ∷ cmds) = ⊥
AreSlots (s ∷ ss) [] = ⊥
AreSlots (s ∷ ss) (cmd ∷ cmds) = IsSlot s cmd × AreSlots ss cmds

-- one of these commands: of a read, with the data 0
abbrev pub command_in : Option PortOp → PortCmd
command_in None = record { en = false; we = false; addr = 0; wdata = 0 }
command_in (Some o) = record { en = true; we = o.write; addr = o.addr; wdata = if o.write then o.word else 0 }

-- ---- the answers to the commands

-- the answer to command j among the answers of the cycles
abbrev pub answer_to : List MarchElement → Description → List ℕ → ℕ → ℕ
answer_to march d answers j = slice_index answers (cycle_of march d j)

-- what a chip alone answers to the run, cycle by cycle, and to command j in the bits of a word
abbrev pub run_answers : List MarchElement → Description → Chip → List ℕ
run_answers march d chip = own_answers (shape_of d) chip (map command_in (run_slots march d))

abbrev pub run_word : List MarchElement → Description → Chip → ℕ → ℕ
run_word march d chip j = answer_to march d (run_answers march d chip) j % 2 ^ d.bits

-- ---- right and wrong words, by command

-- the word of command j is the one that it expects, where it is a read
abbrev pub IsRight : List MarchElement → Description → (ℕ → ℕ) → ℕ → Type 0
IsRight march d words j = (command : PortOp) → slice_get (port_ops march d) j ≡ Some command → command.write ≡ false
    → words j ≡ command.word

-- command j is a read, and its word isn't the one that it expects
pub record IsWrong (march : List MarchElement) (d : Description) (words : ℕ → ℕ) (j : ℕ) : Type 0 where
  pub command : PortOp
  pub is_command : slice_get (port_ops march d) j ≡ Some command
  pub is_read : command.write ≡ false
  pub differs : words j ≢ command.word

-- every read's word is right
abbrev pub AllRight : List MarchElement → Description → (ℕ → ℕ) → Type 0
AllRight march d words = (j : ℕ) → IsRight march d words j

-- some read's word is wrong
abbrev pub SomeWrong : List MarchElement → Description → (ℕ → ℕ) → Type 0
SomeWrong march d words = (j : ℕ) × IsWrong march d words j

-- read j is the first whose word is wrong
pub record IsFirstWrong (march : List MarchElement) (d : Description) (words : ℕ → ℕ) (j : ℕ) : Type 0 where
  pub wrong : IsWrong march d words j
  pub right_before : (k : ℕ) → k < j → IsRight march d words k

-- ---- a march on a chip

-- the chip has the memory's words, and the instance is planted in it, closed; the march detects its primitive
pub record HasDetected (march : List MarchElement) (d : Description) (i : Planted) (chip : Chip) : Type 0 where
  pub words : length chip.words ≡ d.words
  pub planted : chip.planted ≡ Some i
  pub primitive : IsPrimitive i.prim
  pub places : FitsMemory i d.words d.bits
  pub closed : closed_words i chip.words ≡ chip.words
  pub detected : DetectsAt d.words march i.prim

-- the chip has the memory's words, and nothing is planted in it
pub record IsPlain (d : Description) (chip : Chip) : Type 0 where
  pub words : length chip.words ≡ d.words
  pub planted : chip.planted ≡ None

-- a planted instance of a detected primitive answers some read wrong, whatever the words, the answers under way and the count
-- of idle cycles are at the start
abbrev pub FailsPlanted : List MarchElement → Description → Type 0
FailsPlanted march d =
    (chip : Chip) (i : Planted) (cmds : List PortCmd) → HasDetected march d i chip → AreSlots (run_slots march d) cmds
    → SomeWrong march d (λ j. answer_to march d (own_answers (shape_of d) chip cmds) j % 2 ^ d.bits)

-- and so does the chip alone
abbrev pub FailsAlone : List MarchElement → Description → Type 0
FailsAlone march d = (chip : Chip) (i : Planted) → HasDetected march d i chip → SomeWrong march d (run_word march d chip)

-- so does one that was just planted
abbrev pub FailsFresh : List MarchElement → Description → Type 0
FailsFresh march d =
    (chip : Chip) (i : Planted) (cmds : List PortCmd)
    → length chip.words ≡ d.words → IsPrimitive i.prim → FitsMemory i d.words d.bits → DetectsAt d.words march i.prim
    → AreSlots (run_slots march d) cmds
    → SomeWrong march d (λ j. answer_to march d (own_answers (shape_of d) (planted_chip i chip) cmds) j % 2 ^ d.bits)

-- with nothing planted every read is answered right
abbrev pub PassesPlain : List MarchElement → Description → Type 0
PassesPlain march d =
    (chip : Chip) (cmds : List PortCmd) → IsPlain d chip → AreSlots (run_slots march d) cmds
    → AllRight march d (answer_to march d (own_answers (shape_of d) chip cmds))

-- and so does the chip alone
abbrev pub PassesAlone : List MarchElement → Description → Type 0
PassesAlone march d = (chip : Chip) → IsPlain d chip → AllRight march d (run_word march d chip)

-- closed words stay as they are, and are as many
pub record IsClosing (i : Planted) (words : List ℕ) : Type 0 where
  pub closed : closed_words i (closed_words i words) ≡ closed_words i words
  pub as_many : length (closed_words i words) ≡ length words

abbrev pub Closes : Type 0
Closes = (i : Planted) (words : List ℕ) → IsPrimitive i.prim → i.vic.word < length words → IsClosing i words
