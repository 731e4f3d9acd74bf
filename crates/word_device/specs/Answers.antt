-- Trusted. A memory of words beside ports, what it is answered to the commands of a march, and what can be said of memories with an instance of a fault.
use Rattle.std.specs.Prelude.{◌≡◌, ◌+◌, ◌^◌, ◌%◌, ℕ, zero, suc, Option, Some, List, [], ◌∷◌, length}
use Rattle.fault_core.specs.Primitive.{Primitive, IsPrimitive}
use Rattle.march_core.specs.March.{MarchElement}
use Rattle.array_sim.specs.Detection.{Detects}
use Rattle.memory_desc.specs.Descriptions.{Description}
use Rattle.word_march.specs.PortRule.{PortValues}
use Rattle.word_device.specs.declared.device.Planted.{Planted}
use Rattle.word_device.specs.declared.device.PortCmd.{PortCmd}
use Rattle.word_device.specs.declared.shape.Shape.{Shape}
use Rattle.word_device.specs.Chips.{FitsMemory, closed_words, closed_by}
use Rattle.word_device.specs.Memories.{Behaviour, Memory, own_answer, memory_after, words_with}
use Rattle.word_device.specs.Ports.{shape_of}
use Rattle.word_device.specs.Runs.{run_slots, AreSlots, answer_to, SomeWrong}
use Rattle.word_device.specs.Joint.{command_on}

-- a memory of this description: any words, as many answers under way as its latency asks for, any count of idle cycles
pub record HasWords (d : Description) (m : Memory (List ℕ)) : Type 0 where
  pub words : length m.state ≡ d.words
  pub under_way : length m.pending + 1 ≡ d.latency

-- words of this description, closed by what is planted there
pub record IsWhole (d : Description) (planted : Option Planted) (words : List ℕ) : Type 0 where
  pub size : length words ≡ d.words
  pub closed : closed_by planted words ≡ words

module _ {S : Type 0} (b : Behaviour S) (shape : Shape) where
  -- the memory before a cycle
  abbrev pub memory_at : Memory S → (ℕ → PortValues) → ℕ → Memory S
  memory_at m q zero = m
  memory_at m q (suc t) = memory_after b shape (memory_at m q t) (command_on (q t))

  -- commands one after another: what each is answered
  unfoldable pub own_answers : Memory S → List PortCmd → List ℕ
  own_answers m [] = []
  own_answers m (cmd ∷ cmds) = own_answer b shape m cmd ∷ own_answers (memory_after b shape m cmd) cmds

-- ---- what can be said of a memory

abbrev pub Claim : Type 1
Claim = (S : Type 0) → Behaviour S → Memory S → Type 0

-- it answers some read of the march wrong, behind an idle cycle and whatever the data of a read are
abbrev pub AnswersWrong : List MarchElement → Description → Claim
AnswersWrong march d S b m =
    (cmds : List PortCmd) → AreSlots (run_slots march d) cmds
    → SomeWrong march d (λ j. answer_to march d (own_answers b (shape_of d) m cmds) j % 2 ^ d.bits)

-- said of each memory with an instance of this primitive, at any place that fits
abbrev pub EachPlanted : Claim → Description → Primitive → Type 0
EachPlanted Says d p =
    (m : Memory (List ℕ)) (i : Planted) → HasWords d m → i.prim ≡ p → FitsMemory i d.words d.bits
    → Says (List ℕ) (words_with (Some i)) (record m { state = closed_words i m.state })

-- each with an instance of a primitive that the march detects answers some read wrong
abbrev pub PlantedWrong : List MarchElement → Description → Type 0
PlantedWrong march d = (p : Primitive) → IsPrimitive p → Detects march p → EachPlanted (AnswersWrong march d) d p
