-- Trusted. A chip beside the memory of one of its units, whatever this and the registers hold at first, and whatever the other units read: how the
-- test of that unit ends.
use Rattle.std.specs.Prelude.{◌≡◌, ◌≢◌, ◌+◌, ◌<◌, ◌≤◌, ◌^◌, ◌%◌, ℕ, zero, suc, Bool, true, false, List, [], ◌∷◌, length, Some, None, slice_get, codes}
use Rattle.fault_core.specs.Primitive.{Primitive, IsPrimitive}
use Rattle.array_sim.specs.Detection.{Detects}
use Rattle.verilog_tree.specs.Meaning.{Env}
use Rattle.memory_desc.specs.Descriptions.{Description}
use Rattle.word_march.specs.PortRule.{PortValues}
use Rattle.word_device.specs.Memories.{Behaviour, Memory, cycle_answer, words_with}
use Rattle.word_device.specs.Ports.{shape_of}
use Rattle.word_device.specs.Joint.{command_on}
use Rattle.word_device.specs.Answers.{HasWords, memory_at, Claim, EachPlanted}
use Rattle.word_faults.specs.Laws.{OfDetectedLinks, OfDetectedDecoders, OfDetectedDynamic}
use Rattle.word_coupling.specs.Memories.{OfDetectedInWord}
use Rattle.bench.specs.Joint.{nothing}
use Rattle.chip_plan.specs.Groups.{start_of}
use Rattle.chip_rtl.specs.ChipTree.{ChipTree}
use Rattle.chip_rtl.specs.Together.{ChipStarts, ChipCycle, ChipHistory}
use Rattle.chip_rtl.specs.Tops.{rdata_of}
use Rattle.chip_rtl.specs.ChipTest.{TestUnit, OneReset, test_length, lengths, unit_values, words_of}

-- the outputs of unit i by cycle; nothing stands there behind the last
abbrev pub unit_ports : ℕ → List ChipCycle → ℕ → PortValues
unit_ports i [] t = nothing
unit_ports i (c ∷ cs) zero = unit_values i c
unit_ports i (c ∷ cs) (suc t) = unit_ports i cs t

-- a history of the chip with one reset, in which the word on `rdata` of unit i is what this memory answered in the cycle before
pub record IsBeside {S : Type 0} (b : Behaviour S) (c : ChipTree) (i : ℕ) (d : Description) (m : Memory S) (cycles : List ChipCycle) : Type 0 where
  pub registers : ℕ → Env
  pub inputs : List Env
  pub reset : OneReset inputs
  pub history : ChipHistory c registers inputs cycles
  pub answers : (t : ℕ) → suc t < length cycles → words_of inputs i (suc t)
      ≡ cycle_answer b (shape_of d) (memory_at b (shape_of d) m (unit_ports i cycles) t) (command_on (unit_ports i cycles t)) % 2 ^ d.bits

-- such a history from these registers, with this word on `rdata` of unit i in the first cycle, and with these other inputs
pub record RunsFrom {S : Type 0} (b : Behaviour S) (c : ChipTree) (i : ℕ) (d : Description) (m : Memory S) (registers : ℕ → Env) (rdata : ℕ) (others : ℕ → Env)
    (cycles : List ChipCycle) : Type 0 where
  pub run : IsBeside b c i d m cycles
  pub starts : run.registers ≡ registers
  pub first : 0 < length cycles → words_of run.inputs i 0 ≡ rdata
  pub given : (t : ℕ) (ins : Env) → slice_get run.inputs t ≡ Some ins
      → (name : List ℕ) → name ≢ codes "reset" → name ≢ rdata_of i → ins name ≡ others t name

-- From any registers, word and other inputs within their widths there are such histories, as long as one likes; and in each, from the cycle on in
-- which the test is over that starts in cycle s, bit i of `fail` is this.
pub record UnitEnds {S : Type 0} (failed : Bool) (b : Behaviour S) (c : ChipTree) (i : ℕ) (u : TestUnit) (s : ℕ) (m : Memory S) : Type 0 where
  pub runs : (registers : ℕ → Env) (rdata : ℕ) (others : ℕ → Env) (count : ℕ) → ((t : ℕ) → ChipStarts c registers (others t))
      → rdata < 2 ^ u.memory.bits
      → (cycles : List ChipCycle) × (length cycles ≡ count) × RunsFrom b c i u.memory m registers rdata others cycles
  pub ends : (cycles : List ChipCycle) → IsBeside b c i u.memory m cycles
      → (t : ℕ) → s + test_length u ≤ t → t < length cycles → (unit_ports i cycles t).fail ≡ failed

-- beside this memory it ends at 1
abbrev pub FailsUnit : ChipTree → ℕ → TestUnit → ℕ → Claim
FailsUnit c i u s S b m = UnitEnds true b c i u s m

-- the test of a unit, which starts in cycle s
pub record UnitTests (c : ChipTree) (i : ℕ) (u : TestUnit) (s : ℕ) : Type 0 where
  -- it passes beside each sound memory
  pub passes : (m : Memory (List ℕ)) → HasWords u.memory m → UnitEnds false (words_with None) c i u s m
  -- and fails beside each with an instance of a detected static primitive, in one cell or in two of different words
  pub fails : (p : Primitive) → IsPrimitive p → Detects u.march p → EachPlanted (FailsUnit c i u s) u.memory p
  -- of a detected dynamic primitive, in one cell or in two of different words, where the background before can't begin it
  pub fails_dynamic : OfDetectedDynamic (FailsUnit c i u s) u.march u.memory
  -- with a detected linked fault at bits of different words, of which a pause sets off one primitive at most
  pub fails_linked : OfDetectedLinks (FailsUnit c i u s) u.march u.memory
  -- whose address decoder has a detected fault, whatever else is wrong with it
  pub fails_decoder : OfDetectedDecoders (FailsUnit c i u s) u.march u.memory
  -- with an instance at two bits of one word, which the test detects there in a reading, found in that reading
  pub fails_in_word : OfDetectedInWord (FailsUnit c i u s) u.march u.memory

-- each unit's does, from the start of its group on
abbrev pub EachUnitTests : ChipTree → List TestUnit → List ℕ → Type 0
EachUnitTests c us groups =
    (i : ℕ) (u : TestUnit) (g : ℕ) → slice_get us i ≡ Some u → slice_get groups i ≡ Some g → UnitTests c i u (start_of groups (lengths us) g)
