-- Trusted. What a run of a self-test ends with, beside a sound memory, one with a detected fault, and any box.
use Rattle.std.specs.Prelude.{◌≡◌, ◌≢◌, ◌+◌, ◌-◌, ◌*◌, ◌%◌, ◌<◌, ◌^◌, ℕ, Bool, true, false, List, length, Option, Some, None, is_some, slice_get}
use Rattle.verilog_tree.specs.Plain.{ModuleTree}
use Rattle.march_core.specs.March.{MarchElement}
use Rattle.memory_desc.specs.Descriptions.{Description}
use Rattle.word_march.specs.Commands.{port_ops, span}
use Rattle.word_march.specs.PortRule.{cycle_of}
use Rattle.self_test.specs.SelfTest.{SelfTest}
use Rattle.word_device.specs.declared.device.Planted.{Planted}
use Rattle.word_device.specs.Ports.{Chip}
use Rattle.word_device.specs.Boxes.{Script, Tells, TellsChip, TellsScript, TellsNothing}
use Rattle.word_device.specs.Runs.{HasDetected, IsPlain, IsFirstWrong, AllRight, run_word}
use Rattle.word_march.specs.declared.operations.PortOp.{PortOp}
use Rattle.bench.specs.declared.ending.Seen.{Seen}
use Rattle.bench.specs.Endings.{IsFirstRead, Runs}

-- the cycle in which a self-test is done
abbrev pub done_at : List MarchElement → Description → ℕ
done_at march d = span march d + 1 + d.latency

-- beside a chip with a planted instance of a detected primitive, from any registers, words, answers under way and count of idle
-- cycles, it ends with `fail`
pub record EndsFailed (march : List MarchElement) (d : Description) (failed : Bool) (done_in : Option ℕ) : Type 0 where
  pub fail : failed ≡ true
  pub done : done_in ≡ Some (done_at march d)

abbrev pub PlantedFails : List MarchElement → Description → Type 0
PlantedFails march d =
    (mo : ModuleTree) (registers now : List ℕ) (chip : Chip) (i : Planted) (after : Tells) (failed : Bool)
    (done_in : Option ℕ) (seen : Option Seen)
    → SelfTest mo march d → length chip.pending + 1 ≡ d.latency → HasDetected march d i chip
    → Runs mo march d registers now (TellsChip chip) after failed done_in seen → EndsFailed march d failed done_in

-- with nothing planted it ends without, and no read differs
pub record EndsPassed (march : List MarchElement) (d : Description) (failed : Bool) (done_in : Option ℕ) (seen : Option Seen) : Type 0 where
  pub passes : failed ≡ false
  pub done : done_in ≡ Some (done_at march d)
  pub none : seen ≡ None

abbrev pub PlainPasses : List MarchElement → Description → Type 0
PlainPasses march d =
    (mo : ModuleTree) (registers now : List ℕ) (chip : Chip) (after : Tells) (failed : Bool) (done_in : Option ℕ) (seen : Option Seen)
    → SelfTest mo march d → length chip.pending + 1 ≡ d.latency → IsPlain d chip
    → Runs mo march d registers now (TellsChip chip) after failed done_in seen → EndsPassed march d failed done_in seen

-- what is seen is a read of the march, by the cycle of its answer and its expected word, and another word; both are of the memory's bits
abbrev pub IsWrongRead : List MarchElement → Description → Option Seen → Type 0
IsWrongRead march d None = Unit {0}
IsWrongRead march d (Some seen) =
    (j : ℕ) × (command : PortOp) × (slice_get (port_ops march d) j ≡ Some command) × (command.write ≡ false)
    × (seen.cycle ≡ cycle_of march d j + d.latency) × (seen.expected ≡ command.word) × (seen.expected < 2 ^ d.bits)
    × (seen.returned < 2 ^ d.bits) × (seen.returned ≢ seen.expected)

-- beside any box it ends with `fail` exactly where a read is seen that is answered wrong
pub record EndsAsSeen (march : List MarchElement) (d : Description) (failed : Bool) (done_in : Option ℕ) (seen : Option Seen) : Type 0 where
  pub fail : failed ≡ is_some seen
  pub done : done_in ≡ Some (done_at march d)
  pub read : IsWrongRead march d seen

abbrev pub AnyBox : List MarchElement → Description → Type 0
AnyBox march d =
    (mo : ModuleTree) (registers now : List ℕ) (before after : Tells) (failed : Bool) (done_in : Option ℕ) (seen : Option Seen)
    → SelfTest mo march d → Runs mo march d registers now before after failed done_in seen → EndsAsSeen march d failed done_in seen

-- beside a box that tells its chip, the read that is seen is the first that the chip alone answers wrong
abbrev pub SeenAlone : List MarchElement → Description → Type 0
SeenAlone march d =
    (mo : ModuleTree) (registers now : List ℕ) (chip : Chip) (after : Tells) (failed : Bool) (done_in : Option ℕ) (seen : Option Seen)
    → SelfTest mo march d → length chip.pending + 1 ≡ d.latency → Runs mo march d registers now (TellsChip chip) after failed done_in seen
    → IsFirstRead march d (run_word march d chip) seen

-- the word on `rdata` that answers command j, of a script from its beginning: its first answer stands there in cycle 1
abbrev pub script_word : List MarchElement → Description → Script → ℕ → ℕ
script_word march d script j = (script.base + script.step * (cycle_of march d j + d.latency - 1)) % 2 ^ 64 % 2 ^ d.bits

-- beside a box that tells its script, from the script's beginning, the read that is seen is the first that the script answers wrong
abbrev pub SeenScript : List MarchElement → Description → Type 0
SeenScript march d =
    (mo : ModuleTree) (registers now : List ℕ) (script : Script) (after : Tells) (failed : Bool) (done_in : Option ℕ) (seen : Option Seen)
    → SelfTest mo march d → script.count ≡ 0 → Runs mo march d registers now (TellsScript script) after failed done_in seen
    → IsFirstRead march d (script_word march d script) seen

-- what is seen beside a box that tells: of a chip by what it alone answers, of a script from its beginning by its answers
abbrev pub IsSeenOf : List MarchElement → Description → Tells → Option Seen → Type 0
IsSeenOf march d (TellsChip chip) seen = IsFirstRead march d (run_word march d chip) seen
IsSeenOf march d (TellsScript script) seen = script.count ≡ 0 → IsFirstRead march d (script_word march d script) seen
IsSeenOf march d TellsNothing seen = Unit {0}

-- how a run of a self-test ends beside a box that tells this
pub record EndsSelfTest (march : List MarchElement) (d : Description) (tells : Tells) (failed : Bool)
    (done_in : Option ℕ) (seen : Option Seen) : Type 0 where
  pub ends : EndsAsSeen march d failed done_in seen
  pub is_seen : IsSeenOf march d tells seen
