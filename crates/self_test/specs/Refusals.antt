-- Trusted. Why a module isn't run as the self-test of a march on a memory.
use Rattle.std.specs.Prelude.{◌≡◌, ◌<◌, ◌≤◌, ℕ, List, Option, Some, None}
use Rattle.verilog_tree.specs.Plain.{ModulePort}
use Rattle.march_core.specs.March.{MarchElement}
use Rattle.memory_desc.specs.Descriptions.{Description}
use Rattle.word_march.specs.Commands.{cycle_count}
use Rattle.self_test.specs.WrongPort.{wrong_port}
use Rattle.self_test.specs.declared.running.RunFault.{RunFault}
use Rattle.self_test.specs.declared.running.RunFault.TheVariants as R

-- the most cycles that a self-test which is run takes
abbrev pub cycle_limit : ℕ
cycle_limit = 2000000

abbrev pub IsShort : List MarchElement → Description → Type 0
IsShort march d = cycle_count march d ≤ cycle_limit

-- it takes so many cycles, which are too many
abbrev pub IsTooLong : List MarchElement → Description → ℕ → Type 0
IsTooLong march d cycles = (cycles ≡ cycle_count march d) × (cycle_limit < cycle_count march d)

-- the first of the two checks that doesn't pass: a short test, and the ports of a self-test in any order
abbrev pub Refuses : List MarchElement → Description → List ModulePort → Option RunFault → Type 0
Refuses march d ports None = IsShort march d × (wrong_port d ports ≡ None)
Refuses march d ports (Some (R.TooLong cycles)) = IsTooLong march d cycles
Refuses march d ports (Some (R.WrongPorts name)) = IsShort march d × (wrong_port d ports ≡ Some name.bytes)
