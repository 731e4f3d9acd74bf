-- Trusted. A module beside a memory, whatever its registers and the memory hold at first: that it has a run there, and how each ends.
use Rattle.std.specs.Prelude.{◌≡◌, ◌%◌, ◌^◌, ◌<◌, ℕ, suc, List, [], ◌∷◌, length, None, codes}
use Rattle.verilog_tree.specs.Plain.{ModuleTree}
use Rattle.verilog_tree.specs.Meaning.{Env, Settles, next}
use Rattle.verilog_tree.specs.Wires.{Starts}
use Rattle.march_core.specs.March.{MarchElement}
use Rattle.memory_desc.specs.Descriptions.{Description}
use Rattle.word_march.specs.Commands.{cycle_count}
use Rattle.self_test.specs.Ports.{port_values}
use Rattle.self_test.specs.SelfTest.{reset_at}
use Rattle.word_device.specs.Memories.{Behaviour, Memory, cycle_answer, memory_after, words_with}
use Rattle.word_device.specs.Ports.{shape_of}
use Rattle.word_device.specs.Joint.{command_on, EndsFailing, EndsPassing}
use Rattle.word_device.specs.Answers.{HasWords, Claim}
use Rattle.bench.specs.Joint.{word_in, ports_in}
use Rattle.bench.specs.Laws.{done_at}

-- Cycles of the module beside a memory from cycle t on, with these registers, and this word on `rdata`, in the first. The outputs of a cycle
-- command the memory, and the low bits of its answer stand on `rdata` in the next.
abbrev pub AreBeside : {S : Type 0} → Behaviour S → ModuleTree → Description → ℕ → Env → ℕ → Memory S → List Env → Type 0
AreBeside b mo d t registers rdata m [] = Unit {0}
AreBeside b mo d t registers rdata m (e ∷ es) =
    ((inputs : Env) × (inputs (codes "reset") ≡ reset_at t) × (inputs (codes "rdata") ≡ rdata) × Settles mo registers inputs e)
    × AreBeside b mo d (suc t) (next mo e) (cycle_answer b (shape_of d) m (command_on (port_values e)) % 2 ^ d.bits)
    (memory_after b (shape_of d) m (command_on (port_values e))) es

-- From any registers and word within their widths there are such cycles, up to the one in which a self-test is done; and all such cycles end so.
pub record EndsBeside {S : Type 0} (b : Behaviour S) (mo : ModuleTree) (march : List MarchElement) (d : Description) (m : Memory S)
    (Ends : List Env → Type 0) : Type 0 where
  pub runs : (registers : Env) (rdata : ℕ) → Starts mo registers (λ n. 0) → rdata < 2 ^ d.bits
      → (cycles : List Env) × (length cycles ≡ cycle_count march d) × AreBeside b mo d 0 registers rdata m cycles
  pub ends : (registers : Env) (rdata : ℕ) (cycles : List Env) → length cycles ≡ cycle_count march d
      → AreBeside b mo d 0 registers rdata m cycles → Ends cycles

-- with `fail`
abbrev pub FailsAt : List MarchElement → Description → List Env → Type 0
FailsAt march d cycles = EndsFailing (ports_in cycles (done_at march d))

-- without, and every read is right
abbrev pub PassesAt : List MarchElement → Description → List Env → Type 0
PassesAt march d cycles = EndsPassing march d (word_in cycles) (ports_in cycles (done_at march d))

-- beside each sound memory the module passes
abbrev pub PassesBeside : ModuleTree → List MarchElement → Description → Type 0
PassesBeside mo march d = (m : Memory (List ℕ)) → HasWords d m → EndsBeside (words_with None) mo march d m (PassesAt march d)

-- beside this memory it fails
abbrev pub FailsBeside : ModuleTree → List MarchElement → Description → Claim
FailsBeside mo march d S b m = EndsBeside b mo march d m (FailsAt march d)
