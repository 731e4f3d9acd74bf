-- Trusted. What a self-test does at its ports, cycle by cycle, whatever words return.
use Rattle.std.specs.Prelude.{◌≡◌, ◌≢◌, ◌↔◌, ℕ, ◌+◌, ◌<◌, ◌≤◌, Bool, true, false, List, Some, IsTrue, slice_get}
use Rattle.march_core.specs.March.{MarchElement}
use Rattle.memory_desc.specs.Descriptions.{Description}
use Rattle.word_march.specs.declared.operations.PortOp.{PortOp}
use Rattle.word_march.specs.Commands.{port_ops, command_count, command_at, span}

-- the values of the module's outputs in a cycle
pub record PortValues : Type 0 where
  pub en : Bool
  pub we : Bool
  pub addr : ℕ
  pub wdata : ℕ
  pub done : Bool
  pub fail : Bool

-- the cycle of command j
abbrev pub cycle_of : List MarchElement → Description → ℕ → ℕ
cycle_of march d j = 1 + command_at march d j

-- the ports carry a command
pub record Carries (command : PortOp) (q : PortValues) : Type 0 where
  pub enabled : q.en ≡ true
  pub write : q.we ≡ command.write
  pub address : q.addr ≡ command.addr
  pub word : command.write ≡ true → q.wdata ≡ command.word

-- before cycle t a word stood on `rdata` as the answer of a read that isn't the word that this read expects
pub record SomeReadDiffers (march : List MarchElement) (d : Description) (returned : ℕ → ℕ) (t : ℕ) : Type 0 where
  pub number : ℕ
  pub command : PortOp
  pub is_command : slice_get (port_ops march d) number ≡ Some command
  pub is_read : command.write ≡ false
  pub before : cycle_of march d number + d.latency < t
  pub differs : returned (cycle_of march d number + d.latency) ≢ command.word

-- the rule of the ports q in cycle t, where `returned` are the words on `rdata`, by cycle
pub record PortRule (march : List MarchElement) (d : Description) (returned : ℕ → ℕ) (t : ℕ) (q : PortValues) : Type 0 where
  -- in the cycle of the reset nothing is done
  pub reset : t ≡ 0 → (q.en ≡ false) × (q.done ≡ false) × (q.fail ≡ false)
  -- each command stands in its cycle, and in every other cycle the memory isn't enabled
  pub commands : (j : ℕ) (command : PortOp) → slice_get (port_ops march d) j ≡ Some command → t ≡ cycle_of march d j → Carries command q
  pub idle : ((j : ℕ) → j < command_count march d → t ≢ cycle_of march d j) → q.en ≡ false
  -- the last answer is compared before the test is done
  pub done : IsTrue q.done ↔ (span march d + 1 + d.latency ≤ t)
  pub fail : 1 ≤ t → IsTrue q.fail ↔ SomeReadDiffers march d returned t
