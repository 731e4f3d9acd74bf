-- Trusted. What a self-test shows where nothing is known of its registers at first, nor of `rdata` but where the answer of a read stands
-- there: numbers. So what a simulator has as x comes through to no output.
use Rattle.std.specs.Prelude.{◌≡◌, ◌≢◌, ℕ, ◌+◌, ◌^◌, ◌<◌, ◌≤◌, false, cond, List, Option, Some, None, slice_get, codes}
use Rattle.std.specs.Str.{bytes_eq}
use Rattle.verilog_tree.specs.Plain.{ModuleTree}
use Rattle.verilog_tree.specs.Meaning.{bit}
use Rattle.march_core.specs.March.{MarchElement}
use Rattle.memory_desc.specs.Descriptions.{Description}
use Rattle.word_march.specs.declared.operations.PortOp.{PortOp}
use Rattle.word_march.specs.Commands.{port_ops}
use Rattle.word_march.specs.PortRule.{PortValues, PortRule, cycle_of}
use Rattle.verilog_open.specs.Open.{OpenEnv, OneOpenSettles, IsOpenRunOf}
use Rattle.self_test.specs.SelfTest.{reset_at}

-- Words on `rdata` by cycle, each a word of the memory or nothing: where the answer of a read stands there, it isn't nothing.
pub record AnswerReads (march : List MarchElement) (d : Description) (words : ℕ → Option ℕ) : Type 0 where
  pub reads : (j : ℕ) (command : PortOp) → slice_get (port_ops march d) j ≡ Some command → command.write ≡ false
      → words (cycle_of march d j + d.latency) ≢ None
  pub within : (t word : ℕ) → words t ≡ Some word → word < 2 ^ d.bits

-- the inputs of cycle t: one reset, in the first cycle of all, and these words
abbrev pub inputs_at : (ℕ → Option ℕ) → ℕ → OpenEnv
inputs_at words t n = cond (bytes_eq n (codes "reset")) (Some (reset_at t)) (cond (bytes_eq n (codes "rdata")) (words t) None)

-- the outputs have these numbers
pub record HasNumbers (o : OpenEnv) (q : PortValues) : Type 0 where
  pub en : o (codes "en") ≡ Some (bit q.en)
  pub we : o (codes "we") ≡ Some (bit q.we)
  pub addr : o (codes "addr") ≡ Some q.addr
  pub wdata : o (codes "wdata") ≡ Some q.wdata
  pub done : o (codes "done") ≡ Some (bit q.done)
  pub fail : o (codes "fail") ≡ Some (bit q.fail)

-- In the cycle of the reset `en`, `done` and `fail` have the number 0. In each later one all outputs have numbers, and these meet the rule of
-- the ports, whatever words return where these are nothing.
pub record CycleHasNumbers (march : List MarchElement) (d : Description) (words : ℕ → Option ℕ) (t : ℕ) (o : OpenEnv) : Type 0 where
  pub reset : t ≡ 0 → (o (codes "en") ≡ Some 0) × (o (codes "done") ≡ Some 0) × (o (codes "fail") ≡ Some 0)
  pub later : 1 ≤ t → (q : PortValues) × HasNumbers o q
      × ((returned : ℕ → ℕ) → ((k word : ℕ) → words k ≡ Some word → returned k ≡ word) → PortRule march d returned t q)

pub record ShowsNumbers (mo : ModuleTree) (march : List MarchElement) (d : Description) : Type 0 where
  -- whatever is known, exactly one open environment settles, so there is one open run
  pub settles : (regs ins : OpenEnv) → OneOpenSettles mo regs ins
  -- with nothing in the registers at first, and with words that answer the reads, the run shows numbers in each of its cycles
  pub numbers : (words : ℕ → Option ℕ) → AnswerReads march d words → (run : ℕ → OpenEnv) → IsOpenRunOf mo (inputs_at words) run
      → (t : ℕ) → CycleHasNumbers march d words t (run t)
