-- Inner. One cycle of a design and a box, and the run so far.
use Rattle.std.specs.Prelude.{◌≡◌, ◌+◌, ◌<◌, ◌≤◌, ◌==◌, ◌%◌, ◌^◌, ℕ, suc, Bool, true, false, if◌then◌else◌, List, [], ◌∷◌, length, map, Option, Some, None, slice_get, slice_index, codes}
use Rattle.verilog_tree.specs.Plain.{ModuleTree}
use Rattle.verilog_tree.specs.Meaning.{Env, next}
use Rattle.verilog_cycle.specs.Nets.{valued}
use Rattle.verilog_cycle.specs.Design.{names, registers_of}
use Rattle.march_core.specs.March.{MarchElement}
use Rattle.memory_desc.specs.Descriptions.{Description}
use Rattle.word_march.specs.declared.operations.PortOp.{PortOp}
use Rattle.word_march.specs.Commands.{port_ops}
use Rattle.word_march.specs.PortRule.{cycle_of}
use Rattle.self_test.specs.Ports.{port_values}
use Rattle.controller.specs.States.{State, StandsIn}
use Rattle.word_device.specs.Boxes.{Tells}
use Rattle.word_device.specs.Joint.{returned_word}
use Rattle.word_device.specs.Runs.{IsRight, IsFirstWrong}
use Rattle.bench.specs.declared.ending.Seen.{Seen}
use Rattle.self_test.specs.declared.pins.Pins.{Pins}
use Rattle.bench.specs.declared.cycle.Outputs.{Outputs}
use Rattle.bench.specs.declared.cycle.CycleEnd.{CycleEnd}
use Rattle.bench.specs.declared.run.Watch.{Watch}
use Rattle.bench.specs.Joint.{Between, Turn, Joint, at_first, word_in, ports_in, first_done}

-- the values of the inputs besides the clock, in their order
abbrev pub input_values : Bool → Bool → ℕ → List ℕ
input_values reset_first reset rdata =
    if reset_first then (if reset then 1 else 0) ∷ rdata ∷ [] else rdata ∷ (if reset then 1 else 0) ∷ []

-- the places are among so many values
pub record AreWithin (pins : Pins) (count : ℕ) : Type 0 where
  pub en : pins.en < count
  pub we : pins.we < count
  pub addr : pins.addr < count
  pub wdata : pins.wdata < count
  pub done : pins.done < count
  pub fail : pins.fail < count

-- the outputs at these places
abbrev pub outputs_at : List ℕ → Pins → Outputs
outputs_at values pins = record {
  cmd = record { en = slice_index values pins.en == 1; we = slice_index values pins.we == 1; addr = slice_index values pins.addr % 2 ^ 32; wdata = slice_index values pins.wdata };
  done = slice_index values pins.done == 1;
  fail = slice_index values pins.fail == 1;
}

-- cycle t of the module and the box, with registers by their list
pub record Turned (mo : ModuleTree) (d : Description) (t : ℕ) (before after : List ℕ) (rdata returned : ℕ)
    (box left : Tells) (ended failed : Bool) : Type 0 where
  pub env : Env
  pub turn : Turn mo d t env (record { registers = valued (names (registers_of mo)) before; rdata = rdata; box = box })
      (record { registers = next mo env; rdata = returned; box = left })
  pub registers : after ≡ map (λ x. next mo env x.name) (registers_of mo)
  pub word : env (codes "rdata") ≡ rdata
  pub done : ended ≡ (port_values env).done
  pub fail : failed ≡ (port_values env).fail

-- the first read whose answer came before cycle k and isn't its expected word
abbrev pub IsFirstSeenBefore : List MarchElement → Description → ℕ → (ℕ → ℕ) → Option Seen → Type 0
IsFirstSeenBefore march d k returned None =
    (j : ℕ) → cycle_of march d j + d.latency < k → IsRight march d (returned_word march d returned) j
IsFirstSeenBefore march d k returned (Some seen) =
    (j : ℕ) × (command : PortOp) × (cycle_of march d j + d.latency < k) × IsFirstWrong march d (returned_word march d returned) j
    × (slice_get (port_ops march d) j ≡ Some command)
    × (seen ≡ record { cycle = cycle_of march d j + d.latency; expected = command.word; returned = returned_word march d returned j })

-- what is seen first, with the read that is answered in this cycle
abbrev pub seen_by : Option Seen → ℕ → Option ℕ → ℕ → Option Seen
seen_by (Some seen) cycle expected returned = Some seen
seen_by None cycle None returned = None
seen_by None cycle (Some word) returned =
    if word == returned then None else Some (record { cycle = cycle; expected = word; returned = returned })

abbrev pub done_by : Option ℕ → Bool → ℕ → Option ℕ
done_by (Some t) done cycle = Some t
done_by None done cycle = if done then Some cycle else None

-- what was seen, with a cycle more
abbrev pub watched_by : Watch → ℕ → Option ℕ → CycleEnd → Watch
watched_by watch cycle expected end = record {
  rdata = end.rdata;
  fail = end.fail;
  done_cycle = done_by watch.done_cycle end.done cycle;
  first = seen_by watch.first cycle expected watch.rdata;
}

-- what was seen before the first cycle
abbrev pub unwatched : Watch
unwatched = record { rdata = 0; fail = false; done_cycle = None; first = None }

-- the first cycle is done
pub record FirstWatched (mo : ModuleTree) (d : Description) (before after : List ℕ) (box left : Tells) (watch : Watch) : Type 0 where
  pub end : CycleEnd
  pub turned : Turned mo d 0 before after 0 end.rdata box left end.done end.fail
  pub low : end.rdata < 2 ^ d.bits
  pub watch_is : watch ≡ watched_by unwatched 0 None end

-- the controller stands in cycle k of the run, where these words returned
abbrev pub Controls : List MarchElement → Description → State → ℕ → List Env → Type 0
Controls march d control k es =
    (returned : ℕ → ℕ) (n : ℕ) → suc n ≡ k → ((t : ℕ) → t < k → returned t ≡ word_in es t) → StandsIn march d control returned n

-- k cycles are done
pub record Stage (mo : ModuleTree) (march : List MarchElement) (d : Description) (first_registers : List ℕ)
    (first_box : Tells) (k : ℕ) (now : List ℕ) (watch : Watch) (box : Tells) (control : State) : Type 0 where
  pub cycles : List Env
  pub left : Between
  pub joint : Joint mo d 0 cycles (at_first (valued (names (registers_of mo)) first_registers) first_box) left
  pub count : length cycles ≡ k
  pub some : 1 ≤ k
  pub registers : now ≡ map (λ x. left.registers x.name) (registers_of mo)
  pub rdata : left.rdata ≡ watch.rdata
  pub low : watch.rdata < 2 ^ d.bits
  pub box_is : left.box ≡ box
  pub fail : (n : ℕ) → suc n ≡ k → watch.fail ≡ (ports_in cycles n).fail
  pub done : watch.done_cycle ≡ first_done 0 cycles
  pub first : IsFirstSeenBefore march d k (word_in cycles) watch.first
  pub controls : Controls march d control k cycles
