-- Trusted. What a bench run sees: how it ends, and the first read that is answered wrong.
use Rattle.std.specs.Prelude.{◌≡◌, ◌+◌, ℕ, Bool, List, length, Option, Some, None, map, slice_get}
use Rattle.verilog_tree.specs.Plain.{ModuleTree}
use Rattle.verilog_tree.specs.Meaning.{Env}
use Rattle.march_core.specs.March.{MarchElement}
use Rattle.memory_desc.specs.Descriptions.{Description}
use Rattle.word_march.specs.declared.operations.PortOp.{PortOp}
use Rattle.word_march.specs.Commands.{port_ops, span, cycle_count}
use Rattle.word_march.specs.PortRule.{cycle_of}
use Rattle.verilog_cycle.specs.Nets.{valued}
use Rattle.verilog_cycle.specs.Design.{names, registers_of}
use Rattle.word_device.specs.Boxes.{Tells}
use Rattle.word_device.specs.Joint.{returned_word}
use Rattle.word_device.specs.Runs.{AllRight, IsFirstWrong}
use Rattle.bench.specs.declared.ending.Seen.{Seen}
use Rattle.bench.specs.Joint.{Between, Joint, at_first, word_in, ports_in, first_done}

-- the first read whose word isn't the one that it expects, where command j has word j: the cycle in which its answer stands on
-- `rdata`, and both words; none where every read's word is right
abbrev pub IsFirstRead : List MarchElement → Description → (ℕ → ℕ) → Option Seen → Type 0
IsFirstRead march d words None = AllRight march d words
IsFirstRead march d words (Some seen) =
    (j : ℕ) × (command : PortOp) × IsFirstWrong march d words j × (slice_get (port_ops march d) j ≡ Some command)
    × (seen ≡ record { cycle = cycle_of march d j + d.latency; expected = command.word; returned = words j })

-- the same, where these words stand on `rdata` by cycle
abbrev pub IsFirstSeen : List MarchElement → Description → (ℕ → ℕ) → Option Seen → Type 0
IsFirstSeen march d returned seen = IsFirstRead march d (returned_word march d returned) seen

-- what is seen of these cycles
pub record Shows (march : List MarchElement) (d : Description) (es : List Env) (failed : Bool) (done_in : Option ℕ)
    (seen : Option Seen) : Type 0 where
  pub fail : failed ≡ (ports_in es (span march d + 1 + d.latency)).fail
  pub done : done_in ≡ first_done 0 es
  pub first : IsFirstSeen march d (word_in es) seen

-- a run of the module from these registers, joined with a box that tells this: what is seen, and what registers and box are then
pub record Runs (mo : ModuleTree) (march : List MarchElement) (d : Description) (registers now : List ℕ) (before after : Tells)
    (failed : Bool) (done_in : Option ℕ) (seen : Option Seen) : Type 0 where
  pub cycles : List Env
  pub left : Between
  pub joint : Joint mo d 0 cycles (at_first (valued (names (registers_of mo)) registers) before) left
  pub count : length cycles ≡ cycle_count march d
  pub registers_are : now ≡ map (λ x. left.registers x.name) (registers_of mo)
  pub box : left.box ≡ after
  pub shows : Shows march d cycles failed done_in seen
