-- Inner. For proofs and private contracts alone: what the parts of a design are to its module.
use Rattle.std.specs.Prelude.{◌≡◌, map, take, length}
use Rattle.verilog_tree.specs.Plain.{ModuleTree}
use Rattle.verilog_tree.specs.Meaning.{names_widths}
use Rattle.verilog_tree.specs.Seen.{declaration}
use Rattle.verilog_code.specs.Actions.{action_run}
use Rattle.verilog_code.specs.Reading.{AreReading}
use Rattle.verilog_code.specs.OpenActions.{open_action}
use Rattle.verilog_cycle.specs.declared.parts.Parts.{Parts}
use Rattle.verilog_cycle.specs.Built.{IsBuilt, Holds}
use Rattle.verilog_cycle.specs.Design.{NoLoop, registers_of, places}
use Rattle.verilog_cycle.specs.OpenDoes.{OpenDoesBlocks}
use Rattle.verilog_cycle.specs.Seen.{plain_names}

pub record ArePartsOf (mo : ModuleTree) (p : Parts) : Type 0 where
  pub built : IsBuilt mo (plain_names p.nets.items) (map declaration p.registers.items) (map declaration p.inputs.items)
      (map (λ s. s.code.value) p.program.steps.items)
      (map (λ b. map action_run b.items) p.program.blocks.items) p.program.outputs.items
  pub reading : AreReading p.program.steps.items
  pub holds : Holds mo (plain_names p.nets.items) p.cells.values.items p.cells.next.items p.cells.shown.items
  pub opens : OpenDoesBlocks (names_widths mo) (places mo (plain_names p.nets.items)) mo.items
      (map (λ b. map open_action b.items) p.program.blocks.items)
  pub loopless : NoLoop mo
  pub zero : take (length p.registers.items) p.cells.values.items ≡ map (λ _. 0) (registers_of mo)
