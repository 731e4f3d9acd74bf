-- Trusted. What the module of a command gives: the module that a text spells, where it breaks no rule and its wires form no loop.
use Rattle.std.specs.Prelude.{◌≡◌, true, ℕ, List, Option, None, Result, Ok, Err}
use Rattle.bist_host.specs.Files.{Files}
use Rattle.verilog_tree.specs.declared.fault.TreeFault.{TreeFault}
use Rattle.verilog_tree.specs.declared.tree.Module.{Module}
use Rattle.verilog_tree.specs.Plain.{ModuleTree, plain_module}
use Rattle.verilog_tree.specs.Formed.{formed}
use Rattle.verilog_tree.specs.Rules.{first_break}
use Rattle.verilog_tree.specs.Grammar as G
use Rattle.verilog_tree.specs.Spells.{Text, all_limits}
use Rattle.verilog_text.specs.Refusals.{IsFirstIn}
use Rattle.verilog_cycle.specs.Design.{DesignView, NoLoop, AreNets, Refused}
use Rattle.bist_endings.specs.declared.ending.Refusal.{Refusal}
use Rattle.bist_endings.specs.declared.ending.VerilogRefusal.{VerilogRefusal}
use Rattle.bist_endings.specs.Then.{Then}
use Rattle.bist_endings.specs.Words.{Words, word}
use Rattle.bist_inputs.specs.Inputs.{GivesBytes}

-- a module in place of its collections
abbrev pub plain_tree : Result Module Refusal → Result ModuleTree Refusal
plain_tree (Ok m) = Ok (plain_module m)
plain_tree (Err refusal) = Err refusal

-- the module of a design
abbrev pub tree_of : Result DesignView Refusal → Result ModuleTree Refusal
tree_of (Ok design) = Ok design.tree
tree_of (Err refusal) = Err refusal

-- the module that a text of this style spells, or the first refusal of the text
unfoldable pub GivesTree : G.Style → List ℕ → Result ModuleTree Refusal → Type 0
GivesTree style bytes (Ok mo) = Text style all_limits bytes mo
GivesTree style bytes (Err (Refusal.Verilog (VerilogRefusal.Read fault))) = IsFirstIn style bytes fault
GivesTree style bytes (Err Refusal.NoMemory) = Unit {0}
GivesTree style bytes (Err other) = ⊥

-- a module that can be run: it breaks no rule and its wires form no loop, so they can be computed in some order
pub record CanRun (mo : ModuleTree) : Type 0 where
  pub sizes : formed mo ≡ true
  pub legal : first_break mo ≡ None
  pub loopless : NoLoop mo
  pub wires : List (List ℕ)
  pub in_order : AreNets mo wires

-- the first rule that the module breaks, or else a loop of its wires
abbrev pub Breaks : ModuleTree → TreeFault → Type 0
Breaks mo TreeFault.NoMemory = ⊥
Breaks mo fault = Refused mo fault

-- the module itself where it can be run, or why it can't
unfoldable pub GivesRunnable : ModuleTree → Result ModuleTree Refusal → Type 0
GivesRunnable mo (Ok same) = (same ≡ mo) × CanRun mo
GivesRunnable mo (Err (Refusal.Verilog (VerilogRefusal.Tree fault))) = Breaks mo fault
GivesRunnable mo (Err Refusal.NoMemory) = Unit {0}
GivesRunnable mo (Err other) = ⊥

-- the checks of a text in their order
abbrev pub GivesModule : G.Style → List ℕ → Result ModuleTree Refusal → Type 0
GivesModule style bytes = Then (GivesTree style bytes) GivesRunnable

-- the module of the file that a word names
unfoldable pub InputModule : G.Style → Option Files → Words → ℕ → Result ModuleTree Refusal → Type 0
InputModule style files words position = Then (GivesBytes files (word words position) position) (GivesModule style)
