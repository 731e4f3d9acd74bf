-- Public. Whether each expression of a module has no more operators than may be.
use Rattle.std.specs.Prelude.{ℕ, Bool, true, ◌&&◌, List, [], ◌∷◌, Option}
use Rattle.verilog_tree.specs.Free.{operators}
use Rattle.verilog_tree.specs.Pieces.{few_in}
use Rattle.verilog_tree.specs.Plain.{Expression, Statement, SetTo, IfElse, CaseOf, Statements, Done, Then, Arms, NoArm, ArmOf, ModuleItem, WireItem, RegItem, AssignItem, AlwaysItem, ModuleTree}

abbrev pub expression_few : Option ℕ → Expression → Bool
expression_few most x = few_in most (operators x)

abbrev mutual
  pub statement_few : Option ℕ → Statement → Bool
  statement_few most (SetTo n x) = expression_few most x
  statement_few most (IfElse c a b) = expression_few most c && (statements_few most a && statements_few most b)
  statement_few most (CaseOf x as' d) = expression_few most x && (arms_few most as' && statements_few most d)

  pub statements_few : Option ℕ → Statements → Bool
  statements_few most Done = true
  statements_few most (Then s ss) = statement_few most s && statements_few most ss

  pub arms_few : Option ℕ → Arms → Bool
  arms_few most NoArm = true
  arms_few most (ArmOf ls ss as') = statements_few most ss && arms_few most as'

abbrev pub item_few : Option ℕ → ModuleItem → Bool
item_few most (WireItem n w) = true
item_few most (RegItem n w) = true
item_few most (AssignItem n x) = expression_few most x
item_few most (AlwaysItem c ss) = statements_few most ss

abbrev pub items_few : Option ℕ → List ModuleItem → Bool
items_few most [] = true
items_few most (i ∷ is) = item_few most i && items_few most is

-- each expression that stands in no other
abbrev pub few_operators : Option ℕ → ModuleTree → Bool
few_operators most mo = items_few most mo.items
