-- Trusted. Which modules can be written as text.
use Rattle.std.specs.Prelude.{ℕ, ◌-◌, Bool, true, nat_lt, ◌&&◌, List, [], ◌∷◌}
use Rattle.verilog_tree.specs.Plain.{Expression, Net, BitSelect, PartSelect, Literal, Concatenation, Prefixed, Infixed, Conditional, Expressions, NoMore, Followed, Statement, SetTo, IfElse, CaseOf, Statements, Done, Then, Arms, NoArm, ArmOf, ModuleItem, WireItem, RegItem, AssignItem, AlwaysItem, ModulePort, ModuleTree}
use Rattle.verilog_tree.specs.Words.{is_name}
use Rattle.verilog_tree.specs.Formed.{formed}

-- Whether the names are legal and the text has at most k openings open at once. The text has parentheses
-- round each operator, begin and end round each body, and a body behind each if, else, arm and default.
abbrev mutual
  pub expression_fits : ℕ → Expression → Bool
  expression_fits k (Net n) = is_name n
  expression_fits k (BitSelect n i) = is_name n
  expression_fits k (PartSelect n h l) = is_name n
  expression_fits k (Literal b) = true
  expression_fits k (Concatenation xs) = nat_lt 0 k && expressions_fit (k - 1) xs
  expression_fits k (Prefixed o x) = nat_lt 0 k && expression_fits (k - 1) x
  expression_fits k (Infixed o x y) = nat_lt 0 k && expression_fits (k - 1) x && expression_fits (k - 1) y
  expression_fits k (Conditional c x y) = nat_lt 0 k && expression_fits (k - 1) c && expression_fits (k - 1) x && expression_fits (k - 1) y

  pub expressions_fit : ℕ → Expressions → Bool
  expressions_fit k NoMore = true
  expressions_fit k (Followed x xs) = expression_fits k x && expressions_fit k xs

abbrev mutual
  pub statement_fits : ℕ → Statement → Bool
  statement_fits k (SetTo n x) = is_name n && expression_fits k x
  statement_fits k (IfElse c a b) = nat_lt 1 k && expression_fits (k - 2) c && statements_fit (k - 2) a && statements_fit (k - 2) b
  statement_fits k (CaseOf x as' d) = nat_lt 1 k && expression_fits (k - 2) x && arms_fit (k - 2) as' && statements_fit (k - 2) d

  pub statements_fit : ℕ → Statements → Bool
  statements_fit k Done = true
  statements_fit k (Then s ss) = statement_fits k s && statements_fit k ss

  pub arms_fit : ℕ → Arms → Bool
  arms_fit k NoArm = true
  arms_fit k (ArmOf ls ss as') = statements_fit k ss && arms_fit k as'

abbrev pub item_fits : ℕ → ModuleItem → Bool
item_fits k (WireItem n w) = is_name n
item_fits k (RegItem n w) = is_name n
item_fits k (AssignItem n x) = is_name n && expression_fits k x
item_fits k (AlwaysItem c ss) = is_name c && statements_fit (k - 1) ss

abbrev pub items_fit : ℕ → List ModuleItem → Bool
items_fit k [] = true
items_fit k (i ∷ is) = item_fits k i && items_fit k is

abbrev pub ports_fit : List ModulePort → Bool
ports_fit [] = true
ports_fit (p ∷ ps) = is_name p.name && ports_fit ps

-- The module is formed, its names are legal, and its text nests at most 64 deep.
abbrev pub fits : ModuleTree → Bool
fits mo = formed mo && is_name mo.name && ports_fit mo.ports && items_fit 64 mo.items
