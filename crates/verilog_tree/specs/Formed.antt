-- Trusted. Which trees have the sizes that a text can have.
use Rattle.std.specs.Prelude.{ℕ, ◌^◌, Bool, true, false, nat_le, nat_lt, ◌&&◌, List, [], ◌∷◌}
use Rattle.bist_bits.specs.Vector.{Vector}
use Rattle.verilog_tree.specs.Plain.{Expression, Net, BitSelect, PartSelect, Literal, Concatenation, Prefixed, Infixed, Conditional, Expressions, NoMore, Followed, Statement, SetTo, IfElse, CaseOf, Statements, Done, Then, Arms, NoArm, ArmOf, ModuleItem, WireItem, RegItem, AssignItem, AlwaysItem, ModulePort, ModuleTree}

-- from 1 to 64
abbrev pub is_width : ℕ → Bool
is_width w = nat_le 1 w && nat_le w 64

-- a number of a select
abbrev pub is_place : ℕ → Bool
is_place i = nat_le i 63

-- a width, and a value that it holds
abbrev pub is_literal : Vector → Bool
is_literal b = is_width b.width && nat_lt b.value (2 ^ b.width)

abbrev pub has_expression : Expressions → Bool
has_expression NoMore = false
has_expression (Followed x xs) = true

abbrev mutual
  pub expression_formed : Expression → Bool
  expression_formed (Net n) = true
  expression_formed (BitSelect n i) = is_place i
  expression_formed (PartSelect n h l) = is_place h && is_place l
  expression_formed (Literal b) = is_literal b
  expression_formed (Concatenation xs) = has_expression xs && expressions_formed xs
  expression_formed (Prefixed o x) = expression_formed x
  expression_formed (Infixed o x y) = expression_formed x && expression_formed y
  expression_formed (Conditional c x y) = expression_formed c && expression_formed x && expression_formed y

  pub expressions_formed : Expressions → Bool
  expressions_formed NoMore = true
  expressions_formed (Followed x xs) = expression_formed x && expressions_formed xs

abbrev pub labels_formed : List Vector → Bool
labels_formed [] = true
labels_formed (b ∷ bs) = is_literal b && labels_formed bs

abbrev pub has_label : List Vector → Bool
has_label [] = false
has_label (b ∷ bs) = true

abbrev pub has_arm : Arms → Bool
has_arm NoArm = false
has_arm (ArmOf ls s as') = true

abbrev mutual
  pub statement_formed : Statement → Bool
  statement_formed (SetTo n x) = expression_formed x
  statement_formed (IfElse c a b) = expression_formed c && statements_formed a && statements_formed b
  statement_formed (CaseOf x as' d) = expression_formed x && has_arm as' && arms_formed as' && statements_formed d

  pub statements_formed : Statements → Bool
  statements_formed Done = true
  statements_formed (Then s ss) = statement_formed s && statements_formed ss

  pub arms_formed : Arms → Bool
  arms_formed NoArm = true
  arms_formed (ArmOf ls s as') = has_label ls && labels_formed ls && statements_formed s && arms_formed as'

abbrev pub item_formed : ModuleItem → Bool
item_formed (WireItem n w) = is_width w
item_formed (RegItem n w) = is_width w
item_formed (AssignItem n x) = expression_formed x
item_formed (AlwaysItem c ss) = statements_formed ss

abbrev pub items_formed : List ModuleItem → Bool
items_formed [] = true
items_formed (i ∷ is) = item_formed i && items_formed is

abbrev pub ports_formed : List ModulePort → Bool
ports_formed [] = true
ports_formed (p ∷ ps) = is_width p.width && ports_formed ps

abbrev pub has_port : List ModulePort → Bool
has_port [] = false
has_port (p ∷ ps) = true

-- Every width is from 1 to 64, every number of a select is at most 63, a module has a port, a
-- concatenation a part, a case an arm and an arm a label.
abbrev pub formed : ModuleTree → Bool
formed mo = has_port mo.ports && ports_formed mo.ports && items_formed mo.items
