-- Trusted. A module as contracts see it: names are their bytes, vectors are lists, and a box is what it holds.
use Rattle.std.specs.Prelude.{ℕ, List, [], ◌∷◌, map}
use Rattle.bist_bits.specs.Vector.{Vector}
use Rattle.verilog_tree.specs.declared.tree.UnOp.{UnOp}
use Rattle.verilog_tree.specs.declared.tree.BinOp.{BinOp}
use Rattle.verilog_tree.specs.declared.tree.Dir.{Dir}
use Rattle.verilog_tree.specs.declared.tree.Port.{Port}
use Rattle.verilog_tree.specs.declared.tree.Module.{Module}
use Rattle.verilog_tree.specs.declared.tree.BodyItem.{BodyItem}
use Rattle.verilog_tree.specs.declared.tree.BodyItem.TheVariants.{Wire, Reg, Assign, Always}
use Rattle.verilog_tree.specs.declared.tree.Expr.{Expr}
use Rattle.verilog_tree.specs.declared.tree.Expr.TheOpen.{Expr-F, Name, Bit, Part, Lit, Concat, Unary, Binary, Choose}
use Rattle.verilog_tree.specs.declared.tree.Expr.TheFolds.{fold-Expr}
use Rattle.verilog_tree.specs.declared.tree.Stmt.{Stmt}
use Rattle.verilog_tree.specs.declared.tree.Stmt.TheOpen.{Stmt-F, Arm-F, Set, If, Case}
use Rattle.verilog_tree.specs.declared.tree.Stmt.TheFolds.{fold-Stmt}

mutual
  -- an expression
  pub data Expression : Type 0 where
    Net : List ℕ → Expression
    BitSelect : List ℕ → ℕ → Expression
    PartSelect : List ℕ → ℕ → ℕ → Expression
    Literal : Vector → Expression
    Concatenation : Expressions → Expression
    Prefixed : UnOp → Expression → Expression
    Infixed : BinOp → Expression → Expression → Expression
    Conditional : Expression → Expression → Expression → Expression

  -- the expressions of a concatenation, in order
  pub data Expressions : Type 0 where
    NoMore : Expressions
    Followed : Expression → Expressions → Expressions

mutual
  -- a statement
  pub data Statement : Type 0 where
    SetTo : List ℕ → Expression → Statement
    IfElse : Expression → Statements → Statements → Statement
    CaseOf : Expression → Arms → Statements → Statement

  -- statements in order
  pub data Statements : Type 0 where
    Done : Statements
    Then : Statement → Statements → Statements

  -- the arms of a case in order, each with its labels and its body
  pub data Arms : Type 0 where
    NoArm : Arms
    ArmOf : List Vector → Statements → Arms → Arms

-- an item
pub data ModuleItem : Type 0 where
  WireItem : List ℕ → ℕ → ModuleItem
  RegItem : List ℕ → ℕ → ModuleItem
  AssignItem : List ℕ → Expression → ModuleItem
  AlwaysItem : List ℕ → Statements → ModuleItem

pub record ModulePort : Type 0 where
  pub dir : Dir
  pub name : List ℕ
  pub width : ℕ

pub record ModuleTree : Type 0 where
  pub name : List ℕ
  pub ports : List ModulePort
  pub items : List ModuleItem

-- one arm, outside of its list
pub record ArmTree : Type 0 where
  pub labels : List Vector
  pub body : Statements

abbrev pub expressions : List Expression → Expressions
expressions [] = NoMore
expressions (x ∷ xs) = Followed x (expressions xs)

abbrev pub statements : List Statement → Statements
statements [] = Done
statements (s ∷ ss) = Then s (statements ss)

abbrev pub arms : List ArmTree → Arms
arms [] = NoArm
arms (a ∷ as') = ArmOf a.labels a.body (arms as')

abbrev pub expr_layer : Expr-F Expression → Expression
expr_layer (Name n) = Net n.bytes
expr_layer (Bit n i) = BitSelect n.bytes i
expr_layer (Part n h l) = PartSelect n.bytes h l
expr_layer (Lit b) = Literal b
expr_layer (Concat xs) = Concatenation (expressions xs.items)
expr_layer (Unary o x) = Prefixed o x.value
expr_layer (Binary o x y) = Infixed o x.value y.value
expr_layer (Choose c x y) = Conditional c.value x.value y.value

-- the expression that an `Expr` is
abbrev pub plain : Expr → Expression
plain = fold-Expr Expression expr_layer

abbrev pub stmt_layer : Stmt-F Statement ArmTree → Statement
stmt_layer (Set n x) = SetTo n.bytes (plain x)
stmt_layer (If c a b) = IfElse (plain c) (statements a.items) (statements b.items)
stmt_layer (Case x as' d) = CaseOf (plain x) (arms as'.items) (statements d.items)

abbrev pub arm_layer : Arm-F Statement ArmTree → ArmTree
arm_layer a = record { labels = a.labels.items; body = statements a.body.items }

-- the statement that a `Stmt` is
abbrev pub plain_stmt : Stmt → Statement
plain_stmt = fold-Stmt Statement ArmTree stmt_layer arm_layer

abbrev pub plain_stmts : List Stmt → Statements
plain_stmts ss = statements (map plain_stmt ss)

abbrev pub plain_item : BodyItem → ModuleItem
plain_item (Wire d) = WireItem d.name.bytes d.width
plain_item (Reg d) = RegItem d.name.bytes d.width
plain_item (Assign n x) = AssignItem n.bytes (plain x)
plain_item (Always n body) = AlwaysItem n.bytes (plain_stmts body.items)

abbrev pub plain_port : Port → ModulePort
plain_port p = record { dir = p.dir; name = p.name.bytes; width = p.width }

-- the module that a `Module` is
abbrev pub plain_module : Module → ModuleTree
plain_module m = record { name = m.name.bytes; ports = map plain_port m.ports.items; items = map plain_item m.items.items }
