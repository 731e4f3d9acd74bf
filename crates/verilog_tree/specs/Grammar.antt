-- Trusted. The grammar of a module: derivations, the tokens that each derives, and its tree.
use Rattle.std.specs.Prelude.{◌≡◌, ℕ, ◌+◌, Bool, true, false, List, [], ◌∷◌, ◌++◌, Option, Some, None, codes}
use Rattle.bist_bits.specs.Vector.{Vector}
use Rattle.verilog_tree.specs.declared.tokens.Mark.TheVariants.{Open, Close, OpenBracket, CloseBracket, Comma, Semicolon, Colon, At, Equals, LessEquals}
use Rattle.verilog_tree.specs.declared.tree.Dir.{Dir}
use Rattle.verilog_tree.specs.declared.tree.Dir.TheVariants.{Input, Output, OutputReg}
use Rattle.verilog_tree.specs.Plain as P
use Rattle.verilog_tree.specs.Tokens.{Token}
pub use Rattle.verilog_tree.specs.Pieces.{is_sign, sign, keyword, name, number, is_zero, zero_number, literal, Limit, unlimited, deeper_in, deeper, few_in, few, inside, unary_mark, binary_mark}
use Rattle.verilog_tree.specs.Parenthesised as Y
use Rattle.verilog_tree.specs.Free as T

-- how expressions are written: with all their parentheses, or with operators that bind by precedence
pub data Style : Type 0 where
  Parenthesised : Style
  ByPrecedence : Style

-- a derivation of expr, in either style
pub data Expr : Type 0 where
  Full : Y.Expr → Expr
  Free : T.Expr → Expr

mutual
  -- a derivation of stmt
  pub data Stmt : Type 0 where
    BeginEnd : Stmts → Stmt
    If : Expr → Stmt → Stmt
    IfElse : Expr → Stmt → Stmt → Stmt
    -- an arm, further ones, and a default or none
    Case : Expr → Arm → Arms → Default → Stmt
    Assign : List ℕ → Expr → Stmt

  pub data Stmts : Type 0 where
    NoStmt : Stmts
    AndStmt : Stmt → Stmts → Stmts

  -- a derivation of arm: a label, further ones, and its statement
  pub data Arm : Type 0 where
    ArmOf : Vector → List Vector → Stmt → Arm

  pub data Arms : Type 0 where
    NoArm : Arms
    AndArm : Arm → Arms → Arms

  -- a default, with or without a colon
  pub data Default : Type 0 where
    NoDefault : Default
    ItsDefault : Bool → Stmt → Default

-- a derivation of item, whose range is its high bound, if it has one
pub data Item : Type 0 where
  Wires : Option ℕ → List ℕ → List (List ℕ) → Item
  Regs : Option ℕ → List ℕ → List (List ℕ) → Item
  Drives : List ℕ → Expr → Item
  Always : List ℕ → Stmt → Item

-- a derivation of port: its direction, whether "wire" is written, its range and its name
pub record Port : Type 0 where
  pub dir : Dir
  pub wire : Bool
  pub range : Option ℕ
  pub name : List ℕ

-- a derivation of file
pub record File : Type 0 where
  pub name : List ℕ
  pub port : Port
  pub ports : List Port
  pub items : List Item

-- expr, where d openings are open round it
abbrev pub expr : Style → Limit → ℕ → Expr → (List Token → Type 0) → List Token → Type 0
expr Parenthesised l d (Full x) K = Y.expr l d x K
expr ByPrecedence l d (Free x) K = λ ts. (few l (T.operators (T.expr_tree x)) ≡ true) × T.expr l d x K ts
expr Parenthesised l d (Free x) K = λ ts. ⊥
expr ByPrecedence l d (Full x) K = λ ts. ⊥

abbrev pub expr_tree : Expr → P.Expression
expr_tree (Full x) = Y.expr_tree x
expr_tree (Free x) = T.expr_tree x

-- { "," literal }
abbrev pub literals : List Vector → (List Token → Type 0) → List Token → Type 0
literals [] K = K
literals (x ∷ xs) K = sign Comma (literal x (literals xs K))

-- whether a statement ends in an if without else
abbrev pub ends_in_if : Stmt → Bool
ends_in_if (BeginEnd ss) = false
ends_in_if (If c s) = true
ends_in_if (IfElse c a b) = ends_in_if b
ends_in_if (Case x a as' d) = false
ends_in_if (Assign n x) = false

-- an optional colon
abbrev pub colon_if : Bool → (List Token → Type 0) → List Token → Type 0
colon_if true K = sign Colon K
colon_if false K = K

-- stmt = "begin" { stmt } "end" | "if" "(" expr ")" stmt [ "else" stmt ]
--      | "case" "(" expr ")" arm { arm } [ "default" [ ":" ] stmt ] "endcase" | name "<=" expr ";"
-- An else belongs to the nearest if before it that has none: the statement before it doesn't end in an if
-- without else.
abbrev mutual
  pub stmt : Style → Limit → ℕ → Stmt → (List Token → Type 0) → List Token → Type 0
  stmt y l d (BeginEnd ss) K = keyword (codes "begin") (inside l d (λ e. stmts y l e ss (keyword (codes "end") K)))
  stmt y l d (If c s) K = keyword (codes "if") (inside l d (λ e. sign Open (inside l e (λ f. expr y l f c (sign Close (stmt y l e s K))))))
  stmt y l d (IfElse c a b) K =
      keyword (codes "if") (inside l d (λ e. sign Open (inside l e (λ f. expr y l f c (sign Close
      (stmt y l e a (λ ts. (ends_in_if a ≡ false) × keyword (codes "else") (stmt y l e b K) ts)))))))
  stmt y l d (Case x a as' o) K =
      keyword (codes "case") (inside l d (λ e. sign Open (inside l e (λ f. expr y l f x (sign Close
      (arm y l e a (arms y l e as' (default y l e o (keyword (codes "endcase") K)))))))))
  stmt y l d (Assign n x) K = name n (sign LessEquals (expr y l d x (sign Semicolon K)))

  pub stmts : Style → Limit → ℕ → Stmts → (List Token → Type 0) → List Token → Type 0
  stmts y l d NoStmt K = K
  stmts y l d (AndStmt s ss) K = stmt y l d s (stmts y l d ss K)

  -- arm = literal { "," literal } ":" stmt
  pub arm : Style → Limit → ℕ → Arm → (List Token → Type 0) → List Token → Type 0
  arm y l d (ArmOf x xs s) K = literal x (literals xs (sign Colon (stmt y l d s K)))

  pub arms : Style → Limit → ℕ → Arms → (List Token → Type 0) → List Token → Type 0
  arms y l d NoArm K = K
  arms y l d (AndArm a as') K = arm y l d a (arms y l d as' K)

  -- [ "default" [ ":" ] stmt ]
  pub default : Style → Limit → ℕ → Default → (List Token → Type 0) → List Token → Type 0
  default y l d NoDefault K = K
  default y l d (ItsDefault colon s) K = keyword (codes "default") (colon_if colon (stmt y l d s K))

-- range = "[" number ":" "0" "]", which may be left out
abbrev pub range : Option ℕ → (List Token → Type 0) → List Token → Type 0
range None K = K
range (Some h) K = sign OpenBracket (number h (sign Colon (zero_number (sign CloseBracket K))))

-- { "," name }
abbrev pub names : List (List ℕ) → (List Token → Type 0) → List Token → Type 0
names [] K = K
names (n ∷ ns) K = sign Comma (name n (names ns K))

-- item = "wire" [ range ] name { "," name } ";" | "reg" [ range ] name { "," name } ";"
--      | "assign" name "=" expr ";" | "always" "@" "(" "posedge" name ")" stmt
-- Nothing is open round an item.
abbrev pub item : Style → Limit → Item → (List Token → Type 0) → List Token → Type 0
item y l (Wires r n ns) K = keyword (codes "wire") (range r (name n (names ns (sign Semicolon K))))
item y l (Regs r n ns) K = keyword (codes "reg") (range r (name n (names ns (sign Semicolon K))))
item y l (Drives n x) K = keyword (codes "assign") (name n (sign Equals (expr y l 0 x (sign Semicolon K))))
item y l (Always c s) K = keyword (codes "always")
    (sign At (sign Open (inside l 0 (λ e. keyword (codes "posedge") (name c (sign Close (stmt y l 0 s K)))))))

abbrev pub items : Style → Limit → List Item → (List Token → Type 0) → List Token → Type 0
items y l [] K = K
items y l (i ∷ is) K = item y l i (items y l is K)

abbrev pub wire_if : Bool → (List Token → Type 0) → List Token → Type 0
wire_if true K = keyword (codes "wire") K
wire_if false K = K

-- behind "output": [ "wire" | "reg" ]
abbrev pub output_of : Dir → Bool → (List Token → Type 0) → List Token → Type 0
output_of Input wire K = λ ts. ⊥
output_of Output wire K = wire_if wire K
output_of OutputReg true K = λ ts. ⊥
output_of OutputReg false K = keyword (codes "reg") K

-- "input" [ "wire" ] | "output" [ "wire" | "reg" ]
abbrev pub direction : Dir → Bool → (List Token → Type 0) → List Token → Type 0
direction Input wire K = keyword (codes "input") (wire_if wire K)
direction Output wire K = keyword (codes "output") (output_of Output wire K)
direction OutputReg wire K = keyword (codes "output") (output_of OutputReg wire K)

-- port = direction [ range ] name
abbrev pub port : Port → (List Token → Type 0) → List Token → Type 0
port p K = direction p.dir p.wire (range p.range (name p.name K))

-- { "," port }
abbrev pub ports : List Port → (List Token → Type 0) → List Token → Type 0
ports [] K = K
ports (p ∷ ps) K = sign Comma (port p (ports ps K))

-- nothing follows
abbrev pub no_token : List Token → Type 0
no_token [] = Unit {0}
no_token (t ∷ ts) = ⊥

-- "module" name "(" port { "," port } ")" ";" { item } "endmodule"
abbrev pub module_of : Style → Limit → File → (List Token → Type 0) → List Token → Type 0
module_of y l f K =
    keyword (codes "module") (name f.name (sign Open (inside l 0 (λ e. port f.port (ports f.ports (sign Close
    (sign Semicolon (items y l f.items (keyword (codes "endmodule") K)))))))))

-- file = module
abbrev pub file : Style → Limit → File → List Token → Type 0
file y l f = module_of y l f no_token

-- statements, and behind them others
abbrev pub then_all : P.Statements → P.Statements → P.Statements
then_all P.Done rest = rest
then_all (P.Then s ss) rest = P.Then s (then_all ss rest)

abbrev pub alone : P.Statement → P.Statements
alone s = P.Then s P.Done

-- The statements that a derivation stands for: a block is its list, and spliced where it stands in a list;
-- any other is a list of one. An else or a default that is left out is the empty list.
abbrev mutual
  pub stmt_tree : Stmt → P.Statements
  stmt_tree (BeginEnd ss) = stmts_tree ss
  stmt_tree (If c s) = alone (P.IfElse (expr_tree c) (stmt_tree s) P.Done)
  stmt_tree (IfElse c a b) = alone (P.IfElse (expr_tree c) (stmt_tree a) (stmt_tree b))
  stmt_tree (Case x a as' d) = alone (P.CaseOf (expr_tree x) (arm_tree a (arms_tree as')) (default_tree d))
  stmt_tree (Assign n x) = alone (P.SetTo n (expr_tree x))

  pub stmts_tree : Stmts → P.Statements
  stmts_tree NoStmt = P.Done
  stmts_tree (AndStmt s ss) = then_all (stmt_tree s) (stmts_tree ss)

  pub arm_tree : Arm → P.Arms → P.Arms
  arm_tree (ArmOf l ls s) rest = P.ArmOf (l ∷ ls) (stmt_tree s) rest

  pub arms_tree : Arms → P.Arms
  arms_tree NoArm = P.NoArm
  arms_tree (AndArm a as') = arm_tree a (arms_tree as')

  pub default_tree : Default → P.Statements
  default_tree NoDefault = P.Done
  default_tree (ItsDefault colon s) = stmt_tree s

-- [h:0] gives h + 1 bits, and no range one bit
abbrev pub range_width : Option ℕ → ℕ
range_width None = 1
range_width (Some h) = h + 1

abbrev pub each : (List ℕ → P.ModuleItem) → List (List ℕ) → List P.ModuleItem
each make [] = []
each make (n ∷ ns) = make n ∷ each make ns

-- the items that a derivation stands for: a declaration of several names is one of each, in order
abbrev pub item_tree : Item → List P.ModuleItem
item_tree (Wires r n ns) = each (λ m. P.WireItem m (range_width r)) (n ∷ ns)
item_tree (Regs r n ns) = each (λ m. P.RegItem m (range_width r)) (n ∷ ns)
item_tree (Drives n x) = P.AssignItem n (expr_tree x) ∷ []
item_tree (Always c s) = P.AlwaysItem c (stmt_tree s) ∷ []

abbrev pub items_tree : List Item → List P.ModuleItem
items_tree [] = []
items_tree (i ∷ is) = item_tree i ++ items_tree is

abbrev pub port_tree : Port → P.ModulePort
port_tree p = record { dir = p.dir; name = p.name; width = range_width p.range }

abbrev pub ports_tree : List Port → List P.ModulePort
ports_tree [] = []
ports_tree (p ∷ ps) = port_tree p ∷ ports_tree ps

abbrev pub file_tree : File → P.ModuleTree
file_tree f = record { name = f.name; ports = port_tree f.port ∷ ports_tree f.ports; items = items_tree f.items }
