-- Public. Where a reader of a module stands among its tokens: what is read so far, and what the part that is read stands in.
use Rattle.std.specs.Prelude.{ℕ, List, [], ◌∷◌, ◌++◌, Option}
use Rattle.bist_bits.specs.Vector.{Vector}
use Rattle.verilog_tree.specs.Grammar.{Style}
use Rattle.verilog_text.specs.Flat.{Left, Count, none_yet}
use Rattle.verilog_tree.specs.Plain as P
use Rattle.verilog_tree.specs.declared.tree.Dir.{Dir}
use Rattle.verilog_tree.specs.declared.tree.UnOp.{UnOp}

-- what is read of a module
pub record Head : Type 0 where
  pub style : Style
  pub name : List ℕ
  pub ports : List P.ModulePort
  pub items : List P.ModuleItem

abbrev pub with_item : Head → P.ModuleItem → Head
with_item h i = record h { items = h.items ++ (i ∷ []) }

-- what a statement stands in, from the inside out, with how many are open outside of it
pub data Around : Type 0 where
  InAlways : Head → List ℕ → Around
  InBlock : ℕ → P.Statements → Around → Around
  InThen : ℕ → P.Expression → Around → Around
  InElse : ℕ → P.Expression → P.Statements → Around → Around
  InArm : ℕ → P.Expression → P.Arms → List Vector → Around → Around
  InDefault : ℕ → P.Expression → P.Arms → Around → Around

-- how the expressions are written of what a statement stands in
abbrev pub style_of : Around → Style
style_of (InAlways h c) = h.style
style_of (InBlock r old a) = style_of a
style_of (InThen r c a) = style_of a
style_of (InElse r c s a) = style_of a
style_of (InArm r x as' ls a) = style_of a
style_of (InDefault r x as' a) = style_of a

-- what an expression stands in that stands in no other
pub data Alone : Type 0 where
  AsDriver : Head → List ℕ → Alone
  AsCondition : ℕ → ℕ → Around → Alone
  AsSubject : ℕ → ℕ → Around → Alone
  AsValue : List ℕ → Around → Alone

-- What operands stand in, from the inside out: an expression that stands in no other; parentheses or braces, which are
-- an operand behind operators that are counted, those of them that wait, and a mark or none; or a choice, behind its ? or
-- its :.
pub data Nest : Type 0 where
  Only : Alone → Nest
  InRound : ℕ → Count → List Left → Option UnOp → Nest → Nest
  InList : ℕ → P.Expressions → Count → List Left → Option UnOp → Nest → Nest
  IfTrue : P.Expression → Nest → Nest
  IfFalse : P.Expression → P.Expression → Nest → Nest

-- what an operand stands in: operators that are counted, those of them that wait, a mark or none, and what is round them
pub data Outside : Type 0 where
  Linked : Count → List Left → Option UnOp → Nest → Outside

abbrev pub more_parts : P.Expressions → P.Expressions → P.Expressions
more_parts P.NoMore es = es
more_parts (P.Followed x xs) es = P.Followed x (more_parts xs es)

abbrev pub more_arms : P.Arms → P.Arms → P.Arms
more_arms P.NoArm bs = bs
more_arms (P.ArmOf ls s as') bs = P.ArmOf ls s (more_arms as' bs)

-- in an expression: where an operand is wanted, and behind its mark; behind a name and in its brackets, and behind a
-- whole operand
pub data ExprPlace : Type 0 where
  WantOperand : ℕ → Count → List Left → Nest → ExprPlace
  WantPrim : ℕ → Count → List Left → Option UnOp → Nest → ExprPlace
  Named : ℕ → List ℕ → Outside → ExprPlace
  Bracket : ℕ → List ℕ → Outside → ExprPlace
  HighRead : ℕ → List ℕ → ℕ → Outside → ExprPlace
  ColonRead : ℕ → List ℕ → ℕ → Outside → ExprPlace
  LowRead : ℕ → List ℕ → ℕ → ℕ → Outside → ExprPlace
  Have : ℕ → P.Expression → Outside → ExprPlace

-- where an expression begins
abbrev pub begin_expr : Style → ℕ → Alone → ExprPlace
begin_expr y q b = WantOperand q (none_yet y) [] (Only b)

-- in a statement: where one is wanted, behind a target, behind if and case, where a label is wanted, behind
-- labels, behind a comma there, behind default, in a block, and behind a whole statement
pub data StmtPlace : Type 0 where
  WantStmt : ℕ → Around → StmtPlace
  Target : ℕ → List ℕ → Around → StmtPlace
  IfRead : ℕ → ℕ → Around → StmtPlace
  CaseRead : ℕ → ℕ → Around → StmtPlace
  FirstLabel : ℕ → ℕ → P.Expression → P.Arms → Around → StmtPlace
  Labels : ℕ → ℕ → P.Expression → P.Arms → List Vector → Around → StmtPlace
  NextLabel : ℕ → ℕ → P.Expression → P.Arms → List Vector → Around → StmtPlace
  DefaultRead : ℕ → ℕ → P.Expression → P.Arms → Around → StmtPlace
  Block : ℕ → ℕ → P.Statements → Around → StmtPlace
  HaveStmt : ℕ → P.Statements → Around → StmtPlace

-- what a name is declared as: a wire or a register, or a port
pub data Use : Type 0 where
  AsWire : Head → Use
  AsReg : Head → Use
  AsPort : Dir → Head → Use

-- between statements: where the file begins, its name and its ports' opening are wanted; where a port is
-- wanted, behind input, output, and a whole direction; in a range; where a name is wanted, of this width;
-- behind a declared name, a port, and the ports; where an item is wanted; in an assign, in an always; and
-- behind the end
pub data ItemPlace : Type 0 where
  Begin : Style → ItemPlace
  HeadName : Style → ItemPlace
  HeadOpen : Style → List ℕ → ItemPlace
  WantPort : Head → ItemPlace
  InputRead : Head → ItemPlace
  OutputRead : Head → ItemPlace
  WantRange : Use → ItemPlace
  WantHigh : Use → ItemPlace
  WantColon : Use → ℕ → ItemPlace
  WantZero : Use → ℕ → ItemPlace
  WantBracket : Use → ℕ → ItemPlace
  WantName : Use → ℕ → ItemPlace
  NameRead : Use → ℕ → ItemPlace
  PortsRead : Head → ItemPlace
  WantItem : Head → ItemPlace
  AssignRead : Head → ItemPlace
  DriveRead : Head → List ℕ → ItemPlace
  AlwaysRead : Head → ItemPlace
  AtRead : Head → ItemPlace
  ClockOpen : Head → ItemPlace
  EdgeRead : Head → ItemPlace
  ClockRead : Head → List ℕ → ItemPlace
  Ended : Head → ItemPlace

pub data State : Type 0 where
  AtExpr : ExprPlace → State
  AtStmt : StmtPlace → State
  AtItem : ItemPlace → State
