-- Public. What a reader of a module does at each token.
use Rattle.std.specs.Prelude.{ℕ, ◌+◌, Bool, true, false, List, [], ◌∷◌, ◌++◌, Option, Some, None, if◌then◌else◌, codes}
use Rattle.std.specs.Str.{bytes_eq}
use Rattle.bist_bits.specs.Vector.{Vector}
use Rattle.bist_text.specs.ReservedWords.{is_among, reserved_words}
use Rattle.verilog_tree.specs.Grammar.{is_sign, is_zero, deeper, then_all, alone, Limit}
use Rattle.verilog_tree.specs.Free.{signed}
use Rattle.verilog_text.specs.Flat.{Left, Count, one_more, in_parens, in_braces, behind, linked, settle_all}
pub use Rattle.verilog_tree.specs.Marked.{unary_of, infix_of}
use Rattle.verilog_tree.specs.Plain as P
use Rattle.verilog_tree.specs.Tokens.{Token, Identifier, Number, Based, Unused, Sign}
use Rattle.verilog_tree.specs.declared.tokens.Mark.TheVariants.{Open, Close, OpenBracket, CloseBracket, OpenBrace, CloseBrace, Comma, Semicolon, Colon, At, Question, Equals, LessEquals}
use Rattle.verilog_tree.specs.declared.tokens.Mark.{Mark}
use Rattle.verilog_tree.specs.declared.tree.BinOp.{BinOp}
use Rattle.verilog_tree.specs.declared.tree.Dir.TheVariants.{Input, Output, OutputReg}
use Rattle.verilog_tree.specs.declared.tree.UnOp.{UnOp}
use Rattle.verilog_text.specs.Following.{case_of, declare, new_head}
use Rattle.verilog_text.specs.Places.{Head, with_item, InArm, InAlways, InBlock, InDefault, Around, InThen, InElse, Outside, more_parts, more_arms, HighRead, ExprPlace, Bracket, Have, Named, LowRead, ColonRead, Block, IfRead, WantStmt, FirstLabel, CaseRead, Labels, HaveStmt, StmtPlace, DefaultRead, NextLabel, Target, AsReg, Use, AsWire, AsPort, AssignRead, WantName, HeadName, Begin, WantPort, WantRange, PortsRead, OutputRead, InputRead, WantZero, AlwaysRead, NameRead, WantColon, ClockRead, AtRead, ItemPlace, DriveRead, WantHigh, EdgeRead, HeadOpen, WantBracket, WantItem, Ended, ClockOpen, AtExpr, AtStmt, State, AtItem, style_of, Alone, AsDriver, AsCondition, AsSubject, AsValue, Nest, Only, InRound, InList, IfTrue, IfFalse, Linked, WantOperand, WantPrim, begin_expr}

abbrev pub to_expr : ExprPlace → Option State
to_expr p = Some (AtExpr p)

abbrev pub to_stmt : StmtPlace → Option State
to_stmt p = Some (AtStmt p)

abbrev pub in_room : {A : Type 0} → Option A → (A → State) → Option State
in_room None f = None
in_room (Some q) f = Some (f q)

abbrev pub only_where : Bool → Option State → Option State
only_where true o = o
only_where false o = None

-- this mark, and then the state
abbrev pub expects : Mark → State → Token → Option State
expects m s (Sign n) = only_where (is_sign m n) (Some s)
expects m s _ = None

-- this word
abbrev pub expects_word : List ℕ → State → Token → Option State
expects_word w s (Identifier v) = only_where (bytes_eq v w) (Some s)
expects_word w s _ = None

-- behind an expression that stands in no other
abbrev pub alone_step : ℕ → P.Expression → Alone → Token → Option State
alone_step p e (AsDriver h n) t = expects Semicolon (AtItem (WantItem (with_item h (P.AssignItem n e)))) t
alone_step p e (AsCondition r q a) t = expects Close (AtStmt (WantStmt q (InThen r e a))) t
alone_step p e (AsSubject r q a) t = expects Close (AtStmt (FirstLabel r q e P.NoArm a)) t
alone_step p e (AsValue n a) t = expects Semicolon (AtStmt (HaveStmt p (alone (P.SetTo n e)) a)) t

abbrev pub parts_step : ℕ → Count → ℕ → P.Expressions → P.Expression → Count → List Left → Option UnOp → Nest → Mark → Option State
parts_step p m r old e n ws u o Comma = to_expr (WantOperand p m [] (InList r (more_parts old (P.Followed e P.NoMore)) n ws u o))
parts_step p m r old e n ws u o CloseBrace = to_expr
    (Have r (P.Concatenation (more_parts old (P.Followed e P.NoMore))) (Linked (behind n m) ws u o))
parts_step p m r old e n ws u o _ = None

-- behind a whole expression, with m operators counted
abbrev pub close_step : ℕ → Count → P.Expression → Nest → Token → Option State
close_step p m e (Only b) t = alone_step p e b t
close_step p m e (InRound r n ws u o) t = expects Close (AtExpr (Have r e (Linked (behind n m) ws u o))) t
close_step p m e (InList r old n ws u o) (Sign x) = parts_step p m r old e n ws u o x
close_step p m e (InList r old n ws u o) _ = None
close_step p m e (IfTrue c o) t = expects Colon (AtExpr (WantOperand p m [] (IfFalse c e o))) t
close_step p m e (IfFalse c x o) t = close_step p m (P.Conditional c x e) o t

-- the words that begin a statement, or a target
abbrev pub target_step : Bool → ℕ → List ℕ → Around → Option State
target_step true q w a = None
target_step false q w a = to_stmt (Target q w a)

abbrev pub is_word : List ℕ → Token → Bool
is_word w (Identifier v) = bytes_eq v w
is_word w _ = false

abbrev pub arm_step : ℕ → ℕ → P.Expression → P.Arms → Around → Token → Option State
arm_step r q x as' a (Based y) = to_stmt (Labels r q x as' (y ∷ []) a)
arm_step r q x as' a t = if is_word (codes "default") t then to_stmt (DefaultRead r q x as' a) else if is_word
    (codes "endcase") t then to_stmt (HaveStmt r (case_of x as' P.Done) a) else None

abbrev pub item_word_step : Head → List ℕ → Option State
item_word_step h w = if bytes_eq w (codes "wire") then Some (AtItem (WantRange (AsWire h))) else if bytes_eq w
    (codes "reg") then Some (AtItem (WantRange (AsReg h))) else if bytes_eq w (codes "assign") then Some
    (AtItem (AssignRead h)) else if bytes_eq w (codes "always") then Some (AtItem (AlwaysRead h)) else if bytes_eq w
    (codes "endmodule") then Some (AtItem (Ended h)) else None

abbrev pub want_item_step : Head → Token → Option State
want_item_step h (Identifier w) = item_word_step h w
want_item_step h _ = None

abbrev pub labels_step : ℕ → ℕ → P.Expression → P.Arms → List Vector → Around → Token → Option State
labels_step r q x as' ls a (Sign Comma) = to_stmt (NextLabel r q x as' ls a)
labels_step r q x as' ls a (Sign Colon) = to_stmt (WantStmt q (InArm r x as' ls a))
labels_step r q x as' ls a _ = None

abbrev pub to_item : ItemPlace → Option State
to_item p = Some (AtItem p)

-- a name that isn't reserved
abbrev pub unless : Bool → State → Option State
unless true s = None
unless false s = Some s

abbrev pub takes_name : (List ℕ → State) → Token → Option State
takes_name f (Identifier n) = unless (is_among n reserved_words) (f n)
takes_name f _ = None

abbrev pub takes_number : (ℕ → State) → Token → Option State
takes_number f (Number l i) = Some (f i)
takes_number f _ = None

abbrev pub takes_zero : State → Token → Option State
takes_zero s (Number l i) = only_where (is_zero l i) (Some s)
takes_zero s _ = None

abbrev pub declared : Use → ℕ → List ℕ → State
declared u w n = AtItem (NameRead (declare u n w) w)

abbrev pub range_step : Use → Token → Option State
range_step u (Sign OpenBracket) = to_item (WantHigh u)
range_step u t = takes_name (declared u 1) t

abbrev pub port_step : Head → Token → Option State
port_step h t = if is_word (codes "input") t then to_item (InputRead h) else if is_word (codes "output") t then to_item
    (OutputRead h) else None

abbrev pub input_step : Head → Token → Option State
input_step h t = if is_word (codes "wire") t then to_item (WantRange (AsPort Input h)) else range_step (AsPort Input h) t

abbrev pub output_step : Head → Token → Option State
output_step h t = if is_word (codes "wire") t then to_item (WantRange (AsPort Output h)) else if is_word
    (codes "reg") t then to_item (WantRange (AsPort OutputReg h)) else range_step (AsPort Output h) t

-- behind a name: another one, or the end
abbrev pub list_step : State → Mark → State → Token → Option State
list_step more m end' (Sign Comma) = Some more
list_step more m end' t = expects m end' t

abbrev pub name_step : Use → ℕ → Token → Option State
name_step (AsWire h) w t = list_step (AtItem (WantName (AsWire h) w)) Semicolon (AtItem (WantItem h)) t
name_step (AsReg h) w t = list_step (AtItem (WantName (AsReg h) w)) Semicolon (AtItem (WantItem h)) t
name_step (AsPort d h) w t = list_step (AtItem (WantPort h)) Close (AtItem (PortsRead h)) t

abbrev pub value_item : ItemPlace → Option P.ModuleTree
value_item (Ended h) = Some (record { name = h.name; ports = h.ports; items = h.items })
value_item _ = None

-- the module, where the file may end
abbrev pub value : State → Option P.ModuleTree
value (AtItem p) = value_item p
value _ = None

module _ (limit : Limit) where
  -- behind an operand: an operator, a choice, or the end
  abbrev pub ask_step : ℕ → Count → List Left → P.Expression → Nest → Mark → Option State
  ask_step p n ws e o Question = in_room (one_more limit n) (λ m. AtExpr (WantOperand p m [] (IfTrue (settle_all ws e) o)))
  ask_step p n ws e o m = close_step p n (settle_all ws e) o (Sign m)

  abbrev pub link_step : Option BinOp → ℕ → Count → List Left → P.Expression → Nest → Mark → Option State
  link_step (Some b) p n ws e o m = in_room (one_more limit n) (λ j. AtExpr (WantOperand p j (linked b ws e) o))
  link_step None p n ws e o m = ask_step p n ws e o m

  abbrev pub have_step : ℕ → P.Expression → Outside → Token → Option State
  have_step p e (Linked n ws u o) (Sign m) = link_step (infix_of m) p n ws (signed u e) o m
  have_step p e (Linked n ws u o) t = close_step p n (settle_all ws (signed u e)) o t

  -- where a prim is wanted, and where an operand is
  abbrev pub prim_step : ℕ → Count → List Left → Option UnOp → Nest → Token → Option State
  prim_step p n ws u o (Identifier w) = if is_among w reserved_words then None else to_expr (Named p w (Linked n ws u o))
  prim_step p n ws u o (Number l i) = None
  prim_step p n ws u o (Based x) = to_expr (Have p (P.Literal x) (Linked n ws u o))
  prim_step p n ws u o Unused = None
  prim_step p n ws u o (Sign Open) = in_room (deeper limit p) (λ q. AtExpr (WantOperand q (in_parens n) [] (InRound p n ws u o)))
  prim_step p n ws u o (Sign OpenBrace) = in_room (deeper limit p)
      (λ q. AtExpr (WantOperand q (in_braces n) [] (InList p P.NoMore n ws u o)))
  prim_step p n ws u o (Sign m) = None

  abbrev pub sign_step : Option UnOp → ℕ → Count → List Left → Nest → Mark → Option State
  sign_step None p n ws o m = prim_step p n ws None o (Sign m)
  sign_step (Some u) p n ws o m = in_room (one_more limit n) (λ j. AtExpr (WantPrim p j ws (Some u) o))

  abbrev pub operand_step : ℕ → Count → List Left → Nest → Token → Option State
  operand_step p n ws o (Sign m) = sign_step (unary_of m) p n ws o m
  operand_step p n ws o t = prim_step p n ws None o t

  abbrev pub step_expr : ExprPlace → Token → Option State
  step_expr (Named p n o) (Sign OpenBracket) = to_expr (Bracket p n o)
  step_expr (Named p n o) t = have_step p (P.Net n) o t
  step_expr (Bracket p n o) (Number l h) = to_expr (HighRead p n h o)
  step_expr (Bracket p n o) _ = None
  step_expr (HighRead p n h o) (Sign CloseBracket) = to_expr (Have p (P.BitSelect n h) o)
  step_expr (HighRead p n h o) (Sign Colon) = to_expr (ColonRead p n h o)
  step_expr (HighRead p n h o) _ = None
  step_expr (ColonRead p n h o) (Number k l) = to_expr (LowRead p n h l o)
  step_expr (ColonRead p n h o) _ = None
  step_expr (LowRead p n h l o) t = expects CloseBracket (AtExpr (Have p (P.PartSelect n h l) o)) t
  step_expr (Have p e o) t = have_step p e o t
  step_expr (WantOperand p n ws o) t = operand_step p n ws o t
  step_expr (WantPrim p n ws u o) t = prim_step p n ws u o t

  abbrev pub word_step : ℕ → Around → List ℕ → Option State
  word_step q a w = if bytes_eq w (codes "begin") then in_room (deeper limit q)
      (λ p. AtStmt (Block p q P.Done a)) else if bytes_eq w (codes "if") then in_room (deeper limit q)
      (λ p. AtStmt (IfRead q p a)) else if bytes_eq w (codes "case") then in_room (deeper limit q)
      (λ p. AtStmt (CaseRead q p a)) else target_step (is_among w reserved_words) q w a

  abbrev pub want_stmt_step : ℕ → Around → Token → Option State
  want_stmt_step q a (Identifier w) = word_step q a w
  want_stmt_step q a _ = None

  abbrev pub block_step : ℕ → ℕ → P.Statements → Around → Token → Option State
  block_step p r old a t = if is_word (codes "end") t then to_stmt (HaveStmt r old a) else want_stmt_step p (InBlock r old a) t

  -- behind a whole statement: an if without else ends where no else comes
  abbrev pub have_stmt_step : Around → ℕ → P.Statements → Token → Option State
  have_stmt_step (InAlways h c) q s t = want_item_step (with_item h (P.AlwaysItem c s)) t
  have_stmt_step (InBlock r old a) q s t = block_step q r (then_all old s) a t
  have_stmt_step (InThen r c a) q s t = if is_word (codes "else") t then to_stmt
      (WantStmt q (InElse r c s a)) else have_stmt_step a r (alone (P.IfElse c s P.Done)) t
  have_stmt_step (InElse r c s' a) q s t = have_stmt_step a r (alone (P.IfElse c s' s)) t
  have_stmt_step (InArm r x as' ls a) q s t = arm_step r q x (more_arms as' (P.ArmOf ls s P.NoArm)) a t
  have_stmt_step (InDefault r x as' a) q s t = expects_word (codes "endcase") (AtStmt (HaveStmt r (case_of x as' s) a)) t

  abbrev pub step_stmt : StmtPlace → Token → Option State
  step_stmt (WantStmt q a) t = want_stmt_step q a t
  step_stmt (Target q n a) t = expects LessEquals (AtExpr (begin_expr (style_of a) q (AsValue n a))) t
  step_stmt (IfRead r q a) (Sign Open) = in_room (deeper limit q) (λ p. AtExpr (begin_expr (style_of a) p (AsCondition r q a)))
  step_stmt (IfRead r q a) _ = None
  step_stmt (CaseRead r q a) (Sign Open) = in_room (deeper limit q) (λ p. AtExpr (begin_expr (style_of a) p (AsSubject r q a)))
  step_stmt (CaseRead r q a) _ = None
  step_stmt (FirstLabel r q x as' a) (Based y) = to_stmt (Labels r q x as' (y ∷ []) a)
  step_stmt (FirstLabel r q x as' a) _ = None
  step_stmt (Labels r q x as' ls a) t = labels_step r q x as' ls a t
  step_stmt (NextLabel r q x as' ls a) (Based y) = to_stmt (Labels r q x as' (ls ++ (y ∷ [])) a)
  step_stmt (NextLabel r q x as' ls a) _ = None
  step_stmt (DefaultRead r q x as' a) (Sign Colon) = to_stmt (WantStmt q (InDefault r x as' a))
  step_stmt (DefaultRead r q x as' a) t = want_stmt_step q (InDefault r x as' a) t
  step_stmt (Block p r old a) t = block_step p r old a t
  step_stmt (HaveStmt q s a) t = have_stmt_step a q s t

  -- ( , where there is room
  abbrev pub opens : ℕ → State → Token → Option State
  opens r s (Sign Open) = in_room (deeper limit r) (λ q. s)
  opens r s _ = None

  abbrev pub step_item : ItemPlace → Token → Option State
  step_item (Begin y) t = expects_word (codes "module") (AtItem (HeadName y)) t
  step_item (HeadName y) t = takes_name (λ n. AtItem (HeadOpen y n)) t
  step_item (HeadOpen y n) t = opens 0 (AtItem (WantPort (new_head y n))) t
  step_item (WantPort h) t = port_step h t
  step_item (InputRead h) t = input_step h t
  step_item (OutputRead h) t = output_step h t
  step_item (WantRange u) t = range_step u t
  step_item (WantHigh u) t = takes_number (λ i. AtItem (WantColon u i)) t
  step_item (WantColon u i) t = expects Colon (AtItem (WantZero u i)) t
  step_item (WantZero u i) t = takes_zero (AtItem (WantBracket u i)) t
  step_item (WantBracket u i) t = expects CloseBracket (AtItem (WantName u (i + 1))) t
  step_item (WantName u w) t = takes_name (declared u w) t
  step_item (NameRead u w) t = name_step u w t
  step_item (PortsRead h) t = expects Semicolon (AtItem (WantItem h)) t
  step_item (WantItem h) t = want_item_step h t
  step_item (AssignRead h) t = takes_name (λ n. AtItem (DriveRead h n)) t
  step_item (DriveRead h n) t = expects Equals (AtExpr (begin_expr h.style 0 (AsDriver h n))) t
  step_item (AlwaysRead h) t = expects At (AtItem (AtRead h)) t
  step_item (AtRead h) t = opens 0 (AtItem (ClockOpen h)) t
  step_item (ClockOpen h) t = expects_word (codes "posedge") (AtItem (EdgeRead h)) t
  step_item (EdgeRead h) t = takes_name (λ c. AtItem (ClockRead h c)) t
  step_item (ClockRead h c) t = expects Close (AtStmt (WantStmt 0 (InAlways h c))) t
  step_item (Ended h) t = None

  abbrev pub step : State → Token → Option State
  step (AtExpr p) t = step_expr p t
  step (AtStmt p) t = step_stmt p t
  step (AtItem p) t = step_item p t
