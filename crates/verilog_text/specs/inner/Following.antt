-- Inner. For proofs and private contracts alone, beside Following: what may still follow where a reader of a module stands, and the module that the whole then is.
use Rattle.std.specs.Prelude.{◌≡◌, ℕ, ◌+◌, Bool, true, false, List, ◌∷◌, ◌++◌, Option, Some, None, codes}
use Rattle.bist_bits.specs.Vector.{Vector}
use Rattle.bist_text.specs.Machine.{Holds}
use Rattle.verilog_tree.specs.Grammar.{Expr, Stmt, Stmts, Arm, Arms, Default, Item, File, Port, sign, keyword, name, number, zero_number, literal, deeper, expr, literals, ends_in_if, colon_if, stmt, stmts, arm, arms, default, range, names, wire_if, output_of, port, ports, inside, items, no_token, expr_tree, then_all, alone, stmt_tree, stmts_tree, arm_tree, arms_tree, default_tree, items_tree, each, range_width, ports_tree, Limit, Style}
use Rattle.verilog_tree.specs.Free.{signed}
use Rattle.verilog_text.specs.Flat as F
use Rattle.verilog_text.specs.Flat.{Left, Count, behind}
use Rattle.verilog_tree.specs.Plain as P
use Rattle.verilog_tree.specs.Tokens.{Token}
use Rattle.verilog_tree.specs.declared.tokens.Mark.TheVariants.{Open, Close, OpenBracket, CloseBracket, CloseBrace, Semicolon, Colon, At, Equals, LessEquals}
use Rattle.verilog_tree.specs.declared.tree.Dir.TheVariants.{Input}
use Rattle.verilog_tree.specs.declared.tree.Dir.{Dir}
use Rattle.verilog_text.specs.Places.{Head, with_item, InArm, InAlways, InBlock, InDefault, Around, InThen, InElse, Outside, more_parts, more_arms, HighRead, ExprPlace, Bracket, Have, Named, LowRead, ColonRead, Block, IfRead, WantStmt, FirstLabel, CaseRead, Labels, HaveStmt, StmtPlace, DefaultRead, NextLabel, Target, AsReg, Use, AsWire, AsPort, AssignRead, WantName, HeadName, Begin, WantPort, WantRange, PortsRead, OutputRead, InputRead, WantZero, AlwaysRead, NameRead, WantColon, ClockRead, AtRead, ItemPlace, DriveRead, WantHigh, EdgeRead, HeadOpen, WantBracket, WantItem, Ended, ClockOpen, AtExpr, AtStmt, State, AtItem, style_of, Alone, AsDriver, AsCondition, AsSubject, AsValue, Nest, Only, InRound, InList, IfTrue, IfFalse, Linked, WantOperand, WantPrim}
use Rattle.verilog_text.specs.inner.Places.{Place, Two, Whole, One}
use Rattle.verilog_text.specs.Following.{case_of, with_ports, new_head}

-- what is still to be derived behind a statement
abbrev pub AfterStmt : Around → Type 0
AfterStmt (InAlways h c) = List Item
AfterStmt (InBlock r old a) = Stmts × AfterStmt a
AfterStmt (InThen r c a) = Option Stmt × AfterStmt a
AfterStmt (InElse r c s a) = AfterStmt a
AfterStmt (InArm r x as' ls a) = Arms × Default × AfterStmt a
AfterStmt (InDefault r x as' a) = AfterStmt a

-- nothing more, and the module is v, with these items
abbrev pub finished : Head → List P.ModuleItem → P.ModuleTree → List Token → Type 0
finished h l v ts = ((let m : P.ModuleTree = record { name = h.name; ports = h.ports; items = l } in m) ≡ v) × no_token ts

-- what is still to be derived behind an expression by precedence
abbrev pub AfterAlone : Alone → Type 0
AfterAlone (AsDriver h n) = List Item
AfterAlone (AsCondition r q a) = Stmt × Option Stmt × AfterStmt a
AfterAlone (AsSubject r q a) = Arm × Arms × Default × AfterStmt a
AfterAlone (AsValue n a) = AfterStmt a

abbrev pub AfterNest : Nest → Type 0
AfterNest (Only b) = AfterAlone b
AfterNest (InRound r n ws u o) = F.Tail × AfterNest o
AfterNest (InList r old n ws u o) = F.Flats × F.Tail × AfterNest o
AfterNest (IfTrue c o) = F.Flat × AfterNest o
AfterNest (IfFalse c x o) = AfterNest o

-- what is still to be derived behind an expression
abbrev pub AfterExpr : Outside → Type 0
AfterExpr (Linked n ws u o) = F.Tail × AfterNest o

abbrev pub place : List ℕ → Place → (P.Expression → List Token → Type 0) → List Token → Type 0
place n Whole K = K (P.Net n)
place n (One i) K = sign OpenBracket (number i (sign CloseBracket (K (P.BitSelect n i))))
place n (Two h l) K = sign OpenBracket (number h (sign Colon (number l (sign CloseBracket (K (P.PartSelect n h l))))))

abbrev pub in_bracket : List ℕ → Option ℕ → ℕ → (P.Expression → List Token → Type 0) → List Token → Type 0
in_bracket n None h K = sign CloseBracket (K (P.BitSelect n h))
in_bracket n (Some l) h K = sign Colon (number l (sign CloseBracket (K (P.PartSelect n h l))))

abbrev pub UseTail : Use → Type 0
UseTail (AsWire h) = List (List ℕ) × List Item
UseTail (AsReg h) = List (List ℕ) × List Item
UseTail (AsPort d h) = List Port × List Item

abbrev pub wires : ℕ → List (List ℕ) → List P.ModuleItem
wires w ns = each (λ m. P.WireItem m w) ns

abbrev pub regs : ℕ → List (List ℕ) → List P.ModuleItem
regs w ns = each (λ m. P.RegItem m w) ns

module _ (limit : Limit) where
  -- items, behind others
  abbrev pub items_behind : Head → List P.ModuleItem → List Item → P.ModuleTree → List Token → Type 0
  items_behind h l is v = items h.style limit is (keyword (codes "endmodule") (finished h (l ++ items_tree is) v))

  abbrev pub after_items : Head → List Item → P.ModuleTree → List Token → Type 0
  after_items h is v = items_behind h h.items is v

  -- an else of a condition, or none; an else stands behind no if without else
  abbrev pub else_part : Style → (P.Statements → Bool → List Token → Type 0) → ℕ → Bool → P.Expression → P.Statements
      → Option Stmt → List Token → Type 0
  else_part y K q o c s None = K (alone (P.IfElse c s P.Done)) true
  else_part y K q o c s (Some b) = λ ts. (o ≡ false)
      × keyword (codes "else") (stmt y limit q b (K (alone (P.IfElse c s (stmt_tree b))) (ends_in_if b))) ts

  -- what may follow a statement, which is s, ends in an if without else or not, and stands with so many open
  abbrev pub after_stmt : (a : Around) → AfterStmt a → ℕ → P.Statements → Bool → P.ModuleTree → List Token → Type 0
  after_stmt (InAlways h c) t q s o v = after_items (with_item h (P.AlwaysItem c s)) t v
  after_stmt (InBlock r old a) t q s o v = stmts (style_of a) limit q t.0
      (keyword (codes "end") (after_stmt a t.1 r (then_all old (then_all s (stmts_tree t.0))) false v))
  after_stmt (InThen r c a) t q s o v = else_part (style_of a) (λ w p. after_stmt a t.1 r w p v) q o c s t.0
  after_stmt (InElse r c s' a) t q s o v = after_stmt a t r (alone (P.IfElse c s' s)) o v
  after_stmt (InArm r x as' ls a) t q s o v = arms (style_of a) limit q t.0
      (default (style_of a) limit q t.1 (keyword (codes "endcase")
      (after_stmt a t.2 r (case_of x (more_arms as' (P.ArmOf ls s (arms_tree t.0))) (default_tree t.1)) false v)))
  after_stmt (InDefault r x as' a) t q s o v = keyword (codes "endcase") (after_stmt a t r (case_of x as' s) false v)

  -- behind a subject: the first arm, the others, and the end
  abbrev pub after_subject : (a : Around) → Arm → Arms → Default → AfterStmt a → ℕ → ℕ → P.Expression → P.ModuleTree → List Token → Type 0
  after_subject a x xs d t r q e v = arm (style_of a) limit q x
      (arms (style_of a) limit q xs (default (style_of a) limit q d
      (keyword (codes "endcase") (after_stmt a t r (case_of e (arm_tree x (arms_tree xs)) (default_tree d)) false v))))

  -- what may follow an expression, which is e, and stands with so many open in no other
  abbrev pub after_alone : (b : Alone) → AfterAlone b → ℕ → P.Expression → P.ModuleTree → List Token → Type 0
  after_alone (AsDriver h n) t p e v = sign Semicolon (after_items (with_item h (P.AssignItem n e)) t v)
  after_alone (AsCondition r q a) t p e v = sign Close
      (stmt (style_of a) limit q t.0 (else_part (style_of a) (λ w o. after_stmt a t.2 r w o v) q (ends_in_if t.0) e
      (stmt_tree t.0) t.1))
  after_alone (AsSubject r q a) t p e v = sign Close (after_subject a t.0 t.1 t.2 t.3 r q e v)
  after_alone (AsValue n a) t p e v = sign Semicolon (after_stmt a t p (alone (P.SetTo n e)) false v)

  -- the same of an expression by precedence, behind n operators
  abbrev pub after_nest : (o : Nest) → AfterNest o → ℕ → Count → P.Expression → P.ModuleTree → List Token → Type 0
  after_nest (Only b) t p m e v = after_alone b t p e v
  after_nest (InRound r n ws u o) t p m e v = sign Close
      (F.tail limit r t.0 (behind n m) (λ j. after_nest o t.1 r j (F.tail_tree ws (signed u e) t.0) v))
  after_nest (InList r old n ws u o) t p m e v = F.flats limit p t.0 m
      (λ j. sign CloseBrace (F.tail limit r t.1 (behind n j)
      (λ i. after_nest o t.2 r i (F.tail_tree ws
      (signed u (P.Concatenation (more_parts old (P.Followed e (F.flats_tree t.0))))) t.1) v)))
  after_nest (IfTrue c o) t p m e v = sign Colon (F.flat limit p t.0 m (λ j. after_nest o t.1 p j (P.Conditional c e (F.flat_tree t.0)) v))
  after_nest (IfFalse c x o) t p m e v = after_nest o t p m (P.Conditional c x e) v

  -- what may follow an expression, which is e, and stands with so many open
  abbrev pub after_expr : (o : Outside) → AfterExpr o → ℕ → P.Expression → P.ModuleTree → List Token → Type 0
  after_expr (Linked n ws u o) t p e v = F.tail limit p t.0 n (λ m. after_nest o t.1 p m (F.tail_tree ws (signed u e) t.0) v)

  -- an expression by precedence comes
  abbrev pub wanted_operand : ℕ → Count → List Left → (o : Nest) → P.ModuleTree → List Token → Type 0
  wanted_operand p n ws o v ts = (x : F.Operand) × (t : F.Tail) × (k : AfterNest o)
      × F.operand limit p x n (λ m. F.tail limit p t m
      (λ j. after_nest o k p j (F.tail_tree ws (F.operand_tree x) t) v)) ts

  abbrev pub rest_expr : ExprPlace → List Token → P.ModuleTree → Type 0
  rest_expr (Named p n o) ts v = (i : Place) × (t : AfterExpr o) × place n i (λ e. after_expr o t p e v) ts
  rest_expr (Bracket p n o) ts v = (h : ℕ) × (l : Option ℕ) × (t : AfterExpr o) × number h (in_bracket n l h (λ e. after_expr o t p e v)) ts
  rest_expr (HighRead p n h o) ts v = (l : Option ℕ) × (t : AfterExpr o) × in_bracket n l h (λ e. after_expr o t p e v) ts
  rest_expr (ColonRead p n h o) ts v = (l : ℕ) × (t : AfterExpr o)
      × number l (sign CloseBracket (after_expr o t p (P.PartSelect n h l) v)) ts
  rest_expr (LowRead p n h l o) ts v = (t : AfterExpr o) × sign CloseBracket (after_expr o t p (P.PartSelect n h l) v) ts
  rest_expr (Have p e o) ts v = (t : AfterExpr o) × after_expr o t p e v ts
  rest_expr (WantOperand p n ws o) ts v = wanted_operand p n ws o v ts
  rest_expr (WantPrim p n ws u o) ts v = (x : F.Prim) × (t : F.Tail) × (k : AfterNest o)
      × F.prim limit p x n (λ m. F.tail limit p t m
      (λ j. after_nest o k p j (F.tail_tree ws (signed u (F.prim_tree x)) t) v)) ts

  -- the end of a case behind these arms, and its default
  abbrev pub case_ends : (a : Around) → AfterStmt a → ℕ → P.Expression → P.Arms → P.Statements → P.ModuleTree → List Token → Type 0
  case_ends a t r x as' d v = keyword (codes "endcase") (after_stmt a t r (case_of x as' d) false v)

  abbrev pub wanted_stmt : ℕ → (a : Around) → P.ModuleTree → List Token → Type 0
  wanted_stmt q a v ts = (x : Stmt) × (t : AfterStmt a) × stmt (style_of a) limit q x (after_stmt a t q (stmt_tree x) (ends_in_if x) v) ts

  abbrev pub rest_stmt : StmtPlace → List Token → P.ModuleTree → Type 0
  rest_stmt (WantStmt q a) ts v = wanted_stmt q a v ts
  rest_stmt (Target q n a) ts v = (x : Expr) × (t : AfterStmt a)
      × sign LessEquals (expr (style_of a) limit q x (after_alone (AsValue n a) t q (expr_tree x) v)) ts
  rest_stmt (IfRead r q a) ts v = (x : Expr) × (s : Stmt) × (b : Option Stmt) × (t : AfterStmt a)
      × sign Open (λ us. Holds (deeper limit q)
      (λ p. expr (style_of a) limit p x (after_alone (AsCondition r q a) (s, b, t) p (expr_tree x) v) us)) ts
  rest_stmt (CaseRead r q a) ts v = (x : Expr) × (y : Arm) × (ys : Arms) × (d : Default) × (t : AfterStmt a)
      × sign Open (λ us. Holds (deeper limit q)
      (λ p. expr (style_of a) limit p x (after_alone (AsSubject r q a) (y, ys, d, t) p (expr_tree x) v) us)) ts
  rest_stmt (FirstLabel r q x as' a) ts v = (y : Arm) × (ys : Arms) × (d : Default) × (t : AfterStmt a)
      × arm (style_of a) limit q y (arms (style_of a) limit q ys
      (default (style_of a) limit q d (case_ends a t r x (more_arms as' (arm_tree y (arms_tree ys)))
      (default_tree d) v))) ts
  rest_stmt (Labels r q x as' ls a) ts v = (ks : List Vector) × (s : Stmt) × (ys : Arms) × (d : Default)
      × (t : AfterStmt a) × literals ks (sign Colon
      (stmt (style_of a) limit q s (after_stmt (InArm r x as' (ls ++ ks) a) (ys, d, t) q (stmt_tree s)
      (ends_in_if s) v))) ts
  rest_stmt (NextLabel r q x as' ls a) ts v = (l : Vector) × (ks : List Vector) × (s : Stmt) × (ys : Arms)
      × (d : Default) × (t : AfterStmt a)
      × literal l (literals ks (sign Colon
      (stmt (style_of a) limit q s (after_stmt (InArm r x as' (ls ++ (l ∷ ks)) a) (ys, d, t) q (stmt_tree s)
      (ends_in_if s) v)))) ts
  rest_stmt (DefaultRead r q x as' a) ts v = (c : Bool) × (s : Stmt) × (t : AfterStmt a)
      × colon_if c (stmt (style_of a) limit q s (case_ends a t r x as' (stmt_tree s) v)) ts
  rest_stmt (Block p r old a) ts v = (ss : Stmts) × (t : AfterStmt a)
      × stmts (style_of a) limit p ss (keyword (codes "end")
      (after_stmt a t r (then_all old (stmts_tree ss)) false v)) ts
  rest_stmt (HaveStmt q s a) ts v = (t : AfterStmt a) × after_stmt a t q s false v ts

  -- further ports, and the items
  abbrev pub after_ports : Head → List Port → List Item → P.ModuleTree → List Token → Type 0
  after_ports h ps is v = sign Close (sign Semicolon (after_items (with_ports h (ports_tree ps)) is v))

  -- what may follow a name that is declared, of this width
  abbrev pub after_name : (u : Use) → UseTail u → ℕ → List ℕ → P.ModuleTree → List Token → Type 0
  after_name (AsWire h) t w n v = names t.0 (sign Semicolon (items_behind h (h.items ++ wires w (n ∷ t.0)) t.1 v))
  after_name (AsReg h) t w n v = names t.0 (sign Semicolon (items_behind h (h.items ++ regs w (n ∷ t.0)) t.1 v))
  after_name (AsPort d h) t w n v = ports t.0
      (sign Close (sign Semicolon (after_items
      (with_ports h ((record { dir = d; name = n; width = w }) ∷ ports_tree t.0)) t.1 v)))

  -- the same behind a name that is declared by now
  abbrev pub name_read : (u : Use) → UseTail u → ℕ → P.ModuleTree → List Token → Type 0
  name_read (AsWire h) t w v = names t.0 (sign Semicolon (items_behind h (h.items ++ wires w t.0) t.1 v))
  name_read (AsReg h) t w v = names t.0 (sign Semicolon (items_behind h (h.items ++ regs w t.0) t.1 v))
  name_read (AsPort d h) t w v = ports t.0 (after_ports h t.0 t.1 v)

  abbrev pub rest_item : ItemPlace → List Token → P.ModuleTree → Type 0
  rest_item (Begin y) ts v = (f : File) × keyword (codes "module")
      (name f.name (sign Open (inside limit 0
      (λ q. port f.port (after_name (AsPort f.port.dir (new_head y f.name)) (f.ports, f.items)
      (range_width f.port.range) f.port.name v))))) ts
  rest_item (HeadName y) ts v = (n : List ℕ) × (p : Port) × (ps : List Port) × (is : List Item)
      × name n (sign Open (inside limit 0
      (λ q. port p (after_name (AsPort p.dir (new_head y n)) (ps, is) (range_width p.range) p.name v)))) ts
  rest_item (HeadOpen y n) ts v = (p : Port) × (ps : List Port) × (is : List Item)
      × sign Open (inside limit 0 (λ q. port p
      (after_name (AsPort p.dir (new_head y n)) (ps, is) (range_width p.range) p.name v))) ts
  rest_item (WantPort h) ts v = (p : Port) × (ps : List Port) × (is : List Item)
      × port p (after_name (AsPort p.dir h) (ps, is) (range_width p.range) p.name v) ts
  rest_item (InputRead h) ts v = (wire : Bool) × (r : Option ℕ) × (n : List ℕ) × (t : UseTail (AsPort Input h))
      × wire_if wire (range r (name n (after_name (AsPort Input h) t (range_width r) n v))) ts
  rest_item (OutputRead h) ts v = (d : Dir) × (wire : Bool) × (r : Option ℕ) × (n : List ℕ) × (t : UseTail (AsPort d h))
      × output_of d wire (range r (name n (after_name (AsPort d h) t (range_width r) n v))) ts
  rest_item (WantRange u) ts v = (r : Option ℕ) × (n : List ℕ) × (t : UseTail u) × range r (name n (after_name u t (range_width r) n v)) ts
  rest_item (WantHigh u) ts v = (i : ℕ) × (n : List ℕ) × (t : UseTail u)
      × number i (sign Colon (zero_number (sign CloseBracket (name n (after_name u t (i + 1) n v))))) ts
  rest_item (WantColon u i) ts v = (n : List ℕ) × (t : UseTail u)
      × sign Colon (zero_number (sign CloseBracket (name n (after_name u t (i + 1) n v)))) ts
  rest_item (WantZero u i) ts v = (n : List ℕ) × (t : UseTail u) × zero_number (sign CloseBracket (name n (after_name u t (i + 1) n v))) ts
  rest_item (WantBracket u i) ts v = (n : List ℕ) × (t : UseTail u) × sign CloseBracket (name n (after_name u t (i + 1) n v)) ts
  rest_item (WantName u w) ts v = (n : List ℕ) × (t : UseTail u) × name n (after_name u t w n v) ts
  rest_item (NameRead u w) ts v = (t : UseTail u) × name_read u t w v ts
  rest_item (PortsRead h) ts v = (is : List Item) × sign Semicolon (after_items h is v) ts
  rest_item (WantItem h) ts v = (is : List Item) × after_items h is v ts
  rest_item (AssignRead h) ts v = (n : List ℕ) × (x : Expr) × (is : List Item)
      × name n (sign Equals (expr h.style limit 0 x (after_alone (AsDriver h n) is 0 (expr_tree x) v))) ts
  rest_item (DriveRead h n) ts v = (x : Expr) × (is : List Item)
      × sign Equals (expr h.style limit 0 x (after_alone (AsDriver h n) is 0 (expr_tree x) v)) ts
  rest_item (AlwaysRead h) ts v = (c : List ℕ) × (s : Stmt) × (is : List Item)
      × sign At (sign Open (inside limit 0
      (λ q. keyword (codes "posedge") (name c
      (sign Close (stmt h.style limit 0 s (after_stmt (InAlways h c) is 0 (stmt_tree s) (ends_in_if s) v))))))) ts
  rest_item (AtRead h) ts v = (c : List ℕ) × (s : Stmt) × (is : List Item)
      × sign Open (inside limit 0 (λ q. keyword (codes "posedge")
      (name c (sign Close (stmt h.style limit 0 s
      (after_stmt (InAlways h c) is 0 (stmt_tree s) (ends_in_if s) v)))))) ts
  rest_item (ClockOpen h) ts v = (c : List ℕ) × (s : Stmt) × (is : List Item)
      × keyword (codes "posedge") (name c
      (sign Close (stmt h.style limit 0 s (after_stmt (InAlways h c) is 0 (stmt_tree s) (ends_in_if s) v)))) ts
  rest_item (EdgeRead h) ts v = (c : List ℕ) × (s : Stmt) × (is : List Item)
      × name c (sign Close (stmt h.style limit 0 s (after_stmt (InAlways h c) is 0 (stmt_tree s) (ends_in_if s) v))) ts
  rest_item (ClockRead h c) ts v = (s : Stmt) × (is : List Item)
      × sign Close (stmt h.style limit 0 s (after_stmt (InAlways h c) is 0 (stmt_tree s) (ends_in_if s) v)) ts
  rest_item (Ended h) ts v = finished h h.items v ts

  abbrev pub rest : State → List Token → P.ModuleTree → Type 0
  rest (AtExpr p) ts v = rest_expr p ts v
  rest (AtStmt p) ts v = rest_stmt p ts v
  rest (AtItem p) ts v = rest_item p ts v
