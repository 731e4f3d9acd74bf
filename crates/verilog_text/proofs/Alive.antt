-- Each state of the reader goes on to a module, by tokens that keep all limits, and by bytes that are those tokens.
use Rattle.std.proofs.Common.{◌≡◌, ℕ, ◌+◌, Bool, true, false, List, [], ◌∷◌, ◌++◌, Option, Some, None, refl, sym, subst, codes}
use Rattle.std.proofs.lemmas.Bool.{and_parts, and_from}
use Rattle.bist_bits.specs.Vector.{Vector}
use Rattle.bist_text.specs.Grammar.{are_bytes}
use Rattle.bist_text.specs.Machine.{Holds}
use Rattle.bist_text.proofs.Bytes.{are_bytes-append}
use Rattle.verilog_tree.specs.declared.tokens.Mark.TheVariants.{Open, Close, CloseBracket, CloseBrace, Semicolon, Colon, At, Equals, LessEquals}
use Rattle.verilog_tree.specs.declared.tokens.Within.TheVariants.{Between}
use Rattle.verilog_tree.specs.declared.tree.Dir.TheVariants.{Input, Output}
use Rattle.verilog_tree.specs.declared.tree.Dir.{Dir}
use Rattle.verilog_tree.specs.Grammar.{Limit, deeper, Stmt, Assign, NoStmt, ArmOf, NoArm, NoDefault, Port, then_all, alone, Style, Parenthesised, ByPrecedence, Expr, Full, Free, expr, expr_tree, stmt, stmt_tree, sign, keyword}
use Rattle.verilog_tree.specs.Parenthesised as Y
use Rattle.verilog_tree.specs.Free as T
use Rattle.verilog_tree.specs.Free.{signed}
use Rattle.verilog_text.specs.Flat as F
use Rattle.verilog_text.specs.Flat.{settle_all, Count, behind}
use Rattle.verilog_text.proofs.Nesting.{lift}
use Rattle.verilog_text.proofs.Counting.{none_is_few}
use Rattle.verilog_tree.specs.Plain as P
use Rattle.verilog_tree.specs.Spells.{all_limits, keeps, all_keep}
use Rattle.verilog_tree.specs.Tokens.{Token, Identifier, Number, Based, Sign, Lexed}
use Rattle.verilog_text.specs.inner.Following.{items_behind, wires, regs, after_items, AfterStmt, after_stmt, AfterExpr, after_expr, UseTail, after_name, name_read, rest, case_ends, AfterAlone, after_alone, AfterNest, after_nest}
use Rattle.verilog_text.specs.Following.{with_ports, new_head, case_of}
use Rattle.verilog_text.specs.Lexing.{InGap}
use Rattle.verilog_text.specs.Places.{Head, with_item, Around, Outside, ExprPlace, StmtPlace, Use, ItemPlace, State, more_parts, more_arms, InAlways, InBlock, InThen, InElse, InArm, InDefault, Named, Bracket, HighRead, ColonRead, LowRead, Have, WantStmt, Target, IfRead, CaseRead, FirstLabel, Labels, NextLabel, DefaultRead, Block, HaveStmt, AsWire, AsReg, AsPort, Begin, HeadName, HeadOpen, WantPort, InputRead, OutputRead, WantRange, WantHigh, WantColon, WantZero, WantBracket, WantName, NameRead, PortsRead, WantItem, AssignRead, DriveRead, AlwaysRead, AtRead, ClockOpen, EdgeRead, ClockRead, Ended, AtExpr, AtStmt, AtItem, style_of, Alone, AsDriver, AsCondition, AsSubject, AsValue, Nest, Only, InRound, InList, IfTrue, IfFalse, Linked, WantOperand, WantPrim}
use Rattle.verilog_text.specs.inner.Places.{Whole}
use Rattle.verilog_text.proofs.LexingOn.{lexing, lexed_on}

-- some bytes are tokens within all limits of which P holds, with some module
abbrev pub Alive : (List Token → P.ModuleTree → Type 0) → Type 0
Alive Q = (b : List ℕ) × (ts : List Token) × (v : P.ModuleTree) × (are_bytes b ≡ true) × (all_keep all_limits ts ≡ true) × Lexed ts b × Q ts v

keep_on : (us ts : List Token) → all_keep all_limits us ≡ true → all_keep all_limits ts ≡ true → all_keep all_limits (us ++ ts) ≡ true
keep_on [] ts h k = k
keep_on (u ∷ us) ts h k = let p = and_parts (keeps all_limits u) (all_keep all_limits us) h in and_from (keeps all_limits u) (all_keep all_limits (us ++ ts)) p.0 (keep_on us ts p.1 k)

-- these bytes first, which are these tokens
pub add : (w : List ℕ) (us : List Token) (Q R : List Token → P.ModuleTree → Type 0) → lexing w (InGap Between) ≡ Some (us, InGap Between) → are_bytes w ≡ true → all_keep all_limits us ≡ true → Alive Q → ((ts : List Token) (v : P.ModuleTree) → Q ts v → R (us ++ ts) v) → Alive R
add w us Q R e f g h k = (w ++ h.0, us ++ h.1, h.2, are_bytes-append w h.0 f h.3, keep_on us h.1 g h.4, lexed_on w (InGap Between) (InGap Between) us h.0 h.1 e h.5, k h.1 h.2 h.6)

pub just : (Q R : List Token → P.ModuleTree → Type 0) → Alive Q → ((ts : List Token) (v : P.ModuleTree) → Q ts v → R ts v) → Alive R
just Q R h k = (h.0, h.1, h.2, h.3, h.4, h.5, k h.1 h.2 h.6)

-- the end of the tokens
pub done : (Q : List Token → P.ModuleTree → Type 0) (v : P.ModuleTree) → Q [] v → Alive Q
done Q v h = ([], [], v, refl, refl, tt, h)

abbrev pub a : List ℕ
a = codes "a"

abbrev pub bit : Vector
bit = record { width = 1; value = 0 }

-- the expression a
abbrev named : Style → Expr
named Parenthesised = Full (Y.Name a)
named ByPrecedence = Free (T.Simple (lift T.lor (T.Operand None (T.Name a))))

-- a <= a;
abbrev set : Style → Stmt
set y = Assign a (named y)

abbrev is_set : List ℕ → P.Statements
is_set n = alone (P.SetTo n (P.Net a))

abbrev word : List ℕ → Token
word w = Identifier w

abbrev module_of : Head → List P.ModuleItem → P.ModuleTree
module_of h l = record { name = h.name; ports = h.ports; items = l }

abbrev a_port : Port
a_port = record { dir = Input; wire = false; range = None; name = a }

abbrev ported : Head → Dir → ℕ → List ℕ → Head
ported h d w n = with_ports h ((record { dir = d; name = n; width = w }) ∷ [])

module _ (limit : Limit) where
  reads_a : (y : Style) (q : ℕ) (K : P.Expression → List Token → Type 0) (ts : List Token) → K (P.Net a) ts → expr y limit q (named y) (K (expr_tree (named y))) (word a ∷ ts)
  reads_a Parenthesised q K ts h = (refl, refl, h)
  reads_a ByPrecedence q K ts h = (none_is_few limit, (refl, refl, h))

  reads_set : (y : Style) (q : ℕ) (K : P.Statements → List Token → Type 0) (ts : List Token) → K (is_set a) ts → stmt y limit q (set y) (K (stmt_tree (set y))) (word a ∷ Sign LessEquals ∷ word a ∷ Sign Semicolon ∷ ts)
  reads_set y q K ts h = (refl, refl, reads_a y q (λ e. sign Semicolon (K (alone (P.SetTo a e)))) (Sign Semicolon ∷ ts) h)

  -- the end of the module behind an item
  ends_module : (h : Head) (l : List P.ModuleItem) (Q : List Token → P.ModuleTree → Type 0) → Q (word (codes "endmodule") ∷ []) (module_of h l) → Alive Q
  ends_module h l Q k = add (codes "endmodule ") (word (codes "endmodule") ∷ []) (λ ts v. (ts ≡ []) × (v ≡ module_of h l)) Q refl refl refl (done (λ ts v. (ts ≡ []) × (v ≡ module_of h l)) (module_of h l) (refl, refl)) (λ ts v e. subst (λ (x : List Token). Q (word (codes "endmodule") ∷ x) v) (sym e.0) (subst (λ (x : P.ModuleTree). Q (word (codes "endmodule") ∷ []) x) (sym e.1) k))

  abbrev AtEnd : (x : Around) → ℕ → P.Statements → Bool → List Token → P.ModuleTree → Type 0
  AtEnd x q s o ts v = (t : AfterStmt x) × after_stmt limit x t q s o v ts

  -- the end of all that a whole statement stands in
  ends_stmt : (x : Around) (q : ℕ) (s : P.Statements) (o : Bool) → Alive (AtEnd x q s o)
  ends_stmt (InAlways h c) q s o = ends_module (record h { items = h.items ++ (P.AlwaysItem c s ∷ []) }) ((h.items ++ (P.AlwaysItem c s ∷ [])) ++ []) (AtEnd (InAlways h c) q s o) ([], (refl, tt))
  ends_stmt (InBlock r old x) q s o = add (codes "end ") (word (codes "end") ∷ []) (AtEnd x r (then_all old (then_all s P.Done)) false) (AtEnd (InBlock r old x) q s o) refl refl refl (ends_stmt x r (then_all old (then_all s P.Done)) false) (λ ts v h. ((NoStmt, h.0), h.1))
  ends_stmt (InThen r c x) q s o = just (AtEnd x r (alone (P.IfElse c s P.Done)) true) (AtEnd (InThen r c x) q s o) (ends_stmt x r (alone (P.IfElse c s P.Done)) true) (λ ts v h. ((None, h.0), h.1))
  ends_stmt (InElse r c s' x) q s o = ends_stmt x r (alone (P.IfElse c s' s)) o
  ends_stmt (InArm r e as' ls x) q s o = add (codes "endcase ") (word (codes "endcase") ∷ []) (AtEnd x r (case_of e (more_arms as' (P.ArmOf ls s P.NoArm)) P.Done) false) (AtEnd (InArm r e as' ls x) q s o) refl refl refl (ends_stmt x r (case_of e (more_arms as' (P.ArmOf ls s P.NoArm)) P.Done) false) (λ ts v h. ((NoArm, NoDefault, h.0), h.1))
  ends_stmt (InDefault r e as' x) q s o = add (codes "endcase ") (word (codes "endcase") ∷ []) (AtEnd x r (case_of e as' s) false) (AtEnd (InDefault r e as' x) q s o) refl refl refl (ends_stmt x r (case_of e as' s) false) (λ ts v h. h)

  abbrev Whole_expr : Outside → ℕ → P.Expression → List Token → P.ModuleTree → Type 0
  Whole_expr o p e ts v = (t : AfterExpr o) × after_expr limit o t p e v ts

  abbrev Nest_end : Nest → ℕ → Count → P.Expression → List Token → P.ModuleTree → Type 0
  Nest_end o p n e ts v = (k : AfterNest o) × after_nest limit o k p n e v ts

  abbrev Alone_end : Alone → ℕ → P.Expression → List Token → P.ModuleTree → Type 0
  Alone_end o p e ts v = (t : AfterAlone o) × after_alone limit o t p e v ts

  -- a mark, and the end of all that a whole expression stands in
  ends_alone : (o : Alone) (p : ℕ) (e : P.Expression) → Alive (Alone_end o p e)
  ends_alone (AsDriver h n) p e = add (codes "; ") (Sign Semicolon ∷ []) (λ ts v. after_items limit (with_item h (P.AssignItem n e)) [] v ts) (Alone_end (AsDriver h n) p e) refl refl refl (ends_module (record h { items = h.items ++ (P.AssignItem n e ∷ []) }) ((h.items ++ (P.AssignItem n e ∷ [])) ++ []) (λ ts v. after_items limit (with_item h (P.AssignItem n e)) [] v ts) (refl, tt)) (λ ts v h. ([], h))
  ends_alone (AsCondition r q x) p e = add (codes ") a <= a ; ") (Sign Close ∷ word a ∷ Sign LessEquals ∷ word a ∷ Sign Semicolon ∷ []) (AtEnd x r (alone (P.IfElse e (is_set a) P.Done)) true) (Alone_end (AsCondition r q x) p e) refl refl refl (ends_stmt x r (alone (P.IfElse e (is_set a) P.Done)) true) (λ ts v h. ((set (style_of x), None, h.0), reads_set (style_of x) q (λ w. after_stmt limit x h.0 r (alone (P.IfElse e w P.Done)) true v) ts h.1))
  ends_alone (AsSubject r q x) p e = add (codes ") 1'h0 : a <= a ; endcase ") (Sign Close ∷ Based bit ∷ Sign Colon ∷ word a ∷ Sign LessEquals ∷ word a ∷ Sign Semicolon ∷ word (codes "endcase") ∷ []) (AtEnd x r (case_of e (P.ArmOf (bit ∷ []) (is_set a) P.NoArm) P.Done) false) (Alone_end (AsSubject r q x) p e) refl refl refl (ends_stmt x r (case_of e (P.ArmOf (bit ∷ []) (is_set a) P.NoArm) P.Done) false) (λ ts v h. ((ArmOf bit [] (set (style_of x)), NoArm, NoDefault, h.0), (refl, reads_set (style_of x) q (λ w. keyword (codes "endcase") (after_stmt limit x h.0 r (case_of e (P.ArmOf (bit ∷ []) w P.NoArm) P.Done) false v)) (word (codes "endcase") ∷ ts) h.1)))
  ends_alone (AsValue n x) p e = add (codes "; ") (Sign Semicolon ∷ []) (AtEnd x p (alone (P.SetTo n e)) false) (Alone_end (AsValue n x) p e) refl refl refl (ends_stmt x p (alone (P.SetTo n e)) false) (λ ts v h. h)

  -- the same of an expression by precedence
  ends_nest : (o : Nest) (p : ℕ) (m : Count) (e : P.Expression) → Alive (Nest_end o p m e)
  ends_nest (Only b) p m e = ends_alone b p e
  ends_nest (InRound r n ws u o) p m e = add (codes ") ") (Sign Close ∷ []) (Nest_end o r (behind n m) (settle_all ws (signed u e))) (Nest_end (InRound r n ws u o) p m e) refl refl refl (ends_nest o r (behind n m) (settle_all ws (signed u e))) (λ ts v h. ((F.End, h.0), h.1))
  ends_nest (InList r old n ws u o) p m e = add (codes "} ") (Sign CloseBrace ∷ []) (Nest_end o r (behind n m) (settle_all ws (signed u (P.Concatenation (more_parts old (P.Followed e P.NoMore)))))) (Nest_end (InList r old n ws u o) p m e) refl refl refl (ends_nest o r (behind n m) (settle_all ws (signed u (P.Concatenation (more_parts old (P.Followed e P.NoMore)))))) (λ ts v h. ((F.NoFlat, F.End, h.0), h.1))
  ends_nest (IfTrue c o) p m e = add (codes ": a ") (Sign Colon ∷ word a ∷ []) (Nest_end o p m (P.Conditional c e (P.Net a))) (Nest_end (IfTrue c o) p m e) refl refl refl (ends_nest o p m (P.Conditional c e (P.Net a))) (λ ts v h. ((F.FlatOf (F.OperandOf None (F.Name a)) F.End, h.0), (refl, refl, h.1)))
  ends_nest (IfFalse c x o) p m e = ends_nest o p m (P.Conditional c x e)

  -- a mark, and the end of all that a whole expression stands in
  ends_expr : (o : Outside) (p : ℕ) (e : P.Expression) → Alive (Whole_expr o p e)
  ends_expr (Linked n ws u o) p e = just (Nest_end o p n (settle_all ws (signed u e))) (Whole_expr (Linked n ws u o) p e) (ends_nest o p n (settle_all ws (signed u e))) (λ ts v h. ((F.End, h.0), h.1))

  in_expr : (p : ExprPlace) → Alive (rest limit (AtExpr p))
  in_expr (Named p n o) = just (Whole_expr o p (P.Net n)) (rest limit (AtExpr (Named p n o))) (ends_expr o p (P.Net n)) (λ ts v h. (Whole, h.0, h.1))
  in_expr (Bracket p n o) = add (codes "0 ] ") (Number false 0 ∷ Sign CloseBracket ∷ []) (Whole_expr o p (P.BitSelect n 0)) (rest limit (AtExpr (Bracket p n o))) refl refl refl (ends_expr o p (P.BitSelect n 0)) (λ ts v h. (0, None, h.0, (refl, h.1)))
  in_expr (HighRead p n i o) = add (codes "] ") (Sign CloseBracket ∷ []) (Whole_expr o p (P.BitSelect n i)) (rest limit (AtExpr (HighRead p n i o))) refl refl refl (ends_expr o p (P.BitSelect n i)) (λ ts v h. (None, h.0, h.1))
  in_expr (ColonRead p n i o) = add (codes "0 ] ") (Number false 0 ∷ Sign CloseBracket ∷ []) (Whole_expr o p (P.PartSelect n i 0)) (rest limit (AtExpr (ColonRead p n i o))) refl refl refl (ends_expr o p (P.PartSelect n i 0)) (λ ts v h. (0, h.0, (refl, h.1)))
  in_expr (LowRead p n i j o) = add (codes "] ") (Sign CloseBracket ∷ []) (Whole_expr o p (P.PartSelect n i j)) (rest limit (AtExpr (LowRead p n i j o))) refl refl refl (ends_expr o p (P.PartSelect n i j)) (λ ts v h. h)
  in_expr (Have p e o) = ends_expr o p e
  in_expr (WantOperand p n ws o) = add (codes "a ") (word a ∷ []) (Nest_end o p n (settle_all ws (P.Net a))) (rest limit (AtExpr (WantOperand p n ws o))) refl refl refl (ends_nest o p n (settle_all ws (P.Net a))) (λ ts v h. (F.OperandOf None (F.Name a), F.End, h.0, (refl, refl, h.1)))
  in_expr (WantPrim p n ws u o) = add (codes "a ") (word a ∷ []) (Nest_end o p n (settle_all ws (signed u (P.Net a)))) (rest limit (AtExpr (WantPrim p n ws u o))) refl refl refl (ends_nest o p n (settle_all ws (signed u (P.Net a)))) (λ ts v h. (F.Name a, F.End, h.0, (refl, refl, h.1)))

  -- there is room for one more opening, where one must come
  abbrev pub HasRoom : State → Type 0
  HasRoom (AtExpr p) = Unit {0}
  HasRoom (AtStmt (IfRead r q x)) = (e : ℕ) × (deeper limit q ≡ Some e)
  HasRoom (AtStmt (CaseRead r q x)) = (e : ℕ) × (deeper limit q ≡ Some e)
  HasRoom (AtStmt p) = Unit {0}
  HasRoom (AtItem p) = (e : ℕ) × (deeper limit 0 ≡ Some e)

  in_room : (d e : ℕ) (F : ℕ → Type 0) → deeper limit d ≡ Some e → F e → Holds (deeper limit d) F
  in_room d e F h f = subst (λ (o : Option ℕ). Holds o F) (sym h) f

  in_stmt : (p : StmtPlace) → HasRoom (AtStmt p) → Alive (rest limit (AtStmt p))
  in_stmt (WantStmt q x) r = add (codes "a <= a ; ") (word a ∷ Sign LessEquals ∷ word a ∷ Sign Semicolon ∷ []) (AtEnd x q (is_set a) false) (rest limit (AtStmt (WantStmt q x))) refl refl refl (ends_stmt x q (is_set a) false) (λ ts v h. (set (style_of x), h.0, reads_set (style_of x) q (λ w. after_stmt limit x h.0 q w false v) ts h.1))
  in_stmt (Target q n x) r = add (codes "<= a ; ") (Sign LessEquals ∷ word a ∷ Sign Semicolon ∷ []) (AtEnd x q (is_set n) false) (rest limit (AtStmt (Target q n x))) refl refl refl (ends_stmt x q (is_set n) false) (λ ts v h. (named (style_of x), h.0, reads_a (style_of x) q (λ w. sign Semicolon (after_stmt limit x h.0 q (alone (P.SetTo n w)) false v)) (Sign Semicolon ∷ ts) h.1))
  in_stmt (IfRead s q x) r = add (codes "( a ) a <= a ; ") (Sign Open ∷ word a ∷ Sign Close ∷ word a ∷ Sign LessEquals ∷ word a ∷ Sign Semicolon ∷ []) (AtEnd x s (alone (P.IfElse (P.Net a) (is_set a) P.Done)) true) (rest limit (AtStmt (IfRead s q x))) refl refl refl (ends_stmt x s (alone (P.IfElse (P.Net a) (is_set a) P.Done)) true) (λ ts v h. (named (style_of x), set (style_of x), None, h.0, in_room q r.0 _ r.1 (reads_a (style_of x) r.0 (λ w. after_alone limit (AsCondition s q x) (set (style_of x), None, h.0) r.0 w v) (Sign Close ∷ word a ∷ Sign LessEquals ∷ word a ∷ Sign Semicolon ∷ ts) (reads_set (style_of x) q (λ w. after_stmt limit x h.0 s (alone (P.IfElse (P.Net a) w P.Done)) true v) ts h.1))))
  in_stmt (CaseRead s q x) r = add (codes "( a ) 1'h0 : a <= a ; endcase ") (Sign Open ∷ word a ∷ Sign Close ∷ Based bit ∷ Sign Colon ∷ word a ∷ Sign LessEquals ∷ word a ∷ Sign Semicolon ∷ word (codes "endcase") ∷ []) (AtEnd x s (case_of (P.Net a) (P.ArmOf (bit ∷ []) (is_set a) P.NoArm) P.Done) false) (rest limit (AtStmt (CaseRead s q x))) refl refl refl (ends_stmt x s (case_of (P.Net a) (P.ArmOf (bit ∷ []) (is_set a) P.NoArm) P.Done) false) (λ ts v h. (named (style_of x), ArmOf bit [] (set (style_of x)), NoArm, NoDefault, h.0, in_room q r.0 _ r.1 (reads_a (style_of x) r.0 (λ w. after_alone limit (AsSubject s q x) (ArmOf bit [] (set (style_of x)), NoArm, NoDefault, h.0) r.0 w v) (Sign Close ∷ Based bit ∷ Sign Colon ∷ word a ∷ Sign LessEquals ∷ word a ∷ Sign Semicolon ∷ word (codes "endcase") ∷ ts) (refl, reads_set (style_of x) q (λ w. keyword (codes "endcase") (after_stmt limit x h.0 s (case_of (P.Net a) (P.ArmOf (bit ∷ []) w P.NoArm) P.Done) false v)) (word (codes "endcase") ∷ ts) h.1))))
  in_stmt (FirstLabel s q e as' x) r = add (codes "1'h0 : a <= a ; endcase ") (Based bit ∷ Sign Colon ∷ word a ∷ Sign LessEquals ∷ word a ∷ Sign Semicolon ∷ word (codes "endcase") ∷ []) (AtEnd x s (case_of e (more_arms as' (P.ArmOf (bit ∷ []) (is_set a) P.NoArm)) P.Done) false) (rest limit (AtStmt (FirstLabel s q e as' x))) refl refl refl (ends_stmt x s (case_of e (more_arms as' (P.ArmOf (bit ∷ []) (is_set a) P.NoArm)) P.Done) false) (λ ts v h. (ArmOf bit [] (set (style_of x)), NoArm, NoDefault, h.0, (refl, reads_set (style_of x) q (λ w. keyword (codes "endcase") (after_stmt limit x h.0 s (case_of e (more_arms as' (P.ArmOf (bit ∷ []) w P.NoArm)) P.Done) false v)) (word (codes "endcase") ∷ ts) h.1)))
  in_stmt (Labels s q e as' ls x) r = add (codes ": a <= a ; ") (Sign Colon ∷ word a ∷ Sign LessEquals ∷ word a ∷ Sign Semicolon ∷ []) (AtEnd (InArm s e as' (ls ++ []) x) q (is_set a) false) (rest limit (AtStmt (Labels s q e as' ls x))) refl refl refl (ends_stmt (InArm s e as' (ls ++ []) x) q (is_set a) false) (λ ts v h. ([], set (style_of x), h.0.0, h.0.1, h.0.2, reads_set (style_of x) q (λ w. after_stmt limit (InArm s e as' (ls ++ []) x) h.0 q w false v) ts h.1))
  in_stmt (NextLabel s q e as' ls x) r = add (codes "1'h0 : a <= a ; ") (Based bit ∷ Sign Colon ∷ word a ∷ Sign LessEquals ∷ word a ∷ Sign Semicolon ∷ []) (AtEnd (InArm s e as' (ls ++ (bit ∷ [])) x) q (is_set a) false) (rest limit (AtStmt (NextLabel s q e as' ls x))) refl refl refl (ends_stmt (InArm s e as' (ls ++ (bit ∷ [])) x) q (is_set a) false) (λ ts v h. (bit, [], set (style_of x), h.0.0, h.0.1, h.0.2, (refl, reads_set (style_of x) q (λ w. after_stmt limit (InArm s e as' (ls ++ (bit ∷ [])) x) h.0 q w false v) ts h.1)))
  in_stmt (DefaultRead s q e as' x) r = add (codes "a <= a ; endcase ") (word a ∷ Sign LessEquals ∷ word a ∷ Sign Semicolon ∷ word (codes "endcase") ∷ []) (AtEnd x s (case_of e as' (is_set a)) false) (rest limit (AtStmt (DefaultRead s q e as' x))) refl refl refl (ends_stmt x s (case_of e as' (is_set a)) false) (λ ts v h. (false, set (style_of x), h.0, reads_set (style_of x) q (λ w. case_ends limit x h.0 s e as' w v) (word (codes "endcase") ∷ ts) h.1))
  in_stmt (Block p s old x) r = add (codes "end ") (word (codes "end") ∷ []) (AtEnd x s (then_all old P.Done) false) (rest limit (AtStmt (Block p s old x))) refl refl refl (ends_stmt x s (then_all old P.Done) false) (λ ts v h. (NoStmt, h.0, h.1))
  in_stmt (HaveStmt q s x) r = ends_stmt x q s false

  abbrev Declared : (u : Use) → ℕ → List ℕ → List Token → P.ModuleTree → Type 0
  Declared u w n ts v = (t : UseTail u) × after_name limit u t w n v ts

  -- behind a name that is declared
  ends_use : (u : Use) (w : ℕ) (n : List ℕ) → Alive (Declared u w n)
  ends_use (AsWire h) w n = add (codes "; ") (Sign Semicolon ∷ []) (λ ts v. items_behind limit h (h.items ++ wires w (n ∷ [])) [] v ts) (Declared (AsWire h) w n) refl refl refl (ends_module h ((h.items ++ wires w (n ∷ [])) ++ []) (λ ts v. items_behind limit h (h.items ++ wires w (n ∷ [])) [] v ts) (refl, tt)) (λ ts v k. (([], []), k))
  ends_use (AsReg h) w n = add (codes "; ") (Sign Semicolon ∷ []) (λ ts v. items_behind limit h (h.items ++ regs w (n ∷ [])) [] v ts) (Declared (AsReg h) w n) refl refl refl (ends_module h ((h.items ++ regs w (n ∷ [])) ++ []) (λ ts v. items_behind limit h (h.items ++ regs w (n ∷ [])) [] v ts) (refl, tt)) (λ ts v k. (([], []), k))
  ends_use (AsPort d h) w n = add (codes ") ; ") (Sign Close ∷ Sign Semicolon ∷ []) (λ ts v. after_items limit (ported h d w n) [] v ts) (Declared (AsPort d h) w n) refl refl refl (ends_module (ported h d w n) ((ported h d w n).items ++ []) (λ ts v. after_items limit (ported h d w n) [] v ts) (refl, tt)) (λ ts v k. (([], []), k))

  ends_read : (u : Use) (w : ℕ) → Alive (λ ts v. (t : UseTail u) × name_read limit u t w v ts)
  ends_read (AsWire h) w = add (codes "; ") (Sign Semicolon ∷ []) (λ ts v. items_behind limit h (h.items ++ []) [] v ts) (λ ts v. (t : UseTail (AsWire h)) × name_read limit (AsWire h) t w v ts) refl refl refl (ends_module h ((h.items ++ []) ++ []) (λ ts v. items_behind limit h (h.items ++ []) [] v ts) (refl, tt)) (λ ts v k. (([], []), k))
  ends_read (AsReg h) w = add (codes "; ") (Sign Semicolon ∷ []) (λ ts v. items_behind limit h (h.items ++ []) [] v ts) (λ ts v. (t : UseTail (AsReg h)) × name_read limit (AsReg h) t w v ts) refl refl refl (ends_module h ((h.items ++ []) ++ []) (λ ts v. items_behind limit h (h.items ++ []) [] v ts) (refl, tt)) (λ ts v k. (([], []), k))
  ends_read (AsPort d h) w = add (codes ") ; ") (Sign Close ∷ Sign Semicolon ∷ []) (λ ts v. after_items limit (with_ports h []) [] v ts) (λ ts v. (t : UseTail (AsPort d h)) × name_read limit (AsPort d h) t w v ts) refl refl refl (ends_module (with_ports h []) (h.items ++ []) (λ ts v. after_items limit (with_ports h []) [] v ts) (refl, tt)) (λ ts v k. (([], []), k))

  -- where an item may come
  ends_items : (h : Head) → Alive (λ ts v. after_items limit h [] v ts)
  ends_items h = ends_module h (h.items ++ []) (λ ts v. after_items limit h [] v ts) (refl, tt)

  in_item : (p : ItemPlace) → HasRoom (AtItem p) → Alive (rest limit (AtItem p))
  in_item (Begin y) r = add (codes "module a ( input a ") (word (codes "module") ∷ word a ∷ Sign Open ∷ word (codes "input") ∷ word a ∷ []) (Declared (AsPort Input (new_head y a)) 1 a) (rest limit (AtItem (Begin y))) refl refl refl (ends_use (AsPort Input (new_head y a)) 1 a) (λ ts v h. (record { name = a; port = a_port; ports = h.0.0; items = h.0.1 }, (refl, refl, in_room 0 r.0 _ r.1 (refl, refl, h.1))))
  in_item (HeadName y) r = add (codes "a ( input a ") (word a ∷ Sign Open ∷ word (codes "input") ∷ word a ∷ []) (Declared (AsPort Input (new_head y a)) 1 a) (rest limit (AtItem (HeadName y))) refl refl refl (ends_use (AsPort Input (new_head y a)) 1 a) (λ ts v h. (a, a_port, h.0.0, h.0.1, (refl, refl, in_room 0 r.0 _ r.1 (refl, refl, h.1))))
  in_item (HeadOpen y n) r = add (codes "( input a ") (Sign Open ∷ word (codes "input") ∷ word a ∷ []) (Declared (AsPort Input (new_head y n)) 1 a) (rest limit (AtItem (HeadOpen y n))) refl refl refl (ends_use (AsPort Input (new_head y n)) 1 a) (λ ts v h. (a_port, h.0.0, h.0.1, in_room 0 r.0 _ r.1 (refl, refl, h.1)))
  in_item (WantPort h) r = add (codes "input a ") (word (codes "input") ∷ word a ∷ []) (Declared (AsPort Input h) 1 a) (rest limit (AtItem (WantPort h))) refl refl refl (ends_use (AsPort Input h) 1 a) (λ ts v k. (a_port, k.0.0, k.0.1, (refl, refl, k.1)))
  in_item (InputRead h) r = add (codes "a ") (word a ∷ []) (Declared (AsPort Input h) 1 a) (rest limit (AtItem (InputRead h))) refl refl refl (ends_use (AsPort Input h) 1 a) (λ ts v k. (false, None, a, k.0, (refl, refl, k.1)))
  in_item (OutputRead h) r = add (codes "a ") (word a ∷ []) (Declared (AsPort Output h) 1 a) (rest limit (AtItem (OutputRead h))) refl refl refl (ends_use (AsPort Output h) 1 a) (λ ts v k. (Output, false, None, a, k.0, (refl, refl, k.1)))
  in_item (WantRange u) r = add (codes "a ") (word a ∷ []) (Declared u 1 a) (rest limit (AtItem (WantRange u))) refl refl refl (ends_use u 1 a) (λ ts v k. (None, a, k.0, (refl, refl, k.1)))
  in_item (WantHigh u) r = add (codes "0 : 0 ] a ") (Number false 0 ∷ Sign Colon ∷ Number false 0 ∷ Sign CloseBracket ∷ word a ∷ []) (Declared u (0 + 1) a) (rest limit (AtItem (WantHigh u))) refl refl refl (ends_use u (0 + 1) a) (λ ts v k. (0, a, k.0, (refl, (refl, refl, k.1))))
  in_item (WantColon u i) r = add (codes ": 0 ] a ") (Sign Colon ∷ Number false 0 ∷ Sign CloseBracket ∷ word a ∷ []) (Declared u (i + 1) a) (rest limit (AtItem (WantColon u i))) refl refl refl (ends_use u (i + 1) a) (λ ts v k. (a, k.0, (refl, refl, k.1)))
  in_item (WantZero u i) r = add (codes "0 ] a ") (Number false 0 ∷ Sign CloseBracket ∷ word a ∷ []) (Declared u (i + 1) a) (rest limit (AtItem (WantZero u i))) refl refl refl (ends_use u (i + 1) a) (λ ts v k. (a, k.0, (refl, refl, k.1)))
  in_item (WantBracket u i) r = add (codes "] a ") (Sign CloseBracket ∷ word a ∷ []) (Declared u (i + 1) a) (rest limit (AtItem (WantBracket u i))) refl refl refl (ends_use u (i + 1) a) (λ ts v k. (a, k.0, (refl, refl, k.1)))
  in_item (WantName u w) r = add (codes "a ") (word a ∷ []) (Declared u w a) (rest limit (AtItem (WantName u w))) refl refl refl (ends_use u w a) (λ ts v k. (a, k.0, (refl, refl, k.1)))
  in_item (NameRead u w) r = ends_read u w
  in_item (PortsRead h) r = add (codes "; ") (Sign Semicolon ∷ []) (λ ts v. after_items limit h [] v ts) (rest limit (AtItem (PortsRead h))) refl refl refl (ends_items h) (λ ts v k. ([], k))
  in_item (WantItem h) r = just (λ ts v. after_items limit h [] v ts) (rest limit (AtItem (WantItem h))) (ends_items h) (λ ts v k. ([], k))
  in_item (AssignRead h) r = add (codes "a = a ") (word a ∷ Sign Equals ∷ word a ∷ []) (Alone_end (AsDriver h a) 0 (P.Net a)) (rest limit (AtItem (AssignRead h))) refl refl refl (ends_alone (AsDriver h a) 0 (P.Net a)) (λ ts v k. (a, named h.style, k.0, (refl, refl, reads_a h.style 0 (λ w. after_alone limit (AsDriver h a) k.0 0 w v) ts k.1)))
  in_item (DriveRead h n) r = add (codes "= a ") (Sign Equals ∷ word a ∷ []) (Alone_end (AsDriver h n) 0 (P.Net a)) (rest limit (AtItem (DriveRead h n))) refl refl refl (ends_alone (AsDriver h n) 0 (P.Net a)) (λ ts v k. (named h.style, k.0, reads_a h.style 0 (λ w. after_alone limit (AsDriver h n) k.0 0 w v) ts k.1))
  in_item (AlwaysRead h) r = add (codes "@ ( posedge a ) a <= a ; ") (Sign At ∷ Sign Open ∷ word (codes "posedge") ∷ word a ∷ Sign Close ∷ word a ∷ Sign LessEquals ∷ word a ∷ Sign Semicolon ∷ []) (AtEnd (InAlways h a) 0 (is_set a) false) (rest limit (AtItem (AlwaysRead h))) refl refl refl (ends_stmt (InAlways h a) 0 (is_set a) false) (λ ts v k. (a, set h.style, k.0, in_room 0 r.0 _ r.1 (refl, refl, reads_set h.style 0 (λ w. after_stmt limit (InAlways h a) k.0 0 w false v) ts k.1)))
  in_item (AtRead h) r = add (codes "( posedge a ) a <= a ; ") (Sign Open ∷ word (codes "posedge") ∷ word a ∷ Sign Close ∷ word a ∷ Sign LessEquals ∷ word a ∷ Sign Semicolon ∷ []) (AtEnd (InAlways h a) 0 (is_set a) false) (rest limit (AtItem (AtRead h))) refl refl refl (ends_stmt (InAlways h a) 0 (is_set a) false) (λ ts v k. (a, set h.style, k.0, in_room 0 r.0 _ r.1 (refl, refl, reads_set h.style 0 (λ w. after_stmt limit (InAlways h a) k.0 0 w false v) ts k.1)))
  in_item (ClockOpen h) r = add (codes "posedge a ) a <= a ; ") (word (codes "posedge") ∷ word a ∷ Sign Close ∷ word a ∷ Sign LessEquals ∷ word a ∷ Sign Semicolon ∷ []) (AtEnd (InAlways h a) 0 (is_set a) false) (rest limit (AtItem (ClockOpen h))) refl refl refl (ends_stmt (InAlways h a) 0 (is_set a) false) (λ ts v k. (a, set h.style, k.0, (refl, refl, reads_set h.style 0 (λ w. after_stmt limit (InAlways h a) k.0 0 w false v) ts k.1)))
  in_item (EdgeRead h) r = add (codes "a ) a <= a ; ") (word a ∷ Sign Close ∷ word a ∷ Sign LessEquals ∷ word a ∷ Sign Semicolon ∷ []) (AtEnd (InAlways h a) 0 (is_set a) false) (rest limit (AtItem (EdgeRead h))) refl refl refl (ends_stmt (InAlways h a) 0 (is_set a) false) (λ ts v k. (a, set h.style, k.0, (refl, refl, reads_set h.style 0 (λ w. after_stmt limit (InAlways h a) k.0 0 w false v) ts k.1)))
  in_item (ClockRead h c) r = add (codes ") a <= a ; ") (Sign Close ∷ word a ∷ Sign LessEquals ∷ word a ∷ Sign Semicolon ∷ []) (AtEnd (InAlways h c) 0 (is_set a) false) (rest limit (AtItem (ClockRead h c))) refl refl refl (ends_stmt (InAlways h c) 0 (is_set a) false) (λ ts v k. (set h.style, k.0, reads_set h.style 0 (λ w. after_stmt limit (InAlways h c) k.0 0 w false v) ts k.1))
  in_item (Ended h) r = done (rest limit (AtItem (Ended h))) (module_of h h.items) (refl, tt)

  -- each state goes on to a module, where there is room for an opening that must come
  pub alive : (s : State) → HasRoom s → Alive (rest limit s)
  alive (AtExpr p) r = in_expr p
  alive (AtStmt p) r = in_stmt p r
  alive (AtItem p) r = in_item p r
