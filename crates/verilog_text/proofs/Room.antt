-- Behind an opening within 64 there is room for what must come: behind an if and a case one opening more.
use Rattle.std.proofs.Common.{◌≡◌, ℕ, ◌+◌, Bool, true, false, List, [], Option, Some, None, refl, sym, ap, subst, arith, if◌then◌else◌, codes, nat_lt}
use Rattle.std.specs.Str.{bytes_eq}
use Rattle.std.proofs.lemmas.Bool.{lt-ltb, ltb-true}
use Rattle.std.proofs.lemmas.Slice.Eq.{bytes_eq-Decides}
use Rattle.bist_bits.specs.Vector.{Vector}
use Rattle.bist_text.specs.ReservedWords.{is_among, reserved_words}
use Rattle.verilog_tree.specs.declared.tokens.Mark.{Mark}
use Rattle.verilog_tree.specs.declared.tokens.Mark.TheVariants.{Open, Close, OpenBracket, CloseBracket, OpenBrace, CloseBrace, Comma, Semicolon, Colon, At, Question, Equals, LessEquals}
use Rattle.verilog_tree.specs.declared.tree.BinOp.{BinOp}
use Rattle.verilog_tree.specs.declared.tree.Dir.TheVariants.{Input, Output, OutputReg}
use Rattle.verilog_tree.specs.declared.tree.UnOp.{UnOp}
use Rattle.verilog_tree.specs.Grammar.{deeper, is_sign, is_zero, then_all, alone}
use Rattle.verilog_tree.specs.Plain as P
use Rattle.verilog_tree.specs.Spells.{bounded}
use Rattle.verilog_tree.specs.Free.{signed}
use Rattle.verilog_text.specs.Flat.{Left, settle_all, linked, Count, one_more, behind as counted_behind, in_parens, in_braces}
use Rattle.verilog_tree.specs.Tokens.{Token, Identifier, Number, Based, Unused, Sign}
use Rattle.verilog_text.specs.Following.{case_of, declare, new_head}
use Rattle.verilog_text.specs.Openings.{Opening, Parenthesis, Brace, BlockWord, IfWord, CaseWord, Operator, opening_token, limit_of}
use Rattle.verilog_text.specs.Places.{Head, with_item, Around, InAlways, InBlock, InThen, InElse, InArm, InDefault, Outside, more_arms, ExprPlace, Named, Bracket, HighRead, ColonRead, LowRead, Have, StmtPlace, WantStmt, Target, IfRead, CaseRead, FirstLabel, Labels, NextLabel, DefaultRead, Block, HaveStmt, Use, AsWire, AsReg, AsPort, ItemPlace, Begin, HeadName, HeadOpen, WantPort, InputRead, OutputRead, WantRange, WantHigh, WantColon, WantZero, WantBracket, WantName, NameRead, PortsRead, WantItem, AssignRead, DriveRead, AlwaysRead, AtRead, ClockOpen, EdgeRead, ClockRead, Ended, State, AtExpr, AtStmt, AtItem, style_of, begin_expr, Alone, AsDriver, AsCondition, AsSubject, AsValue, Nest, Only, InRound, InList, IfTrue, IfFalse, Linked, WantOperand, WantPrim}
use Rattle.verilog_text.specs.Steps.{in_room, only_where, expects, expects_word, unary_of, infix_of, have_step, target_step, is_word, arm_step, want_item_step, labels_step, unless, takes_name, takes_number, takes_zero, declared, range_step, list_step, name_step, step_expr, word_step, want_stmt_step, block_step, have_stmt_step, step_stmt, opens, step_item, step, alone_step, parts_step, close_step, ask_step, link_step, prim_step, sign_step, operand_step}
use Rattle.verilog_text.proofs.Alive.{HasRoom}

abbrev Fits : State → Type 0
Fits s = (x : Opening) → HasRoom (limit_of x) s

-- where this token leads there is room, if it is an opening
abbrev Roomy : Token → Option State → Type 0
Roomy t o = (z : State) → o ≡ Some z → (x : Opening) → t ≡ opening_token x → HasRoom (limit_of x) z

none : (t : Token) → Roomy t None
none t z e = cc

to : (t : Token) (s : State) → Fits s → Roomy t (Some s)
to t s h z e x f = let k : s ≡ z = cc in subst (HasRoom (limit_of x)) k (h x)

-- an item's place
item : (p : ItemPlace) → Fits (AtItem p)
item p Parenthesis = (1, refl)
item p Brace = (1, refl)
item p BlockWord = (1, refl)
item p IfWord = (1, refl)
item p CaseWord = (1, refl)
item p (Operator m) = (1, refl)

to_item : (t : Token) (p : ItemPlace) → Roomy t (Some (AtItem p))
to_item t p = to t (AtItem p) (item p)

either : (t : Token) (b : Bool) (o p : Option State) → Roomy t o → Roomy t p → Roomy t (if b then o else p)
either t true o p h k = h
either t false o p h k = k

only : (t : Token) (b : Bool) (o : Option State) → Roomy t o → Roomy t (only_where b o)
only t true o h = h
only t false o h = none t

room : {A : Type 0} (t : Token) (o : Option A) (f : A → State) → ((q : A) → Fits (f q)) → Roomy t (in_room o f)
room t None f h = none t
room t (Some q) f h = to t (f q) (h q)

mark : (m : Mark) (s : State) (t : Token) → Fits s → Roomy t (expects m s t)
mark m s (Sign n) h = only (Sign n) (is_sign m n) (Some s) (to (Sign n) s h)
mark m s t h = none t

word : (w : List ℕ) (s : State) (t : Token) → Fits s → Roomy t (expects_word w s t)
word w s (Identifier v) h = only (Identifier v) (bytes_eq v w) (Some s) (to (Identifier v) s h)
word w s t h = none t

name : (f : List ℕ → State) (t : Token) → ((n : List ℕ) → Fits (f n)) → Roomy t (takes_name f t)
name f (Identifier n) h = by (is_among n reserved_words)
  where
    by : (b : Bool) → Roomy (Identifier n) (unless b (f n))
    by true = none (Identifier n)
    by false = to (Identifier n) (f n) (h n)
name f t h = none t

number : (f : ℕ → State) (t : Token) → ((n : ℕ) → Fits (f n)) → Roomy t (takes_number f t)
number f (Number l i) h = to (Number l i) (f i) (h i)
number f t h = none t

zero_number : (s : State) (t : Token) → Fits s → Roomy t (takes_zero s t)
zero_number s (Number l i) h = only (Number l i) (is_zero l i) (Some s) (to (Number l i) s h)
zero_number s t h = none t

-- ---- expressions

alone_room : (p : ℕ) (e : P.Expression) (b : Alone) (t : Token) → Roomy t (alone_step p e b t)
alone_room p e (AsDriver h n) t = mark Semicolon (AtItem (WantItem (with_item h (P.AssignItem n e)))) t (item (WantItem (with_item h (P.AssignItem n e))))
alone_room p e (AsCondition r q a) t = mark Close (AtStmt (WantStmt q (InThen r e a))) t (λ x. tt)
alone_room p e (AsSubject r q a) t = mark Close (AtStmt (FirstLabel r q e P.NoArm a)) t (λ x. tt)
alone_room p e (AsValue n a) t = mark Semicolon (AtStmt (HaveStmt p (alone (P.SetTo n e)) a)) t (λ x. tt)

parts : (p : ℕ) (c : Count) (r : ℕ) (old : P.Expressions) (e : P.Expression) (n : Count) (ws : List Left) (u : Option UnOp) (o : Nest) (m : Mark) → Roomy (Sign m) (parts_step p c r old e n ws u o m)
parts p c r old e n ws u o Comma = to (Sign Comma) _ (λ x. tt)
parts p c r old e n ws u o CloseBrace = to (Sign CloseBrace) _ (λ x. tt)
parts p c r old e n ws u o m = none (Sign m)

close : (p : ℕ) (c : Count) (e : P.Expression) (o : Nest) (t : Token) → Roomy t (close_step p c e o t)
close p c e (Only b) t = alone_room p e b t
close p c e (InRound r n ws u o) t = mark Close (AtExpr (Have r e (Linked (counted_behind n c) ws u o))) t (λ x. tt)
close p c e (InList r old n ws u o) (Sign m) = parts p c r old e n ws u o m
close p c e (InList r old n ws u o) t = none t
close p c e (IfTrue x o) t = mark Colon (AtExpr (WantOperand p c [] (IfFalse x e o))) t (λ x. tt)
close p c e (IfFalse x y o) t = close p c (P.Conditional x y e) o t

ask : (p : ℕ) (n : Count) (ws : List Left) (e : P.Expression) (o : Nest) (m : Mark) → Roomy (Sign m) (ask_step bounded p n ws e o m)
ask p n ws e o Question = room (Sign Question) (one_more bounded n) (λ j. AtExpr (WantOperand p j [] (IfTrue (settle_all ws e) o))) (λ j x. tt)
ask p n ws e o m = close p n (settle_all ws e) o (Sign m)

join : (b : Option BinOp) (p : ℕ) (n : Count) (ws : List Left) (e : P.Expression) (o : Nest) (m : Mark) → Roomy (Sign m) (link_step bounded b p n ws e o m)
join None p n ws e o m = ask p n ws e o m
join (Some b) p n ws e o m = room (Sign m) (one_more bounded n) (λ j. AtExpr (WantOperand p j (linked b ws e) o)) (λ j x. tt)

prim : (p : ℕ) (n : Count) (ws : List Left) (u : Option UnOp) (o : Nest) (t : Token) → Roomy t (prim_step bounded p n ws u o t)
prim p n ws u o (Identifier w) = either (Identifier w) (is_among w reserved_words) None (Some (AtExpr (Named p w (Linked n ws u o)))) (none (Identifier w)) (to (Identifier w) (AtExpr (Named p w (Linked n ws u o))) (λ x. tt))
prim p n ws u o (Number l i) = none (Number l i)
prim p n ws u o (Based v) = to (Based v) (AtExpr (Have p (P.Literal v) (Linked n ws u o))) (λ x. tt)
prim p n ws u o Unused = none Unused
prim p n ws u o (Sign Open) = room (Sign Open) (deeper bounded p) (λ q. AtExpr (WantOperand q (in_parens n) [] (InRound p n ws u o))) (λ q x. tt)
prim p n ws u o (Sign OpenBrace) = room (Sign OpenBrace) (deeper bounded p) (λ q. AtExpr (WantOperand q (in_braces n) [] (InList p P.NoMore n ws u o))) (λ q x. tt)
prim p n ws u o (Sign m) = none (Sign m)

marked : (v : Option UnOp) (p : ℕ) (n : Count) (ws : List Left) (o : Nest) (m : Mark) → Roomy (Sign m) (sign_step bounded v p n ws o m)
marked None p n ws o m = prim p n ws None o (Sign m)
marked (Some u) p n ws o m = room (Sign m) (one_more bounded n) (λ j. AtExpr (WantPrim p j ws (Some u) o)) (λ j x. tt)

operand : (p : ℕ) (n : Count) (ws : List Left) (o : Nest) (t : Token) → Roomy t (operand_step bounded p n ws o t)
operand p n ws o (Sign m) = marked (unary_of m) p n ws o m
operand p n ws o t = prim p n ws None o t

have : (p : ℕ) (e : P.Expression) (o : Outside) (t : Token) → Roomy t (have_step bounded p e o t)
have p e (Linked n ws u o) (Sign m) = join (infix_of m) p n ws (signed u e) o m
have p e (Linked n ws u o) t = close p n (settle_all ws (signed u e)) o t

expression : (p : ExprPlace) (t : Token) → Roomy t (step_expr bounded p t)
expression (Named p n o) (Sign OpenBracket) = to (Sign OpenBracket) (AtExpr (Bracket p n o)) (λ x. tt)
expression (Named p n o) (Sign m) = have p (P.Net n) o (Sign m)
expression (Named p n o) t = have p (P.Net n) o t
expression (Bracket p n o) (Number l h) = to (Number l h) (AtExpr (HighRead p n h o)) (λ x. tt)
expression (Bracket p n o) t = none t
expression (HighRead p n h o) (Sign CloseBracket) = to (Sign CloseBracket) (AtExpr (Have p (P.BitSelect n h) o)) (λ x. tt)
expression (HighRead p n h o) (Sign Colon) = to (Sign Colon) (AtExpr (ColonRead p n h o)) (λ x. tt)
expression (HighRead p n h o) (Sign m) = none (Sign m)
expression (HighRead p n h o) t = none t
expression (ColonRead p n h o) (Number k l) = to (Number k l) (AtExpr (LowRead p n h l o)) (λ x. tt)
expression (ColonRead p n h o) t = none t
expression (LowRead p n h l o) t = mark CloseBracket (AtExpr (Have p (P.PartSelect n h l) o)) t (λ x. tt)
expression (Have p e o) t = have p e o t
expression (WantOperand p n ws o) t = operand p n ws o t
expression (WantPrim p n ws u o) t = prim p n ws u o t

-- ---- statements

-- one opening more within 65
room_more : (q p : ℕ) → deeper bounded q ≡ Some p → (e : ℕ) × (deeper (limit_of IfWord) p ≡ Some e)
room_more q p h = go (nat_lt q 64) refl h
  where
    go : (t : Bool) → nat_lt q 64 ≡ t → (if t then Some (q + 1) else None) ≡ Some p → (e : ℕ) × (deeper (limit_of IfWord) p ≡ Some e)
    go true k e = let m : q + 1 ≡ p = cc in let l = ltb-true q 64 k in (p + 1, ap (λ b. if b then Some (p + 1) else None) (lt-ltb p 65 (omega (arith, l, m))))
    go false k e = cc

-- the word if, and the word case
an_if : (q : ℕ) (a : Around) → Roomy (Identifier (codes "if")) (in_room (deeper bounded q) (λ p. AtStmt (IfRead q p a)))
an_if q a = go (deeper bounded q) refl
  where
    go : (o : Option ℕ) → deeper bounded q ≡ o → Roomy (Identifier (codes "if")) (in_room o (λ p. AtStmt (IfRead q p a)))
    go None e z f x k = cc
    go (Some p) e z f IfWord k = let j : AtStmt (IfRead q p a) ≡ z = cc in subst (HasRoom (limit_of IfWord)) j (room_more q p e)
    go (Some p) e z f Parenthesis k = cc
    go (Some p) e z f Brace k = cc
    go (Some p) e z f BlockWord k = cc
    go (Some p) e z f CaseWord k = cc
    go (Some p) e z f (Operator m) k = cc

a_case : (q : ℕ) (a : Around) → Roomy (Identifier (codes "case")) (in_room (deeper bounded q) (λ p. AtStmt (CaseRead q p a)))
a_case q a = go (deeper bounded q) refl
  where
    go : (o : Option ℕ) → deeper bounded q ≡ o → Roomy (Identifier (codes "case")) (in_room o (λ p. AtStmt (CaseRead q p a)))
    go None e z f x k = cc
    go (Some p) e z f CaseWord k = let j : AtStmt (CaseRead q p a) ≡ z = cc in subst (HasRoom (limit_of IfWord)) j (room_more q p e)
    go (Some p) e z f Parenthesis k = cc
    go (Some p) e z f Brace k = cc
    go (Some p) e z f BlockWord k = cc
    go (Some p) e z f IfWord k = cc
    go (Some p) e z f (Operator m) k = cc

-- the word is this one, or it isn't
this : (w d : List ℕ) (o p : Option State) → Roomy (Identifier d) o → Roomy (Identifier w) p → Roomy (Identifier w) (if bytes_eq w d then o else p)
this w d o p h k = go (bytes_eq w d) refl
  where
    go : (b : Bool) → bytes_eq w d ≡ b → Roomy (Identifier w) (if b then o else p)
    go true e = subst (λ x. Roomy (Identifier x) o) (sym ((bytes_eq-Decides w d).0 e)) h
    go false e = k

begins : (q : ℕ) (a : Around) (w : List ℕ) → Roomy (Identifier w) (word_step bounded q a w)
begins q a w = this w (codes "begin") _ _ (room (Identifier (codes "begin")) (deeper bounded q) (λ p. AtStmt (Block p q P.Done a)) (λ p x. tt)) (this w (codes "if") _ _ (an_if q a) (this w (codes "case") _ _ (a_case q a) (target (is_among w reserved_words))))
  where
    target : (b : Bool) → Roomy (Identifier w) (target_step b q w a)
    target true = none (Identifier w)
    target false = to (Identifier w) (AtStmt (Target q w a)) (λ x. tt)

statement : (q : ℕ) (a : Around) (t : Token) → Roomy t (want_stmt_step bounded q a t)
statement q a (Identifier w) = begins q a w
statement q a t = none t

block : (p r : ℕ) (old : P.Statements) (a : Around) (t : Token) → Roomy t (block_step bounded p r old a t)
block p r old a t = either t (is_word (codes "end") t) (Some (AtStmt (HaveStmt r old a))) _ (to t (AtStmt (HaveStmt r old a)) (λ x. tt)) (statement p (InBlock r old a) t)

arm : (r q : ℕ) (v : P.Expression) (as' : P.Arms) (a : Around) (t : Token) → Roomy t (arm_step r q v as' a t)
arm r q v as' a (Based y) = to (Based y) _ (λ x. tt)
arm r q v as' a (Identifier w) = either (Identifier w) (bytes_eq w (codes "default")) _ _ (to (Identifier w) (AtStmt (DefaultRead r q v as' a)) (λ x. tt)) (either (Identifier w) (bytes_eq w (codes "endcase")) _ None (to (Identifier w) (AtStmt (HaveStmt r (case_of v as' P.Done) a)) (λ x. tt)) (none (Identifier w)))
arm r q v as' a t = none t

item_word : (h : Head) (t : Token) → Roomy t (want_item_step h t)
item_word h (Identifier w) = either (Identifier w) (bytes_eq w (codes "wire")) _ _ (to_item (Identifier w) _) (either (Identifier w) (bytes_eq w (codes "reg")) _ _ (to_item (Identifier w) _) (either (Identifier w) (bytes_eq w (codes "assign")) _ _ (to_item (Identifier w) _) (either (Identifier w) (bytes_eq w (codes "always")) _ _ (to_item (Identifier w) _) (either (Identifier w) (bytes_eq w (codes "endmodule")) _ None (to_item (Identifier w) _) (none (Identifier w))))))
item_word h t = none t

behind : (a : Around) (q : ℕ) (s : P.Statements) (t : Token) → Roomy t (have_stmt_step bounded a q s t)
behind (InAlways h c) q s t = item_word (with_item h (P.AlwaysItem c s)) t
behind (InBlock r old a) q s t = block q r (then_all old s) a t
behind (InThen r c a) q s t = either t (is_word (codes "else") t) (Some (AtStmt (WantStmt q (InElse r c s a)))) _ (to t (AtStmt (WantStmt q (InElse r c s a))) (λ x. tt)) (behind a r (alone (P.IfElse c s P.Done)) t)
behind (InElse r c s' a) q s t = behind a r (alone (P.IfElse c s' s)) t
behind (InArm r v as' ls a) q s t = arm r q v (more_arms as' (P.ArmOf ls s P.NoArm)) a t
behind (InDefault r v as' a) q s t = word (codes "endcase") (AtStmt (HaveStmt r (case_of v as' s) a)) t (λ x. tt)

labels : (r q : ℕ) (v : P.Expression) (as' : P.Arms) (ls : List Vector) (a : Around) (t : Token) → Roomy t (labels_step r q v as' ls a t)
labels r q v as' ls a (Sign Comma) = to (Sign Comma) _ (λ x. tt)
labels r q v as' ls a (Sign Colon) = to (Sign Colon) _ (λ x. tt)
labels r q v as' ls a (Sign m) = none (Sign m)
labels r q v as' ls a t = none t

in_stmt : (p : StmtPlace) (t : Token) → Roomy t (step_stmt bounded p t)
in_stmt (WantStmt q a) t = statement q a t
in_stmt (Target q n a) t = mark LessEquals (AtExpr (begin_expr (style_of a) q (AsValue n a))) t (λ x. tt)
in_stmt (IfRead r q a) (Sign Open) = room (Sign Open) (deeper bounded q) (λ p. AtExpr (begin_expr (style_of a) p (AsCondition r q a))) (λ p x. tt)
in_stmt (IfRead r q a) (Sign m) = none (Sign m)
in_stmt (IfRead r q a) t = none t
in_stmt (CaseRead r q a) (Sign Open) = room (Sign Open) (deeper bounded q) (λ p. AtExpr (begin_expr (style_of a) p (AsSubject r q a))) (λ p x. tt)
in_stmt (CaseRead r q a) (Sign m) = none (Sign m)
in_stmt (CaseRead r q a) t = none t
in_stmt (FirstLabel r q v as' a) (Based y) = to (Based y) _ (λ x. tt)
in_stmt (FirstLabel r q v as' a) t = none t
in_stmt (Labels r q v as' ls a) t = labels r q v as' ls a t
in_stmt (NextLabel r q v as' ls a) (Based y) = to (Based y) _ (λ x. tt)
in_stmt (NextLabel r q v as' ls a) t = none t
in_stmt (DefaultRead r q v as' a) (Sign Colon) = to (Sign Colon) _ (λ x. tt)
in_stmt (DefaultRead r q v as' a) (Sign m) = none (Sign m)
in_stmt (DefaultRead r q v as' a) t = statement q (InDefault r v as' a) t
in_stmt (Block p r old a) t = block p r old a t
in_stmt (HaveStmt q s a) t = behind a q s t

-- ---- items

range : (u : Use) (t : Token) → Roomy t (range_step u t)
range u (Sign OpenBracket) = to_item (Sign OpenBracket) (WantHigh u)
range u (Sign m) = none (Sign m)
range u t = name (declared u 1) t (λ n. item (NameRead (declare u n 1) 1))

listed : (p : ItemPlace) (m : Mark) (r : ItemPlace) (t : Token) → Roomy t (list_step (AtItem p) m (AtItem r) t)
listed p m r (Sign Comma) = to_item (Sign Comma) p
listed p m r (Sign n) = mark m (AtItem r) (Sign n) (item r)
listed p m r t = mark m (AtItem r) t (item r)

named : (u : Use) (w : ℕ) (t : Token) → Roomy t (name_step u w t)
named (AsWire h) w t = listed (WantName (AsWire h) w) Semicolon (WantItem h) t
named (AsReg h) w t = listed (WantName (AsReg h) w) Semicolon (WantItem h) t
named (AsPort d h) w t = listed (WantPort h) Close (PortsRead h) t

opening : (s : ItemPlace) (t : Token) → Roomy t (opens bounded 0 (AtItem s) t)
opening s (Sign Open) = to_item (Sign Open) s
opening s (Sign m) = none (Sign m)
opening s t = none t

in_item : (p : ItemPlace) (t : Token) → Roomy t (step_item bounded p t)
in_item (Begin y) t = word (codes "module") (AtItem (HeadName y)) t (item (HeadName y))
in_item (HeadName y) t = name (λ n. AtItem (HeadOpen y n)) t (λ n. item (HeadOpen y n))
in_item (HeadOpen y n) t = opening (WantPort (new_head y n)) t
in_item (WantPort h) t = either t (is_word (codes "input") t) _ _ (to_item t (InputRead h)) (either t (is_word (codes "output") t) _ None (to_item t (OutputRead h)) (none t))
in_item (InputRead h) t = either t (is_word (codes "wire") t) _ _ (to_item t (WantRange (AsPort Input h))) (range (AsPort Input h) t)
in_item (OutputRead h) t = either t (is_word (codes "wire") t) _ _ (to_item t (WantRange (AsPort Output h))) (either t (is_word (codes "reg") t) _ _ (to_item t (WantRange (AsPort OutputReg h))) (range (AsPort Output h) t))
in_item (WantRange u) t = range u t
in_item (WantHigh u) t = number (λ i. AtItem (WantColon u i)) t (λ i. item (WantColon u i))
in_item (WantColon u i) t = mark Colon (AtItem (WantZero u i)) t (item (WantZero u i))
in_item (WantZero u i) t = zero_number (AtItem (WantBracket u i)) t (item (WantBracket u i))
in_item (WantBracket u i) t = mark CloseBracket (AtItem (WantName u (i + 1))) t (item (WantName u (i + 1)))
in_item (WantName u w) t = name (declared u w) t (λ n. item (NameRead (declare u n w) w))
in_item (NameRead u w) t = named u w t
in_item (PortsRead h) t = mark Semicolon (AtItem (WantItem h)) t (item (WantItem h))
in_item (WantItem h) t = item_word h t
in_item (AssignRead h) t = name (λ n. AtItem (DriveRead h n)) t (λ n. item (DriveRead h n))
in_item (DriveRead h n) t = mark Equals (AtExpr (begin_expr h.style 0 (AsDriver h n))) t (λ x. tt)
in_item (AlwaysRead h) t = mark At (AtItem (AtRead h)) t (item (AtRead h))
in_item (AtRead h) t = opening (ClockOpen h) t
in_item (ClockOpen h) t = word (codes "posedge") (AtItem (EdgeRead h)) t (item (EdgeRead h))
in_item (EdgeRead h) t = name (λ c. AtItem (ClockRead h c)) t (λ c. item (ClockRead h c))
in_item (ClockRead h c) t = mark Close (AtStmt (WantStmt 0 (InAlways h c))) t (λ x. tt)
in_item (Ended h) t = none t

roomy : (s : State) (t : Token) → Roomy t (step bounded s t)
roomy (AtExpr p) t = expression p t
roomy (AtStmt p) t = in_stmt p t
roomy (AtItem p) t = in_item p t

-- behind an opening that 64 have room for, there is room for what must come
pub has_room : (s : State) (o : Opening) (z : State) → step bounded s (opening_token o) ≡ Some z → HasRoom (limit_of o) z
has_room s o z e = roomy s (opening_token o) z e o refl
