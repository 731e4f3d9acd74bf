-- Which tokens a state takes: words by a list, names alike, and literals and numbers whichever they are.
use Rattle.std.proofs.Common.{◌≡◌, ℕ, Bool, true, false, not, ◌||◌, ◌&&◌, List, [], ◌∷◌, Option, Some, None, refl, sym, ap, ◌∙◌, if◌then◌else◌, codes}
use Rattle.std.specs.Str.{bytes_eq}
use Rattle.bist_bits.specs.Vector.{Vector}
use Rattle.bist_text.specs.ReservedWords.{is_among, reserved_words}
use Rattle.verilog_tree.specs.declared.tree.Dir.TheVariants.{Input, Output}
use Rattle.verilog_tree.specs.Grammar.{unlimited, then_all, alone, is_zero}
use Rattle.verilog_tree.specs.Plain as P
use Rattle.verilog_tree.specs.Tokens.{Token, Identifier, Number, Based, Unused, Sign}
use Rattle.verilog_tree.specs.declared.tokens.Mark.{Mark}
use Rattle.verilog_tree.specs.declared.tokens.Mark.TheVariants.{Close, Semicolon, Colon}
use Rattle.verilog_tree.specs.declared.tree.UnOp.{UnOp}
use Rattle.verilog_tree.specs.Free.{signed}
use Rattle.verilog_text.specs.Flat.{Left, settle_all, Count, behind}
use Rattle.verilog_text.specs.inner.Expected.{NoNumber, numbers, taken_as, literals_behind}
use Rattle.verilog_text.specs.Expected.{item_words, statement_words, else_behind, words_behind, with_else, words, names_behind, takes_names, is_step, taken, takes_literals}
use Rattle.verilog_text.specs.Places.{Head, with_item, Around, Outside, ExprPlace, StmtPlace, Use, ItemPlace, State, InAlways, InBlock, InThen, InElse, InArm, InDefault, Named, Bracket, ColonRead, Have, WantStmt, DefaultRead, Block, HaveStmt, AsWire, AsReg, AsPort, Begin, HeadName, WantPort, InputRead, OutputRead, WantRange, WantHigh, WantZero, WantName, NameRead, WantItem, AssignRead, ClockOpen, EdgeRead, AtExpr, AtStmt, AtItem, Nest, Only, InRound, InList, IfTrue, IfFalse, AsDriver, AsCondition, AsSubject, AsValue, Linked, WantOperand, WantPrim, FirstLabel}
use Rattle.verilog_text.specs.Steps.{step, only_where, unless, target_step, have_step, want_stmt_step, block_step, have_stmt_step, want_item_step, range_step, name_step, to_expr, expects, close_step, prim_step}

-- ---- words

-- what a word does, by whether it is a name and among the words that may come
abbrev Law : Option State → List ℕ → List (List ℕ) → Bool → Type 0
Law o v ws names = is_step o ≡ (is_among v ws || (names && not (is_among v reserved_words)))

-- one word more
link : (b : Bool) (o p : Option State) (r x : Bool) → is_step o ≡ true → is_step p ≡ (r || x) → is_step (if b then o else p) ≡ ((b || r) || x)
link true o p r x e f = e
link false o p r x e f = f

unless_is : (t : Bool) (s : State) → is_step (unless t s) ≡ (false || (true && not t))
unless_is true s = refl
unless_is false s = refl

target_is : (t : Bool) (q : ℕ) (v : List ℕ) (a : Around) → is_step (target_step t q v a) ≡ (false || (true && not t))
target_is true q v a = refl
target_is false q v a = refl

only_is : (t : Bool) (s : State) → is_step (only_where t (Some s)) ≡ ((t || false) || false)
only_is true s = refl
only_is false s = refl

prim_is : (p : ℕ) (n : Count) (ws : List Left) (u : Option UnOp) (o : Nest) (v : List ℕ) → Law (prim_step unlimited p n ws u o (Identifier v)) v [] true
prim_is p n ws u o v = go (is_among v reserved_words)
  where
    go : (t : Bool) → is_step (if t then None else to_expr (Named p v (Linked n ws u o))) ≡ (false || (true && not t))
    go true = refl
    go false = refl

abbrev no_mark : Token → Bool
no_mark (Sign m) = false
no_mark t = true

expects_none : (m : Mark) (s : State) (t : Token) → no_mark t ≡ true → is_step (expects m s t) ≡ false
expects_none m s (Sign n) f = cc
expects_none m s t f = refl

-- behind a whole expression by precedence only marks come
shut : (p : ℕ) (m : Count) (x : P.Expression) (o : Nest) (t : Token) → no_mark t ≡ true → is_step (close_step p m x o t) ≡ false
shut p m x (Only (AsDriver h w)) t f = expects_none Semicolon (AtItem (WantItem (with_item h (P.AssignItem w x)))) t f
shut p m x (Only (AsCondition r q a)) t f = expects_none Close (AtStmt (WantStmt q (InThen r x a))) t f
shut p m x (Only (AsSubject r q a)) t f = expects_none Close (AtStmt (FirstLabel r q x P.NoArm a)) t f
shut p m x (Only (AsValue w a)) t f = expects_none Semicolon (AtStmt (HaveStmt p (alone (P.SetTo w x)) a)) t f
shut p m x (InRound r n ws u o) t f = expects_none Close (AtExpr (Have r x (Linked (behind n m) ws u o))) t f
shut p m x (InList r old n ws u o) (Sign y) f = cc
shut p m x (InList r old n ws u o) t f = refl
shut p m x (IfTrue c o) t f = expects_none Colon (AtExpr (WantOperand p m [] (IfFalse c x o))) t f
shut p m x (IfFalse c y o) t f = shut p m (P.Conditional c y x) o t f

have_is : (p : ℕ) (x : P.Expression) (o : Outside) (v : List ℕ) → is_step (have_step unlimited p x o (Identifier v)) ≡ false
have_is p x (Linked c ws u o) v = shut p c (settle_all ws (signed u x)) o (Identifier v) refl

item_is : (h : Head) (v : List ℕ) → Law (want_item_step h (Identifier v)) v item_words false
item_is h v = link (bytes_eq v (codes "wire")) _ _ _ _ refl (link (bytes_eq v (codes "reg")) _ _ _ _ refl (link (bytes_eq v (codes "assign")) _ _ _ _ refl (link (bytes_eq v (codes "always")) _ _ _ _ refl (link (bytes_eq v (codes "endmodule")) _ _ _ _ refl refl))))

stmt_is : (q : ℕ) (a : Around) (v : List ℕ) → Law (want_stmt_step unlimited q a (Identifier v)) v statement_words true
stmt_is q a v = link (bytes_eq v (codes "begin")) _ _ _ _ refl (link (bytes_eq v (codes "if")) _ _ _ _ refl (link (bytes_eq v (codes "case")) _ _ _ _ refl (target_is (is_among v reserved_words) q v a)))

block_is : (p r : ℕ) (old : P.Statements) (a : Around) (v : List ℕ) → Law (block_step unlimited p r old a (Identifier v)) v (codes "end" ∷ statement_words) true
block_is p r old a v = link (bytes_eq v (codes "end")) _ _ _ _ refl (stmt_is p (InBlock r old a) v)

range_is : (u : Use) (v : List ℕ) → Law (range_step u (Identifier v)) v [] true
range_is u v = unless_is (is_among v reserved_words) _

-- an else more, which may be listed already
with_one : (t e : Bool) (o p : Option State) (v : List ℕ) (ws : List (List ℕ)) (x : Bool) → bytes_eq v (codes "else") ≡ t → is_step o ≡ true → is_step p ≡ (is_among v (with_else e ws) || x) → is_step (if t then o else p) ≡ ((bytes_eq v (codes "else") || is_among v ws) || x)
with_one true e o p v ws x k f g = f ∙ sym (ap (λ b. (b || is_among v ws) || x) k)
with_one false true o p v ws x k f g = g
with_one false false o p v ws x k f g = g ∙ sym (ap (λ b. (b || is_among v ws) || x) k)

behind_is : (a : Around) (q : ℕ) (s : P.Statements) (v : List ℕ) → Law (have_stmt_step unlimited a q s (Identifier v)) v (with_else (else_behind a) (words_behind a)) (names_behind a)
behind_is (InAlways h c) q s v = item_is (with_item h (P.AlwaysItem c s)) v
behind_is (InBlock r old a) q s v = block_is q r (then_all old s) a v
behind_is (InThen r c a) q s v = with_one (bytes_eq v (codes "else")) (else_behind a) _ (have_stmt_step unlimited a r (alone (P.IfElse c s P.Done)) (Identifier v)) v (words_behind a) _ refl refl (behind_is a r (alone (P.IfElse c s P.Done)) v)
behind_is (InElse r c s' a) q s v = behind_is a r (alone (P.IfElse c s' s)) v
behind_is (InArm r x as' ls a) q s v = link (bytes_eq v (codes "default")) _ _ _ _ refl (link (bytes_eq v (codes "endcase")) _ _ _ _ refl refl)
behind_is (InDefault r x as' a) q s v = only_is (bytes_eq v (codes "endcase")) _

name_is : (u : Use) (w : ℕ) (v : List ℕ) → is_step (name_step u w (Identifier v)) ≡ false
name_is (AsWire h) w v = refl
name_is (AsReg h) w v = refl
name_is (AsPort d h) w v = refl

expr_word : (p : ExprPlace) (v : List ℕ) → Law (step unlimited (AtExpr p) (Identifier v)) v [] (takes_names (AtExpr p))
expr_word (Named p n o) v = have_is p (P.Net n) o v
expr_word (Have p x o) v = have_is p x o v
expr_word (WantOperand p n ws o) v = prim_is p n ws None o v
expr_word (WantPrim p n ws u o) v = prim_is p n ws u o v
expr_word p v = refl

stmt_word : (p : StmtPlace) (v : List ℕ) → Law (step unlimited (AtStmt p) (Identifier v)) v (words (AtStmt p)) (takes_names (AtStmt p))
stmt_word (WantStmt q a) v = stmt_is q a v
stmt_word (DefaultRead r q x as' a) v = stmt_is q (InDefault r x as' a) v
stmt_word (Block p r old a) v = block_is p r old a v
stmt_word (HaveStmt q s a) v = behind_is a q s v
stmt_word p v = refl

item_word : (p : ItemPlace) (v : List ℕ) → Law (step unlimited (AtItem p) (Identifier v)) v (words (AtItem p)) (takes_names (AtItem p))
item_word (Begin y) v = only_is (bytes_eq v (codes "module")) _
item_word (HeadName y) v = unless_is (is_among v reserved_words) _
item_word (WantPort h) v = link (bytes_eq v (codes "input")) _ _ _ _ refl (link (bytes_eq v (codes "output")) _ _ _ _ refl refl)
item_word (InputRead h) v = link (bytes_eq v (codes "wire")) _ _ _ _ refl (range_is (AsPort Input h) v)
item_word (OutputRead h) v = link (bytes_eq v (codes "wire")) _ _ _ _ refl (link (bytes_eq v (codes "reg")) _ _ _ _ refl (range_is (AsPort Output h) v))
item_word (WantRange u) v = range_is u v
item_word (WantName u w) v = unless_is (is_among v reserved_words) _
item_word (NameRead u w) v = name_is u w v
item_word (WantItem h) v = item_is h v
item_word (AssignRead h) v = unless_is (is_among v reserved_words) _
item_word (ClockOpen h) v = only_is (bytes_eq v (codes "posedge")) _
item_word (EdgeRead h) v = unless_is (is_among v reserved_words) _
item_word p v = refl

-- a word is taken that is listed, or a name where names are taken
pub word_taken : (s : State) (v : List ℕ) → taken s (Identifier v) ≡ (is_among v (words s) || (takes_names s && not (is_among v reserved_words)))
word_taken (AtExpr p) v = expr_word p v
word_taken (AtStmt p) v = stmt_word p v
word_taken (AtItem p) v = item_word p v

-- ---- literals, numbers and what no rule uses

pub have_literal : (p : ℕ) (x : P.Expression) (o : Outside) (y : Vector) → is_step (have_step unlimited p x o (Based y)) ≡ false
have_literal p x (Linked c ws u o) y = shut p c (settle_all ws (signed u x)) o (Based y) refl

behind_literal : (a : Around) (q : ℕ) (s : P.Statements) (x y : Vector) → is_step (have_stmt_step unlimited a q s (Based x)) ≡ is_step (have_stmt_step unlimited a q s (Based y))
behind_literal (InThen r c a) q s x y = behind_literal a r (alone (P.IfElse c s P.Done)) x y
behind_literal (InElse r c s' a) q s x y = behind_literal a r (alone (P.IfElse c s' s)) x y
behind_literal a q s x y = refl

name_literal : (u : Use) (w : ℕ) (x y : Vector) → is_step (name_step u w (Based x)) ≡ is_step (name_step u w (Based y))
name_literal (AsWire h) w x y = refl
name_literal u w x y = refl

literal_taken : (s : State) (x y : Vector) → taken s (Based x) ≡ taken s (Based y)
literal_taken (AtExpr (Named p n o)) x y = have_literal p (P.Net n) o x ∙ sym (have_literal p (P.Net n) o y)
literal_taken (AtExpr (Have p e o)) x y = have_literal p e o x ∙ sym (have_literal p e o y)
literal_taken (AtExpr p) x y = refl
literal_taken (AtStmt (HaveStmt q s a)) x y = behind_literal a q s x y
literal_taken (AtStmt p) x y = refl
literal_taken (AtItem (NameRead u w)) x y = name_literal u w x y
literal_taken (AtItem p) x y = refl

-- which literal it is does not matter
pub literals_alike : (s : State) (x : Vector) → taken s (Based x) ≡ takes_literals s
literals_alike s x = literal_taken s x (record { width = 1; value = 0 })

have_query : (p : ℕ) (x : P.Expression) (o : Outside) → is_step (have_step unlimited p x o Unused) ≡ false
have_query p x (Linked c ws u o) = shut p c (settle_all ws (signed u x)) o Unused refl

behind_query : (a : Around) (q : ℕ) (s : P.Statements) → is_step (have_stmt_step unlimited a q s Unused) ≡ false
behind_query (InThen r c a) q s = behind_query a r (alone (P.IfElse c s P.Done))
behind_query (InElse r c s' a) q s = behind_query a r (alone (P.IfElse c s' s))
behind_query a q s = refl

name_query : (u : Use) (w : ℕ) → is_step (name_step u w Unused) ≡ false
name_query (AsWire h) w = refl
name_query u w = refl

pub no_query : (s : State) → taken s Unused ≡ false
no_query (AtExpr (Named p n o)) = have_query p (P.Net n) o
no_query (AtExpr (Have p e o)) = have_query p e o
no_query (AtExpr p) = refl
no_query (AtStmt (HaveStmt q s a)) = behind_query a q s
no_query (AtStmt p) = refl
no_query (AtItem (NameRead u w)) = name_query u w
no_query (AtItem p) = refl

have_number : (p : ℕ) (x : P.Expression) (o : Outside) (l : Bool) (n : ℕ) → is_step (have_step unlimited p x o (Number l n)) ≡ false
have_number p x (Linked c ws u o) l n = shut p c (settle_all ws (signed u x)) o (Number l n) refl

behind_number : (a : Around) (q : ℕ) (s : P.Statements) (l : Bool) (n : ℕ) → is_step (have_stmt_step unlimited a q s (Number l n)) ≡ false
behind_number (InThen r c a) q s l n = behind_number a r (alone (P.IfElse c s P.Done)) l n
behind_number (InElse r c s' a) q s l n = behind_number a r (alone (P.IfElse c s' s)) l n
behind_number a q s l n = refl

name_number : (u : Use) (w : ℕ) (l : Bool) (n : ℕ) → is_step (name_step u w (Number l n)) ≡ false
name_number (AsWire h) w l n = refl
name_number u w l n = refl

zero_is : (t : Bool) (s : State) → is_step (only_where t (Some s)) ≡ t
zero_is true s = refl
zero_is false s = refl

pub number_taken : (s : State) (l : Bool) (n : ℕ) → taken s (Number l n) ≡ taken_as (numbers s) l n
number_taken (AtExpr (Named p m o)) l n = have_number p (P.Net m) o l n
number_taken (AtExpr (Have p e o)) l n = have_number p e o l n
number_taken (AtExpr p) l n = refl
number_taken (AtStmt (HaveStmt q s a)) l n = behind_number a q s l n
number_taken (AtStmt p) l n = refl
number_taken (AtItem (WantZero u i)) l n = zero_is (is_zero l n) _
number_taken (AtItem (NameRead u w)) l n = name_number u w l n
number_taken (AtItem p) l n = refl

-- where literals are taken no number is
pub numbers_or_literals : (s : State) → takes_literals s ≡ true → numbers s ≡ NoNumber
numbers_or_literals (AtExpr (Bracket p n o)) h = cc
numbers_or_literals (AtExpr (ColonRead p n i o)) h = cc
numbers_or_literals (AtExpr p) h = refl
numbers_or_literals (AtStmt p) h = refl
numbers_or_literals (AtItem (WantHigh u)) h = cc
numbers_or_literals (AtItem (WantZero u i)) h = cc
numbers_or_literals (AtItem p) h = refl

-- a literal behind a statement
pub literal_behind : (a : Around) (q : ℕ) (s : P.Statements) → takes_literals (AtStmt (HaveStmt q s a)) ≡ literals_behind a
literal_behind (InThen r c a) q s = literal_behind a r (alone (P.IfElse c s P.Done))
literal_behind (InElse r c s' a) q s = literal_behind a r (alone (P.IfElse c s' s))
literal_behind (InAlways h c) q s = refl
literal_behind (InBlock r old a) q s = refl
literal_behind (InArm r x as' ls a) q s = refl
literal_behind (InDefault r x as' a) q s = refl

-- no mark behind a statement
pub no_mark_behind : (a : Around) (q : ℕ) (s : P.Statements) (m : Mark) → taken (AtStmt (HaveStmt q s a)) (Sign m) ≡ false
no_mark_behind (InThen r c a) q s m = no_mark_behind a r (alone (P.IfElse c s P.Done)) m
no_mark_behind (InElse r c s' a) q s m = no_mark_behind a r (alone (P.IfElse c s' s)) m
no_mark_behind (InAlways h c) q s m = refl
no_mark_behind (InBlock r old a) q s m = refl
no_mark_behind (InArm r x as' ls a) q s m = refl
no_mark_behind (InDefault r x as' a) q s m = refl
