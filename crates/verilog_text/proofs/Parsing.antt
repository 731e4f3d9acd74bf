-- Tokens, one after another, and what a limit of openings refuses.
use Rattle.std.proofs.Common.{◌≡◌, ℕ, ◌+◌, ◌≤◌, ◌<◌, Bool, true, false, List, [], ◌∷◌, ◌++◌, Option, Some, None, refl, sym, ap, subst, ◌∙◌, arith, if◌then◌else◌, codes, nat_lt}
use Rattle.std.specs.Str.{bytes_eq}
use Rattle.std.proofs.lemmas.Bool.{lt-ltb, ltb-true}
use Rattle.std.proofs.lemmas.Slice.Eq.{bytes_eq-Decides}
use Rattle.bist_text.specs.Grammar.{when}
use Rattle.bist_text.specs.Lexed.{then as and_then}
use Rattle.bist_text.specs.Machine.{Holds}
use Rattle.bist_text.specs.ReservedWords.{is_among, reserved_words}
use Rattle.verilog_tree.specs.declared.tokens.Mark.TheVariants.{Open, OpenBrace, OpenBracket, Colon, Question}
use Rattle.verilog_tree.specs.declared.tokens.Mark.{Mark}
use Rattle.verilog_tree.specs.declared.tree.BinOp.{BinOp}
use Rattle.verilog_tree.specs.declared.tree.UnOp.{UnOp}
use Rattle.verilog_tree.specs.Grammar.{Limit, unlimited, deeper_in, deeper, few, is_sign, then_all, alone}
use Rattle.verilog_tree.specs.Free.{signed}
use Rattle.verilog_text.specs.Flat.{Left, settle_all, linked, Count, Together, Apart, one_more, in_parens, in_braces}
use Rattle.verilog_tree.specs.Spells.{bounded}
use Rattle.verilog_tree.specs.Plain as P
use Rattle.verilog_tree.specs.Tokens.{Token, Identifier, Sign}
use Rattle.verilog_text.specs.Expected.{is_step, taken}
use Rattle.verilog_text.specs.inner.Following.{rest}
use Rattle.verilog_text.specs.Openings.{Opening, Parenthesis, Brace, BlockWord, IfWord, CaseWord, Operator, opening_token, limit_of}
use Rattle.verilog_text.specs.Places.{Around, Outside, ExprPlace, StmtPlace, ItemPlace, State, InBlock, InThen, InElse, InDefault, WantStmt, IfRead, CaseRead, DefaultRead, Block, HaveStmt, HeadOpen, AtRead, AtExpr, AtStmt, AtItem, Nest, InRound, InList, IfTrue, Linked, WantOperand, WantPrim, Named, Have}
use Rattle.verilog_text.specs.Steps.{in_room, unary_of, step_expr, word_step, want_stmt_step, block_step, have_stmt_step, step_stmt, step_item, step, is_word, target_step, ask_step, link_step, have_step, prim_step, sign_step, operand_step, infix_of}
use Rattle.verilog_text.proofs.ItemLaws.{parse_goes}
use Rattle.verilog_text.proofs.Limits.{wider_step, no_limit}

-- the state behind these tokens
abbrev pub parse : Limit → List Token → State → Option State
parse limit [] s = Some s
parse limit (t ∷ ts) s = and_then (step limit s t) (λ q. parse limit ts q)

pub parse_to : (limit : Limit) (ts us : List Token) (s : State) (v : P.ModuleTree) → rest limit s (ts ++ us) v → Holds (parse limit ts s) (λ z. rest limit z us v)
parse_to limit [] us s v h = h
parse_to limit (t ∷ ts) us s v h = go (step limit s t) ((parse_goes limit s t (ts ++ us) v).0 h) (λ q k. parse_to limit ts us q v k)
  where
    go : (o : Option State) → Holds o (λ z. rest limit z (ts ++ us) v) → ((q : State) → rest limit q (ts ++ us) v → Holds (parse limit ts q) (λ z. rest limit z us v)) → Holds (and_then o (λ q. parse limit ts q)) (λ z. rest limit z us v)
    go None h f = h
    go (Some q) h f = f q h

pub parse_from : (limit : Limit) (ts us : List Token) (s : State) (v : P.ModuleTree) → Holds (parse limit ts s) (λ z. rest limit z us v) → rest limit s (ts ++ us) v
parse_from limit [] us s v h = h
parse_from limit (t ∷ ts) us s v h = (parse_goes limit s t (ts ++ us) v).1 (go (step limit s t) h (λ q k. parse_from limit ts us q v k))
  where
    go : (o : Option State) → Holds (and_then o (λ q. parse limit ts q)) (λ z. rest limit z us v) → ((q : State) → Holds (parse limit ts q) (λ z. rest limit z us v) → rest limit q (ts ++ us) v) → Holds o (λ z. rest limit z (ts ++ us) v)
    go None h f = h
    go (Some q) h f = f q h

pub parse_wider : (limit wider : Limit) → ((d e : ℕ) → deeper limit d ≡ Some e → deeper wider d ≡ Some e) → ((n : ℕ) → few limit n ≡ true → few wider n ≡ true) → (ts : List Token) (s z : State) → parse limit ts s ≡ Some z → parse wider ts s ≡ Some z
parse_wider limit wider more fewer [] s z h = h
parse_wider limit wider more fewer (t ∷ ts) s z h = go (step limit s t) refl h (λ q k. parse_wider limit wider more fewer ts q z k)
  where
    go : (o : Option State) → step limit s t ≡ o → and_then o (λ q. parse limit ts q) ≡ Some z → ((q : State) → parse limit ts q ≡ Some z → parse wider ts q ≡ Some z) → and_then (step wider s t) (λ q. parse wider ts q) ≡ Some z
    go None e k f = cc
    go (Some q) e k f = ap (λ o. and_then o (λ q. parse wider ts q)) (wider_step limit wider more fewer s t q e) ∙ f q k

-- one token more
pub parse_on : (limit : Limit) (ts : List Token) (t : Token) (s z y : State) → parse limit ts s ≡ Some z → step limit z t ≡ Some y → parse limit (ts ++ (t ∷ [])) s ≡ Some y
parse_on limit [] t s z y e n = let k : z ≡ s = cc in ap (λ o. and_then o (λ q. Some q)) (subst (λ (x : State). step limit x t ≡ Some y) k n)
parse_on limit (u ∷ ts) t s z y e n = go (step limit s u) e (λ q k. parse_on limit ts t q z y k n)
  where
    go : (o : Option State) → and_then o (λ q. parse limit ts q) ≡ Some z → ((q : State) → parse limit ts q ≡ Some z → parse limit (ts ++ (t ∷ [])) q ≡ Some y) → and_then o (λ q. parse limit (ts ++ (t ∷ [])) q) ≡ Some y
    go None k f = cc
    go (Some q) k f = f q k

-- ---- openings

-- within all limits there is room within each
next_limit : (d e : ℕ) → deeper_in (Some 64) d ≡ Some e → deeper_in (Some 65) d ≡ Some e
next_limit d e h = go (nat_lt d 64) refl h
  where
    go : (t : Bool) → nat_lt d 64 ≡ t → (if t then Some (d + 1) else None) ≡ Some e → deeper_in (Some 65) d ≡ Some e
    go true k h = ap (λ b. if b then Some (d + 1) else None) (lt-ltb d 65 (let p = ltb-true d 64 k in omega (arith, p))) ∙ h
    go false k h = cc

pub enough : (o : Opening) (d e : ℕ) → deeper bounded d ≡ Some e → deeper (limit_of o) d ≡ Some e
enough Parenthesis d e h = h
enough Brace d e h = h
enough BlockWord d e h = h
enough IfWord d e h = next_limit d e h
enough CaseWord d e h = next_limit d e h
enough (Operator m) d e h = no_limit bounded d e h

pub few_enough : (o : Opening) (n : ℕ) → few bounded n ≡ true → few (limit_of o) n ≡ true
few_enough (Operator m) n h = h
few_enough Parenthesis n h = refl
few_enough o n h = refl

-- why a step is there without limits, and not within all: the token is an opening or an operator, and no text goes on
-- with it within the limit that it breaks
abbrev Blocks : (Limit → Option State) → Token → Type 0
Blocks F t = is_step (F unlimited) ≡ true → F bounded ≡ None → (o : Opening) × (t ≡ opening_token o) × ((ts : List Token) (v : P.ModuleTree) → Holds (F (limit_of o)) (λ z. rest (limit_of o) z ts v) → ⊥)

still : (o : Option State) (t : Token) → Blocks (λ l. o) t
still None t h e = cc
still (Some q) t h e = cc

choose : (t : Token) (b : Bool) (F G : Limit → Option State) → (b ≡ true → Blocks F t) → (b ≡ false → Blocks G t) → Blocks (λ l. if b then F l else G l) t
choose t true F G f g = f refl
choose t false F G f g = g refl

-- an opening behind which nothing else must open
simply : (o : Opening) (d : ℕ) (f : ℕ → State) → (limit_of o).openings ≡ Some 64 → Blocks (λ l. in_room (deeper l d) f) (opening_token o)
simply o d f n h e = (o, refl, λ ts v k. subst (λ (m : Option State). Holds m (λ z. rest (limit_of o) z ts v)) (ap (λ w. in_room (deeper_in w d) f) n ∙ e) k)

-- an operator more
counted : (n : Count) (f : Count → State) (m : Mark) → Blocks (λ l. in_room (one_more l n) f) (Sign m)
counted (Apart true) f m h e = cc
counted (Apart false) f m h e = cc
counted (Together n) f m h e = (Operator m, refl, λ ts v k. subst (λ (s : Option State). Holds s (λ z. rest (limit_of (Operator m)) z ts v)) e k)

lt_false : (d n : ℕ) → nat_lt d n ≡ false → n ≤ d
lt_false d n h = let k : nat_lt d n ≡ true → ⊥ = (λ e. let z : true ≡ false = sym e ∙ h in cc) in let m : d < n → ⊥ = (λ l. k (lt-ltb d n l)) in omega (arith, m)

-- 65 are open behind it
full : (q p : ℕ) → 64 ≤ q → deeper_in (Some 65) q ≡ Some p → deeper_in (Some 65) p ≡ None
full q p h e = go (nat_lt q 65) refl e
  where
    go : (t : Bool) → nat_lt q 65 ≡ t → (if t then Some (q + 1) else None) ≡ Some p → deeper_in (Some 65) p ≡ None
    go true k e = let m : q + 1 ≡ p = cc in shut (nat_lt p 65) refl m
      where
        shut : (b : Bool) → nat_lt p 65 ≡ b → q + 1 ≡ p → (if b then Some (p + 1) else None) ≡ None
        shut true l m = let n = ltb-true p 65 l in absurd (omega (arith, n, m, h))
        shut false l m = refl
    go false k e = cc

-- an if or a case behind which a parenthesis opens
no_room : (d : ℕ) (f : ℕ → State) → in_room (deeper_in (Some 64) d) f ≡ None → 64 ≤ d
no_room d f h = go (nat_lt d 64) refl h
  where
    go : (t : Bool) → nat_lt d 64 ≡ t → in_room (if t then Some (d + 1) else None) f ≡ None → 64 ≤ d
    go true k h = cc
    go false k h = lt_false d 64 k

ifs : (q : ℕ) (a : Around) → Blocks (λ l. in_room (deeper l q) (λ p. AtStmt (IfRead q p a))) (Identifier (codes "if"))
ifs q a h e = (IfWord, refl, λ ts v k. go (deeper_in (Some 65) q) refl ts v k)
  where
    deep : 64 ≤ q
    deep = no_room q (λ p. AtStmt (IfRead q p a)) e

    go : (o : Option ℕ) → deeper_in (Some 65) q ≡ o → (ts : List Token) (v : P.ModuleTree) → Holds (in_room o (λ p. AtStmt (IfRead q p a))) (λ z. rest (limit_of IfWord) z ts v) → ⊥
    go None m ts v k = k
    go (Some p) m [] v k = k.4
    go (Some p) m (Sign n ∷ ts) v k = opened _ (is_sign Open n) k.4
      where
        opened : (F : ℕ → Type 0) (b : Bool) → when b (Holds (deeper_in (Some 65) p) F) → ⊥
        opened F true k = subst (λ (o : Option ℕ). Holds o F) (full q p deep m) k
        opened F false k = k
    go (Some p) m (t ∷ ts) v k = k.4

cases : (q : ℕ) (a : Around) → Blocks (λ l. in_room (deeper l q) (λ p. AtStmt (CaseRead q p a))) (Identifier (codes "case"))
cases q a h e = (CaseWord, refl, λ ts v k. go (deeper_in (Some 65) q) refl ts v k)
  where
    deep : 64 ≤ q
    deep = no_room q (λ p. AtStmt (CaseRead q p a)) e

    go : (o : Option ℕ) → deeper_in (Some 65) q ≡ o → (ts : List Token) (v : P.ModuleTree) → Holds (in_room o (λ p. AtStmt (CaseRead q p a))) (λ z. rest (limit_of IfWord) z ts v) → ⊥
    go None m ts v k = k
    go (Some p) m [] v k = k.5
    go (Some p) m (Sign n ∷ ts) v k = opened _ (is_sign Open n) k.5
      where
        opened : (F : ℕ → Type 0) (b : Bool) → when b (Holds (deeper_in (Some 65) p) F) → ⊥
        opened F true k = subst (λ (o : Option ℕ). Holds o F) (full q p deep m) k
        opened F false k = k
    go (Some p) m (t ∷ ts) v k = k.5

ask : (p : ℕ) (n : Count) (ws : List Left) (e : P.Expression) (o : Nest) (m : Mark) → Blocks (λ l. ask_step l p n ws e o m) (Sign m)
ask p n ws e o Question = counted n (λ j. AtExpr (WantOperand p j [] (IfTrue (settle_all ws e) o))) Question
ask p n ws e o m = still _ (Sign m)

join : (b : Option BinOp) (p : ℕ) (n : Count) (ws : List Left) (e : P.Expression) (o : Nest) (m : Mark) → Blocks (λ l. link_step l b p n ws e o m) (Sign m)
join None p n ws e o m = ask p n ws e o m
join (Some b) p n ws e o m = counted n (λ j. AtExpr (WantOperand p j (linked b ws e) o)) m

have : (p : ℕ) (e : P.Expression) (o : Outside) (t : Token) → Blocks (λ l. have_step l p e o t) t
have p e (Linked n ws u o) (Sign m) = join (infix_of m) p n ws (signed u e) o m
have p e (Linked n ws u o) t = still _ t

prim : (p : ℕ) (n : Count) (ws : List Left) (u : Option UnOp) (o : Nest) (t : Token) → Blocks (λ l. prim_step l p n ws u o t) t
prim p n ws u o (Sign Open) = simply Parenthesis p (λ q. AtExpr (WantOperand q (in_parens n) [] (InRound p n ws u o))) refl
prim p n ws u o (Sign OpenBrace) = simply Brace p (λ q. AtExpr (WantOperand q (in_braces n) [] (InList p P.NoMore n ws u o))) refl
prim p n ws u o (Sign m) = still _ (Sign m)
prim p n ws u o t = still _ t

marked : (v : Option UnOp) (p : ℕ) (n : Count) (ws : List Left) (o : Nest) (m : Mark) → Blocks (λ l. sign_step l v p n ws o m) (Sign m)
marked None p n ws o m = prim p n ws None o (Sign m)
marked (Some u) p n ws o m = counted n (λ j. AtExpr (WantPrim p j ws (Some u) o)) m

operand : (p : ℕ) (n : Count) (ws : List Left) (o : Nest) (t : Token) → Blocks (λ l. operand_step l p n ws o t) t
operand p n ws o (Sign m) = marked (unary_of m) p n ws o m
operand p n ws o t = prim p n ws None o t

named : (p : ℕ) (n : List ℕ) (o : Outside) (t : Token) → Blocks (λ l. step_expr l (Named p n o) t) t
named p n o (Sign OpenBracket) = still _ (Sign OpenBracket)
named p n o (Sign m) = have p (P.Net n) o (Sign m)
named p n o t = have p (P.Net n) o t

expression : (p : ExprPlace) (t : Token) → Blocks (λ l. step_expr l p t) t
expression (Named p n o) t = named p n o t
expression (Have p e o) t = have p e o t
expression (WantOperand p n ws o) t = operand p n ws o t
expression (WantPrim p n ws u o) t = prim p n ws u o t
expression p t = still _ t

-- the word is this one
is_this : (w d : List ℕ) (F : Limit → Option State) → bytes_eq w d ≡ true → Blocks F (Identifier d) → Blocks F (Identifier w)
is_this w d F e f = subst (λ x. Blocks F (Identifier x)) (sym ((bytes_eq-Decides w d).0 e)) f

word : (q : ℕ) (a : Around) (w : List ℕ) → Blocks (λ l. word_step l q a w) (Identifier w)
word q a w = choose (Identifier w) (bytes_eq w (codes "begin")) blocks_begin behind_begin (λ e. is_this w (codes "begin") blocks_begin e (simply BlockWord q (λ p. AtStmt (Block p q P.Done a)) refl)) (λ e. choose (Identifier w) (bytes_eq w (codes "if")) if_begins behind_if (λ e. is_this w (codes "if") if_begins e (ifs q a)) (λ e. choose (Identifier w) (bytes_eq w (codes "case")) case_begins (λ l. target) (λ e. is_this w (codes "case") case_begins e (cases q a)) (λ e. still target (Identifier w))))
  where
    target : Option State
    target = target_step (is_among w reserved_words) q w a

    blocks_begin : Limit → Option State
    blocks_begin l = in_room (deeper l q) (λ p. AtStmt (Block p q P.Done a))

    if_begins : Limit → Option State
    if_begins l = in_room (deeper l q) (λ p. AtStmt (IfRead q p a))

    case_begins : Limit → Option State
    case_begins l = in_room (deeper l q) (λ p. AtStmt (CaseRead q p a))

    behind_if : Limit → Option State
    behind_if l = if bytes_eq w (codes "case") then case_begins l else target

    behind_begin : Limit → Option State
    behind_begin l = if bytes_eq w (codes "if") then if_begins l else behind_if l

statement : (q : ℕ) (a : Around) (t : Token) → Blocks (λ l. want_stmt_step l q a t) t
statement q a (Identifier w) = word q a w
statement q a t = still _ t

block : (p r : ℕ) (old : P.Statements) (a : Around) (t : Token) → Blocks (λ l. block_step l p r old a t) t
block p r old a t = choose t (is_word (codes "end") t) (λ l. Some (AtStmt (HaveStmt r old a))) (λ l. want_stmt_step l p (InBlock r old a) t) (λ e. still _ t) (λ e. statement p (InBlock r old a) t)

behind : (a : Around) (q : ℕ) (s : P.Statements) (t : Token) → Blocks (λ l. have_stmt_step l a q s t) t
behind (InBlock r old a) q s t = block q r (then_all old s) a t
behind (InThen r c a) q s t = choose t (is_word (codes "else") t) (λ l. Some (AtStmt (WantStmt q (InElse r c s a)))) (λ l. have_stmt_step l a r (alone (P.IfElse c s P.Done)) t) (λ e. still _ t) (λ e. behind a r (alone (P.IfElse c s P.Done)) t)
behind (InElse r c s' a) q s t = behind a r (alone (P.IfElse c s' s)) t
behind a q s t = still _ t

in_stmt : (p : StmtPlace) (t : Token) → Blocks (λ l. step_stmt l p t) t
in_stmt (WantStmt q a) t = statement q a t
in_stmt (IfRead r q a) (Sign Open) = simply Parenthesis q _ refl
in_stmt (IfRead r q a) (Sign m) = still _ (Sign m)
in_stmt (IfRead r q a) t = still _ t
in_stmt (CaseRead r q a) (Sign Open) = simply Parenthesis q _ refl
in_stmt (CaseRead r q a) (Sign m) = still _ (Sign m)
in_stmt (CaseRead r q a) t = still _ t
in_stmt (DefaultRead r q x as' a) (Sign Colon) = still _ (Sign Colon)
in_stmt (DefaultRead r q x as' a) (Sign m) = still _ (Sign m)
in_stmt (DefaultRead r q x as' a) t = statement q (InDefault r x as' a) t
in_stmt (Block p r old a) t = block p r old a t
in_stmt (HaveStmt q s a) t = behind a q s t
in_stmt p t = still _ t

in_item : (p : ItemPlace) (t : Token) → Blocks (λ l. step_item l p t) t
in_item (HeadOpen y n) (Sign Open) = simply Parenthesis 0 _ refl
in_item (HeadOpen y n) (Sign m) = still _ (Sign m)
in_item (HeadOpen y n) t = still _ t
in_item (AtRead h) (Sign Open) = simply Parenthesis 0 _ refl
in_item (AtRead h) (Sign m) = still _ (Sign m)
in_item (AtRead h) t = still _ t
in_item p t = still _ t

pub blocks : (s : State) (t : Token) → Blocks (λ l. step l s t) t
blocks (AtExpr p) t = expression p t
blocks (AtStmt p) t = in_stmt p t
blocks (AtItem p) t = in_item p t

-- a token that only the limit refuses is an opening, with which no text goes on that has so few open
pub too_many : (s : State) (t : Token) → taken s t ≡ true → step bounded s t ≡ None → (o : Opening) × (t ≡ opening_token o) × ((ts : List Token) (v : P.ModuleTree) → rest (limit_of o) s (t ∷ ts) v → ⊥)
too_many s t h e = let b = blocks s t h e in (b.0, b.1, λ ts v k. b.2 ts v ((parse_goes (limit_of b.0) s t ts v).0 k))
