-- What a limit of openings refuses: where a state has a step within a limit, it has the same without.
use Rattle.std.proofs.Common.{◌≡◌, ℕ, ◌+◌, Bool, true, false, List, [], ◌∷◌, Option, Some, None, refl, if◌then◌else◌, codes, nat_lt, ap, ◌∙◌}
use Rattle.std.specs.Str.{bytes_eq}
use Rattle.bist_text.specs.Machine.{Holds}
use Rattle.verilog_tree.specs.declared.tokens.Mark.{Mark}
use Rattle.verilog_tree.specs.declared.tokens.Mark.TheVariants.{Open, OpenBrace, OpenBracket, Colon, Question}
use Rattle.verilog_tree.specs.declared.tree.UnOp.{UnOp}
use Rattle.verilog_tree.specs.declared.tree.BinOp.{BinOp}
use Rattle.verilog_tree.specs.Free.{signed}
use Rattle.verilog_text.specs.Flat.{Left, settle_all, linked, Count, Together, Apart, one_more}
use Rattle.verilog_tree.specs.Grammar.{Limit, unlimited, deeper_in, few, deeper, then_all, alone}
use Rattle.verilog_tree.specs.Plain as P
use Rattle.verilog_tree.specs.Tokens.{Token, Identifier, Sign}
use Rattle.verilog_text.specs.Expected.{is_step, taken}
use Rattle.verilog_text.specs.inner.Following.{rest}
use Rattle.verilog_text.specs.Places.{Around, Outside, ExprPlace, StmtPlace, ItemPlace, State, InBlock, InThen, InElse, InDefault, WantStmt, IfRead, CaseRead, DefaultRead, Block, HaveStmt, HeadOpen, AtRead, AtExpr, AtStmt, AtItem, Nest, IfTrue, Linked, WantOperand, WantPrim, Named, Have}
use Rattle.verilog_text.specs.Steps.{in_room, unary_of, step_expr, word_step, want_stmt_step, block_step, have_stmt_step, step_stmt, opens, step_item, step, is_word, ask_step, link_step, have_step, prim_step, sign_step, operand_step, infix_of}
use Rattle.verilog_text.proofs.ItemLaws.{parse_goes}

-- of two steps, the first is there only where the second is
abbrev Within : Option State → Option State → Type 0
Within o p = (q : State) → o ≡ Some q → p ≡ Some q

choose : (b : Bool) (o o' p p' : Option State) → Within o o' → Within p p' → Within (if b then o else p) (if b then o' else p')
choose true o o' p p' f g = f
choose false o o' p p' f g = g

same : (o : Option State) → Within o o
same o q e = e

module _ (limit wider : Limit) (more : (d e : ℕ) → deeper limit d ≡ Some e → deeper wider d ≡ Some e) (fewer : (n : ℕ) → few limit n ≡ true → few wider n ≡ true) where
  room : (d : ℕ) (f : ℕ → State) → Within (in_room (deeper limit d) f) (in_room (deeper wider d) f)
  room d f q e = go (deeper limit d) refl e
    where
      go : (o : Option ℕ) → deeper limit d ≡ o → in_room o f ≡ Some q → in_room (deeper wider d) f ≡ Some q
      go None k e = cc
      go (Some x) k e = ap (λ o. in_room o f) (more d x k) ∙ e

  counted : (n : Count) (f : Count → State) → Within (in_room (one_more limit n) f) (in_room (one_more wider n) f)
  counted (Apart true) f q e = e
  counted (Apart false) f q e = cc
  counted (Together n) f q e = go (few limit (n + 1)) refl e
    where
      go : (b : Bool) → few limit (n + 1) ≡ b → in_room (if b then Some (Together (n + 1)) else None) f ≡ Some q → in_room (one_more wider (Together n)) f ≡ Some q
      go true k e = ap (λ b. in_room (if b then Some (Together (n + 1)) else None) f) (fewer (n + 1) k) ∙ e
      go false k e = cc

  ask : (p : ℕ) (n : Count) (ws : List Left) (e : P.Expression) (o : Nest) (m : Mark) → Within (ask_step limit p n ws e o m) (ask_step wider p n ws e o m)
  ask p n ws e o Question = counted n (λ j. AtExpr (WantOperand p j [] (IfTrue (settle_all ws e) o)))
  ask p n ws e o m = same _

  join : (b : Option BinOp) (p : ℕ) (n : Count) (ws : List Left) (e : P.Expression) (o : Nest) (m : Mark) → Within (link_step limit b p n ws e o m) (link_step wider b p n ws e o m)
  join None p n ws e o m = ask p n ws e o m
  join (Some b) p n ws e o m = counted n (λ j. AtExpr (WantOperand p j (linked b ws e) o))

  have : (p : ℕ) (e : P.Expression) (o : Outside) (t : Token) → Within (have_step limit p e o t) (have_step wider p e o t)
  have p e (Linked n ws u o) (Sign m) = join (infix_of m) p n ws (signed u e) o m
  have p e (Linked n ws u o) t = same _

  prim : (p : ℕ) (n : Count) (ws : List Left) (u : Option UnOp) (o : Nest) (t : Token) → Within (prim_step limit p n ws u o t) (prim_step wider p n ws u o t)
  prim p n ws u o (Sign Open) = room p _
  prim p n ws u o (Sign OpenBrace) = room p _
  prim p n ws u o (Sign m) = same _
  prim p n ws u o t = same _

  marked : (v : Option UnOp) (p : ℕ) (n : Count) (ws : List Left) (o : Nest) (m : Mark) → Within (sign_step limit v p n ws o m) (sign_step wider v p n ws o m)
  marked None p n ws o m = prim p n ws None o (Sign m)
  marked (Some u) p n ws o m = counted n (λ j. AtExpr (WantPrim p j ws (Some u) o))

  operand : (p : ℕ) (n : Count) (ws : List Left) (o : Nest) (t : Token) → Within (operand_step limit p n ws o t) (operand_step wider p n ws o t)
  operand p n ws o (Sign m) = marked (unary_of m) p n ws o m
  operand p n ws o t = prim p n ws None o t

  named : (p : ℕ) (n : List ℕ) (o : Outside) (t : Token) → Within (step_expr limit (Named p n o) t) (step_expr wider (Named p n o) t)
  named p n o (Sign OpenBracket) = same _
  named p n o (Sign m) = have p (P.Net n) o (Sign m)
  named p n o t = have p (P.Net n) o t

  expression : (p : ExprPlace) (t : Token) → Within (step_expr limit p t) (step_expr wider p t)
  expression (Named p n o) t = named p n o t
  expression (Have p e o) t = have p e o t
  expression (WantOperand p n ws o) t = operand p n ws o t
  expression (WantPrim p n ws u o) t = prim p n ws u o t
  expression p t = same _

  word : (q : ℕ) (a : Around) (w : List ℕ) → Within (word_step limit q a w) (word_step wider q a w)
  word q a w = choose (bytes_eq w (codes "begin")) _ _ _ _ (room q _) (choose (bytes_eq w (codes "if")) _ _ _ _ (room q _) (choose (bytes_eq w (codes "case")) _ _ _ _ (room q _) (same _)))

  statement : (q : ℕ) (a : Around) (t : Token) → Within (want_stmt_step limit q a t) (want_stmt_step wider q a t)
  statement q a (Identifier w) = word q a w
  statement q a t = same _

  block : (p r : ℕ) (old : P.Statements) (a : Around) (t : Token) → Within (block_step limit p r old a t) (block_step wider p r old a t)
  block p r old a t = choose (is_word (codes "end") t) _ _ _ _ (same _) (statement p (InBlock r old a) t)

  behind : (a : Around) (q : ℕ) (s : P.Statements) (t : Token) → Within (have_stmt_step limit a q s t) (have_stmt_step wider a q s t)
  behind (InBlock r old a) q s t = block q r (then_all old s) a t
  behind (InThen r c a) q s t = choose (is_word (codes "else") t) _ _ _ _ (same _) (behind a r (alone (P.IfElse c s P.Done)) t)
  behind (InElse r c s' a) q s t = behind a r (alone (P.IfElse c s' s)) t
  behind a q s t = same _

  if_read : (r q : ℕ) (a : Around) (t : Token) → Within (step_stmt limit (IfRead r q a) t) (step_stmt wider (IfRead r q a) t)
  if_read r q a (Sign Open) = room q _
  if_read r q a (Sign m) = same _
  if_read r q a t = same _

  case_read : (r q : ℕ) (a : Around) (t : Token) → Within (step_stmt limit (CaseRead r q a) t) (step_stmt wider (CaseRead r q a) t)
  case_read r q a (Sign Open) = room q _
  case_read r q a (Sign m) = same _
  case_read r q a t = same _

  default_read : (r q : ℕ) (x : P.Expression) (as' : P.Arms) (a : Around) (t : Token) → Within (step_stmt limit (DefaultRead r q x as' a) t) (step_stmt wider (DefaultRead r q x as' a) t)
  default_read r q x as' a (Sign Colon) = same _
  default_read r q x as' a (Sign m) = same _
  default_read r q x as' a t = statement q (InDefault r x as' a) t

  in_stmt : (p : StmtPlace) (t : Token) → Within (step_stmt limit p t) (step_stmt wider p t)
  in_stmt (WantStmt q a) t = statement q a t
  in_stmt (IfRead r q a) t = if_read r q a t
  in_stmt (CaseRead r q a) t = case_read r q a t
  in_stmt (DefaultRead r q x as' a) t = default_read r q x as' a t
  in_stmt (Block p r old a) t = block p r old a t
  in_stmt (HaveStmt q s a) t = behind a q s t
  in_stmt p t = same _

  opening : (d : ℕ) (s : State) (t : Token) → Within (opens limit d s t) (opens wider d s t)
  opening d s (Sign Open) = room d _
  opening d s (Sign m) = same _
  opening d s t = same _

  item : (p : ItemPlace) (t : Token) → Within (step_item limit p t) (step_item wider p t)
  item (HeadOpen y n) t = opening 0 _ t
  item (AtRead h) t = opening 0 _ t
  item p t = same _

  -- a step within a limit is one within a wider one
  pub wider_step : (s : State) (t : Token) → Within (step limit s t) (step wider s t)
  wider_step (AtExpr p) t = expression p t
  wider_step (AtStmt p) t = in_stmt p t
  wider_step (AtItem p) t = item p t

pub no_limit : (limit : Limit) (d e : ℕ) → deeper limit d ≡ Some e → deeper unlimited d ≡ Some e
no_limit limit d e = go limit.openings
  where
    test : (t : Bool) → (if t then Some (d + 1) else None) ≡ Some e → Some (d + 1) ≡ Some e
    test true h = h
    test false h = cc

    go : (o : Option ℕ) → deeper_in o d ≡ Some e → Some (d + 1) ≡ Some e
    go None h = h
    go (Some most) h = test (nat_lt d most) h

-- a step within a limit is one without
pub without_limit : (limit : Limit) (s : State) (t : Token) (q : State) → step limit s t ≡ Some q → step unlimited s t ≡ Some q
without_limit limit s t q h = wider_step limit unlimited (no_limit limit) (λ n k. refl) s t q h

-- what may follow begins with a token that is taken
pub first_taken : (limit : Limit) (s : State) (t : Token) (ts : List Token) (v : P.ModuleTree) → rest limit s (t ∷ ts) v → taken s t ≡ true
first_taken limit s t ts v h = go (step limit s t) refl ((parse_goes limit s t ts v).0 h)
  where
    go : (o : Option State) → step limit s t ≡ o → Holds o (λ z. rest limit z ts v) → taken s t ≡ true
    go None e k = absurd k
    go (Some q) e k = ap is_step (without_limit limit s t q e)
