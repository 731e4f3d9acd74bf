-- What may follow in an expression, however its operators are counted, by the next token.
use Rattle.std.proofs.Common.{◌≡◌, ℕ, Bool, true, false, List, [], ◌∷◌, Option, Some, None, refl, ◌↔◌, subst, sym, ◌∙◌, if◌then◌else◌}
use Rattle.bist_bits.specs.Vector.{Vector}
use Rattle.bist_text.proofs.Pieces.{also, same, never, holds_never}
use Rattle.bist_text.specs.Grammar.{when}
use Rattle.bist_text.specs.Machine.{Holds}
use Rattle.bist_text.specs.ReservedWords.{is_among, reserved_words}
use Rattle.verilog_tree.specs.Plain as P
use Rattle.verilog_tree.specs.Tokens.{Token, Identifier, Number, Based, Unused, Sign}
use Rattle.verilog_tree.specs.declared.tokens.Mark.TheVariants.{Open, Close, OpenBrace, CloseBrace, Comma, Semicolon, Colon, Question}
use Rattle.verilog_tree.specs.declared.tokens.Mark.{Mark}
use Rattle.verilog_tree.specs.declared.tree.BinOp.{BinOp}
use Rattle.verilog_tree.specs.declared.tree.UnOp.TheVariants as U
use Rattle.verilog_tree.specs.declared.tree.UnOp.{UnOp}
use Rattle.verilog_tree.specs.Grammar.{Limit, deeper, is_sign, sign, unary_mark, binary_mark, stmt, stmt_tree, ends_in_if, alone}
use Rattle.verilog_tree.specs.Free.{signed}
use Rattle.verilog_text.specs.Flat as F
use Rattle.verilog_text.specs.Flat.{Left, Count, one_more, in_parens, in_braces, behind, settle_all, linked}
use Rattle.verilog_text.specs.inner.Following.{AfterAlone, after_alone, AfterNest, after_nest, after_items, after_stmt, after_subject, wanted_operand, place, rest_expr, rest}
use Rattle.verilog_text.specs.Places.{with_item, style_of, Alone, AsDriver, AsCondition, AsSubject, AsValue, Nest, Only, InRound, InList, IfTrue, IfFalse, Linked, more_parts, InThen, WantItem, WantStmt, FirstLabel, HaveStmt, Have, Named, WantOperand, WantPrim, AtExpr, AtStmt, AtItem, State}
use Rattle.verilog_text.specs.inner.Places.{Place, Whole, One, Two}
use Rattle.verilog_text.specs.Steps.{to_expr, in_room, infix_of, unary_of, alone_step, parts_step, close_step, ask_step, link_step, sign_step}
use Rattle.verilog_text.proofs.Marks.{infix_goes, unary_goes, unary_from}
use Rattle.verilog_text.proofs.MarkLaws.{Law, expects_goes, parts_on}

-- the marks behind a whole expression
abbrev pub shuts : Mark → Bool
shuts Close = true
shuts Semicolon = true
shuts Colon = true
shuts Comma = true
shuts CloseBrace = true
shuts _ = false

infix_open : (m : Mark) (b : BinOp) → infix_of m ≡ Some b → shuts m ≡ false
infix_open Close b e = cc
infix_open Semicolon b e = cc
infix_open Colon b e = cc
infix_open Comma b e = cc
infix_open CloseBrace b e = cc
infix_open m b e = refl

no_question : (m : Mark) (b : BinOp) → infix_of m ≡ Some b → is_sign Question m ≡ false
no_question Question b e = cc
no_question m b e = refl

-- what a test that fails guards
refused : (b : Bool) (P : Type 0) → b ≡ false → when b P → ⊥
refused true P e h = cc
refused false P e h = h

abbrev Shuts : Mark → Type 0
Shuts m = (is_sign Close m ≡ false) × (is_sign Semicolon m ≡ false) × (is_sign Colon m ≡ false)

open_marks : (m : Mark) → shuts m ≡ false → Shuts m
open_marks Close e = cc
open_marks Semicolon e = cc
open_marks Colon e = cc
open_marks m e = (refl, refl, refl)

no_part : (p : ℕ) (m : Count) (r : ℕ) (old : P.Expressions) (e : P.Expression) (n : Count) (ws : List Left) (u : Option UnOp) (o : Nest) (x : Mark) → shuts x ≡ false → parts_step p m r old e n ws u o x ≡ None
no_part p m r old e n ws u o Comma h = cc
no_part p m r old e n ws u o CloseBrace h = cc
no_part p m r old e n ws u o x h = refl

-- of a value that is there
holds_map : {A : Type 0} (w : Option A) (P Q : A → Type 0) → ((x : A) → P x → Q x) → Holds w P → Holds w Q
holds_map None P Q f h = h
holds_map (Some x) P Q f h = f x h

holds_pull : {A X : Type 0} (w : Option A) (P : X → A → Type 0) → Holds w (λ a. (x : X) × P x a) → (x : X) × Holds w (P x)
holds_pull None P h = absurd h
holds_pull (Some a) P h = h

module _ (limit : Limit) where
  -- where there is room for it
  room_goes : {A : Type 0} (w : Option A) (F : A → Type 0) (f : A → State) (ts : List Token) (v : P.ModuleTree) → ((x : A) → F x ↔ rest limit (f x) ts v) → Holds w F ↔ Holds (in_room w f) (λ z. rest limit z ts v)
  room_goes None F f ts v g = same
  room_goes (Some x) F f ts v g = g x

  pub alone_goes : (p : ℕ) (e : P.Expression) (b : Alone) (t : Token) (ts : List Token) (v : P.ModuleTree) → ((k : AfterAlone b) × after_alone limit b k p e v (t ∷ ts)) ↔ Holds (alone_step p e b t) (λ z. rest limit z ts v)
  alone_goes p e (AsDriver h n) t ts v = expects_goes limit Semicolon (AtItem (WantItem (with_item h (P.AssignItem n e)))) (λ x. after_items limit (with_item h (P.AssignItem n e)) x v) t ts v same
  alone_goes p e (AsCondition r q a) t ts v = expects_goes limit Close (AtStmt (WantStmt q (InThen r e a))) (λ (x : AfterAlone (AsCondition r q a)). stmt (style_of a) limit q x.0 (after_stmt limit (InThen r e a) (x.1, x.2) q (stmt_tree x.0) (ends_in_if x.0) v)) t ts v (λ h. (h.0.0, (h.0.1, h.0.2), h.1), λ h. ((h.0, h.1.0, h.1.1), h.2))
  alone_goes p e (AsSubject r q a) t ts v = expects_goes limit Close (AtStmt (FirstLabel r q e P.NoArm a)) (λ (x : AfterAlone (AsSubject r q a)). after_subject limit a x.0 x.1 x.2 x.3 r q e v) t ts v (λ h. (h.0.0, h.0.1, h.0.2, h.0.3, h.1), λ h. ((h.0, h.1, h.2, h.3), h.4))
  alone_goes p e (AsValue n a) t ts v = expects_goes limit Semicolon (AtStmt (HaveStmt p (alone (P.SetTo n e)) a)) (λ x. after_stmt limit a x p (alone (P.SetTo n e)) false v) t ts v same

  -- a flat form, and the place where it begins
  flat_wanted : (o : Nest) (p : ℕ) (n : Count) (v : P.ModuleTree) (ts : List Token) → ((x : F.Flat × AfterNest o) × F.flat limit p x.0 n (λ m. after_nest limit o x.1 p m (F.flat_tree x.0) v) ts) ↔ wanted_operand limit p n [] o v ts
  flat_wanted o p n v ts = (λ h. to h.0.0 h.0.1 h.1, λ h. ((F.FlatOf h.0 h.1, h.2), h.3))
    where
      to : (x : F.Flat) (k : AfterNest o) → F.flat limit p x n (λ m. after_nest limit o k p m (F.flat_tree x) v) ts → wanted_operand limit p n [] o v ts
      to (F.FlatOf y t) k h = (y, t, k, h)

  abbrev Closes : ℕ → Count → P.Expression → Nest → Token → List Token → P.ModuleTree → Type 0
  Closes p n e o t ts v = ((k : AfterNest o) × after_nest limit o k p n e v (t ∷ ts)) ↔ Holds (close_step p n e o t) (λ z. rest limit z ts v)

  -- what the braces stand in, with this in them
  abbrev braced : ℕ → Count → List Left → Option UnOp → (o : Nest) → F.Tail → AfterNest o → P.ModuleTree → P.Expressions → Count → List Token → Type 0
  braced r n ws u o t k v w m = sign CloseBrace (F.tail limit r t (behind n m) (λ j. after_nest limit o k r j (F.tail_tree ws (signed u (P.Concatenation w)) t) v))

  -- behind a whole expression in braces
  parts_goes : (p : ℕ) (m : Count) (r : ℕ) (old : P.Expressions) (e : P.Expression) (n : Count) (ws : List Left) (u : Option UnOp) (o : Nest) (t : Token) (ts : List Token) (v : P.ModuleTree) → Closes p m e (InList r old n ws u o) t ts v
  parts_goes p m r old e n ws u o (Sign Comma) ts v = (λ h. to h.0.0 h.0.1 h.0.2 h.1, λ h. from ((flat_wanted (InList r more n ws u o) p m v ts).1 h))
    where
      more : P.Expressions
      more = more_parts old (P.Followed e P.NoMore)

      to : (xs : F.Flats) (t : F.Tail) (k : AfterNest o) → after_nest limit (InList r old n ws u o) (xs, t, k) p m e v (Sign Comma ∷ ts) → wanted_operand limit p m [] (InList r more n ws u o) v ts
      to F.NoFlat t k h = absurd h
      to (F.AndFlat x xs) t k h = (flat_wanted (InList r more n ws u o) p m v ts).0 ((x, (xs, t, k)), subst (λ w. F.flat limit p x m (λ i. F.flats limit p xs i (braced r n ws u o t k v w)) ts) (sym (parts_on old e (P.Followed (F.flat_tree x) (F.flats_tree xs)))) h)

      from : ((x : F.Flat × AfterNest (InList r more n ws u o)) × F.flat limit p x.0 m (λ i. after_nest limit (InList r more n ws u o) x.1 p i (F.flat_tree x.0) v) ts) → (k : AfterNest (InList r old n ws u o)) × after_nest limit (InList r old n ws u o) k p m e v (Sign Comma ∷ ts)
      from h = ((F.AndFlat h.0.0 h.0.1.0, h.0.1.1, h.0.1.2), subst (λ w. F.flat limit p h.0.0 m (λ i. F.flats limit p h.0.1.0 i (braced r n ws u o h.0.1.1 h.0.1.2 v w)) ts) (parts_on old e (P.Followed (F.flat_tree h.0.0) (F.flats_tree h.0.1.0))) h.1)
  parts_goes p m r old e n ws u o (Sign CloseBrace) ts v = (λ h. to h.0.0 h.0.1 h.0.2 h.1, λ h. ((F.NoFlat, h.0.0, h.0.1), h.1))
    where
      to : (xs : F.Flats) (t : F.Tail) (k : AfterNest o) → after_nest limit (InList r old n ws u o) (xs, t, k) p m e v (Sign CloseBrace ∷ ts) → rest_expr limit (Have r (P.Concatenation (more_parts old (P.Followed e P.NoMore))) (Linked (behind n m) ws u o)) ts v
      to F.NoFlat t k h = ((t, k), h)
      to (F.AndFlat x xs) t k h = absurd h
  parts_goes p m r old e n ws u o (Sign x) ts v = never (λ h. no h.0.0 h.0.1 h.0.2 h.1) (λ z. z)
    where
      no : (xs : F.Flats) (t : F.Tail) (k : AfterNest o) → after_nest limit (InList r old n ws u o) (xs, t, k) p m e v (Sign x ∷ ts) → ⊥
      no F.NoFlat t k h = h
      no (F.AndFlat x xs) t k h = h
  parts_goes p m r old e n ws u o y ts v = never (λ h. no h.0.0 h.0.1 h.0.2 h.1) (λ z. z)
    where
      no : (xs : F.Flats) (t : F.Tail) (k : AfterNest o) → after_nest limit (InList r old n ws u o) (xs, t, k) p m e v (y ∷ ts) → ⊥
      no F.NoFlat t k h = h
      no (F.AndFlat x xs) t k h = h

  pub close_goes : (p : ℕ) (m : Count) (e : P.Expression) (o : Nest) (t : Token) (ts : List Token) (v : P.ModuleTree) → Closes p m e o t ts v
  close_goes p m e (Only b) t ts v = alone_goes p e b t ts v
  close_goes p m e (InRound r n ws u o) t ts v = expects_goes limit Close (AtExpr (Have r e (Linked (behind n m) ws u o))) (λ (x : F.Tail × AfterNest o). F.tail limit r x.0 (behind n m) (λ i. after_nest limit o x.1 r i (F.tail_tree ws (signed u e) x.0) v)) t ts v same
  close_goes p m e (InList r old n ws u o) t ts v = parts_goes p m r old e n ws u o t ts v
  close_goes p m e (IfTrue c o) t ts v = expects_goes limit Colon (AtExpr (WantOperand p m [] (IfFalse c e o))) (λ (x : F.Flat × AfterNest o). F.flat limit p x.0 m (λ i. after_nest limit o x.1 p i (P.Conditional c e (F.flat_tree x.0)) v)) t ts v (flat_wanted (IfFalse c e o) p m v ts)
  close_goes p m e (IfFalse c x o) t ts v = close_goes p m (P.Conditional c x e) o t ts v

  -- no other mark is behind a whole expression
  pub no_close : (p : ℕ) (n : Count) (e : P.Expression) (o : Nest) (m : Mark) (ts : List Token) (v : P.ModuleTree) → shuts m ≡ false → Holds (close_step p n e o (Sign m)) (λ z. rest limit z ts v) → ⊥
  no_close p n e (Only (AsDriver g w)) m ts v f h = let k = (open_marks m f).1 in rw k at h
  no_close p n e (Only (AsCondition r q a)) m ts v f h = let k = (open_marks m f).0 in rw k at h
  no_close p n e (Only (AsSubject r q a)) m ts v f h = let k = (open_marks m f).0 in rw k at h
  no_close p n e (Only (AsValue w a)) m ts v f h = let k = (open_marks m f).1 in rw k at h
  no_close p n e (InRound r c ws u o) m ts v f h = let k = (open_marks m f).0 in rw k at h
  no_close p n e (InList r old c ws u o) m ts v f h = subst (λ (s : Option State). Holds s (λ z. rest limit z ts v)) (no_part p n r old e c ws u o m f) h
  no_close p n e (IfTrue c o) m ts v f h = let k = (open_marks m f).2 in rw k at h
  no_close p n e (IfFalse c x o) m ts v f h = no_close p n (P.Conditional c x e) o m ts v f h

  -- what is behind an operand, all operators that wait before it
  abbrev Behind : ℕ → Count → List Left → P.Expression → Nest → Token → List Token → P.ModuleTree → Type 0
  Behind p n ws e o t ts v = (k : F.Tail × AfterNest o) × F.tail limit p k.0 n (λ m. after_nest limit o k.1 p m (F.tail_tree ws e k.0) v) (t ∷ ts)

  -- what is still to be derived behind an operator
  abbrev Further : Nest → Type 0
  Further o = F.Operand × F.Tail × AfterNest o

  abbrev further : ℕ → Count → List Left → P.Expression → (o : Nest) → P.ModuleTree → BinOp → Further o → List Token → Type 0
  further p n ws e o v b x us = F.operand limit p x.0 n (λ m. F.tail limit p x.1 m (λ j. after_nest limit o x.2 p j (F.tail_tree (linked b ws e) (F.operand_tree x.0) x.1) v)) us

  -- an operator and what is behind it, by its mark
  linking : (p : ℕ) (ws : List Left) (e : P.Expression) (o : Nest) (m : Mark) (w : Option BinOp) → infix_of m ≡ w → (ts : List Token) (v : P.ModuleTree) (n : Count) → ((b : BinOp) × (x : Further o) × sign (binary_mark b) (further p n ws e o v b x) (Sign m ∷ ts)) ↔ Holds w (λ d. (x : Further o) × further p n ws e o v d x ts)
  linking p ws e o m w q ts v n = subst (λ (w : Option BinOp). ((b : BinOp) × (x : Further o) × sign (binary_mark b) (further p n ws e o v b x) (Sign m ∷ ts)) ↔ Holds w (λ d. (x : Further o) × further p n ws e o v d x ts)) q (infix_goes (further p n ws e o v) m ts)

  -- behind an operator
  operator_goes : (p : ℕ) (n : Count) (ws : List Left) (e : P.Expression) (o : Nest) (m : Mark) (b : BinOp) → infix_of m ≡ Some b → (ts : List Token) (v : P.ModuleTree) → Behind p n ws e o (Sign m) ts v ↔ Holds (in_room (one_more limit n) (λ j. AtExpr (WantOperand p j (linked b ws e) o))) (λ z. rest limit z ts v)
  operator_goes p n ws e o m b q ts v = also (λ h. to h.0.0 h.0.1 h.1, from) (room_goes (one_more limit n) (λ j. wanted_operand limit p j (linked b ws e) o v ts) (λ j. AtExpr (WantOperand p j (linked b ws e) o)) ts v (λ j. same))
    where
      to : (t : F.Tail) (k : AfterNest o) → F.tail limit p t n (λ j. after_nest limit o k p j (F.tail_tree ws e t) v) (Sign m ∷ ts) → Holds (one_more limit n) (λ j. wanted_operand limit p j (linked b ws e) o v ts)
      to F.End k h = absurd (no_close p n (settle_all ws e) o m ts v (infix_open m b q) ((close_goes p n (settle_all ws e) o (Sign m) ts v).0 (k, h)))
      to (F.Link c y t) k h = holds_map (one_more limit n) (λ j. sign (binary_mark c) (further p j ws e o v c (y, t, k)) (Sign m ∷ ts)) (λ j. wanted_operand limit p j (linked b ws e) o v ts) (λ j k'. let g = (linking p ws e o m (Some b) q ts v j).0 (c, (y, t, k), k') in (g.0.0, g.0.1, g.0.2, g.1)) h
      to (F.Ask x y) k h = absurd (holds_never (one_more limit n) (λ j. sign Question (F.flat limit p x j (λ i. sign Colon (F.flat limit p y i (λ z. after_nest limit o k p z (F.tail_tree ws e (F.Ask x y)) v)))) (Sign m ∷ ts)) (λ j. refused (is_sign Question m) _ (no_question m b q)) h)

      from : Holds (one_more limit n) (λ j. wanted_operand limit p j (linked b ws e) o v ts) → Behind p n ws e o (Sign m) ts v
      from h =
          let g = holds_pull (one_more limit n) (λ (x : BinOp × Further o) (j : Count). sign (binary_mark x.0) (further p j ws e o v x.0 x.1) (Sign m ∷ ts)) (holds_map (one_more limit n) (λ j. wanted_operand limit p j (linked b ws e) o v ts) (λ j. (x : BinOp × Further o) × sign (binary_mark x.0) (further p j ws e o v x.0 x.1) (Sign m ∷ ts)) (λ j k. let g = (linking p ws e o m (Some b) q ts v j).1 ((k.0, k.1, k.2), k.3) in ((g.0, g.1), g.2)) h) in
          ((F.Link g.0.0 g.0.1.0 g.0.1.1, g.0.1.2), g.1)

  -- behind no operator: a choice, or the end
  ask_goes : (p : ℕ) (n : Count) (ws : List Left) (e : P.Expression) (o : Nest) (m : Mark) → infix_of m ≡ None → (ts : List Token) (v : P.ModuleTree) → Behind p n ws e o (Sign m) ts v ↔ Holds (ask_step limit p n ws e o m) (λ z. rest limit z ts v)
  ask_goes p n ws e o Question q ts v = also (λ h. to h.0.0 h.0.1 h.1, from) (room_goes (one_more limit n) Asked (λ j. AtExpr (WantOperand p j [] (IfTrue (settle_all ws e) o))) ts v (λ j. flat_wanted (IfTrue (settle_all ws e) o) p j v ts))
    where
      Asked : Count → Type 0
      Asked j = (x : F.Flat × AfterNest (IfTrue (settle_all ws e) o)) × F.flat limit p x.0 j (λ m. after_nest limit (IfTrue (settle_all ws e) o) x.1 p m (F.flat_tree x.0) v) ts

      to : (t : F.Tail) (k : AfterNest o) → F.tail limit p t n (λ j. after_nest limit o k p j (F.tail_tree ws e t) v) (Sign Question ∷ ts) → Holds (one_more limit n) Asked
      to F.End k h = absurd (no_close p n (settle_all ws e) o Question ts v refl ((close_goes p n (settle_all ws e) o (Sign Question) ts v).0 (k, h)))
      to (F.Link c y t) k h = absurd (holds_never (one_more limit n) (λ j. sign (binary_mark c) (further p j ws e o v c (y, t, k)) (Sign Question ∷ ts)) (λ j g. (infix_goes (further p j ws e o v) Question ts).0 (c, (y, t, k), g)) h)
      to (F.Ask x y) k h = holds_map (one_more limit n) (λ j. F.flat limit p x j (λ m. after_nest limit (IfTrue (settle_all ws e) o) (y, k) p m (F.flat_tree x) v) ts) Asked (λ j g. ((x, (y, k)), g)) h

      from : Holds (one_more limit n) Asked → Behind p n ws e o (Sign Question) ts v
      from h = let g = holds_pull (one_more limit n) (λ (x : F.Flat × AfterNest (IfTrue (settle_all ws e) o)) (j : Count). F.flat limit p x.0 j (λ m. after_nest limit (IfTrue (settle_all ws e) o) x.1 p m (F.flat_tree x.0) v) ts) h in ((F.Ask g.0.0 g.0.1.0, g.0.1.1), g.1)
  ask_goes p n ws e o m q ts v = also (λ h. to h.0.0 h.0.1 h.1, λ h. ((F.End, h.0), h.1)) (close_goes p n (settle_all ws e) o (Sign m) ts v)
    where
      to : (t : F.Tail) (k : AfterNest o) → F.tail limit p t n (λ j. after_nest limit o k p j (F.tail_tree ws e t) v) (Sign m ∷ ts) → (j : AfterNest o) × after_nest limit o j p n (settle_all ws e) v (Sign m ∷ ts)
      to F.End k h = (k, h)
      to (F.Link c y t) k h = absurd (holds_never (one_more limit n) (λ j. sign (binary_mark c) (further p j ws e o v c (y, t, k)) (Sign m ∷ ts)) (λ j g. (linking p ws e o m None q ts v j).0 (c, (y, t, k), g)) h)
      to (F.Ask x y) k h = absurd (holds_never (one_more limit n) _ (λ j g. g) h)

  link_goes : (p : ℕ) (n : Count) (ws : List Left) (e : P.Expression) (o : Nest) (m : Mark) (ts : List Token) (v : P.ModuleTree) → Behind p n ws e o (Sign m) ts v ↔ Holds (link_step limit (infix_of m) p n ws e o m) (λ z. rest limit z ts v)
  link_goes p n ws e o m ts v = go (infix_of m) refl
    where
      go : (w : Option BinOp) → infix_of m ≡ w → Behind p n ws e o (Sign m) ts v ↔ Holds (link_step limit w p n ws e o m) (λ z. rest limit z ts v)
      go None q = ask_goes p n ws e o m q ts v
      go (Some b) q = operator_goes p n ws e o m b q ts v

  pub linked_goes : (p : ℕ) (n : Count) (e : P.Expression) (ws : List Left) (u : Option UnOp) (o : Nest) (t : Token) (ts : List Token) (v : P.ModuleTree) → Law limit (Have p e (Linked n ws u o)) t ts v
  linked_goes p n e ws u o (Sign m) ts v = link_goes p n ws (signed u e) o m ts v
  linked_goes p n e ws u o t ts v = also (λ h. to h.0.0 h.0.1 h.1, λ h. ((F.End, h.0), h.1)) (close_goes p n (settle_all ws (signed u e)) o t ts v)
    where
      to : (x : F.Tail) (k : AfterNest o) → F.tail limit p x n (λ j. after_nest limit o k p j (F.tail_tree ws (signed u e) x) v) (t ∷ ts) → (j : AfterNest o) × after_nest limit o j p n (settle_all ws (signed u e)) v (t ∷ ts)
      to F.End k h = (k, h)
      to (F.Link c y x) k h = absurd (holds_never (one_more limit n) _ (λ j g. g) h)
      to (F.Ask x y) k h = absurd (holds_never (one_more limit n) _ (λ j g. g) h)

  -- no prim begins with a mark but ( and {
  no_prim : (p : ℕ) (x : F.Prim) (c : Count) (K : Count → List Token → Type 0) (m : Mark) (ts : List Token) → is_sign Open m ≡ false → is_sign OpenBrace m ≡ false → F.prim limit p x c K (Sign m ∷ ts) → ⊥
  no_prim p (F.Name n) c K m ts e f h = h
  no_prim p (F.Select n i) c K m ts e f h = h
  no_prim p (F.Range n i j) c K m ts e f h = h
  no_prim p (F.Constant y) c K m ts e f h = h
  no_prim p (F.Braces y ys) c K m ts e f h = rw f at h
  no_prim p (F.Parens y) c K m ts e f h = rw e at h

  -- what follows a prim
  abbrev on : ℕ → List Left → Option UnOp → (o : Nest) → P.ModuleTree → F.Prim → F.Tail → AfterNest o → Count → List Token → Type 0
  on p ws u o v x t k m = F.tail limit p t m (λ j. after_nest limit o k p j (F.tail_tree ws (signed u (F.prim_tree x)) t) v)

  round_goes : (p : ℕ) (n : Count) (ws : List Left) (u : Option UnOp) (o : Nest) (ts : List Token) (v : P.ModuleTree) → Law limit (WantPrim p n ws u o) (Sign Open) ts v
  round_goes p n ws u o ts v = go (deeper limit p) refl
    where
      go : (w : Option ℕ) → deeper limit p ≡ w → rest_expr limit (WantPrim p n ws u o) (Sign Open ∷ ts) v ↔ Holds (in_room w (λ q. AtExpr (WantOperand q (in_parens n) [] (InRound p n ws u o)))) (λ z. rest limit z ts v)
      go None e = never (λ h. no h.0 h.1 h.2 h.3) (λ z. z)
        where
          no : (x : F.Prim) (t : F.Tail) (k : AfterNest o) → F.prim limit p x n (on p ws u o v x t k) (Sign Open ∷ ts) → ⊥
          no (F.Parens y) t k h = rw e at h
          no x t k h = h
      go (Some q) e = also (λ h. to h.0 h.1 h.2 h.3, λ h. (F.Parens h.0.0, h.0.1.0, h.0.1.1, rw e h.1)) (flat_wanted (InRound p n ws u o) q (in_parens n) v ts)
        where
          to : (x : F.Prim) (t : F.Tail) (k : AfterNest o) → F.prim limit p x n (on p ws u o v x t k) (Sign Open ∷ ts) → (y : F.Flat × AfterNest (InRound p n ws u o)) × F.flat limit q y.0 (in_parens n) (λ m. after_nest limit (InRound p n ws u o) y.1 q m (F.flat_tree y.0) v) ts
          to (F.Parens y) t k h = ((y, (t, k)), rw e at h)
          to x t k h = absurd h

  list_goes : (p : ℕ) (n : Count) (ws : List Left) (u : Option UnOp) (o : Nest) (ts : List Token) (v : P.ModuleTree) → Law limit (WantPrim p n ws u o) (Sign OpenBrace) ts v
  list_goes p n ws u o ts v = go (deeper limit p) refl
    where
      go : (w : Option ℕ) → deeper limit p ≡ w → rest_expr limit (WantPrim p n ws u o) (Sign OpenBrace ∷ ts) v ↔ Holds (in_room w (λ q. AtExpr (WantOperand q (in_braces n) [] (InList p P.NoMore n ws u o)))) (λ z. rest limit z ts v)
      go None e = never (λ h. no h.0 h.1 h.2 h.3) (λ z. z)
        where
          no : (x : F.Prim) (t : F.Tail) (k : AfterNest o) → F.prim limit p x n (on p ws u o v x t k) (Sign OpenBrace ∷ ts) → ⊥
          no (F.Braces y ys) t k h = rw e at h
          no x t k h = h
      go (Some q) e = also (λ h. to h.0 h.1 h.2 h.3, λ h. (F.Braces h.0.0 h.0.1.0, h.0.1.1, h.0.1.2, rw e h.1)) (flat_wanted (InList p P.NoMore n ws u o) q (in_braces n) v ts)
        where
          to : (x : F.Prim) (t : F.Tail) (k : AfterNest o) → F.prim limit p x n (on p ws u o v x t k) (Sign OpenBrace ∷ ts) → (y : F.Flat × AfterNest (InList p P.NoMore n ws u o)) × F.flat limit q y.0 (in_braces n) (λ m. after_nest limit (InList p P.NoMore n ws u o) y.1 q m (F.flat_tree y.0) v) ts
          to (F.Braces y ys) t k h = ((y, (ys, t, k)), rw e at h)
          to x t k h = absurd h

  name_goes : (p : ℕ) (n : Count) (ws : List Left) (u : Option UnOp) (o : Nest) (w : List ℕ) (ts : List Token) (v : P.ModuleTree) → Law limit (WantPrim p n ws u o) (Identifier w) ts v
  name_goes p n ws u o w ts v = go (is_among w reserved_words) refl
    where
      go : (b : Bool) → is_among w reserved_words ≡ b → rest_expr limit (WantPrim p n ws u o) (Identifier w ∷ ts) v ↔ Holds (if b then None else to_expr (Named p w (Linked n ws u o))) (λ z. rest limit z ts v)
      go true e = never (λ h. no h.0 h.1 h.2 h.3) (λ z. z)
        where
          clash : is_among w reserved_words ≡ false → ⊥
          clash f = let z : true ≡ false = sym e ∙ f in cc

          no : (x : F.Prim) (t : F.Tail) (k : AfterNest o) → F.prim limit p x n (on p ws u o v x t k) (Identifier w ∷ ts) → ⊥
          no (F.Name w) t k h = clash h.1
          no (F.Select w i) t k h = clash h.1
          no (F.Range w i j) t k h = clash h.1
          no x t k h = h
      go false e = (λ h. to h.0 h.1 h.2 h.3, λ h. from h.0 h.1.0 h.1.1 h.2)
        where
          stands : P.Expression → F.Tail → AfterNest o → List Token → Type 0
          stands x t k us = F.tail limit p t n (λ j. after_nest limit o k p j (F.tail_tree ws (signed u x) t) v) us

          to : (x : F.Prim) (t : F.Tail) (k : AfterNest o) → F.prim limit p x n (on p ws u o v x t k) (Identifier w ∷ ts) → rest_expr limit (Named p w (Linked n ws u o)) ts v
          to (F.Name x) t k h = (Whole, (t, k), subst (λ (m : List ℕ). place m Whole (λ x us. stands x t k us) ts) (sym h.0) h.2)
          to (F.Select x i) t k h = (One i, (t, k), subst (λ (m : List ℕ). place m (One i) (λ x us. stands x t k us) ts) (sym h.0) h.2)
          to (F.Range x i j) t k h = (Two i j, (t, k), subst (λ (m : List ℕ). place m (Two i j) (λ x us. stands x t k us) ts) (sym h.0) h.2)
          to x t k h = absurd h

          from : (i : Place) (t : F.Tail) (k : AfterNest o) → place w i (λ x us. stands x t k us) ts → rest_expr limit (WantPrim p n ws u o) (Identifier w ∷ ts) v
          from Whole t k h = (F.Name w, t, k, (refl, e, h))
          from (One i) t k h = (F.Select w i, t, k, (refl, e, h))
          from (Two i j) t k h = (F.Range w i j, t, k, (refl, e, h))

  literal_goes : (p : ℕ) (n : Count) (ws : List Left) (u : Option UnOp) (o : Nest) (y : Vector) (ts : List Token) (v : P.ModuleTree) → Law limit (WantPrim p n ws u o) (Based y) ts v
  literal_goes p n ws u o y ts v = (λ h. to h.0 h.1 h.2 h.3, λ h. (F.Constant y, h.0.0, h.0.1, (refl, h.1)))
    where
      to : (x : F.Prim) (t : F.Tail) (k : AfterNest o) → F.prim limit p x n (on p ws u o v x t k) (Based y ∷ ts) → rest_expr limit (Have p (P.Literal y) (Linked n ws u o)) ts v
      to (F.Constant x) t k h = ((t, k), subst (λ (z : Vector). F.tail limit p t n (λ j. after_nest limit o k p j (F.tail_tree ws (signed u (P.Literal z)) t) v) ts) (sym h.0) h.1)
      to x t k h = absurd h

  pub prim_goes : (p : ℕ) (n : Count) (ws : List Left) (u : Option UnOp) (o : Nest) (t : Token) (ts : List Token) (v : P.ModuleTree) → Law limit (WantPrim p n ws u o) t ts v
  prim_goes p n ws u o (Identifier w) ts v = name_goes p n ws u o w ts v
  prim_goes p n ws u o (Based y) ts v = literal_goes p n ws u o y ts v
  prim_goes p n ws u o (Sign Open) ts v = round_goes p n ws u o ts v
  prim_goes p n ws u o (Sign OpenBrace) ts v = list_goes p n ws u o ts v
  prim_goes p n ws u o (Sign m) ts v = never (λ h. no_prim p h.0 n (on p ws u o v h.0 h.1 h.2) m ts refl refl h.3) (λ z. z)
  prim_goes p n ws u o (Number l i) ts v = never (λ h. no h.0 h.1 h.2 h.3) (λ z. z)
    where
      no : (x : F.Prim) (t : F.Tail) (k : AfterNest o) → F.prim limit p x n (on p ws u o v x t k) (Number l i ∷ ts) → ⊥
      no (F.Name w) t k h = h
      no x t k h = h
  prim_goes p n ws u o Unused ts v = never (λ h. no h.0 h.1 h.2 h.3) (λ z. z)
    where
      no : (x : F.Prim) (t : F.Tail) (k : AfterNest o) → F.prim limit p x n (on p ws u o v x t k) (Unused ∷ ts) → ⊥
      no (F.Name w) t k h = h
      no x t k h = h

  not_open : (u : UnOp) → is_sign Open (unary_mark u) ≡ false
  not_open U.Not = refl
  not_open u = refl

  not_brace : (u : UnOp) → is_sign OpenBrace (unary_mark u) ≡ false
  not_brace U.Not = refl
  not_brace u = refl

  -- what is still to be derived behind a mark
  abbrev Marked : Nest → Type 0
  Marked o = F.Prim × F.Tail × AfterNest o

  abbrev marked : ℕ → Count → List Left → (o : Nest) → P.ModuleTree → UnOp → Marked o → List Token → Type 0
  marked p n ws o v u x us = F.prim limit p x.0 n (on p ws (Some u) o v x.0 x.1 x.2) us

  sign_goes : (p : ℕ) (n : Count) (ws : List Left) (o : Nest) (m : Mark) (ts : List Token) (v : P.ModuleTree) → Law limit (WantOperand p n ws o) (Sign m) ts v
  sign_goes p n ws o m ts v = go (unary_of m) refl
    where
      unary : (w : Option UnOp) → unary_of m ≡ w → (j : Count) → ((u : UnOp) × (x : Marked o) × sign (unary_mark u) (marked p j ws o v u x) (Sign m ∷ ts)) ↔ Holds w (λ u. (x : Marked o) × marked p j ws o v u x ts)
      unary w e j = subst (λ (w : Option UnOp). ((u : UnOp) × (x : Marked o) × sign (unary_mark u) (marked p j ws o v u x) (Sign m ∷ ts)) ↔ Holds w (λ u. (x : Marked o) × marked p j ws o v u x ts)) e (unary_goes (marked p j ws o v) m ts)

      go : (w : Option UnOp) → unary_of m ≡ w → rest_expr limit (WantOperand p n ws o) (Sign m ∷ ts) v ↔ Holds (sign_step limit w p n ws o m) (λ z. rest limit z ts v)
      go None e = also (λ h. to h.0 h.1 h.2 h.3, λ h. (F.OperandOf None h.0, h.1, h.2, h.3)) (prim_goes p n ws None o (Sign m) ts v)
        where
          to : (x : F.Operand) (t : F.Tail) (k : AfterNest o) → F.operand limit p x n (λ c. F.tail limit p t c (λ j. after_nest limit o k p j (F.tail_tree ws (F.operand_tree x) t) v)) (Sign m ∷ ts) → rest_expr limit (WantPrim p n ws None o) (Sign m ∷ ts) v
          to (F.OperandOf None x) t k h = (x, t, k, h)
          to (F.OperandOf (Some u) x) t k h = absurd (holds_never (one_more limit n) (λ j. sign (unary_mark u) (marked p j ws o v u (x, t, k)) (Sign m ∷ ts)) (λ j g. (unary None e j).0 (u, (x, t, k), g)) h)
      go (Some u) e = also (λ h. to h.0 h.1 h.2 h.3, from) (room_goes (one_more limit n) (λ j. rest_expr limit (WantPrim p j ws (Some u) o) ts v) (λ j. AtExpr (WantPrim p j ws (Some u) o)) ts v (λ j. same))
        where
          to : (x : F.Operand) (t : F.Tail) (k : AfterNest o) → F.operand limit p x n (λ c. F.tail limit p t c (λ j. after_nest limit o k p j (F.tail_tree ws (F.operand_tree x) t) v)) (Sign m ∷ ts) → Holds (one_more limit n) (λ j. rest_expr limit (WantPrim p j ws (Some u) o) ts v)
          to (F.OperandOf None x) t k h = absurd (no_prim p x n (on p ws None o v x t k) m ts (subst (λ i. is_sign Open i ≡ false) (unary_from m u e) (not_open u)) (subst (λ i. is_sign OpenBrace i ≡ false) (unary_from m u e) (not_brace u)) h)
          to (F.OperandOf (Some c) x) t k h = holds_map (one_more limit n) (λ j. sign (unary_mark c) (marked p j ws o v c (x, t, k)) (Sign m ∷ ts)) (λ j. rest_expr limit (WantPrim p j ws (Some u) o) ts v) (λ j i. let g = (unary (Some u) e j).0 (c, (x, t, k), i) in (g.0.0, g.0.1, g.0.2, g.1)) h

          from : Holds (one_more limit n) (λ j. rest_expr limit (WantPrim p j ws (Some u) o) ts v) → rest_expr limit (WantOperand p n ws o) (Sign m ∷ ts) v
          from h =
              let g = holds_pull (one_more limit n) (λ (x : UnOp × Marked o) (j : Count). sign (unary_mark x.0) (marked p j ws o v x.0 x.1) (Sign m ∷ ts)) (holds_map (one_more limit n) (λ j. rest_expr limit (WantPrim p j ws (Some u) o) ts v) (λ j. (x : UnOp × Marked o) × sign (unary_mark x.0) (marked p j ws o v x.0 x.1) (Sign m ∷ ts)) (λ j k. let g = (unary (Some u) e j).1 ((k.0, k.1, k.2), k.3) in ((g.0, g.1), g.2)) h) in
              (F.OperandOf (Some g.0.0) g.0.1.0, g.0.1.1, g.0.1.2, g.1)

  pub operand_goes : (p : ℕ) (n : Count) (ws : List Left) (o : Nest) (t : Token) (ts : List Token) (v : P.ModuleTree) → Law limit (WantOperand p n ws o) t ts v
  operand_goes p n ws o (Sign m) ts v = sign_goes p n ws o m ts v
  operand_goes p n ws o t ts v = also (λ h. to h.0 h.1 h.2 h.3, λ h. (F.OperandOf None h.0, h.1, h.2, h.3)) (prim_goes p n ws None o t ts v)
    where
      to : (x : F.Operand) (y : F.Tail) (k : AfterNest o) → F.operand limit p x n (λ c. F.tail limit p y c (λ j. after_nest limit o k p j (F.tail_tree ws (F.operand_tree x) y) v)) (t ∷ ts) → rest_expr limit (WantPrim p n ws None o) (t ∷ ts) v
      to (F.OperandOf None x) y k h = (x, y, k, h)
      to (F.OperandOf (Some u) x) y k h = absurd (holds_never (one_more limit n) _ (λ j g. g) h)
