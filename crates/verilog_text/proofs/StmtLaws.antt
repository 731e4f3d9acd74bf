-- What may follow in a statement, by the next token.
use Rattle.std.proofs.Common.{◌≡◌, ℕ, Bool, true, false, List, [], ◌∷◌, ◌++◌, Option, Some, None, refl, ◌↔◌, subst, sym, ap, ◌∙◌, if◌then◌else◌, codes, append_assoc, append-nil}
use Rattle.std.proofs.lemmas.Slice.Eq.{bytes_eq-Decides}
use Rattle.std.specs.Str.{bytes_eq}
use Rattle.bist_bits.specs.Vector.{Vector}
use Rattle.bist_text.proofs.Pieces.{also, same, never}
use Rattle.bist_text.specs.Grammar.{when}
use Rattle.bist_text.specs.Machine.{Holds}
use Rattle.bist_text.specs.ReservedWords.{is_among, reserved_words}
use Rattle.verilog_tree.specs.Grammar.{Limit, Item, sign, keyword, name, literal, deeper, inside, literals, ends_in_if, colon_if, range, names, items, then_all, alone, range_width, items_tree, Expr, Stmt, Stmts, Arm, Arms, Default, expr, stmt, stmts, arm, arms, default, expr_tree, stmt_tree, stmts_tree, arm_tree, arms_tree, default_tree, BeginEnd, If, IfElse, Case, Assign, NoStmt, AndStmt, ArmOf, NoArm, AndArm, NoDefault, ItsDefault, Wires, Regs, Drives, Always}
use Rattle.verilog_tree.specs.Plain as P
use Rattle.verilog_tree.specs.Tokens.{Token, Identifier, Based, Sign}
use Rattle.verilog_tree.specs.declared.tokens.Mark.TheVariants.{Open, Close, Comma, Semicolon, Colon, LessEquals, Equals, At}
use Rattle.verilog_text.specs.inner.Following.{AfterStmt, finished, after_items, else_part, after_stmt, after_alone, case_ends, wanted_stmt, rest_stmt, wires, regs, rest_item, rest}
use Rattle.verilog_text.specs.Following.{case_of}
use Rattle.verilog_text.specs.Places.{Head, with_item, Around, more_arms, StmtPlace, ItemPlace, State, InAlways, InBlock, InThen, InElse, InArm, InDefault, WantStmt, Target, IfRead, CaseRead, FirstLabel, Labels, NextLabel, DefaultRead, Block, HaveStmt, AsWire, AsReg, WantRange, WantItem, AssignRead, AlwaysRead, Ended, AtExpr, AtStmt, style_of, AsCondition, AsSubject, AsValue, begin_expr}
use Rattle.verilog_text.specs.Steps.{in_room, only_where, expects_word, target_step, word_step, want_stmt_step, is_word, block_step, arm_step, item_word_step, want_item_step, have_stmt_step, labels_step, step_stmt}
use Rattle.verilog_text.proofs.MarkLaws.{expects_goes}
use Rattle.verilog_text.proofs.Beginnings.{begins}

module _ (limit : Limit) where
  -- a fact of every word, from that of d and that of the others
  pub at_word : (P : List ℕ → Type 0) (c d : List ℕ) → P d → (bytes_eq c d ≡ false → P c) → P c
  at_word P c d p q = go (bytes_eq c d) refl
    where
      go : (t : Bool) → bytes_eq c d ≡ t → P c
      go true e = subst P (sym ((bytes_eq-Decides c d).0 e)) p
      go false e = q e

  abbrev pub Item_law : ItemPlace → Option State → Token → List Token → P.ModuleTree → Type 0
  Item_law p o t ts v = rest_item limit p (t ∷ ts) v ↔ Holds o (λ z. rest limit z ts v)

  -- where an item is wanted, at a word
  item_word_goes : (h : Head) (w : List ℕ) (ts : List Token) (v : P.ModuleTree) → Item_law (WantItem h) (item_word_step h w) (Identifier w) ts v
  item_word_goes h w ts v = at_word Q w (codes "wire") wire (λ n1. at_word Q w (codes "reg") reg (λ n2. at_word Q w (codes "assign") assign (λ n3. at_word Q w (codes "always") always (λ n4. at_word Q w (codes "endmodule") the_end (λ n5. rw n1 (rw n2 (rw n3 (rw n4 (rw n5 (never (λ k. none n1 n2 n3 n4 n5 k.0 k.1) (λ z. z)))))))))))
    where
      Q : List ℕ → Type 0
      Q x = Item_law (WantItem h) (item_word_step h x) (Identifier x) ts v

      -- the items that a derivation gives, behind those of h
      joins : (l m : List P.ModuleItem) (F : List P.ModuleItem → Type 0) → F (h.items ++ (l ++ m)) ↔ F ((h.items ++ l) ++ m)
      joins l m F = (λ z. subst F (sym (append_assoc h.items l m)) z, λ z. subst F (append_assoc h.items l m) z)

      wire : Q (codes "wire")
      wire = (λ k. to k.0 k.1, λ k. (Wires k.0 k.1 k.2.0 ∷ k.2.1, (joins (wires (range_width k.0) (k.1 ∷ k.2.0)) (items_tree k.2.1) (λ l. range k.0 (name k.1 (names k.2.0 (sign Semicolon (items h.style limit k.2.1 (keyword (codes "endmodule") (finished h l v)))))) ts)).1 k.3))
        where
          to : (is : List Item) → after_items limit h is v (Identifier (codes "wire") ∷ ts) → rest_item limit (WantRange (AsWire h)) ts v
          to [] k = absurd k
          to (Wires r n ns ∷ is) k = (r, n, (ns, is), (joins (wires (range_width r) (n ∷ ns)) (items_tree is) (λ l. range r (name n (names ns (sign Semicolon (items h.style limit is (keyword (codes "endmodule") (finished h l v)))))) ts)).0 k)
          to (i ∷ is) k = absurd k

      reg : Q (codes "reg")
      reg = (λ k. to k.0 k.1, λ k. (Regs k.0 k.1 k.2.0 ∷ k.2.1, (joins (regs (range_width k.0) (k.1 ∷ k.2.0)) (items_tree k.2.1) (λ l. range k.0 (name k.1 (names k.2.0 (sign Semicolon (items h.style limit k.2.1 (keyword (codes "endmodule") (finished h l v)))))) ts)).1 k.3))
        where
          to : (is : List Item) → after_items limit h is v (Identifier (codes "reg") ∷ ts) → rest_item limit (WantRange (AsReg h)) ts v
          to [] k = absurd k
          to (Regs r n ns ∷ is) k = (r, n, (ns, is), (joins (regs (range_width r) (n ∷ ns)) (items_tree is) (λ l. range r (name n (names ns (sign Semicolon (items h.style limit is (keyword (codes "endmodule") (finished h l v)))))) ts)).0 k)
          to (i ∷ is) k = absurd k

      assign : Q (codes "assign")
      assign = (λ k. to k.0 k.1, λ k. (Drives k.0 k.1 ∷ k.2, (joins (P.AssignItem k.0 (expr_tree k.1) ∷ []) (items_tree k.2) (λ l. name k.0 (sign Equals (expr h.style limit 0 k.1 (sign Semicolon (items h.style limit k.2 (keyword (codes "endmodule") (finished h l v)))))) ts)).1 k.3))
        where
          to : (is : List Item) → after_items limit h is v (Identifier (codes "assign") ∷ ts) → rest_item limit (AssignRead h) ts v
          to [] k = absurd k
          to (Drives n x ∷ is) k = (n, x, is, (joins (P.AssignItem n (expr_tree x) ∷ []) (items_tree is) (λ l. name n (sign Equals (expr h.style limit 0 x (sign Semicolon (items h.style limit is (keyword (codes "endmodule") (finished h l v)))))) ts)).0 k)
          to (i ∷ is) k = absurd k

      always : Q (codes "always")
      always = (λ k. to k.0 k.1, λ k. (Always k.0 k.1 ∷ k.2, (joins (P.AlwaysItem k.0 (stmt_tree k.1) ∷ []) (items_tree k.2) (λ l. sign At (sign Open (inside limit 0 (λ q. keyword (codes "posedge") (name k.0 (sign Close (stmt h.style limit 0 k.1 (items h.style limit k.2 (keyword (codes "endmodule") (finished h l v))))))))) ts)).1 k.3))
        where
          to : (is : List Item) → after_items limit h is v (Identifier (codes "always") ∷ ts) → rest_item limit (AlwaysRead h) ts v
          to [] k = absurd k
          to (Always c s ∷ is) k = (c, s, is, (joins (P.AlwaysItem c (stmt_tree s) ∷ []) (items_tree is) (λ l. sign At (sign Open (inside limit 0 (λ q. keyword (codes "posedge") (name c (sign Close (stmt h.style limit 0 s (items h.style limit is (keyword (codes "endmodule") (finished h l v))))))))) ts)).0 k)
          to (i ∷ is) k = absurd k

      the_end : Q (codes "endmodule")
      the_end = (λ k. to k.0 k.1, λ k. ([], subst (λ l. finished h l v ts) (sym (append-nil h.items)) k))
        where
          to : (is : List Item) → after_items limit h is v (Identifier (codes "endmodule") ∷ ts) → rest_item limit (Ended h) ts v
          to [] k = subst (λ l. finished h l v ts) (append-nil h.items) k
          to (Wires r n ns ∷ is) k = absurd k
          to (i ∷ is) k = absurd k

      none : bytes_eq w (codes "wire") ≡ false → bytes_eq w (codes "reg") ≡ false → bytes_eq w (codes "assign") ≡ false → bytes_eq w (codes "always") ≡ false → bytes_eq w (codes "endmodule") ≡ false → (is : List Item) → after_items limit h is v (Identifier w ∷ ts) → ⊥
      none n1 n2 n3 n4 n5 [] k = rw n5 at k
      none n1 n2 n3 n4 n5 (Wires r n ns ∷ is) k = rw n1 at k
      none n1 n2 n3 n4 n5 (Regs r n ns ∷ is) k = rw n2 at k
      none n1 n2 n3 n4 n5 (Drives n x ∷ is) k = rw n3 at k
      none n1 n2 n3 n4 n5 (Always c s ∷ is) k = rw n4 at k

  pub want_item_goes : (h : Head) (t : Token) (ts : List Token) (v : P.ModuleTree) → Item_law (WantItem h) (want_item_step h t) t ts v
  want_item_goes h (Identifier w) ts v = item_word_goes h w ts v
  want_item_goes h t ts v = never (λ k. no k.0 k.1) (λ z. z)
    where
      no : (is : List Item) → after_items limit h is v (t ∷ ts) → ⊥
      no [] k = k
      no (Wires r n ns ∷ is) k = k
      no (i ∷ is) k = k

  abbrev pub Stmt_law : StmtPlace → Option State → Token → List Token → P.ModuleTree → Type 0
  Stmt_law p o t ts v = rest_stmt limit p (t ∷ ts) v ↔ Holds o (λ z. rest limit z ts v)

  abbrev Comes : ℕ → (a : Around) → Stmt → AfterStmt a → P.ModuleTree → List Token → Type 0
  Comes q a x t v ts = stmt (style_of a) limit q x (after_stmt limit a t q (stmt_tree x) (ends_in_if x) v) ts

  -- where a statement is wanted, at a word
  word_goes : (q : ℕ) (a : Around) (w : List ℕ) (ts : List Token) (v : P.ModuleTree) → Stmt_law (WantStmt q a) (word_step limit q a w) (Identifier w) ts v
  word_goes q a w ts v = at_word Q w (codes "begin") (begins (deeper limit q) refl) (λ n1. at_word Q w (codes "if") (ifs (deeper limit q) refl) (λ n2. at_word Q w (codes "case") (cases (deeper limit q) refl) (λ n3. or_else (bytes_eq w (codes "begin")) _ (if bytes_eq w (codes "if") then in_room (deeper limit q) (λ p. AtStmt (IfRead q p a)) else if bytes_eq w (codes "case") then in_room (deeper limit q) (λ p. AtStmt (CaseRead q p a)) else target_step (is_among w reserved_words) q w a) n1 (or_else (bytes_eq w (codes "if")) _ (if bytes_eq w (codes "case") then in_room (deeper limit q) (λ p. AtStmt (CaseRead q p a)) else target_step (is_among w reserved_words) q w a) n2 (or_else (bytes_eq w (codes "case")) _ (target_step (is_among w reserved_words) q w a) n3 (target n1 n2 n3 (is_among w reserved_words) refl))))))
    where
      Q : List ℕ → Type 0
      Q x = Stmt_law (WantStmt q a) (word_step limit q a x) (Identifier x) ts v

      or_else : (t : Bool) (o p : Option State) → t ≡ false → Stmt_law (WantStmt q a) p (Identifier w) ts v → Stmt_law (WantStmt q a) (if t then o else p) (Identifier w) ts v
      or_else true o p e f = cc
      or_else false o p e f = f

      reserved : (x : List ℕ) → is_among x reserved_words ≡ true → is_among x reserved_words ≡ false → ⊥
      reserved x e f = let z : true ≡ false = sym e ∙ f in cc

      begins : (r : Option ℕ) → deeper limit q ≡ r → wanted_stmt limit q a v (Identifier (codes "begin") ∷ ts) ↔ Holds (in_room r (λ p. AtStmt (Block p q P.Done a))) (λ z. rest limit z ts v)
      begins None e = never (λ h. no h.0 h.1 h.2) (λ z. z)
        where
          no : (x : Stmt) (t : AfterStmt a) → Comes q a x t v (Identifier (codes "begin") ∷ ts) → ⊥
          no (BeginEnd ss) t h = rw e at h
          no (IfElse c s b) t h = h
          no (Assign n y) t h = reserved (codes "begin") refl h.1
          no x t h = h
      begins (Some p) e = (λ h. to h.0 h.1 h.2, λ h. (BeginEnd h.0, h.1, rw e h.2))
        where
          to : (x : Stmt) (t : AfterStmt a) → Comes q a x t v (Identifier (codes "begin") ∷ ts) → rest_stmt limit (Block p q P.Done a) ts v
          to (BeginEnd ss) t h = (ss, t, rw e at h)
          to (IfElse c s b) t h = absurd h
          to (Assign n y) t h = absurd (reserved (codes "begin") refl h.1)
          to x t h = absurd h

      ifs : (r : Option ℕ) → deeper limit q ≡ r → wanted_stmt limit q a v (Identifier (codes "if") ∷ ts) ↔ Holds (in_room r (λ p. AtStmt (IfRead q p a))) (λ z. rest limit z ts v)
      ifs None e = never (λ h. no h.0 h.1 h.2) (λ z. z)
        where
          no : (x : Stmt) (t : AfterStmt a) → Comes q a x t v (Identifier (codes "if") ∷ ts) → ⊥
          no (If c s) t h = rw e at h
          no (IfElse c s b) t h = rw e at h
          no (Assign n y) t h = reserved (codes "if") refl h.1
          no x t h = h
      ifs (Some p) e = (λ h. to h.0 h.1 h.2, λ h. from h.0 h.1 h.2 h.3 h.4)
        where
          to : (x : Stmt) (t : AfterStmt a) → Comes q a x t v (Identifier (codes "if") ∷ ts) → rest_stmt limit (IfRead q p a) ts v
          to (If c s) t h = (c, s, None, t, rw e at h)
          to (IfElse c s b) t h = (c, s, Some b, t, rw e at h)
          to (Assign n y) t h = absurd (reserved (codes "if") refl h.1)
          to x t h = absurd h

          from : (c : Expr) (s : Stmt) (b : Option Stmt) (t : AfterStmt a) → sign Open (λ us. Holds (deeper limit p) (λ r. expr (style_of a) limit r c (after_alone limit (AsCondition q p a) (s, b, t) r (expr_tree c) v) us)) ts → wanted_stmt limit q a v (Identifier (codes "if") ∷ ts)
          from c s None t h = (If c s, t, rw e h)
          from c s (Some b) t h = (IfElse c s b, t, rw e h)

      cases : (r : Option ℕ) → deeper limit q ≡ r → wanted_stmt limit q a v (Identifier (codes "case") ∷ ts) ↔ Holds (in_room r (λ p. AtStmt (CaseRead q p a))) (λ z. rest limit z ts v)
      cases None e = never (λ h. no h.0 h.1 h.2) (λ z. z)
        where
          no : (x : Stmt) (t : AfterStmt a) → Comes q a x t v (Identifier (codes "case") ∷ ts) → ⊥
          no (Case c y ys d) t h = rw e at h
          no (IfElse c s b) t h = h
          no (Assign n y) t h = reserved (codes "case") refl h.1
          no x t h = h
      cases (Some p) e = (λ h. to h.0 h.1 h.2, λ h. (Case h.0 h.1 h.2 h.3, h.4, rw e h.5))
        where
          to : (x : Stmt) (t : AfterStmt a) → Comes q a x t v (Identifier (codes "case") ∷ ts) → rest_stmt limit (CaseRead q p a) ts v
          to (Case c y ys d) t h = (c, y, ys, d, t, rw e at h)
          to (IfElse c s b) t h = absurd h
          to (Assign n y) t h = absurd (reserved (codes "case") refl h.1)
          to x t h = absurd h

      target : bytes_eq w (codes "begin") ≡ false → bytes_eq w (codes "if") ≡ false → bytes_eq w (codes "case") ≡ false → (b : Bool) → is_among w reserved_words ≡ b → wanted_stmt limit q a v (Identifier w ∷ ts) ↔ Holds (target_step b q w a) (λ z. rest limit z ts v)
      target n1 n2 n3 true e = never (λ h. no h.0 h.1 h.2) (λ z. z)
        where
          no : (x : Stmt) (t : AfterStmt a) → Comes q a x t v (Identifier w ∷ ts) → ⊥
          no (BeginEnd ss) t h = rw n1 at h
          no (If c s) t h = rw n2 at h
          no (IfElse c s b) t h = rw n2 at h
          no (Case c y ys d) t h = rw n3 at h
          no (Assign n y) t h = reserved w e h.1
      target n1 n2 n3 false e = (λ h. to h.0 h.1 h.2, λ h. (Assign w h.0, h.1, (refl, e, h.2)))
        where
          to : (x : Stmt) (t : AfterStmt a) → Comes q a x t v (Identifier w ∷ ts) → rest_stmt limit (Target q w a) ts v
          to (BeginEnd ss) t h = absurd (rw n1 at h)
          to (If c s) t h = absurd (rw n2 at h)
          to (IfElse c s b) t h = absurd (rw n2 at h)
          to (Case c y ys d) t h = absurd (rw n3 at h)
          to (Assign n y) t h = (y, t, subst (λ m. sign LessEquals (expr (style_of a) limit q y (sign Semicolon (after_stmt limit a t q (alone (P.SetTo m (expr_tree y))) false v))) ts) (sym h.0) h.2)

  pub want_stmt_goes : (q : ℕ) (a : Around) (t : Token) (ts : List Token) (v : P.ModuleTree) → Stmt_law (WantStmt q a) (want_stmt_step limit q a t) t ts v
  want_stmt_goes q a (Identifier w) ts v = word_goes q a w ts v
  want_stmt_goes q a t ts v = never (λ h. no h.0 h.1 h.2) (λ z. z)
    where
      no : (x : Stmt) (s : AfterStmt a) → Comes q a x s v (t ∷ ts) → ⊥
      no (BeginEnd ss) s h = h
      no x s h = h

  -- a fact of every token, from that of a word and that of the others
  pub at_token : (P : Token → Type 0) (w : List ℕ) (t : Token) → P (Identifier w) → (is_word w t ≡ false → P t) → P t
  at_token P w (Identifier v) p q = at_word (λ x. P (Identifier x)) v w p q
  at_token P w t p q = q refl

  -- no other word
  pub no_keyword : (w : List ℕ) (K : List Token → Type 0) (t : Token) (ts : List Token) → is_word w t ≡ false → keyword w K (t ∷ ts) → ⊥
  no_keyword w K (Identifier v) ts e h = rw e at h
  no_keyword w K t ts e h = h

  done_end : (ss : P.Statements) → then_all ss P.Done ≡ ss
  done_end P.Done = refl
  done_end (P.Then x ss) = ap (P.Then x) (done_end ss)

  pub block_goes : (p r : ℕ) (old : P.Statements) (a : Around) (t : Token) (ts : List Token) (v : P.ModuleTree) → Stmt_law (Block p r old a) (block_step limit p r old a t) t ts v
  block_goes p r old a t ts v = at_token (λ x. Stmt_law (Block p r old a) (block_step limit p r old a x) x ts v) (codes "end") t (λ h. ends h.0 h.1 h.2, λ h. (NoStmt, h.0, subst (λ w. after_stmt limit a h.0 r w false v ts) (sym (done_end old)) h.1)) (λ n. rw n (also (λ h. to n h.0 h.1 h.2, λ h. (AndStmt h.0 h.1.0, h.1.1, h.2)) (want_stmt_goes p (InBlock r old a) t ts v)))
    where
      ends : (ss : Stmts) (x : AfterStmt a) → stmts (style_of a) limit p ss (keyword (codes "end") (after_stmt limit a x r (then_all old (stmts_tree ss)) false v)) (Identifier (codes "end") ∷ ts) → rest_stmt limit (HaveStmt r old a) ts v
      ends NoStmt x h = (x, subst (λ w. after_stmt limit a x r w false v ts) (done_end old) h)
      ends (AndStmt s ss) x h = absurd ((want_stmt_goes p (InBlock r old a) (Identifier (codes "end")) ts v).0 (s, (ss, x), h))

      to : is_word (codes "end") t ≡ false → (ss : Stmts) (x : AfterStmt a) → stmts (style_of a) limit p ss (keyword (codes "end") (after_stmt limit a x r (then_all old (stmts_tree ss)) false v)) (t ∷ ts) → wanted_stmt limit p (InBlock r old a) v (t ∷ ts)
      to n NoStmt x h = absurd (no_keyword (codes "end") (after_stmt limit a x r (then_all old P.Done) false v) t ts n h)
      to n (AndStmt s ss) x h = (s, (ss, x), h)

  then_on : (old s more : P.Statements) → then_all (then_all old s) more ≡ then_all old (then_all s more)
  then_on P.Done s more = refl
  then_on (P.Then x old) s more = ap (P.Then x) (then_on old s more)

  -- a statement of a block, and the rest of the block
  in_block : (p r : ℕ) (old s : P.Statements) (o : Bool) (a : Around) (ts : List Token) (v : P.ModuleTree) → ((x : AfterStmt (InBlock r old a)) × after_stmt limit (InBlock r old a) x p s o v ts) ↔ rest_stmt limit (Block p r (then_all old s) a) ts v
  in_block p r old s o a ts v = (λ h. (h.0.0, h.0.1, subst (λ w. stmts (style_of a) limit p h.0.0 (keyword (codes "end") (after_stmt limit a h.0.1 r w false v)) ts) (sym (then_on old s (stmts_tree h.0.0))) h.1), λ h. ((h.0, h.1), subst (λ w. stmts (style_of a) limit p h.0 (keyword (codes "end") (after_stmt limit a h.1 r w false v)) ts) (then_on old s (stmts_tree h.0)) h.2))

  arms_on : (as' : P.Arms) (ls : List Vector) (s : P.Statements) (bs : P.Arms) → more_arms (more_arms as' (P.ArmOf ls s P.NoArm)) bs ≡ more_arms as' (P.ArmOf ls s bs)
  arms_on P.NoArm ls s bs = refl
  arms_on (P.ArmOf ks z as') ls s bs = ap (P.ArmOf ks z) (arms_on as' ls s bs)

  -- behind the statement of an arm
  arm_goes : (r q : ℕ) (x : P.Expression) (as' : P.Arms) (ls : List Vector) (s : P.Statements) (o : Bool) (a : Around) (t : Token) (ts : List Token) (v : P.ModuleTree) → ((z : AfterStmt (InArm r x as' ls a)) × after_stmt limit (InArm r x as' ls a) z q s o v (t ∷ ts)) ↔ Holds (arm_step r q x (more_arms as' (P.ArmOf ls s P.NoArm)) a t) (λ z. rest limit z ts v)
  arm_goes r q x as' ls s o a t ts v = go t
    where
      no_default : (w : Token) (d : Default) (k : AfterStmt a) → is_word (codes "default") w ≡ false → is_word (codes "endcase") w ≡ false → default (style_of a) limit q d (case_ends limit a k r x (more_arms as' (P.ArmOf ls s P.NoArm)) (default_tree d) v) (w ∷ ts) → ⊥
      no_default w NoDefault k e f h = no_keyword (codes "endcase") (after_stmt limit a k r (case_of x (more_arms as' (P.ArmOf ls s P.NoArm)) P.Done) false v) w ts f h
      no_default w (ItsDefault c d) k e f h = no_keyword (codes "default") (colon_if c (stmt (style_of a) limit q d (case_ends limit a k r x (more_arms as' (P.ArmOf ls s P.NoArm)) (stmt_tree d) v))) w ts e h

      word : (w : Token) → ((l : Vector) (K : List Token → Type 0) → literal l K (w ∷ ts) → ⊥) → ((z : AfterStmt (InArm r x as' ls a)) × after_stmt limit (InArm r x as' ls a) z q s o v (w ∷ ts)) ↔ ((d : Default) × (k : AfterStmt a) × default (style_of a) limit q d (case_ends limit a k r x (more_arms as' (P.ArmOf ls s P.NoArm)) (default_tree d) v) (w ∷ ts))
      word w f = (λ h. to h.0.0 h.0.1 h.0.2 h.1, λ h. ((NoArm, h.0, h.1), h.2))
        where
          to : (ys : Arms) (d : Default) (k : AfterStmt a) → after_stmt limit (InArm r x as' ls a) (ys, d, k) q s o v (w ∷ ts) → (d : Default) × (k : AfterStmt a) × default (style_of a) limit q d (case_ends limit a k r x (more_arms as' (P.ArmOf ls s P.NoArm)) (default_tree d) v) (w ∷ ts)
          to NoArm d k h = (d, k, h)
          to (AndArm (ArmOf l ks z) ys) d k h = absurd (f l (literals ks (sign Colon (stmt (style_of a) limit q z (arms (style_of a) limit q ys (default (style_of a) limit q d (case_ends limit a k r x (more_arms as' (P.ArmOf ls s (P.ArmOf (l ∷ ks) (stmt_tree z) (arms_tree ys)))) (default_tree d) v)))))) h)

      its_default : ((d : Default) × (k : AfterStmt a) × default (style_of a) limit q d (case_ends limit a k r x (more_arms as' (P.ArmOf ls s P.NoArm)) (default_tree d) v) (Identifier (codes "default") ∷ ts)) ↔ rest_stmt limit (DefaultRead r q x (more_arms as' (P.ArmOf ls s P.NoArm)) a) ts v
      its_default = (λ h. to h.0 h.1 h.2, λ h. (ItsDefault h.0 h.1, h.2, h.3))
        where
          to : (d : Default) (k : AfterStmt a) → default (style_of a) limit q d (case_ends limit a k r x (more_arms as' (P.ArmOf ls s P.NoArm)) (default_tree d) v) (Identifier (codes "default") ∷ ts) → rest_stmt limit (DefaultRead r q x (more_arms as' (P.ArmOf ls s P.NoArm)) a) ts v
          to NoDefault k h = absurd h
          to (ItsDefault c d) k h = (c, d, k, h)

      its_end : ((d : Default) × (k : AfterStmt a) × default (style_of a) limit q d (case_ends limit a k r x (more_arms as' (P.ArmOf ls s P.NoArm)) (default_tree d) v) (Identifier (codes "endcase") ∷ ts)) ↔ rest_stmt limit (HaveStmt r (case_of x (more_arms as' (P.ArmOf ls s P.NoArm)) P.Done) a) ts v
      its_end = (λ h. to h.0 h.1 h.2, λ h. (NoDefault, h.0, h.1))
        where
          to : (d : Default) (k : AfterStmt a) → default (style_of a) limit q d (case_ends limit a k r x (more_arms as' (P.ArmOf ls s P.NoArm)) (default_tree d) v) (Identifier (codes "endcase") ∷ ts) → rest_stmt limit (HaveStmt r (case_of x (more_arms as' (P.ArmOf ls s P.NoArm)) P.Done) a) ts v
          to NoDefault k h = (k, h)
          to (ItsDefault c d) k h = absurd h

      Goal : Token → Type 0
      Goal w = ((z : AfterStmt (InArm r x as' ls a)) × after_stmt limit (InArm r x as' ls a) z q s o v (w ∷ ts)) ↔ Holds (arm_step r q x (more_arms as' (P.ArmOf ls s P.NoArm)) a w) (λ z. rest limit z ts v)

      label : (y : Vector) → Goal (Based y)
      label y = (λ h. to h.0.0 h.0.1 h.0.2 h.1, λ h. ((AndArm (ArmOf y h.0 h.1) h.2, h.3, h.4), (refl, subst (λ w. literals h.0 (sign Colon (stmt (style_of a) limit q h.1 (arms (style_of a) limit q h.2 (default (style_of a) limit q h.3 (case_ends limit a h.4 r x w (default_tree h.3) v))))) ts) (arms_on as' ls s (P.ArmOf (y ∷ h.0) (stmt_tree h.1) (arms_tree h.2))) h.5)))
        where
          to : (ys : Arms) (d : Default) (k : AfterStmt a) → after_stmt limit (InArm r x as' ls a) (ys, d, k) q s o v (Based y ∷ ts) → rest_stmt limit (Labels r q x (more_arms as' (P.ArmOf ls s P.NoArm)) (y ∷ []) a) ts v
          to NoArm NoDefault k h = absurd h
          to NoArm (ItsDefault c d) k h = absurd h
          to (AndArm (ArmOf l ks z) ys) d k h = (ks, z, ys, d, k, subst (λ w. literals ks (sign Colon (stmt (style_of a) limit q z (arms (style_of a) limit q ys (default (style_of a) limit q d (case_ends limit a k r x w (default_tree d) v))))) ts) (sym (arms_on as' ls s (P.ArmOf (y ∷ ks) (stmt_tree z) (arms_tree ys)))) (subst (λ (w : Vector). literals ks (sign Colon (stmt (style_of a) limit q z (arms (style_of a) limit q ys (default (style_of a) limit q d (case_ends limit a k r x (more_arms as' (P.ArmOf ls s (P.ArmOf (w ∷ ks) (stmt_tree z) (arms_tree ys)))) (default_tree d) v))))) ts) (sym h.0) h.1))

      go : (w : Token) → Goal w
      go (Based y) = label y
      go (Identifier w) = at_word (λ m. Goal (Identifier m)) w (codes "default") (also (word (Identifier (codes "default")) (λ l K z. z)) its_default) (λ n. at_word (λ m. Goal (Identifier m)) w (codes "endcase") (also (word (Identifier (codes "endcase")) (λ l K z. z)) its_end) (λ m. rw n (rw m (also (word (Identifier w) (λ l K z. z)) (never (λ h. no_default (Identifier w) h.0 h.1 n m h.2) (λ z. z))))))
      go w = also (word w (λ l K z. z)) (never (λ h. no_default w h.0 h.1 refl refl h.2) (λ z. z))

  -- no else follows an if that has none
  no_else : (a : Around) (x : AfterStmt a) (q : ℕ) (s : P.Statements) (v : P.ModuleTree) (ts : List Token) → after_stmt limit a x q s true v (Identifier (codes "else") ∷ ts) → ⊥
  no_else (InAlways h c) x q s v ts k = (want_item_goes (with_item h (P.AlwaysItem c s)) (Identifier (codes "else")) ts v).0 (x, k)
  no_else (InBlock r old a) x q s v ts k = (block_goes q r (then_all old s) a (Identifier (codes "else")) ts v).0 ((in_block q r old s true a (Identifier (codes "else") ∷ ts) v).0 (x, k))
  no_else (InThen r c a) x q s v ts k = part x.0 (no_else a x.1 r (alone (P.IfElse c s P.Done)) v ts) k
    where
      part : (b : Option Stmt) → (after_stmt limit a x.1 r (alone (P.IfElse c s P.Done)) true v (Identifier (codes "else") ∷ ts) → ⊥) → else_part limit (style_of a) (λ w p. after_stmt limit a x.1 r w p v) q true c s b (Identifier (codes "else") ∷ ts) → ⊥
      part None g z = g z
      part (Some b) g z = let e : true ≡ false = z.0 in cc
  no_else (InElse r c s' a) x q s v ts k = no_else a x r (alone (P.IfElse c s' s)) v ts k
  no_else (InArm r y as' ls a) x q s v ts k = (arm_goes r q y as' ls s true a (Identifier (codes "else")) ts v).0 (x, k)
  no_else (InDefault r y as' a) x q s v ts k = k

  pub expects_word_goes : {X : Type 0} (w : List ℕ) (s : State) (K : X → List Token → Type 0) (t : Token) (ts : List Token) (v : P.ModuleTree) → (((x : X) × K x ts) ↔ rest limit s ts v) → ((x : X) × keyword w (K x) (t ∷ ts)) ↔ Holds (expects_word w s t) (λ z. rest limit z ts v)
  expects_word_goes {X} w s K (Identifier u) ts v f = go (bytes_eq u w)
    where
      go : (b : Bool) → ((x : X) × when b (K x ts)) ↔ Holds (only_where b (Some s)) (λ z. rest limit z ts v)
      go true = f
      go false = never (λ h. h.1) (λ z. z)
  expects_word_goes w s K t ts v f = never (λ h. h.1) (λ z. z)

  -- behind a whole statement: an else belongs to the nearest if that has none
  abbrev Behind_law : Around → ℕ → P.Statements → Bool → Token → List Token → P.ModuleTree → Type 0
  Behind_law a q s o t ts v = ((x : AfterStmt a) × after_stmt limit a x q s o v (t ∷ ts)) ↔ Holds (have_stmt_step limit a q s t) (λ z. rest limit z ts v)

  pub have_stmt_goes : (a : Around) (q : ℕ) (s : P.Statements) (o : Bool) (t : Token) (ts : List Token) (v : P.ModuleTree) → (is_word (codes "else") t ≡ true → o ≡ false) → Behind_law a q s o t ts v
  have_stmt_goes (InAlways h c) q s o t ts v f = want_item_goes (with_item h (P.AlwaysItem c s)) t ts v
  have_stmt_goes (InBlock r old a) q s o t ts v f = also (in_block q r old s o a (t ∷ ts) v) (block_goes q r (then_all old s) a t ts v)
  have_stmt_goes (InThen r c a) q s o t ts v f = at_token (λ w. (is_word (codes "else") w ≡ true → o ≡ false) → Behind_law (InThen r c a) q s o w ts v) (codes "else") t (λ g. (λ h. to h.0.0 h.0.1 h.1, λ h. ((Some h.0, h.1), (g refl, h.2)))) (λ n g. rw n (also (λ h. on n h.0.0 h.0.1 h.1, λ h. ((None, h.0), h.1)) (have_stmt_goes a r (alone (P.IfElse c s P.Done)) true t ts v (λ e. let k : true ≡ false = sym e ∙ n in cc)))) f
    where
      to : (b : Option Stmt) (x : AfterStmt a) → else_part limit (style_of a) (λ w p. after_stmt limit a x r w p v) q o c s b (Identifier (codes "else") ∷ ts) → rest_stmt limit (WantStmt q (InElse r c s a)) ts v
      to None x h = absurd (no_else a x r (alone (P.IfElse c s P.Done)) v ts h)
      to (Some b) x h = (b, x, h.1)

      on : is_word (codes "else") t ≡ false → (b : Option Stmt) (x : AfterStmt a) → else_part limit (style_of a) (λ w p. after_stmt limit a x r w p v) q o c s b (t ∷ ts) → (x : AfterStmt a) × after_stmt limit a x r (alone (P.IfElse c s P.Done)) true v (t ∷ ts)
      on n None x h = (x, h)
      on n (Some b) x h = absurd (no_keyword (codes "else") (stmt (style_of a) limit q b (after_stmt limit a x r (alone (P.IfElse c s (stmt_tree b))) (ends_in_if b) v)) t ts n h.1)
  have_stmt_goes (InElse r c s' a) q s o t ts v f = have_stmt_goes a r (alone (P.IfElse c s' s)) o t ts v f
  have_stmt_goes (InArm r x as' ls a) q s o t ts v f = arm_goes r q x as' ls s o a t ts v
  have_stmt_goes (InDefault r x as' a) q s o t ts v f = expects_word_goes (codes "endcase") (AtStmt (HaveStmt r (case_of x as' s) a)) (λ y. after_stmt limit a y r (case_of x as' s) false v) t ts v same

  if_read_goes : (r q : ℕ) (a : Around) (t : Token) (ts : List Token) (v : P.ModuleTree) → Stmt_law (IfRead r q a) (step_stmt limit (IfRead r q a) t) t ts v
  if_read_goes r q a (Sign Open) ts v = go (deeper limit q)
    where
      go : (w : Option ℕ) → ((x : Expr) × (s : Stmt) × (b : Option Stmt) × (t : AfterStmt a) × Holds w (λ p. expr (style_of a) limit p x (after_alone limit (AsCondition r q a) (s, b, t) p (expr_tree x) v) ts)) ↔ Holds (in_room w (λ p. AtExpr (begin_expr (style_of a) p (AsCondition r q a)))) (λ z. rest limit z ts v)
      go None = never (λ h. h.4) (λ z. z)
      go (Some p) = also (λ h. (h.0, (h.1, h.2, h.3), h.4), λ h. (h.0, h.1.0, h.1.1, h.1.2, h.2)) (begins limit (style_of a) p (AsCondition r q a) ts v)
  if_read_goes r q a (Sign m) ts v = never (λ h. h.4) (λ z. z)
  if_read_goes r q a t ts v = never (λ h. h.4) (λ z. z)

  case_read_goes : (r q : ℕ) (a : Around) (t : Token) (ts : List Token) (v : P.ModuleTree) → Stmt_law (CaseRead r q a) (step_stmt limit (CaseRead r q a) t) t ts v
  case_read_goes r q a (Sign Open) ts v = go (deeper limit q)
    where
      go : (w : Option ℕ) → ((x : Expr) × (y : Arm) × (ys : Arms) × (d : Default) × (t : AfterStmt a) × Holds w (λ p. expr (style_of a) limit p x (after_alone limit (AsSubject r q a) (y, ys, d, t) p (expr_tree x) v) ts)) ↔ Holds (in_room w (λ p. AtExpr (begin_expr (style_of a) p (AsSubject r q a)))) (λ z. rest limit z ts v)
      go None = never (λ h. h.5) (λ z. z)
      go (Some p) = also (λ h. (h.0, (h.1, h.2, h.3, h.4), h.5), λ h. (h.0, h.1.0, h.1.1, h.1.2, h.1.3, h.2)) (begins limit (style_of a) p (AsSubject r q a) ts v)
  case_read_goes r q a (Sign m) ts v = never (λ h. h.5) (λ z. z)
  case_read_goes r q a t ts v = never (λ h. h.5) (λ z. z)

  first_goes : (r q : ℕ) (x : P.Expression) (as' : P.Arms) (a : Around) (t : Token) (ts : List Token) (v : P.ModuleTree) → Stmt_law (FirstLabel r q x as' a) (step_stmt limit (FirstLabel r q x as' a) t) t ts v
  first_goes r q x as' a (Based y) ts v = (λ h. to h.0 h.1 h.2 h.3 h.4, λ h. (ArmOf y h.0 h.1, h.2, h.3, h.4, (refl, h.5)))
    where
      to : (z : Arm) (ys : Arms) (d : Default) (k : AfterStmt a) → arm (style_of a) limit q z (arms (style_of a) limit q ys (default (style_of a) limit q d (case_ends limit a k r x (more_arms as' (arm_tree z (arms_tree ys))) (default_tree d) v))) (Based y ∷ ts) → rest_stmt limit (Labels r q x as' (y ∷ []) a) ts v
      to (ArmOf l ks z) ys d k h = (ks, z, ys, d, k, subst (λ (w : Vector). literals ks (sign Colon (stmt (style_of a) limit q z (arms (style_of a) limit q ys (default (style_of a) limit q d (case_ends limit a k r x (more_arms as' (P.ArmOf (w ∷ ks) (stmt_tree z) (arms_tree ys))) (default_tree d) v))))) ts) (sym h.0) h.1)
  first_goes r q x as' a t ts v = never (λ h. no h.0 h.1 h.2 h.3 h.4) (λ z. z)
    where
      no : (z : Arm) (ys : Arms) (d : Default) (k : AfterStmt a) → arm (style_of a) limit q z (arms (style_of a) limit q ys (default (style_of a) limit q d (case_ends limit a k r x (more_arms as' (arm_tree z (arms_tree ys))) (default_tree d) v))) (t ∷ ts) → ⊥
      no (ArmOf l ks z) ys d k h = h

  -- behind labels: ls, and then these
  abbrev Labelled : ℕ → ℕ → P.Expression → P.Arms → (a : Around) → List Vector → List Vector → Stmt → Arms → Default → AfterStmt a → P.ModuleTree → List Token → Type 0
  Labelled r q x as' a ls ks s ys d k v = literals ks (sign Colon (stmt (style_of a) limit q s (after_stmt limit (InArm r x as' ls a) (ys, d, k) q (stmt_tree s) (ends_in_if s) v)))

  labels_goes : (r q : ℕ) (x : P.Expression) (as' : P.Arms) (ls : List Vector) (a : Around) (t : Token) (ts : List Token) (v : P.ModuleTree) → Stmt_law (Labels r q x as' ls a) (labels_step r q x as' ls a t) t ts v
  labels_goes r q x as' ls a (Sign Comma) ts v = (λ h. to h.0 h.1 h.2 h.3 h.4 h.5, λ h. (h.0 ∷ h.1, h.2, h.3, h.4, h.5, h.6))
    where
      to : (ks : List Vector) (s : Stmt) (ys : Arms) (d : Default) (k : AfterStmt a) → Labelled r q x as' a (ls ++ ks) ks s ys d k v (Sign Comma ∷ ts) → rest_stmt limit (NextLabel r q x as' ls a) ts v
      to [] s ys d k h = absurd h
      to (l ∷ ks) s ys d k h = (l, ks, s, ys, d, k, h)
  labels_goes r q x as' ls a (Sign Colon) ts v = (λ h. to h.0 h.1 h.2 h.3 h.4 h.5, λ h. ([], h.0, h.1.0, h.1.1, h.1.2, subst (λ (w : List Vector). Labelled r q x as' a w [] h.0 h.1.0 h.1.1 h.1.2 v (Sign Colon ∷ ts)) (sym (append-nil ls)) h.2))
    where
      to : (ks : List Vector) (s : Stmt) (ys : Arms) (d : Default) (k : AfterStmt a) → Labelled r q x as' a (ls ++ ks) ks s ys d k v (Sign Colon ∷ ts) → rest_stmt limit (WantStmt q (InArm r x as' ls a)) ts v
      to [] s ys d k h = (s, (ys, d, k), subst (λ (w : List Vector). Labelled r q x as' a w [] s ys d k v (Sign Colon ∷ ts)) (append-nil ls) h)
      to (l ∷ ks) s ys d k h = absurd h
  labels_goes r q x as' ls a (Sign m) ts v = never (λ h. no h.0 h.1 h.2 h.3 h.4 h.5) (λ z. z)
    where
      no : (ks : List Vector) (s : Stmt) (ys : Arms) (d : Default) (k : AfterStmt a) → Labelled r q x as' a (ls ++ ks) ks s ys d k v (Sign m ∷ ts) → ⊥
      no [] s ys d k h = h
      no (l ∷ ks) s ys d k h = h
  labels_goes r q x as' ls a t ts v = never (λ h. no h.0 h.1 h.2 h.3 h.4 h.5) (λ z. z)
    where
      no : (ks : List Vector) (s : Stmt) (ys : Arms) (d : Default) (k : AfterStmt a) → Labelled r q x as' a (ls ++ ks) ks s ys d k v (t ∷ ts) → ⊥
      no [] s ys d k h = h
      no (l ∷ ks) s ys d k h = h

  next_goes : (r q : ℕ) (x : P.Expression) (as' : P.Arms) (ls : List Vector) (a : Around) (t : Token) (ts : List Token) (v : P.ModuleTree) → Stmt_law (NextLabel r q x as' ls a) (step_stmt limit (NextLabel r q x as' ls a) t) t ts v
  next_goes r q x as' ls a (Based y) ts v = (λ h. (h.1, h.2, h.3, h.4, h.5, subst (λ (w : List Vector). Labelled r q x as' a w h.1 h.2 h.3 h.4 h.5 v ts) (ap (λ (l : Vector). ls ++ (l ∷ h.1)) (sym h.6.0) ∙ sym (append_assoc ls (y ∷ []) h.1)) h.6.1), λ h. (y, h.0, h.1, h.2, h.3, h.4, (refl, subst (λ (w : List Vector). Labelled r q x as' a w h.0 h.1 h.2 h.3 h.4 v ts) (append_assoc ls (y ∷ []) h.0) h.5)))
  next_goes r q x as' ls a t ts v = never (λ h. h.6) (λ z. z)

  default_goes : (r q : ℕ) (x : P.Expression) (as' : P.Arms) (a : Around) (t : Token) (ts : List Token) (v : P.ModuleTree) → Stmt_law (DefaultRead r q x as' a) (step_stmt limit (DefaultRead r q x as' a) t) t ts v
  default_goes r q x as' a (Sign Colon) ts v = (λ h. to h.0 h.1 h.2 h.3, λ h. (true, h.0, h.1, h.2))
    where
      to : (c : Bool) (s : Stmt) (k : AfterStmt a) → colon_if c (stmt (style_of a) limit q s (case_ends limit a k r x as' (stmt_tree s) v)) (Sign Colon ∷ ts) → rest_stmt limit (WantStmt q (InDefault r x as' a)) ts v
      to true s k h = (s, k, h)
      to false s k h = absurd ((want_stmt_goes q (InDefault r x as' a) (Sign Colon) ts v).0 (s, k, h))
  default_goes r q x as' a (Sign m) ts v = also (λ h. to h.0 h.1 h.2 h.3, λ h. (false, h.0, h.1, h.2)) (want_stmt_goes q (InDefault r x as' a) (Sign m) ts v)
    where
      to : (c : Bool) (s : Stmt) (k : AfterStmt a) → colon_if c (stmt (style_of a) limit q s (case_ends limit a k r x as' (stmt_tree s) v)) (Sign m ∷ ts) → rest_stmt limit (WantStmt q (InDefault r x as' a)) (Sign m ∷ ts) v
      to true s k h = absurd h
      to false s k h = (s, k, h)
  default_goes r q x as' a t ts v = also (λ h. to h.0 h.1 h.2 h.3, λ h. (false, h.0, h.1, h.2)) (want_stmt_goes q (InDefault r x as' a) t ts v)
    where
      to : (c : Bool) (s : Stmt) (k : AfterStmt a) → colon_if c (stmt (style_of a) limit q s (case_ends limit a k r x as' (stmt_tree s) v)) (t ∷ ts) → rest_stmt limit (WantStmt q (InDefault r x as' a)) (t ∷ ts) v
      to true s k h = absurd h
      to false s k h = (s, k, h)

  pub stmt_laws : (p : StmtPlace) (t : Token) (ts : List Token) (v : P.ModuleTree) → rest_stmt limit p (t ∷ ts) v ↔ Holds (step_stmt limit p t) (λ z. rest limit z ts v)
  stmt_laws (WantStmt q a) t ts v = want_stmt_goes q a t ts v
  stmt_laws (Target q n a) t ts v = also (λ h. ((h.0, h.1), h.2), λ h. (h.0.0, h.0.1, h.1)) (expects_goes limit LessEquals (AtExpr (begin_expr (style_of a) q (AsValue n a))) (λ (x : Expr × AfterStmt a). expr (style_of a) limit q x.0 (after_alone limit (AsValue n a) x.1 q (expr_tree x.0) v)) t ts v (also (λ h. (h.0.0, h.0.1, h.1), λ h. ((h.0, h.1), h.2)) (begins limit (style_of a) q (AsValue n a) ts v)))
  stmt_laws (IfRead r q a) t ts v = if_read_goes r q a t ts v
  stmt_laws (CaseRead r q a) t ts v = case_read_goes r q a t ts v
  stmt_laws (FirstLabel r q x as' a) t ts v = first_goes r q x as' a t ts v
  stmt_laws (Labels r q x as' ls a) t ts v = labels_goes r q x as' ls a t ts v
  stmt_laws (NextLabel r q x as' ls a) t ts v = next_goes r q x as' ls a t ts v
  stmt_laws (DefaultRead r q x as' a) t ts v = default_goes r q x as' a t ts v
  stmt_laws (Block p r old a) t ts v = block_goes p r old a t ts v
  stmt_laws (HaveStmt q s a) t ts v = have_stmt_goes a q s false t ts v (λ e. refl)
