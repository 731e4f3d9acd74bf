-- A text in full parentheses is one whose operators bind by precedence, of the same module, where its expressions have
-- no more operators than may be.
use Rattle.std.proofs.Common.{◌≡◌, ℕ, true, false, ◌&&◌, List, [], ◌∷◌, ◌++◌, Option, None, refl, sym, ap, ap₂, subst, ◌∙◌, codes}
use Rattle.std.proofs.lemmas.Bool.{and_parts, and_from}
use Rattle.verilog_tree.specs.declared.tokens.Mark.TheVariants.{Open, Close, Semicolon, Colon, LessEquals, Equals, At}
use Rattle.verilog_tree.specs.Grammar.{Limit, Parenthesised, ByPrecedence, Expr, Full, Free, Stmt, BeginEnd, If, IfElse, Case, Assign, Stmts, NoStmt, AndStmt, Arm, ArmOf, Arms, NoArm, AndArm, Default, NoDefault, ItsDefault, Item, Wires, Regs, Drives, Always, File, keyword, name, sign, inside, literals, colon_if, ends_in_if, expr, stmt, stmts, arm, arms, default, item, items, port, ports, no_token, file, expr_tree, stmt_tree, stmts_tree, arm_tree, arms_tree, default_tree, item_tree, items_tree, ports_tree, port_tree, file_tree, then_all, alone}
use Rattle.verilog_tree.specs.Plain as P
use Rattle.verilog_tree.specs.Spells.{Limits, Text, Derives, no_limits, Spells, FreelySpells}
use Rattle.verilog_tree.specs.Tokens.{Token}
use Rattle.verilog_text.specs.Operators.{expression_few, statement_few, statements_few, arms_few, item_few, items_few, few_operators}
use Rattle.verilog_text.specs.Flat.{Apart}
use Rattle.bist_text.proofs.Pieces.{same}
use Rattle.verilog_text.proofs.Forgetting as A
use Rattle.verilog_text.proofs.Forgetting.{counted, nested_tree}
use Rattle.verilog_text.proofs.FullTexts.{as_prim, only, same_prim, alike}
use Rattle.verilog_text.proofs.Nesting.{nested}
use Rattle.verilog_text.proofs.TokenPieces as Q
use Rattle.verilog_text.proofs.Firsts.{without_limits}
use Rattle.verilog_text.proofs.ReadingLaws.{one_text}

-- ---- the derivation

abbrev freed : Expr → Expr
freed (Full x) = Free (nested (only (as_prim x)))
freed (Free x) = Free x

abbrev mutual
  pub free_stmt : Stmt → Stmt
  free_stmt (BeginEnd ss) = BeginEnd (free_stmts ss)
  free_stmt (If c s) = If (freed c) (free_stmt s)
  free_stmt (IfElse c a b) = IfElse (freed c) (free_stmt a) (free_stmt b)
  free_stmt (Case x a as' d) = Case (freed x) (free_arm a) (free_arms as') (free_default d)
  free_stmt (Assign n x) = Assign n (freed x)

  pub free_stmts : Stmts → Stmts
  free_stmts NoStmt = NoStmt
  free_stmts (AndStmt s ss) = AndStmt (free_stmt s) (free_stmts ss)

  pub free_arm : Arm → Arm
  free_arm (ArmOf l ls s) = ArmOf l ls (free_stmt s)

  pub free_arms : Arms → Arms
  free_arms NoArm = NoArm
  free_arms (AndArm a as') = AndArm (free_arm a) (free_arms as')

  pub free_default : Default → Default
  free_default NoDefault = NoDefault
  free_default (ItsDefault colon s) = ItsDefault colon (free_stmt s)

abbrev free_item : Item → Item
free_item (Wires r n ns) = Wires r n ns
free_item (Regs r n ns) = Regs r n ns
free_item (Drives n x) = Drives n (freed x)
free_item (Always c s) = Always c (free_stmt s)

abbrev free_items : List Item → List Item
free_items [] = []
free_items (i ∷ is) = free_item i ∷ free_items is

abbrev free_file : File → File
free_file f = record { name = f.name; port = f.port; ports = f.ports; items = free_items f.items }

-- ---- its tree

same_expr : (x : Expr) → expr_tree (freed x) ≡ expr_tree x
same_expr (Full x) = nested_tree (only (as_prim x)) ∙ same_prim x
same_expr (Free x) = refl

mutual
  same_stmt : (s : Stmt) → stmt_tree (free_stmt s) ≡ stmt_tree s
  same_stmt (BeginEnd ss) = same_stmts ss
  same_stmt (If c s) = ap₂ (λ e t. alone (P.IfElse e t P.Done)) (same_expr c) (same_stmt s)
  same_stmt (IfElse c a b) = ap (λ e. alone (P.IfElse e (stmt_tree (free_stmt a)) (stmt_tree (free_stmt b)))) (same_expr c) ∙ ap₂ (λ t u. alone (P.IfElse (expr_tree c) t u)) (same_stmt a) (same_stmt b)
  same_stmt (Case x a as' d) =
      ap (λ e. alone (P.CaseOf e (arm_tree (free_arm a) (arms_tree (free_arms as'))) (default_tree (free_default d)))) (same_expr x)
      ∙ ap₂ (λ t u. alone (P.CaseOf (expr_tree x) t u)) (same_arm a (free_arms as') ∙ ap (arm_tree a) (same_arms as')) (same_default d)
  same_stmt (Assign n x) = ap (λ e. alone (P.SetTo n e)) (same_expr x)

  same_stmts : (ss : Stmts) → stmts_tree (free_stmts ss) ≡ stmts_tree ss
  same_stmts NoStmt = refl
  same_stmts (AndStmt s ss) = ap₂ then_all (same_stmt s) (same_stmts ss)

  same_arm : (a : Arm) (as' : Arms) → arm_tree (free_arm a) (arms_tree as') ≡ arm_tree a (arms_tree as')
  same_arm (ArmOf l ls s) as' = ap (λ t. P.ArmOf (l ∷ ls) t (arms_tree as')) (same_stmt s)

  same_arms : (as' : Arms) → arms_tree (free_arms as') ≡ arms_tree as'
  same_arms NoArm = refl
  same_arms (AndArm a as') = same_arm a (free_arms as') ∙ ap (arm_tree a) (same_arms as')

  same_default : (d : Default) → default_tree (free_default d) ≡ default_tree d
  same_default NoDefault = refl
  same_default (ItsDefault colon s) = same_stmt s

same_item : (i : Item) → item_tree (free_item i) ≡ item_tree i
same_item (Wires r n ns) = refl
same_item (Regs r n ns) = refl
same_item (Drives n x) = ap (λ e. P.AssignItem n e ∷ []) (same_expr x)
same_item (Always c s) = ap (λ t. P.AlwaysItem c t ∷ []) (same_stmt s)

same_items : (is : List Item) → items_tree (free_items is) ≡ items_tree is
same_items [] = refl
same_items (i ∷ is) = ap₂ (λ a b. a ++ b) (same_item i) (same_items is)

same_file : (f : File) → file_tree (free_file f) ≡ file_tree f
same_file f = ap (λ is. let m : P.ModuleTree = record { name = f.name; ports = port_tree f.port ∷ ports_tree f.ports; items = is } in m) (same_items f.items)

same_end : (s : Stmt) → ends_in_if (free_stmt s) ≡ ends_in_if s
same_end (BeginEnd ss) = refl
same_end (If c s) = refl
same_end (IfElse c a b) = same_end b
same_end (Case x a as' d) = refl
same_end (Assign n x) = refl

-- ---- how many operators its expressions have

module _ (most : Option ℕ) where
  all_few : (a b : P.Statements) → statements_few most (then_all a b) ≡ true → (statements_few most a ≡ true) × (statements_few most b ≡ true)
  all_few P.Done b h = (refl, h)
  all_few (P.Then s ss) b h =
      let p = and_parts (statement_few most s) (statements_few most (then_all ss b)) h in
      let q = all_few ss b p.1 in
      (and_from (statement_few most s) (statements_few most ss) p.0 q.0, q.1)

  alone_few : (s : P.Statement) → statements_few most (alone s) ≡ true → statement_few most s ≡ true
  alone_few s h = (and_parts (statement_few most s) true h).0

  items_append : (is js : List P.ModuleItem) → items_few most (is ++ js) ≡ true → (items_few most is ≡ true) × (items_few most js ≡ true)
  items_append [] js h = (refl, h)
  items_append (i ∷ is) js h =
      let p = and_parts (item_few most i) (items_few most (is ++ js)) h in
      let q = items_append is js p.1 in
      (and_from (item_few most i) (items_few most is) p.0 q.0, q.1)

  arm_few : (a : Arm) (as' : Arms) → arms_few most (arm_tree a (arms_tree as')) ≡ true → (arms_few most (arm_tree a P.NoArm) ≡ true) × (arms_few most (arms_tree as') ≡ true)
  arm_few (ArmOf l ls s) as' few = let p = and_parts (statements_few most (stmt_tree s)) (arms_few most (arms_tree as')) few in (and_from (statements_few most (stmt_tree s)) true p.0 refl, p.1)

  -- ---- its tokens

  module _ (limit : Limit) where
    abbrev W : Limit
    W = counted limit most

    expr_too : (d : ℕ) (x : Expr) (K L : List Token → Type 0) → ((r : List Token) → K r → L r) → expression_few most (expr_tree x) ≡ true → (ts : List Token) → expr Parenthesised limit d x K ts → expr ByPrecedence W d (freed x) L ts
    expr_too d (Full x) K L f e ts h = (subst (λ t. expression_few most t ≡ true) (sym (same_expr (Full x))) e, A.freely limit most d (only (as_prim x)) (Apart false) (λ n. K) L (λ m. f) ts ((alike limit d x false K (λ n. K) (λ us. same) ts).0 h))
    expr_too d (Free x) K L f e ts h = absurd h

    -- if or case, a parenthesis, an expression, and what stands behind it
    head_too : (w : List ℕ) (d : ℕ) (x : Expr) (F H : ℕ → List Token → Type 0) → ((e : ℕ) (r : List Token) → F e r → H e r) → expression_few most (expr_tree x) ≡ true → (ts : List Token)
        → keyword w (inside limit d (λ e. sign Open (inside limit e (λ f. expr Parenthesised limit f x (sign Close (F e)))))) ts
        → keyword w (inside W d (λ e. sign Open (inside W e (λ f. expr ByPrecedence W f (freed x) (sign Close (H e)))))) ts
    head_too w d x F H g few ts h =
        (Q.k w).map (inside limit d (λ e. sign Open (inside limit e (λ f. expr Parenthesised limit f x (sign Close (F e)))))) (inside W d (λ e. sign Open (inside W e (λ f. expr ByPrecedence W f (freed x) (sign Close (H e))))))
        (A.entered limit most d (λ e. sign Open (inside limit e (λ f. expr Parenthesised limit f x (sign Close (F e))))) (λ e. sign Open (inside W e (λ f. expr ByPrecedence W f (freed x) (sign Close (H e)))))
        (λ e. A.opened limit most Open e (λ f. expr Parenthesised limit f x (sign Close (F e))) (λ f. expr ByPrecedence W f (freed x) (sign Close (H e)))
        (λ f. expr_too f x (sign Close (F e)) (sign Close (H e)) ((Q.s Close).map (F e) (H e) (g e)) few))) ts h

    mutual
      stmt_too : (d : ℕ) (s : Stmt) (K L : List Token → Type 0) → ((r : List Token) → K r → L r) → statements_few most (stmt_tree s) ≡ true → (ts : List Token) → stmt Parenthesised limit d s K ts → stmt ByPrecedence W d (free_stmt s) L ts
      stmt_too d (BeginEnd ss) K L f few ts h =
          (Q.k (codes "begin")).map (inside limit d (λ e. stmts Parenthesised limit e ss (keyword (codes "end") K))) (inside W d (λ e. stmts ByPrecedence W e (free_stmts ss) (keyword (codes "end") L)))
          (A.entered limit most d (λ e. stmts Parenthesised limit e ss (keyword (codes "end") K)) (λ e. stmts ByPrecedence W e (free_stmts ss) (keyword (codes "end") L))
          (λ e. stmts_too e ss (keyword (codes "end") K) (keyword (codes "end") L) ((Q.k (codes "end")).map K L f) few)) ts h
      stmt_too d (If c s) K L f few ts h =
          let p = and_parts (expression_few most (expr_tree c)) (statements_few most (stmt_tree s) && true) (alone_few (P.IfElse (expr_tree c) (stmt_tree s) P.Done) few) in
          let q = and_parts (statements_few most (stmt_tree s)) true p.1 in
          head_too (codes "if") d c (λ e. stmt Parenthesised limit e s K) (λ e. stmt ByPrecedence W e (free_stmt s) L) (λ e. stmt_too e s K L f q.0) p.0 ts h
      stmt_too d (IfElse c a b) K L f few ts h =
          let p = and_parts (expression_few most (expr_tree c)) (statements_few most (stmt_tree a) && statements_few most (stmt_tree b)) (alone_few (P.IfElse (expr_tree c) (stmt_tree a) (stmt_tree b)) few) in
          let q = and_parts (statements_few most (stmt_tree a)) (statements_few most (stmt_tree b)) p.1 in
          head_too (codes "if") d c
          (λ e. stmt Parenthesised limit e a (λ us. (ends_in_if a ≡ false) × keyword (codes "else") (stmt Parenthesised limit e b K) us))
          (λ e. stmt ByPrecedence W e (free_stmt a) (λ us. (ends_in_if (free_stmt a) ≡ false) × keyword (codes "else") (stmt ByPrecedence W e (free_stmt b) L) us))
          (λ e. stmt_too e a (λ us. (ends_in_if a ≡ false) × keyword (codes "else") (stmt Parenthesised limit e b K) us) (λ us. (ends_in_if (free_stmt a) ≡ false) × keyword (codes "else") (stmt ByPrecedence W e (free_stmt b) L) us)
          (λ us k. (same_end a ∙ k.0, (Q.k (codes "else")).map (stmt Parenthesised limit e b K) (stmt ByPrecedence W e (free_stmt b) L) (stmt_too e b K L f q.1) us k.1)) q.0) p.0 ts h
      stmt_too d (Case x a as' o) K L f few ts h =
          let p = and_parts (expression_few most (expr_tree x)) (arms_few most (arm_tree a (arms_tree as')) && statements_few most (default_tree o)) (alone_few (P.CaseOf (expr_tree x) (arm_tree a (arms_tree as')) (default_tree o)) few) in
          let q = and_parts (arms_few most (arm_tree a (arms_tree as'))) (statements_few most (default_tree o)) p.1 in
          let r = arm_few a as' q.0 in
          head_too (codes "case") d x
          (λ e. arm Parenthesised limit e a (arms Parenthesised limit e as' (default Parenthesised limit e o (keyword (codes "endcase") K))))
          (λ e. arm ByPrecedence W e (free_arm a) (arms ByPrecedence W e (free_arms as') (default ByPrecedence W e (free_default o) (keyword (codes "endcase") L))))
          (λ e. arm_too e a as' (arms Parenthesised limit e as' (default Parenthesised limit e o (keyword (codes "endcase") K))) (arms ByPrecedence W e (free_arms as') (default ByPrecedence W e (free_default o) (keyword (codes "endcase") L)))
          (arms_too e as' (default Parenthesised limit e o (keyword (codes "endcase") K)) (default ByPrecedence W e (free_default o) (keyword (codes "endcase") L))
          (default_too e o (keyword (codes "endcase") K) (keyword (codes "endcase") L) ((Q.k (codes "endcase")).map K L f) q.1) r.1) q.0) p.0 ts h
      stmt_too d (Assign n x) K L f few ts h =
          (Q.n n).map (sign LessEquals (expr Parenthesised limit d x (sign Semicolon K))) (sign LessEquals (expr ByPrecedence W d (freed x) (sign Semicolon L)))
          ((Q.s LessEquals).map (expr Parenthesised limit d x (sign Semicolon K)) (expr ByPrecedence W d (freed x) (sign Semicolon L))
          (expr_too d x (sign Semicolon K) (sign Semicolon L) ((Q.s Semicolon).map K L f) (alone_few (P.SetTo n (expr_tree x)) few))) ts h

      stmts_too : (d : ℕ) (ss : Stmts) (K L : List Token → Type 0) → ((r : List Token) → K r → L r) → statements_few most (stmts_tree ss) ≡ true → (ts : List Token) → stmts Parenthesised limit d ss K ts → stmts ByPrecedence W d (free_stmts ss) L ts
      stmts_too d NoStmt K L f few ts h = f ts h
      stmts_too d (AndStmt s ss) K L f few ts h =
          let p = all_few (stmt_tree s) (stmts_tree ss) few in
          stmt_too d s (stmts Parenthesised limit d ss K) (stmts ByPrecedence W d (free_stmts ss) L) (stmts_too d ss K L f p.1) p.0 ts h

      arm_too : (d : ℕ) (a : Arm) (as' : Arms) (K L : List Token → Type 0) → ((r : List Token) → K r → L r) → arms_few most (arm_tree a (arms_tree as')) ≡ true → (ts : List Token) → arm Parenthesised limit d a K ts → arm ByPrecedence W d (free_arm a) L ts
      arm_too d (ArmOf l ls s) as' K L f few ts h =
          (Q.l l).map (literals ls (sign Colon (stmt Parenthesised limit d s K))) (literals ls (sign Colon (stmt ByPrecedence W d (free_stmt s) L)))
          ((Q.ls ls).map (sign Colon (stmt Parenthesised limit d s K)) (sign Colon (stmt ByPrecedence W d (free_stmt s) L))
          ((Q.s Colon).map (stmt Parenthesised limit d s K) (stmt ByPrecedence W d (free_stmt s) L)
          (stmt_too d s K L f (and_parts (statements_few most (stmt_tree s)) (arms_few most (arms_tree as')) few).0))) ts h

      arms_too : (d : ℕ) (as' : Arms) (K L : List Token → Type 0) → ((r : List Token) → K r → L r) → arms_few most (arms_tree as') ≡ true → (ts : List Token) → arms Parenthesised limit d as' K ts → arms ByPrecedence W d (free_arms as') L ts
      arms_too d NoArm K L f few ts h = f ts h
      arms_too d (AndArm a as') K L f few ts h =
          arm_too d a as' (arms Parenthesised limit d as' K) (arms ByPrecedence W d (free_arms as') L) (arms_too d as' K L f (arm_few a as' few).1) few ts h

      default_too : (d : ℕ) (o : Default) (K L : List Token → Type 0) → ((r : List Token) → K r → L r) → statements_few most (default_tree o) ≡ true → (ts : List Token) → default Parenthesised limit d o K ts → default ByPrecedence W d (free_default o) L ts
      default_too d NoDefault K L f few ts h = f ts h
      default_too d (ItsDefault colon s) K L f few ts h =
          (Q.k (codes "default")).map (colon_if colon (stmt Parenthesised limit d s K)) (colon_if colon (stmt ByPrecedence W d (free_stmt s) L))
          ((Q.colon colon).map (stmt Parenthesised limit d s K) (stmt ByPrecedence W d (free_stmt s) L) (stmt_too d s K L f few)) ts h

    item_too : (i : Item) (K L : List Token → Type 0) → ((r : List Token) → K r → L r) → items_few most (item_tree i) ≡ true → (ts : List Token) → item Parenthesised limit i K ts → item ByPrecedence W (free_item i) L ts
    item_too (Wires h n ns) K L f few ts k = (Q.declared (codes "wire") h n ns).map K L f ts k
    item_too (Regs h n ns) K L f few ts k = (Q.declared (codes "reg") h n ns).map K L f ts k
    item_too (Drives n x) K L f few ts h =
        (Q.k (codes "assign")).map (name n (sign Equals (expr Parenthesised limit 0 x (sign Semicolon K)))) (name n (sign Equals (expr ByPrecedence W 0 (freed x) (sign Semicolon L))))
        ((Q.n n).map (sign Equals (expr Parenthesised limit 0 x (sign Semicolon K))) (sign Equals (expr ByPrecedence W 0 (freed x) (sign Semicolon L)))
        ((Q.s Equals).map (expr Parenthesised limit 0 x (sign Semicolon K)) (expr ByPrecedence W 0 (freed x) (sign Semicolon L))
        (expr_too 0 x (sign Semicolon K) (sign Semicolon L) ((Q.s Semicolon).map K L f) (and_parts (expression_few most (expr_tree x)) true few).0))) ts h
    item_too (Always c s) K L f few ts h =
        (Q.k (codes "always")).map (sign At (sign Open (inside limit 0 (λ e. keyword (codes "posedge") (name c (sign Close (stmt Parenthesised limit 0 s K))))))) (sign At (sign Open (inside W 0 (λ e. keyword (codes "posedge") (name c (sign Close (stmt ByPrecedence W 0 (free_stmt s) L)))))))
        ((Q.s At).map (sign Open (inside limit 0 (λ e. keyword (codes "posedge") (name c (sign Close (stmt Parenthesised limit 0 s K)))))) (sign Open (inside W 0 (λ e. keyword (codes "posedge") (name c (sign Close (stmt ByPrecedence W 0 (free_stmt s) L))))))
        (A.opened limit most Open 0 (λ e. keyword (codes "posedge") (name c (sign Close (stmt Parenthesised limit 0 s K)))) (λ e. keyword (codes "posedge") (name c (sign Close (stmt ByPrecedence W 0 (free_stmt s) L))))
        (λ e. (Q.k (codes "posedge")).map (name c (sign Close (stmt Parenthesised limit 0 s K))) (name c (sign Close (stmt ByPrecedence W 0 (free_stmt s) L)))
        ((Q.n c).map (sign Close (stmt Parenthesised limit 0 s K)) (sign Close (stmt ByPrecedence W 0 (free_stmt s) L))
        ((Q.s Close).map (stmt Parenthesised limit 0 s K) (stmt ByPrecedence W 0 (free_stmt s) L)
        (stmt_too 0 s K L f (and_parts (statements_few most (stmt_tree s)) true few).0)))))) ts h

    items_too : (is : List Item) (K L : List Token → Type 0) → ((r : List Token) → K r → L r) → items_few most (items_tree is) ≡ true → (ts : List Token) → items Parenthesised limit is K ts → items ByPrecedence W (free_items is) L ts
    items_too [] K L f few ts h = f ts h
    items_too (i ∷ is) K L f few ts h =
        let p = items_append (item_tree i) (items_tree is) few in
        item_too i (items Parenthesised limit is K) (items ByPrecedence W (free_items is) L) (items_too is K L f p.1) p.0 ts h

    file_too : (f : File) → few_operators most (file_tree f) ≡ true → (ts : List Token) → file Parenthesised limit f ts → file ByPrecedence W (free_file f) ts
    file_too f few ts h =
        let K : List Token → Type 0 = items Parenthesised limit f.items (keyword (codes "endmodule") no_token) in
        let L : List Token → Type 0 = items ByPrecedence W (free_items f.items) (keyword (codes "endmodule") no_token) in
        (Q.k (codes "module")).map (name f.name (sign Open (inside limit 0 (λ e. port f.port (ports f.ports (sign Close (sign Semicolon K))))))) (name f.name (sign Open (inside W 0 (λ e. port f.port (ports f.ports (sign Close (sign Semicolon L)))))))
        ((Q.n f.name).map (sign Open (inside limit 0 (λ e. port f.port (ports f.ports (sign Close (sign Semicolon K)))))) (sign Open (inside W 0 (λ e. port f.port (ports f.ports (sign Close (sign Semicolon L))))))
        (A.opened limit most Open 0 (λ e. port f.port (ports f.ports (sign Close (sign Semicolon K)))) (λ e. port f.port (ports f.ports (sign Close (sign Semicolon L))))
        (λ e. (Q.pt f.port).map (ports f.ports (sign Close (sign Semicolon K))) (ports f.ports (sign Close (sign Semicolon L)))
        ((Q.pts f.ports).map (sign Close (sign Semicolon K)) (sign Close (sign Semicolon L))
        ((Q.s Close).map (sign Semicolon K) (sign Semicolon L)
        ((Q.s Semicolon).map K L
        (items_too f.items (keyword (codes "endmodule") no_token) (keyword (codes "endmodule") no_token) (λ r k. k) few))))))) ts h

-- ---- texts

pub freely_too : (most : Option ℕ) (limits : Limits) (b : List ℕ) (v : P.ModuleTree) → few_operators most v ≡ true → Text Parenthesised limits b v → Text ByPrecedence (record { names = limits.names; numbers = limits.numbers; counts = counted limits.counts most }) b v
freely_too most limits b v few t = (t.0, t.1, t.2, derived t.3)
  where
    derived : Derives Parenthesised limits.counts t.0 v → Derives ByPrecedence (counted limits.counts most) t.0 v
    derived d = (free_file d.0, file_too most limits.counts d.0 (subst (λ m. few_operators most m ≡ true) (sym d.2) few) t.0 d.1, same_file d.0 ∙ d.2)

-- without a limit there are always few
mutual
  stmt_any : (s : P.Statement) → statement_few None s ≡ true
  stmt_any (P.SetTo n x) = refl
  stmt_any (P.IfElse c a b) = and_from (statements_few None a) (statements_few None b) (stmts_any a) (stmts_any b)
  stmt_any (P.CaseOf x as' d) = and_from (arms_few None as') (statements_few None d) (arms_any as') (stmts_any d)

  stmts_any : (ss : P.Statements) → statements_few None ss ≡ true
  stmts_any P.Done = refl
  stmts_any (P.Then s ss) = and_from (statement_few None s) (statements_few None ss) (stmt_any s) (stmts_any ss)

  arms_any : (as' : P.Arms) → arms_few None as' ≡ true
  arms_any P.NoArm = refl
  arms_any (P.ArmOf ls ss as') = and_from (statements_few None ss) (arms_few None as') (stmts_any ss) (arms_any as')

item_any : (i : P.ModuleItem) → item_few None i ≡ true
item_any (P.WireItem n w) = refl
item_any (P.RegItem n w) = refl
item_any (P.AssignItem n x) = refl
item_any (P.AlwaysItem c ss) = stmts_any ss

items_any : (is : List P.ModuleItem) → items_few None is ≡ true
items_any [] = refl
items_any (i ∷ is) = and_from (item_few None i) (items_few None is) (item_any i) (items_any is)

pub nothing_else : (b : List ℕ) (v w : P.ModuleTree) → Spells b v → FreelySpells b w → w ≡ v
nothing_else b v w s f =
    one_text no_limits ByPrecedence b w v (without_limits ByPrecedence b w f)
    (freely_too None no_limits b v (items_any v.items) (without_limits Parenthesised b v s))
