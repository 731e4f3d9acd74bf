-- Every part of the grammar is cut off from what stands behind it.
use Rattle.std.proofs.Common.{◌≡◌, ℕ, Bool, true, false, List, [], ◌∷◌, Option, Some, None, codes, refl}
use Rattle.std.specs.Str.{bytes_eq}
use Rattle.bist_bits.specs.Vector.{Vector}
use Rattle.bist_text.specs.ReservedWords.{is_among, reserved_words}
use Rattle.verilog_tree.specs.Grammar.{Limit, Item, Port, File, is_sign, sign, keyword, name, number, literal, inside, unary_mark, binary_mark, literals, ends_in_if, colon_if, range, names, item, items, wire_if, output_of, direction, port, ports, Expr, Stmt, Stmts, Arm, Arms, Default, expr, stmt, stmts, arm, arms, default, BeginEnd, If, IfElse, Case, Assign, NoStmt, AndStmt, ArmOf, NoArm, AndArm, NoDefault, ItsDefault, Wires, Regs, Drives, Always, Full, Free, Parenthesised}
use Rattle.verilog_tree.specs.Parenthesised as Y
use Rattle.verilog_tree.specs.Tokens.{Token, Identifier, Number, Based, Sign}
use Rattle.verilog_tree.specs.declared.tokens.Mark.TheVariants.{Open, Close, OpenBracket, CloseBracket, OpenBrace, CloseBrace, Comma, Semicolon, Colon, Question, LessEquals, Equals, At}
use Rattle.verilog_tree.specs.declared.tokens.Mark.{Mark}
use Rattle.verilog_tree.specs.declared.tree.Dir.TheVariants.{Input, Output, OutputReg}
use Rattle.verilog_tree.specs.declared.tree.Dir.{Dir}
use Rattle.verilog_tree.specs.declared.tree.UnOp.{UnOp}
use Rattle.verilog_tree.specs.declared.tree.UnOp.TheVariants as U
use Rattle.verilog_tree.specs.declared.tree.BinOp.{BinOp}
use Rattle.verilog_tree.specs.declared.tree.BinOp.TheVariants as B
use Rattle.chip_rtl.proofs.Cuts.{Cut, joined, nothing, never, sign_cut, keyword_cut, name_cut, number_cut, zero_cut, literal_cut, o, given}

unary_other : (u : UnOp) → is_sign Semicolon (unary_mark u) ≡ false
unary_other U.Not = refl
unary_other u = refl

binary_other : (b : BinOp) → is_sign Semicolon (binary_mark b) ≡ false
binary_other B.Add = refl
binary_other b = refl

-- what such a kind of tokens is not
pub record Harmless (bad : Token → Bool) : Type 0 where
  pub other : (m : Mark) → is_sign Semicolon m ≡ false → (n : Mark) → is_sign m n ≡ true → bad (Sign n) ≡ false
  pub word : (w : List ℕ) → bytes_eq w (codes "endmodule") ≡ false → (v : List ℕ) → bytes_eq v w ≡ true → bad (Identifier v) ≡ false
  pub named : (v : List ℕ) → is_among v reserved_words ≡ false → bad (Identifier v) ≡ false
  pub numbers : (l : Bool) (i : ℕ) → bad (Number l i) ≡ false
  pub literals : (x : Vector) → bad (Based x) ≡ false

module _ (limit : Limit) (bad : Token → Bool) (safe : Harmless bad) where
  jj : (F G : (List Token → Type 0) → List Token → Type 0) → Cut bad F → Cut bad G → Cut bad (λ K. F (G K))
  jj F G f g = joined limit bad F G f g

  num : (l : Bool) (i : ℕ) → bad (Number l i) ≡ false
  num = safe.numbers

  s : (m : Mark) → is_sign Semicolon m ≡ false → Cut bad (sign m)
  s m p = sign_cut limit bad m (safe.other m p)

  k : (w : List ℕ) → bytes_eq w (codes "endmodule") ≡ false → Cut bad (keyword w)
  k w p = keyword_cut limit bad w (safe.word w p)

  pub n : (w : List ℕ) → Cut bad (name w)
  n w = name_cut limit bad w safe.named

  i : (i : ℕ) → Cut bad (number i)
  i x = number_cut limit bad x safe.numbers

  l : (y : Vector) → Cut bad (literal y)
  l y = literal_cut limit bad y safe.literals

  mutual
    full : (r : ℕ) (x : Y.Expr) → Cut bad (Y.expr limit r x)
    full r (Y.Name w) = n w
    full r (Y.Select w j) = jj _ _ (n w) (jj _ _ (s OpenBracket refl) (jj _ _ (i j) (s CloseBracket refl)))
    full r (Y.Range w h j) = jj _ _ (n w) (jj _ _ (s OpenBracket refl) (jj _ _ (i h) (jj _ _ (s Colon refl) (jj _ _ (i j) (s CloseBracket refl)))))
    full r (Y.Constant y) = l y
    full r (Y.Braces x xs) = jj _ _ (s OpenBrace refl) (o limit bad r _ (λ q. jj _ _ (full q x) (jj _ _ (fulls q xs) (s CloseBrace refl))))
    full r (Y.Parens x) = jj _ _ (s Open refl) (o limit bad r _ (λ q. jj _ _ (full q x) (s Close refl)))
    full r (Y.Unary u x) = jj _ _ (s Open refl) (o limit bad r _ (λ q. jj _ _ (s (unary_mark u) (unary_other u)) (jj _ _ (full q x) (s Close refl))))
    full r (Y.Binary b x y) = jj _ _ (s Open refl) (o limit bad r _ (λ q. jj _ _ (full q x) (jj _ _ (s (binary_mark b) (binary_other b)) (jj _ _ (full q y) (s Close refl)))))
    full r (Y.Choice c x y) = jj _ _ (s Open refl) (o limit bad r _ (λ q. jj _ _ (full q c) (jj _ _ (s Question refl) (jj _ _ (full q x) (jj _ _ (s Colon refl) (jj _ _ (full q y) (s Close refl)))))))

    fulls : (r : ℕ) (xs : Y.Exprs) → Cut bad (Y.exprs limit r xs)
    fulls r Y.NoExpr = nothing limit bad
    fulls r (Y.AndExpr x xs) = jj _ _ (s Comma refl) (jj _ _ (full r x) (fulls r xs))

  -- an expression in full parentheses
  pub e : (r : ℕ) (x : Expr) → Cut bad (expr Parenthesised limit r x)
  e r (Full x) = full r x
  e r (Free x) = never limit bad

  ls : (ys : List Vector) → Cut bad (literals ys)
  ls [] = nothing limit bad
  ls (y ∷ ys) = jj _ _ (s Comma refl) (jj _ _ (l y) (ls ys))

  colon : (c : Bool) → Cut bad (colon_if c)
  colon true = s Colon refl
  colon false = nothing limit bad

  pub rg : (h : Option ℕ) → Cut bad (range h)
  rg None = nothing limit bad
  rg (Some h) = jj _ _ (s OpenBracket refl) (jj _ _ (i h) (jj _ _ (s Colon refl) (jj _ _ (zero_cut limit bad num) (s CloseBracket refl))))

  pub ns : (ws : List (List ℕ)) → Cut bad (names ws)
  ns [] = nothing limit bad
  ns (w ∷ ws) = jj _ _ (s Comma refl) (jj _ _ (n w) (ns ws))

  wi : (w : Bool) → Cut bad (wire_if w)
  wi true = k (codes "wire") refl
  wi false = nothing limit bad

  out : (d : Dir) (w : Bool) → Cut bad (output_of d w)
  out Input w = never limit bad
  out Output w = wi w
  out OutputReg true = never limit bad
  out OutputReg false = k (codes "reg") refl

  pub dr : (d : Dir) (w : Bool) → Cut bad (direction d w)
  dr Input w = jj _ _ (k (codes "input") refl) (wi w)
  dr Output w = jj _ _ (k (codes "output") refl) (out Output w)
  dr OutputReg w = jj _ _ (k (codes "output") refl) (out OutputReg w)

  pub pt : (p : Port) → Cut bad (port p)
  pt p = jj _ _ (dr p.dir p.wire) (jj _ _ (rg p.range) (n p.name))

  pub pts : (ps : List Port) → Cut bad (ports ps)
  pts [] = nothing limit bad
  pts (p ∷ ps) = jj _ _ (s Comma refl) (jj _ _ (pt p) (pts ps))

-- with semicolons
module _ (limit : Limit) (bad : Token → Bool) (safe : Harmless bad) (semi : Cut bad (sign Semicolon)) where
  j2 : (F G : (List Token → Type 0) → List Token → Type 0) → Cut bad F → Cut bad G → Cut bad (λ K. F (G K))
  j2 F G f g = joined limit bad F G f g

  s2 : (m : Mark) → is_sign Semicolon m ≡ false → Cut bad (sign m)
  s2 m p = sign_cut limit bad m (safe.other m p)

  k2 : (w : List ℕ) → bytes_eq w (codes "endmodule") ≡ false → Cut bad (keyword w)
  k2 w p = keyword_cut limit bad w (safe.word w p)

  n2 : (w : List ℕ) → Cut bad (name w)
  n2 w = name_cut limit bad w safe.named

  mutual
    pub st : (r : ℕ) (x : Stmt) → Cut bad (stmt Parenthesised limit r x)
    st r (BeginEnd ss) = j2 _ _ (k2 (codes "begin") refl) (o limit bad r _ (λ q. j2 _ _ (sts q ss) (k2 (codes "end") refl)))
    st r (If c x) = j2 _ _ (k2 (codes "if") refl) (o limit bad r _ (λ q. j2 _ _ (s2 Open refl) (o limit bad q _ (λ p. j2 _ _ (e limit bad safe p c) (j2 _ _ (s2 Close refl) (st q x))))))
    st r (IfElse c a b) = j2 _ _ (k2 (codes "if") refl) (o limit bad r _ (λ q. j2 _ _ (s2 Open refl) (o limit bad q _ (λ p. j2 _ _ (e limit bad safe p c) (j2 _ _ (s2 Close refl) (j2 _ _ (st q a) (given limit bad (ends_in_if a ≡ false) _ (j2 _ _ (k2 (codes "else") refl) (st q b)))))))))
    st r (Case x a as' d) = j2 _ _ (k2 (codes "case") refl) (o limit bad r _ (λ q. j2 _ _ (s2 Open refl) (o limit bad q _ (λ p. j2 _ _ (e limit bad safe p x) (j2 _ _ (s2 Close refl) (j2 _ _ (ar q a) (j2 _ _ (ars q as') (j2 _ _ (df q d) (k2 (codes "endcase") refl)))))))))
    st r (Assign w x) = j2 _ _ (n2 w) (j2 _ _ (s2 LessEquals refl) (j2 _ _ (e limit bad safe r x) semi))

    pub sts : (r : ℕ) (xs : Stmts) → Cut bad (stmts Parenthesised limit r xs)
    sts r NoStmt = nothing limit bad
    sts r (AndStmt x xs) = j2 _ _ (st r x) (sts r xs)

    ar : (r : ℕ) (a : Arm) → Cut bad (arm Parenthesised limit r a)
    ar r (ArmOf y ys x) = j2 _ _ (l limit bad safe y) (j2 _ _ (ls limit bad safe ys) (j2 _ _ (s2 Colon refl) (st r x)))

    ars : (r : ℕ) (as' : Arms) → Cut bad (arms Parenthesised limit r as')
    ars r NoArm = nothing limit bad
    ars r (AndArm a as') = j2 _ _ (ar r a) (ars r as')

    df : (r : ℕ) (d : Default) → Cut bad (default Parenthesised limit r d)
    df r NoDefault = nothing limit bad
    df r (ItsDefault c x) = j2 _ _ (k2 (codes "default") refl) (j2 _ _ (colon limit bad safe c) (st r x))

  pub it : (x : Item) → Cut bad (item Parenthesised limit x)
  it (Wires h w ws) = j2 _ _ (k2 (codes "wire") refl) (j2 _ _ (rg limit bad safe h) (j2 _ _ (n2 w) (j2 _ _ (ns limit bad safe ws) semi)))
  it (Regs h w ws) = j2 _ _ (k2 (codes "reg") refl) (j2 _ _ (rg limit bad safe h) (j2 _ _ (n2 w) (j2 _ _ (ns limit bad safe ws) semi)))
  it (Drives w x) = j2 _ _ (k2 (codes "assign") refl) (j2 _ _ (n2 w) (j2 _ _ (s2 Equals refl) (j2 _ _ (e limit bad safe 0 x) semi)))
  it (Always c x) = j2 _ _ (k2 (codes "always") refl) (j2 _ _ (s2 At refl) (j2 _ _ (s2 Open refl) (o limit bad 0 _ (λ q. j2 _ _ (k2 (codes "posedge") refl) (j2 _ _ (n2 c) (j2 _ _ (s2 Close refl) (st 0 x)))))))

  pub its : (is : List Item) → Cut bad (items Parenthesised limit is)
  its [] = nothing limit bad
  its (x ∷ is) = j2 _ _ (it x) (its is)

  -- a file up to its last word, and then K
  abbrev pub file_body : File → (List Token → Type 0) → List Token → Type 0
  file_body f K = keyword (codes "module") (name f.name (sign Open (inside limit 0 (λ q. port f.port (ports f.ports (sign Close (sign Semicolon (items Parenthesised limit f.items K))))))))

  pub fl : (f : File) → Cut bad (file_body f)
  fl f = j2 _ _ (k2 (codes "module") refl) (j2 _ _ (n2 f.name) (j2 _ _ (s2 Open refl) (o limit bad 0 _ (λ q. j2 _ _ (pt limit bad safe f.port) (j2 _ _ (pts limit bad safe f.ports) (j2 _ _ (s2 Close refl) (j2 _ _ semi (its f.items))))))))
