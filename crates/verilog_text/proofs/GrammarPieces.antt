-- Every part of the grammar is a piece: what follows it may be weakened, and what exists behind it exists before.
use Rattle.std.proofs.Common.{◌≡◌, ℕ, true, false, List, [], ◌∷◌, ◌↔◌, codes}
use Rattle.bist_text.proofs.Piece.{Piece, joined}
use Rattle.verilog_tree.specs.Grammar.{Limit, Item, File, sign, keyword, name, inside, ends_in_if, item, items, port, ports, no_token, file_tree, Expr, Stmt, Stmts, Arm, Arms, Default, expr, stmt, stmts, arm, arms, default, BeginEnd, If, IfElse, Case, Assign, NoStmt, AndStmt, ArmOf, NoArm, AndArm, NoDefault, ItsDefault, Wires, Regs, Drives, Always, unary_mark, binary_mark, Style, Parenthesised, ByPrecedence, Full, Free, few}
use Rattle.verilog_tree.specs.Parenthesised as Y
use Rattle.verilog_tree.specs.Free as T
use Rattle.verilog_tree.specs.Free.{operators}
use Rattle.verilog_text.proofs.Alike as A
use Rattle.verilog_text.proofs.TokenPieces as Q
use Rattle.verilog_text.proofs.TokenPieces.{nothing, never_piece, s, k, n, i, l, given, ls, colon, declared, pt, pts}
use Rattle.verilog_tree.specs.Plain as P
use Rattle.verilog_tree.specs.Spells.{Derives}
use Rattle.verilog_tree.specs.Tokens.{Token}
use Rattle.verilog_tree.specs.declared.tokens.Mark.TheVariants.{Open, Close, OpenBracket, CloseBracket, OpenBrace, CloseBrace, Comma, Semicolon, Colon, Question, LessEquals, Equals, At}
use Rattle.verilog_text.specs.inner.Following.{rest}
use Rattle.verilog_text.specs.Places.{AtItem, Begin}

module _ (limit : Limit) where
  -- inside of an opening
  o : (r : ℕ) (F : ℕ → (List Token → Type 0) → List Token → Type 0) → ((q : ℕ) → Piece (F q)) → Piece (λ K. inside limit r (λ q. F q K))
  o r F f = Q.o limit r F f

  mutual
    full : (r : ℕ) (x : Y.Expr) → Piece (Y.expr limit r x)
    full r (Y.Name w) = n w
    full r (Y.Select w j) = joined _ _ (n w) (joined _ _ (s OpenBracket) (joined _ _ (i j) (s CloseBracket)))
    full r (Y.Range w h j) = joined _ _ (n w) (joined _ _ (s OpenBracket) (joined _ _ (i h) (joined _ _ (s Colon) (joined _ _ (i j) (s CloseBracket)))))
    full r (Y.Constant y) = l y
    full r (Y.Braces x xs) = joined _ _ (s OpenBrace) (o r _ (λ q. joined _ _ (full q x) (joined _ _ (es q xs) (s CloseBrace))))
    full r (Y.Parens x) = joined _ _ (s Open) (o r _ (λ q. joined _ _ (full q x) (s Close)))
    full r (Y.Unary u x) = joined _ _ (s Open) (o r _ (λ q. joined _ _ (s (unary_mark u)) (joined _ _ (full q x) (s Close))))
    full r (Y.Binary b x y) = joined _ _ (s Open) (o r _ (λ q. joined _ _ (full q x) (joined _ _ (s (binary_mark b)) (joined _ _ (full q y) (s Close)))))
    full r (Y.Choice c x y) = joined _ _ (s Open) (o r _ (λ q. joined _ _ (full q c) (joined _ _ (s Question) (joined _ _ (full q x) (joined _ _ (s Colon) (joined _ _ (full q y) (s Close)))))))

    es : (r : ℕ) (xs : Y.Exprs) → Piece (Y.exprs limit r xs)
    es r Y.NoExpr = nothing
    es r (Y.AndExpr x xs) = joined _ _ (s Comma) (joined _ _ (full r x) (es r xs))

  e : (y : Style) (r : ℕ) (x : Expr) → Piece (expr y limit r x)
  e Parenthesised r (Full x) = full r x
  e ByPrecedence r (Free x) = given (few limit (operators (T.expr_tree x)) ≡ true) _ (A.e limit r x)
  e Parenthesised r (Free x) = never_piece
  e ByPrecedence r (Full x) = never_piece

  mutual
    st : (style : Style) (r : ℕ) (x : Stmt) → Piece (stmt style limit r x)
    st style r (BeginEnd ss) = joined _ _ (k (codes "begin")) (o r _ (λ q. joined _ _ (sts style q ss) (k (codes "end"))))
    st style r (If c x) = joined _ _ (k (codes "if")) (o r _ (λ q. joined _ _ (s Open) (o q _ (λ p. joined _ _ (e style p c) (joined _ _ (s Close) (st style q x))))))
    st style r (IfElse c a b) = joined _ _ (k (codes "if")) (o r _ (λ q. joined _ _ (s Open) (o q _ (λ p. joined _ _ (e style p c) (joined _ _ (s Close) (joined _ _ (st style q a) (given (ends_in_if a ≡ false) _ (joined _ _ (k (codes "else")) (st style q b)))))))))
    st style r (Case x a as' d) = joined _ _ (k (codes "case")) (o r _ (λ q. joined _ _ (s Open) (o q _ (λ p. joined _ _ (e style p x) (joined _ _ (s Close) (joined _ _ (ar style q a) (joined _ _ (ars style q as') (joined _ _ (df style q d) (k (codes "endcase"))))))))))
    st style r (Assign w x) = joined _ _ (n w) (joined _ _ (s LessEquals) (joined _ _ (e style r x) (s Semicolon)))

    sts : (style : Style) (r : ℕ) (xs : Stmts) → Piece (stmts style limit r xs)
    sts style r NoStmt = nothing
    sts style r (AndStmt x xs) = joined _ _ (st style r x) (sts style r xs)

    ar : (style : Style) (r : ℕ) (a : Arm) → Piece (arm style limit r a)
    ar style r (ArmOf y ys x) = joined _ _ (l y) (joined _ _ (ls ys) (joined _ _ (s Colon) (st style r x)))

    ars : (style : Style) (r : ℕ) (as' : Arms) → Piece (arms style limit r as')
    ars style r NoArm = nothing
    ars style r (AndArm a as') = joined _ _ (ar style r a) (ars style r as')

    df : (style : Style) (r : ℕ) (d : Default) → Piece (default style limit r d)
    df style r NoDefault = nothing
    df style r (ItsDefault c x) = joined _ _ (k (codes "default")) (joined _ _ (colon c) (st style r x))

  it : (style : Style) (x : Item) → Piece (item style limit x)
  it style (Wires h w ws) = declared (codes "wire") h w ws
  it style (Regs h w ws) = declared (codes "reg") h w ws
  it style (Drives w x) = joined _ _ (k (codes "assign")) (joined _ _ (n w) (joined _ _ (s Equals) (joined _ _ (e style 0 x) (s Semicolon))))
  it style (Always c x) = joined _ _ (k (codes "always")) (joined _ _ (s At) (joined _ _ (s Open) (o 0 _ (λ q. joined _ _ (k (codes "posedge")) (joined _ _ (n c) (joined _ _ (s Close) (st style 0 x)))))))

  its : (style : Style) (is : List Item) → Piece (items style limit is)
  its style [] = nothing
  its style (x ∷ is) = joined _ _ (it style x) (its style is)

  -- a file, and then K
  abbrev file_then : Style → File → (List Token → Type 0) → List Token → Type 0
  file_then style f K = keyword (codes "module") (name f.name (sign Open (inside limit 0 (λ q. port f.port (ports f.ports (sign Close (sign Semicolon (items style limit f.items (keyword (codes "endmodule") K)))))))))

  fl : (style : Style) (f : File) → Piece (file_then style f)
  fl style f = joined _ _ (k (codes "module")) (joined _ _ (n f.name) (joined _ _ (s Open) (o 0 _ (λ q. joined _ _ (pt f.port) (joined _ _ (pts f.ports) (joined _ _ (s Close) (joined _ _ (s Semicolon) (joined _ _ (its style f.items) (k (codes "endmodule"))))))))))

  -- where the parser begins, what may follow is a file
  pub begins_file : (style : Style) (ts : List Token) (v : P.ModuleTree) → rest limit (AtItem (Begin style)) ts v ↔ Derives style limit ts v
  begins_file style ts v = (λ h. to h.0 h.1, λ h. (h.0, (fl style h.0).map no_token (λ us. (file_tree h.0 ≡ v) × no_token us) (λ us y. (h.2, y)) ts h.1))
    where
      to : (f : File) → file_then style f (λ us. (file_tree f ≡ v) × no_token us) ts → Derives style limit ts v
      to f h = let g : (x : file_tree f ≡ v) × file_then style f no_token ts = (fl style f).pull (file_tree f ≡ v) (λ x. no_token) ts h in (f, g.1, g.0)
