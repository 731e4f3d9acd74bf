-- The ten rules and the flat form derive the same tokens.
use Rattle.std.proofs.Common.{◌≡◌, ℕ, zero, suc, List, Option, Some, None, ◌↔◌}
use Rattle.bist_text.proofs.Piece.{Piece, joined}
use Rattle.bist_text.proofs.Pieces.{also, holds_iff}
use Rattle.bist_text.specs.Machine.{Holds}
use Rattle.verilog_tree.specs.Pieces.{Limit, deeper, sign, binary_mark}
use Rattle.verilog_tree.specs.Tokens.{Token}
use Rattle.verilog_tree.specs.declared.tokens.Mark.TheVariants.{Open, Close, OpenBracket, CloseBracket, OpenBrace, CloseBrace, Comma, Colon, Question}
use Rattle.verilog_tree.specs.Free as T
use Rattle.verilog_text.specs.Flat as F
use Rattle.verilog_text.proofs.Uncounted as U
use Rattle.verilog_text.proofs.Flattened.{flattened, head, behind, links_behind, flat_prim, all_flattened, Fits, FitsRule, FitsLinks, FitsPrim, FitsAll}
use Rattle.verilog_text.proofs.TokenPieces.{nothing, never_piece, s, n, i, l, o, u, given, on, shown}

-- a fact of what stands inside of an opening
within : (w : Option ℕ) (P : ℕ → Type 0) (X : Type 0) → ((c : ℕ) → P c → X) → Holds w P → X
within None P X f h = absurd h
within (Some c) P X f h = f c h

module _ (limit : Limit) where
  mutual
    pub e : (d : ℕ) (x : T.Expr) → Piece (T.expr limit d x)
    e d (T.Simple x) = r d T.lor x
    e d (T.Choice c x y) = joined _ _ (r d T.lor c) (joined _ _ (s Question) (joined _ _ (e d x) (joined _ _ (s Colon) (e d y))))

    r : (d k : ℕ) (x : T.Rule) → Piece (T.rule limit d k x)
    r d (suc k) (T.Chain x xs) = joined _ _ (r d k x) (ls d k xs)
    r d zero (T.Operand v p) = joined _ _ (u v) (q d p)
    r d zero (T.Chain x xs) = never_piece
    r d (suc k) (T.Operand v p) = never_piece

    ls : (d k : ℕ) (xs : T.Links) → Piece (T.links limit d k xs)
    ls d k T.NoLink = nothing
    ls d k (T.AndLink b x xs) = given (T.height b ≡ suc k) _ (joined _ _ (s (binary_mark b)) (joined _ _ (r d k x) (ls d k xs)))

    q : (d : ℕ) (p : T.Prim) → Piece (T.prim limit d p)
    q d (T.Name w) = n w
    q d (T.Select w j) = joined _ _ (n w) (joined _ _ (s OpenBracket) (joined _ _ (i j) (s CloseBracket)))
    q d (T.Range w h j) = joined _ _ (n w) (joined _ _ (s OpenBracket) (joined _ _ (i h) (joined _ _ (s Colon) (joined _ _ (i j) (s CloseBracket)))))
    q d (T.Constant y) = l y
    q d (T.Braces x xs) = joined _ _ (s OpenBrace) (o limit d _ (λ f. joined _ _ (e f x) (joined _ _ (es f xs) (s CloseBrace))))
    q d (T.Parens x) = joined _ _ (s Open) (o limit d _ (λ f. joined _ _ (e f x) (s Close)))

    es : (d : ℕ) (xs : T.Exprs) → Piece (T.exprs limit d xs)
    es d T.NoExpr = nothing
    es d (T.AndExpr x xs) = joined _ _ (s Comma) (joined _ _ (e d x) (es d xs))

  -- what derives tokens keeps the rules
  mutual
    pub fits : (d : ℕ) (x : T.Expr) (K : List Token → Type 0) (ts : List Token) → T.expr limit d x K ts → Fits x
    fits d (T.Simple x) K ts h = rule_fits d T.lor x K ts h
    fits d (T.Choice c x y) K ts h = (rule_fits d T.lor c _ ts h, shown (joined _ _ (r d T.lor c) (s Question)) (Fits x) _ (fits d x _) ts h, shown (joined _ _ (joined _ _ (joined _ _ (r d T.lor c) (s Question)) (e d x)) (s Colon)) (Fits y) _ (fits d y K) ts h)

    rule_fits : (d k : ℕ) (x : T.Rule) (K : List Token → Type 0) (ts : List Token) → T.rule limit d k x K ts → FitsRule k x
    rule_fits d (suc k) (T.Chain x xs) K ts h = (rule_fits d k x _ ts h, shown (r d k x) (FitsLinks k xs) _ (links_fit d k xs K) ts h)
    rule_fits d zero (T.Operand v p) K ts h = shown (u v) (FitsPrim p) _ (prim_fits d p K) ts h
    rule_fits d zero (T.Chain x xs) K ts h = h
    rule_fits d (suc k) (T.Operand v p) K ts h = h

    links_fit : (d k : ℕ) (xs : T.Links) (K : List Token → Type 0) (ts : List Token) → T.links limit d k xs K ts → FitsLinks k xs
    links_fit d k T.NoLink K ts h = tt
    links_fit d k (T.AndLink b x xs) K ts h = (h.0, shown (s (binary_mark b)) (FitsRule k x) _ (rule_fits d k x _) ts h.1, shown (joined _ _ (s (binary_mark b)) (r d k x)) (FitsLinks k xs) _ (links_fit d k xs K) ts h.1)

    prim_fits : (d : ℕ) (p : T.Prim) (K : List Token → Type 0) (ts : List Token) → T.prim limit d p K ts → FitsPrim p
    prim_fits d (T.Name w) K ts h = tt
    prim_fits d (T.Select w j) K ts h = tt
    prim_fits d (T.Range w g j) K ts h = tt
    prim_fits d (T.Constant y) K ts h = tt
    prim_fits d (T.Braces x xs) K ts h = (shown (s OpenBrace) (Fits x) _ (λ us. within (deeper limit d) _ (Fits x) (λ f. fits f x _ us)) ts h, shown (s OpenBrace) (FitsAll xs) _ (λ us. within (deeper limit d) _ (FitsAll xs) (λ f. shown (e f x) (FitsAll xs) _ (all_fit f xs (sign CloseBrace K)) us)) ts h)
    prim_fits d (T.Parens x) K ts h = shown (s Open) (Fits x) _ (λ us. within (deeper limit d) _ (Fits x) (λ f. fits f x _ us)) ts h

    all_fit : (d : ℕ) (xs : T.Exprs) (K : List Token → Type 0) (ts : List Token) → T.exprs limit d xs K ts → FitsAll xs
    all_fit d T.NoExpr K ts h = tt
    all_fit d (T.AndExpr x xs) K ts h = (shown (s Comma) (Fits x) _ (fits d x _) ts h, shown (joined _ _ (s Comma) (e d x)) (FitsAll xs) _ (all_fit d xs K) ts h)

  -- the same tokens
  abbrev Same : (List Token → Type 0) → (List Token → Type 0) → Type 0
  Same K L = (ts : List Token) → K ts ↔ L ts

  mutual
    pub alike : (d : ℕ) (x : T.Expr) → Fits x → (K L : List Token → Type 0) → Same K L → Same (T.expr limit d x K) (U.flat limit d (flattened x) L)
    alike d (T.Simple x) f K L g = rule_alike d T.lor x f K F.End L g
    alike d (T.Choice c x y) f K L g = rule_alike d T.lor c f.0 _ (F.Ask (flattened x) (flattened y)) L (on (s Question) _ _ (alike d x f.1 _ _ (on (s Colon) _ _ (alike d y f.2 K L g))))

    rule_alike : (d k : ℕ) (x : T.Rule) → FitsRule k x → (K : List Token → Type 0) (t : F.Tail) (L : List Token → Type 0) → Same K (U.tail limit d t L) → Same (T.rule limit d k x K) (U.operand limit d (head x) (U.tail limit d (behind x t) L))
    rule_alike d (suc k) (T.Chain x xs) f K t L g = rule_alike d k x f.0 _ (links_behind xs t) L (links_alike d k xs f.1 K t L g)
    rule_alike d zero (T.Operand v p) f K t L g = on (u v) _ _ (prim_alike d p f K (U.tail limit d t L) g)
    rule_alike d zero (T.Chain x xs) f K t L g = absurd f
    rule_alike d (suc k) (T.Operand v p) f K t L g = absurd f

    links_alike : (d k : ℕ) (xs : T.Links) → FitsLinks k xs → (K : List Token → Type 0) (t : F.Tail) (L : List Token → Type 0) → Same K (U.tail limit d t L) → Same (T.links limit d k xs K) (U.tail limit d (links_behind xs t) L)
    links_alike d k T.NoLink f K t L g = g
    links_alike d k (T.AndLink b x xs) f K t L g = λ ts. also (λ h. h.1, λ h. (f.0, h)) (on (s (binary_mark b)) _ _ (rule_alike d k x f.1 _ (links_behind xs t) L (links_alike d k xs f.2 K t L g)) ts)

    prim_alike : (d : ℕ) (p : T.Prim) → FitsPrim p → (K L : List Token → Type 0) → Same K L → Same (T.prim limit d p K) (U.prim limit d (flat_prim p) L)
    prim_alike d (T.Name w) f K L g = on (q d (T.Name w)) K L g
    prim_alike d (T.Select w j) f K L g = on (q d (T.Select w j)) K L g
    prim_alike d (T.Range w h j) f K L g = on (q d (T.Range w h j)) K L g
    prim_alike d (T.Constant y) f K L g = on (q d (T.Constant y)) K L g
    prim_alike d (T.Braces x xs) f K L g = on (s OpenBrace) _ _ (λ us. holds_iff (deeper limit d) (λ c. T.expr limit c x (T.exprs limit c xs (sign CloseBrace K)) us) (λ c. U.flat limit c (flattened x) (U.flats limit c (all_flattened xs) (sign CloseBrace L)) us) (λ c. alike c x f.0 _ _ (all_alike c xs f.1 _ _ (on (s CloseBrace) K L g)) us))
    prim_alike d (T.Parens x) f K L g = on (s Open) _ _ (λ us. holds_iff (deeper limit d) (λ c. T.expr limit c x (sign Close K) us) (λ c. U.flat limit c (flattened x) (sign Close L) us) (λ c. alike c x f _ _ (on (s Close) K L g) us))

    all_alike : (d : ℕ) (xs : T.Exprs) → FitsAll xs → (K L : List Token → Type 0) → Same K L → Same (T.exprs limit d xs K) (U.flats limit d (all_flattened xs) L)
    all_alike d T.NoExpr f K L g = g
    all_alike d (T.AndExpr x xs) f K L g = on (s Comma) _ _ (alike d x f.0 _ _ (all_alike d xs f.1 K L g))
