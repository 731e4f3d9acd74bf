-- A flat form, however its operators are counted, is a derivation by precedence with another limit of them, or none.
use Rattle.std.proofs.Common.{◌≡◌, ℕ, List, Option, Some, None, sym, ap, ◌∙◌, subst}
use Rattle.bist_text.proofs.Piece.{joined}
use Rattle.bist_text.proofs.Pieces.{same}
use Rattle.bist_text.specs.Machine.{Holds}
use Rattle.verilog_tree.specs.declared.tokens.Mark.{Mark}
use Rattle.verilog_tree.specs.declared.tokens.Mark.TheVariants.{Open, Close, OpenBracket, CloseBracket, OpenBrace, CloseBrace, Comma, Colon, Question}
use Rattle.verilog_tree.specs.Free as T
use Rattle.verilog_tree.specs.Pieces.{Limit, deeper, inside, sign, unary_mark, binary_mark}
use Rattle.verilog_tree.specs.Tokens.{Token}
use Rattle.verilog_text.specs.Flat as F
use Rattle.verilog_text.specs.Flat.{Count, one_more, in_parens, in_braces, behind}
use Rattle.verilog_text.proofs.Alike.{alike}
use Rattle.verilog_text.proofs.Grouping.{grouped}
use Rattle.verilog_text.proofs.Nesting.{nested, nested_is}
use Rattle.verilog_text.proofs.TokenPieces as Q
use Rattle.verilog_text.proofs.Uncounted as U

pub nested_tree : (x : F.Flat) → T.expr_tree (nested x) ≡ F.flat_tree x
nested_tree x = let n = nested_is x in sym (grouped (nested x) n.0) ∙ ap F.flat_tree n.1

-- of a value that is there, whichever it is
any : {A : Type 0} (w : Option A) (P : A → Type 0) (X : Type 0) → ((a : A) → P a → X) → Holds w P → X
any None P X f h = absurd h
any (Some a) P X f h = f a h

module _ (limit : Limit) (most : Option ℕ) where
  abbrev pub counted : Limit
  counted = record { openings = limit.openings; operators = most }

  pub entered : (d : ℕ) (F G : ℕ → List Token → Type 0) → ((e : ℕ) (r : List Token) → F e r → G e r) → (ts : List Token) → inside limit d F ts → inside counted d G ts
  entered d F G f ts h = within (deeper limit d) h
    where
      within : (o : Option ℕ) → Holds o (λ e. F e ts) → Holds o (λ e. G e ts)
      within None k = k
      within (Some e) k = f e ts k

  pub opened : (m : Mark) (d : ℕ) (F G : ℕ → List Token → Type 0) → ((e : ℕ) (r : List Token) → F e r → G e r) → (ts : List Token) → sign m (inside limit d F) ts → sign m (inside counted d G) ts
  opened m d F G f ts h = (Q.s m).map (inside limit d F) (inside counted d G) (entered d F G f) ts h

  -- behind an operator more
  one : (n : Count) (m : Mark) (P : Count → List Token → Type 0) (R : List Token → Type 0) → ((j : Count) (r : List Token) → P j r → R r) → (ts : List Token) → Holds (one_more limit n) (λ j. sign m (P j) ts) → sign m R ts
  one n m P R f ts h = any (one_more limit n) (λ j. sign m (P j) ts) (sign m R ts) (λ j. (Q.s m).map (P j) R (f j) ts) h

  mutual
    flat : (d : ℕ) (x : F.Flat) (n : Count) (K : Count → List Token → Type 0) (L : List Token → Type 0) → ((m : Count) (r : List Token) → K m r → L r) → (ts : List Token) → F.flat limit d x n K ts → U.flat counted d x L ts
    flat d (F.FlatOf x t) n K L f ts h = operand d x n (λ m. F.tail limit d t m K) (U.tail counted d t L) (λ m. tail d t m K L f) ts h

    tail : (d : ℕ) (t : F.Tail) (n : Count) (K : Count → List Token → Type 0) (L : List Token → Type 0) → ((m : Count) (r : List Token) → K m r → L r) → (ts : List Token) → F.tail limit d t n K ts → U.tail counted d t L ts
    tail d F.End n K L f ts h = f n ts h
    tail d (F.Link o x t) n K L f ts h = one n (binary_mark o) (λ m. F.operand limit d x m (λ j. F.tail limit d t j K)) (U.operand counted d x (U.tail counted d t L)) (λ m. operand d x m (λ j. F.tail limit d t j K) (U.tail counted d t L) (λ j. tail d t j K L f)) ts h
    tail d (F.Ask x y) n K L f ts h = one n Question (λ m. F.flat limit d x m (λ j. sign Colon (F.flat limit d y j K))) (U.flat counted d x (sign Colon (U.flat counted d y L))) (λ m. flat d x m (λ j. sign Colon (F.flat limit d y j K)) (sign Colon (U.flat counted d y L)) (λ j. (Q.s Colon).map (F.flat limit d y j K) (U.flat counted d y L) (flat d y j K L f))) ts h

    operand : (d : ℕ) (x : F.Operand) (n : Count) (K : Count → List Token → Type 0) (L : List Token → Type 0) → ((m : Count) (r : List Token) → K m r → L r) → (ts : List Token) → F.operand limit d x n K ts → U.operand counted d x L ts
    operand d (F.OperandOf None p) n K L f ts h = prim d p n K L f ts h
    operand d (F.OperandOf (Some u) p) n K L f ts h = one n (unary_mark u) (λ m. F.prim limit d p m K) (U.prim counted d p L) (λ m. prim d p m K L f) ts h

    prim : (d : ℕ) (p : F.Prim) (n : Count) (K : Count → List Token → Type 0) (L : List Token → Type 0) → ((m : Count) (r : List Token) → K m r → L r) → (ts : List Token) → F.prim limit d p n K ts → U.prim counted d p L ts
    prim d (F.Name w) n K L f ts h = (Q.n w).map (K n) L (f n) ts h
    prim d (F.Select w j) n K L f ts h = (joined _ _ (Q.n w) (joined _ _ (Q.s OpenBracket) (joined _ _ (Q.i j) (Q.s CloseBracket)))).map (K n) L (f n) ts h
    prim d (F.Range w i j) n K L f ts h = (joined _ _ (Q.n w) (joined _ _ (Q.s OpenBracket) (joined _ _ (Q.i i) (joined _ _ (Q.s Colon) (joined _ _ (Q.i j) (Q.s CloseBracket)))))).map (K n) L (f n) ts h
    prim d (F.Constant x) n K L f ts h = (Q.l x).map (K n) L (f n) ts h
    prim d (F.Braces x xs) n K L f ts h = opened OpenBrace d (λ e. F.flat limit e x (in_braces n) (λ m. F.flats limit e xs m (λ j. sign CloseBrace (K (behind n j))))) (λ e. U.flat counted e x (U.flats counted e xs (sign CloseBrace L))) (λ e. flat e x (in_braces n) (λ m. F.flats limit e xs m (λ j. sign CloseBrace (K (behind n j)))) (U.flats counted e xs (sign CloseBrace L)) (λ m. flats e xs m (λ j. sign CloseBrace (K (behind n j))) (sign CloseBrace L) (λ j. (Q.s CloseBrace).map (K (behind n j)) L (f (behind n j))))) ts h
    prim d (F.Parens x) n K L f ts h = opened Open d (λ e. F.flat limit e x (in_parens n) (λ m. sign Close (K (behind n m)))) (λ e. U.flat counted e x (sign Close L)) (λ e. flat e x (in_parens n) (λ m. sign Close (K (behind n m))) (sign Close L) (λ m. (Q.s Close).map (K (behind n m)) L (f (behind n m)))) ts h

    flats : (d : ℕ) (xs : F.Flats) (n : Count) (K : Count → List Token → Type 0) (L : List Token → Type 0) → ((m : Count) (r : List Token) → K m r → L r) → (ts : List Token) → F.flats limit d xs n K ts → U.flats counted d xs L ts
    flats d F.NoFlat n K L f ts h = f n ts h
    flats d (F.AndFlat x xs) n K L f ts h = (Q.s Comma).map (F.flat limit d x n (λ m. F.flats limit d xs m K)) (U.flat counted d x (U.flats counted d xs L)) (flat d x n (λ m. F.flats limit d xs m K) (U.flats counted d xs L) (λ m. flats d xs m K L f)) ts h

  pub freely : (d : ℕ) (x : F.Flat) (n : Count) (K : Count → List Token → Type 0) (L : List Token → Type 0) → ((m : Count) (r : List Token) → K m r → L r) → (ts : List Token) → F.flat limit d x n K ts → T.expr counted d (nested x) L ts
  freely d x n K L f ts h = let k = nested_is x in (alike counted d (nested x) k.0 L L (λ us. same) ts).1 (subst (λ (z : F.Flat). U.flat counted d z L ts) (sym k.1) (flat d x n K L f ts h))
