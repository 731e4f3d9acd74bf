-- Operators that are counted one after another are those of the tree.
use Rattle.std.proofs.Common.{◌≡◌, ℕ, ◌+◌, ◌≤◌, Bool, true, false, nat_le, List, [], ◌∷◌, Option, Some, None, refl, sym, ◌↔◌, ap, ◌∙◌, arith, if◌then◌else◌}
use Rattle.std.proofs.lemmas.Bool.{le-leb, leb-true}
use Rattle.bist_text.proofs.Piece.{Piece}
use Rattle.bist_text.specs.Machine.{Holds}
use Rattle.verilog_tree.specs.Plain as P
use Rattle.verilog_tree.specs.Tokens.{Token}
use Rattle.verilog_tree.specs.declared.tokens.Mark.TheVariants.{Open, Close, OpenBrace, CloseBrace, Comma, Colon, Question}
use Rattle.verilog_tree.specs.declared.tree.BinOp.{BinOp}
use Rattle.verilog_tree.specs.declared.tree.UnOp.{UnOp}
use Rattle.verilog_tree.specs.Pieces.{Limit, deeper, few_in, few, sign, inside, unary_mark, binary_mark}
use Rattle.verilog_tree.specs.Free.{height, operators, all_operators}
use Rattle.verilog_text.specs.Flat as F
use Rattle.verilog_text.specs.Flat.{Count, Together, Left, joined as combined, settle, settle_all, linked}
use Rattle.verilog_text.proofs.Uncounted as U
use Rattle.verilog_text.proofs.TokenPieces.{s, n, i, l}

-- ---- how many operators stand behind a form that n stand before

abbrev mutual
  pub past : F.Flat → ℕ → ℕ
  past (F.FlatOf x t) n = past_tail t (past_operand x n)

  pub past_tail : F.Tail → ℕ → ℕ
  past_tail F.End n = n
  past_tail (F.Link b x t) n = past_tail t (past_operand x (n + 1))
  past_tail (F.Ask x y) n = past y (past x (n + 1))

  pub past_operand : F.Operand → ℕ → ℕ
  past_operand (F.OperandOf None p) n = past_prim p n
  past_operand (F.OperandOf (Some u) p) n = past_prim p (n + 1)

  pub past_prim : F.Prim → ℕ → ℕ
  past_prim (F.Name w) n = n
  past_prim (F.Select w i) n = n
  past_prim (F.Range w h l) n = n
  past_prim (F.Constant x) n = n
  past_prim (F.Braces x xs) n = past_all xs (past x n)
  past_prim (F.Parens x) n = past x n

  pub past_all : F.Flats → ℕ → ℕ
  past_all F.NoFlat n = n
  past_all (F.AndFlat x xs) n = past_all xs (past x n)

mutual
  more : (x : F.Flat) (n : ℕ) → n ≤ past x n
  more (F.FlatOf x t) n = let a = more_operand x n in let b = more_tail t (past_operand x n) in omega arith

  more_tail : (t : F.Tail) (n : ℕ) → n ≤ past_tail t n
  more_tail F.End n = omega arith
  more_tail (F.Link b x t) n = let a = more_operand x (n + 1) in let c = more_tail t (past_operand x (n + 1)) in omega arith
  more_tail (F.Ask x y) n = let a = more x (n + 1) in let b = more y (past x (n + 1)) in omega arith

  more_operand : (x : F.Operand) (n : ℕ) → n ≤ past_operand x n
  more_operand (F.OperandOf None p) n = more_prim p n
  more_operand (F.OperandOf (Some u) p) n = let a = more_prim p (n + 1) in omega arith

  more_prim : (p : F.Prim) (n : ℕ) → n ≤ past_prim p n
  more_prim (F.Name w) n = omega arith
  more_prim (F.Select w i) n = omega arith
  more_prim (F.Range w h l) n = omega arith
  more_prim (F.Constant x) n = omega arith
  more_prim (F.Braces x xs) n = let a = more x n in let b = more_all xs (past x n) in omega arith
  more_prim (F.Parens x) n = more x n

  more_all : (xs : F.Flats) (n : ℕ) → n ≤ past_all xs n
  more_all F.NoFlat n = omega arith
  more_all (F.AndFlat x xs) n = let a = more x n in let b = more_all xs (past x n) in omega arith

-- ---- these are the operators of the tree

abbrev waiting : List Left → ℕ
waiting [] = 0
waiting (w ∷ ws) = operators w.operand + waiting ws + 1

abbrev marks : Option UnOp → ℕ
marks None = 0
marks (Some u) = 1

abbrev count : F.Waiting → ℕ
count w = operators w.last + waiting w.lefts

settle_count : (h : ℕ) (ws : List Left) (e : P.Expression) → count (settle h ws e) ≡ operators e + waiting ws
settle_count h [] e = refl
settle_count h (w ∷ ws) e = go (nat_le (height w.operator) h) (settle_count h ws (combined w e))
  where
    go : (b : Bool) → count (settle h ws (combined w e)) ≡ operators (combined w e) + waiting ws → count (if b then settle h ws (combined w e) else record { lefts = w ∷ ws; last = e }) ≡ operators e + waiting (w ∷ ws)
    go true k = k ∙ (omega arith)
    go false k = refl

settle_all_count : (ws : List Left) (e : P.Expression) → operators (settle_all ws e) ≡ operators e + waiting ws
settle_all_count [] e = omega arith
settle_all_count (w ∷ ws) e = settle_all_count ws (combined w e) ∙ (omega arith)

linked_count : (b : BinOp) (ws : List Left) (e : P.Expression) → waiting (linked b ws e) ≡ operators e + waiting ws + 1
linked_count b ws e = let k = settle_count (height b) ws e in ap (λ n. n + 1) k

mutual
  pub counts : (x : F.Flat) (n : ℕ) → past x n ≡ n + operators (F.flat_tree x)
  counts (F.FlatOf x t) n = let a = counts_operand x n in counts_tail t [] (F.operand_tree x) n (past_operand x n) (omega arith)

  counts_tail : (t : F.Tail) (ws : List Left) (e : P.Expression) (n m : ℕ) → m ≡ n + operators e + waiting ws → past_tail t m ≡ n + operators (F.tail_tree ws e t)
  counts_tail F.End ws e n m h = let k = settle_all_count ws e in omega arith
  counts_tail (F.Link b x t) ws e n m h = let a = counts_operand x (m + 1) in let k = linked_count b ws e in counts_tail t (linked b ws e) (F.operand_tree x) n (past_operand x (m + 1)) (omega arith)
  counts_tail (F.Ask x y) ws e n m h = let k = settle_all_count ws e in let a = counts x (m + 1) in let b = counts y (past x (m + 1)) in omega arith

  counts_operand : (x : F.Operand) (n : ℕ) → past_operand x n ≡ n + operators (F.operand_tree x)
  counts_operand (F.OperandOf None p) n = counts_prim p n
  counts_operand (F.OperandOf (Some u) p) n = let a = counts_prim p (n + 1) in omega arith

  counts_prim : (p : F.Prim) (n : ℕ) → past_prim p n ≡ n + operators (F.prim_tree p)
  counts_prim (F.Name w) n = omega arith
  counts_prim (F.Select w i) n = omega arith
  counts_prim (F.Range w h l) n = omega arith
  counts_prim (F.Constant x) n = omega arith
  counts_prim (F.Braces x xs) n = let a = counts x n in let b = counts_all xs (past x n) in omega arith
  counts_prim (F.Parens x) n = counts x n

  counts_all : (xs : F.Flats) (n : ℕ) → past_all xs n ≡ n + all_operators (F.flats_tree xs)
  counts_all F.NoFlat n = omega arith
  counts_all (F.AndFlat x xs) n = let a = counts x n in let b = counts_all xs (past x n) in omega arith

-- ---- where so many may be

module _ (limit : Limit) where
  pub none_is_few : few limit 0 ≡ true
  none_is_few = go limit.operators
    where
      go : (w : Option ℕ) → few_in w 0 ≡ true
      go None = refl
      go (Some most) = le-leb 0 most (omega arith)

  fewer : (m n : ℕ) → m ≤ n → few limit n ≡ true → few limit m ≡ true
  fewer m n h = go limit.operators
    where
      go : (w : Option ℕ) → few_in w n ≡ true → few_in w m ≡ true
      go None e = refl
      go (Some most) e = le-leb m most (let k = leb-true n most e in omega arith)

  -- so many may be, and what L says
  abbrev Few : ℕ → (List Token → Type 0) → List Token → Type 0
  Few n L ts = (few limit n ≡ true) × L ts

  abbrev Same : (List Token → Type 0) → (List Token → Type 0) → Type 0
  Same K L = (ts : List Token) → K ts ↔ L ts

  -- a piece before it
  before : (F : (List Token → Type 0) → List Token → Type 0) → Piece F → (b : ℕ) (K L : List Token → Type 0) → Same K (Few b L) → Same (F K) (Few b (F L))
  before F f b K L g ts = (λ h. let p : (x : few limit b ≡ true) × F L ts = f.pull (few limit b ≡ true) (λ x. L) ts (f.map K (λ r. (x : few limit b ≡ true) × L r) (λ r k. (g r).0 k) ts h) in (p.0, p.1), λ h. f.map L K (λ r k. (g r).1 (h.0, k)) ts h.1)

  -- one counted form behind another
  behind : (A : (Count → List Token → Type 0) → List Token → Type 0) (F : (List Token → Type 0) → List Token → Type 0) → Piece F → (a b : ℕ) → a ≤ b → (B : Count → List Token → Type 0) (L : List Token → Type 0) → Same (A B) (Few a (F (B (Together a)))) → (few limit a ≡ true → Same (B (Together a)) (Few b L)) → Same (A B) (Few b (F L))
  behind A F f a b m B L g k ts = (
    λ h. let p = (g ts).0 h in (before F f b (B (Together a)) L (k p.0) ts).0 p.1,
    λ h. let e = fewer a b m h.0 in (g ts).1 (e, (before F f b (B (Together a)) L (k e) ts).1 h),
  )

  -- behind one operator more
  one : (n b : ℕ) → n + 1 ≤ b → (K : Count → List Token → Type 0) (L : List Token → Type 0) → (few limit (n + 1) ≡ true → Same (K (Together (n + 1))) (Few b L)) → Same (F.counted limit (Together n) K) (Few b L)
  one n b m K L g ts = go (few limit (n + 1)) refl
    where
      go : (t : Bool) → few limit (n + 1) ≡ t → Holds (if t then Some (Together (n + 1)) else None) (λ j. K j ts) ↔ Few b L ts
      go true e = g e ts
      go false e = (λ h. absurd h, λ h. let k : true ≡ false = sym (fewer (n + 1) b m h.0) ∙ e in cc)

  -- nothing between
  here : (n : ℕ) (K : List Token → Type 0) → few limit n ≡ true → Same K (Few n K)
  here n K e ts = (λ h. (e, h), λ h. h.1)

  -- inside of an opening
  opened : (z : ℕ) (w : Option ℕ) (A B : ℕ → List Token → Type 0) → ((c : ℕ) → Same (A c) (Few z (B c))) → (us : List Token) → Holds w (λ c. A c us) ↔ ((x : few limit z ≡ true) × Holds w (λ c. B c us))
  opened z None A B g us = (λ h. absurd h, λ h. h.1)
  opened z (Some c) A B g us = g c us

  mutual
    pub counted_flat : (d : ℕ) (x : F.Flat) (n : ℕ) → few limit n ≡ true → (K : Count → List Token → Type 0) → Same (F.flat limit d x (Together n) K) (Few (past x n) (U.flat limit d x (K (Together (past x n)))))
    counted_flat d (F.FlatOf x t) n e K = behind (F.operand limit d x (Together n)) (U.operand limit d x) (U.first limit d x) (past_operand x n) (past (F.FlatOf x t) n) (more_tail t (past_operand x n)) (λ m. F.tail limit d t m K) (U.tail limit d t (K (Together (past (F.FlatOf x t) n)))) (counted_operand d x n e (λ m. F.tail limit d t m K)) (λ f. counted_tail d t (past_operand x n) f K)

    counted_tail : (d : ℕ) (t : F.Tail) (n : ℕ) → few limit n ≡ true → (K : Count → List Token → Type 0) → Same (F.tail limit d t (Together n) K) (Few (past_tail t n) (U.tail limit d t (K (Together (past_tail t n)))))
    counted_tail d F.End n e K = here n (K (Together n)) e
    counted_tail d (F.Link b x t) n e K =
        let a = past_operand x (n + 1) in
        let z = past_tail (F.Link b x t) n in
        one n z (let p = more_operand x (n + 1) in let q = more_tail t a in omega arith) (λ m. sign (binary_mark b) (F.operand limit d x m (λ j. F.tail limit d t j K))) (U.tail limit d (F.Link b x t) (K (Together z))) (λ f. before (sign (binary_mark b)) (s (binary_mark b)) z (F.operand limit d x (Together (n + 1)) (λ j. F.tail limit d t j K)) (U.operand limit d x (U.tail limit d t (K (Together z)))) (behind (F.operand limit d x (Together (n + 1))) (U.operand limit d x) (U.first limit d x) a z (more_tail t a) (λ j. F.tail limit d t j K) (U.tail limit d t (K (Together z))) (counted_operand d x (n + 1) f (λ j. F.tail limit d t j K)) (λ g. counted_tail d t a g K)))
    counted_tail d (F.Ask x y) n e K =
        let a = past x (n + 1) in
        let z = past_tail (F.Ask x y) n in
        one n z (let p = more x (n + 1) in let q = more y a in omega arith) (λ m. sign Question (F.flat limit d x m (λ j. sign Colon (F.flat limit d y j K)))) (U.tail limit d (F.Ask x y) (K (Together z))) (λ f. before (sign Question) (s Question) z (F.flat limit d x (Together (n + 1)) (λ j. sign Colon (F.flat limit d y j K))) (U.flat limit d x (sign Colon (U.flat limit d y (K (Together z))))) (behind (F.flat limit d x (Together (n + 1))) (U.flat limit d x) (U.whole limit d x) a z (more y a) (λ j. sign Colon (F.flat limit d y j K)) (sign Colon (U.flat limit d y (K (Together z)))) (counted_flat d x (n + 1) f (λ j. sign Colon (F.flat limit d y j K))) (λ g. before (sign Colon) (s Colon) z (F.flat limit d y (Together a) K) (U.flat limit d y (K (Together z))) (counted_flat d y a g K))))

    counted_operand : (d : ℕ) (x : F.Operand) (n : ℕ) → few limit n ≡ true → (K : Count → List Token → Type 0) → Same (F.operand limit d x (Together n) K) (Few (past_operand x n) (U.operand limit d x (K (Together (past_operand x n)))))
    counted_operand d (F.OperandOf None p) n e K = counted_prim d p n e K
    counted_operand d (F.OperandOf (Some u) p) n e K = let z = past_prim p (n + 1) in one n z (more_prim p (n + 1)) (λ m. sign (unary_mark u) (F.prim limit d p m K)) (sign (unary_mark u) (U.prim limit d p (K (Together z)))) (λ f. before (sign (unary_mark u)) (s (unary_mark u)) z (F.prim limit d p (Together (n + 1)) K) (U.prim limit d p (K (Together z))) (counted_prim d p (n + 1) f K))

    counted_prim : (d : ℕ) (p : F.Prim) (n : ℕ) → few limit n ≡ true → (K : Count → List Token → Type 0) → Same (F.prim limit d p (Together n) K) (Few (past_prim p n) (U.prim limit d p (K (Together (past_prim p n)))))
    counted_prim d (F.Name w) n e K = here n (U.prim limit d (F.Name w) (K (Together n))) e
    counted_prim d (F.Select w i) n e K = here n (U.prim limit d (F.Select w i) (K (Together n))) e
    counted_prim d (F.Range w h i) n e K = here n (U.prim limit d (F.Range w h i) (K (Together n))) e
    counted_prim d (F.Constant x) n e K = here n (U.prim limit d (F.Constant x) (K (Together n))) e
    counted_prim d (F.Braces x xs) n e K =
        let z = past_prim (F.Braces x xs) n in
        before (sign OpenBrace) (s OpenBrace) z (inside limit d (λ c. F.flat limit c x (Together n) (λ m. F.flats limit c xs m (λ j. sign CloseBrace (K j))))) (inside limit d (λ c. U.flat limit c x (U.flats limit c xs (sign CloseBrace (K (Together z)))))) (λ us. opened z (deeper limit d) (λ c. F.flat limit c x (Together n) (λ m. F.flats limit c xs m (λ j. sign CloseBrace (K j)))) (λ c. U.flat limit c x (U.flats limit c xs (sign CloseBrace (K (Together z))))) (λ c. behind (F.flat limit c x (Together n)) (U.flat limit c x) (U.whole limit c x) (past x n) z (more_all xs (past x n)) (λ m. F.flats limit c xs m (λ j. sign CloseBrace (K j))) (U.flats limit c xs (sign CloseBrace (K (Together z)))) (counted_flat c x n e (λ m. F.flats limit c xs m (λ j. sign CloseBrace (K j)))) (λ f. counted_all c xs (past x n) f (λ j. sign CloseBrace (K j)))) us)
    counted_prim d (F.Parens x) n e K =
        let z = past x n in
        before (sign Open) (s Open) z (inside limit d (λ c. F.flat limit c x (Together n) (λ m. sign Close (K m)))) (inside limit d (λ c. U.flat limit c x (sign Close (K (Together z))))) (λ us. opened z (deeper limit d) (λ c. F.flat limit c x (Together n) (λ m. sign Close (K m))) (λ c. U.flat limit c x (sign Close (K (Together z)))) (λ c. counted_flat c x n e (λ m. sign Close (K m))) us)

    counted_all : (d : ℕ) (xs : F.Flats) (n : ℕ) → few limit n ≡ true → (K : Count → List Token → Type 0) → Same (F.flats limit d xs (Together n) K) (Few (past_all xs n) (U.flats limit d xs (K (Together (past_all xs n)))))
    counted_all d F.NoFlat n e K = here n (K (Together n)) e
    counted_all d (F.AndFlat x xs) n e K =
        let z = past_all xs (past x n) in
        before (sign Comma) (s Comma) z (F.flat limit d x (Together n) (λ m. F.flats limit d xs m K)) (U.flat limit d x (U.flats limit d xs (K (Together z)))) (behind (F.flat limit d x (Together n)) (U.flat limit d x) (U.whole limit d x) (past x n) z (more_all xs (past x n)) (λ m. F.flats limit d xs m K) (U.flats limit d xs (K (Together z))) (counted_flat d x n e (λ m. F.flats limit d xs m K)) (λ f. counted_all d xs (past x n) f K))
