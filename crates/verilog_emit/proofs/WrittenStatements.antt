-- What is printed of a statement is derived, within the room that it fits in.
use Rattle.std.proofs.Common.{◌≡◌, ℕ, ◌+◌, ◌-◌, ◌<◌, ◌&&◌, nat_lt, true, false, List, [], ◌∷◌, ◌++◌, refl, append_assoc, append-nil, codes, arith}
use Rattle.std.proofs.lemmas.Bool.{ltb-true}
use Rattle.bist_bits.specs.Vector.{Vector}
use Rattle.verilog_tree.specs.declared.tokens.Mark.TheVariants.{Open, Close, Comma, Semicolon, Colon, LessEquals}
use Rattle.verilog_tree.specs.Fits.{expression_fits, statement_fits, statements_fit, arms_fit}
use Rattle.verilog_tree.specs.Formed.{is_literal, has_label, labels_formed, expression_formed, statement_formed, statements_formed, arms_formed}
use Rattle.verilog_tree.specs.Parenthesised.{expr}
use Rattle.verilog_tree.specs.Grammar.{Parenthesised, sign, keyword, name, literal, literals, inside, BeginEnd, Stmts, AndStmt, stmt, stmts, arm, arms}
use Rattle.verilog_tree.specs.Plain as P
use Rattle.verilog_tree.specs.Tokens.{Token}
use Rattle.verilog_tree.specs.Words.{is_name}
use Rattle.verilog_emit.specs.Printed.{margin, line, expression_text, literal_text, labels_text, statement_text, statements_text, arms_text}
use Rattle.verilog_emit.proofs.Derivations.{derive, derive_arm, derive_stmt, derive_stmts, derive_arms, arm_formed, no_arm}
use Rattle.verilog_emit.proofs.Numerals.{constant}
use Rattle.verilog_emit.proofs.Pieces.{Spelt, both, grouped, blank, line_feed, margined, is_apart, reserved, named, opened}
use Rattle.verilog_emit.proofs.WrittenExpressions.{L, plain, expression_spelt}

-- ---- how the bytes are grouped

set_bytes : (m n x r : List ℕ) → (m ++ (n ++ codes " <= " ++ x ++ codes ";") ++ (10 ∷ [])) ++ r ≡ m ++ (n ++ (codes " <= " ++ (x ++ (codes ";" ++ (10 ∷ r)))))
set_bytes m n x r = simp append_assoc

arm_bytes : (m l ls b r : List ℕ) → ((m ++ (l ++ ls ++ codes ": begin") ++ (10 ∷ [])) ++ b ++ (m ++ codes "end" ++ (10 ∷ []))) ++ r ≡ m ++ (l ++ (ls ++ (codes ": " ++ (codes "begin" ++ (10 ∷ (b ++ (m ++ (codes "end" ++ (10 ∷ r)))))))))
arm_bytes m l ls b r = simp append_assoc

label_bytes : (x xs r : List ℕ) → (codes ", " ++ x ++ xs) ++ r ≡ codes ", " ++ (x ++ (xs ++ r))
label_bytes x xs r = simp append_assoc

-- ---- begin and end

-- a block that has e open round it, and what stands behind its begin
pub block : (e j : ℕ) (ss : Stmts) (K : List Token → Type 0) (b : List ℕ) → e + 1 + j ≡ 64 → Spelt (stmts Parenthesised L (e + 1) ss (keyword (codes "end") K)) b → Spelt (stmt Parenthesised L e (BeginEnd ss) K) (codes "begin" ++ (10 ∷ b))
block e j ss K b s h =
    reserved (codes "begin") (inside L e (λ f. stmts Parenthesised L f ss (keyword (codes "end") K))) (10 ∷ b) refl refl
    (opened e j (λ f. stmts Parenthesised L f ss (keyword (codes "end") K)) (10 ∷ b) s (line_feed (stmts Parenthesised L (e + 1) ss (keyword (codes "end") K)) b h))

-- the end of a block, on a line of its own
pub ended : (depth : ℕ) (K : List Token → Type 0) (r : List ℕ) → Spelt K r → Spelt (keyword (codes "end") K) (margin depth ++ (codes "end" ++ (10 ∷ r)))
ended depth K r h = margined depth (keyword (codes "end") K) (codes "end" ++ (10 ∷ r)) (reserved (codes "end") K (10 ∷ r) refl refl (line_feed K r h))

-- ---- arms

labels_apart : (xs : List Vector) (r : List ℕ) → is_apart r ≡ true → is_apart (labels_text false xs ++ r) ≡ true
labels_apart [] r p = p
labels_apart (x ∷ xs) r p = refl

labels_spelt : (xs : List Vector) (K : List Token → Type 0) (r : List ℕ) → labels_formed xs ≡ true → is_apart r ≡ true → Spelt K r → Spelt (literals xs K) (labels_text false xs ++ r)
labels_spelt [] K r m p h = h
labels_spelt (x ∷ xs) K r m p h =
    let n : (is_literal x ≡ true) × (labels_formed xs ≡ true) = both (is_literal x) (labels_formed xs) m in
    let b : List ℕ = labels_text false xs ++ r in
    grouped (literals (x ∷ xs) K) (labels_text false (x ∷ xs) ++ r) (codes ", " ++ (literal_text x ++ b)) (label_bytes (literal_text x) (labels_text false xs) r)
    (plain Comma (literal x (literals xs K)) (codes " " ++ (literal_text x ++ b)) (λ c. refl)
    (blank (literal x (literals xs K)) (literal_text x ++ b)
    (constant x (literals xs K) b n.0 (labels_apart xs r p) (labels_spelt xs K r n.1 p h))))

-- an arm, whose body's text is b
arm_spelt : (depth e j : ℕ) (ls : List Vector) (ss : Stmts) (b : List ℕ) (K : List Token → Type 0) (r : List ℕ) → e + 1 + j ≡ 64 → has_label ls ≡ true → labels_formed ls ≡ true
    → Spelt (stmts Parenthesised L (e + 1) ss (keyword (codes "end") K)) (b ++ (margin depth ++ (codes "end" ++ (10 ∷ r))))
    → Spelt (arm Parenthesised L e (derive_arm ls (BeginEnd ss)) K) ((line depth (labels_text true ls ++ codes ": begin") ++ b ++ line depth (codes "end")) ++ r)
arm_spelt depth e j [] ss b K r s l m h = cc
arm_spelt depth e j (x ∷ xs) ss b K r s l m h =
    let n : (is_literal x ≡ true) × (labels_formed xs ≡ true) = both (is_literal x) (labels_formed xs) m in
    let b1 : List ℕ = codes "begin" ++ (10 ∷ (b ++ (margin depth ++ (codes "end" ++ (10 ∷ r))))) in
    let K1 : List Token → Type 0 = stmt Parenthesised L e (BeginEnd ss) K in
    grouped (arm Parenthesised L e (derive_arm (x ∷ xs) (BeginEnd ss)) K) ((line depth (labels_text true (x ∷ xs) ++ codes ": begin") ++ b ++ line depth (codes "end")) ++ r) (margin depth ++ (literal_text x ++ (labels_text false xs ++ (codes ": " ++ b1)))) (arm_bytes (margin depth) (literal_text x) (labels_text false xs) b r)
    (margined depth (literal x (literals xs (sign Colon K1))) (literal_text x ++ (labels_text false xs ++ (codes ": " ++ b1)))
    (constant x (literals xs (sign Colon K1)) (labels_text false xs ++ (codes ": " ++ b1)) n.0 (labels_apart xs (codes ": " ++ b1) refl)
    (labels_spelt xs (sign Colon K1) (codes ": " ++ b1) n.1 refl
    (plain Colon K1 (codes " " ++ b1) (λ c. refl)
    (blank K1 b1 (block e j ss K (b ++ (margin depth ++ (codes "end" ++ (10 ∷ r)))) s h))))))

-- ---- statements

-- what always holds may stand before what follows
no_condition : (K : List Token → Type 0) (r : List ℕ) → Spelt K r → Spelt (λ us. (false ≡ false) × K us) r
no_condition K r h = record { tokens = h.tokens; lexed = h.lexed; kept = h.kept; bare = h.bare; meant = (refl, h.meant) }

-- the room inside of if and its parenthesis, or of case and its own
record Room (d k : ℕ) : Type 0 where
  first : d + 1 + (k - 1) ≡ 64
  second : d + 1 + 1 + (k - 2) ≡ 64

room : (d k : ℕ) → d + k ≡ 64 → nat_lt 1 k ≡ true → Room d k
room d k e h = let l : 1 < k = ltb-true 1 k h in record { first = omega arith; second = omega arith }

-- if (, an expression, and what stands behind it
if_head : (d k : ℕ) (x : P.Expression) (K : ℕ → List Token → Type 0) (b : List ℕ) → Room d k → expression_fits (k - 2) x ≡ true → expression_formed x ≡ true → Spelt (K (d + 1)) b
    → Spelt (keyword (codes "if") (inside L d (λ e. sign Open (inside L e (λ f. expr L f (derive x) (sign Close (K e))))))) (codes "if (" ++ (expression_text x ++ (codes ") " ++ b)))
if_head d k x K b s f m h =
    let b1 : List ℕ = expression_text x ++ (codes ") " ++ b) in
    reserved (codes "if") (inside L d (λ e. sign Open (inside L e (λ f. expr L f (derive x) (sign Close (K e)))))) (codes " (" ++ b1) refl refl
    (opened d (k - 1) (λ e. sign Open (inside L e (λ f. expr L f (derive x) (sign Close (K e))))) (codes " (" ++ b1) s.first
    (blank (sign Open (inside L (d + 1) (λ f. expr L f (derive x) (sign Close (K (d + 1)))))) (codes "(" ++ b1)
    (plain Open (inside L (d + 1) (λ f. expr L f (derive x) (sign Close (K (d + 1))))) b1 (λ c. refl)
    (opened (d + 1) (k - 2) (λ f. expr L f (derive x) (sign Close (K (d + 1)))) b1 s.second
    (expression_spelt (d + 1 + 1) (k - 2) x (sign Close (K (d + 1))) (codes ") " ++ b) s.second f m refl
    (plain Close (K (d + 1)) (codes " " ++ b) (λ c. refl)
    (blank (K (d + 1)) b h)))))))

case_head : (d k : ℕ) (x : P.Expression) (K : ℕ → List Token → Type 0) (b : List ℕ) → Room d k → expression_fits (k - 2) x ≡ true → expression_formed x ≡ true → Spelt (K (d + 1)) b
    → Spelt (keyword (codes "case") (inside L d (λ e. sign Open (inside L e (λ f. expr L f (derive x) (sign Close (K e))))))) (codes "case (" ++ (expression_text x ++ (codes ")" ++ (10 ∷ b))))
case_head d k x K b s f m h =
    let b1 : List ℕ = expression_text x ++ (codes ")" ++ (10 ∷ b)) in
    reserved (codes "case") (inside L d (λ e. sign Open (inside L e (λ f. expr L f (derive x) (sign Close (K e)))))) (codes " (" ++ b1) refl refl
    (opened d (k - 1) (λ e. sign Open (inside L e (λ f. expr L f (derive x) (sign Close (K e))))) (codes " (" ++ b1) s.first
    (blank (sign Open (inside L (d + 1) (λ f. expr L f (derive x) (sign Close (K (d + 1)))))) (codes "(" ++ b1)
    (plain Open (inside L (d + 1) (λ f. expr L f (derive x) (sign Close (K (d + 1))))) b1 (λ c. refl)
    (opened (d + 1) (k - 2) (λ f. expr L f (derive x) (sign Close (K (d + 1)))) b1 s.second
    (expression_spelt (d + 1 + 1) (k - 2) x (sign Close (K (d + 1))) (codes ")" ++ (10 ∷ b)) s.second f m refl
    (plain Close (K (d + 1)) (10 ∷ b) (λ c. refl)
    (line_feed (K (d + 1)) b h)))))))

record IfFits (k : ℕ) (c : P.Expression) (a b : P.Statements) : Type 0 where
  condition : expression_fits (k - 2) c ≡ true
  body : statements_fit (k - 2) a ≡ true
  other : statements_fit (k - 2) b ≡ true
  deep : nat_lt 1 k ≡ true

if_fits : (k : ℕ) (c : P.Expression) (a b : P.Statements) → statement_fits k (P.IfElse c a b) ≡ true → IfFits k c a b
if_fits k c a b f =
    let f2 : ((nat_lt 1 k && expression_fits (k - 2) c && statements_fit (k - 2) a) ≡ true) × (statements_fit (k - 2) b ≡ true) = both (nat_lt 1 k && expression_fits (k - 2) c && statements_fit (k - 2) a) (statements_fit (k - 2) b) f in
    let f1 : ((nat_lt 1 k && expression_fits (k - 2) c) ≡ true) × (statements_fit (k - 2) a ≡ true) = both (nat_lt 1 k && expression_fits (k - 2) c) (statements_fit (k - 2) a) f2.0 in
    let f0 : (nat_lt 1 k ≡ true) × (expression_fits (k - 2) c ≡ true) = both (nat_lt 1 k) (expression_fits (k - 2) c) f1.0 in
    record { condition = f0.1; body = f1.1; other = f2.1; deep = f0.0 }

record CaseFits (k : ℕ) (x : P.Expression) (as' : P.Arms) (o : P.Statements) : Type 0 where
  subject : expression_fits (k - 2) x ≡ true
  choices : arms_fit (k - 2) as' ≡ true
  other : statements_fit (k - 2) o ≡ true
  deep : nat_lt 1 k ≡ true

case_fits : (k : ℕ) (x : P.Expression) (as' : P.Arms) (o : P.Statements) → statement_fits k (P.CaseOf x as' o) ≡ true → CaseFits k x as' o
case_fits k x as' o f =
    let f2 : ((nat_lt 1 k && expression_fits (k - 2) x && arms_fit (k - 2) as') ≡ true) × (statements_fit (k - 2) o ≡ true) = both (nat_lt 1 k && expression_fits (k - 2) x && arms_fit (k - 2) as') (statements_fit (k - 2) o) f in
    let f1 : ((nat_lt 1 k && expression_fits (k - 2) x) ≡ true) × (arms_fit (k - 2) as' ≡ true) = both (nat_lt 1 k && expression_fits (k - 2) x) (arms_fit (k - 2) as') f2.0 in
    let f0 : (nat_lt 1 k ≡ true) × (expression_fits (k - 2) x ≡ true) = both (nat_lt 1 k) (expression_fits (k - 2) x) f1.0 in
    record { subject = f0.1; choices = f1.1; other = f2.1; deep = f0.0 }

-- what is formed in an if, and in a case
if_formed : (c : P.Expression) (a b : P.Statements) → statement_formed (P.IfElse c a b) ≡ true → (expression_formed c ≡ true) × (statements_formed a ≡ true) × (statements_formed b ≡ true)
if_formed c a b m =
    let m2 : ((expression_formed c && statements_formed a) ≡ true) × (statements_formed b ≡ true) = both (expression_formed c && statements_formed a) (statements_formed b) m in
    let m1 : (expression_formed c ≡ true) × (statements_formed a ≡ true) = both (expression_formed c) (statements_formed a) m2.0 in
    (m1.0, m1.1, m2.1)

case_formed : (x : P.Expression) (ls : List Vector) (b : P.Statements) (as' : P.Arms) (o : P.Statements) → statement_formed (P.CaseOf x (P.ArmOf ls b as') o) ≡ true → (expression_formed x ≡ true) × (arms_formed (P.ArmOf ls b as') ≡ true) × (statements_formed o ≡ true)
case_formed x ls b as' o m =
    let m2 : ((expression_formed x && true && arms_formed (P.ArmOf ls b as')) ≡ true) × (statements_formed o ≡ true) = both (expression_formed x && true && arms_formed (P.ArmOf ls b as')) (statements_formed o) m in
    let m1 : ((expression_formed x && true) ≡ true) × (arms_formed (P.ArmOf ls b as') ≡ true) = both (expression_formed x && true) (arms_formed (P.ArmOf ls b as')) m2.0 in
    ((both (expression_formed x) true m1.0).0, m1.1, m2.1)

if_done_bytes : (m x a r : List ℕ) → ((m ++ (codes "if (" ++ x ++ codes ") begin") ++ (10 ∷ [])) ++ a ++ [] ++ (m ++ codes "end" ++ (10 ∷ []))) ++ r ≡ m ++ (codes "if (" ++ (x ++ (codes ") " ++ (codes "begin" ++ (10 ∷ (a ++ (m ++ (codes "end" ++ (10 ∷ r)))))))))
if_done_bytes m x a r = simp (append_assoc, append-nil)

if_else_bytes : (m x a s ss r : List ℕ) → ((m ++ (codes "if (" ++ x ++ codes ") begin") ++ (10 ∷ [])) ++ a ++ (m ++ codes "end else begin" ++ (10 ∷ []) ++ (s ++ ss)) ++ (m ++ codes "end" ++ (10 ∷ []))) ++ r
    ≡ m ++ (codes "if (" ++ (x ++ (codes ") " ++ (codes "begin" ++ (10 ∷ (a ++ (m ++ (codes "end" ++ (codes " else " ++ (codes "begin" ++ (10 ∷ (s ++ (ss ++ (m ++ (codes "end" ++ (10 ∷ r))))))))))))))))
if_else_bytes m x a s ss r = simp append_assoc

case_done_bytes : (m x a as' r : List ℕ) → ((m ++ (codes "case (" ++ x ++ codes ")") ++ (10 ∷ [])) ++ (a ++ as') ++ [] ++ (m ++ codes "endcase" ++ (10 ∷ []))) ++ r
    ≡ m ++ (codes "case (" ++ (x ++ (codes ")" ++ (10 ∷ (a ++ (as' ++ (m ++ (codes "endcase" ++ (10 ∷ r)))))))))
case_done_bytes m x a as' r = simp (append_assoc, append-nil)

case_default_bytes : (m n x a as' s ss r : List ℕ) → ((m ++ (codes "case (" ++ x ++ codes ")") ++ (10 ∷ [])) ++ (a ++ as') ++ (n ++ codes "default: begin" ++ (10 ∷ []) ++ (s ++ ss) ++ (n ++ codes "end" ++ (10 ∷ []))) ++ (m ++ codes "endcase" ++ (10 ∷ []))) ++ r
    ≡ m ++ (codes "case (" ++ (x ++ (codes ")" ++ (10 ∷ (a ++ (as' ++ (n ++ (codes "default" ++ (codes ": " ++ (codes "begin" ++ (10 ∷ (s ++ (ss ++ (n ++ (codes "end" ++ (10 ∷ (m ++ (codes "endcase" ++ (10 ∷ r)))))))))))))))))))
case_default_bytes m n x a as' s ss r = simp append_assoc

mutual
  pub statement_spelt : (depth d k : ℕ) (s : P.Statement) (K : List Token → Type 0) (r : List ℕ) → d + k ≡ 64 → statement_fits k s ≡ true → statement_formed s ≡ true → Spelt K r → Spelt (stmt Parenthesised L d (derive_stmt s) K) (statement_text depth s ++ r)
  statement_spelt depth d k (P.SetTo n x) K r e f m h =
      let g : (is_name n ≡ true) × (expression_fits k x ≡ true) = both (is_name n) (expression_fits k x) f in
      let b : List ℕ = expression_text x ++ (codes ";" ++ (10 ∷ r)) in
      let K1 : List Token → Type 0 = expr L d (derive x) (sign Semicolon K) in
      grouped (stmt Parenthesised L d (derive_stmt (P.SetTo n x)) K) (statement_text depth (P.SetTo n x) ++ r) (margin depth ++ (n ++ (codes " <= " ++ b))) (set_bytes (margin depth) n (expression_text x) r)
      (margined depth (name n (sign LessEquals K1)) (n ++ (codes " <= " ++ b))
      (named n (sign LessEquals K1) (codes " <= " ++ b) g.0 refl
      (blank (sign LessEquals K1) (codes "<= " ++ b)
      (plain LessEquals K1 (codes " " ++ b) (λ c. refl)
      (blank K1 b
      (expression_spelt d k x (sign Semicolon K) (codes ";" ++ (10 ∷ r)) e g.1 m refl
      (plain Semicolon K (10 ∷ r) (λ c. refl)
      (line_feed K r h))))))))
  statement_spelt depth d k (P.IfElse c a P.Done) K r e f m h =
      let g = if_fits k c a P.Done f in
      let n = if_formed c a P.Done m in
      let s = room d k e g.deep in
      let b : List ℕ = statements_text (depth + 1) a ++ (margin depth ++ (codes "end" ++ (10 ∷ r))) in
      grouped (stmt Parenthesised L d (derive_stmt (P.IfElse c a P.Done)) K) (statement_text depth (P.IfElse c a P.Done) ++ r) (margin depth ++ (codes "if (" ++ (expression_text c ++ (codes ") " ++ (codes "begin" ++ (10 ∷ b)))))) (if_done_bytes (margin depth) (expression_text c) (statements_text (depth + 1) a) r)
      (margined depth (stmt Parenthesised L d (derive_stmt (P.IfElse c a P.Done)) K) (codes "if (" ++ (expression_text c ++ (codes ") " ++ (codes "begin" ++ (10 ∷ b)))))
      (if_head d k c (λ i. stmt Parenthesised L i (BeginEnd (derive_stmts a)) K) (codes "begin" ++ (10 ∷ b)) s g.condition n.0
      (block (d + 1) (k - 2) (derive_stmts a) K b s.second
      (statements_spelt (depth + 1) (d + 1 + 1) (k - 2) a (keyword (codes "end") K) (margin depth ++ (codes "end" ++ (10 ∷ r))) s.second g.body n.1 (ended depth K r h)))))
  statement_spelt depth d k (P.IfElse c a (P.Then t ts)) K r e f m h =
      let g = if_fits k c a (P.Then t ts) f in
      let n = if_formed c a (P.Then t ts) m in
      let s = room d k e g.deep in
      let o : (statement_fits (k - 2) t ≡ true) × (statements_fit (k - 2) ts ≡ true) = both (statement_fits (k - 2) t) (statements_fit (k - 2) ts) g.other in
      let p : (statement_formed t ≡ true) × (statements_formed ts ≡ true) = both (statement_formed t) (statements_formed ts) n.2 in
      let b3 : List ℕ = margin depth ++ (codes "end" ++ (10 ∷ r)) in
      let b2 : List ℕ = statement_text (depth + 1) t ++ (statements_text (depth + 1) ts ++ b3) in
      let b1 : List ℕ = statements_text (depth + 1) a ++ (margin depth ++ (codes "end" ++ (codes " else " ++ (codes "begin" ++ (10 ∷ b2))))) in
      let other : Stmts = AndStmt (derive_stmt t) (derive_stmts ts) in
      let K2 : List Token → Type 0 = stmt Parenthesised L (d + 1) (BeginEnd other) K in
      let K1 : List Token → Type 0 = λ us. (false ≡ false) × keyword (codes "else") K2 us in
      grouped (stmt Parenthesised L d (derive_stmt (P.IfElse c a (P.Then t ts))) K) (statement_text depth (P.IfElse c a (P.Then t ts)) ++ r) (margin depth ++ (codes "if (" ++ (expression_text c ++ (codes ") " ++ (codes "begin" ++ (10 ∷ b1)))))) (if_else_bytes (margin depth) (expression_text c) (statements_text (depth + 1) a) (statement_text (depth + 1) t) (statements_text (depth + 1) ts) r)
      (margined depth (stmt Parenthesised L d (derive_stmt (P.IfElse c a (P.Then t ts))) K) (codes "if (" ++ (expression_text c ++ (codes ") " ++ (codes "begin" ++ (10 ∷ b1)))))
      (if_head d k c (λ i. stmt Parenthesised L i (BeginEnd (derive_stmts a)) (λ us. (false ≡ false) × keyword (codes "else") (stmt Parenthesised L i (BeginEnd other) K) us)) (codes "begin" ++ (10 ∷ b1)) s g.condition n.0
      (block (d + 1) (k - 2) (derive_stmts a) K1 b1 s.second
      (statements_spelt (depth + 1) (d + 1 + 1) (k - 2) a (keyword (codes "end") K1) (margin depth ++ (codes "end" ++ (codes " else " ++ (codes "begin" ++ (10 ∷ b2))))) s.second g.body n.1
      (margined depth (keyword (codes "end") K1) (codes "end" ++ (codes " else " ++ (codes "begin" ++ (10 ∷ b2))))
      (reserved (codes "end") K1 (codes " else " ++ (codes "begin" ++ (10 ∷ b2))) refl refl
      (no_condition (keyword (codes "else") K2) (codes " else " ++ (codes "begin" ++ (10 ∷ b2)))
      (blank (keyword (codes "else") K2) (codes "else " ++ (codes "begin" ++ (10 ∷ b2)))
      (reserved (codes "else") K2 (codes " " ++ (codes "begin" ++ (10 ∷ b2))) refl refl
      (blank K2 (codes "begin" ++ (10 ∷ b2))
      (block (d + 1) (k - 2) other K b2 s.second
      (statement_spelt (depth + 1) (d + 1 + 1) (k - 2) t (stmts Parenthesised L (d + 1 + 1) (derive_stmts ts) (keyword (codes "end") K)) (statements_text (depth + 1) ts ++ b3) s.second o.0 p.0
      (statements_spelt (depth + 1) (d + 1 + 1) (k - 2) ts (keyword (codes "end") K) b3 s.second o.1 p.1 (ended depth K r h))))))))))))))
  statement_spelt depth d k (P.CaseOf x P.NoArm o) K r e f m h = absurd (no_arm (expression_formed x) (statements_formed o) m)
  statement_spelt depth d k (P.CaseOf x (P.ArmOf ls a as') P.Done) K r e f m h =
      let g = case_fits k x (P.ArmOf ls a as') P.Done f in
      let n = case_formed x ls a as' P.Done m in
      let q = arm_formed ls a as' n.1 in
      let s = room d k e g.deep in
      let l : (statements_fit (k - 2) a ≡ true) × (arms_fit (k - 2) as' ≡ true) = both (statements_fit (k - 2) a) (arms_fit (k - 2) as') g.choices in
      let b3 : List ℕ = margin depth ++ (codes "endcase" ++ (10 ∷ r)) in
      let b2 : List ℕ = arms_text (depth + 1) as' ++ b3 in
      let first : List ℕ = line (depth + 1) (labels_text true ls ++ codes ": begin") ++ statements_text (depth + 1 + 1) a ++ line (depth + 1) (codes "end") in
      let K3 : List Token → Type 0 = keyword (codes "endcase") K in
      let K2 : List Token → Type 0 = arms Parenthesised L (d + 1) (derive_arms as') K3 in
      grouped (stmt Parenthesised L d (derive_stmt (P.CaseOf x (P.ArmOf ls a as') P.Done)) K) (statement_text depth (P.CaseOf x (P.ArmOf ls a as') P.Done) ++ r) (margin depth ++ (codes "case (" ++ (expression_text x ++ (codes ")" ++ (10 ∷ (first ++ b2)))))) (case_done_bytes (margin depth) (expression_text x) first (arms_text (depth + 1) as') r)
      (margined depth (stmt Parenthesised L d (derive_stmt (P.CaseOf x (P.ArmOf ls a as') P.Done)) K) (codes "case (" ++ (expression_text x ++ (codes ")" ++ (10 ∷ (first ++ b2)))))
      (case_head d k x (λ i. arm Parenthesised L i (derive_arm ls (BeginEnd (derive_stmts a))) (arms Parenthesised L i (derive_arms as') K3)) (first ++ b2) s g.subject n.0
      (arm_spelt (depth + 1) (d + 1) (k - 2) ls (derive_stmts a) (statements_text (depth + 1 + 1) a) K2 b2 s.second q.label q.labels
      (statements_spelt (depth + 1 + 1) (d + 1 + 1) (k - 2) a (keyword (codes "end") K2) (margin (depth + 1) ++ (codes "end" ++ (10 ∷ b2))) s.second l.0 q.body
      (ended (depth + 1) K2 b2
      (arms_spelt (depth + 1) (d + 1) (k - 2) as' K3 b3 s.second l.1 q.others
      (margined depth K3 (codes "endcase" ++ (10 ∷ r)) (reserved (codes "endcase") K (10 ∷ r) refl refl (line_feed K r h)))))))))
  statement_spelt depth d k (P.CaseOf x (P.ArmOf ls a as') (P.Then t ts)) K r e f m h =
      let g = case_fits k x (P.ArmOf ls a as') (P.Then t ts) f in
      let n = case_formed x ls a as' (P.Then t ts) m in
      let q = arm_formed ls a as' n.1 in
      let s = room d k e g.deep in
      let l : (statements_fit (k - 2) a ≡ true) × (arms_fit (k - 2) as' ≡ true) = both (statements_fit (k - 2) a) (arms_fit (k - 2) as') g.choices in
      let o : (statement_fits (k - 2) t ≡ true) × (statements_fit (k - 2) ts ≡ true) = both (statement_fits (k - 2) t) (statements_fit (k - 2) ts) g.other in
      let p : (statement_formed t ≡ true) × (statements_formed ts ≡ true) = both (statement_formed t) (statements_formed ts) n.2 in
      let b5 : List ℕ = margin depth ++ (codes "endcase" ++ (10 ∷ r)) in
      let b4 : List ℕ = statement_text (depth + 2) t ++ (statements_text (depth + 2) ts ++ (margin (depth + 1) ++ (codes "end" ++ (10 ∷ b5)))) in
      let b3 : List ℕ = margin (depth + 1) ++ (codes "default" ++ (codes ": " ++ (codes "begin" ++ (10 ∷ b4)))) in
      let b2 : List ℕ = arms_text (depth + 1) as' ++ b3 in
      let first : List ℕ = line (depth + 1) (labels_text true ls ++ codes ": begin") ++ statements_text (depth + 1 + 1) a ++ line (depth + 1) (codes "end") in
      let other : Stmts = AndStmt (derive_stmt t) (derive_stmts ts) in
      let K5 : List Token → Type 0 = keyword (codes "endcase") K in
      let K4 : List Token → Type 0 = stmt Parenthesised L (d + 1) (BeginEnd other) K5 in
      let K3 : List Token → Type 0 = keyword (codes "default") (sign Colon K4) in
      let K2 : List Token → Type 0 = arms Parenthesised L (d + 1) (derive_arms as') K3 in
      grouped (stmt Parenthesised L d (derive_stmt (P.CaseOf x (P.ArmOf ls a as') (P.Then t ts))) K) (statement_text depth (P.CaseOf x (P.ArmOf ls a as') (P.Then t ts)) ++ r) (margin depth ++ (codes "case (" ++ (expression_text x ++ (codes ")" ++ (10 ∷ (first ++ b2)))))) (case_default_bytes (margin depth) (margin (depth + 1)) (expression_text x) first (arms_text (depth + 1) as') (statement_text (depth + 2) t) (statements_text (depth + 2) ts) r)
      (margined depth (stmt Parenthesised L d (derive_stmt (P.CaseOf x (P.ArmOf ls a as') (P.Then t ts))) K) (codes "case (" ++ (expression_text x ++ (codes ")" ++ (10 ∷ (first ++ b2)))))
      (case_head d k x (λ i. arm Parenthesised L i (derive_arm ls (BeginEnd (derive_stmts a))) (arms Parenthesised L i (derive_arms as') (keyword (codes "default") (sign Colon (stmt Parenthesised L i (BeginEnd other) K5))))) (first ++ b2) s g.subject n.0
      (arm_spelt (depth + 1) (d + 1) (k - 2) ls (derive_stmts a) (statements_text (depth + 1 + 1) a) K2 b2 s.second q.label q.labels
      (statements_spelt (depth + 1 + 1) (d + 1 + 1) (k - 2) a (keyword (codes "end") K2) (margin (depth + 1) ++ (codes "end" ++ (10 ∷ b2))) s.second l.0 q.body
      (ended (depth + 1) K2 b2
      (arms_spelt (depth + 1) (d + 1) (k - 2) as' K3 b3 s.second l.1 q.others
      (margined (depth + 1) K3 (codes "default" ++ (codes ": " ++ (codes "begin" ++ (10 ∷ b4))))
      (reserved (codes "default") (sign Colon K4) (codes ": " ++ (codes "begin" ++ (10 ∷ b4))) refl refl
      (plain Colon K4 (codes " " ++ (codes "begin" ++ (10 ∷ b4))) (λ c. refl)
      (blank K4 (codes "begin" ++ (10 ∷ b4))
      (block (d + 1) (k - 2) other K5 b4 s.second
      (statement_spelt (depth + 2) (d + 1 + 1) (k - 2) t (stmts Parenthesised L (d + 1 + 1) (derive_stmts ts) (keyword (codes "end") K5)) (statements_text (depth + 2) ts ++ (margin (depth + 1) ++ (codes "end" ++ (10 ∷ b5)))) s.second o.0 p.0
      (statements_spelt (depth + 2) (d + 1 + 1) (k - 2) ts (keyword (codes "end") K5) (margin (depth + 1) ++ (codes "end" ++ (10 ∷ b5))) s.second o.1 p.1
      (ended (depth + 1) K5 b5
      (margined depth K5 (codes "endcase" ++ (10 ∷ r)) (reserved (codes "endcase") K (10 ∷ r) refl refl (line_feed K r h)))))))))))))))))

  pub statements_spelt : (depth d k : ℕ) (ss : P.Statements) (K : List Token → Type 0) (r : List ℕ) → d + k ≡ 64 → statements_fit k ss ≡ true → statements_formed ss ≡ true → Spelt K r → Spelt (stmts Parenthesised L d (derive_stmts ss) K) (statements_text depth ss ++ r)
  statements_spelt depth d k P.Done K r e f m h = h
  statements_spelt depth d k (P.Then s ss) K r e f m h =
      let g : (statement_fits k s ≡ true) × (statements_fit k ss ≡ true) = both (statement_fits k s) (statements_fit k ss) f in
      let n : (statement_formed s ≡ true) × (statements_formed ss ≡ true) = both (statement_formed s) (statements_formed ss) m in
      grouped (stmts Parenthesised L d (derive_stmts (P.Then s ss)) K) (statements_text depth (P.Then s ss) ++ r) (statement_text depth s ++ (statements_text depth ss ++ r)) (append_assoc (statement_text depth s) (statements_text depth ss) r)
      (statement_spelt depth d k s (stmts Parenthesised L d (derive_stmts ss) K) (statements_text depth ss ++ r) e g.0 n.0 (statements_spelt depth d k ss K r e g.1 n.1 h))

  arms_spelt : (depth e j : ℕ) (as' : P.Arms) (K : List Token → Type 0) (r : List ℕ) → e + 1 + j ≡ 64 → arms_fit j as' ≡ true → arms_formed as' ≡ true → Spelt K r → Spelt (arms Parenthesised L e (derive_arms as') K) (arms_text depth as' ++ r)
  arms_spelt depth e j P.NoArm K r s f m h = h
  arms_spelt depth e j (P.ArmOf ls a as') K r s f m h =
      let l : (statements_fit j a ≡ true) × (arms_fit j as' ≡ true) = both (statements_fit j a) (arms_fit j as') f in
      let q = arm_formed ls a as' m in
      let first : List ℕ = line depth (labels_text true ls ++ codes ": begin") ++ statements_text (depth + 1) a ++ line depth (codes "end") in
      let b : List ℕ = arms_text depth as' ++ r in
      let K1 : List Token → Type 0 = arms Parenthesised L e (derive_arms as') K in
      grouped (arms Parenthesised L e (derive_arms (P.ArmOf ls a as')) K) (arms_text depth (P.ArmOf ls a as') ++ r) (first ++ b) (append_assoc first (arms_text depth as') r)
      (arm_spelt depth e j ls (derive_stmts a) (statements_text (depth + 1) a) K1 b s q.label q.labels
      (statements_spelt (depth + 1) (e + 1) j a (keyword (codes "end") K1) (margin depth ++ (codes "end" ++ (10 ∷ b))) s l.0 q.body
      (ended depth K1 b (arms_spelt depth e j as' K r s l.1 q.others h))))
