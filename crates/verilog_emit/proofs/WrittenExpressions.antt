-- What is printed of an expression is derived, within the room that it fits in.
use Rattle.std.proofs.Common.{◌≡◌, ℕ, ◌+◌, ◌-◌, ◌/◌, ◌==◌, ◌<◌, ◌&&◌, ◌||◌, nat_lt, Bool, true, false, List, [], ◌∷◌, ◌++◌, refl, subst, sym, append_assoc, codes}
use Rattle.std.specs.List.{list_all}
use Rattle.std.specs.Prelude.{decimal}
use Rattle.bist_text.specs.Numbers.{hex_digits}
use Rattle.bist_text.proofs.Pieces.{at_byte}
use Rattle.verilog_tree.specs.declared.tokens.Mark.{Mark}
use Rattle.verilog_tree.specs.declared.tokens.Mark.TheVariants.{Open, Close, OpenBracket, CloseBracket, OpenBrace, CloseBrace, Comma, Question, Colon, Bang, Ampersand, Bar, Caret, Tilde}
use Rattle.verilog_tree.specs.declared.tree.BinOp.TheVariants as B
use Rattle.verilog_tree.specs.declared.tree.BinOp.{BinOp}
use Rattle.verilog_tree.specs.declared.tree.UnOp.TheVariants as U
use Rattle.verilog_tree.specs.declared.tree.UnOp.{UnOp}
use Rattle.verilog_tree.specs.Fits.{expression_fits, expressions_fit}
use Rattle.verilog_tree.specs.Formed.{is_place, has_expression, expression_formed, expressions_formed}
use Rattle.verilog_tree.specs.Grammar.{Limit, sign, number, inside, unary_mark, binary_mark}
use Rattle.verilog_tree.specs.Parenthesised.{expr, exprs}
use Rattle.verilog_tree.specs.Spells.{bounded}
use Rattle.verilog_tree.specs.Plain as P
use Rattle.verilog_tree.specs.Tokens.{Token, mark_text, Complete, growth}
use Rattle.bist_text.specs.Identifiers.{is_digit, begins_identifier, is_identifier, in_identifier}
use Rattle.verilog_emit.specs.Printed.{expression_text, parts_text}
use Rattle.verilog_emit.proofs.Derivations.{derive, braces, derive_more}
use Rattle.verilog_emit.proofs.Numerals.{numbered, constant, first_digit, narrow}
use Rattle.verilog_emit.proofs.Pieces.{Spelt, both, grouped, blank, is_alone, is_apart, mark, named, opened, sum_inside, plain_alone, name_is}

abbrev pub L : Limit
L = bounded

-- a mark of which no byte makes another token
pub plain : (m : Mark) (K : List Token → Type 0) (r : List ℕ) → ((c : ℕ) → growth m c ≡ Complete) → Spelt K r → Spelt (sign m K) (mark_text m ++ r)
plain m K r e h = mark m K r (plain_alone m r e) h

-- ---- an operator of one operand, and what stands behind it

-- what begins an operand
abbrev begins_operand : ℕ → Bool
begins_operand c = begins_identifier c || is_digit c || (c == 40) || (c == 123)

abbrev is_operand : List ℕ → Bool
is_operand [] = false
is_operand (c ∷ r) = begins_operand c

-- makes no other token of a unary operator
operand_alone : (o : UnOp) (b : List ℕ) → is_operand b ≡ true → is_alone (unary_mark o) b ≡ true
operand_alone o [] e = cc
operand_alone U.Not (c ∷ b) e = at_byte (λ x. begins_operand x ≡ true → is_alone Bang (x ∷ b) ≡ true) c 61 (λ h. cc) (λ n h. rw n refl) e
operand_alone U.AllOnes (c ∷ b) e = at_byte (λ x. begins_operand x ≡ true → is_alone Ampersand (x ∷ b) ≡ true) c 38 (λ h. cc) (λ n h. rw n refl) e
operand_alone U.AnyOne (c ∷ b) e = at_byte (λ x. begins_operand x ≡ true → is_alone Bar (x ∷ b) ≡ true) c 124 (λ h. cc) (λ n h. rw n refl) e
operand_alone U.Invert (c ∷ b) e = at_byte (λ x. begins_operand x ≡ true → is_alone Tilde (x ∷ b) ≡ true) c 38 (λ h. cc) (λ l h. at_byte (λ x. (x == 38) ≡ false → begins_operand x ≡ true → is_alone Tilde (x ∷ b) ≡ true) c 124 (λ m i. cc) (λ m i j. at_byte (λ x. (x == 38) ≡ false → (x == 124) ≡ false → begins_operand x ≡ true → is_alone Tilde (x ∷ b) ≡ true) c 94 (λ n k u. cc) (λ n k u v. rw k (rw u (rw n refl))) i m j) l h) e
operand_alone U.Parity (c ∷ b) e = at_byte (λ x. begins_operand x ≡ true → is_alone Caret (x ∷ b) ≡ true) c 126 (λ h. cc) (λ n h. rw n refl) e

name_operand : (n r : List ℕ) → is_identifier n ≡ true → is_operand (n ++ r) ≡ true
name_operand [] r e = cc
name_operand (c ∷ n) r e = rw (both (begins_identifier c) (list_all in_identifier n) e).0 refl

digits_operand : (c : ℕ) (w r : List ℕ) → is_digit c ≡ true → is_operand ((c ∷ w) ++ r) ≡ true
digits_operand c w r e = or_digit (begins_identifier c) (is_digit c) e
  where
    or_digit : (a b : Bool) → b ≡ true → (a || b || (c == 40) || (c == 123)) ≡ true
    or_digit true b e = refl
    or_digit false true e = refl
    or_digit false false e = cc

number_operand : (n : ℕ) (r : List ℕ) → n < 100 → is_operand (decimal n ++ r) ≡ true
number_operand n r l =
    let f = first_digit n l in
    subst (λ (x : List ℕ). is_operand (x ++ r) ≡ true) (sym f.2) (digits_operand f.0 f.1 r f.3)

expression_operand : (k : ℕ) (x : P.Expression) (r : List ℕ) → expression_fits k x ≡ true → expression_formed x ≡ true → is_operand (expression_text x ++ r) ≡ true
expression_operand k (P.Net n) r f m = name_operand n r (name_is n f)
expression_operand k (P.BitSelect n i) r f m = subst (λ (b : List ℕ). is_operand b ≡ true) (regrouped n (codes "[") (decimal i) r) (name_operand n (codes "[" ++ (decimal i ++ (codes "]" ++ r))) (name_is n f))
  where
    regrouped : (n b i r : List ℕ) → n ++ (b ++ (i ++ (codes "]" ++ r))) ≡ (n ++ b ++ i ++ codes "]") ++ r
    regrouped n b i r = simp append_assoc
expression_operand k (P.PartSelect n h l) r f m = subst (λ (b : List ℕ). is_operand b ≡ true) (regrouped n (codes "[") (decimal h) (codes ":") (decimal l) r) (name_operand n (codes "[" ++ (decimal h ++ (codes ":" ++ (decimal l ++ (codes "]" ++ r))))) (name_is n f))
  where
    regrouped : (n b h c l r : List ℕ) → n ++ (b ++ (h ++ (c ++ (l ++ (codes "]" ++ r))))) ≡ (n ++ b ++ h ++ c ++ l ++ codes "]") ++ r
    regrouped n b h c l r = simp append_assoc
expression_operand k (P.Literal x) r f m = subst (λ (b : List ℕ). is_operand b ≡ true) (regrouped (decimal x.width) (codes "'h") (hex_digits ((x.width + 3) / 4) x.value) r) (number_operand x.width (codes "'h" ++ (hex_digits ((x.width + 3) / 4) x.value ++ r)) (narrow x m))
  where
    regrouped : (d q v r : List ℕ) → d ++ (q ++ (v ++ r)) ≡ (d ++ q ++ v) ++ r
    regrouped d q v r = simp append_assoc
expression_operand k (P.Concatenation xs) r f m = refl
expression_operand k (P.Prefixed o x) r f m = refl
expression_operand k (P.Infixed o x y) r f m = refl
expression_operand k (P.Conditional c x y) r f m = refl

infix_alone : (o : BinOp) (r : List ℕ) → is_alone (binary_mark o) (32 ∷ r) ≡ true
infix_alone B.Add r = refl
infix_alone o r = refl

more_apart : (xs : P.Expressions) (r : List ℕ) → is_apart r ≡ true → is_apart (parts_text false xs ++ r) ≡ true
more_apart P.NoMore r p = p
more_apart (P.Followed x xs) r p = refl

-- ---- how the bytes of each form are grouped

prefixed_bytes : (o x r : List ℕ) → (codes "(" ++ o ++ x ++ codes ")") ++ r ≡ codes "(" ++ (o ++ (x ++ (codes ")" ++ r)))
prefixed_bytes o x r = simp append_assoc

infixed_bytes : (x o y r : List ℕ) → (codes "(" ++ x ++ codes " " ++ o ++ codes " " ++ y ++ codes ")") ++ r ≡ codes "(" ++ (x ++ (codes " " ++ (o ++ (codes " " ++ (y ++ (codes ")" ++ r))))))
infixed_bytes x o y r = simp append_assoc

conditional_bytes : (c x y r : List ℕ) → (codes "(" ++ c ++ codes " ? " ++ x ++ codes " : " ++ y ++ codes ")") ++ r ≡ codes "(" ++ (c ++ (codes " ? " ++ (x ++ (codes " : " ++ (y ++ (codes ")" ++ r))))))
conditional_bytes c x y r = simp append_assoc

bit_bytes : (n i r : List ℕ) → (n ++ codes "[" ++ i ++ codes "]") ++ r ≡ n ++ (codes "[" ++ (i ++ (codes "]" ++ r)))
bit_bytes n i r = simp append_assoc

part_bytes : (n h l r : List ℕ) → (n ++ codes "[" ++ h ++ codes ":" ++ l ++ codes "]") ++ r ≡ n ++ (codes "[" ++ (h ++ (codes ":" ++ (l ++ (codes "]" ++ r)))))
part_bytes n h l r = simp append_assoc

braces_bytes : (x xs r : List ℕ) → (codes "{" ++ (x ++ xs) ++ codes "}") ++ r ≡ codes "{" ++ (x ++ (xs ++ (codes "}" ++ r)))
braces_bytes x xs r = simp append_assoc

more_bytes : (x xs r : List ℕ) → (codes ", " ++ x ++ xs) ++ r ≡ codes ", " ++ (x ++ (xs ++ r))
more_bytes x xs r = simp append_assoc

-- ---- expressions

mutual
  pub expression_spelt : (d k : ℕ) (x : P.Expression) (K : List Token → Type 0) (r : List ℕ) → d + k ≡ 64 → expression_fits k x ≡ true → expression_formed x ≡ true → is_apart r ≡ true → Spelt K r → Spelt (expr L d (derive x) K) (expression_text x ++ r)
  expression_spelt d k (P.Net n) K r e f m p h = named n K r f p h
  expression_spelt d k (P.BitSelect n i) K r e f m p h =
      grouped (expr L d (derive (P.BitSelect n i)) K) (expression_text (P.BitSelect n i) ++ r) (n ++ (codes "[" ++ (decimal i ++ (codes "]" ++ r)))) (bit_bytes n (decimal i) r)
      (named n (sign OpenBracket (number i (sign CloseBracket K))) (codes "[" ++ (decimal i ++ (codes "]" ++ r))) f refl
      (plain OpenBracket (number i (sign CloseBracket K)) (decimal i ++ (codes "]" ++ r)) (λ c. refl)
      (numbered i (sign CloseBracket K) (codes "]" ++ r) m refl
      (plain CloseBracket K r (λ c. refl) h))))
  expression_spelt d k (P.PartSelect n i j) K r e f m p h =
      let g : (is_place i ≡ true) × (is_place j ≡ true) = both (is_place i) (is_place j) m in
      grouped (expr L d (derive (P.PartSelect n i j)) K) (expression_text (P.PartSelect n i j) ++ r) (n ++ (codes "[" ++ (decimal i ++ (codes ":" ++ (decimal j ++ (codes "]" ++ r)))))) (part_bytes n (decimal i) (decimal j) r)
      (named n (sign OpenBracket (number i (sign Colon (number j (sign CloseBracket K))))) (codes "[" ++ (decimal i ++ (codes ":" ++ (decimal j ++ (codes "]" ++ r))))) f refl
      (plain OpenBracket (number i (sign Colon (number j (sign CloseBracket K)))) (decimal i ++ (codes ":" ++ (decimal j ++ (codes "]" ++ r)))) (λ c. refl)
      (numbered i (sign Colon (number j (sign CloseBracket K))) (codes ":" ++ (decimal j ++ (codes "]" ++ r))) g.0 refl
      (plain Colon (number j (sign CloseBracket K)) (decimal j ++ (codes "]" ++ r)) (λ c. refl)
      (numbered j (sign CloseBracket K) (codes "]" ++ r) g.1 refl
      (plain CloseBracket K r (λ c. refl) h))))))
  expression_spelt d k (P.Literal x) K r e f m p h = constant x K r m p h
  expression_spelt d k (P.Concatenation xs) K r e f m p h =
      let g : (nat_lt 0 k ≡ true) × (expressions_fit (k - 1) xs ≡ true) = both (nat_lt 0 k) (expressions_fit (k - 1) xs) f in
      let n : (has_expression xs ≡ true) × (expressions_formed xs ≡ true) = both (has_expression xs) (expressions_formed xs) m in
      braces_spelt d (k - 1) xs K r (sum_inside d k e g.0) g.1 n.0 n.1 h
  expression_spelt d k (P.Prefixed o x) K r e f m p h =
      let g : (nat_lt 0 k ≡ true) × (expression_fits (k - 1) x ≡ true) = both (nat_lt 0 k) (expression_fits (k - 1) x) f in
      let s = sum_inside d k e g.0 in
      let b : List ℕ = expression_text x ++ (codes ")" ++ r) in
      grouped (expr L d (derive (P.Prefixed o x)) K) (expression_text (P.Prefixed o x) ++ r) (codes "(" ++ (mark_text (unary_mark o) ++ b)) (prefixed_bytes (mark_text (unary_mark o)) (expression_text x) r)
      (plain Open (inside L d (λ i. sign (unary_mark o) (expr L i (derive x) (sign Close K)))) (mark_text (unary_mark o) ++ b) (λ c. refl)
      (opened d (k - 1) (λ i. sign (unary_mark o) (expr L i (derive x) (sign Close K))) (mark_text (unary_mark o) ++ b) s
      (mark (unary_mark o) (expr L (d + 1) (derive x) (sign Close K)) b (operand_alone o b (expression_operand (k - 1) x (codes ")" ++ r) g.1 m))
      (expression_spelt (d + 1) (k - 1) x (sign Close K) (codes ")" ++ r) s g.1 m refl
      (plain Close K r (λ c. refl) h)))))
  expression_spelt d k (P.Infixed o x y) K r e f m p h =
      let g : ((nat_lt 0 k && expression_fits (k - 1) x) ≡ true) × (expression_fits (k - 1) y ≡ true) = both (nat_lt 0 k && expression_fits (k - 1) x) (expression_fits (k - 1) y) f in
      let i : (nat_lt 0 k ≡ true) × (expression_fits (k - 1) x ≡ true) = both (nat_lt 0 k) (expression_fits (k - 1) x) g.0 in
      let n : (expression_formed x ≡ true) × (expression_formed y ≡ true) = both (expression_formed x) (expression_formed y) m in
      let s = sum_inside d k e i.0 in
      let b2 : List ℕ = expression_text y ++ (codes ")" ++ r) in
      let b1 : List ℕ = mark_text (binary_mark o) ++ (codes " " ++ b2) in
      let K2 : List Token → Type 0 = expr L (d + 1) (derive y) (sign Close K) in
      grouped (expr L d (derive (P.Infixed o x y)) K) (expression_text (P.Infixed o x y) ++ r) (codes "(" ++ (expression_text x ++ (codes " " ++ b1))) (infixed_bytes (expression_text x) (mark_text (binary_mark o)) (expression_text y) r)
      (plain Open (inside L d (λ i. expr L i (derive x) (sign (binary_mark o) (expr L i (derive y) (sign Close K))))) (expression_text x ++ (codes " " ++ b1)) (λ c. refl)
      (opened d (k - 1) (λ i. expr L i (derive x) (sign (binary_mark o) (expr L i (derive y) (sign Close K)))) (expression_text x ++ (codes " " ++ b1)) s
      (expression_spelt (d + 1) (k - 1) x (sign (binary_mark o) K2) (codes " " ++ b1) s i.1 n.0 refl
      (blank (sign (binary_mark o) K2) b1
      (mark (binary_mark o) K2 (codes " " ++ b2) (infix_alone o b2)
      (blank K2 b2
      (expression_spelt (d + 1) (k - 1) y (sign Close K) (codes ")" ++ r) s g.1 n.1 refl
      (plain Close K r (λ c. refl) h))))))))
  expression_spelt d k (P.Conditional c x y) K r e f m p h =
      let g : ((nat_lt 0 k && expression_fits (k - 1) c && expression_fits (k - 1) x) ≡ true) × (expression_fits (k - 1) y ≡ true) = both (nat_lt 0 k && expression_fits (k - 1) c && expression_fits (k - 1) x) (expression_fits (k - 1) y) f in
      let j : ((nat_lt 0 k && expression_fits (k - 1) c) ≡ true) × (expression_fits (k - 1) x ≡ true) = both (nat_lt 0 k && expression_fits (k - 1) c) (expression_fits (k - 1) x) g.0 in
      let i : (nat_lt 0 k ≡ true) × (expression_fits (k - 1) c ≡ true) = both (nat_lt 0 k) (expression_fits (k - 1) c) j.0 in
      let n : ((expression_formed c && expression_formed x) ≡ true) × (expression_formed y ≡ true) = both (expression_formed c && expression_formed x) (expression_formed y) m in
      let l : (expression_formed c ≡ true) × (expression_formed x ≡ true) = both (expression_formed c) (expression_formed x) n.0 in
      let s = sum_inside d k e i.0 in
      let b3 : List ℕ = expression_text y ++ (codes ")" ++ r) in
      let b2 : List ℕ = expression_text x ++ (codes " : " ++ b3) in
      let K3 : List Token → Type 0 = expr L (d + 1) (derive y) (sign Close K) in
      let K2 : List Token → Type 0 = expr L (d + 1) (derive x) (sign Colon K3) in
      grouped (expr L d (derive (P.Conditional c x y)) K) (expression_text (P.Conditional c x y) ++ r) (codes "(" ++ (expression_text c ++ (codes " ? " ++ b2))) (conditional_bytes (expression_text c) (expression_text x) (expression_text y) r)
      (plain Open (inside L d (λ i. expr L i (derive c) (sign Question (expr L i (derive x) (sign Colon (expr L i (derive y) (sign Close K))))))) (expression_text c ++ (codes " ? " ++ b2)) (λ c. refl)
      (opened d (k - 1) (λ i. expr L i (derive c) (sign Question (expr L i (derive x) (sign Colon (expr L i (derive y) (sign Close K)))))) (expression_text c ++ (codes " ? " ++ b2)) s
      (expression_spelt (d + 1) (k - 1) c (sign Question K2) (codes " ? " ++ b2) s i.1 l.0 refl
      (blank (sign Question K2) (codes "? " ++ b2)
      (plain Question K2 (codes " " ++ b2) (λ c. refl)
      (blank K2 b2
      (expression_spelt (d + 1) (k - 1) x (sign Colon K3) (codes " : " ++ b3) s j.1 l.1 refl
      (blank (sign Colon K3) (codes ": " ++ b3)
      (plain Colon K3 (codes " " ++ b3) (λ c. refl)
      (blank K3 b3
      (expression_spelt (d + 1) (k - 1) y (sign Close K) (codes ")" ++ r) s g.1 n.1 refl
      (plain Close K r (λ c. refl) h))))))))))))

  braces_spelt : (d j : ℕ) (xs : P.Expressions) (K : List Token → Type 0) (r : List ℕ) → d + 1 + j ≡ 64 → expressions_fit j xs ≡ true → has_expression xs ≡ true → expressions_formed xs ≡ true → Spelt K r → Spelt (expr L d (braces xs) K) ((codes "{" ++ parts_text true xs ++ codes "}") ++ r)
  braces_spelt d j P.NoMore K r e f s m h = cc
  braces_spelt d j (P.Followed x xs) K r e f s m h =
      let g : (expression_fits j x ≡ true) × (expressions_fit j xs ≡ true) = both (expression_fits j x) (expressions_fit j xs) f in
      let n : (expression_formed x ≡ true) × (expressions_formed xs ≡ true) = both (expression_formed x) (expressions_formed xs) m in
      let b1 : List ℕ = parts_text false xs ++ (codes "}" ++ r) in
      let K1 : List Token → Type 0 = exprs L (d + 1) (derive_more xs) (sign CloseBrace K) in
      grouped (expr L d (braces (P.Followed x xs)) K) ((codes "{" ++ parts_text true (P.Followed x xs) ++ codes "}") ++ r) (codes "{" ++ (expression_text x ++ b1)) (braces_bytes (expression_text x) (parts_text false xs) r)
      (plain OpenBrace (inside L d (λ i. expr L i (derive x) (exprs L i (derive_more xs) (sign CloseBrace K)))) (expression_text x ++ b1) (λ c. refl)
      (opened d j (λ i. expr L i (derive x) (exprs L i (derive_more xs) (sign CloseBrace K))) (expression_text x ++ b1) e
      (expression_spelt (d + 1) j x K1 b1 e g.0 n.0 (more_apart xs (codes "}" ++ r) refl)
      (more_spelt (d + 1) j xs (sign CloseBrace K) (codes "}" ++ r) e g.1 n.1 refl
      (plain CloseBrace K r (λ c. refl) h)))))

  more_spelt : (d k : ℕ) (xs : P.Expressions) (K : List Token → Type 0) (r : List ℕ) → d + k ≡ 64 → expressions_fit k xs ≡ true → expressions_formed xs ≡ true → is_apart r ≡ true → Spelt K r → Spelt (exprs L d (derive_more xs) K) (parts_text false xs ++ r)
  more_spelt d k P.NoMore K r e f m p h = h
  more_spelt d k (P.Followed x xs) K r e f m p h =
      let g : (expression_fits k x ≡ true) × (expressions_fit k xs ≡ true) = both (expression_fits k x) (expressions_fit k xs) f in
      let n : (expression_formed x ≡ true) × (expressions_formed xs ≡ true) = both (expression_formed x) (expressions_formed xs) m in
      let b1 : List ℕ = parts_text false xs ++ r in
      let K1 : List Token → Type 0 = exprs L d (derive_more xs) K in
      grouped (exprs L d (derive_more (P.Followed x xs)) K) (parts_text false (P.Followed x xs) ++ r) (codes ", " ++ (expression_text x ++ b1)) (more_bytes (expression_text x) (parts_text false xs) r)
      (plain Comma (expr L d (derive x) K1) (codes " " ++ (expression_text x ++ b1)) (λ c. refl)
      (blank (expr L d (derive x) K1) (expression_text x ++ b1)
      (expression_spelt d k x K1 b1 e g.0 n.0 (more_apart xs r p)
      (more_spelt d k xs K r e g.1 n.1 p h))))
