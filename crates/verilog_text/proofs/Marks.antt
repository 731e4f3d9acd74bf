-- Marks by their texts, and the operators that they are.
use Rattle.std.proofs.Common.{◌≡◌, ℕ, Bool, true, false, if◌then◌else◌, List, [], ◌∷◌, Option, Some, None, refl, ◌↔◌, subst, sym, ap, ◌∙◌}
use Rattle.std.proofs.lemmas.Slice.Eq.{bytes_eq-Decides}
use Rattle.std.specs.Str.{bytes_eq}
use Rattle.bist_text.specs.Grammar.{when}
use Rattle.bist_text.specs.Machine.{Holds}
use Rattle.verilog_tree.specs.Grammar.{is_sign, sign, unary_mark, binary_mark}
use Rattle.verilog_tree.specs.Tokens.{mark_text, Token, Sign, mark_of, lengthened}
use Rattle.verilog_tree.specs.declared.tokens.Mark.TheVariants.{Open}
use Rattle.verilog_tree.specs.declared.tokens.Mark.{Mark}
use Rattle.verilog_tree.specs.declared.tree.BinOp.TheVariants as B
use Rattle.verilog_tree.specs.declared.tree.BinOp.{BinOp}
use Rattle.verilog_tree.specs.declared.tree.UnOp.TheVariants as U
use Rattle.verilog_tree.specs.declared.tree.UnOp.{UnOp}
use Rattle.verilog_tree.specs.Marked.{prefixes, infixes, marked, infix_of, unary_of}

pub bytes_same : (v w : List ℕ) → bytes_eq v w ≡ true → v ≡ w
bytes_same v w h = (bytes_eq-Decides v w).0 h

pub bytes_self : (v : List ℕ) → bytes_eq v v ≡ true
bytes_self v = (bytes_eq-Decides v v).1 refl

-- the mark that has a text
abbrev text_mark : List ℕ → Option Mark
text_mark [] = None
text_mark (c ∷ []) = mark_of c
text_mark (c ∷ d ∷ w) = second (mark_of c)
  where
    second : Option Mark → Option Mark
    second None = None
    second (Some m) = lengthened m d

texts : (m : Mark) → text_mark (mark_text m) ≡ Some m
texts Open = refl
texts m = refl

pub is_mark : (m n : Mark) → is_sign m n ≡ true → n ≡ m
is_mark m n h = let e : text_mark (mark_text n) ≡ text_mark (mark_text m) = ap text_mark (bytes_same (mark_text n) (mark_text m) h) in let f : Some n ≡ Some m = sym (texts n) ∙ e ∙ texts m in cc

pub its_mark : (m : Mark) → is_sign m m ≡ true
its_mark m = bytes_self (mark_text m)

infix_is : (b : BinOp) → infix_of (binary_mark b) ≡ Some b
infix_is B.Add = refl
infix_is b = refl

unary_is : (u : UnOp) → unary_of (unary_mark u) ≡ Some u
unary_is U.Not = refl
unary_is u = refl

first_own : {O : Type 0} (mark : O → Mark) (x : O) (more : Option O) (m : Mark) (o : O) (t : Bool) → is_sign (mark x) m ≡ t → (more ≡ Some o → mark o ≡ m) → (if t then Some x else more) ≡ Some o → mark o ≡ m
first_own {O} mark x more m o true e f h = let k : x ≡ o = cc in subst (λ (y : O). mark y ≡ m) k (sym (is_mark (mark x) m e))
first_own mark x more m o false e f h = f h

-- what is found by its mark has it
its_own : {O : Type 0} (mark : O → Mark) (os : List O) (m : Mark) (o : O) → marked mark os m ≡ Some o → mark o ≡ m
its_own mark [] m o h = cc
its_own mark (x ∷ xs) m o h = first_own mark x (marked mark xs m) m o (is_sign (mark x) m) refl (its_own mark xs m o) h

pub unary_from : (m : Mark) (u : UnOp) → unary_of m ≡ Some u → unary_mark u ≡ m
unary_from m u h = its_own unary_mark prefixes m u h

-- the operator that a mark is, behind which K stands
operator_goes : {O X : Type 0} (mark : O → Mark) (of : Mark → Option O) → ((o : O) → of (mark o) ≡ Some o) → ((m : Mark) (o : O) → of m ≡ Some o → mark o ≡ m) → (K : O → X → List Token → Type 0) (m : Mark) (ts : List Token) → ((o : O) × (x : X) × sign (mark o) (K o x) (Sign m ∷ ts)) ↔ Holds (of m) (λ o. (x : X) × K o x ts)
operator_goes {O} {X} mark of is from K m ts = (λ h. to h.0 h.1 (is_sign (mark h.0) m) refl h.2, back (of m) refl)
  where
    to : (o : O) (x : X) (t : Bool) → is_sign (mark o) m ≡ t → when t (K o x ts) → Holds (of m) (λ o. (x : X) × K o x ts)
    to o x true e h = let k : of m ≡ Some o = ap of (is_mark (mark o) m e) ∙ is o in subst (λ (w : Option O). Holds w (λ o. (x : X) × K o x ts)) (sym k) (x, h)
    to o x false e h = absurd h

    back : (w : Option O) → of m ≡ w → Holds w (λ o. (x : X) × K o x ts) → (o : O) × (x : X) × sign (mark o) (K o x) (Sign m ∷ ts)
    back None e h = absurd h
    back (Some o) e h = (o, h.0, let k : is_sign (mark o) m ≡ true = subst (λ n. is_sign (mark o) n ≡ true) (from m o e) (its_mark (mark o)) in subst (λ t. when t (K o h.0 ts)) (sym k) h.1)

pub infix_goes : {X : Type 0} (K : BinOp → X → List Token → Type 0) (m : Mark) (ts : List Token) → ((b : BinOp) × (x : X) × sign (binary_mark b) (K b x) (Sign m ∷ ts)) ↔ Holds (infix_of m) (λ b. (x : X) × K b x ts)
infix_goes K m ts = operator_goes binary_mark infix_of infix_is (its_own binary_mark infixes) K m ts

pub unary_goes : {X : Type 0} (K : UnOp → X → List Token → Type 0) (m : Mark) (ts : List Token) → ((u : UnOp) × (x : X) × sign (unary_mark u) (K u x) (Sign m ∷ ts)) ↔ Holds (unary_of m) (λ u. (x : X) × K u x ts)
unary_goes K m ts = operator_goes unary_mark unary_of unary_is (its_own unary_mark prefixes) K m ts
