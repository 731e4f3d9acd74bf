-- What is looked at in order: items, tests and breaks.
use Rattle.std.proofs.Common.{◌≡◌, ℕ, ◌+◌, ◌<◌, Bool, true, false, ◌&&◌, List, [], ◌∷◌, length, drop, get_or, Option, Some, None, Result, Ok, Err, IsErr, IsErrAnd, refl, ap, sym, ◌∙◌, subst}
use Rattle.std.proofs.lemmas.List.{at_drop_more}
use Rattle.verilog_tree.specs.declared.fault.TreeFault.{TreeFault}
use Rattle.verilog_tree.specs.Rules.{Break, Tells, Refuses, first_of}

-- what a loop looks at, at an item
pub at_item : {A B : Type 0} (f : List A → B) (xs : List A) (i : ℕ) (x : A) → i < length xs → x ≡ get_or xs i x → f (drop i xs) ≡ f (x ∷ drop (i + 1) xs)
at_item f xs i x below at = at_drop_more f xs i x below ∙ ap (λ y. f (y ∷ drop (i + 1) xs)) (sym at)

-- the two ways through `&&`
pub and_then : (t u v : Bool) → t ≡ true → v ≡ u → v ≡ (t && u)
and_then t u v e h = rw e h

pub and_else : (t u v : Bool) → t ≡ false → v ≡ t → v ≡ (t && u)
and_else t u v e h = h ∙ rw e refl

pub refuses_same : {A : Type 0} (o p : Option Break) (r : Result A TreeFault) → o ≡ p → Refuses p r → Refuses o r
refuses_same o p r e h = rw e h

-- a fault that is passed on with `?`
pub passed_on : {A : Type 0} (o p : Option Break) (r : Result A TreeFault) (f : TreeFault) → IsErr r × IsErrAnd r (λ g. g ≡ f) → o ≡ p → Tells f p → Refuses o r
passed_on o p (Ok x) f h e t = absurd h.1
passed_on o p (Err g) f h e t = rw e (subst (λ k. Tells k p) (sym h.1) t)

pub past : (o : Option Break) (os : List (Option Break)) → o ≡ None → first_of (o ∷ os) ≡ first_of os
past o os e = rw e refl

only : (o : Option Break) → first_of (o ∷ []) ≡ o
only None = refl
only (Some b) = refl

pub second : (o p : Option Break) → o ≡ None → first_of (o ∷ p ∷ []) ≡ p
second o p e = past o (p ∷ []) e ∙ only p

pub third : (o p q : Option Break) → o ≡ None → p ≡ None → first_of (o ∷ p ∷ q ∷ []) ≡ q
third o p q e e' = past o (p ∷ q ∷ []) e ∙ second p q e'
