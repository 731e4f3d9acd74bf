-- What is found among statements.
use Rattle.bist_text.proofs.keyed.Common.{Bool, IsSome, List, None, Option, Some, Statement, TextLine, [], all_stated, ap, at_line, cond, content_of, false, find, refl, stated, sym, true, ℕ, ◌++◌, ◌∙◌, ◌∷◌, ◌≡◌}

found_step : {X : Type 0} (p q : X → Bool) (x y : X) (r o : Option X) → (r ≡ None → o ≡ Some x → p x ≡ false) → (s t : Bool) → p y ≡ s
    → cond s (Some y) r ≡ None → cond t (Some y) o ≡ Some x → p x ≡ false
found_step p q x y r o f true t e a b = (let z : ⊥ = cc in absurd z)
found_step p q x y r o f false true e a b = (let z : y ≡ x = cc in ap p (sym z) ∙ e)
found_step p q x y r o f false false e a b = f a b

-- nothing passes a test, so what passes another doesn't pass it
pub found_fails : {X : Type 0} (p q : X → Bool) (xs : List X) (x : X) → find p xs ≡ None → find q xs ≡ Some x → p x ≡ false
found_fails p q [] x a b = (let z : ⊥ = cc in absurd z)
found_fails p q (y ∷ xs) x a b = found_step p q x y (find p xs) (find q xs) (found_fails p q xs x) (p y) (q y) refl a b

passes_step : {X : Type 0} (q : X → Bool) (x y : X) (o : Option X) → (o ≡ Some x → q x ≡ true) → (t : Bool) → q y ≡ t → cond t (Some y) o ≡ Some x → q x ≡ true
passes_step q x y o f true e b = (let z : y ≡ x = cc in ap q (sym z) ∙ e)
passes_step q x y o f false e b = f b

pub found_passes : {X : Type 0} (q : X → Bool) (xs : List X) (x : X) → find q xs ≡ Some x → q x ≡ true
found_passes q [] x b = (let z : ⊥ = cc in absurd z)
found_passes q (y ∷ xs) x b = passes_step q x y (find q xs) (found_passes q xs x) (q y) refl b

-- what is found in the lines of a text was said by one of them
pub said_found : {C : Type 0} (said : List ℕ → Option C) (formed : C → Bool) → ((b : List ℕ) (c : C) → said b ≡ Some c → formed c ≡ true) → (p : Statement C → Bool) (ls : List TextLine) (s : Statement C)
    → find p (all_stated said ls) ≡ Some s → formed s.content ≡ true
said_found said formed f p [] s e = (let z : ⊥ = cc in absurd z)
said_found {C} said formed f p (l ∷ ls) s e = go (said l.text) refl e (λ e. said_found said formed f p ls s e)
  where
    at : (c : C) → said l.text ≡ Some c → (t : Bool) → cond t (Some (record { line = l.number; content = c })) (find p (all_stated said ls)) ≡ Some s
        → (find p (all_stated said ls) ≡ Some s → formed s.content ≡ true) → formed s.content ≡ true
    at c k true e again = (let same : (let x : Statement C = record { line = l.number; content = c } in x) ≡ s = cc in ap (λ s. formed s.content) (sym same) ∙ f l.text c k)
    at c k false e again = again e

    go : (v : Option C) → said l.text ≡ v → find p (stated l.number v ++ all_stated said ls) ≡ Some s → (find p (all_stated said ls) ≡ Some s → formed s.content ≡ true) → formed s.content ≡ true
    go None k e again = again e
    go (Some c) k e again = at c k (p (record { line = l.number; content = c })) e again

pub none_at : {C F : Type 0} (fault : ℕ → F) (o : Option (Statement C)) → at_line fault o ≡ None → o ≡ None
none_at fault None e = refl
none_at fault (Some s) e = (let z : ⊥ = cc in absurd z)

pub said_there : {C : Type 0} (o : Option (Statement C)) (c : C) → content_of o ≡ Some c → IsSome o
said_there None c e = (let z : ⊥ = cc in absurd z)
said_there (Some s) c e = refl
