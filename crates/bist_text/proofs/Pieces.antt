-- Small steps on equivalences, options and pieces of grammars, of which the laws of a machine are put together.
use Rattle.std.proofs.Common.{◌≡◌, ℕ, ◌==◌, Bool, true, false, List, [], ◌∷◌, ◌++◌, ◌∙◌, Option, Some, None, refl, ◌↔◌, ◌⊎◌, inl, inr, subst, sym, ap, append_assoc, append-nil}
use Rattle.std.proofs.lemmas.Bool.{eqb-true, eq-eqb}
use Rattle.bist_text.specs.Grammar.{when, many, word}
use Rattle.bist_text.specs.Machine.{Holds}
use Rattle.bist_text.specs.inner.Machine.{Grows}

-- a fact of every byte, from that of d and that of the others
pub at_byte : (P : ℕ → Type 0) (c d : ℕ) → P d → ((c == d) ≡ false → P c) → P c
at_byte P c d p q = go (c == d) refl
  where
    go : (t : Bool) → (c == d) ≡ t → P c
    go true e = subst P (sym (eqb-true c d e)) p
    go false e = q e

-- one equivalence after another, and the other way round
pub also : {A B C : Type 0} → A ↔ B → B ↔ C → A ↔ C
also f g = (λ a. g.0 (f.0 a), λ c. f.1 (g.1 c))

pub back : {A B : Type 0} → A ↔ B → B ↔ A
back f = (f.1, f.0)

-- of two cases, the one that can be
pub skip : {A B : Type 0} → (A → ⊥) → (A ⊎ B) ↔ B
skip f = (elim [ inl a ↦ absurd (f a) | inr b ↦ b ], inr)

pub stay : {A B : Type 0} → (B → ⊥) → (A ⊎ B) ↔ A
stay f = (elim [ inl a ↦ a | inr b ↦ absurd (f b) ], inl)

pub neither : {A B : Type 0} → (A → ⊥) → (B → ⊥) → (A ⊎ B) → ⊥
neither f g = elim [ inl a ↦ f a | inr b ↦ g b ]

pub same : {A : Type 0} → A ↔ A
same = (λ a. a, λ a. a)

pub never : {A B : Type 0} → (A → ⊥) → (B → ⊥) → A ↔ B
never f g = (λ a. absurd (f a), λ b. absurd (g b))

-- of a value that is there
pub holds_iff : {A : Type 0} (o : Option A) (P Q : A → Type 0) → ((x : A) → P x ↔ Q x) → Holds o P ↔ Holds o Q
holds_iff None P Q f = same
holds_iff (Some x) P Q f = f x

pub holds_never : {A : Type 0} (o : Option A) (P : A → Type 0) → ((x : A) → P x → ⊥) → Holds o P → ⊥
holds_never None P f h = h
holds_never (Some x) P f h = f x h

-- of a list that is known at its front
pub grows_iff : {A : Type 0} (old whole : List A) (P Q : List A → Type 0) → ((m : List A) → P m ↔ Q m) → Grows old whole P ↔ Grows old whole Q
grows_iff old whole P Q f = (λ h. (h.0, h.1, (f h.0).0 h.2), λ h. (h.0, h.1, (f h.0).1 h.2))

pub grows_never : {A : Type 0} (old whole : List A) (P : List A → Type 0) → ((m : List A) → P m → ⊥) → Grows old whole P → ⊥
grows_never old whole P f h = f h.0 h.2

pub grows_from_none : {A : Type 0} (whole : List A) (P : List A → Type 0) → Grows [] whole P ↔ P whole
grows_from_none whole P = (λ h. subst P (sym h.1) h.2, λ h. (whole, refl, h))

-- a, and then what Q says
abbrev pub Headed : {A : Type 0} → A → (List A → Type 0) → List A → Type 0
Headed a Q [] = ⊥
Headed a Q (x ∷ m) = (x ≡ a) × Q m

-- one more is known
pub grows_one : {A : Type 0} (old whole : List A) (a : A) (P Q : List A → Type 0) → ((m : List A) → P m ↔ Headed a Q m) → Grows old whole P ↔ Grows (old ++ (a ∷ [])) whole Q
grows_one {A} old whole a P Q f = (λ h. to h.0 h.1 ((f h.0).0 h.2), λ h. (a ∷ h.0, h.1 ∙ append_assoc old (a ∷ []) h.0, (f (a ∷ h.0)).1 (refl, h.2)))
  where
    to : (m : List A) → whole ≡ old ++ m → Headed a Q m → Grows (old ++ (a ∷ [])) whole Q
    to [] e h = absurd h
    to (x ∷ m) e h = (m, e ∙ ap (λ (y : A). old ++ (y ∷ m)) h.0 ∙ sym (append_assoc old (a ∷ []) m), h.1)

-- of pieces
pub when_never : (t : Bool) (P : Type 0) → (P → ⊥) → when t P → ⊥
when_never true P f h = f h
when_never false P f h = h

pub either_iff : {A B C D : Type 0} → A ↔ C → B ↔ D → (A ⊎ B) ↔ (C ⊎ D)
either_iff f g = (elim [ inl a ↦ inl (f.0 a) | inr b ↦ inr (g.0 b) ], elim [ inl a ↦ inl (f.1 a) | inr b ↦ inr (g.1 b) ])

pub many_never : (p : ℕ → Bool) (K : List ℕ → Type 0) → ((x : List ℕ) → K x → ⊥) → (b : List ℕ) → many p K b → ⊥
many_never p K f [] h = f [] h
many_never p K f (c ∷ b) h = neither (f (c ∷ b)) (when_never (p c) (many p K b) (many_never p K f b)) h

pub many_iff : (p : ℕ → Bool) (K L : List ℕ → Type 0) → ((x : List ℕ) → K x ↔ L x) → (b : List ℕ) → many p K b ↔ many p L b
many_iff p K L f [] = f []
many_iff p K L f (c ∷ b) = either_iff (f (c ∷ b)) (go (p c) (many_iff p K L f b))
  where
    go : (t : Bool) → many p K b ↔ many p L b → when t (many p K b) ↔ when t (many p L b)
    go true g = g
    go false g = same

-- at a text's end
pub ends_none : {A : Type 0} (old v : List A) (P : List A → Type 0) → ((m : List A) → P m → ⊥) → Grows old v P ↔ (None ≡ Some v)
ends_none old v P f = never (grows_never old v P f) (λ e. cc)

pub ends_here : {A : Type 0} (old v : List A) (P : List A → Type 0) → ((m : List A) → P m → m ≡ []) → P [] → Grows old v P ↔ (Some old ≡ Some v)
ends_here {A} old v P f p = (λ h. let e : v ≡ old = h.1 ∙ ap (λ m. old ++ m) (f h.0 h.2) ∙ append-nil old in cc, λ e. let e' : old ≡ v = cc in ([], sym e' ∙ sym (append-nil old), p))

-- what is printed is read: no byte of a class, and the bytes of a text
pub many_none : (p : ℕ → Bool) (K : List ℕ → Type 0) (b : List ℕ) → K b → many p K b
many_none p K [] h = h
many_none p K (c ∷ b) h = inl h

pub word_on : (w : List ℕ) (K : List ℕ → Type 0) (r : List ℕ) → K r → word w K (w ++ r)
word_on [] K r h = h
word_on (c ∷ w) K r h = subst (λ t. when t (word w K (w ++ r))) (sym (eq-eqb c c refl)) (word_on w K r h)
