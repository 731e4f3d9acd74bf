-- What follows a piece of a grammar, and what that says, drawn out of the piece.
use Rattle.std.proofs.Common.{ℕ, ◌==◌, ◌≡◌, ◌⊎◌, ◌↔◌, Bool, true, false, List, [], ◌∷◌, inl, inr}
use Rattle.std.specs.Str.Parse.{digits_value}
use Rattle.bist_text.specs.Grammar.{byte, word, many, is_blank}
use Rattle.bist_text.specs.LineGrammar.{space, gap}
use Rattle.bist_text.proofs.LinePieces.{when_true, when_holds}

-- where each text that follows has a value, the piece has one
abbrev pub Draws : ((List ℕ → Type 0) → List ℕ → Type 0) → Type 1
Draws T = (A : Type 0) (K : List ℕ → Type 0) (P : A → List ℕ → Type 0) → ((x : List ℕ) → K x → (a : A) × P a x) → (b : List ℕ) → T K b → (a : A) × T (P a) b

pub record Carries (T : (List ℕ → Type 0) → List ℕ → Type 0) : Type 1 where
  pub draw : Draws T

pub byte_carries : (d : ℕ) → Carries (byte d)
byte_carries d = record { draw = go }
  where
    go : Draws (byte d)
    go A K P f [] h = absurd h
    go A K P f (c ∷ b) h = let q = when_holds (c == d) (K b) h in let r = f b q.1 in (r.0, (when_true (c == d) (P r.0 b) q.0).1 r.1)

pub many_carries : (p : ℕ → Bool) → Carries (many p)
many_carries p = record { draw = go }
  where
    go : Draws (many p)
    go A K P f [] h = f [] h
    go A K P f (c ∷ b) h = elim h [
      | inl k ↦ (let r = f (c ∷ b) k in (r.0, inl r.1))
      | inr w ↦ (let q = when_holds (p c) (many p K b) w in let r = go A K P f b q.1 in (r.0, inr ((when_true (p c) (many p (P r.0) b) q.0).1 r.1)))
    ]

pub gap_carries : Carries gap
gap_carries = record { draw = go }
  where
    go : Draws gap
    go A K P f [] h = absurd h
    go A K P f (c ∷ b) h = let q = when_holds (is_blank c) (space K b) h in let r = (many_carries is_blank).draw A K P f b q.1 in (r.0, (when_true (is_blank c) (space (P r.0) b) q.0).1 r.1)

-- a piece, and then another
pub after : {T U : (List ℕ → Type 0) → List ℕ → Type 0} → Carries T → Carries U → Carries (λ K. T (U K))
after {U = U} t u = record { draw = λ A K P f b h. t.draw A (U K) (λ a. U (P a)) (u.draw A K P f) b h }

pub word_carries : (w : List ℕ) → Carries (word w)
word_carries [] = record { draw = λ A K P f b h. f b h }
word_carries (d ∷ w) = after (byte_carries d) (word_carries w)

-- digits that pass a test, with this value
abbrev pub Valued : ℕ → (List ℕ → Bool) → ℕ → (List ℕ → Type 0) → List ℕ → Type 0
Valued base test n K b = (ds : List ℕ) × (test ds ≡ true) × (digits_value base ds ≡ n) × word ds K b

pub value_carries : (base : ℕ) (test : List ℕ → Bool) (n : ℕ) → Carries (Valued base test n)
value_carries base test n = record { draw = λ A K P f b h. (let r = (word_carries h.0).draw A K P f b h.3 in (r.0, (h.0, h.1, h.2, r.1))) }

pub onto : {T : (List ℕ → Type 0) → List ℕ → Type 0} → Carries T → (K L : List ℕ → Type 0) → ((x : List ℕ) → K x → L x) → (b : List ℕ) → T K b → T L b
onto t K L f b h = (t.draw (Unit {0}) K (λ _. L) (λ x k. (tt, f x k)) b h).1

pub nothing : {T : (List ℕ → Type 0) → List ℕ → Type 0} → Carries T → (b : List ℕ) → T (λ _. ⊥) b → ⊥
nothing t b h = (t.draw ⊥ (λ _. ⊥) (λ _ _. ⊥) (λ x k. (k, k)) b h).0

pub either : {T : (List ℕ → Type 0) → List ℕ → Type 0} → Carries T → (K L : List ℕ → Type 0) (b : List ℕ) → T (λ x. K x ⊎ L x) b → T K b ⊎ T L b
either {T} t K L b h = (let r = t.draw _ (λ x. K x ⊎ L x) Part (λ x. elim [ inl k ↦ (true, k) | inr l ↦ (false, l) ]) b h in of r.0 r.1)
  where
    Part : Bool → List ℕ → Type 0
    Part true = K
    Part false = L

    of : (t : Bool) → T (Part t) b → T K b ⊎ T L b
    of true k = inl k
    of false l = inr l

-- what says v, and how it stands
abbrev pub Said : {A V : Type 0} → (A → V) → (A → List ℕ → Type 0) → List ℕ → V → Type 0
Said {A} f T x v = (a : A) × (v ≡ f a) × T a x

pub said_on : {A V : Type 0} {Q : (List ℕ → Type 0) → List ℕ → Type 0} → Carries Q → (f : A → V) (T : A → List ℕ → Type 0) (x : List ℕ) (v : V) → Q (λ y. Said f T y v) x ↔ Said f (λ a. Q (T a)) x v
said_on {A} t f T x v = (
  λ h. (let r = t.draw _ (λ y. Said f T y v) (λ (q : (a : A) × (v ≡ f a)) y. T q.0 y) (λ y k. ((k.0, k.1), k.2)) x h in (r.0.0, r.0.1, r.1)),
  λ h. onto t (T h.0) (λ y. Said f T y v) (λ y k. (h.0, h.1, k)) x h.2,
)
