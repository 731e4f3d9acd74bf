-- The pieces of a line, by the next byte.
use Rattle.std.proofs.Common.{◌≡◌, ℕ, ◌==◌, Bool, true, false, List, ◌∷◌, refl, ◌↔◌, ap}
use Rattle.std.proofs.lemmas.Bool.{eqb-true}
use Rattle.bist_text.specs.Grammar.{many, when, is_blank}
use Rattle.bist_text.proofs.Pieces.{at_byte, also, skip, stay, same}
use Rattle.bist_text.specs.LineGrammar.{space, gap, comment, tail}

-- ---- tests

pub at_bool : (P : Bool → Type 0) (t : Bool) → (t ≡ true → P true) → (t ≡ false → P false) → P t
at_bool P true f g = f refl
at_bool P false f g = g refl

pub when_true : (t : Bool) (P : Type 0) → t ≡ true → when t P ↔ P
when_true true P e = same
when_true false P e = cc

pub when_false : (t : Bool) (P : Type 0) → t ≡ false → when t P → ⊥
when_false true P e h = cc
when_false false P e h = h

pub when_holds : (t : Bool) (P : Type 0) → when t P → (t ≡ true) × P
when_holds true P h = (refl, h)
when_holds false P h = absurd h

-- a byte of a class isn't a byte that isn't of it
pub apart : (p : ℕ → Bool) (c k : ℕ) → p c ≡ true → p k ≡ false → (c == k) ≡ false
apart p c k h n = at_bool (λ t. (c == k) ≡ t → (c == k) ≡ false) (c == k) (λ e _. (let z : c ≡ k = eqb-true c k e in let y : p c ≡ p k = ap p z in cc)) (λ e _. e) refl

-- a blank is one of three bytes
pub of_blank : (P : ℕ → Type 0) (c : ℕ) → is_blank c ≡ true → P 32 → P 9 → P 13 → P c
of_blank P c h p q r =
    at_byte P c 32 p (λ n32. at_byte P c 9 q (λ n9. at_byte P c 13 r (λ n13. (let z : is_blank c ≡ false = simp (n32, n9, n13) in let y : ⊥ = cc in absurd y))))

-- ---- any number of bytes of a class

pub many_on : (p : ℕ → Bool) (K : List ℕ → Type 0) (c : ℕ) (b : List ℕ) → p c ≡ true → (K (c ∷ b) → ⊥) → many p K (c ∷ b) ↔ many p K b
many_on p K c b e f = also (skip f) (when_true (p c) (many p K b) e)

pub many_off : (p : ℕ → Bool) (K : List ℕ → Type 0) (c : ℕ) (b : List ℕ) → p c ≡ false → many p K (c ∷ b) ↔ K (c ∷ b)
many_off p K c b e = stay (when_false (p c) (many p K b) e)

-- ---- blanks

pub space_on : (K : List ℕ → Type 0) (c : ℕ) (b : List ℕ) → is_blank c ≡ true → (K (c ∷ b) → ⊥) → space K (c ∷ b) ↔ space K b
space_on = many_on is_blank

pub space_off : (K : List ℕ → Type 0) (c : ℕ) (b : List ℕ) → is_blank c ≡ false → space K (c ∷ b) ↔ K (c ∷ b)
space_off = many_off is_blank

pub gap_on : (K : List ℕ → Type 0) (c : ℕ) (b : List ℕ) → is_blank c ≡ true → gap K (c ∷ b) ↔ space K b
gap_on K c b e = when_true (is_blank c) (space K b) e

pub gap_off : (K : List ℕ → Type 0) (c : ℕ) (b : List ℕ) → is_blank c ≡ false → gap K (c ∷ b) → ⊥
gap_off K c b e = when_false (is_blank c) (space K b) e

-- ---- the end of a line

pub tail_blank : (c : ℕ) (b : List ℕ) → is_blank c ≡ true → tail (c ∷ b) ↔ tail b
tail_blank c b e = space_on comment c b e (when_false (c == 35) (Unit {0}) (apart is_blank c 35 e refl))

pub tail_other : (c : ℕ) (b : List ℕ) → is_blank c ≡ false → tail (c ∷ b) ↔ when (c == 35) (Unit {0})
tail_other c b e = space_off comment c b e

pub tail_never : (c : ℕ) (b : List ℕ) → is_blank c ≡ false → (c == 35) ≡ false → tail (c ∷ b) → ⊥
tail_never c b e f h = when_false (c == 35) (Unit {0}) f ((tail_other c b e).0 h)
