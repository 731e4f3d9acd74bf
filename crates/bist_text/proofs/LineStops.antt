-- Where pieces of a line can't begin, and runs of a class that begin.
use Rattle.std.proofs.Common.{◌≡◌, ℕ, ◌==◌, Bool, true, false, List, ◌∷◌, refl, ◌≤◌, length, ◌&&◌}
use Rattle.std.proofs.lemmas.Bool.{and_parts, and_from, le-leb, leb-true}
use Rattle.bist_text.specs.Grammar.{byte, is_blank}
use Rattle.std.specs.List.{list_all}
use Rattle.std.specs.Prelude.{nat_le}
use Rattle.bist_text.specs.LineGrammar.{space, tail, gap}
use Rattle.bist_text.proofs.LinePieces.{at_bool, when_false, when_holds, apart, of_blank, space_off, tail_never}

-- a byte of a class that has no blank isn't a blank
pub not_blank : (p : ℕ → Bool) (c : ℕ) → p c ≡ true → p 32 ≡ false → p 9 ≡ false → p 13 ≡ false → is_blank c ≡ false
not_blank p c h a b d =
    at_bool (λ t. is_blank c ≡ t → is_blank c ≡ false) (is_blank c)
    (λ e _. absurd (of_blank (λ x. p x ≡ true → ⊥) c e (λ k. (let z : ⊥ = cc in z)) (λ k. (let z : ⊥ = cc in z)) (λ k. (let z : ⊥ = cc in z)) h))
    (λ e _. e) refl

-- a class that no blank and no # is of, as digits
pub record IsPlain (p : ℕ → Bool) : Type 0 where
  pub space_no : p 32 ≡ false
  pub tab_no : p 9 ≡ false
  pub return_no : p 13 ≡ false
  pub hash_no : p 35 ≡ false

pub plain_blank : (p : ℕ → Bool) (c : ℕ) → IsPlain p → p c ≡ true → is_blank c ≡ false
plain_blank p c q h = not_blank p c h q.space_no q.tab_no q.return_no

-- a space and then the byte k, where k isn't of the class
pub no_mark : (p : ℕ → Bool) (c k : ℕ) (K : List ℕ → Type 0) (b : List ℕ) → IsPlain p → p c ≡ true → p k ≡ false → space (byte k K) (c ∷ b) → ⊥
no_mark p c k K b q h n s = when_false (c == k) (K b) (apart p c k h n) ((space_off (byte k K) c b (plain_blank p c q h)).0 s)

-- no text of K begins with a byte of the class
abbrev pub Stops : (ℕ → Bool) → (List ℕ → Type 0) → Type 0
Stops p K = (c : ℕ) (b : List ℕ) → p c ≡ true → K (c ∷ b) → ⊥

pub gap_stops : (p : ℕ → Bool) (K : List ℕ → Type 0) → IsPlain p → Stops p (gap K)
gap_stops p K off c b on h =
    (let blank : is_blank c ≡ true = (when_holds (is_blank c) (space K b) h).0 in let other = plain_blank p c off on in let z : ⊥ = cc in z)

pub tail_stops : (p : ℕ → Bool) → IsPlain p → Stops p tail
tail_stops p off c b on h = tail_never c b (plain_blank p c off on) (apart p c 35 on off.hash_no) h

abbrev pub is_run : (ℕ → Bool) → ℕ → List ℕ → Bool
is_run p most ds = list_all p ds && nat_le 1 (length ds) && nat_le (length ds) most

pub run_parts : (p : ℕ → Bool) (most : ℕ) (ds : List ℕ) → is_run p most ds ≡ true → (list_all p ds ≡ true) × (1 ≤ length ds) × (length ds ≤ most)
run_parts p most ds h =
    let outer = and_parts (list_all p ds && nat_le 1 (length ds)) (nat_le (length ds) most) h in
    let inner = and_parts (list_all p ds) (nat_le 1 (length ds)) outer.0 in
    (inner.0, leb-true 1 (length ds) inner.1, leb-true (length ds) most outer.1)

pub run_of : (p : ℕ → Bool) (most : ℕ) (ds : List ℕ) → list_all p ds ≡ true → 1 ≤ length ds → length ds ≤ most → is_run p most ds ≡ true
run_of p most ds a l m =
    and_from (list_all p ds && nat_le 1 (length ds)) (nat_le (length ds) most)
    (and_from (list_all p ds) (nat_le 1 (length ds)) a (le-leb 1 (length ds) l)) (le-leb (length ds) most m)
