-- Trusted. Grammars as relations between bytes and values. A piece of a grammar takes what may follow it, a set of
-- texts, and gives the texts that begin with the piece and go on so. A grammar is then written in the order
-- in which its text is read: `word (codes "up") (byte 40 K)` is "up", an opening parenthesis, and then K.
use Rattle.std.specs.Prelude.{◌≡◌, ℕ, ◌+◌, ◌<◌, Bool, true, false, List, [], ◌∷◌, ◌++◌, length, take, ◌⊎◌, ◌==◌, ◌||◌, nat_lt}
use Rattle.std.specs.List.{list_all}

-- nothing follows
abbrev pub finish : List ℕ → Type 0
finish [] = Unit {0}
finish (_ ∷ _) = ⊥

-- P where the test holds, and nothing else
abbrev pub when : Bool → Type 0 → Type 0
when true P = P
when false P = ⊥

-- the byte c
abbrev pub byte : ℕ → (List ℕ → Type 0) → List ℕ → Type 0
byte c K [] = ⊥
byte c K (x ∷ b) = when (x == c) (K b)

-- these bytes
abbrev pub word : List ℕ → (List ℕ → Type 0) → List ℕ → Type 0
word [] K = K
word (c ∷ w) K = byte c (word w K)

-- one of these texts
abbrev pub one_of : List (List ℕ) → (List ℕ → Type 0) → List ℕ → Type 0
one_of [] K b = ⊥
one_of (w ∷ ws) K b = word w K b ⊎ one_of ws K b

-- any number of bytes of a class
abbrev pub many : (ℕ → Bool) → (List ℕ → Type 0) → List ℕ → Type 0
many p K [] = K []
many p K (x ∷ b) = K (x ∷ b) ⊎ when (p x) (many p K b)

-- a blank: space, tab or carriage return
abbrev pub is_blank : ℕ → Bool
is_blank c = (c == 32) || (c == 9) || (c == 13)

-- numbers that are bytes
abbrev pub are_bytes : List ℕ → Bool
are_bytes b = list_all (λ c. nat_lt c 256) b

-- Some bytes after b give a text of the grammar.
abbrev pub Continues : {V : Type 0} → (List ℕ → V → Type 0) → List ℕ → Type 0
Continues {V} G b = (more : List ℕ) × (v : V) × (are_bytes more ≡ true) × G (b ++ more) v

-- The first k bytes of b continue, and the first k + 1 don't.
pub record IsUnexpected {V : Type 0} (G : List ℕ → V → Type 0) (b : List ℕ) (k : ℕ) : Type 0 where
  pub within : k < length b
  pub before : Continues G (take k b)
  pub after : Continues G (take (k + 1) b) → ⊥

-- b is no text of the grammar, and continues to one.
pub record IsTruncated {V : Type 0} (G : List ℕ → V → Type 0) (b : List ℕ) : Type 0 where
  pub none : (v : V) → G b v → ⊥
  pub before : Continues G b
