-- Trusted. The pieces of a line: blanks, and a comment at its end.
use Rattle.std.specs.Prelude.{ℕ, ◌==◌, List, [], ◌∷◌}
use Rattle.bist_text.specs.Grammar.{many, when, is_blank}

-- any number of blanks
abbrev pub space : (List ℕ → Type 0) → List ℕ → Type 0
space K = many is_blank K

-- at least one blank
abbrev pub gap : (List ℕ → Type 0) → List ℕ → Type 0
gap K [] = ⊥
gap K (c ∷ b) = when (is_blank c) (space K b)

-- nothing, or a comment
abbrev pub comment : List ℕ → Type 0
comment [] = Unit {0}
comment (c ∷ b) = when (c == 35) (Unit {0})

abbrev pub tail : List ℕ → Type 0
tail b = space comment b
