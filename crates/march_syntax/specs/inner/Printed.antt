-- Inner. For proofs and private contracts alone, beside Printed: the printed form of a march: the words `up`, `down`, `any` and `del`, braces, and no blanks.
use Rattle.std.specs.Prelude.{ℕ, zero, suc, List, [], ◌∷◌}

-- a separator, before each part but the first
abbrev pub separator : ℕ → ℕ → List ℕ
separator c zero = []
separator c (suc i) = c ∷ []
