-- Inner. For proofs and private contracts alone, beside Printed: texts behind what is written already.
use Rattle.std.specs.Prelude.{◌≡◌, ℕ, List, ◌∷◌, ◌++◌}
use Rattle.memory_desc.specs.LineText.{Content}
use Rattle.memory_desc.specs.Printed.{lines_text}

-- the end of a line, and further lines
abbrev pub further : ℕ → List Content → List ℕ
further size cs = 10 ∷ lines_text size cs

-- what is written goes from old to new, as the lines that stand before any others; the last line's end is still to be written
abbrev pub Adds : ℕ → (List Content → List Content) → List ℕ → List ℕ → Type 0
Adds size before old new = (cs : List Content) → new ++ further size cs ≡ old ++ further size (before cs)
