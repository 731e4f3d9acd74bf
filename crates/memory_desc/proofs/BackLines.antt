-- A text of lines that each end with a line feed, and what its lines say.
use Rattle.memory_desc.proofs.Common.{Bool, Content, ContentText, Description, List, Say, Some, Statement, TextLine, [], and_parts, ap, cond, false, inr, is_newline, length, line_text, lines_text, lines_from, lines_of_parts, list_all, not, onto_first, refl, slice_split, stands, sym, true, version_in, ℕ, ◌++◌, ◌+◌, ◌∙◌, ◌∷◌, ◌≡◌}
use Rattle.bist_text.proofs.LineLemmas.{split_some}
use Rattle.memory_desc.specs.Described.{is_out_of_range, is_too_wide}
use Rattle.memory_desc.specs.declared.content.Version.{Version}

-- a line of text has no line feed
abbrev pub is_inside : ℕ → Bool
is_inside c = not (is_newline c)

-- what is said, line by line from this number
abbrev pub numbered : ℕ → List Content → List Statement
numbered n [] = []
numbered n (c ∷ cs) = (record { line = n; content = c }) ∷ numbered (n + 1) cs

-- the first part ends at the first line feed
first_part : (x rest : List ℕ) → list_all is_inside x ≡ true → slice_split is_newline (x ++ (10 ∷ rest)) ≡ x ∷ slice_split is_newline rest
first_part [] rest h = refl
first_part (c ∷ x) rest h =
    let parts = and_parts (is_inside c) (list_all is_inside x) h in go (is_newline c) parts.0 (first_part x rest parts.1)
  where
    go : (t : Bool) → not t ≡ true → slice_split is_newline (x ++ (10 ∷ rest)) ≡ x ∷ slice_split is_newline rest
        → cond t ([] ∷ slice_split is_newline (x ++ (10 ∷ rest))) (onto_first c (slice_split is_newline (x ++ (10 ∷ rest)))) ≡ (c ∷ x) ∷ slice_split is_newline rest
    go true e i = let z : ⊥ = cc in absurd z
    go false e i = ap (onto_first c) i

abbrev pub whole_line : ℕ → ℕ → List ℕ → TextLine
whole_line number start x = record { number = number; start = start; text = x; ended = true }

pub first_line : (number start : ℕ) (x rest : List ℕ) → list_all is_inside x ≡ true
    → lines_from number start (x ++ (10 ∷ rest)) ≡ whole_line number start x ∷ lines_from (number + 1) (start + length x + 1) rest
first_line number start x rest h =
    let some = split_some rest in
    ap (lines_of_parts number start) (first_part x rest h ∙ ap (λ (p : List (List ℕ)). x ∷ p) some.2)
    ∙ ap (λ (p : List (List ℕ)). whole_line number start x ∷ lines_of_parts (number + 1) (start + length x + 1) p) (sym some.2)

-- what holds of each content
abbrev pub Each : (Content → Type 0) → List Content → Type 0
Each P [] = Unit {0}
Each P (c ∷ cs) = P c × Each P cs

-- a text without a line feed
abbrev pub Line : (List ℕ → Type 0) → List ℕ → Type 0
Line K b = (list_all is_inside b ≡ true) × K b

abbrev pub IsLine : ℕ → Content → Type 0
IsLine size c = Line (λ b. ContentText b c) (line_text size c)

-- a content of this memory's lines may stand in the version, and is refused for no value
abbrev pub IsKept : Description → Version → Content → Type 0
IsKept d v c = (IsLine d.bits c × (stands (Some v) c ≡ true)) × (is_out_of_range c ≡ false) × (is_too_wide d.scramble.width d.bits c ≡ false)

-- what the lines say where a version is known
pub lines_say : (d : Description) (v : Version) (number start : ℕ) (cs : List Content) → Each (IsKept d v) cs
    → Say ContentText stands version_in (lines_from number start (lines_text d.bits cs)) (Some v) (numbered number cs)
lines_say d v number start [] h = refl
lines_say d v number start (c ∷ cs) h =
    let line = h.0.0.0 in
    rw (first_line number start (line_text d.bits c) (lines_text d.bits cs) line.0)
    (Some c, numbered (number + 1) cs, inr (c, h.0.0.1, refl, line.1), lines_say d v (number + 1) (start + length (line_text d.bits c) + 1) cs h.1, refl)
