-- Trusted. The lines of a text.
use Rattle.std.specs.Prelude.{ℕ, ◌+◌, ◌==◌, Bool, true, false, if◌then◌else◌, List, [], ◌∷◌, length}
use Rattle.std.specs.Char.{is_newline}
use Rattle.std.specs.List.{slice_split}
use Rattle.bist_text.specs.declared.text_lines.Line.{Line}
use Rattle.bist_text.specs.declared.text_lines.Lines.{Lines}

-- a line: its number, the number of its first byte, its bytes, and whether a line feed ends it
pub record TextLine : Type 0 where
  pub number : ℕ
  pub start : ℕ
  pub text : List ℕ
  pub ended : Bool

-- the lines in the parts between line feeds, where the first has this number and begins at this byte: each
-- part but the last is ended by a line feed, and the last is a line where it has any bytes
abbrev pub lines_of_parts : ℕ → ℕ → List (List ℕ) → List TextLine
lines_of_parts number start [] = []
lines_of_parts number start (x ∷ []) = if length x == 0 then [] else
    ((record { number = number; start = start; text = x; ended = false }) ∷ [])
lines_of_parts number start (x ∷ y ∷ more) =
    (record { number = number; start = start; text = x; ended = true }) ∷ lines_of_parts (number + 1) (start + length x + 1) (y ∷ more)

abbrev pub lines_from : ℕ → ℕ → List ℕ → List TextLine
lines_from number start text = lines_of_parts number start (slice_split is_newline text)

-- the lines of a text, numbered from 1
abbrev pub text_lines : List ℕ → List TextLine
text_lines text = lines_from 1 0 text

-- a line without where its bytes lie in memory
abbrev pub plain_line : Line → TextLine
plain_line l = record { number = l.number; start = l.start; text = l.text.now; ended = l.ended }

-- the lines that an iterator has left
abbrev pub lines_left : Lines → List TextLine
lines_left l = lines_from l.number l.start l.rest.now
