-- Public. What an escape's line says of its word: the bits that it has at the two places that the line names, in their order.
use Rattle.std.specs.Prelude.{◌≡◌, ◌++◌, ℕ, List, [], ◌∷◌, codes, decimal, slice_index}
use Rattle.report_lines.specs.Lines.{content_text}
use Rattle.word_device.specs.Chips.{has_bit}
use Rattle.word_coupling.specs.declared.judging.WordEscape.{WordEscape}
use Rattle.word_coupling.specs.Escapes.{Holds}
use Rattle.word_coupling.specs.Report.{word_escape_text}

-- the text with these places and digits
abbrev pub said_of : ℕ → ℕ → ℕ → List ℕ
said_of value agg vic =
    (codes " aggressor " ++ decimal agg ++ codes " victim " ++ decimal vic)
    ++ (codes " content " ++ content_text (has_bit value agg ∷ has_bit value vic ∷ []))

abbrev pub DigitsAreOfPlaces : Type 0
DigitsAreOfPlaces =
    (e : WordEscape) (content : List ℕ) (word : ℕ) → Holds content word e → word_escape_text e ≡ said_of (slice_index content word) e.agg e.vic
