-- Trusted. The printed form of a memory.
use Rattle.std.specs.Prelude.{ℕ, zero, suc, ◌==◌, ◌&&◌, Bool, true, false, if◌then◌else◌, List, [], ◌∷◌, ◌++◌, codes, decimal}
use Rattle.std.specs.Int.{bit_at}
use Rattle.bist_text.specs.Numbers.{word_text}
use Rattle.scrambler.specs.Scrambling.{Scrambling, row, is_identity}
use Rattle.memory_desc.specs.Descriptions.{Description}
use Rattle.memory_desc.specs.LineText.{Term, index_bit, constant, Content, version, name, words, bits, latency, polarity, pause, scramble, log, backgrounds, kind_of, key_text}

-- ---- the text of a line

abbrev pub term_text : Term → List ℕ
term_text (index_bit n) = 112 ∷ decimal n
term_text (constant false) = codes "0"
term_text (constant true) = codes "1"

-- terms, the first behind this mark and each later one behind ^, with a blank on either side
abbrev pub terms_text : ℕ → List Term → List ℕ
terms_text mark [] = []
terms_text mark (t ∷ ts) = 32 ∷ mark ∷ 32 ∷ (term_text t ++ terms_text 94 ts)

-- words of so many bits, each behind a blank, in as many digits as they need
abbrev pub words_text : ℕ → List ℕ → List ℕ
words_text size [] = []
words_text size (w ∷ ws) = 32 ∷ (word_text size w ++ words_text size ws)

-- what stands behind a line's first word
abbrev pub argument_text : ℕ → Content → List ℕ
argument_text size (version n) = 32 ∷ decimal n
argument_text size (name b) = 32 ∷ b
argument_text size (words n) = 32 ∷ decimal n
argument_text size (bits n) = 32 ∷ decimal n
argument_text size (latency n) = 32 ∷ decimal n
argument_text size (polarity w) = words_text size (w ∷ [])
argument_text size (pause n) = 32 ∷ decimal n
argument_text size (scramble i ts) = 32 ∷ 97 ∷ (decimal i ++ terms_text 61 ts)
argument_text size log = codes " log"
argument_text size (backgrounds ws) = words_text size ws

abbrev pub line_text : ℕ → Content → List ℕ
line_text size c = key_text (kind_of c) ++ argument_text size c

-- each line ends with a line feed
abbrev pub lines_text : ℕ → List Content → List ℕ
lines_text size [] = []
lines_text size (c ∷ cs) = line_text size c ++ (10 ∷ lines_text size cs)

-- ---- the lines of a memory

-- the index bits below n that a row names, in ascending order, and then these terms
abbrev pub index_terms : ℕ → ℕ → List Term → List Term
index_terms names zero ts = ts
index_terms names (suc n) ts = index_terms names n (if bit_at names n == 1 then index_bit n ∷ ts else ts)

-- 1, where a row's constant is 1
abbrev pub one_term : ℕ → List Term
one_term bit = if bit == 1 then constant true ∷ [] else []

-- the terms of a row: its index bits, and then its constant
abbrev pub row_terms : Scrambling → ℕ → List Term
row_terms s i = index_terms (row s i) s.width (one_term (bit_at s.constant i))

-- the first n rows, and then these lines
abbrev pub with_rows : Scrambling → ℕ → List Content → List Content
with_rows s zero cs = cs
with_rows s (suc n) cs = with_rows s n (scramble n (row_terms s n) ∷ cs)

-- how many rows are printed: none where they change nothing
abbrev pub rows_printed : Scrambling → ℕ
rows_printed s = if is_identity s then 0 else s.width

-- version 1 can say it: the latency and the pause are one cycle, and no bit is stored inverted
abbrev pub is_plain : Description → Bool
is_plain d = (d.latency == 1) && (d.polarity == 0) && (d.pause == 1)

abbrev pub version_number : Bool → ℕ
version_number plain = if plain then 1 else 2

-- the lines of every version, and then these
abbrev pub with_head : Description → Bool → List Content → List Content
with_head d plain cs = version (version_number plain) ∷ name d.name ∷ words d.words ∷ bits d.bits ∷ cs

-- what version 2 says besides, and then these lines
abbrev pub with_ports : Description → Bool → List Content → List Content
with_ports d true cs = cs
with_ports d false cs = latency d.latency ∷ polarity d.polarity ∷ pause d.pause ∷ cs

-- the lines in version 1, where it is plain, or 2, with the first so many rows
abbrev pub contents : Description → Bool → ℕ → List Content
contents d plain rows = with_head d plain (with_ports d plain (with_rows d.scramble rows (backgrounds d.backgrounds ∷ [])))

-- the printed form: in version 1 where it can say it, and with the scrambling unless it is the identity
abbrev pub printed : Description → List ℕ
printed d = lines_text d.bits (contents d (is_plain d) (rows_printed d.scramble))
