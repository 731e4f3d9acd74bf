-- Inner. For proofs and private contracts alone: what the reader hears in a line, as functions of its bytes.
use Rattle.std.specs.Prelude.{ℕ, ◌==◌, Bool, true, false, if◌then◌else◌, List, [], ◌∷◌, Option, Some, None, Result}
use Rattle.bist_text.specs.Grammar.{is_blank}
use Rattle.bist_text.specs.Keywords.{Word}
use Rattle.bist_text.specs.inner.Keywords.{all_words}
use Rattle.bist_text.specs.Lines.{TextLine}
use Rattle.bist_text.specs.Machine.{Outcome}
use Rattle.bist_text.specs.keyed.Reading.{Read, took, stuck, onward, outcome}
use Rattle.bist_text.specs.keyed.Parts.{spaced, byte_of, fits_of, word_of, number_of, hex_number_of, ends_with, remark_of, by_byte, items_of}
use Rattle.bist_text.specs.keyed.Lines.{line_of, answer}
use Rattle.bist_text.specs.keyed.Texts.{said_in, all_stated, versions}
use Rattle.bist_text.specs.declared.keyed_lines.LineFault.{LineFault}
use Rattle.bist_text.specs.declared.keyed_lines.WordKind.TheVariants.{Name as NameWord}
use Rattle.memory_desc.specs.LineText.{Term, index_bit, constant, Content, version, name, words, bits, latency, polarity, pause, scramble, log, backgrounds, is_hex, key_text}
use Rattle.memory_desc.specs.Statements.{Statement, version_in}
use Rattle.memory_desc.specs.declared.content.Key.{Key}
use Rattle.memory_desc.specs.declared.content.Key.TheVariants.{Memory, Name, Words, Bits, Latency, Polarity, Pause, Scramble, Backgrounds}
use Rattle.memory_desc.specs.declared.content.Version.{Version}
use Rattle.memory_desc.specs.declared.content.Version.TheVariants.{One, Two}

-- ---- the terms of a row

abbrev pub term_of : List ℕ → Read Term
term_of [] = stuck []
term_of (c ∷ b) =
    if c == 112 then onward (number_of b) (λ n x. took (index_bit n) x) else if c == 48 then took (constant false) b
    else if c == 49 then took (constant true) b else stuck (c ∷ b)

abbrev pub is_caret : ℕ → Bool
is_caret c = c == 94

abbrev pub marked_term_of : List ℕ → Read (Option Term)
marked_term_of b = onward (byte_of 94 b) (λ _ x. onward (term_of (spaced x)) (λ t x. took (Some t) x))

-- a further term, behind ^, or the end of the line
abbrev pub next_term_of : List ℕ → Read (Option Term)
next_term_of b = by_byte is_caret marked_term_of (remark_of None) (took None []) (spaced b)

abbrev pub terms_of : List ℕ → Read (List Term)
terms_of b = items_of next_term_of b

-- ---- the words of a list

abbrev pub hex_word_of : List ℕ → Read (Option ℕ)
hex_word_of b = onward (hex_number_of b) (λ w x. took (Some w) x)

abbrev pub spaced_word_of : List ℕ → Read (Option ℕ)
spaced_word_of b = by_byte is_hex hex_word_of (remark_of None) (took None []) b

-- a further word, behind blanks, or the end of the line
abbrev pub next_word_of : List ℕ → Read (Option ℕ)
next_word_of b = by_byte is_blank (λ x. spaced_word_of (spaced x)) (remark_of None) (took None []) b

abbrev pub words_of : List ℕ → Read (List ℕ)
words_of b = items_of next_word_of b

-- ---- items that are left

abbrev pub items_in : {A : Type 0} → Read (List A) → List A
items_in (took xs x) = xs
items_in (stuck x) = []

-- the next, and those behind it
abbrev pub items_after : {A : Type 0} → Option A → Read (List A) → List A
items_after None o = []
items_after (Some a) o = a ∷ items_in o

abbrev pub IsWhole : {A : Type 0} → Read A → Type 0
IsWhole (took a x) = Unit {0}
IsWhole (stuck x) = ⊥

-- ---- what stands behind a first word and blanks

abbrev pub numbered_of : (ℕ → Content) → List ℕ → Read (Option Content)
numbered_of f b = onward (number_of b) (λ n x. ends_with (Some (f n)) x)

-- the row of a bit, whose first term was read
abbrev pub row_from_of : ℕ → Term → List ℕ → Read (Option Content)
row_from_of i t b = onward (terms_of b) (λ ts x. took (Some (scramble i (t ∷ ts))) x)

abbrev pub row_of : List ℕ → Read (Option Content)
row_of b =
    onward (byte_of 97 b) (λ _ x. onward (number_of x)
    (λ i x. onward (byte_of 61 (spaced x)) (λ _ x. onward (term_of (spaced x)) (λ t x. row_from_of i t x))))

-- behind the first letter of `log`
abbrev pub log_end_of : List ℕ → Read (Option Content)
log_end_of b = onward (byte_of 111 b) (λ _ x. onward (byte_of 103 x) (λ _ x. ends_with (Some log) x))

abbrev pub log_of : List ℕ → Read (Option Content)
log_of b = onward (byte_of 108 b) (λ _ x. log_end_of x)

abbrev pub listed_of : List ℕ → Read (Option Content)
listed_of b = onward (hex_number_of b) (λ w x. onward (words_of x) (λ ws x. took (Some (backgrounds (w ∷ ws))) x))

abbrev pub is_l : ℕ → Bool
is_l c = c == 108

abbrev pub backgrounds_of : List ℕ → Read (Option Content)
backgrounds_of b = by_byte is_l log_of listed_of (stuck []) b

abbrev pub argument_of : Key → List ℕ → Read (Option Content)
argument_of Memory b = numbered_of version b
argument_of Name b = onward (word_of (fits_of NameWord) b) (λ n x. ends_with (Some (name n)) x)
argument_of Words b = numbered_of words b
argument_of Bits b = numbered_of bits b
argument_of Latency b = numbered_of latency b
argument_of Polarity b = onward (hex_number_of b) (λ w x. ends_with (Some (polarity w)) x)
argument_of Pause b = numbered_of pause b
argument_of Scramble b = row_of b
argument_of Backgrounds b = backgrounds_of b

-- ---- a line

-- the first words of a version's lines, and before a version is known
abbrev pub keys_in : Option Version → List Key
keys_in None = Memory ∷ []
keys_in (Some One) = Memory ∷ Name ∷ Words ∷ Bits ∷ Scramble ∷ Backgrounds ∷ []
keys_in (Some Two) = Memory ∷ Name ∷ Words ∷ Bits ∷ Scramble ∷ Backgrounds ∷ Latency ∷ Polarity ∷ Pause ∷ []

abbrev pub keys_of : Option Version → List (Word Key)
keys_of given = all_words (λ k. key_text k ∷ []) (keys_in given)

abbrev pub heard : Option Version → List ℕ → Outcome (Option Content)
heard given b = outcome b (line_of (keys_of given) argument_of b)

-- what a line says
abbrev pub said : List ℕ → Option Content
said b = said_in (heard (Some Two) b)

abbrev pub statements : List TextLine → List Statement
statements ls = all_stated said ls

-- the version that a line gives, where it has content
abbrev pub version_at : Option Version → List ℕ → Result (Option (Option Version)) LineFault
version_at given b = versions version_in (answer (heard given b))
