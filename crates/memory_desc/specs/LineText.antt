-- Trusted. The grammar of one line of a memory description, without its line feed.
use Rattle.std.specs.Prelude.{◌≡◌, ℕ, ◌||◌, ◌&&◌, nat_le, Bool, true, false, List, [], ◌∷◌, length, codes}
use Rattle.std.specs.List.{list_all}
use Rattle.std.specs.Str.Parse.{digits_value}
use Rattle.bist_text.specs.Grammar.{byte, word}
use Rattle.memory_desc.specs.Names.{is_digit, is_identifier}
use Rattle.memory_desc.specs.declared.content.Key.{Key}
use Rattle.memory_desc.specs.declared.content.Key.TheVariants.{Memory, Name, Words, Bits, Latency, Polarity, Pause, Scramble, Backgrounds}
use Rattle.memory_desc.specs.declared.content.Version.{Version}
use Rattle.memory_desc.specs.declared.content.Version.TheVariants.{One, Two}
use Rattle.bist_text.specs.LineGrammar.{space, gap, tail}
use Rattle.bist_text.specs.keyed.Numbers.{number}
-- a term of a scrambling row: an index bit or a constant
pub use Rattle.memory_desc.specs.declared.content.Term.{Term}
pub use Rattle.memory_desc.specs.declared.content.Term.TheVariants.{IndexBit as index_bit, Constant as constant}

-- what a content line says
pub data Content : Type 0 where
  version : ℕ → Content
  name : List ℕ → Content
  words : ℕ → Content
  bits : ℕ → Content
  latency : ℕ → Content
  polarity : ℕ → Content
  pause : ℕ → Content
  scramble : ℕ → List Term → Content
  log : Content
  backgrounds : List ℕ → Content

abbrev pub kind_of : Content → Key
kind_of (version n) = Memory
kind_of (name b) = Name
kind_of (words n) = Words
kind_of (bits n) = Bits
kind_of (latency n) = Latency
kind_of (polarity w) = Polarity
kind_of (pause n) = Pause
kind_of (scramble i ts) = Scramble
kind_of log = Backgrounds
kind_of (backgrounds ws) = Backgrounds

-- the lines that a version's table has: latencies, polarities and pauses came with version 2
abbrev pub in_table : Version → Key → Bool
in_table Two key = true
in_table One Latency = false
in_table One Polarity = false
in_table One Pause = false
in_table One key = true

abbrev pub is_hex : ℕ → Bool
is_hex c = is_digit c || (nat_le 65 c && nat_le c 70) || (nat_le 97 c && nat_le c 102)

-- one to sixteen hexadecimal digits
abbrev pub is_word : List ℕ → Bool
is_word ds = list_all is_hex ds && nat_le 1 (length ds) && nat_le (length ds) 16

-- such digits with this value, and then K
abbrev pub hex_word : ℕ → (List ℕ → Type 0) → List ℕ → Type 0
hex_word w K b = (ds : List ℕ) × (is_word ds ≡ true) × (digits_value 16 ds ≡ w) × word ds K b

-- a name is an identifier
abbrev pub is_formed : Content → Bool
is_formed (name b) = is_identifier b
is_formed other = true

abbrev pub term : Term → (List ℕ → Type 0) → List ℕ → Type 0
term (index_bit n) K = byte 112 (number n K)
term (constant false) K = byte 48 K
term (constant true) K = byte 49 K

-- further terms, each behind ^
abbrev pub more_terms : List Term → (List ℕ → Type 0) → List ℕ → Type 0
more_terms [] K = K
more_terms (t ∷ ts) K = space (byte 94 (space (term t (more_terms ts K))))

-- = and the terms
abbrev pub equation : List Term → (List ℕ → Type 0) → List ℕ → Type 0
equation [] K b = ⊥
equation (t ∷ ts) K b = space (byte 61 (space (term t (more_terms ts K)))) b

-- further words, each behind blanks
abbrev pub more_words : List ℕ → (List ℕ → Type 0) → List ℕ → Type 0
more_words [] K = K
more_words (w ∷ ws) K = gap (hex_word w (more_words ws K))

-- what stands behind a line's first word
abbrev pub argument : Content → (List ℕ → Type 0) → List ℕ → Type 0
argument (version n) K b = number n K b
argument (name n) K b = word n K b
argument (words n) K b = number n K b
argument (bits n) K b = number n K b
argument (latency n) K b = number n K b
argument (polarity w) K b = hex_word w K b
argument (pause n) K b = number n K b
argument (scramble i ts) K b = byte 97 (number i (equation ts K)) b
argument log K b = word (codes "log") K b
argument (backgrounds []) K b = ⊥
argument (backgrounds (w ∷ ws)) K b = hex_word w (more_words ws K) b

abbrev pub key_text : Key → List ℕ
key_text Memory = codes "memory"
key_text Name = codes "name"
key_text Words = codes "words"
key_text Bits = codes "bits"
key_text Latency = codes "latency"
key_text Polarity = codes "polarity"
key_text Pause = codes "pause"
key_text Scramble = codes "scramble"
key_text Backgrounds = codes "backgrounds"

-- A content line.
abbrev pub ContentText : List ℕ → Content → Type 0
ContentText b c = (is_formed c ≡ true) × space (word (key_text (kind_of c)) (gap (argument c tail))) b
