-- Public. What readers of the parts of a line make of what is left of it.
use Rattle.std.specs.Prelude.{ℕ, ◌==◌, ◌&&◌, Bool, true, false, if◌then◌else◌, List, [], ◌∷◌, length, Option, Some, None, zero, suc, ◌+◌, ◌||◌, not, nat_lt, nat_le}
use Rattle.std.specs.Str.Parse.{digits_value}
use Rattle.bist_text.specs.declared.keywords.Letters.{Letters}
use Rattle.bist_text.specs.declared.keywords.Spelled.{Spelled}
use Rattle.bist_text.specs.declared.keywords.Spelled.TheVariants.{More, Whole}
use Rattle.bist_text.specs.Grammar.{is_blank}
use Rattle.bist_text.specs.Keywords.{Word, spell}
use Rattle.bist_text.specs.Identifiers.{is_digit, begins_identifier, in_identifier}
use Rattle.bist_text.specs.declared.keyed_lines.WordKind.{WordKind as ClassName}
use Rattle.bist_text.specs.declared.keyed_lines.WordKind.TheVariants.{Number, Word as HexWord, Name, File}
use Rattle.bist_text.specs.keyed.Reading.{Read, took, stuck, onward}

-- ---- blanks, a byte, the end

-- behind any number of blanks
abbrev pub spaced : List ℕ → List ℕ
spaced [] = []
spaced (c ∷ b) = if is_blank c then spaced b else c ∷ b

abbrev pub gap_of : List ℕ → Read (Unit {0})
gap_of [] = stuck []
gap_of (c ∷ b) = if is_blank c then took tt (spaced b) else stuck (c ∷ b)

abbrev pub byte_of : ℕ → List ℕ → Read (Unit {0})
byte_of d [] = stuck []
byte_of d (c ∷ b) = if c == d then took tt b else stuck (c ∷ b)

-- nothing, or a comment
abbrev pub comment_of : List ℕ → Read (Unit {0})
comment_of [] = took tt []
comment_of (c ∷ b) = if c == 35 then took tt [] else stuck (c ∷ b)

abbrev pub end_of : List ℕ → Read (Unit {0})
end_of b = comment_of (spaced b)

-- the end behind what says v
abbrev pub ends_with : {V : Type 0} → V → List ℕ → Read V
ends_with v b = onward (end_of b) (λ _ x. took v x)

abbrev pub remark_of : {V : Type 0} → V → List ℕ → Read V
remark_of v b = onward (comment_of b) (λ _ x. took v x)

abbrev pub is_hash : ℕ → Bool
is_hash c = c == 35

-- ---- words

-- which bytes may stand at which place of a word
abbrev pub Class : Type 0
Class = ℕ → ℕ → Bool

-- that behind its first byte
abbrev pub later : Class → Class
later fits = λ n c. fits (suc n) c

abbrev pub all_fit : Class → List ℕ → Bool
all_fit fits [] = true
all_fit fits (c ∷ w) = fits 0 c && all_fit (later fits) w

abbrev pub is_word : Class → List ℕ → Bool
is_word fits [] = false
is_word fits (c ∷ w) = fits 0 c && all_fit (later fits) w

-- the longest front that fits, and what is behind it
abbrev pub front_of : Class → List ℕ → List ℕ
front_of fits [] = []
front_of fits (c ∷ b) = if fits 0 c then c ∷ front_of (later fits) b else []

abbrev pub behind_of : Class → List ℕ → List ℕ
behind_of fits [] = []
behind_of fits (c ∷ b) = if fits 0 c then behind_of (later fits) b else c ∷ b

-- one or more bytes
abbrev pub word_of : Class → List ℕ → Read (List ℕ)
word_of fits [] = stuck []
word_of fits (c ∷ b) = if fits 0 c then took (c ∷ front_of (later fits) b) (behind_of (later fits) b) else stuck (c ∷ b)

-- a class: at most so many bytes of one kind, any number, or a first of another kind
abbrev pub up_to : (ℕ → Bool) → ℕ → Class
up_to p most = λ n c. p c && nat_lt n most

abbrev pub all_of : (ℕ → Bool) → Class
all_of p = λ n c. p c

abbrev pub begun_by : (ℕ → Bool) → (ℕ → Bool) → Class
begun_by q p zero c = q c
begun_by q p (suc n) c = p c

-- how many bytes can stand in a word, behind i bytes of it
abbrev pub length_of : Class → ℕ → List ℕ → ℕ
length_of fits i [] = 0
length_of fits i (c ∷ b) = if fits i c then length_of fits (suc i) b + 1 else 0

abbrev pub is_hex_digit : ℕ → Bool
is_hex_digit c = is_digit c || (nat_le 65 c && nat_le c 70) || (nat_le 97 c && nat_le c 102)

-- a byte of the name of a file
abbrev pub is_file_byte : ℕ → Bool
is_file_byte c = nat_le 33 c && nat_le c 126 && not (c == 35)

abbrev pub fits_of : ClassName → Class
fits_of Number = up_to is_digit 9
fits_of HexWord = up_to is_hex_digit 16
fits_of Name = begun_by begins_identifier in_identifier
fits_of File = all_of is_file_byte

-- the value of one to nine digits
abbrev pub number_of : List ℕ → Read ℕ
number_of b = onward (word_of (fits_of Number) b) (λ ds x. took (digits_value 10 ds) x)

-- the value of one to sixteen hexadecimal digits
abbrev pub hex_number_of : List ℕ → Read ℕ
hex_number_of b = onward (word_of (fits_of HexWord) b) (λ ds x. took (digits_value 16 ds) x)

-- ---- words of a table

abbrev pub by_letter : {N : Type 0} → Option (Spelled N) → ℕ → List ℕ → (Letters → Read N) → Read N
by_letter None c b f = stuck (c ∷ b)
by_letter (Some (More q)) c b f = f q
by_letter (Some (Whole n)) c b f = took n b

abbrev pub key_from : {N : Type 0} → List (Word N) → Letters → List ℕ → Read N
key_from ws q [] = stuck []
key_from ws q (c ∷ b) = by_letter (spell ws q c) c b (λ p. key_from ws p b)

abbrev pub no_letters : Letters
no_letters = record { word = 0; count = 0 }

abbrev pub key_of : {N : Type 0} → List (Word N) → List ℕ → Read N
key_of ws b = key_from ws no_letters b

-- ---- by the next byte

abbrev pub by_byte : {V : Type 0} → (ℕ → Bool) → (List ℕ → Read V) → (List ℕ → Read V) → Read V → List ℕ → Read V
by_byte p r s o [] = o
by_byte p r s o (c ∷ b) = if p c then r (c ∷ b) else s (c ∷ b)

-- ---- items, one after another

-- behind an item: the next, or nothing more
abbrev pub by_item : {A V : Type 0} → Option A → Read V → (A → Read V) → Read V
by_item None r f = r
by_item (Some a) r f = f a

-- at most so many
abbrev pub items_from : {A V : Type 0} → (List ℕ → Read (Option A)) → ℕ → (List A → V) → List ℕ → Read V
items_from next zero f b = took (f []) b
items_from next (suc n) f b = onward (next b) (λ o x. by_item o (took (f []) x) (λ a. items_from next n (λ xs. f (a ∷ xs)) x))

-- all of them; each takes a byte at least
abbrev pub items_of : {A : Type 0} → (List ℕ → Read (Option A)) → List ℕ → Read (List A)
items_of next b = items_from next (length b) (λ xs. xs) b
