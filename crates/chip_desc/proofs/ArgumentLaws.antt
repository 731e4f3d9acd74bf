-- What stands behind the first word of a line of a chip file is read as the grammar says.
use Rattle.chip_desc.proofs.Common.{Budget, Chip, Content, ContentText, ChipKey, LineOf, List, Name, None, Option, Some, ChipVersion, [], and_from, and_parts, argument, argument_of, arith, budget, heard, inl, inr, is_file, is_formed, key_text, keys_in, kind_of, le-leb, length, list_all, may_stand, name, nat_le, refl, stands, sym, true, unit, version, ℕ, ◌↔◌, ◌∙◌, ◌∷◌, ◌≡◌}
use Rattle.bist_text.specs.Grammar.{is_blank}
use Rattle.bist_text.specs.LineGrammar.{tail}
use Rattle.bist_text.specs.inner.Machine.{IsExact}
use Rattle.bist_text.specs.keyed.Parts.{fits_of, is_word, is_file_byte}
use Rattle.bist_text.specs.declared.keyed_lines.WordKind.TheVariants.{Name as NameWord, File as FileWord}
use Rattle.bist_text.proofs.KeywordLaws.{IsOf}
use Rattle.bist_text.proofs.keyed.Classes.{all_of_is, name_is}
use Rattle.bist_text.proofs.keyed.Table.{begins_small, IsTable, line_exact as table_exact}
use Rattle.bist_text.proofs.keyed.Taken.{Takes, Worded, digits, ends_taken, file_bytes, gap_taken, less, name_bytes, number_taken, word_taken}
use Rattle.chip_desc.specs.declared.content.ChipKey.TheVariants.{Unit as OfUnit}

-- a file's name as a word of its class
file_is : (w : List ℕ) → (is_word (fits_of FileWord) w ≡ true) ↔ (is_file w ≡ true)
file_is [] = (λ h. (let z : ⊥ = cc in absurd z), λ h. (let z : ⊥ = cc in absurd z))
file_is (c ∷ w) = (
  λ h. and_from (list_all is_file_byte (c ∷ w)) (nat_le 1 (length (c ∷ w))) (sym (all_of_is is_file_byte (c ∷ w)) ∙ h) (le-leb 1 (length (c ∷ w)) (omega arith)),
  λ h. all_of_is is_file_byte (c ∷ w) ∙ (and_parts (list_all is_file_byte (c ∷ w)) (nat_le 1 (length (c ∷ w))) h).0,
)

-- what a line of a kind has
abbrev Form : ChipKey → Type 0
Form Chip = ℕ × Unit {0}
Form Name = Worded (fits_of NameWord) (Unit {0})
Form Budget = ℕ × Unit {0}
Form OfUnit = ℕ × (Worded (fits_of FileWord) (Worded (fits_of FileWord) (Unit {0})))

abbrev made : (k : ChipKey) → Form k → Content
made Chip a = version a.0
made Name a = name a.0
made Budget a = budget a.0
made OfUnit a = unit a.0 a.1.0 a.1.2.0

-- the formed contents are those
parts : (c : Content) (x : List ℕ) → is_formed c ≡ true → argument c tail x → (a : Form (kind_of c)) × (c ≡ made (kind_of c) a)
parts (version n) x f h = ((n, tt), refl)
parts (name b) x f h = ((b, name_is b ∙ f, tt), refl)
parts (budget n) x f h = ((n, tt), refl)
parts (unit n m d) x f h = (let p = and_parts (is_file m) (is_file d) f in ((n, (m, (file_is m).1 p.0, (d, (file_is d).1 p.1, tt))), refl))

kind : (k : ChipKey) (a : Form k) → kind_of (made k a) ≡ k
kind Chip a = refl
kind Name a = refl
kind Budget a = refl
kind OfUnit a = refl

formed : (k : ChipKey) (a : Form k) → is_formed (made k a) ≡ true
formed Chip a = refl
formed Name a = sym (name_is a.0) ∙ a.1
formed Budget a = refl
formed OfUnit a = and_from (is_file a.1.0) (is_file a.1.2.0) ((file_is a.1.0).0 a.1.1) ((file_is a.1.2.0).0 a.1.2.1)

taken : (n : ℕ) (k : ChipKey) → Takes n is_blank (λ a. Some (made k a)) (λ a. argument (made k a) tail) (argument_of k)
taken n Chip = number_taken (λ m. ends_taken (Some (version m)) digits.plain)
taken n Name = word_taken name_bytes (λ b. ends_taken (Some (name b)) name_bytes.plain)
taken n Budget = number_taken (λ m. ends_taken (Some (budget m)) digits.plain)
taken n OfUnit =
    number_taken (λ w. less (gap_taken digits.plain (word_taken file_bytes (λ m. less (gap_taken file_bytes.plain (word_taken file_bytes (λ d. ends_taken (Some (unit w m d)) file_bytes.plain)))))))

small : (k : ChipKey) → begins_small (key_text k) ≡ true
small Chip = refl
small Name = refl
small Budget = refl
small OfUnit = refl

table : (given : Option ChipVersion) → IsTable kind_of is_formed (λ c. argument c tail) key_text (keys_in given) Form made argument_of
table None = record { fine = refl; first = Chip; begins = refl; small = small; kind = kind; formed = formed; parts = parts; taken = taken }
table (Some v) = record { fine = refl; first = Chip; begins = refl; small = small; kind = kind; formed = formed; parts = parts; taken = taken }

-- ---- the lines of the table are those of the grammar

is_of : (given : Option ChipVersion) (k : ChipKey) → IsOf (keys_in given) k ↔ (may_stand given k ≡ true)
is_of (Some v) Chip = (λ h. refl, λ e. inl refl)
is_of (Some v) Name = (λ h. refl, λ e. inr (inl refl))
is_of (Some v) Budget = (λ h. refl, λ e. inr (inr (inl refl)))
is_of (Some v) OfUnit = (λ h. refl, λ e. inr (inr (inr (inl refl))))
is_of None Chip = (λ h. refl, λ e. inl refl)
is_of None k = (λ h. elim h [ inl a ↦ (let z : ⊥ = cc in absurd z) | inr a ↦ absurd a ], λ e. (let z : ⊥ = cc in absurd z))

-- The reader of a line is exact.
pub line_exact : (given : Option ChipVersion) (b : List ℕ) → IsExact (LineOf ContentText stands given) b (heard given b)
line_exact given b = table_exact kind_of is_formed (λ c. argument c tail) key_text (keys_in given) Form made argument_of (table given) stands given (λ c. is_of given (kind_of c)) b
