-- Each kind of line is read as the grammar says.
use Rattle.memory_desc.proofs.Common.{Content, ContentText, ap, eqb-true, more_words, LineOf, List, Memory, None, One, Option, Scramble, Some, Term, Two, [], argument, argument_of, backgrounds, bits, codes, equation, fits_of, heard, inl, inr, is_blank, is_formed, is_hex, is_l, key_text, keys_in, keys_of, kind_of, latency, list_all, listed_of, log, log_of, may_stand, name, pause, polarity, refl, scramble, slice_get, stands, stuck, sym, tail, told_iff, true, version, when_false, word, words, ℕ, ◌==◌, ◌↔◌, ◌∙◌, ◌∷◌, ◌≡◌, ◌⊎◌}
use Rattle.bist_text.specs.inner.Keywords.{are_apart}
use Rattle.bist_text.specs.inner.Machine.{IsExact}
use Rattle.bist_text.specs.declared.keyed_lines.WordKind.TheVariants.{Name as NameWord}
use Rattle.bist_text.specs.keyed.Numbers.{is_number, number}
use Rattle.bist_text.proofs.Carried.{Said, byte_carries, nothing, value_carries}
use Rattle.bist_text.proofs.KeywordLaws.{IsOf, is_at, is_passed}
use Rattle.bist_text.proofs.keyed.Classes.{name_is}
use Rattle.bist_text.proofs.keyed.Listed.{items_taken}
use Rattle.bist_text.proofs.keyed.PartLaws.{Either, either_told}
use Rattle.bist_text.proofs.keyed.Table.{IsTable, begins_small, line_exact as table_exact}
use Rattle.bist_text.proofs.keyed.Taken.{Takes, Worded, byte_taken, digits, ends_taken, hex_digits, less, mark_taken, name_bytes, none, number_taken, space_taken, word_taken}
use Rattle.memory_desc.specs.declared.content.Key.{Key}
use Rattle.memory_desc.specs.declared.content.Key.TheVariants.{Name, Words as WordsKey, Bits, Latency, Polarity, Pause, Backgrounds}
use Rattle.memory_desc.specs.declared.content.Version.{Version}
use Rattle.memory_desc.proofs.TermLaws.{term_item, term_next, term_taken}
use Rattle.memory_desc.proofs.WordLaws.{hex_begins, hex_taken, word_item, word_next}

-- ---- what a line of a kind has

abbrev Form : Key → Type 0
Form Name = Worded (fits_of NameWord) (Unit {0})
Form Scramble = ℕ × (Term × List Term)
Form Backgrounds = Unit {0} ⊎ (ℕ × List ℕ)
Form k = ℕ × Unit {0}

abbrev made : (k : Key) → Form k → Content
made Memory a = version a.0
made Name a = name a.0
made WordsKey a = words a.0
made Bits a = bits a.0
made Latency a = latency a.0
made Polarity a = polarity a.0
made Pause a = pause a.0
made Scramble a = scramble a.0 (a.1.0 ∷ a.1.1)
made Backgrounds (inl u) = log
made Backgrounds (inr a) = backgrounds (a.0 ∷ a.1)

parts : (c : Content) (x : List ℕ) → is_formed c ≡ true → argument c tail x → (a : Form (kind_of c)) × (c ≡ made (kind_of c) a)
parts (version n) x f h = ((n, tt), refl)
parts (name b) x f h = ((b, name_is b ∙ f, tt), refl)
parts (words n) x f h = ((n, tt), refl)
parts (bits n) x f h = ((n, tt), refl)
parts (latency n) x f h = ((n, tt), refl)
parts (polarity w) x f h = ((w, tt), refl)
parts (pause n) x f h = ((n, tt), refl)
parts (scramble i []) x f h = absurd ((byte_carries 97).draw ⊥ (number i (equation [] tail)) (λ _ _. ⊥) (λ y k. (let z = nothing (value_carries 10 is_number i) y k in (z, z))) x h).0
parts (scramble i (t ∷ ts)) x f h = ((i, (t, ts)), refl)
parts log x f h = (inl tt, refl)
parts (backgrounds []) x f h = absurd h
parts (backgrounds (w ∷ ws)) x f h = (inr (w, ws), refl)

kind : (k : Key) (a : Form k) → kind_of (made k a) ≡ k
kind Backgrounds (inl u) = refl
kind Backgrounds (inr a) = refl
kind k a = refl

formed : (k : Key) (a : Form k) → is_formed (made k a) ≡ true
formed Name a = sym (name_is a.0) ∙ a.1
formed Backgrounds (inl u) = refl
formed Backgrounds (inr a) = refl
formed k a = refl

-- ---- what stands behind a first word is taken

log_taken : (n : ℕ) → Takes n is_blank (λ (_ : Unit {0}). Some log) (λ _. word (codes "log") tail) log_of
log_taken n = less (byte_taken 108 refl refl (less (byte_taken {p = none} 111 refl refl (less (byte_taken {p = none} 103 refl refl (ends_taken (Some log) digits.plain))))))

listed_taken : (n : ℕ) → Takes n is_blank (λ (a : ℕ × List ℕ). Some (backgrounds (a.0 ∷ a.1))) (λ a. argument (backgrounds (a.0 ∷ a.1)) tail) listed_of
listed_taken n = hex_taken (λ w. items_taken word_item (λ ws. Some (backgrounds (w ∷ ws))) word_next)

backgrounds_taken : (n : ℕ) → Takes n is_blank (λ a. Some (made Backgrounds a)) (λ a. argument (made Backgrounds a) tail) (argument_of Backgrounds)
backgrounds_taken n = record {
  told = λ b l.
      told_iff (Either Log Listed) (Said (λ a. Some (made Backgrounds a)) (λ a. argument (made Backgrounds a) tail)) b (argument_of Backgrounds b)
      (λ x v. (elim [ inl h ↦ (inl tt, h.1, h.2) | inr h ↦ (inr h.0, h.1, h.2) ], λ h. of x v h.0 h.1 h.2))
      (either_told n is_l Log Listed log_of listed_of (stuck []) (λ c e x v h. when_false (c == 108) (word (codes "og") tail x) e h.2)
      (λ c e x v h. (hex_begins (λ w ws. more_words ws tail)).only h.0 c x (ap is_hex (eqb-true c 108 e)) h.2)
      (refl, λ v h. elim h [ inl a ↦ a.2 | inr a ↦ (hex_begins (λ w ws. more_words ws tail)).some a.0 a.2 ]) (log_taken n).told (listed_taken n).told b l);
  shuns = shuns;
}
  where
    Log : List ℕ → Option Content → Type 0
    Log = Said (λ (_ : Unit {0}). Some log) (λ _. word (codes "log") tail)

    Listed : List ℕ → Option Content → Type 0
    Listed = Said (λ (a : ℕ × List ℕ). Some (backgrounds (a.0 ∷ a.1))) (λ a. argument (backgrounds (a.0 ∷ a.1)) tail)

    of : (x : List ℕ) (v : Option Content) (a : Form Backgrounds) → v ≡ Some (made Backgrounds a) → argument (made Backgrounds a) tail x → Log x v ⊎ Listed x v
    of x v (inl u) e h = inl (u, e, h)
    of x v (inr a) e h = inr (a, e, h)

    shuns : (a : Form Backgrounds) (c : ℕ) (b : List ℕ) → is_blank c ≡ true → argument (made Backgrounds a) tail (c ∷ b) → ⊥
    shuns (inl u) = (log_taken n).shuns u
    shuns (inr a) = (listed_taken n).shuns a

taken : (n : ℕ) (k : Key) → Takes n is_blank (λ a. Some (made k a)) (λ a. argument (made k a) tail) (argument_of k)
taken n Memory = number_taken (λ m. ends_taken (Some (version m)) digits.plain)
taken n Name = word_taken name_bytes (λ b. ends_taken (Some (name b)) name_bytes.plain)
taken n WordsKey = number_taken (λ m. ends_taken (Some (words m)) digits.plain)
taken n Bits = number_taken (λ m. ends_taken (Some (bits m)) digits.plain)
taken n Latency = number_taken (λ m. ends_taken (Some (latency m)) digits.plain)
taken n Polarity = hex_taken (λ w. ends_taken (Some (polarity w)) hex_digits.plain)
taken n Pause = number_taken (λ m. ends_taken (Some (pause m)) digits.plain)
taken n Scramble =
    less (byte_taken 97 refl refl (number_taken (λ i. less (mark_taken 61 refl refl refl digits.plain (space_taken (term_taken (λ t. items_taken term_item (λ ts. Some (scramble i (t ∷ ts))) term_next)))))))
taken n Backgrounds = backgrounds_taken n

-- ---- a line

fine : (given : Option Version) → are_apart (keys_of given) ≡ true
fine None = refl
fine (Some One) = refl
fine (Some Two) = refl

first_key : (given : Option Version) → slice_get (keys_of given) 0 ≡ Some (record { text = key_text Memory; value = Memory })
first_key None = refl
first_key (Some One) = refl
first_key (Some Two) = refl

small : (k : Key) → begins_small (key_text k) ≡ true
small Memory = refl
small k = refl

table : (given : Option Version) → IsTable kind_of is_formed (λ c. argument c tail) key_text (keys_in given) Form made argument_of
table given = record { fine = fine given; first = Memory; begins = first_key given; small = small; kind = kind; formed = formed; parts = parts; taken = taken }

-- ---- the lines of the table are those of the grammar

-- where a first word stands in the table of version 2
abbrev index : Key → ℕ
index Memory = 0
index Name = 1
index WordsKey = 2
index Bits = 3
index Latency = 6
index Polarity = 7
index Pause = 8
index Scramble = 4
index Backgrounds = 5

there : (given : Option Version) (k : Key) → may_stand given k ≡ true → slice_get (keys_in given) (index k) ≡ Some k
there None Memory e = refl
there None k e = (let z : ⊥ = cc in absurd z)
there (Some Two) Memory e = refl
there (Some Two) k e = refl
there (Some One) Latency e = (let z : ⊥ = cc in absurd z)
there (Some One) Polarity e = (let z : ⊥ = cc in absurd z)
there (Some One) Pause e = (let z : ⊥ = cc in absurd z)
there (Some One) k e = refl

all_stand : (given : Option Version) → list_all (may_stand given) (keys_in given) ≡ true
all_stand None = refl
all_stand (Some One) = refl
all_stand (Some Two) = refl

is_of : (given : Option Version) (k : Key) → IsOf (keys_in given) k ↔ (may_stand given k ≡ true)
is_of given k = (λ h. is_passed (may_stand given) (keys_in given) k (all_stand given) h, λ e. is_at (keys_in given) (index k) k (there given k e))

-- The reader of a line is exact.
pub line_exact : (given : Option Version) (b : List ℕ) → IsExact (LineOf ContentText stands given) b (heard given b)
line_exact given b = table_exact kind_of is_formed (λ c. argument c tail) key_text (keys_in given) Form made argument_of (table given) stands given (λ c. is_of given (kind_of c)) b
