-- What is left of a line is taken as the grammar says, part by part.
use Rattle.bist_text.proofs.keyed.Common.{apart, byte, byte_of, space, spaced, when_false, ◌==◌, ◌↔◌, Bool, Class, List, Read, and_parts, ap, arith, digits_value, ends_with, false, fits_of, gap, gap_of, in_identifier, is_blank, is_digit, is_hex_digit, is_word, nat_lt, number_of, of_blank, onward, refl, subst, suc, sym, tail, took, true, word, word_of, ℕ, ◌∙◌, ◌∷◌, ◌≡◌}
use Rattle.bist_text.specs.declared.keyed_lines.WordKind.TheVariants.{Number, Word as HexWord, Name, File}
use Rattle.bist_text.specs.keyed.Numbers.{is_number, number}
use Rattle.bist_text.specs.keyed.Parts.{is_file_byte}
use Rattle.bist_text.proofs.Carried.{Said, Valued, byte_carries, many_carries, gap_carries, said_on, word_carries}
use Rattle.bist_text.proofs.LineStops.{IsPlain, gap_stops, no_mark, tail_stops}
use Rattle.bist_text.proofs.keyed.Classes.{run_is}
use Rattle.bist_text.proofs.keyed.Items.{onward_on}
use Rattle.bist_text.proofs.keyed.PartLaws.{Hears, Begun, Byte, Space, byte_told, space_told, Ends, Gap, Words, ends_told, gap_told, word_never, word_told}
use Rattle.bist_text.proofs.keyed.Told.{Told, told_iff}

-- of each text of at most n bytes the reader takes what the grammar says; none of its texts begins with a byte of p
pub record Takes {A V : Type 0} (n : ℕ) (p : ℕ → Bool) (f : A → V) (T : A → List ℕ → Type 0) (r : List ℕ → Read V) : Type 0 where
  pub told : Hears n (Said f T) r
  pub shuns : (a : A) (c : ℕ) (b : List ℕ) → p c ≡ true → T a (c ∷ b) → ⊥

pub less : {A V : Type 0} {n : ℕ} {p : ℕ → Bool} {f : A → V} {T : A → List ℕ → Type 0} {r : List ℕ → Read V} → Takes (suc n) p f T r → Takes n p f T r
less t = record { told = λ b l. t.told b (omega arith); shuns = t.shuns }

-- the end, behind what says v
pub ends_taken : {V : Type 0} {n : ℕ} {p : ℕ → Bool} (v : V) → IsPlain p → Takes n p (λ (_ : Unit {0}). v) (λ _. tail) (ends_with v)
ends_taken {n = n} {p = p} v q = record {
  told = λ b l. told_iff (Ends v) (Said (λ (_ : Unit {0}). v) (λ _. tail)) b (ends_with v b) (λ x w. (λ k. (tt, k.0, k.1), λ k. (k.1, k.2))) (ends_told n v b l);
  shuns = λ _. tail_stops p q;
}

pub gap_taken : {A V : Type 0} {n : ℕ} {p : ℕ → Bool} {f : A → V} {T : A → List ℕ → Type 0} {r : List ℕ → Read V} → IsPlain p → Takes n is_blank f T r
    → Takes (suc n) p f (λ a. gap (T a)) (λ b. onward (gap_of b) (λ _ x. r x))
gap_taken {n = n} {p = p} {f = f} {T = T} {r = r} q t = record {
  told = λ b l.
      told_iff (Gap (Said f T)) (Said f (λ a. gap (T a))) b (onward (gap_of b) (λ _ x. r x)) (said_on gap_carries f T)
      (gap_told n (Said f T) r (λ c x v e h. t.shuns h.0 c x e h.2) t.told b l);
  shuns = λ a. gap_stops p (T a) q;
}

-- ---- words

-- words that begin with no blank, and of which each later byte is one of p
pub record IsClass (fits : Class) (p : ℕ → Bool) : Type 0 where
  pub begun : Begun fits
  pub blank : (c : ℕ) → is_blank c ≡ true → fits 0 c ≡ false
  pub later : (n c : ℕ) → fits (suc n) c ≡ true → p c ≡ true
  pub plain : IsPlain p

class : (fits : Class) (p : ℕ → Bool) (first : ℕ) → fits 0 first ≡ true → nat_lt first 256 ≡ true → fits 0 32 ≡ false → fits 0 9 ≡ false → fits 0 13 ≡ false
    → ((n c : ℕ) → fits (suc n) c ≡ true → p c ≡ true) → p 32 ≡ false → p 9 ≡ false → p 13 ≡ false → p 35 ≡ false → IsClass fits p
class fits p first f s a b d later e g h i = record {
  begun = record { first = first; fitting = f; small = s };
  blank = λ c k. of_blank (λ k. fits 0 k ≡ false) c k a b d;
  later = later;
  plain = record { space_no = e; tab_no = g; return_no = h; hash_no = i };
}

pub digits : IsClass (fits_of Number) is_digit
digits = class (fits_of Number) is_digit 48 refl refl refl refl refl (λ n c h. (and_parts (is_digit c) (nat_lt (suc n) 9) h).0) refl refl refl refl

pub hex_digits : IsClass (fits_of HexWord) is_hex_digit
hex_digits = class (fits_of HexWord) is_hex_digit 48 refl refl refl refl refl (λ n c h. (and_parts (is_hex_digit c) (nat_lt (suc n) 16) h).0) refl refl refl refl

pub name_bytes : IsClass (fits_of Name) in_identifier
name_bytes = class (fits_of Name) in_identifier 97 refl refl refl refl refl (λ n c h. h) refl refl refl refl

pub file_bytes : IsClass (fits_of File) is_file_byte
file_bytes = class (fits_of File) is_file_byte 97 refl refl refl refl refl (λ n c h. h) refl refl refl refl

-- a word of a class, and what is behind it
abbrev pub Worded : Class → Type 0 → Type 0
Worded fits A = (w : List ℕ) × (is_word fits w ≡ true) × A

pub word_taken : {A V : Type 0} {n : ℕ} {fits : Class} {p : ℕ → Bool} {f : List ℕ → A → V} {T : List ℕ → A → List ℕ → Type 0} {r : List ℕ → List ℕ → Read V} → IsClass fits p
    → ((w : List ℕ) → Takes n p (f w) (T w) (r w)) → Takes n is_blank (λ (q : Worded fits A). f q.0 q.2) (λ q. word q.0 (T q.0 q.2)) (λ b. onward (word_of fits b) r)
word_taken {A} {V} {n} {fits} {p} {f} {T} {r} c t = record {
  told = λ b l.
      told_iff (Words fits G) (Said (λ (q : Worded fits A). f q.0 q.2) (λ q. word q.0 (T q.0 q.2))) b (onward (word_of fits b) r)
      (λ x v. (
        λ h. (let s = (said_on (word_carries h.0) (f h.0) (T h.0) x v).0 h.2 in ((h.0, h.1, s.0), s.1, s.2)),
        λ h. (h.0.0, h.0.1, (said_on (word_carries h.0.0) (f h.0.0) (T h.0.0) x v).1 (h.0.2, h.1, h.2)),
      ))
      (word_told n fits G r c.begun (λ m d w x v i k. (t w).shuns k.0 d x (c.later m d i) k.2) (λ w _. (t w).told) b (omega arith));
  shuns = λ q d x e h. word_never fits (λ w y _. T w q.2 y) d (c.blank d e) x (f q.0 q.2) (q.0, q.1, h);
}
  where
    G : List ℕ → List ℕ → V → Type 0
    G w = Said (f w) (T w)

-- the value of a word's digits
pub value_taken : {A V : Type 0} {n : ℕ} {fits : Class} {p : ℕ → Bool} {f : ℕ → A → V} {T : ℕ → A → List ℕ → Type 0} {r : ℕ → List ℕ → Read V} (base : ℕ) (test : List ℕ → Bool) → IsClass fits p
    → ((ds : List ℕ) → (is_word fits ds ≡ true) ↔ (test ds ≡ true)) → ((k : ℕ) → Takes n p (f k) (T k) (r k))
    → Takes n is_blank (λ (q : ℕ × A). f q.0 q.1) (λ q. Valued base test q.0 (T q.0 q.1)) (λ b. onward (onward (word_of fits b) (λ ds x. took (digits_value base ds) x)) r)
value_taken {A} {V} {n} {fits} {p} {f} {T} {r} base test c same t = record {
  told = λ b l.
      subst (Told (Said (λ (q : ℕ × A). f q.0 q.1) (λ q. Valued base test q.0 (T q.0 q.1))) b) (sym (onward_on (word_of fits b) (λ ds x. took (digits_value base ds) x) r))
      (told_iff (Said (λ (q : Worded fits A). f (value q.0) q.2) (λ q. word q.0 (T (value q.0) q.2))) (Said (λ (q : ℕ × A). f q.0 q.1) (λ q. Valued base test q.0 (T q.0 q.1))) b
      (onward (word_of fits b) (λ ds x. r (value ds) x))
      (λ x v. (
        λ h. ((value h.0.0, h.0.2), h.1, (h.0.0, (same h.0.0).0 h.0.1, refl, h.2)),
        λ h. (let k = h.2 in ((k.0, (same k.0).1 k.1, h.0.1), h.1 ∙ ap (λ n. f n h.0.1) (sym k.2), subst (λ n. word k.0 (T n h.0.1) x) (sym k.2) k.3)),
      ))
      ((word_taken c (λ ds. t (value ds))).told b l));
  shuns = λ q d x e h. word_never fits (λ w y _. T q.0 q.1 y) d (c.blank d e) x (f q.0 q.1) (h.0, (same h.0).1 h.1, h.3);
}
  where
    value : List ℕ → ℕ
    value ds = digits_value base ds

pub number_taken : {A V : Type 0} {n : ℕ} {f : ℕ → A → V} {T : ℕ → A → List ℕ → Type 0} {r : ℕ → List ℕ → Read V} → ((k : ℕ) → Takes n is_digit (f k) (T k) (r k))
    → Takes n is_blank (λ (q : ℕ × A). f q.0 q.1) (λ q. number q.0 (T q.0 q.1)) (λ b. onward (number_of b) r)
number_taken t = value_taken 10 is_number digits (run_is is_digit 9) t

-- ---- a byte

pub byte_taken : {A V : Type 0} {n : ℕ} {p q : ℕ → Bool} {f : A → V} {T : A → List ℕ → Type 0} {r : List ℕ → Read V} (d : ℕ) → nat_lt d 256 ≡ true → p d ≡ false → Takes n q f T r
    → Takes (suc n) p f (λ a. byte d (T a)) (λ b. onward (byte_of d b) (λ _ x. r x))
byte_taken {n = n} {p = p} {f = f} {T = T} {r = r} d s o t = record {
  told = λ b l.
      told_iff (Byte d (Said f T)) (Said f (λ a. byte d (T a))) b (onward (byte_of d b) (λ _ x. r x)) (said_on (byte_carries d) f T)
      (byte_told n d (Said f T) r s t.told b l);
  shuns = λ a c b e h. when_false (c == d) (T a b) (apart p c d e o) h;
}

-- no byte
abbrev pub none : ℕ → Bool
none c = false

-- any number of blanks
pub space_taken : {A V : Type 0} {n : ℕ} {f : A → V} {T : A → List ℕ → Type 0} {r : List ℕ → Read V} → Takes n is_blank f T r → Takes n none f (λ a. space (T a)) (λ b. r (spaced b))
space_taken {n = n} {f = f} {T = T} {r = r} t = record {
  told = λ b l.
      told_iff (Space (Said f T)) (Said f (λ a. space (T a))) b (r (spaced b)) (said_on (many_carries is_blank) f T)
      (space_told n (Said f T) r (λ c x v e h. t.shuns h.0 c x e h.2) t.told b l);
  shuns = λ a c b e h. (let z : ⊥ = cc in z);
}

-- a byte behind any number of blanks
pub mark_taken : {A V : Type 0} {n : ℕ} {p q : ℕ → Bool} {f : A → V} {T : A → List ℕ → Type 0} {r : List ℕ → Read V} (d : ℕ) → nat_lt d 256 ≡ true → is_blank d ≡ false → p d ≡ false → IsPlain p → Takes n q f T r
    → Takes (suc n) p f (λ a. space (byte d (T a))) (λ b. onward (byte_of d (spaced b)) (λ _ x. r x))
mark_taken {p = p} {T = T} d s e n i t = record { told = (space_taken (byte_taken d s e t)).told; shuns = λ a c b h k. no_mark p c d (T a) b i h n k }
