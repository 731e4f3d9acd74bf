-- Each printed line is a line of the grammar, without a line feed.
use Rattle.memory_desc.proofs.Common.{AllDigits, argument_text, line_text, Bool, Content, equation, scramble, List, Term, [], and_from, and_parts, ap, apart, append-nil, argument, arith, byte, constant, decimal, digit_value, digits_value, false, gap, hex_digits, index_bit, inr, is_blank, is_digit, is_formed, is_hex, is_identifier, is_letter, is_name_byte, is_term_too_wide, key_text, kind_of, le-leb, leb-false, length, length-append, list_all, list_all-append, list_any, lit<, many_none, more_terms, more_words, nat_le, nat_tests, not, or_parts, pow-suc, refl, space, subst, suc, tail, term_text, terms_text, true, word, word_on, word_text, words_text, zero, ℕ, ◌%◌, ◌++◌, ◌+◌, ◌/◌, ◌<◌, ◌^◌, ◌∙◌, ◌∷◌, ◌≡◌, ◌≤◌}
use Rattle.std.specs.Fmt.{digit_glyph}
use Rattle.std.proofs.lemmas.Fmt.{decimal_is_IsNumeral, length-decimal-le, decimal_nonempty}
use Rattle.std.proofs.lemmas.Int.Digits.{digits_value_push}
use Rattle.std.proofs.lemmas.Str.Parse.{digit_from_value}
use Rattle.bist_text.specs.keyed.Numbers.{number, is_number}
use Rattle.bist_text.proofs.Powers.{word_digits}
use Rattle.memory_desc.specs.LineText.{term, hex_word, is_word}
use Rattle.memory_desc.proofs.BackLines.{is_inside, IsLine, Line}

-- ---- a piece, and what stands behind it

inside : (p : ℕ → Bool) → p 10 ≡ false → (b : List ℕ) → list_all p b ≡ true → list_all is_inside b ≡ true
inside p e [] h = refl
inside p e (c ∷ b) h =
    let parts = and_parts (p c) (list_all p b) h in
    and_from (is_inside c) (list_all is_inside b) (ap not (apart p c 10 parts.0 e)) (inside p e b parts.1)

on_word : (w : List ℕ) (K : List ℕ → Type 0) (b : List ℕ) → list_all is_inside w ≡ true → Line K b → Line (word w K) (w ++ b)
on_word w K b i h = (list_all-append is_inside w b ∙ and_from (list_all is_inside w) (list_all is_inside b) i h.0, word_on w K b h.1)

-- a blank, where any number may stand, or some
on_space : (K : List ℕ → Type 0) (b : List ℕ) → Line K b → Line (space K) (32 ∷ b)
on_space K b h = (h.0, inr (many_none is_blank K b h.1))

on_gap : (K : List ℕ → Type 0) (b : List ℕ) → Line K b → Line (gap K) (32 ∷ b)
on_gap K b h = (h.0, many_none is_blank K b h.1)

-- ---- decimal numbers

all_digits : (ds : List ℕ) → AllDigits 10 ds → list_all is_digit ds ≡ true
all_digits [] h = refl
all_digits (c ∷ ds) h =
    let r = digit_from_value c h.0 in
    and_from (is_digit c) (list_all is_digit ds) (grind (arith, nat_tests)) (all_digits ds h.1)

on_number : (n : ℕ) (K : List ℕ → Type 0) (b : List ℕ) → n < 1000000000 → Line K b → Line (number n K) (decimal n ++ b)
on_number n K b h k =
    let small : n < 2 ^ 64 = omega arith in
    let numeral = decimal_is_IsNumeral n small in
    let digits = all_digits (decimal n) numeral.0.1 in
    let some : nat_le 1 (length (decimal n)) ≡ true = le-leb 1 (length (decimal n)) (decimal_nonempty n small) in
    let few : nat_le (length (decimal n)) 9 ≡ true = le-leb (length (decimal n)) 9 (length-decimal-le 9 n (lit< tt) h small) in
    let formed : is_number (decimal n) ≡ true = simp (digits, some, few) in
    let w = on_word (decimal n) K b (inside is_digit refl (decimal n) digits) k in
    (w.0, (decimal n, formed, numeral.1, w.1))

-- ---- words

hex_digit : (d : ℕ) → d < 16 → (is_hex (digit_glyph false d) ≡ true) × (digit_value (digit_glyph false d) ≡ d)
hex_digit d h = (grind (arith, nat_tests), grind (arith, nat_tests))

-- the last k digits are as many, and have the value where it has no more
record Hex (k w : ℕ) : Type 0 where
  hex : list_all is_hex (hex_digits k w) ≡ true
  count : length (hex_digits k w) ≡ k
  value : w < 16 ^ k → digits_value 16 (hex_digits k w) ≡ w

hex_is : (k w : ℕ) → Hex k w
hex_is zero w = record { hex = refl; count = refl; value = λ h. omega arith }
hex_is (suc k) w =
    let low = hex_is k (w / 16) in
    let g = digit_glyph false (w % 16) in
    let last = hex_digit (w % 16) (omega arith) in
    record {
      hex = list_all-append is_hex (hex_digits k (w / 16)) (g ∷ []) ∙ simp (low.hex, last.0);
      count = (let whole = length-append (hex_digits k (w / 16)) (g ∷ []) in let front = low.count in omega arith);
      value = λ h.
          (let power = pow-suc 16 k in
          let front = low.value (omega arith) in
          let whole = digits_value_push 16 (hex_digits k (w / 16)) g in
          let least = last.1 in omega arith);
    }

on_hex : (size w : ℕ) (K : List ℕ → Type 0) (b : List ℕ) → 1 ≤ size → size ≤ 64 → nat_le (2 ^ size) w ≡ false → Line K b → Line (hex_word w K) (word_text size w ++ b)
on_hex size w K b p h fits k =
    let n = (size + 3) / 4 in
    let d = hex_is n w in
    let digits = d.hex in
    let count = d.count in
    let some : nat_le 1 (length (hex_digits n w)) ≡ true = le-leb 1 (length (hex_digits n w)) (omega arith) in
    let few : nat_le (length (hex_digits n w)) 16 ≡ true = le-leb (length (hex_digits n w)) 16 (omega arith) in
    let formed : is_word (hex_digits n w) ≡ true = simp (digits, some, few) in
    let l = on_word (hex_digits n w) K b (inside is_hex refl (hex_digits n w) digits) k in
    (l.0, (hex_digits n w, formed, d.value (word_digits size w (leb-false (2 ^ size) w fits)), l.1))

pub words_line : (size : ℕ) (ws : List ℕ) → 1 ≤ size → size ≤ 64 → list_any (nat_le (2 ^ size)) ws ≡ false → Line (more_words ws tail) (words_text size ws)
words_line size [] p h fit = (refl, tt)
words_line size (w ∷ ws) p h fit =
    let parts = or_parts (nat_le (2 ^ size) w) (list_any (nat_le (2 ^ size)) ws) fit in
    on_gap (hex_word w (more_words ws tail)) (word_text size w ++ words_text size ws)
    (on_hex size w (more_words ws tail) (words_text size ws) p h parts.0 (words_line size ws p h parts.1))

-- ---- rows

on_term : (width : ℕ) (t : Term) (K : List ℕ → Type 0) (b : List ℕ) → width ≤ 16 → is_term_too_wide width t ≡ false → Line K b → Line (term t K) (term_text t ++ b)
on_term width (index_bit n) K b l h k = (let low : n < width = leb-false width n h in on_number n K b (omega arith) k)
on_term width (constant true) K b l h k = k
on_term width (constant false) K b l h k = k

-- a mark between blanks, and a term
on_mark : (width mark : ℕ) (t : Term) (K : List ℕ → Type 0) (b : List ℕ) → list_all is_inside (mark ∷ []) ≡ true → width ≤ 16 → is_term_too_wide width t ≡ false → Line K b
    → Line (space (byte mark (space (term t K)))) (32 ∷ mark ∷ 32 ∷ (term_text t ++ b))
on_mark width mark t K b i l h k =
    on_space (byte mark (space (term t K))) (mark ∷ 32 ∷ (term_text t ++ b))
    (on_word (mark ∷ []) (space (term t K)) (32 ∷ (term_text t ++ b)) i (on_space (term t K) (term_text t ++ b) (on_term width t K b l h k)))

more_line : (width : ℕ) (ts : List Term) → width ≤ 16 → list_any (is_term_too_wide width) ts ≡ false → Line (more_terms ts tail) (terms_text 94 ts)
more_line width [] l h = (refl, tt)
more_line width (t ∷ ts) l h =
    let parts = or_parts (is_term_too_wide width t) (list_any (is_term_too_wide width) ts) h in
    on_mark width 94 t (more_terms ts tail) (terms_text 94 ts) refl l parts.0 (more_line width ts l parts.1)

-- ---- lines

-- a line begins with its word
pub headed : (size : ℕ) (c : Content) → is_formed c ≡ true → list_all is_inside (key_text (kind_of c)) ≡ true → Line (gap (argument c tail)) (argument_text size c)
    → IsLine size c
headed size c f i h =
    let key = key_text (kind_of c) in
    let w = on_word key (gap (argument c tail)) (argument_text size c) i h in
    (w.0, (f, many_none is_blank (word key (gap (argument c tail))) (line_text size c) w.1))

pub number_line_is : (n : ℕ) → n < 1000000000 → Line (gap (number n tail)) (32 ∷ decimal n)
number_line_is n h = on_gap (number n tail) (decimal n) (subst (Line (number n tail)) (append-nil (decimal n)) (on_number n tail [] h (refl, tt)))

pub name_line_is : (n : List ℕ) → is_identifier n ≡ true → Line (gap (word n tail)) (32 ∷ n)
name_line_is n h = on_gap (word n tail) n (subst (Line (word n tail)) (append-nil n) (on_word n tail [] (name_inside n h) (refl, tt)))
  where
    name_inside : (b : List ℕ) → is_identifier b ≡ true → list_all is_inside b ≡ true
    name_inside [] h = refl
    name_inside (c ∷ b) h =
        let parts = and_parts (is_letter c) (list_all is_name_byte b) h in
        and_from (is_inside c) (list_all is_inside b) (ap not (apart is_letter c 10 parts.0 refl)) (inside is_name_byte refl b parts.1)

pub row_line_is : (width i : ℕ) (ts : List Term) → width ≤ 16 → i < width → list_any (is_term_too_wide width) ts ≡ false → (ts ≡ [] → ⊥)
    → Line (gap (argument (scramble i ts) tail)) (32 ∷ 97 ∷ (decimal i ++ terms_text 61 ts))
row_line_is width i [] l small h some = absurd (some refl)
row_line_is width i (t ∷ ts) l small h some =
    let parts = or_parts (is_term_too_wide width t) (list_any (is_term_too_wide width) ts) h in
    on_gap (byte 97 (number i (equation (t ∷ ts) tail))) (97 ∷ (decimal i ++ terms_text 61 (t ∷ ts)))
    (on_number i (equation (t ∷ ts) tail) (terms_text 61 (t ∷ ts)) (omega arith)
    (on_mark width 61 t (more_terms ts tail) (terms_text 94 ts) refl l parts.0 (more_line width ts l parts.1)))
