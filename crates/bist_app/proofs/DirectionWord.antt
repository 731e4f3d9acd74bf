-- The direction word of letters: their number, moved up to bit 63.
use Rattle.bist_app.proofs.Common.{◌≡◌, ℕ, ◌+◌, ◌-◌, ◌*◌, ◌/◌, ◌%◌, ◌^◌, ◌<◌, ◌≤◌, ◌==◌, true, false, List, length, get_or, refl, ap, sym, ◌∙◌, subst, arith, if◌then◌else◌, ◌≢◌, Bool, IsTrue, below_more, [], ◌∷◌, MarchElement, div-div-eq-div-mul, mul-mod_left, mul-div_cancel, mul-lt-mul_of_pos_right, div-one, ext_get_or, get_or-map, length-map, Direction, Upward, Downward, directions_of, direction_at, is_down_at, is_direction, FitsWord}
use Rattle.std.proofs.lemmas.Nat.{pow-add, pow_pos, div-mul-add, mod-mul-add}
use mir.Val.{bool_byte}
use Rattle.std.proofs.lemmas.List.FromFn.{get_or-map-range_with_len, length-map-range_with_len}
use Rattle.bist_app.specs.inner.LetterBits.{HasBits}
use Rattle.bist_app.specs.Sim.{letter_direction, directions_of_letters}

-- a digit of the moved number
moved_digit : (value n k : ℕ) → k < n → n ≤ 64 → value * 2 ^ (64 - n) / 2 ^ (63 - k) ≡ value / 2 ^ (n - 1 - k)
moved_digit value n k below within =
    let split : 63 - k ≡ (64 - n) + (n - 1 - k) = omega arith in
    let power : 2 ^ (63 - k) ≡ 2 ^ (64 - n) * 2 ^ (n - 1 - k) = ap (λ e. 2 ^ e) split ∙ pow-add 2 (64 - n) (n - 1 - k) in
    ap (λ p. value * 2 ^ (64 - n) / p) power
    ∙ sym (div-div-eq-div-mul (value * 2 ^ (64 - n)) (2 ^ (64 - n)) (2 ^ (n - 1 - k)))
    ∙ ap (λ q. q / 2 ^ (n - 1 - k)) (mul-div_cancel value (pow_pos (64 - n)))

pub word_direction : (letters : List ℕ) (value k : ℕ) → HasBits letters (length letters) value → k < length letters → length letters ≤ 64
    → direction_at (value * 2 ^ (64 - length letters)) k ≡ letter_direction (get_or letters k 0)
unfolding direction_at
word_direction letters value k has below within =
    let digit : is_down_at (value * 2 ^ (64 - length letters)) k ≡ (get_or letters k 0 == 100) =
    ap (λ q. q % 2 == 1) (moved_digit value (length letters) k below within) ∙ has.digits k below in
    ap (λ b. if b then Downward else Upward) digit

pub word_directions : (letters : List ℕ) (value : ℕ) → HasBits letters (length letters) value → length letters ≤ 64
    → directions_of (value * 2 ^ (64 - length letters)) (length letters) ≡ directions_of_letters letters
word_directions letters value has within =
    let n = length letters in
    let f = direction_at (value * 2 ^ (64 - n)) in
    ext_get_or Upward (directions_of (value * 2 ^ (64 - n)) n) (directions_of_letters letters)
    (length-map-range_with_len f 0 n ∙ sym (length-map letters letter_direction))
    (λ i below.
    let i_below : i < n = subst (λ m. i < m) (length-map-range_with_len f 0 n) below in
    get_or-map-range_with_len f 0 n i i Upward i_below (omega arith)
    ∙ word_direction letters value i has i_below within
    ∙ sym (get_or-map letter_direction letters i 0 Upward i_below))

pub word_rest : (letters : List ℕ) (value : ℕ) → (value * 2 ^ (64 - length letters)) % 2 ^ (64 - length letters) ≡ 0
word_rest letters value = mul-mod_left value (2 ^ (64 - length letters))

pub word_fits : (letters : List ℕ) (value : ℕ) → HasBits letters (length letters) value → length letters ≤ 64 → value * 2 ^ (64 - length letters) < 2 ^ 64
word_fits letters value has within =
    let n = length letters in
    let whole : n + (64 - n) ≡ 64 = omega arith in
    let power : 2 ^ n * 2 ^ (64 - n) ≡ 2 ^ 64 = sym (pow-add 2 n (64 - n)) ∙ ap (λ e. 2 ^ e) whole in
    subst (λ m. value * 2 ^ (64 - n) < m) power (mul-lt-mul_of_pos_right has.below (pow_pos (64 - n)))

-- the digits before a new last one
digit_kept : (value i b k : ℕ) → b < 2 → k < i → (value * 2 + b) / 2 ^ (i + 1 - 1 - k) ≡ value / 2 ^ (i - 1 - k)
digit_kept value i b k small below =
    let split : i + 1 - 1 - k ≡ 1 + (i - 1 - k) = omega arith in
    let power : 2 ^ (i + 1 - 1 - k) ≡ 2 * 2 ^ (i - 1 - k) = ap (λ e. 2 ^ e) split ∙ pow-add 2 1 (i - 1 - k) in
    ap (λ p. (value * 2 + b) / p) power
    ∙ sym (div-div-eq-div-mul (value * 2 + b) 2 (2 ^ (i - 1 - k)))
    ∙ ap (λ q. q / 2 ^ (i - 1 - k)) (div-mul-add value 2 b small)

-- the new last digit
digit_new : (value i b : ℕ) → b < 2 → (value * 2 + b) / 2 ^ (i + 1 - 1 - i) % 2 ≡ b
digit_new value i b small =
    let none : i + 1 - 1 - i ≡ 0 = omega arith in
    ap (λ e. (value * 2 + b) / 2 ^ e % 2) none ∙ ap (λ q. q % 2) (div-one (value * 2 + b)) ∙ mod-mul-add value 2 b small

-- one more letter
bits_more : (letters : List ℕ) (value i b : ℕ) → HasBits letters i value → (get_or letters i 0 == 100) ≡ (b == 1) → b < 2 → HasBits letters (i + 1) (value * 2 + b)
bits_more letters value i b has is small =
    let doubled : 2 ^ (i + 1) ≡ 2 ^ i * 2 = pow-add 2 i 1 in
    record {
      below = let old = has.below in omega (arith, doubled, old, small);
      digits = below_more _ _
          (λ k below. ap (λ q. q % 2 == 1) (digit_kept value i b k small below) ∙ has.digits k below)
          (ap (λ d. d == 1) (digit_new value i b small) ∙ sym is);
    }

-- the same of the letter itself
one_or_none : (is : Bool) (b : ℕ) → b ≡ bool_byte is → (is ≡ (b == 1)) × (b < 2)
one_or_none true b e = (cc, omega (arith, e))
one_or_none false b e = (cc, omega (arith, e))

pub letter_more : (letters : List ℕ) (value i b : ℕ) → HasBits letters i value → b ≡ bool_byte (get_or letters i 0 == 100) → HasBits letters (i + 1) (value * 2 + b)
letter_more letters value i b has e =
    let one = one_or_none (get_or letters i 0 == 100) b e in
    bits_more letters value i b has one.0 one.1

-- behind the last letter
pub all_bits : (letters : List ℕ) (i value : ℕ) → HasBits letters i value → length letters ≤ i → i ≤ length letters → HasBits letters (length letters) value
all_bits letters i value has many few = let same : i ≡ length letters = omega (arith, many, few) in subst (λ n. HasBits letters n value) same has

-- there are as many directions as elements
pub length-is_direction : (es : List MarchElement) (ds : List Direction) → IsTrue (is_direction es ds) → length es ≡ length ds
length-is_direction [] [] h = refl
length-is_direction [] (d ∷ ds) h = let bad : false ≡ true = h in cc
length-is_direction (e ∷ es) [] h = let bad : false ≡ true = h in cc
length-is_direction (e ∷ es) (d ∷ ds) h = grind (arith, length-is_direction es ds)

pub letters_differ : (letters : List ℕ) (march : List MarchElement) → length letters ≢ length march → IsTrue (is_direction march (directions_of_letters letters)) → ⊥
letters_differ letters march differs h = differs (sym (length-map letters letter_direction) ∙ sym (length-is_direction march (directions_of_letters letters) h))

pub fits_from_letters : (letters : List ℕ) (march : List MarchElement) (word : ℕ) → length letters ≡ length march → directions_of word (length letters) ≡ directions_of_letters letters
    → word % 2 ^ (64 - length letters) ≡ 0 → IsTrue (is_direction march (directions_of_letters letters)) → FitsWord march word
fits_from_letters letters march word same directions rest h = record {
  allowed = subst (λ n. IsTrue (is_direction march (directions_of word n))) same (subst (λ (ds : List Direction). IsTrue (is_direction march ds)) (sym directions) h);
  rest = subst (λ n. word % 2 ^ (64 - n) ≡ 0) same rest;
}

pub letters_from_fits : (letters : List ℕ) (march : List MarchElement) (word : ℕ) → length letters ≡ length march → directions_of word (length letters) ≡ directions_of_letters letters
    → FitsWord march word → IsTrue (is_direction march (directions_of_letters letters))
letters_from_fits letters march word same directions fits =
    subst (λ (ds : List Direction). IsTrue (is_direction march ds)) directions (subst (λ n. IsTrue (is_direction march (directions_of word n))) (sym same) fits.allowed)

-- there are as many letters as elements
letters_length : (letters : List ℕ) (march : List MarchElement) → IsTrue (is_direction march (directions_of_letters letters)) → length letters ≡ length march
letters_length letters march h = sym (length-map letters letter_direction) ∙ sym (length-is_direction march (directions_of_letters letters) h)

pub fits_word : (letters : List ℕ) (march : List MarchElement) (word : ℕ) → directions_of word (length letters) ≡ directions_of_letters letters → word % 2 ^ (64 - length letters) ≡ 0
    → IsTrue (is_direction march (directions_of_letters letters)) → FitsWord march word
fits_word letters march word directions rest h = fits_from_letters letters march word (letters_length letters march h) directions rest h

pub directions_whole : (letters : List ℕ) (march : List MarchElement) (word : ℕ) → directions_of word (length letters) ≡ directions_of_letters letters
    → IsTrue (is_direction march (directions_of_letters letters)) → directions_of word (length march) ≡ directions_of_letters letters
directions_whole letters march word directions h = ap (directions_of word) (sym (letters_length letters march h)) ∙ directions
