-- Every list of digits is that of a number.
use Rattle.std.proofs.Common.{◌≡◌, ◌+◌, ◌*◌, ◌/◌, ◌%◌, ◌^◌, ◌<◌, ◌≤◌, ◌==◌, ℕ, zero, suc, Bool, true, false, cond, List, [], ◌∷◌, length, map, refl, ap, sym, subst, ◌∙◌, arith}
use Rattle.std.specs.List.{AllByRecursion}
use Rattle.std.proofs.Math.Nat.{pow-suc, pow-zero, mod-eq_of_lt, add-mul-mod_self_right, mod-lt}
use Rattle.std.proofs.lemmas.Nat.{div-mul-add}
use Rattle.sequence_faults.specs.Escapes.{digits, content_in}

abbrev pub value : ℕ → List ℕ → ℕ
value base [] = 0
value base (x ∷ xs) = x * base ^ length xs + value base xs

room : (x base power v : ℕ) → x < base → v < power → x * power + v < power * base
room x base power v h k =
    let some : suc x * power ≤ base * power = mul_mono (suc x) base power h in
    omega (arith, some, step, turn)
  where
    step : suc x * power ≡ x * power + power
    step = omega arith

    turn : base * power ≡ power * base
    turn = omega arith

    mul_mono : (m n k : ℕ) → m ≤ n → m * k ≤ n * k
    mul_mono m n k h = grind (arith, h)

pub value_below : (base : ℕ) (xs : List ℕ) → AllByRecursion (λ x. x < base) xs → value base xs < base ^ length xs
value_below base [] h = let one = pow-zero base in omega (arith, one)
value_below base (x ∷ xs) h =
    let more = room x base (base ^ length xs) (value base xs) h.0 (value_below base xs h.1) in
    let power = pow-suc base (length xs) in
    omega (arith, more, power)

digits_above : (base : ℕ) (xs : List ℕ) (y : ℕ) → AllByRecursion (λ x. x < base) xs → digits base (length xs) (y * base ^ length xs + value base xs) ≡ xs
digits_above base [] y h = refl
digits_above base (x ∷ xs) y h =
    let power : ℕ = base ^ length xs in
    let rest : ℕ = value base xs in
    let z : ℕ = y * base + x in
    let same : y * base ^ suc (length xs) + (x * power + rest) ≡ z * power + rest =
    ap (λ p. y * p + (x * power + rest)) (pow-suc base (length xs)) ∙ regroup y base x power rest in
    let whole : (z * power + rest) / power ≡ z = div-mul-add z power rest (value_below base xs h.1) in
    let digit : z % base ≡ x = turn y base x ∙ add-mul-mod_self_right x y base ∙ mod-eq_of_lt h.0 in
    ap (λ n. ((n / power) % base) ∷ digits base (length xs) n) same
    ∙ ap (λ n. (n % base) ∷ digits base (length xs) (z * power + rest)) whole
    ∙ ap (λ n. n ∷ digits base (length xs) (z * power + rest)) digit
    ∙ ap (λ l. x ∷ l) (digits_above base xs z h.1)
  where
    regroup : (y b x p r : ℕ) → y * (p * b) + (x * p + r) ≡ (y * b + x) * p + r
    regroup y b x p r = grind arith

    turn : (y b x : ℕ) → (y * b + x) % b ≡ (x + y * b) % b
    turn y b x = ap (λ n. n % b) (omega arith)

pub digits_value : (base : ℕ) (xs : List ℕ) → AllByRecursion (λ x. x < base) xs → digits base (length xs) (value base xs) ≡ xs
digits_value base xs h = ap (digits base (length xs)) none ∙ digits_above base xs 0 h
  where
    none : value base xs ≡ 0 * base ^ length xs + value base xs
    none = omega arith

-- a content as a number
abbrev pub digit_of : Bool → ℕ
digit_of bit = cond bit 1 0

two_digits : (content : List Bool) → AllByRecursion (λ x. x < 2) (map digit_of content)
two_digits [] = tt
two_digits (true ∷ content) = (omega arith, two_digits content)
two_digits (false ∷ content) = (omega arith, two_digits content)

length-same : (content : List Bool) → length (map digit_of content) ≡ length content
length-same [] = refl
length-same (bit ∷ content) = ap suc (length-same content)

bits_back : (content : List Bool) → map (λ digit. digit == 1) (map digit_of content) ≡ content
bits_back [] = refl
bits_back (true ∷ content) = ap (λ l. true ∷ l) (bits_back content)
bits_back (false ∷ content) = ap (λ l. false ∷ l) (bits_back content)

abbrev pub content_number : List Bool → ℕ
content_number content = value 2 (map digit_of content)

pub content_below : (content : List Bool) → content_number content < 2 ^ length content
content_below content = subst (λ n. content_number content < 2 ^ n) (length-same content) (value_below 2 (map digit_of content) (two_digits content))

pub content_is : (size : ℕ) (content : List Bool) → length content ≡ size → content_in size (content_number content) ≡ content
content_is size content e =
    ap (λ n. content_in n (content_number content)) (sym e ∙ sym (length-same content))
    ∙ ap (map (λ digit. digit == 1)) (digits_value 2 (map digit_of content) (two_digits content)) ∙ bits_back content

-- and the digits of a number are below the base
pub digits_below : (base count number : ℕ) → 0 < base → AllByRecursion (λ x. x < base) (digits base count number)
digits_below base zero number h = tt
digits_below base (suc count) number h = (mod-lt (number / base ^ count) h, digits_below base count number h)
