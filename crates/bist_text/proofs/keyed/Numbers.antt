-- What the words that are taken write.
use Rattle.bist_text.proofs.keyed.Common.{AllDigits, Class, List, None, Option, Some, SomeIff, [], all_fit, and_from, and_parts, arith, at_bool, behind_of, digits_value, front_of, if◌then◌else◌, is_digit, is_hex_digit, is_run, is_word, later, list_all, refl, run_parts, stuck, subst, took, true, unwrap_or, up_to, word_of, ℕ, ◌<◌, ◌∙◌, ◌∷◌, ◌≡◌}
use Rattle.std.proofs.lemmas.Bool.Decides.{nat_tests}
use Rattle.std.specs.Char.{digit_value}
use Rattle.bist_text.specs.Numbers.{IsNumber}
use Rattle.bist_text.proofs.keyed.Classes.{run_is}

front_fits : (fits : Class) (b : List ℕ) → all_fit fits (front_of fits b) ≡ true
front_fits fits [] = refl
front_fits fits (c ∷ b) =
    at_bool (λ t. fits 0 c ≡ t → all_fit fits (if t then c ∷ front_of (later fits) b else []) ≡ true) (fits 0 c)
    (λ e _. and_from (fits 0 c) (all_fit (later fits) (front_of (later fits) b)) e (front_fits (later fits) b)) (λ e _. refl) refl

no_word : {A : Type 0} (b x : List ℕ) (w : A) → stuck b ≡ took w x → ⊥
no_word b x w e = cc

first_same : (v w x y : List ℕ) → took v x ≡ took w y → v ≡ w
first_same v w x y e = cc

pub some_value : (o : Option ℕ) (P : Type 0) (v r : ℕ) → SomeIff o P v → r ≡ unwrap_or o 0 → P → r ≡ v
some_value None P v r f e p = absurd (f p)
some_value (Some x) P v r f e p = e ∙ f.1

-- a word that is taken is one of the class
pub word_formed : (fits : Class) (b w x : List ℕ) → word_of fits b ≡ took w x → is_word fits w ≡ true
word_formed fits [] w x h = absurd (no_word [] x w h)
word_formed fits (c ∷ b) w x h =
    at_bool (λ t. fits 0 c ≡ t → (if t then took (c ∷ front_of (later fits) b) (behind_of (later fits) b) else stuck (c ∷ b)) ≡ took w x → is_word fits w ≡ true) (fits 0 c)
    (λ e _ h. subst (λ (w : List ℕ). is_word fits w ≡ true) (first_same (c ∷ front_of (later fits) b) w (behind_of (later fits) b) x h)
    (and_from (fits 0 c) (all_fit (later fits) (front_of (later fits) b)) e (front_fits (later fits) b)))
    (λ e _ h. absurd (no_word (c ∷ b) x w h)) refl h

ten_byte : (c : ℕ) → is_digit c ≡ true → digit_value c < 10
ten_byte c h = grind (arith, nat_tests)

ten_digits : (ds : List ℕ) → list_all is_digit ds ≡ true → AllDigits 10 ds
ten_digits [] h = tt
ten_digits (c ∷ cs) h = let p = and_parts (is_digit c) (list_all is_digit cs) h in (ten_byte c p.0, ten_digits cs p.1)

is_numeral : (ds : List ℕ) → is_run is_digit 9 ds ≡ true → IsNumber 10 9 ds
is_numeral ds n = let p = run_parts is_digit 9 ds n in ((p.1, ten_digits ds p.0), p.2)

-- the value of a number that is taken
pub number_value : (b ds x : List ℕ) (o : Option ℕ) (n : ℕ) → word_of (up_to is_digit 9) b ≡ took ds x → SomeIff o (IsNumber 10 9 ds) (digits_value 10 ds) → n ≡ unwrap_or o 0 → n ≡ digits_value 10 ds
number_value b ds x o n h s u = some_value o (IsNumber 10 9 ds) (digits_value 10 ds) n s u (is_numeral ds ((run_is is_digit 9 ds).0 (word_formed (up_to is_digit 9) b ds x h)))

sixteen_byte : (c : ℕ) → is_hex_digit c ≡ true → digit_value c < 16
sixteen_byte c h = grind (arith, nat_tests)

sixteen_digits : (ds : List ℕ) → list_all is_hex_digit ds ≡ true → AllDigits 16 ds
sixteen_digits [] h = tt
sixteen_digits (c ∷ cs) h = let p = and_parts (is_hex_digit c) (list_all is_hex_digit cs) h in (sixteen_byte c p.0, sixteen_digits cs p.1)

-- the value of a word that is taken
pub hex_value : (b ds x : List ℕ) (o : Option ℕ) (n : ℕ) → word_of (up_to is_hex_digit 16) b ≡ took ds x → SomeIff o (IsNumber 16 16 ds) (digits_value 16 ds) → n ≡ unwrap_or o 0 → n ≡ digits_value 16 ds
hex_value b ds x o n h s u =
    let p = run_parts is_hex_digit 16 ds ((run_is is_hex_digit 16 ds).0 (word_formed (up_to is_hex_digit 16) b ds x h)) in
    some_value o (IsNumber 16 16 ds) (digits_value 16 ds) n s u ((p.1, sixteen_digits ds p.0), p.2)
