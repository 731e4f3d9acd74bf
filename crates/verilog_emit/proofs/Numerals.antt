-- Numbers and literals as they are printed are the tokens that they are meant to be.
use Rattle.std.proofs.Common.{◌≡◌, ℕ, zero, suc, ◌+◌, ◌-◌, ◌*◌, ◌/◌, ◌%◌, ◌^◌, ◌==◌, ◌<◌, ◌≤◌, ◌&&◌, ◌||◌, not, nat_lt, nat_le, Bool, true, false, List, [], ◌∷◌, ◌++◌, refl, inl, subst, sym, ◌∙◌, ap, append_assoc, arith, ltb-true, leb-true}
use Rattle.std.specs.Prelude.{decimal}
use Rattle.std.specs.List.{list_all}
use Rattle.std.specs.Fmt.{digit_glyph}
use Rattle.std.proofs.Math.Nat.{pow-suc}
use Rattle.std.proofs.lemmas.Bool.Decides.{nat_tests}
use Rattle.std.proofs.lemmas.Fmt.{decimal_digit, decimal_step}
use Rattle.bist_bits.specs.Vector.{Vector}
use Rattle.bist_text.specs.Grammar.{when}
use Rattle.bist_text.specs.Numbers.{hex_digits}
use Rattle.verilog_tree.specs.declared.tokens.Base.TheVariants.{Hexadecimal}
use Rattle.verilog_tree.specs.Formed.{is_width, is_place, is_literal}
use Rattle.verilog_tree.specs.Grammar.{number, zero_number, literal}
use Rattle.verilog_tree.specs.Tokens as T
use Rattle.bist_text.specs.Identifiers.{is_digit, begins_identifier, in_identifier}
use Rattle.verilog_tree.specs.Words.{is_digit_of, digit_value}
use Rattle.verilog_emit.specs.Printed.{literal_text}
use Rattle.verilog_emit.specs.Written.{is_text_byte}
use Rattle.bist_text.proofs.Powers.{word_digits}
use Rattle.verilog_emit.proofs.Pieces.{Spelt, both, refused, no_letter, is_apart, grouped}

-- ---- decimal digits

digit : (d : ℕ) → d < 10 → (T.start_of (48 + d) ≡ T.ANumber) × (is_digit (48 + d) ≡ true) × (digit_value (48 + d) ≡ d)
digit zero h = (refl, refl, refl)
digit (suc zero) h = (refl, refl, refl)
digit (suc (suc zero)) h = (refl, refl, refl)
digit (suc (suc (suc zero))) h = (refl, refl, refl)
digit (suc (suc (suc (suc zero)))) h = (refl, refl, refl)
digit (suc (suc (suc (suc (suc zero))))) h = (refl, refl, refl)
digit (suc (suc (suc (suc (suc (suc zero)))))) h = (refl, refl, refl)
digit (suc (suc (suc (suc (suc (suc (suc zero))))))) h = (refl, refl, refl)
digit (suc (suc (suc (suc (suc (suc (suc (suc zero)))))))) h = (refl, refl, refl)
digit (suc (suc (suc (suc (suc (suc (suc (suc (suc zero))))))))) h = (refl, refl, refl)
digit (suc (suc (suc (suc (suc (suc (suc (suc (suc (suc d)))))))))) h = absurd (omega arith)

-- no further digit follows
abbrev pub ends_digits : List ℕ → Bool
ends_digits [] = true
ends_digits (c ∷ r) = not (is_digit c)

digits_end : (long : Bool) (n : ℕ) (K : Bool → ℕ → List ℕ → Type 0) (r : List ℕ) → ends_digits r ≡ true → K long n r → T.decimal long n K r
digits_end long n K [] e h = h
digits_end long n K (c ∷ r) e h = subst (λ t. T.whether t (T.decimal true (n * 10 + digit_value c) K r) (K long n (c ∷ r))) (sym (refused (is_digit c) e)) h

one_digit : (n : ℕ) (t : T.Token) (K : List ℕ → Type 0) (r : List ℕ) → n < 10 → ends_digits r ≡ true → T.behind_number t K false n r → T.token t K ((48 + n) ∷ r)
one_digit n t K r l e h =
    let d = digit n l in
    subst (λ (s : T.Start). T.begun s (48 + n) t K r) (sym d.0)
    (subst (λ (v : ℕ). T.decimal false v (T.behind_number t K) r) (sym d.2) (digits_end false n (T.behind_number t K) r e h))

two_digits : (m n : ℕ) (t : T.Token) (K : List ℕ → Type 0) (r : List ℕ) → m < 10 → n < 10 → ends_digits r ≡ true → T.behind_number t K true (m * 10 + n) r → T.token t K ((48 + m) ∷ (48 + n) ∷ r)
two_digits m n t K r l k e h =
    let d = digit m l in
    let f = digit n k in
    subst (λ (s : T.Start). T.begun s (48 + m) t K ((48 + n) ∷ r)) (sym d.0)
    (subst (λ (v : ℕ). T.decimal false v (T.behind_number t K) ((48 + n) ∷ r)) (sym d.2)
    (subst (λ (b : Bool). T.whether b (T.decimal true (m * 10 + digit_value (48 + n)) (T.behind_number t K) r) (T.behind_number t K false m ((48 + n) ∷ r))) (sym f.1)
    (subst (λ (v : ℕ). T.decimal true (m * 10 + v) (T.behind_number t K) r) (sym f.2) (digits_end true (m * 10 + n) (T.behind_number t K) r e h))))

-- the digits of n begin a token
pub digits_begin : (n : ℕ) (t : T.Token) (K : List ℕ → Type 0) (r : List ℕ) → n < 100 → ends_digits r ≡ true → T.behind_number t K (nat_le 10 n) n r → T.token t K (decimal n ++ r)
digits_begin n t K r l e h = go (nat_le 10 n) refl h
  where
    go : (b : Bool) → nat_le 10 n ≡ b → T.behind_number t K b n r → T.token t K (decimal n ++ r)
    go false f k = let small : n < 10 = grind arith in subst (λ (x : List ℕ). T.token t K (x ++ r)) (sym (decimal_digit n small)) (one_digit n t K r small e k)
    go true f k =
        let large : 10 ≤ n = leb-true 10 n f in
        let tens : n / 10 < 10 = omega arith in
        let text : decimal n ≡ (48 + n / 10) ∷ (48 + n % 10) ∷ [] = decimal_step n large (omega arith) ∙ ap (λ (x : List ℕ). x ++ ((48 + n % 10) ∷ [])) (decimal_digit (n / 10) tens) in
        let whole : n / 10 * 10 + n % 10 ≡ n = omega arith in
        subst (λ (x : List ℕ). T.token t K (x ++ r)) (sym text)
        (two_digits (n / 10) (n % 10) t K r tens (omega arith) e (subst (λ (v : ℕ). T.behind_number t K true v r) (sym whole) k))

no_digit : (c : ℕ) (r : List ℕ) → is_apart (c ∷ r) ≡ true → is_digit c ≡ false
no_digit c r p = go (is_digit c) (no_letter c r p)
  where
    go : (t : Bool) → (begins_identifier c || t || (c == 36)) ≡ false → t ≡ false
    go false e = refl
    go true e = absurd (grind arith)

apart_ends : (r : List ℕ) → is_apart r ≡ true → ends_digits r ≡ true
apart_ends [] p = refl
apart_ends (c ∷ r) p = rw (no_digit c r p) refl

not_quoted : (K : List ℕ → Type 0) (r : List ℕ) → is_apart r ≡ true → K r → T.stops (λ c. c == 39) K r
not_quoted K [] p h = h
not_quoted K (c ∷ r) p h = subst (λ t. T.whether t ⊥ (K (c ∷ r))) (sym (refused (c == 39) (both (not (in_identifier c)) (not (c == 39)) (both (not (in_identifier c) && not (c == 39)) (not (c == 63)) p).0).1)) h

-- and a digit is the first of them
pub first_digit : (n : ℕ) → n < 100 → (c : ℕ) × (w : List ℕ) × (decimal n ≡ c ∷ w) × (is_digit c ≡ true)
first_digit n l = go (nat_le 10 n) refl
  where
    go : (b : Bool) → nat_le 10 n ≡ b → (c : ℕ) × (w : List ℕ) × (decimal n ≡ c ∷ w) × (is_digit c ≡ true)
    go false f = let small : n < 10 = grind arith in (48 + n, [], decimal_digit n small, (digit n small).1)
    go true f =
        let large : 10 ≤ n = leb-true 10 n f in
        let tens : n / 10 < 10 = omega arith in
        (48 + n / 10, (48 + n % 10) ∷ [], decimal_step n large (omega arith) ∙ ap (λ (x : List ℕ). x ++ ((48 + n % 10) ∷ [])) (decimal_digit (n / 10) tens), (digit (n / 10) tens).1)

one_bare : (c : ℕ) (r : List ℕ) → is_text_byte c ≡ true → list_all is_text_byte r ≡ true → list_all is_text_byte (c ∷ r) ≡ true
one_bare c r e h = rw e h

digit_bare : (c : ℕ) → is_digit c ≡ true → is_text_byte c ≡ true
digit_bare c e = grind (arith, nat_tests)

digits_bare : (n : ℕ) (r : List ℕ) → n < 100 → list_all is_text_byte r ≡ true → list_all is_text_byte (decimal n ++ r) ≡ true
digits_bare n r l h = go (nat_le 10 n) refl
  where
    go : (b : Bool) → nat_le 10 n ≡ b → list_all is_text_byte (decimal n ++ r) ≡ true
    go false f =
        let small : n < 10 = grind arith in
        subst (λ (x : List ℕ). list_all is_text_byte (x ++ r) ≡ true) (sym (decimal_digit n small)) (one_bare (48 + n) r (digit_bare (48 + n) (digit n small).1) h)
    go true f =
        let large : 10 ≤ n = leb-true 10 n f in
        let tens : n / 10 < 10 = omega arith in
        let text : decimal n ≡ (48 + n / 10) ∷ (48 + n % 10) ∷ [] = decimal_step n large (omega arith) ∙ ap (λ (x : List ℕ). x ++ ((48 + n % 10) ∷ [])) (decimal_digit (n / 10) tens) in
        subst (λ (x : List ℕ). list_all is_text_byte (x ++ r) ≡ true) (sym text)
        (one_bare (48 + n / 10) ((48 + n % 10) ∷ r) (digit_bare (48 + n / 10) (digit (n / 10) tens).1)
        (one_bare (48 + n % 10) r (digit_bare (48 + n % 10) (digit (n % 10) (omega arith)).1) h))

-- a number of a select or a range
pub numbered : (n : ℕ) (K : List T.Token → Type 0) (r : List ℕ) → is_place n ≡ true → is_apart r ≡ true → Spelt K r → Spelt (number n K) (decimal n ++ r)
numbered n K r i p h = record {
  tokens = T.Number (nat_le 10 n) n ∷ h.tokens;
  lexed = begins (decimal n ++ r) (digits_begin n (T.Number (nat_le 10 n) n) (T.Lexed h.tokens) r (omega (arith, leb-true n 63 i)) (apart_ends r p) (refl, refl, not_quoted (T.Lexed h.tokens) r p h.lexed));
  kept = rw i h.kept;
  bare = digits_bare n r (omega (arith, leb-true n 63 i)) h.bare;
  meant = (refl, h.meant);
}
  where
    begins : (b : List ℕ) → T.token (T.Number (nat_le 10 n) n) (T.Lexed h.tokens) b → T.Lexed (T.Number (nat_le 10 n) n ∷ h.tokens) b
    begins [] k = k
    begins (c ∷ b) k = inl k

-- the low bound of a range
pub zeroed : (K : List T.Token → Type 0) (r : List ℕ) → is_apart r ≡ true → Spelt K r → Spelt (zero_number K) (48 ∷ r)
zeroed K r p h = record {
  tokens = T.Number false 0 ∷ h.tokens;
  lexed = inl (digits_end false 0 (T.behind_number (T.Number false 0) (T.Lexed h.tokens)) r (apart_ends r p) (refl, refl, not_quoted (T.Lexed h.tokens) r p h.lexed));
  kept = h.kept;
  bare = h.bare;
  meant = h.meant;
}

-- ---- hexadecimal digits

hex_digit : (d : ℕ) → d < 16 → (is_digit_of Hexadecimal (digit_glyph false d) ≡ true) × (digit_value (digit_glyph false d) ≡ d)
hex_digit zero h = (refl, refl)
hex_digit (suc zero) h = (refl, refl)
hex_digit (suc (suc zero)) h = (refl, refl)
hex_digit (suc (suc (suc zero))) h = (refl, refl)
hex_digit (suc (suc (suc (suc zero)))) h = (refl, refl)
hex_digit (suc (suc (suc (suc (suc zero))))) h = (refl, refl)
hex_digit (suc (suc (suc (suc (suc (suc zero)))))) h = (refl, refl)
hex_digit (suc (suc (suc (suc (suc (suc (suc zero))))))) h = (refl, refl)
hex_digit (suc (suc (suc (suc (suc (suc (suc (suc zero)))))))) h = (refl, refl)
hex_digit (suc (suc (suc (suc (suc (suc (suc (suc (suc zero))))))))) h = (refl, refl)
hex_digit (suc (suc (suc (suc (suc (suc (suc (suc (suc (suc zero)))))))))) h = (refl, refl)
hex_digit (suc (suc (suc (suc (suc (suc (suc (suc (suc (suc (suc zero))))))))))) h = (refl, refl)
hex_digit (suc (suc (suc (suc (suc (suc (suc (suc (suc (suc (suc (suc zero)))))))))))) h = (refl, refl)
hex_digit (suc (suc (suc (suc (suc (suc (suc (suc (suc (suc (suc (suc (suc zero))))))))))))) h = (refl, refl)
hex_digit (suc (suc (suc (suc (suc (suc (suc (suc (suc (suc (suc (suc (suc (suc zero)))))))))))))) h = (refl, refl)
hex_digit (suc (suc (suc (suc (suc (suc (suc (suc (suc (suc (suc (suc (suc (suc (suc zero))))))))))))))) h = (refl, refl)
hex_digit (suc (suc (suc (suc (suc (suc (suc (suc (suc (suc (suc (suc (suc (suc (suc (suc d)))))))))))))))) h = absurd (omega arith)

hex_text : (n value : ℕ) (t : T.Token) (K : List ℕ → Type 0) (size : ℕ) (r : List ℕ) → value < 16 ^ suc n → T.digits Hexadecimal value (T.behind_digits t K size Hexadecimal) r → T.behind_letter t K size Hexadecimal (hex_digits (suc n) value ++ r)
hex_text zero value t K size r l h =
    let small : value < 16 = let power = pow-suc 16 0 in omega arith in
    let same : value % 16 ≡ value = omega arith in
    let d = hex_digit (value % 16) (omega arith) in
    subst (λ b. when b (T.digits Hexadecimal (digit_value (digit_glyph false (value % 16))) (T.behind_digits t K size Hexadecimal) r)) (sym d.0)
    (subst (λ (v : ℕ). T.digits Hexadecimal v (T.behind_digits t K size Hexadecimal) r) (sym (d.1 ∙ same)) h)
hex_text (suc n) value t K size r l h =
    let power = pow-suc 16 (suc n) in
    let less : value / 16 < 16 ^ suc n = omega arith in
    let whole : value / 16 * 16 + value % 16 ≡ value = omega arith in
    let d = hex_digit (value % 16) (omega arith) in
    let g : ℕ = digit_glyph false (value % 16) in
    subst (λ (x : List ℕ). T.behind_letter t K size Hexadecimal x) (sym (append_assoc (hex_digits (suc n) (value / 16)) (g ∷ []) r))
    (hex_text n (value / 16) t K size (g ∷ r) less
    (subst (λ b. T.whether b (T.digits Hexadecimal (value / 16 * 16 + digit_value g) (T.behind_digits t K size Hexadecimal) r) (T.whether (g == 95) (T.digits Hexadecimal (value / 16) (T.behind_digits t K size Hexadecimal) r) (T.behind_digits t K size Hexadecimal (value / 16) (g ∷ r)))) (sym d.0)
    (subst (λ (v : ℕ). T.digits Hexadecimal (value / 16 * 16 + v) (T.behind_digits t K size Hexadecimal) r) (sym d.1)
    (subst (λ (v : ℕ). T.digits Hexadecimal v (T.behind_digits t K size Hexadecimal) r) (sym whole) h))))

-- a byte that stands in no word is no hexadecimal digit and no _
no_hex : (c : ℕ) → in_identifier c ≡ false → (is_digit_of Hexadecimal c ≡ false) × ((c == 95) ≡ false)
no_hex c e = (grind (arith, nat_tests), grind (arith, nat_tests))

hex_end : (v : ℕ) (K : ℕ → List ℕ → Type 0) (r : List ℕ) → is_apart r ≡ true → K v r → T.digits Hexadecimal v K r
hex_end v K [] p h = h
hex_end v K (c ∷ r) p h =
    let n = no_hex c (no_letter c r p) in
    subst (λ t. T.whether t (T.digits Hexadecimal (v * 16 + digit_value c) K r) (T.whether (c == 95) (T.digits Hexadecimal v K r) (K v (c ∷ r)))) (sym n.0)
    (subst (λ t. T.whether t (T.digits Hexadecimal v K r) (K v (c ∷ r))) (sym n.1) h)

not_asked : (K : List ℕ → Type 0) (r : List ℕ) → is_apart r ≡ true → K r → T.stops (T.is_query Hexadecimal) K r
not_asked K [] p h = h
not_asked K (c ∷ r) p h = subst (λ t. T.whether t ⊥ (K (c ∷ r))) (sym (refused (c == 63) (both (not (in_identifier c) && not (c == 39)) (not (c == 63)) p).1)) h

glyph_bare : (d : ℕ) → d < 16 → is_text_byte (digit_glyph false d) ≡ true
glyph_bare d l = of_hex (digit_glyph false d) (hex_digit d l).0
  where
    of_hex : (c : ℕ) → is_digit_of Hexadecimal c ≡ true → is_text_byte c ≡ true
    of_hex c e = grind (arith, nat_tests)

hex_bare : (n value : ℕ) (r : List ℕ) → list_all is_text_byte r ≡ true → list_all is_text_byte (hex_digits n value ++ r) ≡ true
hex_bare zero value r h = h
hex_bare (suc n) value r h =
    let g : ℕ = digit_glyph false (value % 16) in
    subst (λ (x : List ℕ). list_all is_text_byte x ≡ true) (sym (append_assoc (hex_digits n (value / 16)) (g ∷ []) r))
    (hex_bare n (value / 16) (g ∷ r) (one_bare g r (glyph_bare (value % 16) (omega arith)) h))

-- ---- literals

pub narrow : (x : Vector) → is_literal x ≡ true → x.width < 100
narrow x i = let most : x.width ≤ 64 = leb-true x.width 64 (both (nat_le 1 x.width) (nat_le x.width 64) (both (is_width x.width) (nat_lt x.value (2 ^ x.width)) i).0).1 in omega arith

-- a sized constant
pub constant : (x : Vector) (K : List T.Token → Type 0) (r : List ℕ) → is_literal x ≡ true → is_apart r ≡ true → Spelt K r → Spelt (literal x K) (literal_text x ++ r)
constant x K r i p h = grouped (literal x K) (literal_text x ++ r) (decimal x.width ++ (39 ∷ 104 ∷ (hex_digits ((x.width + 3) / 4) x.value ++ r))) regrouped (record {
  tokens = T.Based x ∷ h.tokens;
  lexed = begins (decimal x.width ++ (39 ∷ 104 ∷ (hex_digits ((x.width + 3) / 4) x.value ++ r))) (digits_begin x.width (T.Based x) (T.Lexed h.tokens) (39 ∷ 104 ∷ (hex_digits ((x.width + 3) / 4) x.value ++ r)) (omega (arith, at_most)) refl written);
  kept = rw i h.kept;
  bare = digits_bare x.width (39 ∷ 104 ∷ (hex_digits ((x.width + 3) / 4) x.value ++ r)) (narrow x i) (hex_bare ((x.width + 3) / 4) x.value r h.bare);
  meant = (refl, h.meant);
})
  where
    parts : (is_width x.width ≡ true) × (nat_lt x.value (2 ^ x.width) ≡ true)
    parts = both (is_width x.width) (nat_lt x.value (2 ^ x.width)) i

    at_most : x.width ≤ 64
    at_most = leb-true x.width 64 (both (nat_le 1 x.width) (nat_le x.width 64) parts.0).1

    some : 1 ≤ x.width
    some = leb-true 1 x.width (both (nat_le 1 x.width) (nat_le x.width 64) parts.0).0

    regrouped : literal_text x ++ r ≡ decimal x.width ++ (39 ∷ 104 ∷ (hex_digits ((x.width + 3) / 4) x.value ++ r))
    regrouped = simp append_assoc

    count : (x.width + 3) / 4 ≡ suc ((x.width - 1) / 4)
    count = omega (arith, some)

    written : T.behind_letter (T.Based x) (T.Lexed h.tokens) x.width Hexadecimal (hex_digits ((x.width + 3) / 4) x.value ++ r)
    written = subst (λ (n : ℕ). T.behind_letter (T.Based x) (T.Lexed h.tokens) x.width Hexadecimal (hex_digits n x.value ++ r)) (sym count)
        (hex_text ((x.width - 1) / 4) x.value (T.Based x) (T.Lexed h.tokens) x.width r (subst (λ (n : ℕ). x.value < 16 ^ n) count (word_digits x.width x.value (ltb-true x.value (2 ^ x.width) parts.1)))
        (hex_end x.value (T.behind_digits (T.Based x) (T.Lexed h.tokens) x.width Hexadecimal) r p (refl, not_asked (T.Lexed h.tokens) r p h.lexed)))

    begins : (b : List ℕ) → T.token (T.Based x) (T.Lexed h.tokens) b → T.Lexed (T.Based x ∷ h.tokens) b
    begins [] k = k
    begins (c ∷ b) k = inl k
