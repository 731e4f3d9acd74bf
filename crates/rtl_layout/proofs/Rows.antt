-- Rows of bits, and lists that are moved on by one.
use Rattle.std.proofs.Common.{◌≡◌, ℕ, zero, suc, ◌+◌, ◌-◌, ◌*◌, ◌/◌, ◌%◌, ◌^◌, ◌<◌, ◌≤◌, Bool, true, false, nat_eq, List, [], ◌∷◌, ◌++◌, length, map, refl, sym, ap, ◌∙◌, subst, arith, inl, inr, lit<}
use Rattle.std.specs.Prelude.{slice_index_or}
use Rattle.std.proofs.Math.Nat.{div-div-eq-div-mul, mod-eq_of_lt, pow-le-pow_right}
use Rattle.std.proofs.lemmas.Bool.Decides.{eqb_tells, leb_tells}
use Rattle.std.proofs.lemmas.List.{length-append, length-map, map-append}
use Rattle.verilog_tree.specs.Meaning.{Env, bit, value}
use Rattle.rtl_layout.specs.Build.{bit_of, rotated, counted, number_of, bit_in}
use Rattle.rtl_layout.specs.Control.{turned}
use Rattle.rtl_layout.proofs.Choice.{double, bit_of_is, pick_of}

-- ---- one item more at the end

before_end : {A : Type 0} (xs : List A) (y d : A) (j : ℕ) → j < length xs → slice_index_or (xs ++ y ∷ []) j d ≡ slice_index_or xs j d
before_end [] y d j h = absurd (omega arith)
before_end (x ∷ xs) y d zero h = refl
before_end (x ∷ xs) y d (suc j) h = before_end xs y d j (omega arith)

at_end : {A : Type 0} (xs : List A) (y d : A) (j : ℕ) → j ≡ length xs → slice_index_or (xs ++ y ∷ []) j d ≡ y
at_end [] y d zero h = refl
at_end [] y d (suc j) h = absurd (omega arith)
at_end (x ∷ xs) y d zero h = absurd (omega arith)
at_end (x ∷ xs) y d (suc j) h = at_end xs y d j (omega arith)

-- ---- numbers in order

pub length_counted : (n : ℕ) → length (counted n) ≡ n
length_counted zero = refl
length_counted (suc n) = let l = length-append (counted n) (n ∷ []) in let e = length_counted n in omega arith

pub counted_at : (n j d : ℕ) → j < n → slice_index_or (counted n) j d ≡ j
counted_at zero j d h = absurd (omega arith)
counted_at (suc n) j d h =
    let l = length_counted n in
    elim (eqb_tells j n) [
      | inl q ↦ let e = q.1 in at_end (counted n) n d j (omega arith) ∙ sym e
      | inr q ↦ let e = q.1 in before_end (counted n) n d j (omega arith) ∙ counted_at n j d (omega arith)
    ]

-- ---- lists moved on by one

pub length_rotated : {A : Type 0} (xs : List A) → length (rotated xs) ≡ length xs
length_rotated [] = refl
length_rotated (x ∷ xs) = let l = length-append xs (x ∷ []) in omega arith

pub rotated_at : {A : Type 0} (xs : List A) (k : ℕ) (d : A) → k < length xs → slice_index_or (rotated xs) k d ≡ slice_index_or xs (turned (nat_eq k (length xs - 1)) k) d
rotated_at [] k d h = absurd (omega arith)
rotated_at (x ∷ xs) k d h =
    elim (eqb_tells k (length (x ∷ xs) - 1)) [
      | inl q ↦ let e = q.1 in at_end xs x d k (omega arith) ∙ sym (ap (λ t. slice_index_or (x ∷ xs) (turned t k) d) q.0)
      | inr q ↦
          let e = q.1 in
          let up : suc k ≡ k + 1 = omega arith in
          before_end xs x d k (omega arith) ∙ ap (λ (j : ℕ). slice_index_or (x ∷ xs) j d) up ∙ sym (ap (λ t. slice_index_or (x ∷ xs) (turned t k) d) q.0)
    ]

-- ---- numbers of bits

pub number_below : (bs : List Bool) → number_of bs < 2 ^ length bs
number_below [] = omega arith
number_below (true ∷ bs) = let h = number_below bs in let d = double (length bs) in omega arith
number_below (false ∷ bs) = let h = number_below bs in let d = double (length bs) in omega arith

pub number_fits : (bs : List Bool) (w : ℕ) → length bs ≤ w → number_of bs < 2 ^ w
number_fits bs w h = let n = number_below bs in let p : 2 ^ length bs ≤ 2 ^ w = pow-le-pow_right (lit< tt) h in omega arith

bit_half : (t : Bool) (n : ℕ) → (n * 2 + bit t) / 2 ≡ n
bit_half true n = omega arith
bit_half false n = omega arith

bit_low : (t : Bool) (n : ℕ) → (n * 2 + bit t) / 2 ^ 0 % 2 ≡ bit t
bit_low true n = omega arith
bit_low false n = omega arith

pub number_bit : (bs : List Bool) (k : ℕ) (d : Bool) → k < length bs → number_of bs / 2 ^ k % 2 ≡ bit (slice_index_or bs k d)
number_bit [] k d h = absurd (omega arith)
number_bit (b ∷ bs) zero d h = bit_low b (number_of bs)
number_bit (b ∷ bs) (suc k) d h =
    let twice : 2 ^ suc k ≡ 2 * 2 ^ k = omega (arith, double k) in
    let half : number_of (b ∷ bs) / 2 ^ suc k ≡ number_of bs / 2 ^ k =
    ap (λ v. number_of (b ∷ bs) / v) twice ∙ sym (div-div-eq-div-mul (number_of (b ∷ bs)) 2 (2 ^ k)) ∙ ap (λ v. v / 2 ^ k) (bit_half b (number_of bs)) in
    ap (λ v. v % 2) half ∙ number_bit bs k d (omega arith)

flag_at : (f : ℕ → Bool) (n k : ℕ) (d : Bool) → k < n → slice_index_or (map f (counted n)) k d ≡ f k
flag_at f n k d h = mapped (counted n) k (let l = length_counted n in omega arith) ∙ ap f (counted_at n k 0 h)
  where
    mapped : (xs : List ℕ) (j : ℕ) → j < length xs → slice_index_or (map f xs) j d ≡ f (slice_index_or xs j 0)
    mapped [] j h = absurd (omega arith)
    mapped (x ∷ xs) zero h = refl
    mapped (x ∷ xs) (suc j) h = mapped xs j (omega arith)

-- ---- the bit of a row

length_row : (f : ℕ → Bool) (n : ℕ) → length (map f (counted n)) ≡ n
length_row f n = length-map (counted n) f ∙ length_counted n

pub row_fits : (f : ℕ → Bool) (n : ℕ) → number_of (map f (counted n)) < 2 ^ n
row_fits f n = let l = length_row f n in number_fits (map f (counted n)) n (omega arith)

pub bit_in_is : (ws : List ℕ → ℕ) (e : Env) (row n : List ℕ) (w : ℕ) (f : ℕ → Bool) (k : ℕ) → e row ≡ number_of (map f (counted (2 ^ w))) → e n ≡ k → k < 2 ^ w → value ws e (bit_in row n w) ≡ bit (f k)
bit_in_is ws e row n w f k is held below =
    let l = length_counted (2 ^ w) in
    let m = length_row f (2 ^ w) in
    pick_of ws e n w (bit_of row (2 ^ w)) 0 (counted (2 ^ w)) k (omega arith) held (omega arith)
    ∙ ap (λ (j : ℕ). value ws e (bit_of row (2 ^ w) j)) (counted_at (2 ^ w) k 0 below)
    ∙ bit_of_is ws e row (2 ^ w) k (subst (λ v. v < 2 ^ (2 ^ w)) (sym is) (row_fits f (2 ^ w))) below
    ∙ ap (λ v. v / 2 ^ k % 2) is
    ∙ number_bit (map f (counted (2 ^ w))) k false (omega arith)
    ∙ ap bit (flag_at f (2 ^ w) k false below)

-- the numbers in order are below their count
pub counted_below : (n j d : ℕ) → j < length (counted n) → slice_index_or (counted n) j d < n
counted_below n j d h = let l = length_counted n in let e = counted_at n j d (omega arith) in omega arith

-- ---- a row as a loop makes it

number_more : (bs : List Bool) (b : Bool) → number_of (bs ++ b ∷ []) ≡ number_of bs + bit b * 2 ^ length bs
number_more [] true = omega arith
number_more [] false = omega arith
number_more (c ∷ bs) b =
    let h = number_more bs b in
    let twice : 2 ^ suc (length bs) ≡ 2 * 2 ^ length bs = omega (arith, double (length bs)) in
    add_twice (number_of (bs ++ b ∷ [])) (number_of bs) (bit b) (2 ^ length bs) (2 ^ suc (length bs)) (bit c) h twice
  where
    add_twice : (m n t u v c : ℕ) → m ≡ n + t * u → v ≡ 2 * u → m * 2 + c ≡ n * 2 + c + t * v
    add_twice m n t u v c h k = rw (h, k) (grind arith)

-- the bit of one number more
pub row_more : (f : ℕ → Bool) (i : ℕ) → number_of (map f (counted (i + 1))) ≡ number_of (map f (counted i)) + bit (f i) * 2 ^ i
row_more f i =
    let up : i + 1 ≡ suc i = omega arith in
    ap (λ (n : ℕ). number_of (map f (counted n))) up
    ∙ ap number_of (map-append f (counted i) (i ∷ []))
    ∙ number_more (map f (counted i)) (f i)
    ∙ ap (λ (n : ℕ). number_of (map f (counted i)) + bit (f i) * 2 ^ n) (length_row f i)

-- as numbers of 64 bits
pub bit_moved : (t : Bool) (i : ℕ) → i < 64 → bit t * 2 ^ i % 18446744073709551616 ≡ bit t * 2 ^ i
bit_moved t i h = mod-eq_of_lt (within t)
  where
    low : 2 ^ i ≤ 2 ^ 63
    low = pow-le-pow_right (lit< tt) (let l : i ≤ 63 = omega arith in l)

    within : (t : Bool) → bit t * 2 ^ i < 18446744073709551616
    within true = let l = low in omega arith
    within false = omega arith

pub row_stepped : (f : ℕ → Bool) (i v row : ℕ) → i < 64 → v ≡ bit (f i) → row ≡ number_of (map f (counted i)) → row + v * 2 ^ i % 18446744073709551616 ≡ number_of (map f (counted (i + 1)))
row_stepped f i v row h is held =
    ap (λ (n : ℕ). row + n * 2 ^ i % 18446744073709551616) is
    ∙ ap (λ (n : ℕ). row + n) (bit_moved (f i) i h)
    ∙ ap (λ (n : ℕ). n + bit (f i) * 2 ^ i) held
    ∙ sym (row_more f i)

pub row_small : (f : ℕ → Bool) (i n : ℕ) → i < 64 → n ≡ number_of (map f (counted (i + 1))) → n < 18446744073709551616
row_small f i n h is =
    let l = row_fits f (i + 1) in
    let wide : 2 ^ (i + 1) ≤ 2 ^ 64 = pow-le-pow_right (lit< tt) (let l : i + 1 ≤ 64 = omega arith in l) in
    omega arith

-- a width of at most 64 as a shifted one
pub narrow_shift : (w : ℕ) → 2 ^ w ≤ 64 → w < 8
narrow_shift w h = elim (leb_tells 8 w) [
  | inl q ↦ let l : 2 ^ 8 ≤ 2 ^ w = pow-le-pow_right (lit< tt) q.1 in absurd (omega arith)
  | inr q ↦ let l = q.1 in omega arith
]
