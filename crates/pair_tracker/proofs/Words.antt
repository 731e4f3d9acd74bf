-- Direction words of some elements of a march: the bits of the other elements are 0.
use Rattle.std.proofs.Common.{◌≡◌, ◌+◌, ◌-◌, ◌*◌, ◌/◌, ◌%◌, ◌^◌, ◌<◌, ◌≤◌, ℕ, zero, suc, cond, eqb, [], ◌∷◌, ◌++◌, map, refl, ap, sym, subst, ◌∙◌, ◌⊎◌, ⊎_elim, inl, inr, arith}
use Rattle.std.proofs.lemmas.Nat.{pow_pos, pow-add, shl-shr, shr-shr, div-mul-add, shr_split, mod_below, row_fits, shr_below, shl_below}
use Rattle.std.proofs.Math.Pow.{pow_mono}
use Rattle.std.proofs.Math.Nat.{mul-mod_left, mul-add-div_right, mul-add-mod_self_right}
use Rattle.std.proofs.lemmas.List.{map-append}
use Rattle.std.specs.List.{range_with_len}
use Rattle.march_core.specs.Visits.{Direction, Upward, Downward, direction_at, directions_of}
use Rattle.pair_tracker.specs.Legs.{directions_between}
use Rattle.pair_tracker.specs.Tracking.{IsSpanWord}
use Rattle.pair_tracker.specs.Tracking.{weight_in}

-- one behind another
pub span_below : (i j word : ℕ) → i ≤ j → j ≤ 64 → IsSpanWord i j word → word < 2 ^ (64 - i)
span_below i j word ij j64 span =
    let whole : (j - i) + (64 - j) ≡ 64 - i = omega arith in
    let below : span.digits * 2 ^ (64 - j) < 2 ^ ((j - i) + (64 - j)) = shl_below span.digits (j - i) (64 - j) span.within in
    subst (λ m. word < 2 ^ m) whole (subst (λ w. w < 2 ^ ((j - i) + (64 - j))) (sym span.is) below)

pub span_fits : (i j word : ℕ) → i ≤ j → j ≤ 64 → IsSpanWord i j word → word < 2 ^ 64
span_fits i j word ij j64 span =
    let below : word < 2 ^ (64 - i) = span_below i j word ij j64 span in
    let most : 2 ^ (64 - i) ≤ 2 ^ 64 = pow_mono {i = 64 - i} {j = 64} (omega arith) in
    omega arith

as_sum : (a b s t : ℕ) → a * (s * t) + b * t ≡ (a * s + b) * t
as_sum a b s t = omega arith

-- the bits above those of the elements from j on
raised : (j k digits : ℕ) → j ≤ k → k ≤ 64 → digits * 2 ^ (64 - j) ≡ digits * (2 ^ (k - j) * 2 ^ (64 - k))
raised j k digits jk k64 =
    let parts : 64 - j ≡ (k - j) + (64 - k) = omega arith in
    ap (λ n. digits * 2 ^ n) parts ∙ ap (λ n. digits * n) (pow-add 2 (k - j) (64 - k))

pub span_join : (i j k u w : ℕ) → i ≤ j → j ≤ k → k ≤ 64 → IsSpanWord i j u → IsSpanWord j k w → IsSpanWord i k (u + w)
span_join i j k u w ij jk k64 before rest =
    let a : ℕ = 2 ^ (k - j) in
    let b : ℕ = 2 ^ (64 - k) in
    let front : u ≡ before.digits * (a * b) = before.is ∙ raised j k before.digits jk k64 in
    let room : before.digits * a + a ≤ 2 ^ (j - i) * a = row_fits before.digits a (2 ^ (j - i)) a before.within (omega arith) in
    let parts : (j - i) + (k - j) ≡ k - i = omega arith in
    let all : 2 ^ (j - i) * a ≡ 2 ^ (k - i) = sym (pow-add 2 (j - i) (k - j)) ∙ ap (λ n. 2 ^ n) parts in
    record {
      digits = before.digits * a + rest.digits;
      is = ap (λ n. n + w) front ∙ ap (λ n. before.digits * (a * b) + n) rest.is ∙ as_sum before.digits rest.digits a b;
      within = omega (arith, rest.within);
    }

-- a word in two parts
pub record IsSplit (i j k word : ℕ) : Type 0 where
  pub before : ℕ
  pub rest : ℕ
  pub first : IsSpanWord i j before
  pub second : IsSpanWord j k rest
  pub is : word ≡ before + rest

pub span_split : (i j k word : ℕ) → i ≤ j → j ≤ k → k ≤ 64 → IsSpanWord i k word → IsSplit i j k word
span_split i j k word ij jk k64 span =
    let a : ℕ = 2 ^ (k - j) in
    let b : ℕ = 2 ^ (64 - k) in
    let parts : k - i ≡ (j - i) + (k - j) = omega arith in
    let split : span.digits / a * a + span.digits % a ≡ span.digits = shr_split span.digits (k - j) in
    let is : word ≡ span.digits / a * 2 ^ (64 - j) + span.digits % a * b =
    span.is ∙ ap (λ n. n * b) (sym split) ∙ sym (as_sum (span.digits / a) (span.digits % a) a b)
    ∙ ap (λ n. n + span.digits % a * b) (sym (raised j k (span.digits / a) jk k64)) in
    record {
      before = span.digits / a * 2 ^ (64 - j);
      rest = span.digits % a * b;
      first = record { digits = span.digits / a; is = refl; within = shr_below span.digits (j - i) (k - j) (subst (λ m. span.digits < 2 ^ m) parts span.within) };
      second = record { digits = span.digits % a; is = refl; within = mod_below span.digits a (pow_pos (k - j)) };
      is = is;
    }

-- what stands above a bit is what stands there without it
above : (b low k s : ℕ) → low < 2 ^ k → (b * 2 ^ k + low) / 2 ^ (k + s) ≡ b / 2 ^ s
above b low k s h = sym (shr-shr (b * 2 ^ k + low) k s) ∙ ap (λ n. n / 2 ^ s) (div-mul-add b (2 ^ k) low h)

-- the bits of the elements before j are those of the first part
kept_before : (j x u w digits : ℕ) → x < j → j ≤ 64 → u ≡ digits * 2 ^ (64 - j) → w < 2 ^ (64 - j) → direction_at (u + w) x ≡ direction_at u x
unfolding direction_at
kept_before j x u w digits xj j64 is low =
    let k : ℕ = 64 - j in
    let s : ℕ = j - 1 - x in
    let far : 63 - x ≡ k + s = omega arith in
    let none : u ≡ digits * 2 ^ k + 0 = omega (arith, is) in
    let same : (u + w) / 2 ^ (63 - x) ≡ u / 2 ^ (63 - x) =
    ap (λ n. (u + w) / 2 ^ n) far ∙ ap (λ n. (n + w) / 2 ^ (k + s)) is ∙ above digits w k s low ∙ sym (above digits 0 k s (pow_pos k))
    ∙ ap (λ n. n / 2 ^ (k + s)) (sym none) ∙ ap (λ n. u / 2 ^ n) (sym far) in
    ap (λ n. cond (eqb (n % 2) 1) Downward Upward) same

-- the bits of the elements from j on are those of the second part
kept_behind : (j x u w digits : ℕ) → j ≤ x → x < 64 → u ≡ digits * 2 ^ (64 - j) → direction_at (u + w) x ≡ direction_at w x
unfolding direction_at
kept_behind j x u w digits jx x64 is =
    let k : ℕ = 63 - x in
    let even : ℕ = digits * 2 ^ (x - j) in
    let parts : 64 - j ≡ (x - j) + (1 + k) = omega arith in
    let raises : digits * 2 ^ (64 - j) ≡ even * 2 * 2 ^ k =
    ap (λ n. digits * 2 ^ n) parts ∙ ap (λ n. digits * n) (pow-add 2 (x - j) (1 + k)) ∙ ap (λ n. digits * (2 ^ (x - j) * n)) (pow-add 2 1 k) ∙ (omega arith) in
    let bit : (u + w) / 2 ^ k % 2 ≡ w / 2 ^ k % 2 =
    ap (λ n. (n + w) / 2 ^ k % 2) (is ∙ raises) ∙ ap (λ n. n % 2) (mul-add-div_right (pow_pos k) (even * 2) w) ∙ mul-add-mod_self_right even 2 (w / 2 ^ k) in
    ap (λ n. cond (eqb n 1) Downward Upward) bit

same_map : {X : Type 0} (f g : ℕ → X) (i n : ℕ) → ((x : ℕ) → i ≤ x → x < i + n → f x ≡ g x) → map f (range_with_len i n) ≡ map g (range_with_len i n)
same_map f g i zero same = refl
same_map f g i (suc n) same =
    ap (λ y. y ∷ map f (range_with_len (i + 1) n)) (same i (omega arith) (omega arith))
    ∙ ap (λ ys. g i ∷ ys) (same_map f g (i + 1) n (λ x low high. same x (omega arith) (omega arith)))

range_parts : (i m n : ℕ) → range_with_len i (m + n) ≡ range_with_len i m ++ range_with_len (i + m) n
range_parts i zero n =
    let none : zero + n ≡ n = omega arith in
    let here : i ≡ i + zero = omega arith in
    ap (range_with_len i) none ∙ ap (λ k. range_with_len k n) here
range_parts i (suc m) n =
    let more : suc m + n ≡ suc (m + n) = omega arith in
    let next : (i + 1) + m ≡ i + suc m = omega arith in
    ap (range_with_len i) more ∙ ap (λ xs. i ∷ xs) (range_parts (i + 1) m n ∙ ap (λ k. range_with_len (i + 1) m ++ range_with_len k n) next)

pub directions_join : (i j k u w : ℕ) → i ≤ j → j ≤ k → k ≤ 64 → IsSpanWord i j u → IsSpanWord j k w
    → directions_between (u + w) i k ≡ directions_between u i j ++ directions_between w j k
directions_join i j k u w ij jk k64 before rest =
    let low : w < 2 ^ (64 - j) = span_below j k w jk k64 rest in
    let parts : k - i ≡ (j - i) + (k - j) = omega arith in
    let there : i + (j - i) ≡ j = omega arith in
    let sum : ℕ → Direction = λ x. direction_at (u + w) x in
    ap (λ n. map sum (range_with_len i n)) parts ∙ ap (map sum) (range_parts i (j - i) (k - j))
    ∙ ap (λ n. map sum (range_with_len i (j - i) ++ range_with_len n (k - j))) there
    ∙ map-append sum (range_with_len i (j - i)) (range_with_len j (k - j))
    ∙ ap (λ ds. ds ++ map sum (range_with_len j (k - j)))
    (same_map sum (direction_at u) i (j - i) (λ x ix xj. kept_before j x u w before.digits (omega arith) (omega arith) before.is low))
    ∙ ap (λ ds. directions_between u i j ++ ds)
    (same_map sum (direction_at w) j (k - j) (λ x jx xk. kept_behind j x u w before.digits jx (omega arith) before.is))

-- the word of one element
bit_of : Direction → ℕ
bit_of Upward = 0
bit_of Downward = 1

weight_bit : (k : ℕ) (d : Direction) → weight_in (2 ^ k) d ≡ bit_of d * 2 ^ k
unfolding bit_of
weight_bit k Upward = omega arith
weight_bit k Downward = omega arith

pub span_one : (i : ℕ) (d : Direction) → i < 64 → IsSpanWord i (i + 1) (weight_in (2 ^ (63 - i)) d)
unfolding bit_of
span_one i d h =
    let rest : 63 - i ≡ 64 - (i + 1) = omega arith in
    let one : i + 1 - i ≡ 1 = omega arith in
    record {
      digits = bit_of d;
      is = weight_bit (63 - i) d ∙ ap (λ n. bit_of d * 2 ^ n) rest;
      within = subst (λ n. bit_of d < 2 ^ n) (sym one) (fits d);
    }
  where
    fits : (d : Direction) → bit_of d < 2 ^ 1
    fits Upward = omega arith
    fits Downward = omega arith

pub direction_one : (i : ℕ) (d : Direction) → direction_at (weight_in (2 ^ (63 - i)) d) i ≡ d
unfolding direction_at bit_of
direction_one i d =
    let bit : weight_in (2 ^ (63 - i)) d / 2 ^ (63 - i) % 2 ≡ bit_of d =
    ap (λ n. n / 2 ^ (63 - i) % 2) (weight_bit (63 - i) d) ∙ ap (λ n. n % 2) (shl-shr (bit_of d) (63 - i)) ∙ small d in
    ap (λ n. cond (eqb n 1) Downward Upward) bit ∙ tells d
  where
    small : (d : Direction) → bit_of d % 2 ≡ bit_of d
    small Upward = refl
    small Downward = refl

    tells : (d : Direction) → cond (eqb (bit_of d) 1) Downward Upward ≡ d
    tells Upward = refl
    tells Downward = refl

pub directions_one : (i : ℕ) (d : Direction) → directions_between (weight_in (2 ^ (63 - i)) d) i (i + 1) ≡ d ∷ []
directions_one i d =
    let one : i + 1 - i ≡ 1 = omega arith in
    ap (λ n. map (direction_at (weight_in (2 ^ (63 - i)) d)) (range_with_len i n)) one ∙ ap (λ e. e ∷ []) (direction_one i d)

pub one_split : (i word : ℕ) → i < 64 → IsSpanWord i (i + 1) word → (d : Direction) × (word ≡ weight_in (2 ^ (63 - i)) d)
unfolding bit_of
one_split i word h span =
    ⊎_elim (λ (up : span.digits ≡ bit_of Upward). with_bit Upward up) (λ (down : span.digits ≡ bit_of Downward). with_bit Downward down) cases
  where
    small : span.digits < 2
    small = let one : i + 1 - i ≡ 1 = omega arith in subst (λ n. span.digits < 2 ^ n) one span.within

    cases : (span.digits ≡ 0) ⊎ (span.digits ≡ 1)
    cases = which span.digits small
      where
        which : (n : ℕ) → n < 2 → (n ≡ 0) ⊎ (n ≡ 1)
        which zero h = inl refl
        which (suc zero) h = inr refl
        which (suc (suc n)) h = absurd (omega arith)

    with_bit : (d : Direction) → span.digits ≡ bit_of d → (d : Direction) × (word ≡ weight_in (2 ^ (63 - i)) d)
    with_bit d e =
        let rest : 64 - (i + 1) ≡ 63 - i = omega arith in
        (d, span.is ∙ ap (λ n. span.digits * 2 ^ n) rest ∙ ap (λ n. n * 2 ^ (63 - i)) e ∙ sym (weight_bit (63 - i) d))

pub directions_from_first : (word n : ℕ) → directions_between word 0 n ≡ directions_of word n
directions_from_first word n =
    let all : n - 0 ≡ n = omega arith in
    ap (λ m. map (direction_at word) (range_with_len 0 m)) all

-- spans by their bounds and their remainders
pub span_from_rest : (i j word : ℕ) → i ≤ j → j ≤ 64 → word < 2 ^ (64 - i) → word % 2 ^ (64 - j) ≡ 0 → IsSpanWord i j word
span_from_rest i j word ij j64 within rest =
    let split : word / 2 ^ (64 - j) * 2 ^ (64 - j) + word % 2 ^ (64 - j) ≡ word = shr_split word (64 - j) in
    let whole : 64 - i ≡ (j - i) + (64 - j) = omega arith in
    record {
      digits = word / 2 ^ (64 - j);
      is = omega arith;
      within = shr_below word (j - i) (64 - j) (subst (λ m. word < 2 ^ m) whole within);
    }

pub rest_from_span : (i j word : ℕ) → IsSpanWord i j word → word % 2 ^ (64 - j) ≡ 0
rest_from_span i j word span = ap (λ m. m % 2 ^ (64 - j)) span.is ∙ mul-mod_left span.digits (2 ^ (64 - j))
