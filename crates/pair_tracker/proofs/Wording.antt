-- The first directions are the least direction word.
use Rattle.std.proofs.Common.{◌≡◌, ◌≤◌, ◌<◌, ◌+◌, ◌-◌, ◌*◌, ◌^◌, ℕ, zero, suc, Bool, true, false, ◌&&◌, List, [], ◌∷◌, ◌++◌, length, map, refl, ap, sym, subst, ◌∙◌, arith}
use Rattle.std.proofs.lemmas.Nat.{pow_pos}
use Rattle.std.proofs.lemmas.List.FromFn.{length-map-range_with_len}
use Rattle.std.specs.List.{range_with_len}
use Rattle.march_core.specs.March.{MarchElement, order_of}
use Rattle.march_core.specs.Visits.{Direction, Upward, Downward, allows, is_direction, direction_at, directions_of, FitsWord}
use Rattle.pair_tracker.specs.Legs.{directions_between}
use Rattle.pair_tracker.specs.Tracking.{weight_in, IsSpanWord}
use Rattle.pair_tracker.proofs.Words.{span_below, span_join, IsSplit, span_split, directions_join, span_one, directions_one, one_split, span_fits, directions_from_first, span_from_rest, rest_from_span}
use Rattle.pair_tracker.specs.Ways.{ways_word, IsNotAfter}

pub record IsWordOf (ds : List Direction) (i j word : ℕ) : Type 0 where
  pub span : IsSpanWord i j word
  pub stands : directions_between word i j ≡ ds

none_between : (word i j : ℕ) → j ≡ i → directions_between word i j ≡ []
none_between word i j e =
    let none : j - i ≡ 0 = omega arith in
    ap (λ n. map (direction_at word) (range_with_len i n)) none

word_none : (i j : ℕ) → j ≡ i → IsWordOf [] i j 0
word_none i j e = record { span = record { digits = 0; is = omega arith; within = pow_pos (j - i) }; stands = none_between 0 i j e }

pub is_word : (ds : List Direction) (i j : ℕ) → j ≡ i + length ds → j ≤ 64 → IsWordOf ds i j (ways_word i ds)
is_word [] i j e h = word_none i j (omega arith)
is_word (d ∷ ds) i j e h =
    let one : ℕ = weight_in (2 ^ (63 - i)) d in
    let rest = is_word ds (i + 1) j (omega arith) h in
    let first : IsSpanWord i (i + 1) one = span_one i d (omega arith) in
    record {
      span = span_join i (i + 1) j one (ways_word (i + 1) ds) (omega arith) (omega arith) h first rest.span;
      stands = directions_join i (i + 1) j one (ways_word (i + 1) ds) (omega arith) (omega arith) h first rest.span
          ∙ ap (λ l. l ++ directions_between (ways_word (i + 1) ds) (i + 1) j) (directions_one i d) ∙ ap (λ l. d ∷ l) rest.stands;
    }

-- each word is that of its directions
pub word_again : (n i j w : ℕ) → j ≡ i + n → j ≤ 64 → IsSpanWord i j w → w ≡ ways_word i (directions_between w i j)
word_again zero i j w e h span =
    let none : j - i ≡ 0 = omega arith in
    let small : span.digits < 2 ^ 0 = subst (λ k. span.digits < 2 ^ k) none span.within in
    let zero_digits : span.digits ≡ 0 = omega arith in
    span.is ∙ ap (λ k. k * 2 ^ (64 - j)) zero_digits ∙ (omega arith) ∙ sym (ap (ways_word i) (none_between w i j (omega arith)))
word_again (suc n) i j w e h span =
    let split : IsSplit i (i + 1) j w = span_split i (i + 1) j w (omega arith) (omega arith) h span in
    let one = one_split i split.before (omega arith) split.first in
    let d : Direction = one.0 in
    let weight : ℕ = weight_in (2 ^ (63 - i)) d in
    let is : w ≡ weight + split.rest = split.is ∙ ap (λ k. k + split.rest) one.1 in
    let parts : directions_between w i j ≡ d ∷ directions_between split.rest (i + 1) j =
    ap (λ k. directions_between k i j) is
    ∙ directions_join i (i + 1) j weight split.rest (omega arith) (omega arith) h (span_one i d (omega arith)) split.second
    ∙ ap (λ l. l ++ directions_between split.rest (i + 1) j) (directions_one i d) in
    is ∙ ap (λ k. weight + k) (word_again n (i + 1) j split.rest (omega arith) h split.second) ∙ sym (ap (ways_word i) parts)

-- an earlier choice of directions has no greater word
pub words_ordered : (xs ys : List Direction) (i j : ℕ) → j ≡ i + length xs → j ≡ i + length ys → j ≤ 64 → IsNotAfter xs ys → ways_word i xs ≤ ways_word i ys
words_ordered [] [] i j e f h n = omega arith
words_ordered [] (y ∷ ys) i j e f h n = absurd (omega arith)
words_ordered (x ∷ xs) [] i j e f h n = absurd (omega arith)
words_ordered (Upward ∷ xs) (Upward ∷ ys) i j e f h n = let rest = words_ordered xs ys (i + 1) j (omega arith) (omega arith) h n in omega arith
words_ordered (Downward ∷ xs) (Downward ∷ ys) i j e f h n = let rest = words_ordered xs ys (i + 1) j (omega arith) (omega arith) h n in omega arith
words_ordered (Downward ∷ xs) (Upward ∷ ys) i j e f h n = absurd n
words_ordered (Upward ∷ xs) (Downward ∷ ys) i j e f h n =
    let below : ways_word (i + 1) xs < 2 ^ (64 - (i + 1)) = span_below (i + 1) j (ways_word (i + 1) xs) (omega arith) h (is_word xs (i + 1) j (omega arith) h).span in
    let place : 64 - (i + 1) ≡ 63 - i = omega arith in
    let under : ways_word (i + 1) xs < 2 ^ (63 - i) = subst (λ k. ways_word (i + 1) xs < 2 ^ k) place below in
    omega arith

pub fits_length : (es : List MarchElement) (ds : List Direction) → is_direction es ds ≡ true → length ds ≡ length es
fits_length [] [] e = refl
fits_length [] (d ∷ ds) e = cc
fits_length (x ∷ es) [] e = cc
fits_length (x ∷ es) (d ∷ ds) e = ap suc (fits_length es ds (second (allows (order_of x) d) (is_direction es ds) e))
  where
    second : (a b : Bool) → (a && b) ≡ true → b ≡ true
    second true b e = e
    second false b e = cc

-- the word of allowed directions
pub record IsFitting (march : List MarchElement) (ds : List Direction) : Type 0 where
  pub is_word : ways_word 0 ds < 2 ^ 64
  pub fits : FitsWord march (ways_word 0 ds)
  pub stands : directions_of (ways_word 0 ds) (length march) ≡ ds

pub fitting_word : (march : List MarchElement) (ds : List Direction) → length march ≤ 64 → is_direction march ds ≡ true → IsFitting march ds
fitting_word march ds h allowed =
    let size : length ds ≡ length march = fits_length march ds allowed in
    let w = is_word ds 0 (length march) (omega arith) h in
    let stands : directions_of (ways_word 0 ds) (length march) ≡ ds = sym (directions_from_first (ways_word 0 ds) (length march)) ∙ w.stands in
    record {
      is_word = span_fits 0 (length march) (ways_word 0 ds) (omega arith) h w.span;
      fits = record { allowed = ap (is_direction march) stands ∙ allowed; rest = rest_from_span 0 (length march) (ways_word 0 ds) w.span };
      stands = stands;
    }

pub word_least : (march : List MarchElement) (ds : List Direction) (other : ℕ) → length march ≤ 64 → is_direction march ds ≡ true → other < 2 ^ 64 → FitsWord march other
    → IsNotAfter ds (directions_of other (length march)) → ways_word 0 ds ≤ other
word_least march ds other h allowed below fits n =
    let size : length ds ≡ length march = fits_length march ds allowed in
    let count : length (directions_of other (length march)) ≡ length march = length-map-range_with_len (direction_at other) 0 (length march) in
    let span : IsSpanWord 0 (length march) other = span_from_rest 0 (length march) other (omega arith) h below fits.rest in
    let again : other ≡ ways_word 0 (directions_of other (length march)) =
    word_again (length march) 0 (length march) other (omega arith) h span ∙ ap (ways_word 0) (directions_from_first other (length march)) in
    subst (λ w. ways_word 0 ds ≤ w) (sym again)
    (words_ordered ds (directions_of other (length march)) 0 (length march) (omega arith) (omega arith) h n)
