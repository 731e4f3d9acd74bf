-- The least word is found element by element: upward where the rest can lead to the end, and else downward with its bit.
use Rattle.std.proofs.Common.{◌≡◌, ◌≤◌, ◌<◌, ◌+◌, ◌-◌, ◌*◌, ◌^◌, ℕ, zero, suc, Bool, true, false, cond, ◌||◌, Option, Some, None, List, [], ◌∷◌, length, refl, ap, sym, subst, ◌∙◌, arith}
use Rattle.std.proofs.Math.Nat.{pow-suc}
use Rattle.std.proofs.Math.Pow.{pow_mono}
use Rattle.march_core.specs.Visits.{Direction, Upward, Downward}
use Rattle.pair_tracker.specs.DeadEnds.{AreFrom}
use Rattle.pair_tracker.specs.Ways.{Leading, holds_at, ways_at, can_reach, ways_to, ways_word, word_by, word_behind}
use Rattle.pair_tracker.proofs.Words.{span_below}
use Rattle.pair_tracker.proofs.Wording.{is_word}

abbrev pub first_word : ℕ → Option ℕ → Option ℕ → Option ℕ
first_word weight (Some word) down = Some word
first_word weight None (Some word) = Some (weight + word)
first_word weight None None = None

step_word : {S E : Type 0} (wanted : S → Bool) (lead : Leading S E) (i : ℕ) (e : E) (es : List E) (q : S)
    → word_by wanted lead i (e ∷ es) q
    ≡ first_word (2 ^ (63 - i)) (word_behind (word_by wanted lead (i + 1) es) (lead e q Upward)) (word_behind (word_by wanted lead (i + 1) es) (lead e q Downward))
step_word {S} wanted lead i e es q = go (lead e q Upward) (lead e q Downward)
  where
    f : S → Bool
    f r = can_reach wanted lead es r

    g : S → List Direction
    g r = ways_to wanted lead es r

    words : S → Option ℕ
    words r = word_by wanted lead (i + 1) es r

    right : (down : Option S)
        → cond (holds_at f down) (Some (2 ^ (63 - i) + ways_word (i + 1) (ways_at g down))) None ≡ first_word (2 ^ (63 - i)) None (word_behind words down)
    right None = refl
    right (Some s) = elim (f s) as (λ b. cond b (Some (2 ^ (63 - i) + ways_word (i + 1) (g s))) None ≡ first_word (2 ^ (63 - i)) None (cond b (Some (ways_word (i + 1) (g s))) None))
        [ true ↦ refl | false ↦ refl ]

    go : (up down : Option S)
        → cond (holds_at f up || holds_at f down)
        (Some (ways_word i (cond (holds_at f up) (Upward ∷ ways_at g up) (Downward ∷ ways_at g down)))) None
        ≡ first_word (2 ^ (63 - i)) (word_behind words up) (word_behind words down)
    go None down = right down
    go (Some r) down = elim (f r) as (λ b. cond (b || holds_at f down) (Some (ways_word i (cond b (Upward ∷ g r) (Downward ∷ ways_at g down)))) None
        ≡ first_word (2 ^ (63 - i)) (cond b (Some (ways_word (i + 1) (g r))) None) (word_behind words down))
        [ true ↦ (let same : 0 + ways_word (i + 1) (g r) ≡ ways_word (i + 1) (g r) = omega arith in ap Some same) | false ↦ right down ]

-- the same with what a search has found on both ways
pub search_step : {S E : Type 0} (wanted : S → Bool) (lead : Leading S E) (i : ℕ) (e : E) (es whole : List E) (q : S) (o up down : Option S) (first second : Option ℕ)
    → whole ≡ e ∷ es → o ≡ Some q → up ≡ lead e q Upward → down ≡ lead e q Downward
    → first ≡ word_behind (word_by wanted lead (i + 1) es) up → second ≡ word_behind (word_by wanted lead (i + 1) es) down
    → first_word (2 ^ (63 - i)) first second ≡ word_behind (word_by wanted lead i whole) o
search_step wanted lead i e es whole q o up down first second whole_is o_is up_is down_is first_is second_is =
    ap (λ w. first_word (2 ^ (63 - i)) w second) (first_is ∙ ap (word_behind (word_by wanted lead (i + 1) es)) up_is)
    ∙ ap (first_word (2 ^ (63 - i)) (word_behind (word_by wanted lead (i + 1) es) (lead e q Upward))) (second_is ∙ ap (word_behind (word_by wanted lead (i + 1) es)) down_is)
    ∙ sym (step_word wanted lead i e es q) ∙ ap (λ l. word_by wanted lead i l q) (sym whole_is) ∙ ap (word_behind (word_by wanted lead i whole)) (sym o_is)

-- there is at most one direction for each element
length-ways : {S E : Type 0} (wanted : S → Bool) (lead : Leading S E) (es : List E) (q : S) → length (ways_to wanted lead es q) ≤ length es
length-ways wanted lead [] q = omega arith
length-ways {S} wanted lead (e ∷ es) q = go (holds_at (λ r. can_reach wanted lead es r) (lead e q Upward)) (lead e q Upward) (lead e q Downward) (λ r. length-ways wanted lead es r)
  where
    g : S → List Direction
    g r = ways_to wanted lead es r

    go : (b : Bool) (up down : Option S) → ((r : S) → length (g r) ≤ length es) → length (cond b (Upward ∷ ways_at g up) (Downward ∷ ways_at g down)) ≤ suc (length es)
    go true None down h = omega arith
    go true (Some r) down h = omega (arith, h r)
    go false up None h = omega arith
    go false up (Some r) h = omega (arith, h r)

-- where there is a word, the end is reached, and it is that of the first directions
pub word_said : (b : Bool) (w word : ℕ) → Some word ≡ cond b (Some w) None → (b ≡ true) × (word ≡ w)
word_said true w word e = (refl, cc)
word_said false w word e = cc

-- a word leaves room for the bit before it
pub word_room : {S E : Type 0} (wanted : S → Bool) (lead : Leading S E) (i : ℕ) (es : List E) (o : Option S) (word weight : ℕ) → i + 1 + length es ≤ 64
    → Some word ≡ word_behind (word_by wanted lead (i + 1) es) o → weight ≡ 2 ^ (63 - i) → weight + word < 2 ^ 64
word_room wanted lead i es None word weight h e is = cc
word_room wanted lead i es (Some q) word weight h e is =
    let ways : List Direction = ways_to wanted lead es q in
    let some = word_said (can_reach wanted lead es q) (ways_word (i + 1) ways) word e in
    let is_word_of : word ≡ ways_word (i + 1) ways = some.1 in
    let count : length ways ≤ length es = length-ways wanted lead es q in
    let below : ways_word (i + 1) ways < 2 ^ (64 - (i + 1)) =
    span_below (i + 1) (i + 1 + length ways) (ways_word (i + 1) ways) (omega arith) (omega arith) (is_word ways (i + 1) (i + 1 + length ways) refl (omega arith)).span in
    let place : 64 - (i + 1) ≡ 63 - i = omega arith in
    let under : ways_word (i + 1) ways < 2 ^ (63 - i) = subst (λ k. ways_word (i + 1) ways < 2 ^ k) place below in
    let double : 64 - i ≡ suc (63 - i) = omega arith in
    let most : 2 ^ (64 - i) ≤ 2 ^ 64 = pow_mono {i = 64 - i} {j = 64} (omega arith) in
    let twice : 2 ^ (64 - i) ≡ 2 ^ (63 - i) * 2 = ap (λ k. 2 ^ k) double ∙ pow-suc 2 (63 - i) in
    omega arith

-- so many elements are left
pub length-from : {E : Type 0} (count : ℕ) (from : ℕ → List E) → AreFrom count from → (n i : ℕ) → i + n ≡ count → length (from i) ≡ n
length-from count from are zero i e =
    let last : i ≡ count = omega arith in
    ap (λ k. length (from k)) last ∙ ap length are.none
length-from count from are (suc n) i e =
    let first = are.first i (omega arith) in
    ap length first.1 ∙ ap suc (length-from count from are n (i + 1) (omega arith))
