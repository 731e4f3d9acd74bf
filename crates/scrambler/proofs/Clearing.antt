-- The loop that clears, and the swap before it.
use Rattle.std.proofs.Common.{◌≡◌, ◌≢◌, ℕ, ◌+◌, ◌*◌, ◌^◌, ◌<◌, ◌≤◌, List, bit_xor, length, slice_set, inl, inr, ◌∙◌, ap, subst, lit<, arith}
use Rattle.std.proofs.Math.Path.{ap₂}
use Rattle.std.proofs.lemmas.Bool.{cases_lt}
use Rattle.std.proofs.lemmas.List.{get_or-set_same, get_or-set_other}
use Rattle.std.specs.List.{SwappedAt}
use Rattle.std.specs.Prelude.{slice_index}
use Rattle.scrambler.specs.Linear.{dot}
use Rattle.scrambler.specs.inner.Reduced.{SwapsAt}
use Rattle.scrambler.proofs.LinearLemmas.{dot_below, scaled}

-- the vectors before `done` are cleared, and those from there on are as they were
pub record ClearedBelow (place done r : ℕ) (old new : ℕ → ℕ) : Type 0 where
  pub kept : new place ≡ old place
  pub cleared : (l : ℕ) → l < done → l ≢ place → new l ≡ bit_xor (old l) (dot r (old l) * old place)
  pub waiting : (l : ℕ) → done ≤ l → new l ≡ old l

pub SwapsAt-swapped : (xs ys : List ℕ) (i p w : ℕ) → SwappedAt xs ys i p → SwapsAt i p w (slice_index xs) (slice_index ys)
SwapsAt-swapped xs ys i p w s = record { first = s.0 0; second = s.1 0; others = λ l n m. s.2 l 0 n m }

-- what is added fits
pub added-below : (r v own : ℕ) → own < 2 ^ 16 → dot r v * own < 2 ^ 16
added-below r v own h = scaled (λ (x : ℕ). x < 2 ^ 16) (dot r v) own (dot_below r v) (lit< tt) h

pub cleared_own : (place l r : ℕ) (old new : ℕ → ℕ) → ClearedBelow place l r old new → l ≡ place → ClearedBelow place (l + 1) r old new
cleared_own place l r old new c e =
    record {
      kept = c.kept;
      cleared = λ k h n. c.cleared k (omega arith) n;
      waiting = λ k h. c.waiting k (omega arith);
    }

pub cleared_other : (place l r own : ℕ) (old : ℕ → ℕ) (xs : List ℕ) → ClearedBelow place l r old (slice_index xs) → l ≢ place
    → l < length xs → own ≡ old place
    → ClearedBelow place (l + 1) r old
    (slice_index (slice_set xs l (bit_xor (slice_index xs l) (dot r (slice_index xs l) * own))))
cleared_other place l r own old xs c n h e =
    let value = bit_xor (slice_index xs l) (dot r (slice_index xs l) * own) in
    let was : slice_index xs l ≡ old l = c.waiting l (omega arith) in
    let other : (k : ℕ) → k ≢ l → slice_index (slice_set xs l value) k ≡ slice_index xs k = λ k m. get_or-set_other xs l k value 0 m in
    record {
      kept = (let m : place ≢ l = omega arith in other place m ∙ c.kept);
      cleared = λ k b m.
          elim (cases_lt k l) [
            | inl q ↦ (let d : k ≢ l = omega arith in other k d ∙ c.cleared k q m)
            | inr q ↦ (let d : l ≡ k = omega arith in
                subst (λ (j : ℕ). slice_index (slice_set xs l value) j ≡ bit_xor (old j) (dot r (old j) * old place)) d
                (get_or-set_same xs l value 0 h
                ∙ ap₂ bit_xor was (ap₂ (λ (a b : ℕ). a * b) (ap (dot r) was) e)))
          ];
      waiting = λ k b. (let d : k ≢ l = omega arith in other k d ∙ c.waiting k (omega arith));
    }

-- no vector before l + 1 is taken
pub none_taken : (taken : ℕ → ℕ) (from l : ℕ) → ((k : ℕ) → from ≤ k → k < l → taken k ≡ 0) → taken l ≡ 0
    → (k : ℕ) → from ≤ k → k < l + 1 → taken k ≡ 0
none_taken taken from l before here k a b =
    elim (cases_lt k l) [
      | inl q ↦ before k a q
      | inr q ↦ let d : l ≡ k = omega arith in subst (λ (j : ℕ). taken j ≡ 0) d here
    ]
