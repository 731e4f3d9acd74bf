-- The addresses of an instance are different cells, and three of an array.
use Rattle.std.proofs.Common.{◌≡◌, ◌<◌, ◌≤◌, ◌&&◌, ℕ, zero, suc, Bool, true, false, not, eqb, List, [], ◌∷◌, length, get_or, refl, arith}
use Rattle.std.specs.List.{AllByRecursion}
use Rattle.std.proofs.lemmas.Bool.{ne_eqb, eqb-false, and_parts}
use Rattle.sequence_faults.specs.declared.few.Spots.{Spots}
use Rattle.sequence_faults.specs.Primitive.{SequencePrimitive, IsSequence, victim_index}
use Rattle.sequence_faults.specs.Stepping.{states_hold}
use Rattle.sequence_faults.specs.Detection.{AreDifferent, FitsAt}
use Rattle.sequence_faults.specs.inner.Few.{three, spots_at}
use Rattle.sequence_faults.specs.inner.Searching.{are_apart}
use Rattle.sequence_faults.proofs.Seen.{place, Apart, three_in, About}

place_is : (n : ℕ) (at : List ℕ) (i : ℕ) → i < length at → length at ≤ 3 → get_or at i 0 ≡ place (spots_at n at) i
place_is n [] i h few = absurd (omega arith)
place_is n (x ∷ xs) zero h few = refl
place_is n (x ∷ []) (suc i) h few = absurd (omega arith)
place_is n (x ∷ y ∷ xs) (suc zero) h few = refl
place_is n (x ∷ y ∷ []) (suc (suc i)) h few = absurd (omega arith)
place_is n (x ∷ y ∷ z ∷ xs) (suc (suc zero)) h few = refl
place_is n (x ∷ y ∷ z ∷ []) (suc (suc (suc i))) h few = absurd (omega arith)
place_is n (x ∷ y ∷ z ∷ w ∷ xs) (suc (suc (suc i))) h few = absurd (omega arith)

below_at : (n : ℕ) (at : List ℕ) (i : ℕ) → i < length at → AllByRecursion (λ x. x < n) at → get_or at i 0 < n
below_at n [] i h all = absurd (omega arith)
below_at n (x ∷ xs) zero h all = all.0
below_at n (x ∷ xs) (suc i) h all = below_at n xs i (omega arith) all.1

apart_at : (n : ℕ) (at : List ℕ) → AllByRecursion (λ x. x < n) at → AreDifferent at → length at ≤ 3 → Apart (spots_at n at)
apart_at n [] all different few = record { a_b = omega arith; a_c = omega arith; b_c = omega arith }
apart_at n (x ∷ []) all different few = let x_in : x < n = all.0 in record { a_b = omega arith; a_c = omega arith; b_c = omega arith }
apart_at n (x ∷ y ∷ []) all different few =
    let x_in : x < n = all.0 in let y_in : y < n = all.1.0 in record { a_b = different.0.0; a_c = omega arith; b_c = omega arith }
apart_at n (x ∷ y ∷ z ∷ []) all different few = record { a_b = different.0.0; a_c = different.0.1.0; b_c = different.1.0.0 }
apart_at n (x ∷ y ∷ z ∷ w ∷ at) all different few = absurd (omega arith)

holds_at : (n : ℕ) (states : List Bool) (at : List ℕ) (cells : List Bool) → length at ≡ length states → length at ≤ 3
    → states_hold states at cells ≡ states_hold states three (three_in (spots_at n at) cells)
holds_at n [] at cells e few = refl
holds_at n (s ∷ ss) [] cells e few = absurd (omega arith)
holds_at n (s ∷ []) (x ∷ []) cells e few = refl
holds_at n (s ∷ []) (x ∷ y ∷ at) cells e few = absurd (omega arith)
holds_at n (s ∷ t ∷ ss) (x ∷ []) cells e few = absurd (omega arith)
holds_at n (s ∷ t ∷ []) (x ∷ y ∷ []) cells e few = refl
holds_at n (s ∷ t ∷ []) (x ∷ y ∷ z ∷ at) cells e few = absurd (omega arith)
holds_at n (s ∷ t ∷ u ∷ ss) (x ∷ y ∷ []) cells e few = absurd (omega arith)
holds_at n (s ∷ t ∷ u ∷ []) (x ∷ y ∷ z ∷ []) cells e few = refl
holds_at n (s ∷ t ∷ u ∷ []) (x ∷ y ∷ z ∷ w ∷ at) cells e few = absurd (omega arith)
holds_at n (s ∷ t ∷ u ∷ v ∷ ss) (x ∷ y ∷ z ∷ []) cells e few = absurd (omega arith)
holds_at n (s ∷ t ∷ u ∷ v ∷ ss) (x ∷ y ∷ z ∷ w ∷ at) cells e few = absurd (omega arith)

pub about : (p : SequencePrimitive) (at : List ℕ) (n : ℕ) → IsSequence p → FitsAt p at n → About p at (spots_at n at)
about p at n is fits =
    let each : length at ≡ length p.states = fits.each in
    let few : length p.states ≤ 3 = is.few_cells in
    let actor : p.actor < length p.states = is.actor_there in
    record {
      apart = apart_at n at fits.within fits.different (omega arith);
      holds = λ cells. holds_at n p.states at cells each (omega arith);
      actor = place_is n at p.actor (omega arith) (omega arith);
      victim = place_is n at (victim_index p) (omega arith) (omega arith);
      actor_within = omega arith;
      victim_within = omega arith;
      victim_below = below_at n at (victim_index p) (omega arith) fits.within;
    }

-- ---- by the test

apart_test : (s : Spots) → Apart s → are_apart s ≡ true
apart_test s d = rw (ne_eqb s.a s.b d.a_b, ne_eqb s.a s.c d.a_c, ne_eqb s.b s.c d.b_c) refl

pub are_apart_at : (p : SequencePrimitive) (at : List ℕ) (n : ℕ) → IsSequence p → FitsAt p at n → are_apart (spots_at n at) ≡ true
are_apart_at p at n is fits = apart_test (spots_at n at) (about p at n is fits).apart

not_same : (b : Bool) → not b ≡ true → b ≡ false
not_same true e = cc
not_same false e = refl

told_apart : (s : Spots) → are_apart s ≡ true → Apart s
told_apart s e =
    let first = and_parts (not (eqb s.a s.b)) (not (eqb s.a s.c) && not (eqb s.b s.c)) e in
    let second = and_parts (not (eqb s.a s.c)) (not (eqb s.b s.c)) first.1 in
    record { a_b = eqb-false s.a s.b (not_same _ first.0); a_c = eqb-false s.a s.c (not_same _ second.0); b_c = eqb-false s.b s.c (not_same _ second.1) }

different_at : (n : ℕ) (at : List ℕ) → Apart (spots_at n at) → length at ≤ 3 → AreDifferent at
different_at n [] d few = tt
different_at n (x ∷ []) d few = (tt, tt)
different_at n (x ∷ y ∷ []) d few = ((d.a_b, tt), (tt, tt))
different_at n (x ∷ y ∷ z ∷ []) d few = ((d.a_b, (d.a_c, tt)), ((d.b_c, tt), (tt, tt)))
different_at n (x ∷ y ∷ z ∷ w ∷ at) d few = absurd (omega arith)

pub different_by_test : (n : ℕ) (at : List ℕ) → are_apart (spots_at n at) ≡ true → length at ≤ 3 → AreDifferent at
different_by_test n at e few = different_at n at (told_apart (spots_at n at) e) few
