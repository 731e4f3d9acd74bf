-- The digits of numbers.
use Rattle.std.proofs.Common.{◌≡◌, ◌-◌, ◌*◌, ◌/◌, ◌%◌, ◌^◌, ◌<◌, ◌≤◌, ℕ, zero, suc, length, map, get_or, refl, ap, sym, ◌∙◌, arith}
use Rattle.std.proofs.Math.Nat.{pow-suc, pow-zero, div-one}
use Rattle.std.proofs.lemmas.List.{length-map, get_or_past}
use Rattle.sequence_faults.specs.declared.few.Spots.{Spots}
use Rattle.sequence_faults.specs.Escapes.{digits}
use Rattle.sequence_faults.specs.inner.Few.{spots_at}

pub length-digits : (base count number : ℕ) → length (digits base count number) ≡ count
length-digits base zero number = refl
length-digits base (suc count) number = ap suc (length-digits base count number)

pub digit_at : {X : Type 0} (f : ℕ → X) (base count number i : ℕ) (d : X) → i < count → get_or (map f (digits base count number)) i d ≡ f (number / base ^ (count - 1 - i) % base)
digit_at f base zero number i d h = absurd (omega arith)
digit_at f base (suc count) number zero d h = let same : count ≡ suc count - 1 - 0 = omega arith in ap (λ k. f (number / base ^ k % base)) same
digit_at f base (suc count) number (suc i) d h =
    let same : count - 1 - i ≡ suc count - 1 - suc i = omega arith in digit_at f base count number i d (omega arith) ∙ ap (λ k. f (number / base ^ k % base)) same

pub digit_past : {X : Type 0} (f : ℕ → X) (base count number i : ℕ) (d : X) → count ≤ i → get_or (map f (digits base count number)) i d ≡ d
digit_past f base count number i d h =
    let size = length-map (digits base count number) f ∙ length-digits base count number in get_or_past (map f (digits base count number)) i d (omega arith)

pub first_power : (n : ℕ) → n ≡ n ^ 1
first_power n = sym (pow-suc n 0 ∙ ap (λ k. k * n) (pow-zero n) ∙ unit)
  where
    unit : 1 * n ≡ n
    unit = omega arith

pub square : (n : ℕ) → n * n ≡ n ^ 2
square n = ap (λ m. m * n) (first_power n) ∙ sym (pow-suc n 1)

pub cube : (n : ℕ) → n * n * n ≡ n ^ 3
cube n = ap (λ m. m * n) (square n) ∙ sym (pow-suc n 2)

abbrev make : ℕ → ℕ → ℕ → ℕ → Spots
make size a b c = record { size = size; a = a; b = b; c = c }

pub three_spots : (size places count : ℕ) → count ≡ 3
    → ◌≡◌ {A = Spots} (record { size = size; a = places / (size * size) % size; b = places / size % size; c = places % size }) (spots_at size (digits size count places))
three_spots size places count is =
    ap (λ k. make size (places / k % size) (places / size % size) (places % size)) (square size)
    ∙ ap (λ k. make size (places / size ^ 2 % size) (places / k % size) (places % size)) (first_power size)
    ∙ ap (λ m. make size (places / size ^ 2 % size) (places / size ^ 1 % size) (m % size)) (sym unit)
    ∙ ap (λ k. spots_at size (digits size k places)) (sym is)
  where
    unit : places / size ^ 0 ≡ places
    unit = ap (λ k. places / k) (pow-zero size) ∙ div-one places
