-- The text of a number's memory is the printed form of a memory, which is read back.
use Rattle.std.proofs.Common.{◌≡◌, ℕ, zero, suc, ◌+◌, ◌-◌, ◌^◌, ◌<◌, ◌≤◌, ◌==◌, ◌&&◌, inl, inr, if◌then◌else◌, Bool, true, List, [], ◌∷◌, ◌∙◌, Ok, slice_index, refl, sym, ap, subst, arith, lit<, lit≤, codes}
use Rattle.std.specs.Fmt.{digits}
use Rattle.std.specs.Int.{bit_at}
use Rattle.std.specs.Int.Count.{count_leading_zeros}
use Rattle.std.proofs.lemmas.Bool.{and_parts, cases_lt, eqb-true}
use Rattle.std.proofs.lemmas.List.Elements.{All-from_recursion}
use Rattle.bist_bits.specs.Width.{IsWidthOf}
use Rattle.bist_bits.proofs.BitLemmas.{width_by_leading_zeros}
use Rattle.scrambler.specs.Scrambling.{IsFull, IsInvertible, identity}
use Rattle.scrambler.proofs.ScramblingLemmas.{units, units_undone, identity_is, invertible, matrix_is_full}
use Rattle.backgrounds.specs.Backgrounds.{IsStripe, IsLogSet}
use Rattle.memory_desc.specs.Descriptions.{Description, IsMemory, IsBackgrounds, assembled}
use Rattle.memory_desc.specs.Names.{IsName}
use Rattle.memory_desc.specs.Printed.{contents, lines_text, printed}
use Rattle.memory_desc.specs.Table.{Reads}
use Rattle.scrambler.proofs.Identity.{identity_is_identity}
use Rattle.memory_desc.proofs.Parts.{width_small}
use Rattle.memory_desc.proofs.ReadBack.{read_back}
use Rattle.made_inputs.specs.MadeMemory.{IsMadeMemory}
use Rattle.made_inputs.specs.inner.MadeMemory.{written}

-- ---- the backgrounds

abbrev pub log_words : List ℕ
log_words = 0 ∷ 0xaaaaaaaaaaaaaaaa ∷ 0xcccccccccccccccc ∷ 0xf0f0f0f0f0f0f0f0 ∷ 0xff00ff00ff00ff00 ∷ 0xffff0000ffff0000 ∷ 0xffffffff00000000 ∷ []

-- the first n bits of a word are the bits k of their positions
abbrev are_bits : ℕ → ℕ → ℕ → Bool
are_bits word k zero = true
are_bits word k (suc n) = (bit_at word n == bit_at n k) && are_bits word k n

are_bits_at : (word k n j : ℕ) → are_bits word k n ≡ true → j < n → bit_at word j ≡ bit_at j k
are_bits_at word k zero j h below = absurd (omega (arith, below))
are_bits_at word k (suc n) j h below =
    let parts = and_parts (bit_at word n == bit_at n k) (are_bits word k n) h in
    elim (cases_lt j n) [
      | inl less ↦ are_bits_at word k n j parts.1 less
      | inr most ↦ (let same : j ≡ n = omega (arith, below, most) in rw same (eqb-true (bit_at word n) (bit_at n k) parts.0))
    ]

stripe : (word k : ℕ) → word < 2 ^ 64 → are_bits word k 64 ≡ true → IsStripe 64 k word
stripe word k fits bits = record { fits = fits; bit = λ j below. are_bits_at word k 64 j bits below }

stripes : (k : ℕ) → k + 1 < 7 → IsStripe 64 k (slice_index log_words (k + 1))
stripes zero h = stripe 0xaaaaaaaaaaaaaaaa 0 (lit< tt) refl
stripes (suc zero) h = stripe 0xcccccccccccccccc 1 (lit< tt) refl
stripes (suc (suc zero)) h = stripe 0xf0f0f0f0f0f0f0f0 2 (lit< tt) refl
stripes (suc (suc (suc zero))) h = stripe 0xff00ff00ff00ff00 3 (lit< tt) refl
stripes (suc (suc (suc (suc zero)))) h = stripe 0xffff0000ffff0000 4 (lit< tt) refl
stripes (suc (suc (suc (suc (suc zero))))) h = stripe 0xffffffff00000000 5 (lit< tt) refl
stripes (suc (suc (suc (suc (suc (suc k)))))) h = absurd (omega (arith, h))

six_at_least : (m : ℕ) → 64 ≤ 2 ^ m → 6 ≤ m
six_at_least zero h = absurd (omega (arith, h))
six_at_least (suc zero) h = absurd (omega (arith, h))
six_at_least (suc (suc zero)) h = absurd (omega (arith, h))
six_at_least (suc (suc (suc zero))) h = absurd (omega (arith, h))
six_at_least (suc (suc (suc (suc zero)))) h = absurd (omega (arith, h))
six_at_least (suc (suc (suc (suc (suc zero))))) h = absurd (omega (arith, h))
six_at_least (suc (suc (suc (suc (suc (suc m)))))) h = omega arith

pub log_words_are_log_set : IsLogSet 64 log_words
log_words_are_log_set = record { some = lit< tt; solid = refl; count = record { enough = lit≤ tt; least = six_at_least }; stripes = stripes }

log_words_are_backgrounds : IsBackgrounds 64 log_words
log_words_are_backgrounds = record {
  some = lit≤ tt;
  few = lit≤ tt;
  fit = All-from_recursion (λ b. b < 2 ^ 64) log_words (lit< tt, (lit< tt, (lit< tt, (lit< tt, (lit< tt, (lit< tt, (lit< tt, tt)))))));
  solid = (0, lit< tt, refl);
}

-- ---- the memory

-- the memory whose addresses have this width
abbrev made : ℕ → ℕ → Description
made number width = assembled (codes "made") (number + 2) 64 1 0 1 (identity width) log_words

identity_is_invertible : (w : ℕ) → 1 ≤ w → w ≤ 16 → IsInvertible (identity w)
identity_is_invertible w some small =
    let undone = units_undone w some small in
    subst IsInvertible (identity_is w small) (invertible w units 0 (slice_index units) undone.within undone.reduced)

identity_is_full : (w : ℕ) → 1 ≤ w → w ≤ 16 → IsFull (identity w)
identity_is_full w some small = subst IsFull (identity_is w small) (matrix_is_full w units 0 (units_undone w some small).within small)

made_is_name : IsName (codes "made")
made_is_name = record { identifier = refl; short = lit≤ tt; free = refl }

made_is_memory : (number width : ℕ) → number ≤ 65534 → IsWidthOf (number + 1) width → IsMemory (made number width)
made_is_memory number width within wide =
    let small = width_small (number + 1) width (omega (arith, within)) wide in
    let last : (number + 2) - 1 ≡ number + 1 = omega arith in
    record {
      name = made_is_name;
      words_low = omega arith;
      words_high = omega (arith, within);
      bits_low = lit≤ tt;
      bits_high = lit≤ tt;
      latency_low = lit≤ tt;
      latency_high = lit≤ tt;
      polarity = lit< tt;
      pause_low = lit≤ tt;
      pause_high = lit≤ tt;
      address = subst (λ (n : ℕ). IsWidthOf n width) (sym last) wide;
      full = identity_is_full width small.0 small.1;
      invertible = identity_is_invertible width small.0 small.1;
      unscrambled = λ _. refl;
      tested = log_words_are_backgrounds;
    }

made_is_made : (number width : ℕ) → IsWidthOf (number + 1) width → IsMadeMemory number (made number width)
made_is_made number width wide = record {
  name = refl;
  words = refl;
  bits = refl;
  latency = refl;
  polarity = refl;
  pause = refl;
  width = wide;
  unscrambled = refl;
  backgrounds = log_words_are_log_set;
}

-- ---- its text

without_rows : (number width : ℕ) → lines_text 64 (contents (made number width) true 0) ≡ written number
unfolding digits
without_rows number width = refl

-- no scrambling is printed
printed_is : (number width : ℕ) → printed (made number width) ≡ written number
printed_is number width =
    ap (λ (same : Bool). lines_text 64 (contents (made number width) true (if same then 0 else width))) (identity_is_identity width) ∙ without_rows number width

abbrev pub HasMemory : ℕ → Type 0
HasMemory number = (d : Description) × IsMadeMemory number d × Reads (written number) (Ok d)

pub has_memory : (number : ℕ) → number ≤ 65534 → HasMemory number
has_memory number within =
    let width = 64 - count_leading_zeros 64 (number + 1) in
    let small : number + 1 < 2 ^ 64 = (let big : 65536 < 2 ^ 64 = lit< tt in omega (arith, within, big)) in
    let wide : IsWidthOf (number + 1) width = width_by_leading_zeros (number + 1) (omega arith) small in (
      made number width,
      made_is_made number width wide,
      subst (λ (text : List ℕ). Reads text (Ok (made number width))) (printed_is number width)
          (read_back (made number width) (made_is_memory number width within wide)),
    )
