-- The memory that is made where no check refused.
use Rattle.memory_desc.proofs.Common.{assembled, latency_said, polarity_said, pause_said, IsName, name_said, AreOfMemory, AreRefusedBy, Bool, Err, GivesBackgrounds, GivesScrambling, IsFull, IsInvertible, IsMemory, IsSome, IsWidthOf, List, MemoryFault, Missing, None, Ok, Option, Repeated, ScrambleNeedsPowerOfTwo, Scrambling, Some, Statement, about, alone, ap, bits_said, checked, described, false, find, here, identity, if◌then◌else◌, inl, inr, is_power_of_two, is_there, missing, next, none_at, none_first, not, out_of_range, passed, refl, repeated, stopped, subst, sym, too_wide, true, unfit, unrowed, unscramblable, unsized, words_said, ℕ, ◌&&◌, ◌-◌, ◌≤◌, ◌∙◌, ◌≡◌}
use Rattle.memory_desc.specs.Described.{is_repeat, is_out_of_range, is_too_wide, is_scrambled}
use Rattle.memory_desc.specs.Subjects.{said}
use Rattle.memory_desc.proofs.Chosen.{chosen_serves}
use Rattle.memory_desc.proofs.Scrambles.{invertible}
use Rattle.memory_desc.proofs.Within.{words_inside, bits_inside, latency_inside, pause_inside, polarity_fits}
use Rattle.memory_desc.specs.declared.content.Subject.TheVariants.{Name, Words, Bits, Backgrounds}
use Rattle.memory_desc.specs.declared.fault.Field.TheVariants.{Name as NameField, Words as WordsField, Bits as BitsField}
use Rattle.memory_desc.specs.declared.fault.MemoryFault.TheVariants.{OutOfRange}

allowed : (fault : MemoryFault) (rows power : Bool) → (if rows && not power then Some fault else None) ≡ None → rows ≡ true → power ≡ true
allowed fault true true e t = refl
allowed fault true false e t = (let z : ⊥ = cc in absurd z)
allowed fault false power e t = (let z : ⊥ = cc in absurd z)

-- ---- the fields

-- what the statements pass
pub record AreSized (ss : List Statement) : Type 0 where
  pub once : find (is_repeat ss) ss ≡ None
  pub has_name : IsSome (about Name ss)
  pub has_words : IsSome (about Words ss)
  pub has_bits : IsSome (about Bits ss)
  pub in_range : find (λ s. is_out_of_range s.content) ss ≡ None

pub are_sized : (ss : List Statement) → unsized ss ≡ None → AreSized ss
are_sized ss before =
    let once = none_first (repeated ss) _ before in
    let has_name = none_first (missing Name NameField ss) _ once.1 in
    let has_words = none_first (missing Words WordsField ss) _ has_name.1 in
    let has_bits = none_first (missing Bits BitsField ss) _ has_words.1 in record {
      once = none_at (λ n. Repeated n) (find (is_repeat ss) ss) once.0;
      has_name = is_there (Missing NameField) (about Name ss) has_name.0;
      has_words = is_there (Missing WordsField) (about Words ss) has_words.0;
      has_bits = is_there (Missing BitsField) (about Bits ss) has_bits.0;
      in_range = none_at (λ n. OutOfRange n) (find (λ s. is_out_of_range s.content) ss) (none_first (out_of_range ss) None has_bits.1).0;
    }

pub sized_words : (ss : List Statement) {words : ℕ} → unsized ss ≡ None → words ≡ words_said ss → (2 ≤ words) × (words ≤ 65536)
sized_words ss before e = let f = are_sized ss before in subst (λ n. (2 ≤ n) × (n ≤ 65536)) (sym e) (words_inside ss f.in_range f.has_words)

pub sized_bits : (ss : List Statement) {bits : ℕ} → unsized ss ≡ None → bits ≡ bits_said ss → (1 ≤ bits) × (bits ≤ 64)
sized_bits ss before e = let f = are_sized ss before in subst (λ n. (1 ≤ n) × (n ≤ 64)) (sym e) (bits_inside ss f.in_range f.has_bits)

-- ---- the whole

pub same_memory : (ss : List Statement) (s : Scrambling) (set : List ℕ) {name : List ℕ} {words bits l p z : ℕ} → name ≡ name_said ss → words ≡ words_said ss → bits ≡ bits_said ss → l ≡ latency_said ss → p ≡ polarity_said ss
    → z ≡ pause_said ss → assembled name words bits l p z s set ≡ described ss s set
same_memory ss s set a b c d e f = rw (a, b, c, d, e, f) refl

-- the words and the bits are these, and the addresses have this width
module _ (ss : List Statement) {words bits n width : ℕ} (before : unsized ss ≡ None) (words_are : words ≡ words_said ss) (bits_are : bits ≡ bits_said ss) (e : n ≡ words - 1) (w : IsWidthOf n width) where
  addresses : IsWidthOf (words_said ss - 1) width
  addresses = subst (λ (n : ℕ). IsWidthOf n width) (e ∙ ap (λ n. n - 1) words_are) w

  unfit_refused : (fault : MemoryFault) → unfit ss width ≡ Some fault → AreRefusedBy ss fault
  unfit_refused fault e = inr (before, width, addresses, inl e)

  pub power_refused : (fault : MemoryFault) → Err fault ≡ checked (unscramblable ss) → AreRefusedBy ss fault
  power_refused fault e = unfit_refused fault (here (unscramblable ss) _ fault (stopped (unscramblable ss) fault e))

  said_wide : (o : Option MemoryFault) → too_wide ss width bits ≡ o → too_wide ss width (bits_said ss) ≡ o
  said_wide o e = subst (λ (n : ℕ). too_wide ss width n ≡ o) bits_are e

  module _ (power : Ok tt ≡ checked (unscramblable ss)) where
    scramblable : unscramblable ss ≡ None
    scramblable = passed (unscramblable ss) power

    pub width_refused : (fault : MemoryFault) → Err fault ≡ checked (too_wide ss width bits) → AreRefusedBy ss fault
    width_refused fault e =
        unfit_refused fault (next (unscramblable ss) scramblable ∙ here (too_wide ss width (bits_said ss)) _ fault (said_wide (Some fault) (stopped (too_wide ss width bits) fault e)))

    module _ (narrow : Ok tt ≡ checked (too_wide ss width bits)) where
      fit : too_wide ss width (bits_said ss) ≡ None
      fit = said_wide None (passed (too_wide ss width bits) narrow)

      none_wide : find (λ s. is_too_wide width (bits_said ss) s.content) ss ≡ None
      none_wide = none_at (λ n. OutOfRange n) (find (λ s. is_too_wide width (bits_said ss) s.content) ss) fit

      fits : unfit ss width ≡ unrowed ss width
      fits = next (unscramblable ss) scramblable ∙ next (too_wide ss width (bits_said ss)) fit ∙ alone (unrowed ss width)

      pub scrambling_refused : (fault : MemoryFault) → GivesScrambling ss width (Err fault) → AreRefusedBy ss fault
      scrambling_refused fault h = elim h [
        | inl a ↦ unfit_refused fault (fits ∙ a)
        | inr a ↦ inr (before, width, addresses, inr (fits ∙ a.0, inl (a.1, a.2, a.3, a.4)))
      ]

      module _ (s : Scrambling) (scrambling : GivesScrambling ss width (Ok s)) where
        pub backgrounds_refused : (fault : MemoryFault) → GivesBackgrounds (said Backgrounds ss) bits (Err fault) → AreRefusedBy ss fault
        backgrounds_refused fault e = inr (before, width, addresses, inr (fits ∙ scrambling.0, inr (invertible ss width s scrambling.1, e)))

        power_by_rows : is_scrambled ss ≡ true → is_power_of_two (words_said ss) ≡ true
        power_by_rows = allowed ScrambleNeedsPowerOfTwo (is_scrambled ss) (is_power_of_two (words_said ss)) scramblable

        module _ (set : List ℕ) (given : GivesBackgrounds (said Backgrounds ss) bits (Ok set)) where
          backgrounds : GivesBackgrounds (said Backgrounds ss) (bits_said ss) (Ok set)
          backgrounds = subst (λ n. GivesBackgrounds (said Backgrounds ss) n (Ok set)) bits_are given

          pub of_memory : AreOfMemory ss (described ss s set)
          of_memory =
              let f = are_sized ss before in record {
                once = f.once;
                has_name = f.has_name;
                has_words = f.has_words;
                has_bits = f.has_bits;
                in_range = f.in_range;
                width = width;
                addresses = addresses;
                fit = none_wide;
                scramblable = power_by_rows;
                scrambling = s;
                is_scrambling = scrambling.1;
                set = set;
                are_backgrounds = backgrounds.0;
                few = backgrounds.1;
                solid = backgrounds.2;
                described_as = refl;
              }

          unscrambled : (b : Bool) → is_scrambled ss ≡ b → s.width ≡ width → is_power_of_two (words_said ss) ≡ false → s ≡ identity s.width
          unscrambled true e w p = (let q = power_by_rows e in let z : ⊥ = cc in absurd z)
          unscrambled false e w p = rw e at scrambling.1 ∙ ap identity (sym w)

          pub is_memory : IsName (name_said ss) → s.width ≡ width → IsFull s → IsInvertible s → IsMemory (described ss s set)
          is_memory name w full invertible =
              let f = are_sized ss before in
              let many = sized_words ss before refl in
              let wide = sized_bits ss before refl in
              let latency = latency_inside ss f.in_range in
              let pause = pause_inside ss f.in_range in record {
                name = name;
                words_low = many.0;
                words_high = many.1;
                bits_low = wide.0;
                bits_high = wide.1;
                latency_low = latency.0;
                latency_high = latency.1;
                polarity = polarity_fits ss width (bits_said ss) none_wide;
                pause_low = pause.0;
                pause_high = pause.1;
                address = subst (IsWidthOf (words_said ss - 1)) (sym w) addresses;
                full = full;
                invertible = invertible;
                unscrambled = unscrambled (is_scrambled ss) refl w;
                tested = chosen_serves ss width (bits_said ss) set wide.1 none_wide backgrounds;
              }
