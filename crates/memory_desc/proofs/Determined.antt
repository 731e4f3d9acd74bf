-- A list of statements describes one memory, or is refused in one way.
pub use Rattle.backgrounds.proofs.OneSet.{log_set_one}
use Rattle.memory_desc.proofs.Common.{AreBackgrounds, AreOfMemory, AreRefusedBy, Bool, Contains, Content, Describes, Description, Err, IsLast, IsScrambling, IsWidthOf, List, MemoryFault, Missing, None, Ok, Option, Repeated, Result, ScrambleNeedsPowerOfTwo, Singular, Some, Statement, about, ap, ap₂, arith, backgrounds, bits_said, described, false, if◌then◌else◌, inl, inr, is_power_of_two, length, matrix_said, missing, next, not, out_of_range, refl, repeated, some_same, subst, sym, there, too_wide, true, unfit, unrowed, unscramblable, unserved, unsized, words_said, ℕ, ◌&&◌, ◌-◌, ◌∙◌, ◌≡◌, ◌≤◌, ◌⊎◌}
use Rattle.bist_text.specs.KeyedTexts.{at_line}
use Rattle.scrambler.proofs.Dependences.{dependence_one}
use Rattle.scrambler.proofs.ScramblingLemmas.{singular}
use Rattle.memory_desc.specs.Described.{is_scrambled}
use Rattle.memory_desc.specs.Subjects.{said}
use Rattle.memory_desc.specs.declared.content.Subject.TheVariants.{Name, Words, Bits, Backgrounds}
use Rattle.memory_desc.specs.declared.fault.Field.TheVariants.{Name as NameField, Words as WordsField, Bits as BitsField}
use Rattle.memory_desc.specs.declared.fault.MemoryFault.TheVariants.{OutOfRange}
use Rattle.memory_desc.proofs.Chosen.{served}
use Rattle.memory_desc.proofs.Scrambles.{invertible, no_row_missed, scrambling_one}

-- ---- widths

pub width_one : (n v w : ℕ) → IsWidthOf n v → IsWidthOf n w → v ≡ w
width_one n v w p q = let a = p.least w q.positive q.holds in let b = q.least v p.positive p.holds in omega arith

-- ---- backgrounds

pub backgrounds_one : (o : Option Content) (size : ℕ) (xs ys : List ℕ) → AreBackgrounds o size xs → AreBackgrounds o size ys → xs ≡ ys
backgrounds_one None size xs ys p q = log_set_one size xs ys p q
backgrounds_one (Some (backgrounds ws)) size xs ys p q = p ∙ sym q
backgrounds_one o size xs ys p q = log_set_one size xs ys p q

-- ---- the whole

some_one : (o : Option MemoryFault) (f g : MemoryFault) → o ≡ Some f → o ≡ Some g → f ≡ g
some_one o f g h k = some_same f g (sym h ∙ k)

not_both : {A : Type 0} (o : Option MemoryFault) (f : MemoryFault) → o ≡ Some f → o ≡ None → A
not_both o f h k = (let z : ⊥ = cc in absurd z)

last_one : (ss : List Statement) (width : ℕ) (f g : MemoryFault) → IsLast ss width f → IsLast ss width g → f ≡ g
last_one ss width f g h k =
    let m = matrix_said ss width in
    elim h [
      | inl a ↦ elim k [ inl b ↦ a.3 ∙ ap Singular (dependence_one m a.0 b.0 a.2 b.2) ∙ sym b.3 | inr b ↦ absurd (singular m a.0 a.2 (b.0 a.1)) ]
      | inr a ↦ elim k [ inl b ↦ absurd (singular m b.0 b.2 (a.0 b.1)) | inr b ↦ some_one (unserved (said Backgrounds ss)) f g a.1 b.1 ]
    ]

refused_one : (ss : List Statement) (f g : MemoryFault) → AreRefusedBy ss f → AreRefusedBy ss g → f ≡ g
refused_one ss f g h k = elim h [
  | inl a ↦ elim k [ inl b ↦ some_one (unsized ss) f g a b | inr b ↦ not_both (unsized ss) f a b.0 ]
  | inr a ↦ elim k [ inl b ↦ not_both (unsized ss) g b a.0 | inr b ↦ sized a.1 a.3 (subst (λ w. Sized w g) (width_one (words_said ss - 1) b.1 a.1 b.2 a.2) b.3) ]
]
  where
    Sized : ℕ → MemoryFault → Type 0
    Sized w f = (unfit ss w ≡ Some f) ⊎ ((unfit ss w ≡ None) × IsLast ss w f)

    sized : (w : ℕ) → Sized w f → Sized w g → f ≡ g
    sized w h k = elim h [
      | inl a ↦ elim k [ inl b ↦ some_one (unfit ss w) f g a b | inr b ↦ not_both (unfit ss w) f a b.0 ]
      | inr a ↦ elim k [ inl b ↦ not_both (unfit ss w) g b a.0 | inr b ↦ last_one ss w f g a.1 b.1 ]
    ]

memory_one : (ss : List Statement) (d e : Description) → AreOfMemory ss d → AreOfMemory ss e → d ≡ e
memory_one ss d e m n =
    let width = width_one (words_said ss - 1) n.width m.width n.addresses m.addresses in
    let scrambling = scrambling_one ss m.width m.scrambling n.scrambling m.is_scrambling (subst (λ w. IsScrambling ss w n.scrambling) width n.is_scrambling) in
    m.described_as ∙ ap₂ (described ss) scrambling (backgrounds_one (said Backgrounds ss) (bits_said ss) m.set n.set m.are_backgrounds n.are_backgrounds) ∙ sym n.described_as

-- statements that describe a memory are not refused
module _ (ss : List Statement) (d : Description) (m : AreOfMemory ss d) where
  all_sized : unsized ss ≡ None
  all_sized =
      next (repeated ss) (ap (at_line (λ n. Repeated n)) m.once) ∙ next (missing Name NameField ss) (there (Missing NameField) (about Name ss) m.has_name)
      ∙ next (missing Words WordsField ss) (there (Missing WordsField) (about Words ss) m.has_words) ∙ next (missing Bits BitsField ss) (there (Missing BitsField) (about Bits ss) m.has_bits)
      ∙ next (out_of_range ss) (ap (at_line (λ n. OutOfRange n)) m.in_range)

  all_fit : unfit ss m.width ≡ None
  all_fit =
      next (unscramblable ss) (none_if (is_scrambled ss) (is_power_of_two (words_said ss)) m.scramblable)
      ∙ next (too_wide ss m.width (bits_said ss)) (ap (at_line (λ n. OutOfRange n)) m.fit)
      ∙ next (unrowed ss m.width) (no_row_missed ss m.width m.scrambling m.is_scrambling)
    where
      none_if : (rows power : Bool) → (rows ≡ true → power ≡ true) → (if rows && not power then Some ScrambleNeedsPowerOfTwo else None) ≡ None
      none_if true true f = refl
      none_if true false f = (let e = f refl in let z : ⊥ = cc in absurd z)
      none_if false power f = refl

  all_served : unserved (said Backgrounds ss) ≡ None
  all_served = go (said Backgrounds ss) m.are_backgrounds
    where
      go : (c : Option Content) → AreBackgrounds c (bits_said ss) m.set → unserved c ≡ None
      go (Some (backgrounds ws)) e = served ws (subst (λ s. length s ≤ 8) e m.few) (subst (λ s. Contains s 0) e m.solid)
      go c e = refl

  not_refused : (f : MemoryFault) → AreRefusedBy ss f → ⊥
  not_refused f h = elim h [
    | inl a ↦ not_both (unsized ss) f a all_sized
    | inr a ↦ elim (subst Sized (width_one (words_said ss - 1) a.1 m.width a.2 m.addresses) a.3) [
      | inl b ↦ not_both (unfit ss m.width) f b all_fit
      | inr b ↦ elim b.1 [
        | inl c ↦ singular (matrix_said ss m.width) c.0 c.2 (invertible ss m.width m.scrambling m.is_scrambling c.1)
        | inr c ↦ not_both (unserved (said Backgrounds ss)) f c.1 all_served
      ]
    ]
  ]
    where
      Sized : ℕ → Type 0
      Sized w = (unfit ss w ≡ Some f) ⊎ ((unfit ss w ≡ None) × IsLast ss w f)

pub describes_one : (ss : List Statement) (q r : Result Description MemoryFault) → Describes ss q → Describes ss r → q ≡ r
describes_one ss (Ok d) (Ok e) p h = ap Ok (memory_one ss d e p h)
describes_one ss (Ok d) (Err f) p h = absurd (not_refused ss d p f h)
describes_one ss (Err f) (Ok d) p h = absurd (not_refused ss d h f p)
describes_one ss (Err f) (Err g) p h = ap Err (refused_one ss f g p h)
