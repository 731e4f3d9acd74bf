-- The scrambling of the rows, each of which is there.
use Rattle.memory_desc.proofs.Common.{Bool, Err, GivesScrambling, IsInvertible, IsScrambling, IsSome, List, Missing, None, Ok, Scrambling, Singular, Statement, about, ap, arith, cases_lt, false, inl, inr, is_there, matrix_said, missing_row, none_first, or_else, refl, subst, suc, sym, there, true, unless_there, unrowed, zero, ℕ, ◌<◌, ◌∙◌, ◌≡◌}
use Rattle.scrambler.specs.Scrambling.{IsLeastDependence}
use Rattle.memory_desc.specs.Table.{is_scrambled}
use Rattle.memory_desc.specs.declared.content.Subject.TheVariants.{Row}
use Rattle.memory_desc.specs.declared.fault.Field.TheVariants.{Row as RowField}

rows_there : (ss : List Statement) (width : ℕ) → missing_row ss width ≡ None → (i : ℕ) → i < width → IsSome (about (Row i) ss)
rows_there ss zero e i low = absurd (omega (arith, low))
rows_there ss (suc n) e i low =
    let parts = none_first (missing_row ss n) (unless_there (Missing (RowField n)) (about (Row n) ss)) e in
    elim (cases_lt i n) [
      | inl below ↦ rows_there ss n parts.0 i below
      | inr above ↦ (let last : n ≡ i = omega (arith, low, above) in
          subst (λ (row : ℕ). IsSome (about (Row row) ss)) last (is_there (Missing (RowField n)) (about (Row n) ss) parts.1))
    ]

pub no_row_missing : (ss : List Statement) (width : ℕ) → ((i : ℕ) → i < width → IsSome (about (Row i) ss)) → missing_row ss width ≡ None
no_row_missing ss zero f = refl
no_row_missing ss (suc n) f =
    ap (λ o. or_else o (unless_there (Missing (RowField n)) (about (Row n) ss))) (no_row_missing ss n (λ i low. f i (omega (arith, low))))
    ∙ there (Missing (RowField n)) (about (Row n) ss) (f n (omega arith))

module _ (ss : List Statement) (width : ℕ) where
  pub scrambled : (m s : Scrambling) → is_scrambled ss ≡ true → missing_row ss width ≡ None → m ≡ matrix_said ss width → s ≡ m → IsInvertible s → GivesScrambling ss width (Ok s)
  scrambled m s e f g h i =
      let same : s ≡ matrix_said ss width = h ∙ g in
      (rw e f, rw e (rows_there ss width f, subst IsInvertible same i, same))

  pub dependent : (m : Scrambling) (rows : ℕ) → is_scrambled ss ≡ true → missing_row ss width ≡ None → m ≡ matrix_said ss width → IsLeastDependence m rows → GivesScrambling ss width (Err (Singular rows))
  dependent m rows e f g h = inr (rw e f, rows, e, subst (λ m. IsLeastDependence m rows) g h, refl)

  pub invertible : (s : Scrambling) → IsScrambling ss width s → is_scrambled ss ≡ true → IsInvertible (matrix_said ss width)
  invertible s h e = (rw e at h).1

  -- a scrambling is one, and its rows are there
  pub no_row_missed : (s : Scrambling) → IsScrambling ss width s → unrowed ss width ≡ None
  no_row_missed s h = by (is_scrambled ss) refl
    where
      by : (b : Bool) → is_scrambled ss ≡ b → unrowed ss width ≡ None
      by true e = rw e (no_row_missing ss width (rw e at h).0)
      by false e = rw e refl

  pub scrambling_one : (s t : Scrambling) → IsScrambling ss width s → IsScrambling ss width t → s ≡ t
  scrambling_one s t h k = by (is_scrambled ss) refl
    where
      by : (b : Bool) → is_scrambled ss ≡ b → s ≡ t
      by true e = (rw e at h).2 ∙ sym (rw e at k).2
      by false e = (rw e at h) ∙ sym (rw e at k)
