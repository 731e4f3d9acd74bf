-- The chip that statements describe is within the limits, and is what the reader makes.
use Rattle.chip_desc.proofs.Common.{All, Bool, Budget, Chip, ChipDescription, ChipFault, ChipUnit, Content, Err, IsChip, IsName, IsUnit, ChipKey, List, Missing, Name, None, Ok, Some, Statement, TextLine, TooManyUnits, UnitDescription, [], alone, ap, arith, budget, budget_in, budget_said, by_statements, checked, cond, content_of, described, described_as, false, find, first_of, found_fails, found_passes, heavier_than, is_formed, is_heavier, is_key, is_out_of_range, is_outside, kind_of, length, length-append, ltb-false, map, missing, name, name_in, name_said, nat_lt, next, none_at, or_parts, out_of_range, passed, refl, refusal, repeated, said, said_found, statements, stopped, subst, sym, too_heavy, too_many, true, unit_in, unit_of, units_said, unless_there, ℕ, ◌++◌, ◌+◌, ◌∙◌, ◌∷◌, ◌≡◌, ◌≤◌}
use Rattle.bist_text.specs.ReservedWords.{is_among, reserved_words}
use Rattle.chip_desc.specs.declared.fault.ChipField.{ChipField}
use Rattle.chip_desc.specs.declared.fault.ChipField.TheVariants.{Name as NameField, Budget as BudgetField, Unit as UnitField}
use Rattle.chip_desc.specs.declared.content.ChipKey.TheVariants.{Unit as OfUnit}
use Rattle.chip_desc.proofs.OneText.{formed_said}
use Rattle.chip_desc.proofs.UnitLines.{all_units, some_unit, unit_key}

-- ---- the statement of a line that is found

key_is : (k l : ChipKey) → is_key k l ≡ true → l ≡ k
key_is Chip Chip e = refl
key_is Name Name e = refl
key_is Budget Budget e = refl
key_is OfUnit OfUnit e = refl
key_is k l e = (let z : ⊥ = cc in absurd z)

-- the statement of a kind that is found
kind_found : (k : ChipKey) (ss : List Statement) (s : Statement) → first_of k ss ≡ Some s → kind_of s.content ≡ k
kind_found k ss s e = key_is k (kind_of s.content) (found_passes (λ s. is_key k (kind_of s.content)) ss s e)

-- a field whose line is there isn't missing
pub not_missing : (k : ChipKey) (field : ChipField) (ss : List Statement) (s : Statement) → first_of k ss ≡ Some s → missing k field ss ≡ None
not_missing k field ss s e = ap (unless_there (Missing field)) e

in_range : (k : ChipKey) (ss : List Statement) (s : Statement) → first_of k ss ≡ Some s → out_of_range ss ≡ None → is_out_of_range s.content ≡ false
in_range k ss s e r = found_fails (λ s. is_out_of_range s.content) (λ s. is_key k (kind_of s.content)) ss s (none_at _ (find (λ s. is_out_of_range s.content) ss) r) e

-- ---- the name and the budget

is_a_name : (c : Content) → kind_of c ≡ Name → is_formed c ≡ true → is_out_of_range c ≡ false → IsName (name_in (Some c))
is_a_name (name n) k f o =
    let inside = or_parts (nat_lt 48 (length n)) (is_among n reserved_words) o in
    record { identifier = f; short = ltb-false 48 (length n) inside.0; free = inside.1 }
is_a_name c k f o = (let z : ⊥ = cc in absurd z)

is_inside : (c : Content) → kind_of c ≡ Budget → is_out_of_range c ≡ false → is_outside (budget_in (Some c)) ≡ false
is_inside (budget n) k o = o
is_inside c k o = (let z : ⊥ = cc in absurd z)

module _ (ls : List TextLine) (s : Statement) (r : out_of_range (statements ls) ≡ None) where
  pub named : first_of Name (statements ls) ≡ Some s → IsName (name_in (Some s.content))
  named e =
      is_a_name s.content (kind_found Name (statements ls) s e) (said_found said is_formed formed_said (λ s. is_key Name (kind_of s.content)) ls s e) (in_range Name (statements ls) s e r)

  pub budget_inside : first_of Budget (statements ls) ≡ Some s → is_outside (budget_in (Some s.content)) ≡ false
  budget_inside e = is_inside s.content (kind_found Budget (statements ls) s e) (in_range Budget (statements ls) s e r)

-- ---- the units

some_units : (ss : List Statement) (s : Statement) → first_of OfUnit ss ≡ Some s → 1 ≤ length (units_said ss)
some_units [] s e = (let z : ⊥ = cc in absurd z)
some_units (x ∷ xs) s e = go (is_key OfUnit (kind_of x.content)) refl e (λ h. some_units xs s h)
  where
    counted : length (unit_in x.content ++ units_said xs) ≡ length (unit_in x.content) + length (units_said xs)
    counted = length-append (unit_in x.content) (units_said xs)

    go : (t : Bool) → is_key OfUnit (kind_of x.content) ≡ t → cond t (Some x) (first_of OfUnit xs) ≡ Some s → (first_of OfUnit xs ≡ Some s → 1 ≤ length (units_said xs))
        → 1 ≤ length (unit_in x.content ++ units_said xs)
    go true h e again = let one = some_unit x.content (unit_key x.content h) in let all = counted in omega arith
    go false h e again = let more = again e in let all = counted in omega arith

few_said : (ss : List Statement) → too_many ss ≡ None → length (units_said ss) ≤ 16
few_said ss e = go (nat_lt 16 (length (units_said ss))) refl e
  where
    go : (t : Bool) → nat_lt 16 (length (units_said ss)) ≡ t → cond t (Some TooManyUnits) None ≡ None → length (units_said ss) ≤ 16
    go true h e = (let z : ⊥ = cc in absurd z)
    go false h e = ltb-false 16 (length (units_said ss)) h

-- ---- the whole

pub is_chip : (ls : List TextLine) (b u : Statement) (n : List ℕ) (most : ℕ) (us : List ChipUnit) → IsName n → first_of Budget (statements ls) ≡ Some b → first_of OfUnit (statements ls) ≡ Some u
    → out_of_range (statements ls) ≡ None → most ≡ budget_in (Some b.content) → too_many (statements ls) ≡ None → map unit_of us ≡ units_said (statements ls) → heavier_than most (statements ls) ≡ None
    → IsChip (described_as n most us)
is_chip ls b u n most us named be ue o m few same light =
    let ss = statements ls in
    let p = or_parts (nat_lt most 1) (nat_lt 1000000 most) (ap is_outside m ∙ budget_inside ls b o be) in
    record {
      name = named;
      some = ltb-false most 1 p.0;
      small = ltb-false 1000000 most p.1;
      any = subst (λ (us : List UnitDescription). 1 ≤ length us) (sym same) (some_units ss u ue);
      few = subst (λ (us : List UnitDescription). length us ≤ 16) (sym same) (few_said ss few);
      units = subst (λ (us : List UnitDescription). All (λ u. IsUnit most u) us) (sym same)
          (all_units ls most (none_at _ (find (λ s. is_out_of_range s.content) ss) o) (none_at _ (find (λ s. is_heavier most s.content) ss) light));
    }

budget_given : (ss : List Statement) (b : Statement) (n : ℕ) → first_of Budget ss ≡ Some b → n ≡ budget_in (Some b.content) → n ≡ budget_said ss
budget_given ss b n e m = m ∙ sym (ap (λ o. budget_in (content_of o)) e)

-- The checks before the last are passed.
pub comes_to : (ss : List Statement) (n : ℕ) (a b u : Statement) → Ok tt ≡ checked (repeated ss) → first_of Name ss ≡ Some a → first_of Budget ss ≡ Some b
    → first_of OfUnit ss ≡ Some u → Ok tt ≡ checked (out_of_range ss) → too_many ss ≡ None → n ≡ budget_in (Some b.content) → refusal ss ≡ heavier_than n ss
comes_to ss n a b u r ae be ue o t m =
    next (repeated ss) (passed (repeated ss) r) ∙ next (missing Name NameField ss) (not_missing Name NameField ss a ae) ∙ next (missing Budget BudgetField ss) (not_missing Budget BudgetField ss b be)
    ∙ next (missing OfUnit UnitField ss) (not_missing OfUnit UnitField ss u ue) ∙ next (out_of_range ss) (passed (out_of_range ss) o) ∙ next (too_many ss) t ∙ alone (too_heavy ss)
    ∙ ap (λ n. heavier_than n ss) (sym (budget_given ss b n be m))

pub is_refused : (ss : List Statement) (n : ℕ) (f : ChipFault) → refusal ss ≡ heavier_than n ss → Err f ≡ checked (heavier_than n ss) → Err f ≡ by_statements (refusal ss) ss
is_refused ss n f e h = sym (ap (λ o. by_statements o ss) (e ∙ stopped (heavier_than n ss) f h))

pub is_described : (ss : List Statement) (d : ChipDescription) (n : ℕ) → refusal ss ≡ heavier_than n ss → Ok tt ≡ checked (heavier_than n ss) → d ≡ described ss → Ok d ≡ by_statements (refusal ss) ss
is_described ss d n e h k = ap Ok k ∙ sym (ap (λ o. by_statements o ss) (e ∙ passed (heavier_than n ss) h))

pub parts_same : (ss : List Statement) (d : ChipDescription) (a b : Statement) (n : List ℕ) (most : ℕ) (us : List ChipUnit) → d ≡ described_as n most us → first_of Name ss ≡ Some a
    → n ≡ name_in (Some a.content) → first_of Budget ss ≡ Some b → most ≡ budget_in (Some b.content) → map unit_of us ≡ units_said ss → d ≡ described ss
parts_same ss d a b n most us e ae ne be me ue =
    e ∙ ap (λ n. described_as n most us) (ne ∙ sym (ap (λ o. name_in (content_of o)) ae)) ∙ ap (λ most. described_as (name_said ss) most us) (budget_given ss b most be me)
    ∙ ap (λ (us : List UnitDescription). (let d : ChipDescription = record { name = name_said ss; budget = budget_said ss; units = us } in d)) ue
