-- Over told files the units of a chip are read in one way, their names are refused in one way, and their test is told in one way; no
-- check of a chip refuses the words.
use Rattle.bist_app.proofs.Common.{◌≡◌, ◌∙◌, ◌<◌, ◌⊎◌, inl, inr, ℕ, zero, suc, List, [], ◌∷◌, length, Option, Result, Ok, Err, refl, sym, ap, arith, Files, Description, UnitDescription, last_group, end_of, TestUnit, lengths, weights, Refusal, Done, HasOneOutcome, Answer, answer_of, IsTold, Settles, outcome_settles, then_settles, UnitMarch, UnitMemory, unit_march_settles, unit_memory_settles}
use Rattle.bist_endings.specs.declared.ending.ChipRefusal.{ChipRefusal}
use Rattle.bist_app.specs.Chip.{GivesUnit, GivesUnits, HasTakenName, HasOwnNames, IsChipTested, chip_line}
use Rattle.bist_app.proofs.ChipTexts.{fit_one}

-- ---- the units

value_settles : {A Says Told : Type 0} (value : A) → Settles A Says Told (λ r. r ≡ Ok value)
value_settles {A} value = outcome_settles (λ (r : Result A Refusal). r ≡ Ok value) (λ is. cc) (λ r s f g rs ss. f ∙ sym g)

unit_settles : {Says : Type 0} (files : Option Files) (number : ℕ) (d : UnitDescription) → Settles TestUnit Says (IsTold files) (GivesUnit files number d)
unfolding GivesUnit
unit_settles files number d =
    then_settles (UnitMarch files number d.march) _ (unit_march_settles files number d.march) (λ march.
    then_settles (UnitMemory files number d.memory) _ (unit_memory_settles files number d.memory) (λ memory.
    value_settles (record { march = march; memory = memory; weight = d.weight })))

pub units_settle : {Says : Type 0} (files : Option Files) (number : ℕ) (ds : List UnitDescription) → Settles (List TestUnit) Says (IsTold files) (GivesUnits files number ds)
unfolding GivesUnits
units_settle files number [] = value_settles []
units_settle files number (d ∷ ds) =
    then_settles (GivesUnit files number d) _ (unit_settles files number d) (λ first.
    then_settles (GivesUnits files (suc number) ds) _ (units_settle files (suc number) ds) (λ rest.
    value_settles (first ∷ rest)))

-- ---- their names

apart : (i j : ℕ) → (i ≡ j) ⊎ ((i < j) ⊎ (j < i))
apart zero zero = inl refl
apart zero (suc j) = inr (inl (omega arith))
apart (suc i) zero = inr (inr (omega arith))
apart (suc i) (suc j) = elim (apart i j) [ inl s ↦ inl (ap suc s) | inr o ↦ inr (elim o [ inl l ↦ inl (omega (arith, l)) | inr l ↦ inr (omega (arith, l)) ]) ]

abbrev IsFirst : List ℕ → List Description → ℕ → Type 0
IsFirst chip ds unit = HasTakenName chip ds unit × ((before : ℕ) → before < unit → HasTakenName chip ds before → ⊥)

first_one : (chip : List ℕ) (ds : List Description) (i j : ℕ) → IsFirst chip ds i → IsFirst chip ds j → i ≡ j
first_one chip ds i j f g = elim (apart i j) [ inl s ↦ s | inr o ↦ absurd (elim o [ inl l ↦ g.1 i l f.0 | inr l ↦ f.1 j l g.0 ]) ]

names_one : (chip : List ℕ) (ds : List Description) → HasOneOutcome (HasOwnNames chip ds)
unfolding HasOwnNames
names_one chip ds (Ok _) (Ok _) f g r s = refl
names_one chip ds (Ok _) (Err (Refusal.Chip (ChipRefusal.SameName j))) f g r s = absurd (f j g.0)
names_one chip ds (Ok _) (Err other) f g r s = absurd g
names_one chip ds (Err (Refusal.Chip (ChipRefusal.SameName i))) (Ok _) f g r s = absurd (g i f.0)
names_one chip ds (Err (Refusal.Chip (ChipRefusal.SameName i))) (Err (Refusal.Chip (ChipRefusal.SameName j))) f g r s =
    ap (λ (unit : ℕ). Err (Refusal.Chip (ChipRefusal.SameName unit))) (first_one chip ds i j f g)
names_one chip ds (Err (Refusal.Chip (ChipRefusal.SameName i))) (Err other) f g r s = absurd g
names_one chip ds (Err other) outcome f g r s = absurd f

pub names_settle : {Says Told : Type 0} (chip : List ℕ) (ds : List Description) → Settles (Unit {0}) Says Told (HasOwnNames chip ds)
unfolding HasOwnNames
names_settle chip ds = outcome_settles (HasOwnNames chip ds) (λ h. h) (names_one chip ds)

-- ---- what is left

pub tested_one : (name : List ℕ) (us : List TestUnit) (budget : ℕ) (d e : Done) → IsChipTested name us budget d → IsChipTested name us budget e → answer_of (Ok d) ≡ answer_of (Ok e)
tested_one name us budget d e f g =
    let same : f.file.groups ≡ g.file.groups = fit_one budget [] (weights us) f.file.groups g.file.groups f.file.fitted g.file.fitted in
    ap (λ (x : Done). answer_of (Ok x)) f.done_is
    ∙ ap (λ gs. (let a : Answer = record { status = 0; line = chip_line (length us) (suc (last_group gs)) (end_of gs (lengths us)) } in a)) same
    ∙ sym (ap (λ (x : Done). answer_of (Ok x)) g.done_is)
