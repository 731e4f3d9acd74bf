-- The names of a chip's memories: which are taken, and that all modules' names differ where none is.
use Rattle.bist_app.proofs.Common.{◌≡◌, ◌<◌, ◌≤◌, ◌∙◌, ◌↔◌, ◌⊎◌, inl, inr, IsTrue, Bool, true, false, ℕ, zero, suc, ◌+◌, List, [], ◌∷◌, length, map, Option, Some, None, Ok, Err, slice_get, get_or, refl, sym, ap, subst, arith, codes, Description, module_name, TestUnit, memories, Refusal, append_cancel_right, option_map}
use Rattle.std.specs.Str.{bytes_eq}
use Rattle.std.proofs.lemmas.Slice.Eq.{bytes_eq-Decides}
use Rattle.std.proofs.lemmas.Option.{slice_get-get_or, slice_get-map, slice_get_within}
use Rattle.chip_rtl.specs.Together.{Differ}
use Rattle.bist_endings.specs.declared.ending.ChipRefusal.{ChipRefusal}
use Rattle.bist_app.specs.Chip.{IsEarlier, HasTakenName, HasOwnNames}

-- ---- one after another

same_at : (ds : List Description) (i : ℕ) (d e : Description) → slice_get ds i ≡ Some d → slice_get ds i ≡ Some e → d ≡ e
same_at ds i d e p q = cc

at_some : (ds : List Description) (i : ℕ) (d : Description) → i < length ds → d ≡ get_or ds i d → slice_get ds i ≡ Some d
at_some ds i d within at = slice_get-get_or ds i d within ∙ ap Some (sym at)

pub found_earlier : (ds : List Description) (unit i : ℕ) (d : Description) (own name : List ℕ) → i < unit → unit ≤ length ds → d ≡ get_or ds i d → own ≡ d.name → true ≡ bytes_eq own name
    → IsTrue true ↔ IsEarlier ds unit name
found_earlier ds unit i d own name below many at is same =
    (λ _. (i, d, below, at_some ds i d (omega (arith, below, many)) at, sym is ∙ (bytes_eq-Decides own name).0 (sym same)), λ _. refl)

-- below or at
below_or : (j i : ℕ) → j < i + 1 → (j < i) ⊎ (j ≡ i)
below_or zero zero h = inr refl
below_or zero (suc i) h = inl (omega arith)
below_or (suc j) zero h = absurd (omega (arith, h))
below_or (suc j) (suc i) h = elim (below_or j i (omega (arith, h))) [ inl l ↦ inl (omega (arith, l)) | inr s ↦ inr (ap suc s) ]

not_both : (b c : Bool) → b ≡ c → b ≡ true → c ≡ false → ⊥
not_both b c e p q = cc

pub not_earlier : (ds : List Description) (unit i : ℕ) (d : Description) (own name : List ℕ) → i < unit → unit ≤ length ds → d ≡ get_or ds i d → own ≡ d.name → false ≡ bytes_eq own name
    → (IsEarlier ds i name → ⊥) → IsEarlier ds (i + 1) name → ⊥
not_earlier ds unit i d own name within many at is other none (j, e, below, stands, named) = by (below_or j i below)
  where
    by : (j < i) ⊎ (j ≡ i) → ⊥
    by (inl l) = none (j, e, l, stands, named)
    by (inr s) =
        let here : slice_get ds i ≡ Some e = subst (λ k. slice_get ds k ≡ Some e) s stands in
        let same : own ≡ name = is ∙ ap (λ (x : Description). x.name) (same_at ds i d e (at_some ds i d (omega (arith, within, many)) at) here) ∙ named in
        not_both (bytes_eq own name) (bytes_eq own name) refl ((bytes_eq-Decides own name).1 same) (sym other)

-- ---- the names of a unit

pub taken_by_chip : (chip : List ℕ) (ds : List Description) (unit : ℕ) (d : Description) (own : List ℕ) → unit < length ds → d ≡ get_or ds unit d → own ≡ module_name d.name → true ≡ bytes_eq own chip
    → IsTrue true ↔ HasTakenName chip ds unit
taken_by_chip chip ds unit d own within at is same =
    (λ _. (d, at_some ds unit d within at, inl (sym is ∙ (bytes_eq-Decides own chip).0 (sym same))), λ _. refl)

pub taken_if_earlier : (chip : List ℕ) (ds : List Description) (unit : ℕ) (d : Description) (own name : List ℕ) (r : Bool) → unit < length ds → d ≡ get_or ds unit d → own ≡ module_name d.name
    → false ≡ bytes_eq own chip → name ≡ d.name → (IsTrue r ↔ IsEarlier ds unit name) → IsTrue r ↔ HasTakenName chip ds unit
taken_if_earlier chip ds unit d own name r within at is other named tells = (λ t. (d, here, inr (subst (IsEarlier ds unit) named (tells.0 t))), from)
  where
    here : slice_get ds unit ≡ Some d
    here = at_some ds unit d within at

    from : HasTakenName chip ds unit → IsTrue r
    from (e, stands, inl same) =
        let own_is : own ≡ chip = is ∙ ap (λ (x : Description). module_name x.name) (same_at ds unit d e here stands) ∙ same in
        absurd (not_both (bytes_eq own chip) (bytes_eq own chip) refl ((bytes_eq-Decides own chip).1 own_is) (sym other))
    from (e, stands, inr earlier) =
        tells.1 (subst (IsEarlier ds unit) (sym (named ∙ ap (λ (x : Description). x.name) (same_at ds unit d e here stands))) earlier)

-- ---- the names of all units

abbrev OwnBefore : List ℕ → List Description → ℕ → Type 0
OwnBefore chip ds unit = (before : ℕ) → before < unit → HasTakenName chip ds before → ⊥

pub first_taken : (chip : List ℕ) (ds : List Description) (unit : ℕ) (r : Bool) → r ≡ true → (IsTrue r ↔ HasTakenName chip ds unit) → OwnBefore chip ds unit
    → HasOwnNames chip ds (Err (Refusal.Chip (ChipRefusal.SameName unit)))
unfolding HasOwnNames
first_taken chip ds unit r is tells own = (tells.0 is, own)

pub own_so_far : (chip : List ℕ) (ds : List Description) (unit : ℕ) (r : Bool) → r ≡ false → (IsTrue r ↔ HasTakenName chip ds unit) → OwnBefore chip ds unit → OwnBefore chip ds (unit + 1)
own_so_far chip ds unit r is tells own before below taken = elim (below_or before unit below) [
  | inl l ↦ own before l taken
  | inr s ↦ not_both r r refl (tells.1 (subst (HasTakenName chip ds) s taken)) is
]

pub all_own : (chip : List ℕ) (ds : List Description) (unit : ℕ) → length ds ≤ unit → OwnBefore chip ds unit → HasOwnNames chip ds (Ok tt)
unfolding HasOwnNames
all_own chip ds unit many own other (d, stands, taken) =
    let within : other < length ds = slice_get_within ds other d stands in
    own other (omega (arith, within, many)) (d, stands, taken)

-- ---- all names differ

-- the same names of memories, by those of their modules
memory_names : (a b : List ℕ) → module_name a ≡ module_name b → a ≡ b
memory_names a b e = append_cancel_right a b (codes "_bist") e

given_by : {A B : Type 0} (f : A → B) (o : Option A) (b : B) → option_map f o ≡ Some b → (a : A) × (o ≡ Some a) × (f a ≡ b)
given_by f None b e = absurd (none_some e)
  where
    none_some : {B : Type 0} {b : B} → (let o : Option B = None in o) ≡ Some b → ⊥
    none_some e = cc
given_by f (Some a) b e = (a, refl, some_some e)
  where
    some_some : {B : Type 0} {x y : B} → Some x ≡ Some y → x ≡ y
    some_some e = cc

-- the module of this name is that of a memory
named_module : (us : List TestUnit) (i : ℕ) (name : List ℕ) → slice_get (map (λ (u : TestUnit). module_name u.memory.name) us) i ≡ Some name
    → (u : TestUnit) × (slice_get us i ≡ Some u) × (module_name u.memory.name ≡ name)
named_module us i name e = given_by (λ (u : TestUnit). module_name u.memory.name) (slice_get us i) name (sym (slice_get-map (λ (u : TestUnit). module_name u.memory.name) us i) ∙ e)

-- no two of these have one name
Apart : List TestUnit → Type 0
Apart us = (i j : ℕ) (u v : TestUnit) → i < j → slice_get us i ≡ Some u → slice_get us j ≡ Some v → u.memory.name ≡ v.memory.name → ⊥

modules_differ : (us : List TestUnit) → Apart us → Differ (map (λ u. module_name u.memory.name) us)
unfolding Apart
modules_differ [] apart = tt
modules_differ (u ∷ us) apart = (
  λ i e. let m = named_module us i (module_name u.memory.name) e in
      apart 0 (suc i) u m.0 (omega arith) refl m.1 (sym (memory_names m.0.memory.name u.memory.name m.2)),
  modules_differ us (λ i j v w below p q same. apart (suc i) (suc j) v w (omega (arith, below)) p q same),
)

memory_at : (us : List TestUnit) (i : ℕ) (u : TestUnit) → slice_get us i ≡ Some u → slice_get (memories us) i ≡ Some u.memory
memory_at us i u e = slice_get-map (λ (v : TestUnit). v.memory) us i ∙ ap (option_map (λ (v : TestUnit). v.memory)) e

pub all_differ : (chip : List ℕ) (us : List TestUnit) → ((unit : ℕ) → HasTakenName chip (memories us) unit → ⊥) → Differ (chip ∷ map (λ u. module_name u.memory.name) us)
unfolding Apart
all_differ chip us own = (
  λ i e. let m = named_module us i chip e in own i (m.0.memory, memory_at us i m.0 m.1, inl m.2),
  modules_differ us (λ i j u v below p q same. own j (v.memory, memory_at us j v q, inr (i, u.memory, below, memory_at us i u p, same))),
)
