-- The units of a chip, read one after another into their table.
use Rattle.bist_app.proofs.Common.{◌≡◌, ◌∙◌, ◌≤◌, ◌<◌, ◌+◌, ◌++◌, ◌∷◌, [], ℕ, zero, suc, All, List, length, map, Option, Some, None, Result, Ok, Err, refl, sym, ap, subst, arith, append-nil, append_assoc, add-one, get_or, take, drop, ◌-◌, Files, MarchElement, Description, UnitDescription, unit_of, TestUnit, test_length, lengths, Refusal, FileMarch, UnitMarch, UnitMemory, map-append, length-append, take_all}
use Rattle.std.proofs.lemmas.List.Elements.{All-append}
use Rattle.chip_desc.specs.declared.chip.ChipUnit.{ChipUnit}
use Rattle.bist_app.specs.declared.units.UnitTable.{UnitTable}
use Rattle.bist_app.specs.Chip.{GivesUnit, GivesUnits}
use Rattle.bist_app.specs.inner.UnitTables.{IsTableOf, HasUnits, Grows, AppendsUnit, AppendsUnits}

-- ---- the table

only_one : (P : ℕ → Type 0) (x : ℕ) → P x → All P (x ∷ [])
only_one P x h zero d l = h
only_one P x h (suc k) d l = absurd (omega (arith, l))

pub pushed : (old new : UnitTable) (us : List TestUnit) (u : TestUnit) (long : ℕ) → IsTableOf old us
    → new.marches.items ≡ old.marches.items ++ u.march ∷ [] → new.memories.items ≡ old.memories.items ++ u.memory ∷ []
    → new.weights.items ≡ old.weights.items ++ u.weight ∷ [] → new.lengths.items ≡ old.lengths.items ++ long ∷ []
    → long ≡ test_length u → 1 ≤ long → long ≤ 200000000 → IsTableOf new (us ++ u ∷ [])
pushed old new us u long h march memory weight along is some most = record {
  marches = march ∙ ap (λ xs. xs ++ u.march ∷ []) h.marches ∙ sym (map-append (λ (v : TestUnit). v.march) us (u ∷ []));
  memories = memory ∙ ap (λ xs. xs ++ u.memory ∷ []) h.memories ∙ sym (map-append (λ (v : TestUnit). v.memory) us (u ∷ []));
  weights = weight ∙ ap (λ xs. xs ++ u.weight ∷ []) h.weights ∙ sym (map-append (λ (v : TestUnit). v.weight) us (u ∷ []));
  lengths = along ∙ ap (λ xs. xs ++ long ∷ []) h.lengths ∙ ap (λ n. lengths us ++ n ∷ []) is ∙ sym (map-append test_length us (u ∷ []));
  short = subst (λ ls. All (λ (l : ℕ). (1 ≤ l) × (l ≤ 200000000)) ls) (sym along) (All-append (λ (l : ℕ). (1 ≤ l) × (l ≤ 200000000)) old.lengths.items (long ∷ []) h.short (only_one (λ (l : ℕ). (1 ≤ l) × (l ≤ 200000000)) long (some, most)));
}

pub one_more : (old new : UnitTable) (n : ℕ) (u : TestUnit) → HasUnits old n → Grows old new (u ∷ []) → HasUnits new (n + 1)
one_more old new n u (us, h, many) grows = (us ++ u ∷ [], grows us h, length-append us (u ∷ []) ∙ ap (λ k. k + 1) many)

-- ---- a unit

pub unit_read : (files files' : Option Files) (number : ℕ) (d : UnitDescription) (march_file memory_file : List ℕ) (march : List MarchElement) (memory : Description)
    → march_file ≡ d.march → memory_file ≡ d.memory → files' ≡ files → UnitMarch files number march_file (Ok march) → UnitMemory files' number memory_file (Ok memory)
    → GivesUnit files number d (Ok (record { march = march; memory = memory; weight = d.weight }))
unfolding GivesUnit
unit_read files files' number d march_file memory_file march memory m n same f g = (
  Ok march,
  subst (λ name. UnitMarch files number name (Ok march)) m f,
  (Ok memory, subst (λ name. UnitMemory files number name (Ok memory)) n (subst (λ fs. UnitMemory fs number memory_file (Ok memory)) same g), refl),
)

pub march_refused : (files : Option Files) (number : ℕ) (d : UnitDescription) (e : Refusal) → UnitMarch files number d.march (Err e) → GivesUnit files number d (Err e)
unfolding GivesUnit
march_refused files number d e f = (Err e, f, refl)

pub memory_refused : (files files' : Option Files) (number : ℕ) (d : UnitDescription) (march_file memory_file : List ℕ) (march : List MarchElement) (e : Refusal)
    → march_file ≡ d.march → memory_file ≡ d.memory → files' ≡ files → UnitMarch files number march_file (Ok march) → UnitMemory files' number memory_file (Err e)
    → GivesUnit files number d (Err e)
unfolding GivesUnit
memory_refused files files' number d march_file memory_file march e m n same f g = (
  Ok march,
  subst (λ name. UnitMarch files number name (Ok march)) m f,
  (Err e, subst (λ name. UnitMemory files number name (Err e)) n (subst (λ fs. UnitMemory fs number memory_file (Err e)) same g), refl),
)

march_wanting : (files : Option Files) (number : ℕ) (name : List ℕ) → UnitMarch files number name (Err Refusal.NoMemory)
unfolding UnitMarch FileMarch
march_wanting None number name = (Err Refusal.NoMemory, (Err Refusal.NoMemory, tt, refl), refl)
march_wanting (Some files) number name = (Err Refusal.NoMemory, (Err Refusal.NoMemory, tt, refl), refl)

pub unit_wanting : (files : Option Files) (number : ℕ) (d : UnitDescription) → GivesUnit files number d (Err Refusal.NoMemory)
unit_wanting files number d = march_refused files number d Refusal.NoMemory (march_wanting files number d.march)

-- ---- units

pub none_read : (files : Option Files) (number : ℕ) → GivesUnits files number [] (Ok [])
unfolding GivesUnits
none_read files number = refl

pub nothing_grows : (t : UnitTable) → Grows t t []
nothing_grows t us h = subst (IsTableOf t) (sym (append-nil us)) h

pub more_read : (files : Option Files) (number : ℕ) (d : UnitDescription) (ds : List UnitDescription) (u : TestUnit) (us : List TestUnit)
    → GivesUnit files number d (Ok u) → GivesUnits files (suc number) ds (Ok us) → GivesUnits files number (d ∷ ds) (Ok (u ∷ us))
unfolding GivesUnits
more_read files number d ds u us f g = (Ok u, f, (Ok us, g, refl))

pub first_refused : (files : Option Files) (number : ℕ) (d : UnitDescription) (ds : List UnitDescription) (e : Refusal)
    → GivesUnit files number d (Err e) → GivesUnits files number (d ∷ ds) (Err e)
unfolding GivesUnits
first_refused files number d ds e f = (Err e, f, refl)

pub later_refused : (files : Option Files) (number : ℕ) (d : UnitDescription) (ds : List UnitDescription) (u : TestUnit) (e : Refusal)
    → GivesUnit files number d (Ok u) → GivesUnits files (suc number) ds (Err e) → GivesUnits files number (d ∷ ds) (Err e)
unfolding GivesUnits
later_refused files number d ds u e f g = (Ok u, f, (Err e, g, refl))

pub both_grow : (old between new : UnitTable) (u : TestUnit) (us : List TestUnit) → Grows old between (u ∷ []) → Grows between new us → Grows old new (u ∷ us)
both_grow old between new u us f g before h = subst (IsTableOf new) (append_assoc before (u ∷ []) us) (g (before ++ u ∷ []) (f before h))

-- ---- ways out

pub unit_stops : (files : Option Files) (number : ℕ) (d : UnitDescription) (old new : UnitTable) (result : Result (Unit {0}) Refusal) (e : Refusal) → result ≡ Err e
    → GivesUnit files number d (Err e) → AppendsUnit files number d old new result
unit_stops files number d old new result e is h = subst (AppendsUnit files number d old new) (sym is) h

-- the first of units, and those behind it
pub first_of : (units : List ChipUnit) (first : ChipUnit) → 1 ≤ length units → first ≡ get_or units 0 first
    → map unit_of units ≡ unit_of first ∷ map unit_of (take (length units - 1) (drop 1 units))
first_of [] first some is = absurd (omega (arith, some))
first_of (u ∷ us) first some is =
    ap (λ (v : ChipUnit). unit_of v ∷ map unit_of us) (sym is) ∙ ap (λ (vs : List ChipUnit). unit_of first ∷ map unit_of vs) (sym (take_all (length (u ∷ us) - 1) us (behind (length us))))
  where
    behind : (n : ℕ) → n ≤ suc n - 1
    behind n = omega arith

pub nothing_read : (files : Option Files) (number : ℕ) (units : List ChipUnit) (t : UnitTable) → length units < 1 → AppendsUnits files number (map unit_of units) t t (Ok tt)
nothing_read files number [] t none = ([], none_read files number, nothing_grows t)
nothing_read files number (u ∷ us) t none = absurd (omega (arith, none))

pub units_stop : (files : Option Files) (number : ℕ) (units : List ChipUnit) (first : ChipUnit) (old between new : UnitTable) (result : Result (Unit {0}) Refusal) (e : Refusal) → result ≡ Err e
    → 1 ≤ length units → first ≡ get_or units 0 first → AppendsUnit files number (unit_of first) old between (Err e) → AppendsUnits files number (map unit_of units) old new result
units_stop files number units first old between new result e is some at h =
    subst (λ ds. AppendsUnits files number ds old new result) (sym (first_of units first some at))
    (subst (λ r. AppendsUnits files number (unit_of first ∷ map unit_of (take (length units - 1) (drop 1 units))) old new r) (sym is)
    (first_refused files number (unit_of first) (map unit_of (take (length units - 1) (drop 1 units))) e h))

go_on : (files : Option Files) (number : ℕ) (d : UnitDescription) (ds : List UnitDescription) (old between new : UnitTable) (result : Result (Unit {0}) Refusal)
    → AppendsUnit files number d old between (Ok tt) → AppendsUnits files (suc number) ds between new result → AppendsUnits files number (d ∷ ds) old new result
go_on files number d ds old between new (Ok _) (u, gives, grows) (us, give, grow) = (u ∷ us, more_read files number d ds u us gives give, both_grow old between new u us grows grow)
go_on files number d ds old between new (Err e) (u, gives, grows) give = later_refused files number d ds u e gives give

pub units_go_on : (files files' : Option Files) (number : ℕ) (units : List ChipUnit) (first : ChipUnit) (old between new : UnitTable) (result : Result (Unit {0}) Refusal)
    → 1 ≤ length units → first ≡ get_or units 0 first → files' ≡ files → AppendsUnit files number (unit_of first) old between (Ok tt)
    → AppendsUnits files' (number + 1) (map unit_of (take (length units - 1) (drop 1 units))) between new result → AppendsUnits files number (map unit_of units) old new result
units_go_on files files' number units first old between new result some at same one more =
    let ds = map unit_of (take (length units - 1) (drop 1 units)) in
    subst (λ es. AppendsUnits files number es old new result) (sym (first_of units first some at))
    (go_on files number (unit_of first) ds old between new result one
    (subst (λ f. AppendsUnits f (suc number) ds between new result) same (subst (λ n. AppendsUnits files' n ds between new result) (add-one number) more)))
