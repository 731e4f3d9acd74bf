-- The checks of a chip and of its units, one behind another.
use Rattle.bist_app.proofs.Common.{◌≡◌, ◌∙◌, ◌≤◌, ◌<◌, ◌+◌, ◌∷◌, [], ℕ, zero, suc, All, List, length, map, Option, Result, Ok, Err, IfOk, refl, sym, ap, subst, arith, Files, Description, IsMemory, ChipDescription, UnitDescription, IsChip, unit_of, TestUnit, memories, weights, Refusal, Effects, Done, done_of, plain, Words, NamesWords, GivesMemory, FileMemory, UnitMemory, HasForm, length-map}
use Rattle.std.proofs.Math.Path.{ap₂}
use Rattle.chip_desc.specs.declared.chip.ChipUnit.{ChipUnit}
use Rattle.bist_app.specs.declared.units.UnitTable.{UnitTable}
use Rattle.bist_app.specs.Chip.{GivesUnit, GivesUnits, HasOwnNames, LeavesChip, TestsUnits, DecidesChip, chip_form}
use Rattle.bist_app.specs.inner.UnitTables.{IsTableOf, AppendsUnits}
use Rattle.bist_app.specs.inner.ChipParts.{IsRead, IsReady}

not_refused : {A E : Type 0} {value : A} {error : E} → Ok value ≡ Err error → ⊥
not_refused same = cc

same_value : {A E : Type 0} {one other : A} → (let r : Result A E = Ok one in r) ≡ Ok other → one ≡ other
same_value same = cc

-- ---- what was read

memory_known : (files : Option Files) (unit : ℕ) (name : List ℕ) (d : Description) → UnitMemory files unit name (Ok d) → IsMemory d
unfolding UnitMemory FileMemory GivesMemory
memory_known files unit name d (Ok own, (Ok bytes, read, gives), same) = subst IsMemory (sym (same_value same)) gives.1
memory_known files unit name d (Ok own, (Err e, read, stops), same) = absurd (not_refused stops)
memory_known files unit name d (Err e, file, same) = absurd (not_refused same)

-- a unit that was read has the weight of its line, and a memory
pub unit_known : (files : Option Files) (number : ℕ) (d : UnitDescription) (u : TestUnit) → GivesUnit files number d (Ok u) → (u.weight ≡ d.weight) × IsMemory u.memory
unfolding GivesUnit
unit_known files number d u (Ok march, f, (Ok memory, g, same)) =
    let is = same_value same in
    (ap (λ (v : TestUnit). v.weight) is, subst (λ (v : TestUnit). IsMemory v.memory) (sym is) (memory_known files number d.memory memory g))
unit_known files number d u (Ok march, f, (Err e, g, same)) = absurd (not_refused same)
unit_known files number d u (Err e, f, same) = absurd (not_refused same)

-- of each unit of a list
pub record AreKnown (ds : List UnitDescription) (us : List TestUnit) : Type 0 where
  pub weighing : weights us ≡ map (λ d. d.weight) ds
  pub known : All (λ u. IsMemory u.memory) us

all_more : (u : TestUnit) (us : List TestUnit) → IsMemory u.memory → All (λ (v : TestUnit). IsMemory v.memory) us → All (λ (v : TestUnit). IsMemory v.memory) (u ∷ us)
all_more u us h all zero d l = h
all_more u us h all (suc i) d l = all i d (omega (arith, l))

pub units_known : (files : Option Files) (number : ℕ) (ds : List UnitDescription) (us : List TestUnit) → GivesUnits files number ds (Ok us) → AreKnown ds us
unfolding GivesUnits
units_known files number [] us same =
    subst (AreKnown []) (sym (same_value same)) (record { weighing = refl; known = λ i d l. absurd (omega (arith, l)) })
units_known files number (d ∷ ds) us (Ok first, f, (Ok rest, g, same)) =
    let one = unit_known files number d first f in
    let more = units_known files (suc number) ds rest g in
    subst (AreKnown (d ∷ ds)) (sym (same_value same)) (record { weighing = ap₂ (λ x xs. x ∷ xs) one.0 more.weighing; known = all_more first rest one.1 more.known })
units_known files number (d ∷ ds) us (Ok first, f, (Err e, g, same)) = absurd (not_refused same)
units_known files number (d ∷ ds) us (Err e, f, same) = absurd (not_refused same)

-- the units of a chip, and the table that has them
pub record UnitsRead (files : Option Files) (chip : ChipDescription) (t : UnitTable) : Type 0 where
  pub units : List TestUnit
  pub gives : GivesUnits files 0 chip.units (Ok units)
  pub has_read : IsRead chip t units

pub units_read : (files : Option Files) (chip : ChipDescription) (units : List ChipUnit) (old new : UnitTable) → map unit_of units ≡ chip.units → IsChip chip → IsTableOf old []
    → AppendsUnits files 0 (map unit_of units) old new (Ok tt) → UnitsRead files chip new
units_read files chip units old new are is_chip empty (us, gives, grows) =
    let given : GivesUnits files 0 chip.units (Ok us) = subst (λ ds. GivesUnits files 0 ds (Ok us)) are gives in
    let k = units_known files 0 chip.units us given in
    record { units = us; gives = given; has_read = record { is_chip = is_chip; table = grows [] empty; weighing = k.weighing; known = k.known } }

pub few_lines : (chip : ChipDescription) (units : List ChipUnit) → map unit_of units ≡ chip.units → IsChip chip → 0 + length units ≤ 16
few_lines chip units are is_chip =
    let many : length units ≡ length chip.units = sym (length-map units unit_of) ∙ ap length are in
    let few = is_chip.few in
    omega (arith, many, few)

-- ---- the names

pub ready : (chip : ChipDescription) (t : UnitTable) (us : List TestUnit) (name : List ℕ) (ds : List Description) → name ≡ chip.name → ds ≡ t.memories.items → IsRead chip t us
    → HasOwnNames name ds (Ok tt) → IsReady chip t us
unfolding HasOwnNames
ready chip t us name ds called are r own = record {
  has_read = r;
  names = subst (λ (es : List Description). HasOwnNames chip.name es (Ok tt)) (are ∙ r.table.memories) (subst (λ n. HasOwnNames n ds (Ok tt)) called own);
}

pub names_checked : (chip : ChipDescription) (t : UnitTable) (us : List TestUnit) (name : List ℕ) (ds : List Description) (r : Result (Unit {0}) Refusal) → name ≡ chip.name → ds ≡ t.memories.items → IsRead chip t us
    → HasOwnNames name ds r → HasOwnNames chip.name (memories us) r
names_checked chip t us name ds r called are h own =
    subst (λ (es : List Description). HasOwnNames chip.name es r) (are ∙ h.table.memories) (subst (λ n. HasOwnNames n ds r) called own)

-- ---- the file is named by the second word

leaves_named : (name : List ℕ) (us : List TestUnit) (budget : ℕ) (done : Done) (words : Words) → 2 < length words → LeavesChip name us budget (Ok done) → NamesWords words done.outputs
unfolding LeavesChip
leaves_named name us budget done words third h = subst (NamesWords words) (sym (ap (λ (d : Done). d.outputs) h.done_is)) (third, tt)

units_named : (files : Option Files) (chip : ChipDescription) (done : Done) (words : Words) → 2 < length words → TestsUnits files chip (Ok done) → NamesWords words done.outputs
units_named files chip done words third (Ok us, f, (Ok _, g, leaves)) = leaves_named chip.name us chip.budget done words third leaves
units_named files chip done words third (Ok us, f, (Err e, g, same)) = absurd (not_refused same)
units_named files chip done words third (Err e, f, same) = absurd (not_refused same)

pub chip_named : (files : Option Files) (words : Words) (done : Done) → HasForm chip_form words → DecidesChip files words (Ok done) → NamesWords words done.outputs
chip_named files words done form (Ok chip, f, tests) =
    let count = form.count in
    units_named files chip done words (omega (arith, count)) tests
chip_named files words done form (Err e, f, same) = absurd (not_refused same)

pub named_plan : (files : Option Files) (words : Words) (r : Result Effects Refusal) → HasForm chip_form words → DecidesChip files words (plain r) → IfOk r (λ p. NamesWords words (done_of p).outputs)
named_plan files words (Ok p) form decides = chip_named files words (done_of p) form decides
named_plan files words (Err e) form decides = tt
