-- What the answer of the top call comes to for `chip`.
use Rattle.bist_app.proofs.Common.{◌≡◌, ◌≢◌, ◌∙◌, sym, subst, ap, refl, ℕ, suc, List, [], ◌∷◌, Option, Some, None, Ok, Err, Files, HostState, WritesFile, Says, MarchElement, Description, IsMemory, ChipDescription, UnitDescription, IsChip, TestUnit, Words, word, Done, found_status, WritesInOrder, FileMarch, GivesMarch, FileMemory, GivesMemory, GivesChip, InputChip, UnitMarch, UnitMemory, command_named, Runs, Boxes, Command}
use Rattle.march_syntax.specs.Answers.{SpellsMarch, Reads as ReadsMarch}
use Rattle.march_syntax.proofs.OneOutcome.{reads_one as one_march}
use Rattle.memory_desc.specs.Described.{SpellsMemory}
use Rattle.memory_desc.specs.Table.{Reads as ReadsMemory}
use Rattle.memory_desc.proofs.OneOutcome.{reads_one as one_memory}
use Rattle.chip_desc.specs.ChipTable.{Reads as ReadsChip}
use Rattle.chip_desc.proofs.OneText.{reads_one as one_chip}
use Rattle.bist_app.specs.Headline.{Only, InputHas}
use Rattle.std.specs.Prelude.{◌≤◌, zero, length, slice_get}
use Rattle.march_core.specs.March.{IsMarch}
use Rattle.chip_rtl.specs.ChipFile.{ChipFile}
use Rattle.bist_app.specs.ChipBeside.{EachUnitTests}
use Rattle.bist_app.specs.Chip.{GivesUnit, GivesUnits, IsChipTested, LeavesChip, DecidesChip}
use Rattle.bist_app.specs.TestedChip.{IsUnitOf, AreUnitsOf, IsTestedChip, LeavesTestedChip}
use Rattle.bist_app.proofs.Complete.{if_told}
use Rattle.bist_app.proofs.ChipBeside.{unit_tests}
use Rattle.bist_app.proofs.Headline.{only_read, is_march}
use Rattle.bist_app.proofs.Succeeding.{Succeeds, not_refused, same_value, succeeds}

-- ---- the inputs

unit_march_read : (files : Files) (unit : ℕ) (name : List ℕ) (march : List MarchElement) → UnitMarch (Some files) unit name (Ok march) → InputHas files name (λ bytes. Only (SpellsMarch bytes) march)
unfolding UnitMarch FileMarch GivesMarch
unit_march_read files unit name march (Ok own, (Ok bytes, gives, reads), same) =
    (bytes, gives.0, (gives.1, only_read (ReadsMarch bytes) march (one_march bytes) (subst (λ (m : List MarchElement). ReadsMarch bytes (Ok m)) (sym (same_value same)) reads)))
unit_march_read files unit name march (Ok own, (Err e, gives, stops), same) = absurd (not_refused stops)
unit_march_read files unit name march (Err e, file, same) = absurd (not_refused same)

unit_memory_read : (files : Files) (unit : ℕ) (name : List ℕ) (d : Description) → UnitMemory (Some files) unit name (Ok d)
    → IsMemory d × InputHas files name (λ bytes. Only (SpellsMemory bytes) d)
unfolding UnitMemory FileMemory GivesMemory
unit_memory_read files unit name d (Ok own, (Ok bytes, gives, reads), same) =
    let is = sym (same_value same) in
    (subst IsMemory is reads.1, (bytes, gives.0, (gives.1, only_read (ReadsMemory bytes) d (one_memory bytes) (subst (λ (m : Description). ReadsMemory bytes (Ok m)) is reads.0))))
unit_memory_read files unit name d (Ok own, (Err e, gives, stops), same) = absurd (not_refused stops)
unit_memory_read files unit name d (Err e, file, same) = absurd (not_refused same)

unit_of : (files : Files) (number : ℕ) (d : UnitDescription) (u : TestUnit) → GivesUnit (Some files) number d (Ok u) → IsUnitOf files d u
unfolding GivesUnit
unit_of files number d u (Ok march, f, (Ok memory, g, same)) =
    let m = unit_memory_read files number d.memory memory g in
    subst (IsUnitOf files d) (sym (same_value same)) (record { march_text = unit_march_read files number d.march march f; memory_text = m.1; is_memory = m.0; weight = refl })
unit_of files number d u (Ok march, f, (Err e, g, same)) = absurd (not_refused same)
unit_of files number d u (Err e, f, same) = absurd (not_refused same)

units_of : (files : Files) (number : ℕ) (ds : List UnitDescription) (us : List TestUnit) → GivesUnits (Some files) number ds (Ok us) → AreUnitsOf files ds us
unfolding GivesUnits
units_of files number [] us same = subst (AreUnitsOf files []) (sym (same_value same)) tt
units_of files number (d ∷ ds) us (Ok first, f, (Ok rest, g, same)) =
    subst (AreUnitsOf files (d ∷ ds)) (sym (same_value same)) (unit_of files number d first f, units_of files (suc number) ds rest g)
units_of files number (d ∷ ds) us (Ok first, f, (Err e, g, same)) = absurd (not_refused same)
units_of files number (d ∷ ds) us (Err e, f, same) = absurd (not_refused same)

chip_read : (files : Files) (words : Words) (chip : ChipDescription) → InputChip (Some files) words 1 (Ok chip) → IsChip chip × InputHas files (word words 1) (λ bytes. Only (λ c. ReadsChip bytes (Ok c)) chip)
unfolding InputChip GivesChip
chip_read files words chip (Ok bytes, gives, reads) = (reads.1, (bytes, gives.0, (gives.1, only_read (ReadsChip bytes) chip (one_chip bytes) reads.0)))
chip_read files words chip (Err e, gives, same) = absurd (not_refused same)

-- the chip and its units that were read, and what is left of them
record Inputs (files : Files) (words : Words) (done : Done) : Type 0 where
  chip : ChipDescription
  is_chip : IsChip chip
  chip_text : InputHas files (word words 1) (λ bytes. Only (λ c. ReadsChip bytes (Ok c)) chip)
  units : List TestUnit
  unit_texts : AreUnitsOf files chip.units units
  tested : IsChipTested chip.name units chip.budget done

inputs : (files : Files) (words : Words) (done : Done) → DecidesChip (Some files) words (Ok done) → Inputs files words done
unfolding LeavesChip
inputs files words done (Err e, first, same) = absurd (not_refused same)
inputs files words done (Ok chip, first, (Err e, second, same)) = absurd (not_refused same)
inputs files words done (Ok chip, first, (Ok us, second, (Err e, own, same))) = absurd (not_refused same)
inputs files words done (Ok chip, first, (Ok us, second, (Ok _, own, tested))) =
    let c = chip_read files words chip first in
    record { chip = chip; is_chip = c.0; chip_text = c.1; units = us; unit_texts = units_of files 0 chip.units us second; tested = tested }

-- ---- the tests

one_unit : (files : Files) (ds : List UnitDescription) (us : List TestUnit) → AreUnitsOf files ds us → (i : ℕ) (u : TestUnit) → slice_get us i ≡ Some u → IsMarch u.march × IsMemory u.memory
one_unit files [] [] are i u e = cc
one_unit files [] (x ∷ us) are i u e = absurd are
one_unit files (d ∷ ds) [] are i u e = absurd are
one_unit files (d ∷ ds) (x ∷ us) are zero u e =
    let same : x ≡ u = cc in
    subst (λ (y : TestUnit). IsMarch y.march × IsMemory y.memory) same (is_march files d.march x.march are.0.march_text, are.0.is_memory)
one_unit files (d ∷ ds) (x ∷ us) are (suc i) u e = one_unit files ds us are.1 i u e

as_many : (files : Files) (ds : List UnitDescription) (us : List TestUnit) → AreUnitsOf files ds us → length us ≡ length ds
as_many files [] [] are = refl
as_many files [] (u ∷ us) are = absurd are
as_many files (d ∷ ds) [] are = absurd are
as_many files (d ∷ ds) (u ∷ us) are = ap suc (as_many files ds us are.1)

units_test : (files : Files) (ds : List UnitDescription) (us : List TestUnit) → AreUnitsOf files ds us → length ds ≤ 16 → (text name : List ℕ) (budget : ℕ)
    (file : ChipFile text name us budget) → EachUnitTests file.chip us file.groups
units_test files ds us are few text name budget file i u g is_unit is_group =
    let is = one_unit files ds us are i u is_unit in
    unit_tests file.chip us budget file.groups file.tests i u g is_unit is_group is.0 is.1 file.legal file.modules file.text.0 file.ports
    (subst (λ (n : ℕ). n ≤ 16) (sym (as_many files ds us are)) few)

-- ---- the write

record WritesOne (files : Files) (told : Option Files) (one : List ℕ) (text : List ℕ) : Type 0 where
  after : Files
  is_told : told ≡ Some after
  is_written : after one ≡ Some text
  others : (name : List ℕ) → name ≢ one → after name ≡ files name

one_written : (files : Files) (last told : Option Files) (one text : List ℕ) → WritesFile (Some files) last one text → told ≡ last → WritesOne files told one text
one_written files None told one text w same = absurd w.1
one_written files (Some last) told one text w same = record { after = last; is_told = same; is_written = w.0; others = w.1 }

written : (words : Words) (files : Files) (told : Option Files) (text : List ℕ) → WritesInOrder words ((record { position = 2; bytes = text }) ∷ []) (Some files) told (Ok tt)
    → WritesOne files told (word words 2) text
written words files told text (last, w, same) = one_written files last told (word words 2) text w same

-- ---- the whole

tested_chip : (words : Words) (files : Files) (old new : HostState) (n : ℕ) → Succeeds Command.Chip words files old new n
    → (n ≡ 0) × ((files' : Files) × (new.files ≡ Some files') × IsTestedChip words files files' old.said new.said)
tested_chip words files old new n s =
    let i = inputs files words s.done s.decides.0 in
    let t = i.tested in
    let outputs : s.done.outputs ≡ (record { position = 2; bytes = t.text }) ∷ [] = ap (λ (d : Done). d.outputs) t.done_is in
    let w = written words files new.files t.text (subst (λ outs. WritesInOrder words outs (Some files) new.files (Ok tt)) outputs s.writes) in (
      s.status ∙ ap (λ (d : Done). found_status d.found) t.done_is,
      (
        w.after,
        w.is_told,
        record {
          shape = s.form;
          chip = i.chip;
          is_chip = i.is_chip;
          chip_text = i.chip_text;
          units = i.units;
          unit_texts = i.unit_texts;
          text = t.text;
          is_written = w.is_written;
          file = t.file;
          shown = t.shown;
          freely = t.freely;
          beside = units_test files i.chip.units i.units i.unit_texts i.is_chip.few t.text i.chip.name i.chip.budget t.file;
          says = subst (λ (d : Done). Says old.said new.said d.line) t.done_is s.says;
          others = w.others;
        },
      ),
    )

pub leaves_tested_chip : (words : Words) (boxes left : Boxes) (old new : HostState) (n : ℕ) → Runs words boxes left old new n → LeavesTestedChip words old new n
leaves_tested_chip words boxes left old new n runs =
    if_told old.files _ (λ files told name low. tested_chip words files old new n (succeeds Command.Chip words boxes left files old new n (ap command_named name) low told runs))
