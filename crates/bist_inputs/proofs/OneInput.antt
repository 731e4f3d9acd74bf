-- What is known of each input as a check of a command: it never refuses the words, and over files that are told it has one settled outcome.
use Rattle.std.proofs.Common.{◌≡◌, ◌<◌, ◌≤◌, ℕ, List, Option, Some, None, Result, Ok, Err, refl, sym, ◌∙◌, ap, subst, arith, length}
use Rattle.bist_host.specs.Files.{Files, IsTooLarge}
use Rattle.fault_core.specs.Primitive.{Primitive}
use Rattle.fault_syntax.specs.Answers.{ReadsPrim}
use Rattle.fault_syntax.proofs.OneOutcome.{prim_one as prim_reads_one}
use Rattle.dynamic_core.specs.declared.item.Item.{Item}
use Rattle.dynamic_core.specs.Items.{ReadsItems}
use Rattle.dynamic_core.proofs.ListExact.{list_one as list_reads_one}
use Rattle.march_core.specs.March.{MarchElement}
use Rattle.march_syntax.specs.Answers.{Reads as ReadsMarch}
use Rattle.march_syntax.proofs.OneOutcome.{reads_one as march_reads_one}
use Rattle.memory_desc.specs.Descriptions.{Description}
use Rattle.memory_desc.specs.Table.{Reads as ReadsMemory}
use Rattle.memory_desc.proofs.OneOutcome.{reads_one as memory_reads_one}
use Rattle.chip_desc.specs.Chips.{ChipDescription}
use Rattle.chip_desc.specs.ChipTable.{Reads as ReadsChip}
use Rattle.chip_desc.proofs.OneText.{reads_one as chip_reads_one}
use Rattle.bist_endings.specs.declared.ending.ChipRefusal.{ChipRefusal}
use Rattle.bist_endings.specs.declared.ending.Refusal.{Refusal}
use Rattle.bist_endings.specs.Words.{Words, word}
use Rattle.bist_endings.specs.OneOutcome.{HasOneOutcome, IsSettled, IsSettledRefusal}
use Rattle.bist_endings.specs.Then.{Then}
use Rattle.bist_endings.proofs.OneOutcome.{outcome_value, then_one}
use Rattle.bist_endings.proofs.Settling.{IsTold, NeverUsage, Settles, outcome_settles, then_never, told_settles}
use Rattle.bist_inputs.specs.Inputs.{GivesBytes, GivesMarch, FileMarch, InputMarch, GivesPrim, GivesList, InputList, input_limit}
use Rattle.bist_inputs.specs.Memories.{GivesMemory, FileMemory, InputMemory}
use Rattle.bist_inputs.specs.Chips.{GivesChip, InputChip, in_unit, of_unit, UnitMarch, UnitMemory}

-- ---- the bytes of a file

same_bytes : (o : Option (List ℕ)) (b c : List ℕ) → o ≡ Some b → o ≡ Some c → (let r : Result (List ℕ) Refusal = Ok b in r) ≡ Ok c
same_bytes o b c h i = cc

there_or_absent : (o : Option (List ℕ)) (b : List ℕ) → o ≡ Some b → o ≡ None → ⊥
there_or_absent o b h i = cc

fits_or_large : (o : Option (List ℕ)) (b : List ℕ) → o ≡ Some b → length b ≤ input_limit → IsTooLarge o input_limit → ⊥
fits_or_large o b h within large =
    let beyond : input_limit < length b = subst (λ (x : Option (List ℕ)). IsTooLarge x input_limit) h large in
    omega (arith, within, beyond)

absent_or_large : (o : Option (List ℕ)) → o ≡ None → IsTooLarge o input_limit → ⊥
absent_or_large o h large = subst (λ (x : Option (List ℕ)). IsTooLarge x input_limit) h large

same_place : (make : ℕ → Refusal) (p q position : ℕ) → p ≡ position → q ≡ position → (let r : Result (List ℕ) Refusal = Err (make p) in r) ≡ Err (make q)
same_place make p q position h i = ap (λ (k : ℕ). (let r : Result (List ℕ) Refusal = Err (make k) in r)) (h ∙ sym i)

pub bytes_one : (files : Files) (name : List ℕ) (position : ℕ) → HasOneOutcome (GivesBytes (Some files) name position)
bytes_one files name position (Ok b) (Ok c) f g r s = same_bytes (files name) b c f.0 g.0
bytes_one files name position (Ok b) (Err (Refusal.Absent p)) f g r s = absurd (there_or_absent (files name) b f.0 g.1)
bytes_one files name position (Ok b) (Err (Refusal.TooLarge p)) f g r s = absurd (fits_or_large (files name) b f.0 f.1 g.1)
bytes_one files name position (Ok b) (Err (Refusal.ReadFailed p)) f g r s = absurd s
bytes_one files name position (Ok b) (Err Refusal.NoMemory) f g r s = absurd s
bytes_one files name position (Ok b) (Err other) f g r s = absurd g
bytes_one files name position (Err (Refusal.Absent p)) (Ok c) f g r s = absurd (there_or_absent (files name) c g.0 f.1)
bytes_one files name position (Err (Refusal.Absent p)) (Err (Refusal.Absent q)) f g r s = same_place Refusal.Absent p q position f.0 g.0
bytes_one files name position (Err (Refusal.Absent p)) (Err (Refusal.TooLarge q)) f g r s = absurd (absent_or_large (files name) f.1 g.1)
bytes_one files name position (Err (Refusal.Absent p)) (Err (Refusal.ReadFailed q)) f g r s = absurd s
bytes_one files name position (Err (Refusal.Absent p)) (Err Refusal.NoMemory) f g r s = absurd s
bytes_one files name position (Err (Refusal.Absent p)) (Err other) f g r s = absurd g
bytes_one files name position (Err (Refusal.TooLarge p)) (Ok c) f g r s = absurd (fits_or_large (files name) c g.0 g.1 f.1)
bytes_one files name position (Err (Refusal.TooLarge p)) (Err (Refusal.Absent q)) f g r s = absurd (absent_or_large (files name) g.1 f.1)
bytes_one files name position (Err (Refusal.TooLarge p)) (Err (Refusal.TooLarge q)) f g r s = same_place Refusal.TooLarge p q position f.0 g.0
bytes_one files name position (Err (Refusal.TooLarge p)) (Err (Refusal.ReadFailed q)) f g r s = absurd s
bytes_one files name position (Err (Refusal.TooLarge p)) (Err Refusal.NoMemory) f g r s = absurd s
bytes_one files name position (Err (Refusal.TooLarge p)) (Err other) f g r s = absurd g
bytes_one files name position (Err (Refusal.ReadFailed p)) outcome f g r s = absurd r
bytes_one files name position (Err Refusal.NoMemory) outcome f g r s = absurd r
bytes_one files name position (Err other) outcome f g r s = absurd f

pub bytes_never : (files : Option Files) (name : List ℕ) (position : ℕ) → NeverUsage (GivesBytes files name position)
bytes_never (Some files) name position h = h
bytes_never None name position h = h

-- ---- what a reader answers

abbrev refused_by : {A E : Type 0} → (E → Refusal) → Result A E → Result A Refusal
refused_by refused (Ok value) = Ok value
refused_by refused (Err fault) = Err (refused fault)

-- a check answers what a reader does, whose fault is its refusal
abbrev Gives : {A E : Type 0} → (E → Refusal) → (Result A E → Type 0) → Result A Refusal → Type 0
Gives {A} {E} refused reads r = (q : Result A E) × reads q × (r ≡ refused_by refused q)

-- words are never refused, and there is one settled outcome
record Decided (A : Type 0) (check : Result A Refusal → Type 0) : Type 0 where
  never : NeverUsage check
  one : HasOneOutcome check

not_usage : {A : Type 0} (value : A) → (let r : Result A Refusal = Err Refusal.Usage in r) ≡ Ok value → ⊥
not_usage value is = cc

same_refusal : {A : Type 0} (d e : Refusal) → (let r : Result A Refusal = Err d in r) ≡ Err e → d ≡ e
same_refusal d e is = cc

-- a check whose settled outcomes are what a reader answers, in one way
reader_decided : {A E : Type 0} (refused : E → Refusal) (reads : Result A E → Type 0) (check : Result A Refusal → Type 0) → ((f : E) → Refusal.Usage ≡ refused f → ⊥)
    → ((q r : Result A E) → reads q → reads r → q ≡ r) → ((r : Result A Refusal) → IsSettled r → check r → Gives refused reads r) → Decided A check
reader_decided {A} {E} refused reads check other one gives = record {
  never = λ h. usage (gives (Err Refusal.Usage) tt h);
  one = λ r s f g x y. same r s (gives r x f) (gives s y g);
}
  where
    usage : Gives refused reads (Err Refusal.Usage) → ⊥
    usage (Ok value, h, is) = not_usage value is
    usage (Err f, h, is) = other f (same_refusal {A = A} Refusal.Usage (refused f) is)

    same : (r s : Result A Refusal) → Gives refused reads r → Gives refused reads s → r ≡ s
    same r s (q, h, x) (p, i, y) = x ∙ ap (refused_by refused) (one q p h i) ∙ sym y

march_decided : (bytes : List ℕ) → Decided (List MarchElement) (GivesMarch bytes)
unfolding GivesMarch
march_decided bytes = reader_decided Refusal.March (ReadsMarch bytes) (GivesMarch bytes) (λ f is. cc) (march_reads_one bytes) gives
  where
    gives : (r : Result (List MarchElement) Refusal) → IsSettled r → GivesMarch bytes r → Gives Refusal.March (ReadsMarch bytes) r
    gives (Ok m) s h = (Ok m, h, refl)
    gives (Err (Refusal.March f)) s h = (Err f, h, refl)
    gives (Err other) s h = absurd h

memory_decided : (bytes : List ℕ) → Decided Description (GivesMemory bytes)
unfolding GivesMemory
memory_decided bytes = reader_decided Refusal.Memory (ReadsMemory bytes) (GivesMemory bytes) (λ f is. cc) (memory_reads_one bytes) gives
  where
    gives : (r : Result Description Refusal) → IsSettled r → GivesMemory bytes r → Gives Refusal.Memory (ReadsMemory bytes) r
    gives (Ok d) s h = (Ok d, h.0, refl)
    gives (Err (Refusal.Memory f)) s h = (Err f, h, refl)
    gives (Err other) s h = absurd h

prim_decided : (bytes : List ℕ) → Decided Primitive (GivesPrim bytes)
unfolding GivesPrim
prim_decided bytes = reader_decided Refusal.Fault (ReadsPrim bytes) (GivesPrim bytes) (λ f is. cc) (prim_reads_one bytes) gives
  where
    gives : (r : Result Primitive Refusal) → IsSettled r → GivesPrim bytes r → Gives Refusal.Fault (ReadsPrim bytes) r
    gives (Ok prim) s h = (Ok prim, h, refl)
    gives (Err (Refusal.Fault f)) s h = (Err f, h, refl)
    gives (Err other) s h = absurd h

list_decided : (bytes : List ℕ) → Decided (List Item) (GivesList bytes)
unfolding GivesList
list_decided bytes = reader_decided Refusal.Fault (ReadsItems bytes) (GivesList bytes) (λ f is. cc) (list_reads_one bytes) gives
  where
    gives : (r : Result (List Item) Refusal) → IsSettled r → GivesList bytes r → Gives Refusal.Fault (ReadsItems bytes) r
    gives (Ok items) s h = (Ok items, h, refl)
    gives (Err (Refusal.Fault f)) s h = (Err f, h, refl)
    gives (Err Refusal.NoMemory) s h = absurd s
    gives (Err other) s h = absurd h

chip_decided : (bytes : List ℕ) → Decided ChipDescription (GivesChip bytes)
unfolding GivesChip
chip_decided bytes = reader_decided (λ f. Refusal.Chip (ChipRefusal.File f)) (ReadsChip bytes) (GivesChip bytes) (λ f is. cc) (chip_reads_one bytes) gives
  where
    gives : (r : Result ChipDescription Refusal) → IsSettled r → GivesChip bytes r → Gives (λ f. Refusal.Chip (ChipRefusal.File f)) (ReadsChip bytes) r
    gives (Ok d) s h = (Ok d, h.0, refl)
    gives (Err (Refusal.Chip (ChipRefusal.File f))) s h = (Err f, h, refl)
    gives (Err other) s h = absurd h

-- ---- checks over files

-- words are never refused, and over files that are told there is one settled outcome
pub record Known (A : Type 0) (check : Option Files → Result A Refusal → Type 0) : Type 0 where
  pub never : (files : Option Files) → NeverUsage (check files)
  pub one : (files : Files) → HasOneOutcome (check (Some files))

known_settles : {A Says : Type 0} (files : Option Files) (check : Option Files → Result A Refusal → Type 0) → Known A check → Settles A Says (IsTold files) (check files)
known_settles files check known = told_settles files check (known.never files) (λ f. outcome_value (check (Some f)) (known.one f))

-- what is read of the bytes of a file
file_known : {A : Type 0} (name : List ℕ) (position : ℕ) (gives : List ℕ → Result A Refusal → Type 0) → ((bytes : List ℕ) → Decided A (gives bytes))
    → Known A (λ files. Then (GivesBytes files name position) gives)
file_known name position gives decided = record {
  never = λ files. then_never (GivesBytes files name position) gives (bytes_never files name position) (λ bytes read. (decided bytes).never);
  one = λ files. then_one (GivesBytes (Some files) name position) gives (bytes_one files name position) (λ bytes. (decided bytes).one);
}

march_known : (name : List ℕ) (position : ℕ) → Known (List MarchElement) (λ files. FileMarch files name position)
unfolding FileMarch
march_known name position = file_known name position GivesMarch march_decided

memory_known : (name : List ℕ) (position : ℕ) → Known Description (λ files. FileMemory files name position)
unfolding FileMemory
memory_known name position = file_known name position GivesMemory memory_decided

pub march_settles : {Says : Type 0} (files : Option Files) (words : Words) (position : ℕ) → Settles (List MarchElement) Says (IsTold files) (InputMarch files words position)
march_settles files words position = known_settles files (λ f. FileMarch f (word words position) position) (march_known (word words position) position)

pub memory_settles : {Says : Type 0} (files : Option Files) (words : Words) (position : ℕ) → Settles Description Says (IsTold files) (InputMemory files words position)
memory_settles files words position = known_settles files (λ f. FileMemory f (word words position) position) (memory_known (word words position) position)

pub list_settles : {Says : Type 0} (files : Option Files) (words : Words) (position : ℕ) → Settles (List Item) Says (IsTold files) (InputList files words position)
unfolding InputList
list_settles files words position =
    known_settles files (λ f. Then (GivesBytes f (word words position) position) GivesList) (file_known (word words position) position GivesList list_decided)

pub chip_settles : {Says : Type 0} (files : Option Files) (words : Words) (position : ℕ) → Settles ChipDescription Says (IsTold files) (InputChip files words position)
unfolding InputChip
chip_settles files words position =
    known_settles files (λ f. Then (GivesBytes f (word words position) position) GivesChip) (file_known (word words position) position GivesChip chip_decided)

pub prim_settles : {Says Told : Type 0} (text : List ℕ) → Settles Primitive Says Told (GivesPrim text)
prim_settles text = outcome_settles (GivesPrim text) (prim_decided text).never (prim_decided text).one

-- ---- the files of a unit

-- a unit's refusal is as settled as its input's own
own_settled : (unit : ℕ) (e : Refusal) → IsSettledRefusal (in_unit unit e) → IsSettledRefusal e
own_settled unit Refusal.NoMemory h = absurd h
own_settled unit (Refusal.ReadFailed p) h = absurd h
own_settled unit (Refusal.Unit u r) h = h
own_settled unit other h = tt

unit_settled : {A : Type 0} (unit : ℕ) (r own : Result A Refusal) → r ≡ of_unit unit own → IsSettled r → IsSettled own
unit_settled unit r (Ok value) is h = tt
unit_settled {A} unit r (Err e) is h = own_settled unit e (subst (λ (x : Result A Refusal). IsSettled x) is h)

usage_own : (unit : ℕ) (e : Refusal) → Refusal.Usage ≡ in_unit unit e → e ≡ Refusal.Usage
usage_own unit (Refusal.March f) h = cc
usage_own unit (Refusal.Memory f) h = cc
usage_own unit (Refusal.TooLarge p) h = cc
usage_own unit (Refusal.ReadFailed p) h = cc
usage_own unit (Refusal.Absent p) h = cc
usage_own unit other h = sym h

unit_known : {A : Type 0} (unit : ℕ) (check : Option Files → Result A Refusal → Type 0) → Known A check
    → Known A (λ files r. (own : Result A Refusal) × check files own × (r ≡ of_unit unit own))
unit_known {A} unit check known = record { never = never; one = one }
  where
    never : (files : Option Files) → NeverUsage (λ r. (own : Result A Refusal) × check files own × (r ≡ of_unit unit own))
    never files (Ok value, f, is) = not_usage value is
    never files (Err e, f, is) =
        let usage : e ≡ Refusal.Usage = usage_own unit e (same_refusal {A = A} Refusal.Usage (in_unit unit e) is) in
        known.never files (subst (λ (d : Refusal). check files (Err d)) usage f)

    one : (files : Files) → HasOneOutcome (λ r. (own : Result A Refusal) × check (Some files) own × (r ≡ of_unit unit own))
    one files r s (own, f, x) (other, g, y) rs ss =
        x ∙ ap (of_unit unit) (known.one files own other f g (unit_settled unit r own x rs) (unit_settled unit s other y ss)) ∙ sym y

pub unit_march_settles : {Says : Type 0} (files : Option Files) (unit : ℕ) (name : List ℕ) → Settles (List MarchElement) Says (IsTold files) (UnitMarch files unit name)
unfolding UnitMarch
unit_march_settles files unit name = known_settles files (λ f. UnitMarch f unit name) (unit_known unit (λ f. FileMarch f name 1) (march_known name 1))

pub unit_memory_settles : {Says : Type 0} (files : Option Files) (unit : ℕ) (name : List ℕ) → Settles Description Says (IsTold files) (UnitMemory files unit name)
unfolding UnitMemory
unit_memory_settles files unit name = known_settles files (λ f. UnitMemory f unit name) (unit_known unit (λ f. FileMemory f name 2) (memory_known name 2))
