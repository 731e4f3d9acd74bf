-- Trusted. The command `bench MARCH MEMORY`: the self-test module against the first box. Its shape, its checks in their order, and what it leaves.
use Rattle.std.specs.Prelude.{◌≡◌, ◌++◌, ℕ, Bool, true, false, List, [], ◌∷◌, Option, Some, None, Result, codes, decimal, is_some}
use Rattle.bist_host.specs.Files.{Files}
use Rattle.bist_text.specs.Numbers.{word_text}
use Rattle.march_core.specs.March.{MarchElement}
use Rattle.memory_desc.specs.Descriptions.{Description}
use Rattle.word_device.specs.declared.device.Planted.{Planted}
use Rattle.word_device.specs.Ports.{Chip, shape_of, planted_chip}
use Rattle.word_device.specs.Boxes.{Tells, TellsChip, TellsScript, TellsNothing, blank, after_fit, after_plant, after_fill}
use Rattle.word_device.specs.Runs.{run_word}
use Rattle.bench.specs.declared.ending.Seen.{Seen}
use Rattle.bench.specs.Endings.{IsFirstRead}
use Rattle.bench.specs.Laws.{done_at, script_word, IsWrongRead, IsSeenOf}
use Rattle.bist_endings.specs.declared.ending.Refusal.{Refusal}
use Rattle.bist_endings.specs.Ending.{Done}
use Rattle.bist_endings.specs.Words.{Words}
use Rattle.bist_inputs.specs.Inputs.{InputMarch}
use Rattle.bist_inputs.specs.Memories.{InputMemory}
use Rattle.bist_app.specs.Forms.{Form, Row}
use Rattle.bist_app.specs.Shared.{Boxes, FirstTells, FitsLength, HasBox, FitsRoom, LeavesFirst, Before}
use Rattle.bist_endings.specs.Then.{OrNoMemory}

-- what a box tells in which this instance is planted, or nothing
abbrev pub after_planting : Option Planted → Tells → Tells
after_planting None tells = tells
after_planting (Some i) tells = after_plant i tells

-- what a box tells that is fitted with the memory's shape, planted, and filled with zeros
abbrev pub ready : Description → Option Planted → Tells → Tells
ready d planted tells = after_fill (Some (shape_of d)) 0 (after_planting planted (after_fit (shape_of d) tells))

-- ---- what is seen of the run

-- the chip that is benched: all words 0, and nothing planted, or this instance, with the words closed
abbrev pub benched_chip : Description → Option Planted → Chip
benched_chip d None = blank (shape_of d)
benched_chip d (Some i) = planted_chip i (blank (shape_of d))

-- The first read that isn't answered by its expected word. Of a chip it is told by what the chip alone answers to the march's
-- commands, one after another; of a script by its answers, the first of which stands on `rdata` in cycle 1. Of a box that tells
-- neither it is some read of the march with another word.
abbrev pub IsSeen : List MarchElement → Description → Option Planted → Tells → Option Seen → Type 0
IsSeen march d planted (TellsChip chip) seen = IsFirstRead march d (run_word march d (benched_chip d planted)) seen
IsSeen march d planted (TellsScript script) seen = IsFirstRead march d (script_word march d script) seen
IsSeen march d planted TellsNothing seen = IsWrongRead march d seen

-- ---- the line

abbrev pub done_text : Option ℕ → List ℕ
done_text None = codes "none"
done_text (Some cycle) = decimal cycle

abbrev pub seen_text : ℕ → Option Seen → List ℕ
seen_text bits None = []
seen_text bits (Some seen) =
    codes " cycle " ++ decimal seen.cycle ++ codes " expected " ++ word_text bits seen.expected ++ codes " returned "
    ++ word_text bits seen.returned

abbrev pub fail_text : Bool → List ℕ
fail_text false = codes "fail 0 done "
fail_text true = codes "fail 1 done "

-- whether `fail` is 1 at the end, the first cycle with `done`, and the first read that differs
abbrev pub bench_line : ℕ → Bool → Option ℕ → Option Seen → List ℕ
bench_line bits failed done_in seen =
    fail_text failed ++ done_text done_in ++ seen_text bits seen ++ codes "\n"

-- no file, and the line
abbrev pub benched_done : ℕ → Bool → Option ℕ → Option Seen → Done
benched_done bits failed done_in seen = record { found = failed; outputs = []; line = bench_line bits failed done_in seen }

-- ---- what the command leaves

-- a run beside a box that tells this at its beginning
pub record IsRun (march : List MarchElement) (d : Description) (tells : Tells) (done : Done) : Type 0 where
  pub seen : Option Seen
  pub is_seen : IsSeenOf march d tells seen
  pub read : IsWrongRead march d seen
  pub done_is : done ≡ benched_done d.bits (is_some seen) (Some (done_at march d)) seen

-- the status is 1 exactly where a read differs, and the line says which
pub record IsBenched (march : List MarchElement) (d : Description) (planted : Option Planted) (tells : Tells) (done : Done) : Type 0 where
  pub seen : Option Seen
  pub is_seen : IsSeen march d planted tells seen
  pub found : done.found ≡ is_some seen
  pub line : done.line ≡ bench_line d.bits (is_some seen) (Some (done_at march d)) seen
  pub outputs : done.outputs ≡ []

-- with nothing planted; a box that tells its chip is a sound memory, and beside it nothing is found
pub record IsSoundBenched (march : List MarchElement) (d : Description) (tells : Tells) (done : Done) : Type 0 where
  pub benched : IsBenched march d None tells done
  pub passes : (chip : Chip) → tells ≡ TellsChip chip → done.found ≡ false

unfoldable pub LeavesBench : List MarchElement → Description → Boxes → Result Done Refusal → Type 0
LeavesBench march d [] result = ⊥
LeavesBench march d (box ∷ boxes) result = OrNoMemory (IsSoundBenched march d box.tells) result

-- the checks behind the inputs, in their order, and the run
abbrev pub TestsBench : List MarchElement → Description → Boxes → Boxes → Result Done Refusal → Type 0
TestsBench march d boxes left =
    Before boxes left (FitsLength march d) (λ _.
    Before boxes left (HasBox boxes) (λ _.
    Before boxes left (FitsRoom d boxes) (λ _ outcome.
    LeavesBench march d boxes outcome × LeavesFirst boxes left outcome)))

-- the checks of `bench` in their order
abbrev pub DecidesBench : Option Files → Boxes → Boxes → Words → Result Done Refusal → Type 0
DecidesBench files boxes left words =
    Before boxes left (InputMarch files words 1) (λ march.
    Before boxes left (InputMemory files words 2) (λ d.
    TestsBench march d boxes left))

-- ---- the row

abbrev pub bench_form : Form
bench_form = record { name = codes "bench"; count = 3; first = 1; last = 3 }

abbrev pub bench_row : Row
bench_row = record {
  form = bench_form;
  says = λ words. Unit {0};
  decides = λ files boxes left words outcome. DecidesBench files boxes left words outcome;
  called_tell = λ boxes. FirstTells boxes;
  settled = λ outputs. outputs;
}
