-- Trusted. The top call: what the words ask for, decided, and ended.
use Rattle.std.specs.Prelude.{◌≡◌, ℕ, List, codes, bytes_eq, if◌then◌else◌, Option, Some, None, Result, Err, MatchOption}
use Rattle.bist_host.specs.Files.{Files, HostState}
use Rattle.bist_endings.specs.declared.ending.Refusal.{Refusal}
use Rattle.bist_app.specs.declared.commands.Command.{Command}
use Rattle.bist_endings.specs.Ending.{Done}
use Rattle.bist_endings.specs.Words.{Words}
use Rattle.bist_inputs.specs.Inputs.{HasCause}
use Rattle.bist_endings.specs.Conclude.{Ends}
use Rattle.bist_app.specs.Shared.{Boxes}
use Rattle.bist_app.specs.Forms.{HasForm, Row}
use Rattle.bist_app.specs.Sim.{sim_row}
use Rattle.bist_app.specs.Judge.{judge_row}
use Rattle.bist_app.specs.Decoder.{decoder_row}
use Rattle.bist_app.specs.Linked.{linked_row}
use Rattle.bist_app.specs.Vectors.{vectors_row}
use Rattle.bist_app.specs.Compile.{compile_row}
use Rattle.bist_app.specs.InWord.{in_word_row}
use Rattle.bist_app.specs.Make.{make_row}
use Rattle.bist_app.specs.Bench.{bench_row}
use Rattle.bist_app.specs.BenchFile.{bench_file_row}
use Rattle.bist_app.specs.BenchFault.{bench_fault_row}
use Rattle.bist_app.specs.BenchAll.{bench_all_row}
use Rattle.bist_app.specs.Check.{check_row}
use Rattle.bist_app.specs.Chip.{chip_row}
use Rattle.bist_app.specs.Show.{show_row}

-- the table of the commands
abbrev pub row_of : Command → Row
row_of Command.Sim = sim_row
row_of Command.Judge = judge_row
row_of Command.Decoder = decoder_row
row_of Command.Linked = linked_row
row_of Command.Vectors = vectors_row
row_of Command.Compile = compile_row
row_of Command.InWord = in_word_row
row_of Command.Make = make_row
row_of Command.Bench = bench_row
row_of Command.BenchFile = bench_file_row
row_of Command.BenchFault = bench_fault_row
row_of Command.BenchAll = bench_all_row
row_of Command.Check = check_row
row_of Command.Chip = chip_row
row_of Command.Show = show_row

-- for private contracts alone: the command of a name
abbrev pub command_named : List ℕ → Option Command
command_named text =
    if bytes_eq text (codes "sim") then Some Command.Sim else
    if bytes_eq text (codes "judge") then Some Command.Judge else
    if bytes_eq text (codes "decoder") then Some Command.Decoder else
    if bytes_eq text (codes "linked") then Some Command.Linked else
    if bytes_eq text (codes "vectors") then Some Command.Vectors else
    if bytes_eq text (codes "compile") then Some Command.Compile else
    if bytes_eq text (codes "inword") then Some Command.InWord else
    if bytes_eq text (codes "make") then Some Command.Make else
    if bytes_eq text (codes "bench") then Some Command.Bench else
    if bytes_eq text (codes "benchfile") then Some Command.BenchFile else
    if bytes_eq text (codes "benchfault") then Some Command.BenchFault else
    if bytes_eq text (codes "benchall") then Some Command.BenchAll else
    if bytes_eq text (codes "check") then Some Command.Check else
    if bytes_eq text (codes "chip") then Some Command.Chip else
    if bytes_eq text (codes "show") then Some Command.Show else
    None

-- the words have the form of this command
abbrev pub IsFormed : Words → Command → Type 0
IsFormed words command = HasForm (row_of command).form words

-- the words have the form of no command
abbrev pub HasNoForm : Words → Type 0
HasNoForm words = (command : Command) → IsFormed words command → ⊥

-- the words have the shape of this command: its form, and its own words say something
abbrev pub HasShape : Words → Command → Type 0
HasShape words command = IsFormed words command × (row_of command).says words

-- the words have no shape
abbrev pub HasNoShape : Words → Type 0
HasNoShape words = (command : Command) → HasShape words command → ⊥

-- the checks of this command, and what it leaves of files, lines and boxes
abbrev pub DecidesCommand : Option Files → Boxes → Boxes → Words → Command → Result Done Refusal → Type 0
DecidesCommand files boxes left words command outcome = (row_of command).decides files boxes left words outcome

-- the check of the words' form, and then the command's: the first of them is of what its own words say
abbrev pub Decides : Option Files → Boxes → Boxes → Words → Result Done Refusal → Type 0
Decides files boxes left words outcome =
    (command : Option Command) × MatchOption command
    (HasNoForm words × (outcome ≡ Err Refusal.Usage) × (left ≡ boxes))
    (λ command. IsFormed words command × DecidesCommand files boxes left words command outcome)

-- what a run answers and leaves
abbrev pub Runs : Words → Boxes → Boxes → HostState → HostState → ℕ → Type 0
Runs words boxes left old new status =
    (outcome : Result Done Refusal) × Decides old.files boxes left words outcome × HasCause old new outcome
    × Ends words outcome old new status
