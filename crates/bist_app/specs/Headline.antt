-- Trusted. What `compile` comes to where it ends with status 0 or 1 over told files: the answer of the top call, without the order of its checks.
use Rattle.std.specs.Prelude.{◌≡◌, ◌≢◌, ◌≤◌, ℕ, Bool, List, length, Option, Some, IfSome, codes}
use Rattle.std.specs.List.{AllByRecursion}
use Rattle.bist_host.specs.Files.{Files, HostState, Says}
use Rattle.march_core.specs.March.{MarchElement}
use Rattle.array_sim.specs.Detection.{Detects}
use Rattle.march_syntax.specs.Answers.{SpellsMarch}
use Rattle.memory_desc.specs.Descriptions.{Description, IsMemory}
use Rattle.memory_desc.specs.Described.{SpellsMemory}
use Rattle.dynamic_core.specs.declared.item.Item.{Item}
use Rattle.dynamic_core.specs.declared.item.Item.TheVariants.{Plain, Dyn}
use Rattle.dynamic_core.specs.Detecting.{DetectsDyn}
use Rattle.dynamic_core.specs.Items.{SpellsItems}
use Rattle.verilog_tree.specs.Plain.{ModuleTree}
use Rattle.verilog_tree.specs.Spells.{Spells, FreelySpells}
use Rattle.verilog_emit.specs.Written.{IsTextOf}
use Rattle.self_test.specs.SelfTest.{SelfTest}
use Rattle.self_test.specs.Expected.{ShowsExpected}
use Rattle.self_test.specs.Numbers.{ShowsNumbers}
use Rattle.word_march.specs.Commands.{cycle_count}
use Rattle.port_check.specs.declared.answer.PortAnswer.{PortAnswer}
use Rattle.port_check.specs.Answers.{IsAnswer}
use Rattle.word_device.specs.Answers.{EachPlanted}
use Rattle.word_faults.specs.Dynamic.{EachDynamic}
use Rattle.word_faults.specs.Laws.{BeginsAfresh, OfDetectedLinks, OfDetectedDecoders}
use Rattle.word_coupling.specs.Memories.{OfDetectedInWord}
use Rattle.bench.specs.Beside.{PassesBeside, FailsBeside}
use Rattle.report.specs.Report.{IsMixedReport, DetectsOf}
use Rattle.report_lines.specs.Lines.{total_line}
use Rattle.bist_endings.specs.Words.{Words, word}
use Rattle.bist_endings.specs.Ending.{found_status}
use Rattle.bist_inputs.specs.Inputs.{input_limit}
use Rattle.bist_app.specs.Forms.{HasForm}
use Rattle.bist_app.specs.Reported.{SomeEscapes}
use Rattle.bist_app.specs.Compile.{compile_form}

-- this holds of x, and of nothing else
abbrev pub Only : {A : Type 0} → (A → Type 0) → A → Type 0
Only {A} P x = P x × ((other : A) → P other → other ≡ x)

-- the file of this name is there, and this holds of its bytes
abbrev pub FileHas : Files → List ℕ → (List ℕ → Type 0) → Type 0
FileHas files name P = (bytes : List ℕ) × (files name ≡ Some bytes) × P bytes

-- the same of a file that can be an input
abbrev pub InputHas : Files → List ℕ → (List ℕ → Type 0) → Type 0
InputHas files name P = FileHas files name (λ bytes. (length bytes ≤ input_limit) × P bytes)

-- Where the march detects this item, the module fails beside each memory with an instance of it; of a dynamic item, where the background before can't
-- begin it.
abbrev pub FailsWhereDetected : ModuleTree → List MarchElement → Description → Item → Type 0
FailsWhereDetected mo march d (Plain p) = Detects march p → EachPlanted (FailsBeside mo march d) d p
FailsWhereDetected mo march d (Dyn p) = BeginsAfresh p march d → DetectsDyn march p → EachDynamic (FailsBeside mo march d) d p

-- What was read, what was written, and what the module does beside a memory, whatever its registers and the memory hold at first.
pub record IsCompilation (words : Words) (files files' : Files) (said said' : Option (List ℕ)) (status : ℕ) : Type 0 where
  pub shape : HasForm compile_form words
  -- The files MARCH, MEMORY and FAULTS were read as a march, a memory and a list, and spell no others.
  pub march : List MarchElement
  pub memory : Description
  pub is_memory : IsMemory memory
  pub items : List Item
  pub march_text : InputHas files (word words 1) (λ bytes. Only (SpellsMarch bytes) march)
  pub memory_text : InputHas files (word words 2) (λ bytes. Only (SpellsMemory bytes) memory)
  pub list_text : InputHas files (word words 3) (λ bytes. Only (SpellsItems bytes) items)
  -- The module is a self-test of that memory by that march, and `wdata` has what a read expects in the cycle of each.
  pub tree : ModuleTree
  pub self_test : SelfTest tree march memory
  pub expected : ShowsExpected tree march memory
  -- Where nothing is known of its registers at first, nor of `rdata` but where the answer of a read stands there, each output has a number behind the
  -- reset, and in it `en`, `done` and `fail` have 0.
  pub numbers : ShowsNumbers tree march memory
  -- The answer of its open run, by which `check` tells, is that it conforms, and no other.
  pub conforms : Only (IsAnswer tree march memory) (PortAnswer.Conforms (cycle_count march memory))
  -- The bytes of VERILOG are the text of this module and of no other: its layout, with parentheses round each operator and begin and end round each
  -- body, where its names are legal and its literals hold their values.
  pub module_text : FileHas files' (word words 4) (λ bytes. Only (IsTextOf bytes) tree)
  -- Read by the grammar, with all parentheses, they are it and no other; and so with operators that bind by precedence.
  pub spells : FileHas files' (word words 4) (λ bytes. Only (Spells bytes) tree)
  pub freely : FileHas files' (word words 4) (λ bytes. Only (FreelySpells bytes) tree)
  -- Beside each sound memory of the description it ends without `fail`, and every read is right.
  pub passes : PassesBeside tree march memory
  -- It ends with `fail` beside each memory with an instance of an item that the march detects, in one cell or in two of different words;
  pub fails : AllByRecursion (FailsWhereDetected tree march memory) items
  -- beside each with a linked fault that it detects, at bits of different words, of which a pause sets off one primitive at most;
  pub fails_linked : OfDetectedLinks (FailsBeside tree march memory) march memory
  -- beside each whose address decoder has a fault that it detects, whatever else is wrong with that;
  pub fails_decoder : OfDetectedDecoders (FailsBeside tree march memory) march memory
  -- and beside each with an instance at two bits of one word, where `inword` detects the primitive in a reading, and it is found in that reading.
  pub fails_in_word : OfDetectedInWord (FailsBeside tree march memory) march memory
  -- The bytes of REPORT are the report of the list. Some item isn't detected exactly where the status is 1.
  pub report_text : FileHas files' (word words 5) (λ bytes. IsMixedReport bytes march (Some memory) items)
  pub escapes : Bool
  pub found : SomeEscapes march items escapes
  pub status_is : status ≡ found_status escapes
  -- How many items there are and how many are detected was said, and all other files are as before.
  pub covered : ℕ
  pub detects : DetectsOf march items covered
  pub says : Says said said' (total_line (length items) covered)
  pub others : (name : List ℕ) → name ≢ word words 4 → name ≢ word words 5 → files' name ≡ files name

-- The first word is `compile`, the files are told, and the status is 0 or 1: then this stands. Of files that aren't told nothing is said here.
abbrev pub LeavesCompilation : Words → HostState → HostState → ℕ → Type 0
LeavesCompilation words old new status =
    IfSome old.files (λ files.
    word words 0 ≡ codes "compile" → status ≤ 1 → (files' : Files) × (new.files ≡ Some files')
    × IsCompilation words files files' old.said new.said status)
