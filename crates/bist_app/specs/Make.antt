-- Trusted. The command `make NUMBER MARCH MEMORY FAULTS VERILOG REPORT`: its shape, and what it leaves. It reads no file: a number makes a
-- large march, memory and list, which are written, compiled and counted.
use Rattle.std.specs.Prelude.{◌≡◌, ◌≤◌, ◌++◌, ℕ, List, [], ◌∷◌, Some, Result, Ok, length, codes, decimal, take, drop}
use Rattle.march_core.specs.March.{MarchElement, all_ops}
use Rattle.march_syntax.specs.Answers.{Reads as ReadsMarch}
use Rattle.memory_desc.specs.Descriptions.{Description, IsMemory}
use Rattle.memory_desc.specs.Printed.{printed}
use Rattle.memory_desc.specs.Table.{Reads as ReadsMemory}
use Rattle.dynamic_core.specs.declared.item.Item.{Item}
use Rattle.dynamic_core.specs.Items.{ReadsItems}
use Rattle.word_march.specs.Commands.{command_count}
use Rattle.report.specs.Report.{DetectsOf}
use Rattle.made_inputs.specs.MadeMarch.{made_march, line_of}
use Rattle.made_inputs.specs.MadeMemory.{IsMadeMemory}
use Rattle.made_inputs.specs.MadeList.{made_text, made_items}
use Rattle.bist_endings.specs.declared.ending.Refusal.{Refusal}
use Rattle.bist_endings.specs.Ending.{Done, Written}
use Rattle.bist_endings.specs.Words.{Words, word, IsNumber}
use Rattle.bist_app.specs.Forms.{Form, Row}
use Rattle.bist_app.specs.Compile.{IsSelfTestText}
use Rattle.bist_app.specs.Reported.{Reports}
use Rattle.bist_endings.specs.Then.{Then, OrNoMemory, SaysOwn}

-- this is the number that the words say; a memory of two words more is the largest that there is
pub record IsMakeShape (words : Words) (number : ℕ) : Type 0 where
  pub says : IsNumber (word words 1) number
  pub most : number ≤ 65534

-- the files in their order: the march, the memory, the list, the module and the report
abbrev pub made_outputs : List ℕ → List ℕ → List ℕ → List ℕ → List ℕ → List Written
made_outputs march memory listed text bytes =
    (record { position = 2; bytes = march })
    ∷ (record { position = 3; bytes = memory })
    ∷ (record { position = 4; bytes = listed })
    ∷ (record { position = 5; bytes = text })
    ∷ (record { position = 6; bytes = bytes })
    ∷ []

-- how many elements and operations the march has, and how many commands its test gives the memory
abbrev pub sizes_text : ℕ → ℕ → ℕ → List ℕ
sizes_text elements operations commands =
    codes "made elements " ++ decimal elements ++ codes " operations " ++ decimal operations ++ codes " commands " ++ decimal commands

-- how many of how many primitives the march detects
abbrev pub covered_text : ℕ → ℕ → List ℕ
covered_text covered count = codes " covered " ++ decimal covered ++ codes " of " ++ decimal count ++ codes "\n"

abbrev pub made_line : ℕ → ℕ → ℕ → ℕ → ℕ → List ℕ
made_line elements operations commands covered count = sizes_text elements operations commands ++ covered_text covered count

-- Three files have texts that are read as the march, the memory and the list. The other two are what `compile` writes for these:
-- the text of a self-test module, and the report.
pub record IsMadeOf (march : List MarchElement) (d : Description) (items : List Item) (listed : List ℕ) (done : Done) : Type 0 where
  pub march_reads : ReadsMarch (line_of march) (Ok march)
  pub memory_reads : ReadsMemory (printed d) (Ok d)
  pub memory : IsMemory d
  pub list_reads : ReadsItems listed (Ok items)
  pub text : List ℕ
  pub tests : IsSelfTestText march d text
  pub bytes : List ℕ
  pub last : List ℕ
  pub reports : Reports march (Some d) items done.found bytes last
  pub covered : ℕ
  pub detects : DetectsOf march items covered
  pub outputs : done.outputs ≡ made_outputs (line_of march) (printed d) listed text bytes
  pub line : done.line ≡ made_line (length march) (length (all_ops march)) (command_count march d) covered (length items)

-- and these are the inputs of the number
abbrev pub IsMade : ℕ → Done → Type 0
IsMade number done = (d : Description) × IsMadeMemory number d × IsMadeOf (made_march number) d made_items made_text done

unfoldable pub LeavesMake : ℕ → Result Done Refusal → Type 0
LeavesMake number = OrNoMemory (IsMade number)

-- the check of `make`, and what it leaves
abbrev pub DecidesMake : Words → Result Done Refusal → Type 0
DecidesMake words = Then (SaysOwn (IsMakeShape words)) LeavesMake

-- ---- the row

abbrev pub make_form : Form
make_form = record { name = codes "make"; count = 7; first = 2; last = 7 }

-- all files but the fourth, the text of the module, which is left open
abbrev pub make_row : Row
make_row = record {
  form = make_form;
  says = λ words. (number : ℕ) × IsMakeShape words number;
  decides = λ files boxes left words outcome. DecidesMake words outcome × (left ≡ boxes);
  called_tell = λ boxes. Unit {0};
  settled = λ outputs. take 3 outputs ++ drop 4 outputs;
}
