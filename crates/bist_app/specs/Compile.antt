-- Trusted. The command `compile MARCH MEMORY FAULTS VERILOG REPORT`: its shape, its checks in their order, and what it leaves. This is
-- what the program is for: the written bytes are the text of one module, which tests the described memory by the march whatever its
-- registers hold at first and whatever words return; and the report says of each item of the list whether the march detects it in
-- arrays of every size, or gives its least escape.
use Rattle.std.specs.Prelude.{◌≡◌, ℕ, List, [], ◌∷◌, Option, Some, Result, codes, drop}
use Rattle.bist_host.specs.Files.{Files}
use Rattle.march_core.specs.March.{MarchElement}
use Rattle.dynamic_core.specs.declared.item.Item.{Item}
use Rattle.memory_desc.specs.Descriptions.{Description}
use Rattle.verilog_tree.specs.Plain.{ModuleTree}
use Rattle.verilog_tree.specs.Spells.{Spells, FreelySpells}
use Rattle.verilog_emit.specs.Written.{IsTextOf}
use Rattle.self_test.specs.SelfTest.{SelfTest}
use Rattle.self_test.specs.Expected.{ShowsExpected}
use Rattle.self_test.specs.Numbers.{ShowsNumbers}
use Rattle.word_march.specs.Commands.{cycle_count}
use Rattle.port_check.specs.declared.answer.PortAnswer.{PortAnswer}
use Rattle.port_check.specs.Answers.{IsAnswer}
use Rattle.bist_endings.specs.declared.ending.Refusal.{Refusal}
use Rattle.bist_endings.specs.Ending.{Done}
use Rattle.bist_endings.specs.Then.{Then, OrNoMemory}
use Rattle.bist_endings.specs.Words.{Words}
use Rattle.bist_inputs.specs.Inputs.{InputMarch, InputList}
use Rattle.bist_inputs.specs.Memories.{InputMemory}
use Rattle.bist_app.specs.Reported.{Reports}
use Rattle.bist_app.specs.Forms.{Form, Row, without_boxes}

-- The bytes are the text of a module and of no other, and spell it and no other, as the readers of modules take them, with all parentheses or
-- with operators that bind by precedence. It is a self-test of the memory by the march, and shows on `wdata` what each read expects. Where its
-- registers are open at first, and `rdata` but where the answer of a read stands there, it shows numbers behind the reset, and in it on `en`,
-- `done` and `fail`. The answer of its open run, by which `check` tells, is that it conforms, and no other.
pub record IsSelfTestText (march : List MarchElement) (d : Description) (text : List ℕ) : Type 0 where
  pub tree : ModuleTree
  pub is_text : IsTextOf text tree
  pub one_tree : (other : ModuleTree) → IsTextOf text other → other ≡ tree
  pub spells : Spells text tree
  pub no_other : (other : ModuleTree) → Spells text other → other ≡ tree
  pub freely : FreelySpells text tree
  pub freely_no_other : (other : ModuleTree) → FreelySpells text other → other ≡ tree
  pub self_test : SelfTest tree march d
  pub expected : ShowsExpected tree march d
  pub numbers : ShowsNumbers tree march d
  pub conforms : IsAnswer tree march d (PortAnswer.Conforms (cycle_count march d))
  pub conforms_alone : (other : PortAnswer) → IsAnswer tree march d other → other ≡ PortAnswer.Conforms (cycle_count march d)

-- The file that the fourth word names has the module's text, and that of the fifth word the report of the list, whose last
-- line is said.
pub record IsCompiled (march : List MarchElement) (d : Description) (items : List Item) (done : Done) : Type 0 where
  pub text : List ℕ
  pub bytes : List ℕ
  pub tests : IsSelfTestText march d text
  pub reports : Reports march (Some d) items done.found bytes done.line
  pub outputs : done.outputs ≡ (record { position = 4; bytes = text }) ∷ (record { position = 5; bytes = bytes }) ∷ []

unfoldable pub LeavesCompile : List MarchElement → Description → List Item → Result Done Refusal → Type 0
LeavesCompile march d items = OrNoMemory (IsCompiled march d items)

-- the checks of `compile` in their order
abbrev pub DecidesCompile : Option Files → Words → Result Done Refusal → Type 0
DecidesCompile files words =
    Then (InputMarch files words 1) (λ march.
    Then (InputMemory files words 2) (λ d.
    Then (InputList files words 3) (λ items.
    LeavesCompile march d items)))

-- ---- the row

abbrev pub compile_form : Form
compile_form = record { name = codes "compile"; count = 6; first = 1; last = 6 }

-- the text of the module is left open
abbrev pub compile_row : Row
compile_row = record (without_boxes compile_form DecidesCompile) { settled = λ outputs. drop 1 outputs }
