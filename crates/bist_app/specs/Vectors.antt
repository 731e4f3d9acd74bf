-- Trusted. The command `vectors MARCH MEMORY OUT`: its shape, its checks in their order, and what it leaves.
use Rattle.std.specs.Prelude.{◌≡◌, ◌++◌, ℕ, Bool, true, false, List, [], ◌∷◌, Result, Option, codes, decimal}
use Rattle.std.specs.List.{flat_map}
use Rattle.bist_host.specs.Files.{Files}
use Rattle.bist_text.specs.Numbers.{word_text}
use Rattle.march_core.specs.March.{MarchElement}
use Rattle.memory_desc.specs.Descriptions.{Description}
use Rattle.word_march.specs.declared.operations.PortOp.{PortOp}
use Rattle.word_march.specs.Commands.{port_ops, command_count}
use Rattle.bist_endings.specs.declared.ending.Refusal.{Refusal}
use Rattle.bist_endings.specs.Ending.{Done}
use Rattle.bist_endings.specs.Then.{Then, OrNoMemory}
use Rattle.bist_endings.specs.Words.{Words}
use Rattle.bist_inputs.specs.Inputs.{InputMarch}
use Rattle.bist_inputs.specs.Memories.{InputMemory}
use Rattle.bist_app.specs.Forms.{Form, Row, without_boxes}
use Rattle.bist_app.specs.Shared.{FitsLength}

abbrev pub kind_text : Bool → List ℕ
kind_text true = codes "w "
kind_text false = codes "r "

-- a command's line: whether it writes, its address, and its word in as many digits as the memory's words need
abbrev pub command_line : ℕ → PortOp → List ℕ
command_line bits o = kind_text o.write ++ decimal o.addr ++ codes " " ++ word_text bits o.word ++ codes "\n"

abbrev pub command_lines : ℕ → List PortOp → List ℕ
command_lines bits os = flat_map (command_line bits) os

abbrev pub vectors_line : ℕ → List ℕ
vectors_line count = codes "vectors " ++ decimal count ++ codes "\n"

-- the commands, a line each, in the file that the third word names, and their number
abbrev pub vectors_done : List MarchElement → Description → Done
vectors_done march d = record {
  found = false;
  outputs = (record { position = 3; bytes = command_lines d.bits (port_ops march d) }) ∷ [];
  line = vectors_line (command_count march d);
}

unfoldable pub LeavesVectors : List MarchElement → Description → Result Done Refusal → Type 0
LeavesVectors march d = OrNoMemory (λ done. done ≡ vectors_done march d)

-- the checks of `vectors` in their order
abbrev pub DecidesVectors : Option Files → Words → Result Done Refusal → Type 0
DecidesVectors files words =
    Then (InputMarch files words 1) (λ march.
    Then (InputMemory files words 2) (λ d.
    Then (FitsLength march d) (λ _.
    LeavesVectors march d)))

-- ---- the row

abbrev pub vectors_form : Form
vectors_form = record { name = codes "vectors"; count = 4; first = 1; last = 4 }

abbrev pub vectors_row : Row
vectors_row = without_boxes vectors_form DecidesVectors
