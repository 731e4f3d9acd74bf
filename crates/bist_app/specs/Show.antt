-- Trusted. The command `show KIND FILE`: its shape, its checks in their order, and what it leaves. It says in one form what was read in a file.
use Rattle.std.specs.Prelude.{◌≡◌, ◌++◌, ℕ, List, [], Option, Some, None, Result, true, false, length, codes, decimal, bytes_eq, if◌then◌else◌}
use Rattle.std.specs.List.{flat_map}
use Rattle.bist_host.specs.Files.{Files}
use Rattle.chip_desc.specs.Chips.{ChipDescription, UnitDescription}
use Rattle.memory_desc.specs.Printed.{printed}
use Rattle.fault_syntax.specs.Printed.{printed as printed_static}
use Rattle.dynamic_core.specs.declared.item.Item.{Item}
use Rattle.dynamic_core.specs.declared.item.Item.TheVariants.{Plain, Dyn}
use Rattle.dynamic_core.specs.Printed.{printed_dynamic}
use Rattle.made_inputs.specs.MadeMarch.{line_of}
use Rattle.verilog_tree.specs.Plain.{ModuleTree}
use Rattle.verilog_tree.specs.Grammar.{ByPrecedence}
use Rattle.verilog_tree.specs.Fits.{fits}
use Rattle.verilog_tree.specs.declared.fault.ReadFault.{ReadFault}
use Rattle.verilog_emit.specs.Printed.{printed as printed_module}
use Rattle.bist_endings.specs.declared.ending.Refusal.{Refusal}
use Rattle.bist_endings.specs.Ending.{Done}
use Rattle.bist_endings.specs.declared.ending.VerilogRefusal.{VerilogRefusal}
use Rattle.bist_endings.specs.Then.{Then, OrNoMemory, PassesWhere, SaysOwn}
use Rattle.bist_endings.specs.Words.{Words, word}
use Rattle.bist_inputs.specs.Inputs.{InputMarch, InputList}
use Rattle.bist_inputs.specs.Memories.{InputMemory}
use Rattle.bist_inputs.specs.Chips.{InputChip}
use Rattle.bist_inputs.specs.Designs.{InputModule}
use Rattle.bist_app.specs.declared.show_command.InputKind.{InputKind}
use Rattle.bist_app.specs.Forms.{Form, Row, without_boxes}

-- the kind that a word names
abbrev pub kind_named : List ℕ → Option InputKind
kind_named text =
    if bytes_eq text (codes "march") then Some InputKind.March else
    if bytes_eq text (codes "memory") then Some InputKind.Memory else
    if bytes_eq text (codes "list") then Some InputKind.Faults else
    if bytes_eq text (codes "chip") then Some InputKind.Chip else
    if bytes_eq text (codes "module") then Some InputKind.Module else
    None

abbrev pub IsShowShape : Words → InputKind → Type 0
IsShowShape words kind = kind_named (word words 1) ≡ Some kind

-- ---- the texts

-- a primitive, on a line of its own
abbrev pub item_line : Item → List ℕ
item_line (Plain p) = printed_static p ++ codes "\n"
item_line (Dyn p) = printed_dynamic p ++ codes "\n"

-- how many primitives there are, as a comment
abbrev pub count_line : ℕ → List ℕ
count_line count = codes "# primitives " ++ decimal count ++ codes "\n"

-- the primitives of a list; names stand for those of their class
abbrev pub list_text : List Item → List ℕ
list_text items = count_line (length items) ++ flat_map item_line items

abbrev pub unit_line : UnitDescription → List ℕ
unit_line u = (codes "unit " ++ decimal u.weight ++ codes " ") ++ (u.march ++ codes " ") ++ (u.memory ++ codes "\n")

abbrev pub chip_head : ChipDescription → List ℕ
chip_head chip = (codes "chip 1\nname " ++ chip.name ++ codes "\nbudget ") ++ (decimal chip.budget ++ codes "\n")

abbrev pub chip_text : ChipDescription → List ℕ
chip_text chip = chip_head chip ++ flat_map unit_line chip.units

-- ---- what is left

-- the text is said, and no file is written
abbrev pub shown : List ℕ → Done
shown text = record { found = false; outputs = []; line = text }

unfoldable pub LeavesShown : List ℕ → Result Done Refusal → Type 0
LeavesShown text = OrNoMemory (λ done. done ≡ shown text)

-- a module is said where its text, in full parentheses, opens at most 64 at once
abbrev pub FitsText : ModuleTree → Result (Unit {0}) Refusal → Type 0
FitsText mo = PassesWhere (fits mo ≡ true) (Refusal.Verilog (VerilogRefusal.Read (ReadFault.TooDeep 0)))

abbrev pub ShowsModule : ModuleTree → Result Done Refusal → Type 0
ShowsModule mo = Then (FitsText mo) (λ _. LeavesShown (printed_module mo))

-- the check of the file, and what is said of it
abbrev pub ShowsKind : Option Files → Words → InputKind → Result Done Refusal → Type 0
ShowsKind files words InputKind.March = Then (InputMarch files words 2) (λ march. LeavesShown (line_of march))
ShowsKind files words InputKind.Memory = Then (InputMemory files words 2) (λ d. LeavesShown (printed d))
ShowsKind files words InputKind.Faults = Then (InputList files words 2) (λ items. LeavesShown (list_text items))
ShowsKind files words InputKind.Chip = Then (InputChip files words 2) (λ chip. LeavesShown (chip_text chip))
ShowsKind files words InputKind.Module = Then (InputModule ByPrecedence files words 2) ShowsModule

-- the checks of `show` in their order
abbrev pub DecidesShow : Option Files → Words → Result Done Refusal → Type 0
DecidesShow files words = Then (SaysOwn (IsShowShape words)) (ShowsKind files words)

-- ---- the row

abbrev pub show_form : Form
show_form = record { name = codes "show"; count = 3; first = 2; last = 3 }

abbrev pub show_row : Row
show_row = record (without_boxes show_form DecidesShow) { says = λ words. (kind : InputKind) × IsShowShape words kind }
