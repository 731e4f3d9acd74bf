-- Trusted. The lines that reports share: the march, the memory, the total; a primitive with its class, where an instance stands, what the
-- cells hold, and the directions of a march. A line ends with a line feed.
use Rattle.std.specs.Prelude.{◌-◌, ◌++◌, ℕ, Bool, Option, Some, None, List, [], length, codes, decimal}
use Rattle.std.specs.List.{flat_map}
use Rattle.fault_core.specs.Primitive.{Primitive}
use Rattle.fault_core.specs.Classes.{class_by_parts}
use Rattle.fault_syntax.specs.Names.{class_text}
use Rattle.fault_syntax.specs.PrimText.{bit_text}
use Rattle.fault_syntax.specs.Printed.{printed as printed_prim}
use Rattle.march_core.specs.March.{MarchElement}
use Rattle.march_core.specs.Visits.{Direction, Upward, Downward, directions_of}
use Rattle.march_syntax.specs.Printed.{printed}
use Rattle.memory_desc.specs.Descriptions.{Description}
use Rattle.word_march.specs.Commands.{command_count}

-- the line of the march
abbrev pub march_line : List MarchElement → List ℕ
march_line march = codes "march " ++ printed march ++ codes "\n"

-- a memory's name and size
abbrev pub size_text : Description → List ℕ
size_text d = codes "memory " ++ d.name ++ codes " words " ++ decimal d.words ++ codes " bits " ++ decimal d.bits

-- how often the march runs on it, and with how many commands in all
abbrev pub work_text : List MarchElement → Description → List ℕ
work_text march d = codes " backgrounds " ++ decimal (length d.backgrounds) ++ codes " commands " ++ decimal (command_count march d)

-- the line of the memory, where there is one
abbrev pub memory_line : List MarchElement → Option Description → List ℕ
memory_line march None = []
memory_line march (Some d) = size_text d ++ work_text march d ++ codes "\n"

-- the number of items, and how many of them are covered
abbrev pub total_line : ℕ → ℕ → List ℕ
total_line count covered =
    codes "total " ++ decimal count ++ codes " covered " ++ decimal covered ++ codes " escapes " ++ decimal (count - covered) ++ codes "\n"

-- a static primitive and its class
abbrev pub prim_text : Primitive → List ℕ
prim_text p = printed_prim p ++ codes " " ++ class_text (class_by_parts p)

abbrev pub aggressor_text : Option ℕ → List ℕ
aggressor_text None = codes "none"
aggressor_text (Some a) = decimal a

-- where an instance stands
abbrev pub places_text : Option ℕ → ℕ → List ℕ
places_text agg vic = codes " aggressor " ++ aggressor_text agg ++ codes " victim " ++ decimal vic

-- a digit for each cell, cell 0 first
abbrev pub content_text : List Bool → List ℕ
content_text content = flat_map bit_text content

abbrev pub letter : Direction → List ℕ
letter Upward = codes "u"
letter Downward = codes "d"

-- a letter for each element
unfoldable pub directions_text : ℕ → ℕ → List ℕ
directions_text word size = flat_map letter (directions_of word size)

-- what an array holds, and the directions in which the march passes
abbrev pub passing_text : ℕ → List Bool → ℕ → List ℕ
passing_text size content directions = codes " content " ++ content_text content ++ codes " directions " ++ directions_text directions size
