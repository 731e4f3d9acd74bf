-- Trusted. What is written and said of items: the report, its last line, and whether something escapes.
use Rattle.std.specs.Prelude.{ℕ, Bool, List, Option}
use Rattle.march_core.specs.March.{MarchElement}
use Rattle.memory_desc.specs.Descriptions.{Description}
use Rattle.dynamic_core.specs.declared.item.Item.{Item}
use Rattle.report.specs.Items.{DetectsItem}
use Rattle.report.specs.Report.{IsMixedReport}
use Rattle.report_lines.specs.Listed.{SomeLacks, ReportsOf}

-- some item of the list isn't detected, or each is
abbrev pub SomeEscapes : List MarchElement → List Item → Bool → Type 0
SomeEscapes march items escapes = SomeLacks (DetectsItem march) items escapes

-- the report of a list, its last line, and whether some item escapes
abbrev pub Reports : List MarchElement → Option Description → List Item → Bool → List ℕ → List ℕ → Type 0
Reports march memory items = ReportsOf (λ bytes. IsMixedReport bytes march memory items) (DetectsItem march) items
