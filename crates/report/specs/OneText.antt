-- Public. That the bytes of a report are determined.
use Rattle.std.specs.Prelude.{◌≡◌, ℕ, List, Option}
use Rattle.march_core.specs.March.{MarchElement}
use Rattle.memory_desc.specs.Descriptions.{Description}
use Rattle.dynamic_core.specs.declared.item.Item.{Item}
use Rattle.report.specs.Report.{IsMixedReport}

-- two texts that are the report of the same items, of one march and one memory or none, are the same
abbrev pub OneText : Type 0
OneText = (march : List MarchElement) (memory : Option Description) (items : List Item) (text other : List ℕ)
    → IsMixedReport text march memory items → IsMixedReport other march memory items → text ≡ other
