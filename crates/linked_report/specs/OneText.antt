-- Public. That the bytes of a report on linked faults are determined.
use Rattle.std.specs.Prelude.{◌≡◌, ℕ, List}
use Rattle.march_core.specs.March.{MarchElement}
use Rattle.linked_report.specs.Report.{IsLinkedReport}

-- two texts that are the report of one march are the same
abbrev pub OneLinkedText : Type 0
OneLinkedText = (march : List MarchElement) (text other : List ℕ) → IsLinkedReport text march → IsLinkedReport other march → text ≡ other
