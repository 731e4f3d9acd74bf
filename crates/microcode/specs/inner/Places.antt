-- Inner. For proofs and private contracts alone, beside Places: places in the run of a march, by four digits, and what is left from one of them on.
use Rattle.std.specs.Prelude.{◌-◌, List}
use Rattle.march_core.specs.March.{MarchElement}
use Rattle.microcode.specs.declared.place.Extent.{Extent}
use Rattle.microcode.specs.Rows.{rows}
use Rattle.microcode.specs.Places.{Place, run_slots}

-- ---- what is done at the places, as lists of lists of lists of lists

abbrev pub all_slots : {A : Type 0} → (Place → A) → List MarchElement → Extent → List A
all_slots slot march g = rows (run_slots slot march g) 0 g.runs
