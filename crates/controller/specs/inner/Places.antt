-- Inner. For proofs and private contracts alone, beside Places: what the port does at the places of a march's run on a memory.
use Rattle.std.specs.Prelude.{ℕ, List, Option}
use Rattle.march_core.specs.March.{MarchElement}
use Rattle.memory_desc.specs.Descriptions.{Description}
use Rattle.word_march.specs.declared.operations.PortOp.{PortOp}
use Rattle.microcode.specs.Places.{Place, Lasts, visits_of as visits_in, visits_at as visits_within, lasts_at as lasts_within, element_slots as element_rows, run_slots as run_rows}
use Rattle.microcode.specs.inner.Places.{all_slots as all_rows}
use Rattle.controller.specs.Places.{extent_of, slot_at}

-- ---- the march by numbers

abbrev pub visits_of : Description → MarchElement → ℕ
visits_of d x = visits_in (extent_of d) x

abbrev pub visits_at : List MarchElement → Description → ℕ → ℕ
visits_at march d e = visits_within march (extent_of d) e

-- ---- the places

abbrev pub lasts_at : List MarchElement → Description → Place → Lasts
lasts_at march d p = lasts_within march (extent_of d) p

-- ---- what the port does in the run, and what is left of it from a place on

abbrev pub element_slots : List MarchElement → Description → ℕ → ℕ → List (Option PortOp)
element_slots march d b e = element_rows (slot_at march d) march (extent_of d) b e

abbrev pub run_slots : List MarchElement → Description → ℕ → List (Option PortOp)
run_slots march d b = run_rows (slot_at march d) march (extent_of d) b

abbrev pub all_slots : List MarchElement → Description → List (Option PortOp)
all_slots march d = all_rows (slot_at march d) march (extent_of d)
