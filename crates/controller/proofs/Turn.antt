-- The places of a run on a memory.
use Rattle.std.proofs.Common.{◌≡◌, ℕ, ◌+◌, ◌<◌, List, length, slice_get, Some, arith}
use Rattle.march_core.specs.March.{MarchElement, element_at, IsMarch}
use Rattle.memory_desc.specs.Descriptions.{Description, IsMemory}
use Rattle.microcode.specs.declared.code.Instr.{Instr}
use Rattle.microcode.specs.declared.place.CodePlace.{CodePlace}
use Rattle.microcode.specs.Code.{opers_at, instr_of}
use Rattle.microcode.specs.Places.{Place, IsExtent, first_place}
use Rattle.microcode.proofs.Turn.{turns as turns_within, all_starts as all_starts_within, visits_some as visits_some_within}
use Rattle.microcode.proofs.Behind.{within as within_code, is_instr as is_instr_within}
use Rattle.controller.specs.Places.{extent_of, IsPlace, slot_at, rest, Turns}
use Rattle.controller.specs.inner.Places.{visits_at, all_slots}
use Rattle.controller.specs.Running.{IsAt}

pub extent_is : (d : Description) → IsMemory d → IsExtent (extent_of d)
extent_is d m =
    let low = m.words_low in
    record { words = omega arith; pause = m.pause_low; runs = m.tested.some }

pub turns : (march : List MarchElement) (d : Description) (p : Place) → IsMarch march → IsMemory d → IsPlace march d p → Turns march d p
turns march d p m n h = turns_within (slot_at march d) march (extent_of d) p m (extent_is d n) h

pub visits_some : (march : List MarchElement) (d : Description) (e : ℕ) → IsMemory d → 0 < visits_at march d e
visits_some march d e n = visits_some_within march (extent_of d) e (extent_is d n)

pub all_starts : (march : List MarchElement) (d : Description) → ((e : ℕ) → 0 < opers_at march e) → ((e : ℕ) → 0 < visits_at march d e)
    → 0 < length march → 0 < length d.backgrounds → all_slots march d ≡ rest march d first_place
all_starts march d opers visits some set = all_starts_within (slot_at march d) march (extent_of d) opers visits some set

pub is_instr : (march : List MarchElement) (d : Description) (code : List Instr) (p : CodePlace) (i : Instr) → IsMemory d → IsAt march code d p
    → slice_get code (p.first + p.oper) ≡ Some i → i ≡ instr_of (element_at march p.element) p.oper
is_instr march d code p i m at there = is_instr_within march (extent_of d) code p i (extent_is d m) at there

pub within : (march : List MarchElement) (d : Description) (code : List Instr) (p : CodePlace) → IsAt march code d p → p.first + p.oper < length code
within march d code p at = within_code march (extent_of d) code p at
