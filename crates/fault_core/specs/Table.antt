-- Trusted. The static unlinked fault primitives of one and of two cells, class by class, in the order in which they are printed.
use Rattle.std.specs.Prelude.{ℕ, zero, suc, Bool, true, false, Option, Some, None, List, [], ◌∷◌, ◌++◌}
use Rattle.fault_core.specs.declared.primitive.Act.TheVariants.{Write, Read, Pause}
use Rattle.fault_core.specs.declared.primitive.Sense.{Sense}
use Rattle.fault_core.specs.declared.table.Class.{Class}
use Rattle.fault_core.specs.declared.table.Class.TheVariants.{SF, TF, WDF, RDF, DRDF, IRF, CFst, CFds, CFtr, CFwd, CFrd, CFdr, CFir, DRF}
use Rattle.fault_core.specs.Primitive.{Primitive}

-- a printed bit
abbrev pub bit : ℕ → Bool
bit zero = false
bit (suc _) = true

-- the sense `x`
abbrev pub holds : ℕ → Sense
holds x = record { state = bit x; act = None }

-- the sense `xwy`
abbrev pub writes : ℕ → ℕ → Sense
writes x y = record { state = bit x; act = Some (Write (bit y)) }

-- the sense `xrx`
abbrev pub reads : ℕ → Sense
reads x = record { state = bit x; act = Some Read }

-- the sense `xt`
abbrev pub waits : ℕ → Sense
waits x = record { state = bit x; act = Some Pause }

-- the answer `-`, of what is no read of the victim
abbrev pub no_answer : Option Bool
no_answer = None

-- the answer of a read
abbrev pub answers : ℕ → Option Bool
answers x = Some (bit x)

-- `<S/F/R>`
abbrev pub alone : Sense → ℕ → Option Bool → Primitive
alone s f r = record { agg = None; vic = s; after = bit f; answer = r }

-- `<A;S/F/R>`, whose aggressor's sense is A
abbrev pub beside : Sense → Sense → ℕ → Option Bool → Primitive
beside a s f r = record { agg = Some a; vic = s; after = bit f; answer = r }

-- the primitives of a class
abbrev pub members_of : Class → List Primitive
-- state faults
members_of SF = alone (holds 0) 1 no_answer ∷ alone (holds 1) 0 no_answer ∷ []
-- transition faults
members_of TF = alone (writes 0 1) 0 no_answer ∷ alone (writes 1 0) 1 no_answer ∷ []
-- write disturb faults
members_of WDF = alone (writes 0 0) 1 no_answer ∷ alone (writes 1 1) 0 no_answer ∷ []
-- read destructive faults
members_of RDF = alone (reads 0) 1 (answers 1) ∷ alone (reads 1) 0 (answers 0) ∷ []
-- deceptive read destructive faults
members_of DRDF = alone (reads 0) 1 (answers 0) ∷ alone (reads 1) 0 (answers 1) ∷ []
-- incorrect read faults
members_of IRF = alone (reads 0) 0 (answers 1) ∷ alone (reads 1) 1 (answers 0) ∷ []
-- state coupling faults
members_of CFst =
    beside (holds 0) (holds 0) 1 no_answer ∷ beside (holds 0) (holds 1) 0 no_answer
    ∷ beside (holds 1) (holds 0) 1 no_answer ∷ beside (holds 1) (holds 1) 0 no_answer ∷ []
-- disturb coupling faults
members_of CFds =
    beside (writes 0 0) (holds 0) 1 no_answer ∷ beside (writes 0 0) (holds 1) 0 no_answer
    ∷ beside (writes 0 1) (holds 0) 1 no_answer ∷ beside (writes 0 1) (holds 1) 0 no_answer
    ∷ beside (writes 1 0) (holds 0) 1 no_answer ∷ beside (writes 1 0) (holds 1) 0 no_answer
    ∷ beside (writes 1 1) (holds 0) 1 no_answer ∷ beside (writes 1 1) (holds 1) 0 no_answer
    ∷ beside (reads 0) (holds 0) 1 no_answer ∷ beside (reads 0) (holds 1) 0 no_answer
    ∷ beside (reads 1) (holds 0) 1 no_answer ∷ beside (reads 1) (holds 1) 0 no_answer ∷ []
-- transition coupling faults
members_of CFtr =
    beside (holds 0) (writes 0 1) 0 no_answer ∷ beside (holds 0) (writes 1 0) 1 no_answer
    ∷ beside (holds 1) (writes 0 1) 0 no_answer ∷ beside (holds 1) (writes 1 0) 1 no_answer ∷ []
-- write disturb coupling faults
members_of CFwd =
    beside (holds 0) (writes 0 0) 1 no_answer ∷ beside (holds 0) (writes 1 1) 0 no_answer
    ∷ beside (holds 1) (writes 0 0) 1 no_answer ∷ beside (holds 1) (writes 1 1) 0 no_answer ∷ []
-- read destructive coupling faults
members_of CFrd =
    beside (holds 0) (reads 0) 1 (answers 1) ∷ beside (holds 0) (reads 1) 0 (answers 0)
    ∷ beside (holds 1) (reads 0) 1 (answers 1) ∷ beside (holds 1) (reads 1) 0 (answers 0) ∷ []
-- deceptive read destructive coupling faults
members_of CFdr =
    beside (holds 0) (reads 0) 1 (answers 0) ∷ beside (holds 0) (reads 1) 0 (answers 1)
    ∷ beside (holds 1) (reads 0) 1 (answers 0) ∷ beside (holds 1) (reads 1) 0 (answers 1) ∷ []
-- incorrect read coupling faults
members_of CFir =
    beside (holds 0) (reads 0) 0 (answers 1) ∷ beside (holds 0) (reads 1) 1 (answers 0)
    ∷ beside (holds 1) (reads 0) 0 (answers 1) ∷ beside (holds 1) (reads 1) 1 (answers 0) ∷ []
-- data retention faults
members_of DRF = alone (waits 0) 1 no_answer ∷ alone (waits 1) 0 no_answer ∷ []

-- the twelve of one cell that need no pause
abbrev pub one_cell_table : List Primitive
one_cell_table = members_of SF ++ members_of TF ++ members_of WDF ++ members_of RDF ++ members_of DRDF ++ members_of IRF

-- the thirty-six of two cells
abbrev pub two_cell_table : List Primitive
two_cell_table =
    members_of CFst ++ members_of CFds ++ members_of CFtr ++ members_of CFwd ++ members_of CFrd ++ members_of CFdr
    ++ members_of CFir

-- the two that lose a state over a pause
abbrev pub retention_table : List Primitive
retention_table = members_of DRF
