-- Inner. For proofs and private contracts alone, beside Answers: what the text of a primitive is read as: the primitive, or the first refusal.
use Rattle.std.specs.Prelude.{◌≡◌, ℕ, Option, Some, None, Result, Ok, Err}
use Rattle.bist_text.specs.Machine.{Outcome, read, unexpected, truncated}
use Rattle.fault_core.specs.declared.primitive.PrimFault.{PrimFault}
use Rattle.fault_core.specs.declared.primitive.PrimFault.TheVariants.{NotAFault, TooManyOperations}
use Rattle.fault_core.specs.Primitive.{Primitive, IsPrimitive}
use Rattle.fault_syntax.specs.declared.fault.FaultFault.{FaultFault}
use Rattle.fault_syntax.specs.declared.fault.FaultFault.TheVariants.{Unexpected, Truncated, NotAFault as NotAFaultAt, TooManyOperations as TooManyOperationsAt}
use Rattle.fault_syntax.specs.ListText.{Item, Primitive as OnePrimitive, Named}
use Rattle.fault_syntax.specs.Parts.{StandsFor}
use Rattle.fault_syntax.specs.PrimText.{PrimParts}
use Rattle.fault_syntax.specs.Answers.{RefusesAt}

-- a refused primitive, with its line
abbrev pub fault_at : ℕ → PrimFault → FaultFault
fault_at line NotAFault = NotAFaultAt line
fault_at line TooManyOperations = TooManyOperationsAt line

-- what a text on this line is read as
abbrev pub JudgesAt : ℕ → PrimParts → Result Primitive FaultFault → Type 0
JudgesAt line text (Ok p) = StandsFor text p × IsPrimitive p
JudgesAt line text (Err fault) = RefusesAt line text fault

-- what the reader of a primitive alone answers, by the outcome of its machine
abbrev pub GivesPrim : Outcome (Option Item) → Result Primitive FaultFault → Type 0
GivesPrim (unexpected k) r = r ≡ Err (Unexpected 1 k)
GivesPrim truncated r = r ≡ Err (Truncated 1)
GivesPrim (read None) r = ⊥
GivesPrim (read (Some (OnePrimitive text))) r = JudgesAt 1 text r
GivesPrim (read (Some (Named n))) r = ⊥
