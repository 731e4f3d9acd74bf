-- Trusted. What the text of a primitive is read as: the primitive, or the first refusal.
use Rattle.std.specs.Prelude.{◌≡◌, ℕ, List, Result, Ok, Err}
use Rattle.bist_text.specs.Grammar.{IsUnexpected, IsTruncated}
use Rattle.fault_core.specs.declared.primitive.PrimFault.TheVariants.{NotAFault, TooManyOperations}
use Rattle.fault_core.specs.Primitive.{Primitive, IsPrimitive}
use Rattle.fault_syntax.specs.declared.fault.FaultFault.{FaultFault}
use Rattle.fault_syntax.specs.declared.fault.FaultFault.TheVariants.{Unexpected, Truncated, NotAFault as NotAFaultAt, TooManyOperations as TooManyOperationsAt, TooManyPrimitives, NoMemory}
use Rattle.fault_syntax.specs.Parts.{StandsFor, Refuses}
use Rattle.fault_syntax.specs.PrimText.{PrimParts, PrimText}

-- why a primitive on this line is refused: more than one operation in all comes first
abbrev pub RefusesAt : ℕ → PrimParts → FaultFault → Type 0
RefusesAt line text (TooManyOperationsAt l) = (l ≡ line) × Refuses text TooManyOperations
RefusesAt line text (NotAFaultAt l) = (l ≡ line) × Refuses text NotAFault
RefusesAt line text (Unexpected l byte) = ⊥
RefusesAt line text (Truncated l) = ⊥
RefusesAt line text (TooManyPrimitives l) = ⊥
RefusesAt line text NoMemory = ⊥

-- What the bytes are read as: the primitive that their text stands for, or the first refusal, on line 1. F1 and F2 speak of
-- bytes that are no text of the grammar, F4 and F3 of those that are one.
abbrev pub ReadsPrim : List ℕ → Result Primitive FaultFault → Type 0
ReadsPrim bytes (Ok p) = (text : PrimParts) × PrimText bytes text × StandsFor text p × IsPrimitive p
ReadsPrim bytes (Err (Unexpected line byte)) = (line ≡ 1) × IsUnexpected PrimText bytes byte
ReadsPrim bytes (Err (Truncated line)) = (line ≡ 1) × IsTruncated PrimText bytes
ReadsPrim bytes (Err fault) = (text : PrimParts) × PrimText bytes text × RefusesAt 1 text fault
