-- Trusted. What a text is read as: a march, or the first refusal.
use Rattle.std.specs.Prelude.{List, ℕ, ◌⊎◌, Result, Ok, Err}
use Rattle.bist_text.specs.Grammar.{IsUnexpected, IsTruncated}
use Rattle.march_core.specs.declared.fault.MarchFault.{MarchFault}
use Rattle.march_core.specs.declared.fault.MarchFault.TheVariants.{Unexpected, Truncated}
use Rattle.march_core.specs.Building.{IsRefused}
use Rattle.march_core.specs.March.{MarchElement, IsMarch}
use Rattle.march_syntax.specs.Limits.{IsWithin, Exceeds}
use Rattle.march_syntax.specs.MarchText.{MarchText}

-- why the elements of a text are no march: the limits come first, then whether the elements have operations, then the
-- first wrong read
abbrev pub Refuses : List MarchElement → MarchFault → Type 0
Refuses elements fault = Exceeds elements fault ⊎ (IsWithin elements × IsRefused elements fault)

-- the bytes are the text of this march
abbrev pub SpellsMarch : List ℕ → List MarchElement → Type 0
SpellsMarch bytes march = MarchText bytes march × IsMarch march

-- What the bytes are read as. M1 and M2 speak of bytes that are no text of the grammar, the others of those that are one.
abbrev pub Reads : List ℕ → Result (List MarchElement) MarchFault → Type 0
Reads bytes (Ok march) = SpellsMarch bytes march
Reads bytes (Err (Unexpected k)) = IsUnexpected MarchText bytes k
Reads bytes (Err Truncated) = IsTruncated MarchText bytes
Reads bytes (Err fault) = (elements : List MarchElement) × MarchText bytes elements × Refuses elements fault
