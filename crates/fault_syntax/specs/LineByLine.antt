-- Trusted. What the lines of a list bring, and the first line that is refused: for any grammar of a line, and any primitives.
use Rattle.std.specs.Prelude.{Result, Ok, Err, ◌≡◌, ◌<◌, ◌≤◌, ◌+◌, ◌⊎◌, ℕ, true, false, Option, Some, List, [], ◌∷◌, ◌++◌, length}
use Rattle.bist_text.specs.Grammar.{IsUnexpected, IsTruncated}
use Rattle.bist_text.specs.Lines.{TextLine, text_lines}
use Rattle.fault_syntax.specs.declared.fault.FaultFault.{FaultFault}
use Rattle.fault_syntax.specs.declared.fault.FaultFault.TheVariants.{Unexpected, Truncated, NotAFault, TooManyOperations, TooManyPrimitives, NoMemory}
use Rattle.fault_syntax.specs.PrimText.{PrimParts}

-- a line can't be continued at this byte: of a line that ended too early, that is its line feed
abbrev pub IsUnexpectedOn : {V : Type 0} → (List ℕ → V → Type 0) → TextLine → ℕ → Type 0
IsUnexpectedOn Line l byte = IsUnexpected Line l.text byte ⊎ ((l.ended ≡ true) × IsTruncated Line l.text × (byte ≡ length l.text))

module _ {V : Type 0} (Line : List ℕ → Option V → Type 0) (written : PrimParts → V) (Refuses : ℕ → PrimParts → FaultFault → Type 0) where
  -- why a line isn't read: its bytes, or the primitive that is written on it
  abbrev pub IsFaultOn : TextLine → FaultFault → Type 0
  IsFaultOn l (Unexpected line byte) = (line ≡ l.number) × IsUnexpectedOn Line l byte
  IsFaultOn l (Truncated line) = (line ≡ l.number) × (l.ended ≡ false) × IsTruncated Line l.text
  IsFaultOn l (NotAFault line) = (text : PrimParts) × Line l.text (Some (written text)) × Refuses l.number text (NotAFault line)
  IsFaultOn l (TooManyOperations line) = (text : PrimParts) × Line l.text (Some (written text))
      × Refuses l.number text (TooManyOperations line)
  IsFaultOn l (TooManyPrimitives line) = ⊥
  IsFaultOn l NoMemory = ⊥

module _ {V P : Type 0} (Line : List ℕ → Option V → Type 0) (Brings : Option V → List P → Type 0) where
  -- lines that are read, and the primitives that they bring, in their order
  abbrev pub BringBy : List TextLine → List P → Type 0
  BringBy [] ps = ps ≡ []
  BringBy (l ∷ ls) ps =
      (item : Option V) × (first : List P) × (others : List P) × Line l.text item × Brings item first
      × BringBy ls others × (ps ≡ first ++ others)

  -- the lines of these bytes bring these primitives, at most 1,024
  abbrev pub SpellsLines : List ℕ → List P → Type 0
  SpellsLines bytes ps = BringBy (text_lines bytes) ps × (length ps ≤ 1024)

module _ {V P : Type 0} (Line : List ℕ → Option V → Type 0) (Brings : Option V → List P → Type 0)
    (written : PrimParts → V) (Refuses : ℕ → PrimParts → FaultFault → Type 0) where
  -- why a line is refused behind others that brought these primitives
  abbrev pub IsRefusedBehind : List P → TextLine → FaultFault → Type 0
  IsRefusedBehind held l (TooManyPrimitives line) =
      (line ≡ l.number) × (item : Option V) × (more : List P) × Line l.text item × Brings item more × (1024 < length held + length more)
  IsRefusedBehind held l fault = IsFaultOn Line written Refuses l fault

  -- the first line that is refused: those before it are read
  pub record FirstRefusal (lines : List TextLine) (fault : FaultFault) : Type 0 where
    pub before : List TextLine
    pub line : TextLine
    pub after : List TextLine
    pub held : List P
    pub split : lines ≡ before ++ line ∷ after
    pub brought : BringBy Line Brings before held
    pub within : length held ≤ 1024
    pub refused : IsRefusedBehind held line fault

  -- What the bytes of a list are read as: what its lines bring, or the refusal of the first line that is refused. Want of
  -- memory is no refusal of a list.
  abbrev pub ReadsLines : List ℕ → Result (List P) FaultFault → Type 0
  ReadsLines bytes (Ok ps) = SpellsLines Line Brings bytes ps
  ReadsLines bytes (Err fault) = FirstRefusal (text_lines bytes) fault
