-- Public. The refusal of a text's lines, as a function of what a reader makes of each.
use Rattle.std.specs.Prelude.{ℕ, if◌then◌else◌, List, [], ◌∷◌, ◌++◌, length, Option, Some, None, Result, Ok, Err, option_map}
use Rattle.bist_text.specs.KeyedTexts.{known, Statement, stated}
use Rattle.bist_text.specs.Lines.{TextLine}
use Rattle.bist_text.specs.Machine.{Outcome, read}
use Rattle.bist_text.specs.declared.keyed_lines.LineFault.{LineFault}
use Rattle.bist_text.specs.declared.keyed_lines.LineFault.TheVariants.{Unexpected as UnexpectedByte, Truncated as TruncatedLine}
use Rattle.bist_text.specs.declared.keyed_lines.TextFault.{TextFault}
use Rattle.bist_text.specs.declared.keyed_lines.TextFault.TheVariants.{Unexpected, Truncated}

abbrev pub refusal_at : TextLine → LineFault → TextFault
refusal_at l (UnexpectedByte i) = Unexpected l.number i
refusal_at l TruncatedLine = if l.ended then Unexpected l.number (length l.text) else Truncated

-- the version that is known behind a line, by the version that the line gives, where it has content
abbrev pub step : {V : Type 0} → Option V → TextLine → Result (Option (Option V)) LineFault → Result (Option V) TextFault
step given l (Ok k) = known (λ v. v) given k
step given l (Err fault) = Err (refusal_at l fault)

abbrev pub carried : {V : Type 0} → Result (Option V) TextFault → (Option V → Option TextFault) → Option TextFault
carried (Ok next) f = f next
carried (Err fault) f = Some fault

abbrev pub walk : {V : Type 0} → (Option V → List ℕ → Result (Option (Option V)) LineFault) → List TextLine → Option V → Option TextFault
walk reader [] None = Some Truncated
walk reader [] (Some v) = None
walk reader (l ∷ ls) given = carried (step given l (reader given l.text)) (λ next. walk reader ls next)

abbrev pub versions : {C V : Type 0} → (C → Option V) → Result (Option C) LineFault → Result (Option (Option V)) LineFault
versions version_in (Ok k) = Ok (option_map version_in k)
versions version_in (Err fault) = Err fault

abbrev pub said_in : {C : Type 0} → Outcome (Option C) → Option C
said_in (read k) = k
said_in other = None

abbrev pub all_stated : {C : Type 0} → (List ℕ → Option C) → List TextLine → List (Statement C)
all_stated said [] = []
all_stated said (l ∷ ls) = stated l.number (said l.text) ++ all_stated said ls

-- a check: the refusal, where there is one
abbrev pub checked : {F : Type 0} → Option F → Result (Unit {0}) F
checked None = Ok tt
checked (Some fault) = Err fault
