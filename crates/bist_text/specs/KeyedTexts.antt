-- Trusted. Texts whose first line with content gives a version, which says what the later ones may be: what their lines say, and why
-- they are refused. `text` says which bytes are a content line, `stands` which contents may stand where a version, or none, is
-- known, and `version_in` which version a content gives.
use Rattle.std.specs.Prelude.{◌≡◌, ◌⊎◌, ℕ, ◌==◌, not, Bool, true, false, List, [], ◌∷◌, ◌++◌, length, Option, Some, None, Result, Ok, Err, MatchResult}
use Rattle.bist_text.specs.Grammar.{IsUnexpected, IsTruncated}
use Rattle.bist_text.specs.LineGrammar.{tail}
use Rattle.bist_text.specs.Lines.{TextLine}
use Rattle.bist_text.specs.declared.keyed_lines.TextFault.{TextFault}
use Rattle.bist_text.specs.declared.keyed_lines.TextFault.TheVariants.{Unexpected, Truncated, OtherVersion}

-- a line without content, or a content line that may stand
abbrev pub LineOf : {C V : Type 0} → (List ℕ → C → Type 0) → (Option V → C → Bool) → Option V → List ℕ → Option C → Type 0
LineOf {C} text stands given b k = ((k ≡ None) × tail b) ⊎ ((c : C) × (stands given c ≡ true) × (k ≡ Some c) × text b c)

abbrev pub gives : {V : Type 0} → Option V → Result (Option V) TextFault
gives None = Err OtherVersion
gives (Some v) = Ok (Some v)

-- the version that is known behind a line
abbrev pub known : {C V : Type 0} → (C → Option V) → Option V → Option C → Result (Option V) TextFault
known version_in (Some v) k = Ok (Some v)
known version_in None None = Ok None
known version_in None (Some c) = gives (version_in c)

-- a content line: its number, and what it says
pub record Statement (C : Type 0) : Type 0 where
  pub line : ℕ
  pub content : C

abbrev pub stated : {C : Type 0} → ℕ → Option C → List (Statement C)
stated number None = []
stated number (Some c) = (record { line = number; content = c }) ∷ []

-- why a line is neither empty nor a content line that may stand: it is refused at a byte, or it ended too early. One that ended too
-- early at a line feed is refused at the place of the line feed, and so only the last line can be told as one that ended too early.
abbrev pub IsLineFault : {C V : Type 0} → (List ℕ → C → Type 0) → (Option V → C → Bool) → Option V → TextLine → TextFault → Type 0
IsLineFault text stands given l (Unexpected line byte) = (line ≡ l.number)
    × (IsUnexpected (LineOf text stands given) l.text byte
    ⊎ ((l.ended ≡ true) × IsTruncated (LineOf text stands given) l.text × (byte ≡ length l.text)))
IsLineFault text stands given l Truncated = (l.ended ≡ false) × IsTruncated (LineOf text stands given) l.text
IsLineFault text stands given l OtherVersion = ⊥

-- these are the statements of the lines, each of which may stand
abbrev pub Say : {C V : Type 0} → (List ℕ → C → Type 0) → (Option V → C → Bool) → (C → Option V) → List TextLine
    → Option V → List (Statement C) → Type 0
Say text stands version_in [] None ss = ⊥
Say text stands version_in [] (Some v) ss = ss ≡ []
Say {C} text stands version_in (l ∷ ls) given ss =
    (k : Option C) × (more : List (Statement C)) × LineOf text stands given l.text k
    × MatchResult (known version_in given k) (λ next. Say text stands version_in ls next more) (λ fault. ⊥)
    × (ss ≡ stated l.number k ++ more)

-- the first line that may not stand, or no line gives a version
abbrev pub AreRefused : {C V : Type 0} → (List ℕ → C → Type 0) → (Option V → C → Bool) → (C → Option V) → List TextLine
    → Option V → TextFault → Type 0
AreRefused text stands version_in [] None fault = fault ≡ Truncated
AreRefused text stands version_in [] (Some v) fault = ⊥
AreRefused {C} text stands version_in (l ∷ ls) given fault =
    IsLineFault text stands given l fault
    ⊎ ((k : Option C) × LineOf text stands given l.text k
    × MatchResult (known version_in given k) (λ next. AreRefused text stands version_in ls next fault)
    (λ other. fault ≡ other))

-- ---- the refusals of statements, in their order

abbrev pub or_else : {F : Type 0} → Option F → Option F → Option F
or_else None r = r
or_else (Some fault) r = Some fault

-- the first of some refusals
abbrev pub first_refusal : {F : Type 0} → List (Option F) → Option F
first_refusal [] = None
first_refusal (r ∷ rs) = or_else r (first_refusal rs)

-- the refusal where something isn't there
abbrev pub unless_there : {A F : Type 0} → F → Option A → Option F
unless_there fault None = Some fault
unless_there fault (Some x) = None

-- a refusal at a line, where there is one
abbrev pub at_line : {C F : Type 0} → (ℕ → F) → Option (Statement C) → Option F
at_line fault None = None
at_line fault (Some s) = Some (fault s.line)

-- whether there is a line, and another than this
abbrev pub is_other : {C : Type 0} → ℕ → Option (Statement C) → Bool
is_other line None = false
is_other line (Some s) = not (s.line == line)

abbrev pub content_of : {C : Type 0} → Option (Statement C) → Option C
content_of None = None
content_of (Some s) = Some s.content
