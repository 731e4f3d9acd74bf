-- Trusted. What a report says of a list, whatever its items are: how many have a property, whether one has it not, a line for each; and
-- what is said of the report.
use Rattle.std.specs.Prelude.{◌≡◌, ◌+◌, ◌++◌, ◌⊎◌, ℕ, Bool, true, false, List, [], ◌∷◌, Contains, codes, length}
use Rattle.std.specs.List.{AllByRecursion}
use Rattle.report_lines.specs.Lines.{total_line}

-- so many of these have the property, repeats included
abbrev pub CountsOf : {A : Type 0} → (A → Type 0) → List A → ℕ → Type 0
CountsOf {A} P [] n = n ≡ 0
CountsOf {A} P (x ∷ xs) n = (P x × (k : ℕ) × CountsOf P xs k × (n ≡ 1 + k)) ⊎ ((P x → ⊥) × CountsOf P xs n)

-- one of these has the property not, or each has it
abbrev pub SomeLacks : {A : Type 0} → (A → Type 0) → List A → Bool → Type 0
SomeLacks {A} P xs true = (x : A) × Contains xs x × (P x → ⊥)
SomeLacks {A} P xs false = AllByRecursion P xs

-- the lines of these in their order
abbrev pub AreLinesOf : {A : Type 0} → (A → List ℕ → Type 0) → List A → List ℕ → Type 0
AreLinesOf {A} IsLine [] text = text ≡ []
AreLinesOf {A} IsLine (x ∷ xs) text = (line : List ℕ) × (rest : List ℕ) × IsLine x line × AreLinesOf IsLine xs rest × (text ≡ line ++ rest)

-- the line of an item that is covered, and of one that escapes
abbrev pub covered_line : List ℕ → List ℕ
covered_line item = codes "covered " ++ item ++ codes "\n"

abbrev pub escape_line : List ℕ → List ℕ → List ℕ
escape_line item escape = codes "escape " ++ item ++ escape ++ codes "\n"

-- the line of an item with this text: covered exactly where it is detected, and else with its escape
abbrev pub IsVerdictLine : List ℕ → Type 0 → (List ℕ → Type 0) → List ℕ → Type 0
IsVerdictLine item Detected IsEscape line =
    (Detected × (line ≡ covered_line item)) ⊎ ((Detected → ⊥) × (escape : List ℕ) × IsEscape escape × (line ≡ escape_line item escape))

-- the bytes are the report of these items, and the line is its last one: how many there are, and how many are detected
pub record ReportsOf {X : Type 0} (IsReport : List ℕ → Type 0) (IsDetected : X → Type 0) (items : List X)
    (escapes : Bool) (bytes line : List ℕ) : Type 0 where
  pub found : SomeLacks IsDetected items escapes
  pub report : IsReport bytes
  pub covered : ℕ
  pub detects : CountsOf IsDetected items covered
  pub last : line ≡ total_line (length items) covered
