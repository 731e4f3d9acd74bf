-- Trusted. The lines of a chip file, and what they say. Blanks, comments, numbers and names are those of memory descriptions.
use Rattle.std.specs.Prelude.{◌≡◌, ℕ, ◌==◌, ◌&&◌, Bool, true, false, if◌then◌else◌, Option, Some, None, List, codes}
use Rattle.bist_text.specs.Grammar.{word}
use Rattle.bist_text.specs.Identifiers.{is_identifier}
use Rattle.bist_text.specs.KeyedTexts.{Say, Statement as TextStatement}
use Rattle.bist_text.specs.Lines.{text_lines}
use Rattle.bist_text.specs.keyed.Numbers.{number}
use Rattle.chip_desc.specs.Chips.{is_file}
use Rattle.chip_desc.specs.declared.content.ChipKey.{ChipKey}
use Rattle.chip_desc.specs.declared.content.ChipKey.TheVariants.{Chip, Name, Budget, Unit as OfUnit}
use Rattle.chip_desc.specs.declared.content.ChipVersion.{ChipVersion}
use Rattle.chip_desc.specs.declared.content.ChipVersion.TheVariants.{One}
use Rattle.bist_text.specs.LineGrammar.{space, gap, tail}

-- what a content line says
pub data Content : Type 0 where
  version : ℕ → Content
  name : List ℕ → Content
  budget : ℕ → Content
  unit : ℕ → List ℕ → List ℕ → Content

abbrev pub kind_of : Content → ChipKey
kind_of (version n) = Chip
kind_of (name b) = Name
kind_of (budget n) = Budget
kind_of (unit weight march memory) = OfUnit

-- a name is an identifier, and files have names
abbrev pub is_formed : Content → Bool
is_formed (version n) = true
is_formed (name b) = is_identifier b
is_formed (budget n) = true
is_formed (unit weight march memory) = is_file march && is_file memory

-- what stands behind a line's first word
abbrev pub argument : Content → (List ℕ → Type 0) → List ℕ → Type 0
argument (version n) K b = number n K b
argument (name n) K b = word n K b
argument (budget n) K b = number n K b
argument (unit weight march memory) K b = number weight (gap (word march (gap (word memory K)))) b

abbrev pub key_text : ChipKey → List ℕ
key_text Chip = codes "chip"
key_text Name = codes "name"
key_text Budget = codes "budget"
key_text OfUnit = codes "unit"

-- A content line.
abbrev pub ContentText : List ℕ → Content → Type 0
ContentText b c = (is_formed c ≡ true) × space (word (key_text (kind_of c)) (gap (argument c tail))) b

-- ---- what the lines say

-- a content line
abbrev pub Statement : Type 0
Statement = TextStatement Content

-- the kinds of content lines that may stand: a `chip` line alone before there was one, and behind it any
abbrev pub may_stand : Option ChipVersion → ChipKey → Bool
may_stand (Some v) key = true
may_stand None Chip = true
may_stand None key = false

abbrev pub stands : Option ChipVersion → Content → Bool
stands given c = may_stand given (kind_of c)

-- the version 1 is the one that there is
abbrev pub version_in : Content → Option ChipVersion
version_in (version n) = if n == 1 then Some One else None
version_in c = None

-- The statements of a text's lines, of which the first gives the version 1.
abbrev pub AreStatements : List ℕ → List Statement → Type 0
AreStatements bytes ss = Say ContentText stands version_in (text_lines bytes) None ss
