-- Inner. For proofs and private contracts alone: what the reader hears in a text, as functions of its bytes.
use Rattle.std.specs.Prelude.{ℕ, List, [], ◌∷◌, Option, Some, None, Result, Ok, Err, option_map}
use Rattle.bist_text.specs.Keywords.{Word}
use Rattle.bist_text.specs.inner.Keywords.{all_words}
use Rattle.bist_text.specs.Lines.{TextLine, text_lines}
use Rattle.bist_text.specs.Machine.{Outcome}
use Rattle.bist_text.specs.keyed.Reading.{Read, onward, outcome}
use Rattle.bist_text.specs.keyed.Parts.{gap_of, fits_of, word_of, number_of, ends_with}
use Rattle.bist_text.specs.keyed.Lines.{line_of, answer}
use Rattle.bist_text.specs.keyed.Texts.{said_in, all_stated, versions, walk}
use Rattle.bist_text.specs.declared.keyed_lines.TextFault.{TextFault}
use Rattle.bist_text.specs.declared.keyed_lines.WordKind.TheVariants.{Name as NameWord, File}
use Rattle.bist_text.specs.declared.keyed_lines.LineFault.{LineFault}
use Rattle.chip_desc.specs.Chips.{ChipDescription, UnitDescription}
use Rattle.chip_desc.specs.ChipLines.{Content, version, name, budget, unit, key_text, Statement, version_in}
use Rattle.chip_desc.specs.ChipTable.{by_statements, refusal, of_lines}
use Rattle.chip_desc.specs.declared.content.ChipContent.{ChipContent as ReadContent}
use Rattle.chip_desc.specs.declared.content.ChipContent.TheVariants as C
use Rattle.chip_desc.specs.declared.content.ChipKey.{ChipKey}
use Rattle.chip_desc.specs.declared.content.ChipStatement.{ChipStatement as ReadStatement}
use Rattle.chip_desc.specs.declared.content.UnitLine.{UnitLine}
use Rattle.chip_desc.specs.declared.content.ChipKey.TheVariants.{Chip, Name, Budget, Unit as OfUnit}
use Rattle.chip_desc.specs.declared.fault.ChipFault.{ChipFault}
use Rattle.chip_desc.specs.declared.content.ChipVersion.{ChipVersion}
use Rattle.chip_desc.specs.declared.content.ChipVersion.TheVariants.{One}

-- ---- a line

-- the first words that may stand
abbrev pub keys_in : Option ChipVersion → List ChipKey
keys_in None = Chip ∷ []
keys_in (Some v) = Chip ∷ Name ∷ Budget ∷ OfUnit ∷ []

abbrev pub keys_of : Option ChipVersion → List (Word ChipKey)
keys_of given = all_words (λ k. key_text k ∷ []) (keys_in given)

abbrev pub file_of : List ℕ → Read (List ℕ)
file_of b = word_of (fits_of File) b

-- what stands behind a first word and blanks
abbrev pub argument_of : ChipKey → List ℕ → Read (Option Content)
argument_of Chip b = onward (number_of b) (λ n x. ends_with (Some (version n)) x)
argument_of Name b = onward (word_of (fits_of NameWord) b) (λ n x. ends_with (Some (name n)) x)
argument_of Budget b = onward (number_of b) (λ n x. ends_with (Some (budget n)) x)
argument_of OfUnit b =
    onward (number_of b) (λ w x. onward (gap_of x)
    (λ _ x. onward (file_of x) (λ m x. onward (gap_of x)
    (λ _ x. onward (file_of x) (λ d x. ends_with (Some (unit w m d)) x)))))

abbrev pub heard : Option ChipVersion → List ℕ → Outcome (Option Content)
heard given b = outcome b (line_of (keys_of given) argument_of b)

-- what a line says
abbrev pub said : List ℕ → Option Content
said b = said_in (heard (Some One) b)

abbrev pub statements : List TextLine → List Statement
statements ls = all_stated said ls

-- the version that a line gives, where it has content
abbrev pub version_at : Option ChipVersion → List ℕ → Result (Option (Option ChipVersion)) LineFault
version_at given b = versions version_in (answer (heard given b))

-- ---- what the code has of it

abbrev pub plain_unit : UnitLine → UnitDescription
plain_unit u = record { weight = u.weight; march = u.march.now; memory = u.memory.now }

abbrev pub plain_content : ReadContent → Content
plain_content (C.Version n) = version n
plain_content (C.Name b) = name b.now
plain_content (C.Budget n) = budget n
plain_content (C.Unit u) = unit u.weight u.march.now u.memory.now

abbrev pub plain_statement : ReadStatement → Statement
plain_statement s = record { line = s.line; content = plain_content s.content }

abbrev pub plain_line_content : Option ReadContent → Option Content
plain_line_content v = option_map plain_content v

abbrev pub plain_said : Result (Option ReadContent) LineFault → Result (Option Content) LineFault
plain_said (Ok v) = Ok (plain_line_content v)
plain_said (Err f) = Err f

-- ---- answers

abbrev pub by_lines : Option TextFault → List Statement → Result ChipDescription ChipFault
by_lines None ss = by_statements (refusal ss) ss
by_lines (Some fault) ss = Err (of_lines fault)

-- what a text is read as
abbrev pub reading : List ℕ → Result ChipDescription ChipFault
reading bytes = by_lines (walk version_at (text_lines bytes) None) (statements (text_lines bytes))
