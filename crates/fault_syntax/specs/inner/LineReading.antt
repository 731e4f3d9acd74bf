-- Inner. For proofs and private contracts alone, beside LineReading: what is said of a line's bytes.
use Rattle.std.specs.Prelude.{◌≡◌, ℕ, Option, List, Result, Ok, Err}
use Rattle.bist_text.specs.Grammar.{IsUnexpected, IsTruncated}
use Rattle.fault_syntax.specs.declared.reader.ReadItem.{ReadItem}
use Rattle.fault_syntax.specs.declared.reader.Refusal.{Refusal}
use Rattle.fault_syntax.specs.declared.reader.Refusal.TheVariants.{Unexpected as UnexpectedAt, Truncated as EndedEarly}
use Rattle.fault_syntax.specs.declared.words.AllowedNames.{AllowedNames}
use Rattle.fault_syntax.specs.Brief.{read_item_of}
use Rattle.fault_syntax.specs.ListText.{Item, LineOf}

-- what is said of a line's bytes
abbrev pub Says : AllowedNames → List ℕ → Result ReadItem Refusal → Type 0
Says set b (Ok item) = (v : Option Item) × LineOf set b v × (item ≡ read_item_of v)
Says set b (Err (UnexpectedAt k)) = IsUnexpected (LineOf set) b k
Says set b (Err EndedEarly) = IsTruncated (LineOf set) b
