-- Inner. The words of the code's sets, and what the code expects where the parser stands.
use Rattle.std.specs.Prelude.{◌≡◌, Bool, true, false, List, [], ◌∷◌, ℕ, codes}
use Rattle.bist_text.specs.ReservedWords.{is_among}
use Rattle.verilog_read.specs.declared.words.WordSet.{WordSet}
use Rattle.verilog_read.specs.declared.words.WordSet.TheVariants as W
use Rattle.verilog_read.specs.declared.words.Expected.{Expected}
use Rattle.verilog_text.specs.Expected.{some_begins, item_words, statement_words, with_else, else_behind, words_behind, names_behind, words, takes_names, takes_literals}
use Rattle.verilog_text.specs.inner.Expected.{literals_behind}
use Rattle.verilog_text.specs.Places.{Around, State}

abbrev pub words_of : WordSet → List (List ℕ)
words_of W.Nothing = []
words_of W.Module = codes "module" ∷ []
words_of W.Directions = codes "input" ∷ codes "output" ∷ []
words_of W.Wire = codes "wire" ∷ []
words_of W.WireOrReg = codes "wire" ∷ codes "reg" ∷ []
words_of W.Items = item_words
words_of W.Edge = codes "posedge" ∷ []
words_of W.Statements = statement_words
words_of W.Block = codes "end" ∷ statement_words
words_of W.Arms = codes "default" ∷ codes "endcase" ∷ []
words_of W.CaseEnd = codes "endcase" ∷ []

-- one of these words is this one, or begins with it where it is a part
abbrev pub lists : Bool → List ℕ → List (List ℕ) → Bool
lists true w ws = some_begins w ws
lists false w ws = is_among w ws

-- what the code expects is what a state takes
pub record Expects (expected : Expected) (s : State) : Type 0 where
  pub reserved : with_else expected.alternative (words_of expected.words) ≡ words s
  pub names : expected.names ≡ takes_names s
  pub literals : expected.literals ≡ takes_literals s

-- the same behind a whole statement that stands in this
pub record ExpectsBehind (expected : Expected) (a : Around) : Type 0 where
  pub alternative : expected.alternative ≡ else_behind a
  pub reserved : words_of expected.words ≡ words_behind a
  pub names : expected.names ≡ names_behind a
  pub literals : expected.literals ≡ literals_behind a
