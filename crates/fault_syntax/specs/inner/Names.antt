-- Inner. For proofs and private contracts alone, beside Names: the names of a list: of a class, and the words for several.
use Rattle.std.specs.Prelude.{List, [], ◌∷◌, ◌++◌}
use Rattle.bist_text.specs.Keywords.{Word}
use Rattle.bist_text.specs.inner.Keywords.{all_words}
use Rattle.fault_core.specs.declared.table.Class.TheVariants.{SF, TF, WDF, RDF, DRDF, IRF, CFst, CFds, CFtr, CFwd, CFrd, CFdr, CFir, DRF}
use Rattle.fault_syntax.specs.declared.words.Form.{Form}
use Rattle.fault_syntax.specs.declared.words.Form.TheVariants.{Listed}
use Rattle.fault_syntax.specs.declared.words.GroupName.{GroupName}
use Rattle.fault_syntax.specs.declared.words.GroupName.TheVariants.{OfClass, One, Two, All, DynOne, DynTwo}
use Rattle.fault_syntax.specs.declared.words.AllowedNames.TheVariants.{Every}
use Rattle.fault_syntax.specs.Names.{name_text}

abbrev pub static_names : List GroupName
static_names =
    OfClass SF ∷ OfClass TF ∷ OfClass WDF ∷ OfClass RDF ∷ OfClass DRDF ∷ OfClass IRF ∷ OfClass CFst ∷ OfClass CFds
    ∷ OfClass CFtr ∷ OfClass CFwd ∷ OfClass CFrd ∷ OfClass CFdr ∷ OfClass CFir ∷ OfClass DRF ∷ One ∷ Two ∷ All ∷ []

abbrev pub names_of : Form → List GroupName
names_of (Listed Every) = static_names ++ DynOne ∷ DynTwo ∷ []
names_of form = static_names

abbrev pub words_of : Form → List (Word GroupName)
words_of form = all_words (λ n. name_text n ∷ []) (names_of form)
