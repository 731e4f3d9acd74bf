-- Trusted. The names of a list: of a class, and the words for several.
use Rattle.std.specs.Prelude.{ℕ, Bool, true, false, List, codes}
use Rattle.fault_core.specs.declared.table.Class.{Class}
use Rattle.fault_core.specs.declared.table.Class.TheVariants.{SF, TF, WDF, RDF, DRDF, IRF, CFst, CFds, CFtr, CFwd, CFrd, CFdr, CFir, DRF}
use Rattle.fault_syntax.specs.declared.words.GroupName.{GroupName}
use Rattle.fault_syntax.specs.declared.words.GroupName.TheVariants.{OfClass, One, Two, All, DynOne, DynTwo}
use Rattle.fault_syntax.specs.declared.words.AllowedNames.{AllowedNames}
use Rattle.fault_syntax.specs.declared.words.AllowedNames.TheVariants.{Static, Every}

-- the name of a class, in lists and reports
abbrev pub class_text : Class → List ℕ
class_text SF = codes "SF"
class_text TF = codes "TF"
class_text WDF = codes "WDF"
class_text RDF = codes "RDF"
class_text DRDF = codes "DRDF"
class_text IRF = codes "IRF"
class_text CFst = codes "CFst"
class_text CFds = codes "CFds"
class_text CFtr = codes "CFtr"
class_text CFwd = codes "CFwd"
class_text CFrd = codes "CFrd"
class_text CFdr = codes "CFdr"
class_text CFir = codes "CFir"
class_text DRF = codes "DRF"

abbrev pub name_text : GroupName → List ℕ
name_text (OfClass class) = class_text class
name_text One = codes "one"
name_text Two = codes "two"
name_text All = codes "all"
name_text DynOne = codes "dyn1"
name_text DynTwo = codes "dyn2"

-- whether a list with these names may have this one
abbrev pub is_in : AllowedNames → GroupName → Bool
is_in Every n = true
is_in Static DynOne = false
is_in Static DynTwo = false
is_in Static n = true
