-- Trusted. The class of a primitive by its parts.
use Rattle.std.specs.Prelude.{Bool, if◌then◌else◌, Option, Some, None}
use Rattle.fault_core.specs.declared.primitive.Act.{Act}
use Rattle.fault_core.specs.declared.primitive.Act.TheVariants.{Write, Read, Pause}
use Rattle.fault_core.specs.declared.primitive.Sense.{Sense}
use Rattle.fault_core.specs.declared.table.Class.{Class}
use Rattle.fault_core.specs.declared.table.Class.TheVariants.{SF, TF, WDF, RDF, DRDF, IRF, CFst, CFds, CFtr, CFwd, CFrd, CFdr, CFir, DRF}
use Rattle.fault_core.specs.Primitive.{Primitive, same_bit}

-- what a read does wrong: it leaves the state and answers the other bit; or it flips the cell, and answers the
-- state from before, or the flipped one
abbrev pub class_of_read : Bool → Bool → Option Bool → Class
class_of_read state after None = IRF
class_of_read state after (Some answered) =
    if same_bit after state then IRF else if same_bit answered state then DRDF else RDF

-- what the victim does wrong
abbrev pub class_of_victim : Option Act → Bool → Bool → Option Bool → Class
class_of_victim None state after answer = SF
class_of_victim (Some (Write written)) state after answer = if same_bit written state then WDF else TF
class_of_victim (Some Read) state after answer = class_of_read state after answer
class_of_victim (Some Pause) state after answer = DRF

-- the class of two cells whose victim does the same wrong, while an aggressor holds its state
abbrev pub coupled : Class → Class
coupled SF = CFst
coupled TF = CFtr
coupled WDF = CFwd
coupled RDF = CFrd
coupled DRDF = CFdr
coupled IRF = CFir
coupled CFst = CFst
coupled CFds = CFds
coupled CFtr = CFtr
coupled CFwd = CFwd
coupled CFrd = CFrd
coupled CFdr = CFdr
coupled CFir = CFir
coupled DRF = DRF

-- the class beside an aggressor, which holds a state or acts
abbrev pub class_by_aggressor : Option Act → Class → Class
class_by_aggressor None own = coupled own
class_by_aggressor (Some act) own = CFds

abbrev pub class_beside : Option Sense → Class → Class
class_beside None own = own
class_beside (Some sense) own = class_by_aggressor sense.act own

abbrev pub class_by_parts : Primitive → Class
class_by_parts p = class_beside p.agg (class_of_victim p.vic.act p.vic.state p.after p.answer)
