-- Inner. For proofs and private contracts alone: a class as the senses of its aggressor, each with the two states of its victim.
use Rattle.std.specs.Prelude.{◌≡◌, Bool, true, false, not, Option, Some, None, List, [], ◌∷◌}
use Rattle.std.specs.List.{flat_map}
use Rattle.fault_core.specs.declared.primitive.Act.{Act}
use Rattle.fault_core.specs.declared.primitive.Act.TheVariants.{Write, Read, Pause}
use Rattle.fault_core.specs.declared.primitive.Sense.{Sense}
use Rattle.fault_core.specs.declared.table.Class.{Class}
use Rattle.fault_core.specs.declared.table.Class.TheVariants.{SF, TF, WDF, RDF, DRDF, IRF, CFst, CFds, CFtr, CFwd, CFrd, CFdr, CFir, DRF}
use Rattle.fault_core.specs.Primitive.{Primitive, agg_has_act, is_pause}

abbrev pub sense_of : Bool → Option Act → Sense
sense_of state act = record { state = state; act = act }

abbrev pub prim_of : Option Sense → Sense → Bool → Option Bool → Primitive
prim_of agg vic after answer = record { agg = agg; vic = vic; after = after; answer = answer }

-- the victim's state flips by itself
abbrev pub flipped : Option Sense → Bool → Primitive
flipped agg state = prim_of agg (sense_of state None) (not state) None

-- a write of the other bit leaves the state
abbrev pub unwritten : Option Sense → Bool → Primitive
unwritten agg state = prim_of agg (sense_of state (Some (Write (not state)))) state None

-- a write of the state flips it
abbrev pub disturbed : Option Sense → Bool → Primitive
disturbed agg state = prim_of agg (sense_of state (Some (Write state))) (not state) None

-- a read flips the state, and answers the flipped one
abbrev pub destroyed : Option Sense → Bool → Primitive
destroyed agg state = prim_of agg (sense_of state (Some Read)) (not state) (Some (not state))

-- a read flips the state, and answers the state from before
abbrev pub deceived : Option Sense → Bool → Primitive
deceived agg state = prim_of agg (sense_of state (Some Read)) (not state) (Some state)

-- a read leaves the state, and answers the other bit
abbrev pub misread : Option Sense → Bool → Primitive
misread agg state = prim_of agg (sense_of state (Some Read)) state (Some (not state))

-- a pause flips the state
abbrev pub lost : Option Sense → Bool → Primitive
lost agg state = prim_of agg (sense_of state (Some Pause)) (not state) None

-- the primitive of a class with this sense of its aggressor and this state of its victim
abbrev pub member_of : Class → Option Sense → Bool → Primitive
member_of SF agg state = flipped agg state
member_of CFst agg state = flipped agg state
member_of CFds agg state = flipped agg state
member_of TF agg state = unwritten agg state
member_of CFtr agg state = unwritten agg state
member_of WDF agg state = disturbed agg state
member_of CFwd agg state = disturbed agg state
member_of RDF agg state = destroyed agg state
member_of CFrd agg state = destroyed agg state
member_of DRDF agg state = deceived agg state
member_of CFdr agg state = deceived agg state
member_of IRF agg state = misread agg state
member_of CFir agg state = misread agg state
member_of DRF agg state = lost agg state

-- whether an aggressor, if there is one, doesn't pause
abbrev pub never_pauses : Option Sense → Bool
never_pauses None = true
never_pauses (Some sense) = not (is_pause sense.act)

-- an aggressor acts only where the victim doesn't, and it never pauses; beside it no pause is lost
abbrev pub FitsClass : Class → Option Sense → Type 0
FitsClass SF agg = never_pauses agg ≡ true
FitsClass CFst agg = never_pauses agg ≡ true
FitsClass CFds agg = never_pauses agg ≡ true
FitsClass TF agg = agg_has_act agg ≡ false
FitsClass CFtr agg = agg_has_act agg ≡ false
FitsClass WDF agg = agg_has_act agg ≡ false
FitsClass CFwd agg = agg_has_act agg ≡ false
FitsClass RDF agg = agg_has_act agg ≡ false
FitsClass CFrd agg = agg_has_act agg ≡ false
FitsClass DRDF agg = agg_has_act agg ≡ false
FitsClass CFdr agg = agg_has_act agg ≡ false
FitsClass IRF agg = agg_has_act agg ≡ false
FitsClass CFir agg = agg_has_act agg ≡ false
FitsClass DRF agg = agg ≡ None

abbrev pub no_aggressor : List (Option Sense)
no_aggressor = None ∷ []

abbrev pub holding : List (Option Sense)
holding = Some (sense_of false None) ∷ Some (sense_of true None) ∷ []

abbrev pub acting : List (Option Sense)
acting =
    Some (sense_of false (Some (Write false)))
    ∷ Some (sense_of false (Some (Write true)))
    ∷ Some (sense_of true (Some (Write false)))
    ∷ Some (sense_of true (Some (Write true)))
    ∷ Some (sense_of false (Some Read))
    ∷ Some (sense_of true (Some Read))
    ∷ []

-- the senses of a class's aggressor
abbrev pub senses_of : Class → List (Option Sense)
senses_of SF = no_aggressor
senses_of TF = no_aggressor
senses_of WDF = no_aggressor
senses_of RDF = no_aggressor
senses_of DRDF = no_aggressor
senses_of IRF = no_aggressor
senses_of CFst = holding
senses_of CFds = acting
senses_of CFtr = holding
senses_of CFwd = holding
senses_of CFrd = holding
senses_of CFdr = holding
senses_of CFir = holding
senses_of DRF = no_aggressor

-- the two of one sense of the aggressor
abbrev pub both_states : Class → Option Sense → List Primitive
both_states class agg = member_of class agg false ∷ member_of class agg true ∷ []

abbrev pub rows_of : Class → List (Option Sense) → List Primitive
rows_of class senses = flat_map (both_states class) senses
