-- Trusted. What one instance of a primitive does to an array of cells.
use Rattle.std.specs.Prelude.{◌≢◌, ◌<◌, ◌==◌, ℕ, Bool, true, false, not, ◌||◌, ◌&&◌, if◌then◌else◌, Option, Some, None, is_some, List, slice_index_or, slice_set}
use Rattle.fault_core.specs.declared.primitive.Act.{Act}
use Rattle.fault_core.specs.declared.primitive.Act.TheVariants.{Write, Read, Pause}
use Rattle.fault_core.specs.declared.primitive.Sense.{Sense}
use Rattle.fault_core.specs.declared.cells.Places.{Places}
use Rattle.fault_core.specs.Primitive.{Primitive, same_bit, agg_has_act, is_retention}

-- the content of a cell; places are within the array wherever it is asked for, so the default is never seen
abbrev pub cell : List Bool → ℕ → Bool
cell cells x = slice_index_or cells x false

-- whether the aggressor's cell holds its state, where there is an aggressor
abbrev pub agg_holds : Option Sense → Option ℕ → List Bool → Bool
agg_holds (Some sense) (Some x) cells = same_bit (cell cells x) sense.state
agg_holds agg place cells = true

-- whether every state of the primitive holds
abbrev pub states_hold : Primitive → Places → List Bool → Bool
states_hold p at cells = same_bit (cell cells at.vic) p.vic.state && agg_holds p.agg at.agg cells

-- whether the primitive has an act, of its victim or of its aggressor
abbrev pub has_act : Primitive → Bool
has_act p = is_some p.vic.act || agg_has_act p.agg

-- closing: a primitive without an act sets its victim where its states hold
unfoldable pub close_of : Primitive → Places → List Bool → List Bool
close_of p at cells = if not (has_act p) && states_hold p at cells then slice_set cells at.vic p.after else cells

-- whether two acts are the same
abbrev pub same_act : Act → Act → Bool
same_act (Write a) (Write b) = same_bit a b
same_act Read Read = true
same_act Pause Pause = true
same_act act other = false

-- whether a sense has this act
abbrev pub has_this_act : Option Act → Act → Bool
has_this_act None act = false
has_this_act (Some own) act = same_act own act

-- whether this act on this cell is the aggressor's
abbrev pub agg_acts : Option Sense → Option ℕ → ℕ → Act → Bool
agg_acts (Some sense) (Some a) x act = (a == x) && has_this_act sense.act act
agg_acts agg place x act = false

-- whether this act on this cell is the primitive's, on contents where its states hold
unfoldable pub acts : Primitive → Places → List Bool → ℕ → Act → Bool
acts p at cells x act =
    (((at.vic == x) && has_this_act p.vic.act act) || agg_acts p.agg at.agg x act) && states_hold p at cells

-- the plain part of an act on a cell; a pause is none, and has none
abbrev pub plain_cells : List Bool → ℕ → Act → List Bool
plain_cells cells x (Write bit) = slice_set cells x bit
plain_cells cells x other = cells

-- what the plain part answers
abbrev pub plain_answer : List Bool → ℕ → Act → Option Bool
plain_answer cells x Read = Some (cell cells x)
plain_answer cells x other = None

-- the answer of an act that matches: the primitive's, where it has one
abbrev pub answer_or : Option Bool → Option Bool → Option Bool
answer_or None plain = plain
answer_or (Some bit) plain = Some bit

-- the plain part, then the primitive's effect where the act is its own
abbrev pub acted : Primitive → Places → List Bool → ℕ → Act → List Bool
acted p at cells x act =
    if acts p at cells x act then slice_set (plain_cells cells x act) at.vic p.after else plain_cells cells x act

-- one act on one cell, which is no pause: the plain part, the effect of the primitive where the act is its own, and closing
unfoldable pub step_cells : Primitive → Places → List Bool → ℕ → Act → List Bool
step_cells p at cells x act = close_of p at (acted p at cells x act)

-- what the act answers
unfoldable pub step_answer : Primitive → Places → List Bool → ℕ → Act → Option Bool
step_answer p at cells x act =
    if acts p at cells x act then answer_or p.answer (plain_answer cells x act) else plain_answer cells x act

-- a pause, which is on no cell: the effect of the primitive where the pause is its own and its states hold, and closing;
-- it answers nothing
unfoldable pub pause_cells : Primitive → Places → List Bool → List Bool
pause_cells p at cells = close_of p at (if is_retention p && states_hold p at cells then slice_set cells at.vic p.after else cells)

-- the aggressor's place: there exactly for a primitive with an aggressor, within the array, and not the victim's
abbrev pub FitsAgg : Option Sense → Option ℕ → ℕ → ℕ → Type 0
FitsAgg (Some sense) (Some a) victim size = (a < size) × (a ≢ victim)
FitsAgg None None victim size = Unit {0}
FitsAgg agg place victim size = ⊥

-- the places of an instance in an array of this size
pub record FitsPlace (p : Primitive) (at : Places) (size : ℕ) : Type 0 where
  pub victim : at.vic < size
  pub aggressor : FitsAgg p.agg at.agg at.vic size
