-- Public. The two cells of one instance, and what an act on one of them makes of both.
use Rattle.std.specs.Prelude.{Bool, true, not, ◌&&◌, if◌then◌else◌, Option, Some, None}
use Rattle.fault_core.specs.declared.primitive.Act.{Act}
use Rattle.fault_core.specs.declared.primitive.Act.TheVariants.{Write, Read, Pause}
use Rattle.fault_core.specs.declared.primitive.Sense.{Sense}
use Rattle.fault_core.specs.Primitive.{Primitive, same_bit, is_retention}
use Rattle.fault_core.specs.Cells.{has_act, has_this_act, answer_or}
use Rattle.cell_machine.specs.declared.pair.Pair.{Pair}
use Rattle.cell_machine.specs.declared.pair.Side.{Side}
use Rattle.cell_machine.specs.declared.pair.Side.TheVariants.{A, V}

abbrev pub pair_of : Bool → Bool → Pair
pair_of a v = record { a = a; v = v }

-- whether the aggressor's cell holds its state; without an aggressor the cell is a bystander, and nothing is asked
abbrev pub side_holds : Option Sense → Bool → Bool
side_holds None bit = true
side_holds (Some sense) bit = same_bit bit sense.state

-- whether every state of the primitive holds
abbrev pub pair_holds : Primitive → Pair → Bool
pair_holds p pair = same_bit pair.v p.vic.state && side_holds p.agg pair.a

-- the pair with this bit in the victim
abbrev pub with_victim : Pair → Bool → Pair
with_victim pair bit = pair_of pair.a bit

-- closing: a primitive without an act sets its victim where its states hold
unfoldable pub pair_close : Primitive → Pair → Pair
pair_close p pair = if not (has_act p) && pair_holds p pair then with_victim pair p.after else pair

-- the act of the aggressor, if it has one
abbrev pub agg_act_of : Option Sense → Option Act
agg_act_of None = None
agg_act_of (Some sense) = sense.act

-- the act of the primitive on this side, if it has one there
abbrev pub act_on : Primitive → Side → Option Act
act_on p A = agg_act_of p.agg
act_on p V = p.vic.act

-- whether the act is the primitive's own, on contents where its states hold
unfoldable pub pair_acts : Primitive → Pair → Side → Act → Bool
pair_acts p pair on act = has_this_act (act_on p on) act && pair_holds p pair

-- the content of a side
abbrev pub bit_on : Pair → Side → Bool
bit_on pair A = pair.a
bit_on pair V = pair.v

-- the pair with this bit on this side
abbrev pub written_on : Pair → Side → Bool → Pair
written_on pair A bit = pair_of bit pair.v
written_on pair V bit = pair_of pair.a bit

-- the plain part of an act; a pause is on no cell, and has none
abbrev pub plain_pair : Pair → Side → Act → Pair
plain_pair pair on (Write bit) = written_on pair on bit
plain_pair pair on Read = pair
plain_pair pair on Pause = pair

-- what the plain part answers
abbrev pub plain_reply : Pair → Side → Act → Option Bool
plain_reply pair on (Write bit) = None
plain_reply pair on Read = Some (bit_on pair on)
plain_reply pair on Pause = None

-- one act, which is no pause: the plain part, the primitive's effect where the act is its own, and closing
unfoldable pub pair_step : Primitive → Pair → Side → Act → Pair
pair_step p pair on act =
    pair_close p (if pair_acts p pair on act then with_victim (plain_pair pair on act) p.after else plain_pair pair on act)

-- what the act answers
unfoldable pub pair_answer : Primitive → Pair → Side → Act → Option Bool
pair_answer p pair on act =
    if pair_acts p pair on act then answer_or p.answer (plain_reply pair on act) else plain_reply pair on act

-- a pause: the primitive's effect where the pause is its act and its states hold, and closing
unfoldable pub pair_pause : Primitive → Pair → Pair
pair_pause p pair = pair_close p (if is_retention p && pair_holds p pair then with_victim pair p.after else pair)
