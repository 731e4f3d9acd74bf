-- Inner. Only helps proofs: what an instance of a dynamic primitive does to its own two cells.
use Rattle.std.specs.Prelude.{Bool, true, false, ◌&&◌, if◌then◌else◌, Option, Some, None}
use Rattle.fault_core.specs.declared.primitive.Act.{Act}
use Rattle.fault_core.specs.declared.cells.Places.{Places}
use Rattle.fault_core.specs.Primitive.{same_bit}
use Rattle.fault_core.specs.Cells.{same_act, answer_or}
use Rattle.cell_machine.specs.declared.pair.Pair.{Pair}
use Rattle.cell_machine.specs.declared.pair.Side.{Side}
use Rattle.cell_machine.specs.declared.pair.Side.TheVariants.{A, V}
use Rattle.cell_machine.specs.Pairs.{with_victim, bit_on, plain_pair, plain_reply}
use Rattle.pair_tracker.specs.Few.{Machine}
use Rattle.dynamic_core.specs.Primitive.{TwoActs, DynamicSense, DynamicPrimitive, left_by, has_aggressor}
use Rattle.dynamic_prover.specs.declared.own_cells.OwnCells.{OwnCells}

abbrev pub own_as : Pair → Bool → OwnCells
own_as pair armed = record { pair = pair; armed = armed }

-- the side whose sense has the acts
pub record OwnActor : Type 0 where
  pub on : Side
  pub state : Bool
  pub acts : TwoActs

abbrev pub own_actor_on : Side → Bool → Option TwoActs → Option OwnActor
own_actor_on s state None = None
own_actor_on s state (Some acts) = Some (record { on = s; state = state; acts = acts })

abbrev pub own_agg_actor : Option DynamicSense → Option OwnActor
own_agg_actor None = None
own_agg_actor (Some sense) = own_actor_on A sense.state sense.acts

abbrev pub own_actor_or : Option OwnActor → Option OwnActor → Option OwnActor
own_actor_or None other = other
own_actor_or (Some actor) other = Some actor

abbrev pub own_actor_of : DynamicPrimitive → Option OwnActor
own_actor_of p = own_actor_or (own_actor_on V p.vic.state p.vic.acts) (own_agg_actor p.agg)

abbrev pub own_agg_holds : Option DynamicSense → Bool → Bool
own_agg_holds None bit = true
own_agg_holds (Some sense) bit = same_bit bit sense.state

abbrev pub own_holds : DynamicPrimitive → Pair → Bool
own_holds p q = same_bit q.v p.vic.state && own_agg_holds p.agg q.a

abbrev pub same_side : Side → Side → Bool
same_side A A = true
same_side A V = false
same_side V A = false
same_side V V = true

abbrev pub own_matches : Option OwnActor → Bool → Side → Act → Bool
own_matches None armed s act = false
own_matches (Some o) armed s act = armed && (same_side o.on s && same_act act o.acts.second)

abbrev pub own_arms : Option OwnActor → Bool → Pair → Side → Act → Bool
own_arms None holds after s act = false
own_arms (Some o) holds after s act =
    (same_side o.on s && same_act act o.acts.first) && (holds && same_bit (bit_on after o.on) (left_by o.state o.acts.first))

-- the pair after an act, by whether it is the second, right behind the first
abbrev pub pair_where : DynamicPrimitive → Bool → Pair → Side → Act → Pair
pair_where p hit pair s act = if hit then with_victim (plain_pair pair s act) p.after else plain_pair pair s act

abbrev pub own_where : DynamicPrimitive → Bool → Pair → Side → Act → OwnCells
own_where p hit pair s act =
    own_as (pair_where p hit pair s act) (own_arms (own_actor_of p) (own_holds p pair) (pair_where p hit pair s act) s act)

abbrev pub reply_where : DynamicPrimitive → Bool → Pair → Side → Act → Option Bool
reply_where p hit pair s act = if hit then answer_or p.answer (plain_reply pair s act) else plain_reply pair s act

-- one act on one of the two cells, and what it answers
abbrev pub own_step : DynamicPrimitive → OwnCells → Side → Act → OwnCells
own_step p q s act = own_where p (own_matches (own_actor_of p) q.armed s act) q.pair s act

abbrev pub own_answer : DynamicPrimitive → OwnCells → Side → Act → Option Bool
own_answer p q s act = reply_where p (own_matches (own_actor_of p) q.armed s act) q.pair s act

-- nothing is armed
abbrev pub disarmed : OwnCells → OwnCells
disarmed q = own_as q.pair false

-- what an instance makes of its own two cells; an act on another cell and a pause leave nothing armed
abbrev pub machine_of : DynamicPrimitive → Machine OwnCells Side
machine_of p = record {
  step = λ q s act. own_step p q s act;
  answer = λ q s act. own_answer p q s act;
  other = λ q. disarmed q;
  pause = λ q. disarmed q;
}

-- where an instance stands in an array of its two cells alone: the aggressor, or a bystander, comes first
abbrev pub two_places : DynamicPrimitive → Places
two_places p = record { agg = if has_aggressor p then Some 0 else None; vic = 1 }
