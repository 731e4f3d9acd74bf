-- Trusted. What one instance of a dynamic primitive does to an array of cells, step by step.
use Rattle.std.specs.Prelude.{◌==◌, ℕ, Bool, true, false, ◌&&◌, if◌then◌else◌, Option, Some, None, List, slice_set}
use Rattle.fault_core.specs.declared.primitive.Act.{Act}
use Rattle.fault_core.specs.declared.cells.Places.{Places}
use Rattle.fault_core.specs.Primitive.{same_bit}
use Rattle.fault_core.specs.Cells.{cell, same_act, plain_cells, plain_answer, answer_or}
use Rattle.dynamic_core.specs.declared.stepping.Actor.{Actor}
use Rattle.dynamic_core.specs.Primitive.{TwoActs, DynamicSense, DynamicPrimitive, left_by}

-- the cell whose sense has the acts, with its state and the acts
abbrev pub actor_on : ℕ → Bool → Option TwoActs → Option Actor
actor_on x state None = None
actor_on x state (Some acts) = Some (record { place = x; state = state; first = acts.first; second = acts.second })

abbrev pub agg_actor : Option DynamicSense → Option ℕ → Option Actor
agg_actor (Some sense) (Some a) = actor_on a sense.state sense.acts
agg_actor agg place = None

abbrev pub actor_or : Option Actor → Option Actor → Option Actor
actor_or None other = other
actor_or (Some actor) other = Some actor

abbrev pub actor_of : DynamicPrimitive → Places → Option Actor
actor_of p at = actor_or (actor_on at.vic p.vic.state p.vic.acts) (agg_actor p.agg at.agg)

-- whether the aggressor's cell holds its state, where there is an aggressor
abbrev pub agg_state_holds : Option DynamicSense → Option ℕ → List Bool → Bool
agg_state_holds (Some sense) (Some a) cells = same_bit (cell cells a) sense.state
agg_state_holds agg place cells = true

-- whether every state of the primitive holds
abbrev pub all_states_hold : DynamicPrimitive → Places → List Bool → Bool
all_states_hold p at cells = same_bit (cell cells at.vic) p.vic.state && agg_state_holds p.agg at.agg cells

-- the cells, and whether the first act was done just now
pub record Held : Type 0 where
  pub cells : List Bool
  pub armed : Bool

abbrev pub held_as : List Bool → Bool → Held
held_as cells armed = record { cells = cells; armed = armed }

-- whether the step is the second act, right behind the first
abbrev pub matches_of : Option Actor → Bool → ℕ → Act → Bool
matches_of None armed x act = false
matches_of (Some s) armed x act = armed && ((s.place == x) && same_act act s.second)

-- whether the step is the first act, on contents where the states hold, and leaves its cell as it plainly would
abbrev pub arms_of : Option Actor → Bool → List Bool → ℕ → Act → Bool
arms_of None holds after x act = false
arms_of (Some s) holds after x act =
    ((s.place == x) && same_act act s.first) && (holds && same_bit (cell after s.place) (left_by s.state s.first))

abbrev pub set_where : Bool → List Bool → ℕ → Bool → List Bool
set_where hit cells v bit = if hit then slice_set cells v bit else cells

-- the cells after one act on one cell: the plain part, and the effect of the primitive where it is the second act
unfoldable pub dyn_cells : DynamicPrimitive → Places → Held → ℕ → Act → List Bool
dyn_cells p at h x act = set_where (matches_of (actor_of p at) h.armed x act) (plain_cells h.cells x act) at.vic p.after

-- one act on one cell
unfoldable pub dyn_step : DynamicPrimitive → Places → Held → ℕ → Act → Held
dyn_step p at h x act =
    held_as (dyn_cells p at h x act) (arms_of (actor_of p at) (all_states_hold p at h.cells) (dyn_cells p at h x act) x act)

-- what the act answers
unfoldable pub dyn_answer : DynamicPrimitive → Places → Held → ℕ → Act → Option Bool
dyn_answer p at h x act =
    if matches_of (actor_of p at) h.armed x act then answer_or p.answer (plain_answer h.cells x act) else plain_answer h.cells x act

-- a pause changes no cell and leaves nothing armed
abbrev pub after_pause : Held → Held
after_pause h = held_as h.cells false
