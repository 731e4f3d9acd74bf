-- Public. What one instance of such a primitive does to an array of cells, step by step.
use Rattle.std.specs.Prelude.{◌==◌, ◌-◌, ℕ, Bool, false, ◌&&◌, if◌then◌else◌, Option, List, [], ◌∷◌, slice_set, slice_index_or, length, replicate, true}
use Rattle.fault_core.specs.declared.primitive.Act.{Act}
use Rattle.fault_core.specs.Primitive.{same_bit}
use Rattle.fault_core.specs.Cells.{cell, same_act, plain_cells, plain_answer, answer_or}
use Rattle.sequence_faults.specs.Primitive.{SequencePrimitive, victim_index, left_by}

-- an instance has an address for each cell of its primitive, in their order
abbrev pub victim_at : SequencePrimitive → List ℕ → ℕ
victim_at p at = slice_index_or at (victim_index p) 0

abbrev pub actor_at : SequencePrimitive → List ℕ → ℕ
actor_at p at = slice_index_or at p.actor 0

-- whether the cells at these addresses hold these states
abbrev pub states_hold : List Bool → List ℕ → List Bool → Bool
states_hold [] at cells = true
states_hold states [] cells = true
states_hold (state ∷ states) (x ∷ at) cells = same_bit (cell cells x) state && states_hold states at cells

-- the cells, and of each beginning of the acts, the shortest first, whether it was done just now
pub record Held : Type 0 where
  pub cells : List Bool
  pub done : List Bool

abbrev pub held_as : List Bool → List Bool → Held
held_as cells done = record { cells = cells; done = done }

-- none was done
abbrev pub nothing : List Bool
nothing = replicate 16 false

-- which beginnings are done with this act: those whose last act it is, where the acts before that were done (`before`, of the first)
abbrev pub done_by : Act → Bool → List Act → List Bool → List Bool
done_by act before [] done = done
done_by act before (own ∷ acts) [] = []
done_by act before (own ∷ acts) (d ∷ done) = (before && same_act act own) ∷ done_by act d acts done

-- the same of an act on one cell; the acts begin on contents where the states hold
abbrev pub begun : SequencePrimitive → List ℕ → Held → ℕ → Act → List Bool
begun p at h x act = if actor_at p at == x then done_by act (states_hold p.states at h.cells) p.acts h.done else nothing

-- whether all acts are done
abbrev pub is_whole : SequencePrimitive → List Bool → Bool
is_whole p done = slice_index_or done (length p.acts - 1) false

abbrev pub set_where : Bool → List Bool → ℕ → Bool → List Bool
set_where hit cells v bit = if hit then slice_set cells v bit else cells

-- the cells after one act on one cell: the plain part, and the effect of the primitive where all acts are done
unfoldable pub seq_cells : SequencePrimitive → List ℕ → Held → ℕ → Act → List Bool
seq_cells p at h x act = set_where (is_whole p (begun p at h x act)) (plain_cells h.cells x act) (victim_at p at) p.after

-- a beginning stays done only where the act leaves its cell as it plainly would
abbrev pub kept_where : Bool → List Bool → List Bool
kept_where plain done = if plain then done else nothing

-- one act on one cell
unfoldable pub seq_step : SequencePrimitive → List ℕ → Held → ℕ → Act → Held
seq_step p at h x act =
    held_as (seq_cells p at h x act) (kept_where (same_bit (cell (seq_cells p at h x act) x) (left_by (cell h.cells x) act)) (begun p at h x act))

-- what the act answers
unfoldable pub seq_answer : SequencePrimitive → List ℕ → Held → ℕ → Act → Option Bool
seq_answer p at h x act = if is_whole p (begun p at h x act) then answer_or p.answer (plain_answer h.cells x act) else plain_answer h.cells x act

-- a pause changes no cell, and nothing was done just before what follows
abbrev pub after_pause : Held → Held
after_pause h = held_as h.cells nothing
