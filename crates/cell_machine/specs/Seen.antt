-- Public. A pair as two cells of an array.
use Rattle.std.specs.Prelude.{ℕ, Bool, if◌then◌else◌, Some, None, List, [], ◌∷◌}
use Rattle.fault_core.specs.declared.cells.Places.{Places}
use Rattle.fault_core.specs.Primitive.{Primitive, has_aggressor}
use Rattle.fault_core.specs.Cells.{cell}
use Rattle.cell_machine.specs.declared.pair.Pair.{Pair}
use Rattle.cell_machine.specs.declared.pair.Side.{Side}
use Rattle.cell_machine.specs.declared.pair.Side.TheVariants.{A, V}
use Rattle.cell_machine.specs.Pairs.{pair_of}

-- a pair alone: an array of two cells, with the aggressor or the bystander first
abbrev pub cells_of : Pair → List Bool
cells_of pair = pair.a ∷ pair.v ∷ []

-- where the primitive stands in it
abbrev pub pair_places : Primitive → Places
pair_places p = record { agg = if has_aggressor p then Some 0 else None; vic = 1 }

-- the cell of a side, where the pair is cells a and v
abbrev pub place_of : ℕ → ℕ → Side → ℕ
place_of a v A = a
place_of a v V = v

-- the pair in an array of any length
abbrev pub pair_at : List Bool → ℕ → ℕ → Pair
pair_at cells a v = pair_of (cell cells a) (cell cells v)
