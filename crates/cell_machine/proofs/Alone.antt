-- A pair alone, as an array of two cells.
use Rattle.std.proofs.Common.{◌≡◌, Bool, List, [], ◌∷◌, length, refl, ap, sym, ◌∙◌, arith}
use Rattle.fault_core.specs.declared.primitive.Act.{Act}
use Rattle.fault_core.specs.Primitive.{Primitive}
use Rattle.fault_core.specs.Cells.{close_of, step_cells, step_answer, pause_cells}
use Rattle.cell_machine.specs.declared.pair.Pair.{Pair}
use Rattle.cell_machine.specs.declared.pair.Side.{Side}
use Rattle.cell_machine.specs.declared.pair.Side.TheVariants.{A, V}
use Rattle.cell_machine.specs.Pairs.{pair_close, pair_step, pair_answer, pair_pause}
use Rattle.cell_machine.specs.Seen.{cells_of, pair_places, place_of, pair_at}
use Rattle.cell_machine.specs.inner.Seen.{SeesPair}
use Rattle.cell_machine.proofs.Projection.{pair_at-close_of, pair_at-step_victim, pair_at-step_aggressor, step_answer-victim, step_answer-aggressor, length-close_of, length-step_cells, pair_at-pause_cells, length-pause_cells}

sees_alone : (p : Primitive) (pair : Pair) → SeesPair p (pair_places p) 0 (length (cells_of pair))
sees_alone p pair = record { aggressor = refl; apart = omega arith; victim = omega arith }

cells_of-pair_at : (cells : List Bool) → length cells ≡ 2 → cells_of (pair_at cells 0 1) ≡ cells
cells_of-pair_at [] e = cc
cells_of-pair_at (a ∷ []) e = cc
cells_of-pair_at (a ∷ v ∷ []) e = refl
cells_of-pair_at (a ∷ v ∷ b ∷ rest) e = absurd (omega arith)

pub close_as_cells : (p : Primitive) (pair : Pair) → cells_of (pair_close p pair) ≡ close_of p (pair_places p) (cells_of pair)
close_as_cells p pair =
    ap cells_of (sym (pair_at-close_of p (pair_places p) 0 (cells_of pair) (sees_alone p pair)))
    ∙ cells_of-pair_at _ (length-close_of p (pair_places p) (cells_of pair))

pub pause_as_cells : (p : Primitive) (pair : Pair) → cells_of (pair_pause p pair) ≡ pause_cells p (pair_places p) (cells_of pair)
pause_as_cells p pair =
    ap cells_of (sym (pair_at-pause_cells p (pair_places p) 0 (cells_of pair) (sees_alone p pair)))
    ∙ cells_of-pair_at _ (length-pause_cells p (pair_places p) (cells_of pair))

pub step_as_cells : (p : Primitive) (pair : Pair) (on : Side) (act : Act)
    → cells_of (pair_step p pair on act) ≡ step_cells p (pair_places p) (cells_of pair) (place_of 0 1 on) act
step_as_cells p pair A act =
    ap cells_of (sym (pair_at-step_aggressor p (pair_places p) 0 (cells_of pair) act (sees_alone p pair) (omega arith)))
    ∙ cells_of-pair_at _ (length-step_cells p (pair_places p) (cells_of pair) 0 act)
step_as_cells p pair V act =
    ap cells_of (sym (pair_at-step_victim p (pair_places p) 0 (cells_of pair) act (sees_alone p pair)))
    ∙ cells_of-pair_at _ (length-step_cells p (pair_places p) (cells_of pair) 1 act)

pub answer_as_cells : (p : Primitive) (pair : Pair) (on : Side) (act : Act)
    → pair_answer p pair on act ≡ step_answer p (pair_places p) (cells_of pair) (place_of 0 1 on) act
answer_as_cells p pair A act = sym (step_answer-aggressor p (pair_places p) 0 2 (cells_of pair) act (sees_alone p pair))
answer_as_cells p pair V act = sym (step_answer-victim p (pair_places p) 0 2 (cells_of pair) act (sees_alone p pair))
