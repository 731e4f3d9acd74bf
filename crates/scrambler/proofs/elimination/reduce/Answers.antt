use Rattle.std.proofs.Common.{◌≡◌, ℕ, ◌*◌, ◌^◌, ◌%◌, slice_index, refl, sym, ◌∙◌, subst, add-one, bit_or}
use Rattle.std.proofs.Math.Path.{ap₂}
use Rattle.scrambler.specs.Linear.{dot}
use Rattle.scrambler.specs.Reduced.{Reduced}
use Rattle.scrambler.specs.inner.Reduced.{ClearsBy}
use Rattle.scrambler.specs.Scrambling.{IsLeastDependence, matrix_of, row}
use Rattle.scrambler.proofs.ScramblingLemmas.{units_reduced, dependence, row-matrix_of}
use Rattle.scrambler.proofs.EliminationLemmas.{swap_keeps, clear_keeps}
use Rattle.scrambler.proofs.Clearing.{SwapsAt-swapped}
use Rattle.scrambler.proofs.elimination.reduce.Goals as goal

pub loop-i-init : goal.loop-i-init
loop-i-init c =
    let m = c.args.matrix.now in units_reduced m.width (row (matrix_of m.width m.rows m.constant)) c.requires.narrow

pub returns-in-None-clause-err : goal.returns-in-None-clause-err
returns-in-None-clause-err c =
    let m = c.args.matrix.now in
    subst (λ (set : ℕ). IsLeastDependence (matrix_of m.width m.rows m.constant) (bit_or (1 * 2 ^ c.loop-i.i % 65536) set)) (sym c.product.ensures)
    (dependence m.width m.rows m.constant c.loop-i.i (slice_index m.rows c.loop-i.i) (slice_index c.loop-i.vectors) c.requires
    c.loop-i.invariant c.loop-i-test.true refl c.in-None.ensures.none)

pub loop-i-preserved : goal.loop-i-preserved
loop-i-preserved c =
    let m = c.args.matrix.now in
    let i = c.loop-i.i in
    let p = c.in-Some.p in
    let rows = row (matrix_of m.width m.rows m.constant) in
    let swapped = SwapsAt-swapped c.loop-i.vectors c.swap.new.self i p m.width c.swap.ensures.by_index in
    let taken = c.in-Some.ensures.some in
    let is_row : slice_index m.rows i ≡ rows i = sym (row-matrix_of m.width m.rows m.constant i c.loop-i-test.true) in
    let kept = swap_keeps m.width i p rows (slice_index c.loop-i.vectors) (slice_index c.swap.new.self) c.loop-i.invariant swapped
    c.loop-i-test.true taken.0 taken.1 in
    let own : dot (rows i) (slice_index c.swap.new.self i) ≡ 1 = ap₂ dot (sym is_row) swapped.first ∙ taken.2 in
    let cleared : ClearsBy i m.width (rows i) (slice_index c.swap.new.self) (slice_index c.clear.new.vectors) =
    subst (λ (r : ℕ). ClearsBy i m.width r (slice_index c.swap.new.self) (slice_index c.clear.new.vectors)) is_row c.clear.ensures in
    subst (λ (n : ℕ). Reduced m.width n rows (slice_index c.clear.new.vectors)) (sym (add-one i))
    (clear_keeps m.width i rows (slice_index c.swap.new.self) (slice_index c.clear.new.vectors) kept cleared c.loop-i-test.true own)
