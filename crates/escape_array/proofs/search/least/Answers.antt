use Rattle.std.proofs.Common.{◌≡◌, ◌∙◌, sym, true, false}
use Rattle.std.specs.Prelude.{is_some}
use Rattle.escape_array.proofs.LeastArray.{least_alone, least_below, least_above}
use Rattle.escape_array.proofs.search.least.Goals as goal

pub returns-then-not-is_two_cell : goal.returns-then-not-is_two_cell
returns-then-not-is_two_cell c =
    let one : is_some c.args.prim.now.agg ≡ false = sym c.is_two_cell.ensures ∙ c.if-not-is_two_cell.true in
    least_alone c.args.march.now c.args.prim.now one c.least_in.result c.least_in.ensures

pub returns-in-Some : goal.returns-in-Some
returns-in-Some c =
    let two : is_some c.args.prim.now.agg ≡ true = sym c.is_two_cell.ensures ∙ c.if-not-is_two_cell.false in
    least_below c.args.march.now c.args.prim.now two c.in-Some.escape c.in-Some.ensures

pub returns-in-None : goal.returns-in-None
returns-in-None c =
    let two : is_some c.args.prim.now.agg ≡ true = sym c.is_two_cell.ensures ∙ c.if-not-is_two_cell.false in
    least_above c.args.march.now c.args.prim.now two c.in-None.ensures c.least_in-in-None.result c.least_in-in-None.ensures
