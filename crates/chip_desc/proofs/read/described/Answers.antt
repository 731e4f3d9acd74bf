use Rattle.chip_desc.proofs.Common.{Err, IsName, ap, heavier_than, out_of_range, passed, plain_statement, refl, statements, subst, sym, text_lines, ◌∙◌}
use Rattle.chip_desc.specs.Chips.{described_as}
use Rattle.std.proofs.lemmas.Result.{err_from_is_err_and}
use Rattle.chip_desc.proofs.Described.{named, is_chip, comes_to, is_refused, is_described, parts_same}
use Rattle.chip_desc.proofs.read.described.Goals as goal

pub returns-in_err-check_none-3 : goal.returns-in_err-check_none-3
returns-in_err-check_none-3 c =
    let ss = statements (text_lines c.args.bytes.now) in
    let n = c.budget_of-budget.result in
    let p = err_from_is_err_and c.from_residual-in_err-check_none-3.result c.from_residual-in_err-check_none-3.ensures.1 in
    p.1 ∙ ap Err p.2
    ∙ is_refused ss n _
    (comes_to ss n (plain_statement c.in_ok-name_line.name_line) (plain_statement c.in_ok-budget_line.budget_line) (plain_statement c.in_ok-field.field-0) c.in_ok-check_none.ensures
    c.in_ok-name_line.ensures c.in_ok-budget_line.ensures c.in_ok-field.ensures c.in_ok-check_none-2.ensures c.in_ok-units.ensures.0 c.budget_of-budget.ensures)
    c.in_err-check_none-3.ensures

pub name_from-name-requires : goal.name_from-name-requires
name_from-name-requires c =
    let ls = text_lines c.args.bytes.now in
    subst IsName (sym c.name_of.ensures) (named ls (plain_statement c.in_ok-name_line.name_line) (passed (out_of_range (statements ls)) c.in_ok-check_none-2.ensures) c.in_ok-name_line.ensures)

pub invariant_of-result : goal.invariant_of-result
invariant_of-result c =
    let ls = text_lines c.args.bytes.now in
    let ss = statements ls in
    let n = c.budget_of-budget.result in
    let inside = passed (out_of_range ss) c.in_ok-check_none-2.ensures in
    is_chip ls (plain_statement c.in_ok-budget_line.budget_line) (plain_statement c.in_ok-field.field-0) c.name_from-name.result.bytes n c.in_ok-units.units.items
    (subst IsName (sym (c.name_from-name.ensures ∙ c.name_of.ensures)) (named ls (plain_statement c.in_ok-name_line.name_line) inside c.in_ok-name_line.ensures))
    c.in_ok-budget_line.ensures c.in_ok-field.ensures inside c.budget_of-budget.ensures c.in_ok-units.ensures.0 c.in_ok-units.ensures.1
    (passed (heavier_than n ss) c.in_ok-check_none-3.ensures)

pub returns : goal.returns
returns c =
    let ss = statements (text_lines c.args.bytes.now) in
    let n = c.budget_of-budget.result in
    let chip = described_as c.name_from-name.result.bytes n c.in_ok-units.units.items in
    is_described ss chip n
    (comes_to ss n (plain_statement c.in_ok-name_line.name_line) (plain_statement c.in_ok-budget_line.budget_line) (plain_statement c.in_ok-field.field-0) c.in_ok-check_none.ensures
    c.in_ok-name_line.ensures c.in_ok-budget_line.ensures c.in_ok-field.ensures c.in_ok-check_none-2.ensures c.in_ok-units.ensures.0 c.budget_of-budget.ensures)
    c.in_ok-check_none-3.ensures
    (parts_same ss chip (plain_statement c.in_ok-name_line.name_line) (plain_statement c.in_ok-budget_line.budget_line) c.name_from-name.result.bytes n c.in_ok-units.units.items refl
    c.in_ok-name_line.ensures (c.name_from-name.ensures ∙ c.name_of.ensures) c.in_ok-budget_line.ensures c.budget_of-budget.ensures c.in_ok-units.ensures.1)
