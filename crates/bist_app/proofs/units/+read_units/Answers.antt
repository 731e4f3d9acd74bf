use Rattle.bist_app.proofs.Common.{rules}
use Rattle.bist_app.proofs.Refusing.{stopped}
use Rattle.bist_app.proofs.ReadUnits.{nothing_read, one_more, units_stop, units_go_on}
use Rattle.bist_app.proofs.units.+read_units.Goals as goal

pub read_units-requires : goal.read_units-requires
read_units-requires g t c κs within =
    let appended = c.in_ok-read_unit-in-len1-up.ensures.answer in
    (search rules, (search rules, (search rules, one_more _ _ _ appended.0 c.requires.counted appended.2)))

pub returns-in-empty-clause-answer : goal.returns-in-empty-clause-answer
returns-in-empty-clause-answer g t c = nothing_read (g.H.Host.state c.args.host.now).files c.args.number c.args.units.now c.args.table.now c.in-empty.len_below

pub returns-in_err-read_unit-in-len1-up-clause-answer : goal.returns-in_err-read_unit-in-len1-up-clause-answer
returns-in_err-read_unit-in-len1-up-clause-answer g t c =
    units_stop (g.H.Host.state c.args.host.now).files c.args.number c.args.units.now c.first-item.result c.args.table.now c.read_unit.new.table c.read_unit.new.table c.from_residual.result
    c.in_err-read_unit-in-len1-up.field-0.0 (stopped c.from_residual.result c.in_err-read_unit-in-len1-up.field-0.0 c.from_residual.ensures)
    c.in-len1-up.len_at_least c.first-item.is c.in_err-read_unit-in-len1-up.ensures.answer

pub returns-in_ok-read_unit-in-len1-up-clause-answer : goal.returns-in_ok-read_unit-in-len1-up-clause-answer
returns-in_ok-read_unit-in-len1-up-clause-answer g t c =
    units_go_on (g.H.Host.state c.args.host.now).files (g.H.Host.state c.read_unit.new.host).files c.args.number c.args.units.now c.first-item.result c.args.table.now c.read_unit.new.table
    c.read_units.new.table c.read_units.result c.in-len1-up.len_at_least c.first-item.is c.in_ok-read_unit-in-len1-up.ensures.kept.files
    c.in_ok-read_unit-in-len1-up.ensures.answer c.read_units.ensures.answer
