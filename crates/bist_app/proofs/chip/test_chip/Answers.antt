use Rattle.bist_app.proofs.Common.{Ok, Err, [], refl, subst}
use Rattle.bist_app.specs.Chip.{GivesUnits}
use Rattle.bist_app.proofs.Refusing.{passed_on}
use Rattle.bist_app.proofs.ChipChecks.{few_lines, units_read, ready, names_checked}
use Rattle.bist_app.proofs.chip.test_chip.Goals as goal

pub read_units-requires-clause-few : goal.read_units-requires-clause-few
read_units-requires-clause-few g c = few_lines c.args.chip.now c.units.result.now c.units.ensures.value c.units.ensures.chip

pub read_units-requires-clause-counted : goal.read_units-requires-clause-counted
read_units-requires-clause-counted g c = ([], c.no_units-table.ensures, refl)

pub plan_chip-requires : goal.plan_chip-requires
plan_chip-requires g c =
    let r = units_read (g.H.Host.state c.args.host.now).files c.args.chip.now c.units.result.now c.no_units-table.result c.read_units.new.table c.units.ensures.value c.units.ensures.chip
    c.no_units-table.ensures c.in_ok-read_units.ensures.answer in
    (r.units, ready c.args.chip.now c.read_units.new.table r.units c.name.result.now c.deref.result.now c.name.ensures.value c.deref.ensures.value r.has_read c.in_ok-check_names.ensures.answer)

pub returns-in_err-read_units-clause-answer : goal.returns-in_err-read_units-clause-answer
returns-in_err-read_units-clause-answer g c = (
  Err c.in_err-read_units.field-0.0,
  subst (λ ds. GivesUnits (g.H.Host.state c.args.host.now).files 0 ds (Err c.in_err-read_units.field-0.0)) c.units.ensures.value c.in_err-read_units.ensures.answer,
  passed_on _ _ c.from_residual.ensures,
)

pub returns-in_err-check_names-clause-answer : goal.returns-in_err-check_names-clause-answer
returns-in_err-check_names-clause-answer g c =
    let r = units_read (g.H.Host.state c.args.host.now).files c.args.chip.now c.units.result.now c.no_units-table.result c.read_units.new.table c.units.ensures.value c.units.ensures.chip
    c.no_units-table.ensures c.in_ok-read_units.ensures.answer in
    let names = names_checked c.args.chip.now c.read_units.new.table r.units c.name.result.now c.deref.result.now (Err c.in_err-check_names.field-0.0) c.name.ensures.value c.deref.ensures.value r.has_read
    c.in_err-check_names.ensures.answer in
    (Ok r.units, r.gives, (Err c.in_err-check_names.field-0.0, names, passed_on _ _ c.from_residual-in_err-check_names.ensures))

pub returns-clause-answer : goal.returns-clause-answer
returns-clause-answer g c =
    let r = units_read (g.H.Host.state c.args.host.now).files c.args.chip.now c.units.result.now c.no_units-table.result c.read_units.new.table c.units.ensures.value c.units.ensures.chip
    c.no_units-table.ensures c.in_ok-read_units.ensures.answer in
    let names = names_checked c.args.chip.now c.read_units.new.table r.units c.name.result.now c.deref.result.now (Ok tt) c.name.ensures.value c.deref.ensures.value r.has_read
    c.in_ok-check_names.ensures.answer in
    let is_ready = ready c.args.chip.now c.read_units.new.table r.units c.name.result.now c.deref.result.now c.name.ensures.value c.deref.ensures.value r.has_read c.in_ok-check_names.ensures.answer in
    (Ok r.units, r.gives, (Ok tt, names, c.plan_chip.ensures.answer r.units is_ready))
