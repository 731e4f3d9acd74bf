use Rattle.bist_app.proofs.Common.{unit_of}
use Rattle.bist_app.proofs.Refusing.{stopped}
use Rattle.bist_app.proofs.ReadUnits.{unit_read, memory_refused, unit_stops}
use Rattle.bist_app.proofs.units.read_unit.Goals as goal

pub returns-in_err-memory-clause-answer : goal.returns-in_err-memory-clause-answer
returns-in_err-memory-clause-answer g c =
    unit_stops (g.H.Host.state c.args.host.now).files c.args.number (unit_of c.args.unit.now) c.args.table.now c.args.table.now c.from_residual-in_err-memory.result c.in_err-memory.field-0.0
    (stopped c.from_residual-in_err-memory.result c.in_err-memory.field-0.0 c.from_residual-in_err-memory.ensures)
    (memory_refused (g.H.Host.state c.args.host.now).files _ c.args.number (unit_of c.args.unit.now) _ _ c.in_ok-march.march c.in_err-memory.field-0.0 c.as_str.ensures.value c.as_str-2.ensures.value
    c.in_ok-march.ensures.kept.files c.in_ok-march.ensures.answer c.in_err-memory.ensures.answer)

pub returns-in-Ok-clause-answer : goal.returns-in-Ok-clause-answer
returns-in-Ok-clause-answer g c = (
  record { march = c.in_ok-march.march; memory = c.in_ok-memory.memory; weight = c.args.unit.now.weight },
  unit_read (g.H.Host.state c.args.host.now).files _ c.args.number (unit_of c.args.unit.now) _ _ c.in_ok-march.march c.in_ok-memory.memory c.as_str.ensures.value c.as_str-2.ensures.value
      c.in_ok-march.ensures.kept.files c.in_ok-march.ensures.answer c.in_ok-memory.ensures.answer,
  c.in-Ok.ensures,
)
