use Rattle.std.proofs.lemmas.Bool.{eqb-false}
use Rattle.chip_desc.proofs.Common.{ap, arith, eqb-true, length, map, statements, sym, text_lines, unit_of, ◌++◌, ◌∙◌}
use Rattle.chip_desc.proofs.UnitLines.{few_units, no_unit, one_more, one_too_many, still_ranged, unit_fits}
use Rattle.chip_desc.proofs.units.units_of.Goals as goal

pub unit_from-requires-clause-march : goal.unit_from-requires-clause-march
unit_from-requires-clause-march c = (unit_fits c.in-Some.ensures.steps c.unit_in.result c.in-Some-unit_in.unit c.unit_in.ensures c.in-Some-unit_in.is c.loop-line.invariant.ranged).0.bytes

pub unit_from-requires-clause-march_short : goal.unit_from-requires-clause-march_short
unit_from-requires-clause-march_short c = (unit_fits c.in-Some.ensures.steps c.unit_in.result c.in-Some-unit_in.unit c.unit_in.ensures c.in-Some-unit_in.is c.loop-line.invariant.ranged).0.short

pub unit_from-requires-clause-memory : goal.unit_from-requires-clause-memory
unit_from-requires-clause-memory c = (unit_fits c.in-Some.ensures.steps c.unit_in.result c.in-Some-unit_in.unit c.unit_in.ensures c.in-Some-unit_in.is c.loop-line.invariant.ranged).1.bytes

pub unit_from-requires-clause-memory_short : goal.unit_from-requires-clause-memory_short
unit_from-requires-clause-memory_short c = (unit_fits c.in-Some.ensures.steps c.unit_in.result c.in-Some-unit_in.unit c.unit_in.ensures c.in-Some-unit_in.is c.loop-line.invariant.ranged).1.short

pub returns-then-is_full : goal.returns-then-is_full
returns-then-is_full c =
    one_too_many c.in-Some.ensures.steps c.unit_in.result c.in-Some-unit_in.unit c.unit_in.ensures c.in-Some-unit_in.is c.loop-line.units.items (statements (text_lines c.args.bytes.now)) (eqb-true (length c.loop-line.units.items) 16 (sym c.is_full.ensures.value ∙ c.if-is_full.true))
    c.loop-line.invariant.taken

pub loop-line-preserved-in_default : goal.loop-line-preserved-in_default
loop-line-preserved-in_default c = record {
  can_next = tt;
  is_finite = tt;
  few = c.loop-line.invariant.few;
  taken = ap (λ ds. map unit_of c.loop-line.units.items ++ ds) (sym (no_unit c.in-Some.ensures.steps c.in_default.ensures)) ∙ c.loop-line.invariant.taken;
  ranged = still_ranged c.in-Some.ensures.steps c.loop-line.invariant.ranged;
}

pub loop-line-preserved : goal.loop-line-preserved
loop-line-preserved c = record {
  can_next = tt;
  is_finite = tt;
  few = omega (arith, eqb-false _ _ (sym c.is_full.ensures.value ∙ c.if-is_full.false));
  taken =
      one_more c.in-Some.ensures.steps c.unit_in.result c.in-Some-unit_in.unit c.unit_in.ensures c.in-Some-unit_in.is c.loop-line.units.items c.push.new.self.items c.unit_from.result _
      c.push.ensures.items c.unit_from.ensures c.loop-line.invariant.taken;
  ranged = still_ranged c.in-Some.ensures.steps c.loop-line.invariant.ranged;
}

pub returns : goal.returns
returns c = few_units c.loop-line.units.items _ (statements (text_lines c.args.bytes.now)) c.in-None.ensures.steps.0 c.loop-line.invariant.few c.loop-line.invariant.taken
