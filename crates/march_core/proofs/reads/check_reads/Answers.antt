use Rattle.std.proofs.Common.{◌∙◌, sym, ap, subst, None, take_all}
use Rattle.march_core.specs.Building.{IsRefused}
use Rattle.march_core.specs.inner.Scan.{scan_of}
use Rattle.march_core.specs.March.{all_ops}
use Rattle.march_core.proofs.Consistent.{scan_consistent}
use Rattle.march_core.proofs.Scanning.{element_scanned, stop_refused}
use Rattle.march_core.proofs.reads.check_reads.Goals as goal

pub returns-in-Err : goal.returns-in-Err
returns-in-Err c =
    subst (IsRefused c.args.elements.now) (sym c.refusal.ensures)
    (stop_refused c.args.elements.now c.loop-number.number c.index-elements-number.result c.ops.result.now c.loop-number.last c.in-Err.wrong.last c.in-Err.wrong.op
    c.requires c.loop-number-test.true c.index-elements-number.is c.ops.ensures.value c.loop-number.invariant c.in-Err.ensures)

pub loop-number-preserved : goal.loop-number-preserved
loop-number-preserved c =
    element_scanned c.args.elements.now c.loop-number.number c.index-elements-number.result c.ops.result.now c.loop-number.last c.in-Ok.after
    c.loop-number-test.true c.index-elements-number.is c.ops.ensures.value c.loop-number.invariant c.in-Ok.ensures

pub returns : goal.returns
returns c =
    scan_consistent (all_ops c.args.elements.now) c.loop-number.last
    (ap (λ l. scan_of None (all_ops l)) (sym (take_all c.loop-number.number c.args.elements.now c.loop-number-test.false)) ∙ c.loop-number.invariant)
