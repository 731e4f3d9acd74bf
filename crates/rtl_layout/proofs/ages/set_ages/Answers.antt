use Rattle.std.proofs.Common.{codes}
use Rattle.verilog_tree.specs.Plain.{SetTo}
use Rattle.rtl_layout.specs.inner.Layout as LInner
use Rattle.rtl_layout.proofs.Declared.{sets_turn, sets_end}
use Rattle.rtl_layout.proofs.Joined.{aged_next}
use Rattle.rtl_layout.proofs.Rowed.{row_is}
use Rattle.rtl_layout.proofs.ages.set_ages.Goals as goal

pub loop-i-preserved : goal.loop-i-preserved
loop-i-preserved c = sets_turn c.args.many c.args.width c.loop-i.i c.args.delay _ _ _ c.loop-i-test.true c.in_ok-set_age.ensures c.loop-i.invariant

pub returns : goal.returns
returns c =
    let d = c.args.delay in
    sets_end c.set_all.result c.args.many c.args.width c.loop-i.i d _ _ _ c.loop-i-test.false c.loop-i.auto.i-end
    (c.set_all.ensures (LInner.end_age_sets d) (
      row_is SetTo _ _ c.gated_reads.result _ (aged_next (codes "reads") _ d c.aged.ensures) c.gated_reads.ensures,
      (row_is SetTo _ _ c.gated_over.result _ (aged_next (codes "over") _ d c.aged-2.ensures) c.gated_over.ensures, tt),
    ))
    c.loop-i.invariant
