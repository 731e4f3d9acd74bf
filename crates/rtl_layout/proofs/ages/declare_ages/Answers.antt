use Rattle.rtl_layout.proofs.Declared.{ages_turn, ages_end}
use Rattle.rtl_layout.proofs.ages.declare_ages.Goals as goal

pub loop-i-preserved : goal.loop-i-preserved
loop-i-preserved c = ages_turn c.args.many c.args.width c.loop-i.i c.args.delay _ _ _ c.loop-i-test.true c.in_ok-declare_age.ensures c.loop-i.invariant

pub returns : goal.returns
returns c =
    ages_end c.args.many c.args.width c.loop-i.i c.args.delay _ _ _ _ _ _ c.loop-i-test.false c.loop-i.auto.i-end c.aged.ensures c.aged-2.ensures
    c.in_ok-register.ensures c.in_ok-register-2.ensures c.loop-i.invariant
