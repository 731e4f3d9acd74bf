use Rattle.std.proofs.Common.{◌≡◌, ◌∙◌, length, sym, arith}
use Rattle.std.proofs.lemmas.List.{drop_all}
use Rattle.bist_text.specs.ByteSets.{in_set}
use Rattle.bist_text.proofs.Runs.{run_on, run_stop, run_end}
use Rattle.bist_text.proofs.cursors.run_len.Goals as goal

pub returns-then-not-contains-clause-value : goal.returns-then-not-contains-clause-value
returns-then-not-contains-clause-value c =
    run_stop (in_set c.args.set) c.args.bytes.now c.loop-i.i _ c.loop-i-test.true (sym c.contains.ensures ∙ c.if-not-contains.true) c.loop-i.invariant

pub loop-i-preserved : goal.loop-i-preserved
loop-i-preserved c =
    run_on (in_set c.args.set) c.args.bytes.now c.loop-i.i _ c.loop-i-test.true (sym c.contains.ensures ∙ c.if-not-contains.false) c.loop-i.invariant

pub returns-clause-value : goal.returns-clause-value
returns-clause-value c =
    let at_end : length c.args.bytes.now ≡ c.loop-i.i = omega arith in
    at_end ∙ run_end (in_set c.args.set) c.args.bytes.now c.loop-i.i _ (drop_all c.loop-i.i c.args.bytes.now c.loop-i-test.false) c.loop-i.invariant
