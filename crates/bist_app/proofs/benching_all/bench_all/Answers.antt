use Rattle.bist_app.proofs.Common.{◌++◌, ◌∙◌, ℕ, List, ap, map, subst, sym, written_of}
use Rattle.bist_app.specs.BenchAll.{LeavesAll, LeavesNone, all_line}
use Rattle.bist_app.proofs.AllBenched.{all_gone, boxes_benched}
use Rattle.bist_app.proofs.Refusing.{passed_on}
use Rattle.bist_app.proofs.benching_all.bench_all.Goals as goal

pub returns-clause-answer : goal.returns-clause-answer
unfolding LeavesAll
returns-clause-answer g c =
    boxes_benched _ c.args.march.now c.args.memory.now c.args.devices.now.items c.in_ok-failing.failing c.len-count.result _ _ c.in_ok-failing.ensures.counts
    (c.len-count.ensures ∙ c.args.devices.now.ok.0) (ap (map written_of) c.new.ensures.items)
    (c.in_ok-put_failing.ensures ∙ ap (λ (xs : List ℕ). xs ++ all_line c.len-count.result c.in_ok-failing.failing) c.new-line.ensures.items)

pub returns-in_err-put_failing-clause-left : goal.returns-in_err-put_failing-clause-left
returns-in_err-put_failing-clause-left g c =
    subst (LeavesNone _ _) (sym (passed_on _ _ c.from_residual-in_err-put_failing.ensures)) (all_gone _ _ _ c.in_ok-failing.ensures.none_left)
