use Rattle.std.proofs.Common.{◌≡◌, ◌<◌, ◌≤◌, ◌+◌, ℕ, ap, refl, arith, ◌∙◌}
use Rattle.verilog_code.specs.Places.{put_all}
use Rattle.verilog_code.proofs.Loops.{one_put, all_put}
use Rattle.verilog_code.proofs.run.renew_all.Goals as goal

from : (first : ℕ) → first + 0 ≡ first
from first = omega arith

pub loop-i-init : goal.loop-i-init
loop-i-init g c = record {
  value = ap (λ k. put_all k c.args.all.now c.args.values.now.items) (from c.args.first);
  room = refl;
  known = λ k ss lt r h. h;
}

below : (first i n k : ℕ) → i < n → first + n ≤ k → first + i < k
below first i n k inside all = omega arith

pub loop-i-preserved : goal.loop-i-preserved
loop-i-preserved g c = record {
  value = one_put c.args.all.now c.args.first c.loop-i.i c.index-all-i.result c.loop-i.values.items c.renew-changed.new.values.items (put_all c.args.first c.args.all.now c.args.values.now.items) c.loop-i-test.true c.index-all-i.is c.renew-changed.ensures.items c.loop-i.invariant.value;
  room = c.renew-changed.ensures.len ∙ c.loop-i.invariant.room;
  known = λ k ss lt r h. c.renew-changed.ensures.known k ss (below c.args.first c.loop-i.i _ k c.loop-i-test.true lt) r (c.loop-i.invariant.known k ss lt r h);
}

pub returns-clause-items : goal.returns-clause-items
returns-clause-items g c = all_put c.args.all.now c.args.first c.loop-i.i _ _ c.loop-i-test.false c.loop-i.invariant.value

pub returns-clause-known : goal.returns-clause-known
returns-clause-known g c = c.loop-i.invariant.known
