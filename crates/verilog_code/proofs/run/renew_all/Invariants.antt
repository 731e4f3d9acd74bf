use Rattle.std.proofs.Common.{◌≡◌, ◌+◌, ◌≤◌, ℕ, List, length, drop}
use Rattle.verilog_code.specs.declared.step.Step.{Step}
use Rattle.verilog_code.specs.Places.{put_all}
use Rattle.verilog_code.specs.Reading.{AreReading, Known}
use Rattle.verilog_code.proofs.run.renew_all.Given as goal

abbrev pub invariant-loop-i : goal.invariant-loop-i
invariant-loop-i g l = record {
  value : put_all (l.first + l.i) (drop l.i l.all) l.values.items ≡ put_all l.first l.all l.initial.values.items;
  room : length l.values.items ≡ length l.initial.values.items;
  known : (k : ℕ) (ss : List Step) → l.first + length l.all ≤ k → AreReading ss → Known g.V.NetValue.zero g.V.NetValue.worth k l.before ss l.initial.values.items → Known g.V.NetValue.zero g.V.NetValue.worth k l.changed ss l.values.items;
}
