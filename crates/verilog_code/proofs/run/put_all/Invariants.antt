use Rattle.std.proofs.Common.{◌≡◌, ◌+◌, length, drop}
use Rattle.verilog_code.specs.Places.{put_all}
use Rattle.verilog_code.proofs.run.put_all.Given as goal

abbrev pub invariant-loop-i : goal.invariant-loop-i
invariant-loop-i g l = record {
  value : put_all (l.first + l.i) (drop l.i l.all) l.values.items ≡ put_all l.first l.all l.initial.values.items;
  room : length l.values.items ≡ length l.initial.values.items;
}
