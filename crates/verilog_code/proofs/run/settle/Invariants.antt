use Rattle.std.proofs.Common.{◌≡◌, ◌+◌, length, map, drop}
use Rattle.verilog_code.specs.Places.{settled}
use Rattle.verilog_code.specs.Reading.{AreReading, Known}
use Rattle.verilog_code.proofs.run.settle.Given as goal

abbrev pub invariant-loop-i : goal.invariant-loop-i
invariant-loop-i g l = record {
  value : settled g.V.NetValue.worth (l.first + l.i) (map (λ s. s.code.value) (drop l.i l.steps)) l.values.items ≡ settled g.V.NetValue.worth l.first (map (λ s. s.code.value) l.steps) l.initial.values.items;
  room : length l.values.items ≡ length l.initial.values.items;
  reading : AreReading (drop l.i l.steps);
  known : Known g.V.NetValue.zero g.V.NetValue.worth (l.first + l.i) l.changed (drop l.i l.steps) l.values.items;
}
