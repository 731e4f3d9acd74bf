use Rattle.std.proofs.Common.{◌≡◌, length, map, take, get_or}
use Rattle.verilog_code.proofs.run.show.Given as goal

abbrev pub invariant-loop-i : goal.invariant-loop-i
invariant-loop-i g l = record {
  value : take l.i l.shown.items ≡ map (λ k. get_or l.values k g.V.NetValue.zero) (take l.i l.places);
  room : length l.shown.items ≡ length l.initial.shown.items;
}
