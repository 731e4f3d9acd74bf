use Rattle.std.proofs.Common.{◌≡◌, drop}
use Rattle.sequence_faults.specs.Stepping.{states_hold}
use Rattle.sequence_faults.proofs.stepping.do_states_hold.Given as goal

abbrev pub invariant-loop-i : goal.invariant-loop-i
invariant-loop-i l = states_hold (drop l.i l.states) (drop l.i l.places) l.cells ≡ states_hold l.states l.places l.cells
