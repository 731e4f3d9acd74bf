use Rattle.std.proofs.Common.{◌≡◌, true}
use Rattle.scrambler.specs.Scrambling.{are_units}
use Rattle.scrambler.proofs.scramble.Scramble.is_identity.Given as goal

abbrev pub invariant-loop-i : goal.invariant-loop-i
invariant-loop-i l = are_units l.self l.i ≡ true
