use Rattle.std.proofs.Common.{◌≡◌, length, take}
use Rattle.dynamic_prover.specs.inner.Legs.{AreLegs}
use Rattle.dynamic_prover.proofs.leg.legs_of.Given as goal

abbrev pub invariant-loop-element : goal.invariant-loop-element
invariant-loop-element l = record { are : AreLegs l.prim (take l.element l.march) l.legs.items; count : length l.legs.items ≡ l.element }
