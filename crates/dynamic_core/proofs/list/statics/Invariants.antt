use Rattle.std.proofs.Common.{◌≡◌, take}
use Rattle.dynamic_core.specs.inner.Reading.{statics_of}
use Rattle.dynamic_core.proofs.list.statics.Given as goal

abbrev pub invariant-loop-item : goal.invariant-loop-item
invariant-loop-item l = l.prims.items ≡ statics_of (take l.item-index l.items)
