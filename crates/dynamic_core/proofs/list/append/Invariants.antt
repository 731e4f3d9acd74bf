use Rattle.std.proofs.Common.{◌≡◌, ◌++◌, map, take}
use Rattle.dynamic_core.proofs.list.append.Given as goal

abbrev pub invariant-loop-prim : goal.invariant-loop-prim
invariant-loop-prim g l = l.items.items ≡ l.initial.items.items ++ map g.T.Listed.listed (take l.prim-index l.prims)
