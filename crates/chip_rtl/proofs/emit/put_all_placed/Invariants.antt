use Rattle.std.proofs.Common.{◌≡◌, ◌++◌, drop, map}
use Rattle.chip_rtl.specs.TopSeen.{plain_placed}
use Rattle.chip_rtl.specs.PrintedTop.{placed_texts}
use Rattle.chip_rtl.proofs.emit.put_all_placed.Given as goal

abbrev pub invariant-loop-placed : goal.invariant-loop-placed
invariant-loop-placed l = l.out.items ++ placed_texts (map plain_placed (drop l.placed-index l.all)) ≡ l.initial.out.items ++ placed_texts (map plain_placed l.all)
