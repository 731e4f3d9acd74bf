use Rattle.std.proofs.Common.{◌≡◌, ◌++◌, List, length, map}
use Rattle.std.specs.Vec.Iter.{into_iter_items, into_iter_len}
use Rattle.verilog_tree.specs.Plain.{plain_item, ModuleItem, AssignItem}
use Rattle.rtl_layout.specs.inner.Rows.{AreRows}
use Rattle.rtl_layout.proofs.parts.assign_all.Given as goal

abbrev pub invariant-loop-target : goal.invariant-loop-target
invariant-loop-target g l = (l.yielded ++ into_iter_items l.target-iterator ≡ into_iter_items l.initial.target-iterator)
    × ((ws : List ModuleItem) → AreRows AssignItem l.yielded ws → map plain_item l.items.items ≡ map plain_item l.initial.items.items ++ ws)
    × (into_iter_len l.target-iterator ≡ length (into_iter_items l.target-iterator))
