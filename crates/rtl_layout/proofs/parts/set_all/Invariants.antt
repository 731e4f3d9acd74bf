use Rattle.std.proofs.Common.{◌≡◌, ◌++◌, List, length, map}
use Rattle.std.specs.Vec.Iter.{into_iter_items, into_iter_len}
use Rattle.verilog_tree.specs.Plain.{plain_stmt, Statement, SetTo}
use Rattle.rtl_layout.specs.inner.Rows.{AreRows}
use Rattle.rtl_layout.proofs.parts.set_all.Given as goal

abbrev pub invariant-loop-register : goal.invariant-loop-register
invariant-loop-register g l = (l.yielded ++ into_iter_items l.register-iterator ≡ into_iter_items l.initial.register-iterator)
    × ((ws : List Statement) → AreRows SetTo l.yielded ws → map plain_stmt l.block.items ≡ map plain_stmt l.initial.block.items ++ ws)
    × (into_iter_len l.register-iterator ≡ length (into_iter_items l.register-iterator))
