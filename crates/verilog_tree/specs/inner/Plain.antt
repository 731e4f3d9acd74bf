-- Inner. For proofs and private contracts alone, beside Plain: a module as contracts see it: names are their bytes, vectors are lists, and a box is what it holds.
use Rattle.verilog_tree.specs.declared.tree.Stmt.TheFolds.{fold-Arm}
use Rattle.verilog_tree.specs.declared.tree.Arm.{Arm}
use Rattle.verilog_tree.specs.Plain.{Statement, ArmTree, stmt_layer, arm_layer}

-- the arm that an `Arm` is
abbrev pub plain_arm : Arm → ArmTree
plain_arm = fold-Arm Statement ArmTree stmt_layer arm_layer
