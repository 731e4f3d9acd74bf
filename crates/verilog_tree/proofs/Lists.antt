-- Lists and the trees that they make.
use Rattle.std.proofs.Common.{arith, ◌≡◌, ℕ, suc, ◌==◌, not, false, List, [], ◌∷◌, length, map, refl, arith, ap, sym}
use Rattle.std.proofs.lemmas.Bool.Decides.{nat_tests}
use Rattle.bist_bits.specs.Vector.{Vector}
use Rattle.verilog_tree.specs.Plain.{plain, plain_port, expressions, arms}
use Rattle.verilog_tree.specs.inner.Plain.{plain_arm}
use Rattle.verilog_tree.specs.declared.tree.Arm.{Arm}
use Rattle.verilog_tree.specs.declared.tree.Port.{Port}
use Rattle.verilog_tree.specs.declared.tree.Expr.{Expr}
use Rattle.verilog_tree.specs.Formed.{has_expression, has_label, has_arm, has_port}

suc_is_some : (n : ℕ) → (suc n == 0) ≡ false
suc_is_some n = grind (arith, nat_tests)

pub some_expression : (xs : List Expr) → has_expression (expressions (map plain xs)) ≡ not (length xs == 0)
some_expression [] = refl
some_expression (x ∷ xs) = sym (ap not (suc_is_some (length xs)))

pub some_label : (ls : List Vector) → has_label ls ≡ not (length ls == 0)
some_label [] = refl
some_label (b ∷ bs) = sym (ap not (suc_is_some (length bs)))

pub some_arm : (as' : List Arm) → has_arm (arms (map plain_arm as')) ≡ not (length as' == 0)
some_arm [] = refl
some_arm (a ∷ as') = sym (ap not (suc_is_some (length as')))

pub some_port : (ps : List Port) → has_port (map plain_port ps) ≡ not (length ps == 0)
some_port [] = refl
some_port (p ∷ ps) = sym (ap not (suc_is_some (length ps)))
