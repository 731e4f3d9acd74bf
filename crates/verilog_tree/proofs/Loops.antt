-- A rank that falls along wires rules loops out.
use Rattle.std.proofs.Common.{ℕ, ◌<◌, List, [], ◌∷◌, arith}
use Rattle.verilog_tree.specs.Plain.{ModuleItem, ModuleTree}
use Rattle.verilog_tree.specs.Wires.{Chain, IsLoop, Falls}

falls_along : (rank : List ℕ → ℕ) (is : List ModuleItem) → Falls rank is → (n : List ℕ) (ks : List (List ℕ)) (m : List ℕ) → Chain is n ks m → rank m < rank n
falls_along rank is falls n [] m c = falls n m c
falls_along rank is falls n (k ∷ ks) m c =
    let a = falls n k c.0 in
    let b = falls_along rank is falls k ks m c.1 in
    omega arith

pub no_loop : (mo : ModuleTree) (rank : List ℕ → ℕ) → Falls rank mo.items → (names : List (List ℕ)) → IsLoop mo names → ⊥
no_loop mo rank falls [] c = absurd c
no_loop mo rank falls (n ∷ ns) c = let a = falls_along rank mo.items falls n ns n c in omega arith
