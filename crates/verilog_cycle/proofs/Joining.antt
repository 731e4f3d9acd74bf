-- The parts of a concatenation, from the last one taken on.
use Rattle.std.proofs.Common.{◌≡◌, ℕ, ◌+◌, ◌-◌, ◌<◌, ◌≤◌, true, nat_eq, List, ◌∷◌, length, map, drop, get_or, ap, ◌∙◌, arith}
use Rattle.std.proofs.lemmas.Bool.Decides.{nat_tests}
use Rattle.std.proofs.lemmas.List.{drop_all}
use Rattle.verilog_tree.specs.declared.tree.Expr.{Expr}
use Rattle.verilog_tree.specs.Plain.{plain, expressions, NoMore, Followed}
use Rattle.verilog_code.proofs.Loops.{next_of}

pub one_before : (parts : List Expr) (i : ℕ) (d : Expr) → 0 < i → i ≤ length parts → d ≡ get_or parts (i - 1) d →
    expressions (map plain (drop (i - 1) parts)) ≡ Followed (plain d) (expressions (map plain (drop i parts)))
one_before parts i d lt le is =
    let within : i - 1 < length parts = omega (arith, lt, le) in
    let back : i - 1 + 1 ≡ i = omega (arith, lt) in
    ap (λ l. expressions (map plain l)) (next_of parts (i - 1) d within is ∙ ap (λ (k : ℕ). d ∷ drop k parts) back)

-- nothing stands behind the last part
pub last_part : (parts : List Expr) (i : ℕ) → 0 < i → nat_eq (i - 1 + 1) (length parts) ≡ true → expressions (map plain (drop i parts)) ≡ NoMore
last_part parts i lt t =
    let le : length parts ≤ i = grind (arith, nat_tests) in
    ap (λ l. expressions (map plain l)) (drop_all i parts le)

pub before_within : (i n : ℕ) → 0 < i → i ≤ n → i - 1 < n
before_within i n lt le = omega arith

pub one_back : (i : ℕ) → 0 < i → i - 1 - 0 < i - 0
one_back i lt = omega arith
