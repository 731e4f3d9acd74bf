-- Choices as the recursion makes them.
use Rattle.std.proofs.Common.{◌≡◌, ℕ, zero, suc, ◌+◌, ◌-◌, ◌*◌, ◌%◌, ◌^◌, ◌<◌, ◌≤◌, cond, List, [], ◌∷◌, ◌++◌, length, take, drop, map, get_or, lit<, sym, ap, ◌∙◌, subst, arith}
use Rattle.std.proofs.lemmas.Bool.{le-leb, lt-leb}
use Rattle.std.proofs.lemmas.List.{drop-drop, drop-take, take-map, take_all, drop_all, drop-map, length-append, take-append-le, drop-append-le}
use Rattle.std.proofs.Math.Nat.{mod-eq_of_lt, pow-le-pow_right}
use Rattle.verilog_tree.specs.declared.tree.Expr.{Expr}
use Rattle.verilog_tree.specs.Plain.{Expression, Net, Conditional, plain}
use Rattle.arrayvec.specs.declared.array_string.ArrayString.{ArrayString}
use Rattle.std.proofs.lemmas.Nat.{pow_pos}
use Rattle.rtl_layout.specs.Build.{choose, bit_of, leaf, below, step_while}
use Rattle.rtl_layout.proofs.Choice.{double}

-- where the leaves are few, the highest bit chooses nothing
pub choice_fewer : (n : List ℕ) (w i : ℕ) (xs : List Expression) → 1 ≤ i → length xs ≤ 2 ^ (i - 1) → below n w i xs ≡ below n w (i - 1) xs
choice_fewer n w zero xs h l = absurd (omega arith)
choice_fewer n w (suc i) xs h l =
    let e : suc i - 1 ≡ i = omega arith in
    let few : length xs ≤ 2 ^ i = subst (λ k. length xs ≤ 2 ^ k) e l in
    ap (λ t. cond t (below n w i xs) (choose (bit_of n w i) (below n w i (drop (2 ^ i) xs)) (below n w i (take (2 ^ i) xs)))) (le-leb (length xs) (2 ^ i) few)
    ∙ ap (λ k. below n w k xs) (sym e)

pub choice_split : (n : List ℕ) (w i : ℕ) (xs : List Expression) → 1 ≤ i → 2 ^ (i - 1) < length xs
    → below n w i xs ≡ choose (bit_of n w (i - 1)) (below n w (i - 1) (drop (2 ^ (i - 1)) xs)) (below n w (i - 1) (take (2 ^ (i - 1)) xs))
choice_split n w zero xs h l = absurd (omega arith)
choice_split n w (suc i) xs h l =
    let e : suc i - 1 ≡ i = omega arith in
    let many : 2 ^ i < length xs = subst (λ k. 2 ^ k < length xs) e l in
    ap (λ t. cond t (below n w i xs) (choose (bit_of n w i) (below n w i (drop (2 ^ i) xs)) (below n w i (take (2 ^ i) xs)))) (lt-leb (length xs) (2 ^ i) many)
    ∙ ap (λ k. choose (bit_of n w k) (below n w k (drop (2 ^ k) xs)) (below n w k (take (2 ^ k) xs))) (sym e)

-- a shifted one
pub power : (k : ℕ) → k ≤ 16 → 1 * 2 ^ k % 18446744073709551616 ≡ 2 ^ k
power k h =
    let p : 2 ^ k ≤ 2 ^ 16 = pow-le-pow_right (lit< tt) h in
    let q : 1 * 2 ^ k < 18446744073709551616 = omega arith in
    let one : 1 * 2 ^ k ≡ 2 ^ k = omega arith in
    mod-eq_of_lt q ∙ one

pub halves : (i : ℕ) → 1 ≤ i → 2 ^ i ≡ 2 ^ (i - 1) + 2 ^ (i - 1)
halves zero h = absurd (omega arith)
halves (suc i) h = let e : suc i - 1 ≡ i = omega arith in double i ∙ ap (λ k. 2 ^ k + 2 ^ k) (sym e)

pub choice_taken : (n : List ℕ) (w i s : ℕ) (old mid : List Expr) (b high low : Expr) → 1 ≤ i → 2 ^ (i - 1) < length (drop s (map plain old))
    → plain b ≡ bit_of n w (i - 1) → plain high ≡ below n w (i - 1) (drop (s + 2 ^ (i - 1)) (map plain old)) → mid ≡ take (s + 2 ^ (i - 1)) old → plain low ≡ below n w (i - 1) (drop s (map plain mid))
    → Conditional (plain b) (plain high) (plain low) ≡ below n w i (drop s (map plain old))
choice_taken n w i s old mid b high low some many p q t r =
    let high_is : plain high ≡ below n w (i - 1) (drop (2 ^ (i - 1)) (drop s (map plain old))) = q ∙ ap (λ l. below n w (i - 1) l) (sym (drop-drop (2 ^ (i - 1)) s (map plain old))) in
    let low_is : plain low ≡ below n w (i - 1) (take (2 ^ (i - 1)) (drop s (map plain old))) =
    r ∙ ap (λ l. below n w (i - 1) (drop s (map plain l))) t ∙ ap (λ l. below n w (i - 1) (drop s l)) (sym (take-map plain (s + 2 ^ (i - 1)) old)) ∙ ap (λ l. below n w (i - 1) l) (drop-take s (2 ^ (i - 1)) (map plain old)) in
    ap (λ x. Conditional x (plain high) (plain low)) p ∙ ap (λ x. Conditional (bit_of n w (i - 1)) x (plain low)) high_is
    ∙ ap (λ x. Conditional (bit_of n w (i - 1)) (below n w (i - 1) (drop (2 ^ (i - 1)) (drop s (map plain old)))) x) low_is
    ∙ sym (choice_split n w i (drop s (map plain old)) some many)

-- where no bit is left, the last leaf is alone
pub last_leaf : (n : List ℕ) (w i s : ℕ) (old new : List Expr) (x : Expr) → i ≡ 0 → old ≡ new ++ x ∷ [] → s < length old → length old ≤ s + 2 ^ i → (plain x ≡ below n w i (drop s (map plain old))) × (new ≡ take s old)
last_leaf n w (suc i) s old new x none e some few = absurd (omega arith)
last_leaf n w zero s old new x none e some few =
    let size = ap length e ∙ length-append new (x ∷ []) in
    let ends : s ≡ length new = omega arith in (
      sym (ap (λ l. leaf l 0) (drop-map plain s old ∙ ap (map plain) (ap (drop s) e ∙ drop-append-le s new (x ∷ []) (omega arith) ∙ ap (λ l. l ++ x ∷ []) (drop_all s new (omega arith))))),
      sym (ap (take s) e ∙ take-append-le s new (x ∷ []) (omega arith) ∙ take_all s new (omega arith)),
    )

-- one condition more in front
pub step_taken : (cs : List (ArrayString 64)) (c : ArrayString 64) (x : Expression) (test inner kept : Expr) (k : List ℕ) → 1 ≤ length cs → c ≡ get_or cs 0 c → plain test ≡ Net c.bytes → plain kept ≡ Net k
    → plain inner ≡ step_while (map (λ c. Net c.bytes) (take (length cs - 1) (drop 1 cs))) x (Net k)
    → Conditional (plain test) (plain inner) (plain kept) ≡ step_while (map (λ c. Net c.bytes) cs) x (Net k)
step_taken [] c x test inner kept k h q s t r = absurd (omega arith)
step_taken (d ∷ cs) c x test inner kept k h q s t r =
    let whole : take (length (d ∷ cs) - 1) cs ≡ cs = take_all (length (d ∷ cs) - 1) cs (omega arith) in
    ap (λ y. Conditional y (plain inner) (plain kept)) (s ∙ ap (λ u. Net u.bytes) q)
    ∙ ap (λ y. Conditional (Net d.bytes) (plain inner) y) t
    ∙ ap (λ y. Conditional (Net d.bytes) y (Net k)) (r ∙ ap (λ (l : List (ArrayString 64)). step_while (map (λ c. Net c.bytes) l) x (Net k)) whole)

pub one_below : (w : ℕ) → 1 ≤ w → 1 < 2 ^ w
one_below zero h = absurd (omega arith)
one_below (suc w) h = omega (arith, double w, pow_pos w)
