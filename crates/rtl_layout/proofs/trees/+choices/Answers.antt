use Rattle.std.proofs.Common.{◌≡◌, ◌+◌, ◌-◌, ◌^◌, ◌<◌, IfOk, List, length, map, drop, take, sym, ap, ◌∙◌, subst, arith}
use Rattle.std.proofs.lemmas.List.{length-drop, length-map, length-take}
use Rattle.std.proofs.lemmas.Nat.{pow_pos}
use Rattle.verilog_tree.specs.declared.tree.Expr.{Expr}
use Rattle.verilog_tree.specs.Plain.{Expression, plain}
use Rattle.rtl_layout.specs.Build.{below}
use Rattle.rtl_layout.proofs.Taken.{choice_fewer, choice_taken, halves, last_leaf}
use Rattle.rtl_layout.proofs.trees.+choices.Goals as goal

pub returns-then-len-start-clause-tree : goal.returns-then-len-start-clause-tree
returns-then-len-start-clause-tree t c =
    let xs = drop c.args.start (map plain c.args.leaves.now.items) in
    let size : length xs ≡ length c.args.leaves.now.items - c.args.start = simp (length-drop, length-map) in
    let fewer : below c.args.name.bytes c.args.width c.args.i xs ≡ below c.args.name.bytes c.args.width (c.args.i - 1) xs = choice_fewer c.args.name.bytes c.args.width c.args.i xs (omega arith) (omega arith) in
    subst (λ (v : Expression). IfOk c.choices.result (λ x. plain x ≡ v)) (sym fewer) c.choices.ensures.tree

pub returns-clause-tree : goal.returns-clause-tree
returns-clause-tree t c =
    let xs = drop c.args.start (map plain c.args.leaves.now.items) in
    let size : length xs ≡ length c.args.leaves.now.items - c.args.start = simp (length-drop, length-map) in
    let many : 2 ^ (c.args.i - 1) < length xs = omega arith in
    let half = c.power-half.ensures in
    let high : plain c.in_ok-high.high ≡ below c.args.name.bytes c.args.width (c.args.i - 1) (drop (c.args.start + 2 ^ (c.args.i - 1)) (map plain c.args.leaves.now.items)) =
    c.in_ok-high.ensures.tree ∙ ap (λ k. below c.args.name.bytes c.args.width (c.args.i - 1) (drop (c.args.start + k) (map plain c.args.leaves.now.items))) half in
    let mid = ◌∙◌ {A = List Expr} c.in_ok-high.ensures.taken (ap (λ k. take (c.args.start + k) c.args.leaves.now.items) half) in
    subst (λ (v : Expression). IfOk c.choose.result (λ x. plain x ≡ v))
    (choice_taken c.args.name.bytes c.args.width c.args.i c.args.start c.args.leaves.now.items _ c.bit.result c.in_ok-high.high c.in_ok-low.low (omega arith) many c.bit.ensures high mid c.in_ok-low.ensures.tree)
    c.choose.ensures

pub choices-requires-2 : goal.choices-requires-2
choices-requires-2 t c =
    let two = halves c.args.i (omega arith) in
    let half = c.power-half.ensures in
    (omega arith, (omega arith, (omega arith, omega arith)))

pub returns-then-i-eq0-clause-tree : goal.returns-then-i-eq0-clause-tree
returns-then-i-eq0-clause-tree t c = (last_leaf _ _ _ _ _ _ _ c.if-i-eq0.true c.in-Some.ensures.items c.requires.some c.requires.fits).0

pub returns-then-i-eq0-clause-taken : goal.returns-then-i-eq0-clause-taken
returns-then-i-eq0-clause-taken t c = (last_leaf c.args.name.bytes c.args.width _ _ _ _ _ c.if-i-eq0.true c.in-Some.ensures.items c.requires.some c.requires.fits).1

pub choices-requires-3 : goal.choices-requires-3
choices-requires-3 t c =
    let size = ap length c.in_ok-high.ensures.taken ∙ length-take (c.args.start + c.power-half.result) c.args.leaves.now.items in
    let half = c.power-half.ensures in
    let some = pow_pos (c.args.i - 1) in
    (omega arith, (omega arith, (omega arith, omega arith)))
