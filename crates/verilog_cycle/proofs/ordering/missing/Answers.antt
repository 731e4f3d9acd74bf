use Rattle.std.proofs.Common.{◌≡◌, ℕ, ◌+◌, ◌<◌, Bool, true, ◌&&◌, List, [], ◌∷◌, length, take, get_or, sym, ap, ◌∙◌, take_all}
use Rattle.std.specs.List.{list_all}
use Rattle.std.proofs.lemmas.List.{take_more}
use Rattle.std.proofs.lemmas.List.Folds.{list_all-append}
use Rattle.verilog_cycle.specs.inner.Graph.{is_in}
use Rattle.verilog_cycle.proofs.Gathered.{fewer}
use Rattle.verilog_cycle.proofs.ordering.missing.Goals as goal

one_passed : (p : ℕ → Bool) (xs : List ℕ) (i : ℕ) → i < length xs → list_all p (take i xs) ≡ true → p (get_or xs i 0) ≡ true → list_all p (take (i + 1) xs) ≡ true
one_passed p xs i lt before here =
    let x = get_or xs i 0 in
    ap (list_all p) (take_more xs i 0 lt) ∙ list_all-append p (take i xs) (x ∷ []) ∙ ap (λ t. t && list_all p (x ∷ [])) before ∙ ap (λ t. t && true) here

pub loop-i-init : goal.loop-i-init
loop-i-init c = c.requires

pub bounds-needs-i : goal.bounds-needs-i
bounds-needs-i c = c.loop-i-test.true

pub returns-then-not-contains : goal.returns-then-not-contains
returns-then-not-contains c = record { there = c.loop-i-test.true; before = c.loop-i.invariant; lacks = sym c.contains.ensures ∙ c.if-not-contains.true }

pub loop-i-smaller : goal.loop-i-smaller
loop-i-smaller c = fewer _ _ c.loop-i-test.true

pub loop-i-preserved : goal.loop-i-preserved
loop-i-preserved c = one_passed (is_in c.args.order.now.keys) c.args.needs.now c.loop-i.i c.loop-i-test.true c.loop-i.invariant (sym c.contains.ensures ∙ c.if-not-contains.false)

pub returns : goal.returns
returns c = ap (list_all (is_in c.args.order.now.keys)) (sym (take_all c.loop-i.i c.args.needs.now c.loop-i-test.false)) ∙ c.loop-i.invariant
