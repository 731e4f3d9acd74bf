use Rattle.std.proofs.Common.{ℕ, ◌-◌, ◌<◌, ◌≤◌, length, map, ap, ◌∙◌, subst}
use Rattle.std.proofs.lemmas.List.{length-map}
use Rattle.fault_syntax.proofs.Appending.{pushed, one_mapped, all_of, has_room, too_long, too_many}
use Rattle.dynamic_core.proofs.list.append.Goals as goal
use Rattle.dynamic_core.proofs.list.append.Goals.{then-len-gt-MOST-via-then-len-gt-MOST, then-len-gt-MOST-via-else-len-gt-MOST+then-prims-len}

pub loop-prim-preserved : goal.loop-prim-preserved
loop-prim-preserved g c =
    one_mapped g.T.Listed.listed c.args.prims.now c.loop-prim.prim-index _ c.args.items.now.items c.loop-prim.items.items c.push.new.self.items _
    c.loop-prim-test.true (c.item.ensures ∙ ap g.T.Listed.listed c.prim-item.is) c.loop-prim.invariant (pushed _ _ _ _ c.if-is_err.ensures.negation c.push.ensures.items)

pub returns-then-len-gt-MOST-clause-err : goal.returns-then-len-gt-MOST-clause-err
returns-then-len-gt-MOST-clause-err g c = elim c.then-len-gt-MOST.branch [
  | then-len-gt-MOST-via-then-len-gt-MOST w ↦
      too_long c.args.items.now.items (map g.T.Listed.listed c.args.prims.now) c.args.line (subst (λ (n : ℕ). 1024 < n) (c.len.ensures ∙ c.args.items.now.ok.0) w.if-len-gt-MOST.true)
  | then-len-gt-MOST-via-else-len-gt-MOST+then-prims-len w ↦
      too_many c.args.items.now.items (map g.T.Listed.listed c.args.prims.now) _ c.args.line (length-map c.args.prims.now g.T.Listed.listed)
      (subst (λ (n : ℕ). 1024 - n < length c.args.prims.now) (w.len-else-len-gt-MOST.ensures ∙ c.args.items.now.ok.0) w.if-prims-len.true)
]

pub returns-clause-ok : goal.returns-clause-ok
returns-clause-ok g c = all_of (map g.T.Listed.listed) c.args.prims.now c.loop-prim.prim-index c.args.items.now.items c.loop-prim.items.items c.loop-prim-test.false c.loop-prim.invariant

pub returns-clause-within : goal.returns-clause-within
returns-clause-within g c =
    has_room c.args.items.now.items (map g.T.Listed.listed c.args.prims.now) c.loop-prim.items.items _ (length-map c.args.prims.now g.T.Listed.listed)
    (subst (λ (n : ℕ). n ≤ 1024) (c.len.ensures ∙ c.args.items.now.ok.0) c.if-len-gt-MOST.false)
    (subst (λ (n : ℕ). length c.args.prims.now ≤ 1024 - n) (c.len-else-len-gt-MOST.ensures ∙ c.args.items.now.ok.0) c.if-prims-len.false)
    (all_of (map g.T.Listed.listed) c.args.prims.now c.loop-prim.prim-index c.args.items.now.items c.loop-prim.items.items c.loop-prim-test.false c.loop-prim.invariant)
