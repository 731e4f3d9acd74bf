use Rattle.std.proofs.Common.{◌^◌, ◌<◌, ℕ, false, List, length, refl, ap, ◌∙◌, map, subst, sym}
use Rattle.std.specs.Prelude.{slice_index}
use Rattle.rtl_layout.specs.Build.{lit}
use Rattle.rtl_layout.specs.Plan.{port_word}
use Rattle.rtl_layout.specs.Seen.{seen}
use Rattle.rtl_layout.proofs.Tabled.{one_more, all_of, some_leaves, few_leaves, picked}
use Rattle.rtl_layout.proofs.Words.{word_below}
use Rattle.rtl_layout.proofs.tables.pattern.Goals as goal

pub loop-background-preserved : goal.loop-background-preserved
loop-background-preserved c =
    one_more (λ (b : ℕ). lit c.args.plan.now.bits (port_word (seen c.args.plan.now) false b))
    c.as_slice-background-items.result.now c.loop-background.background-index _ c.loop-background.leaves.items c.push.new.self.items c.literal.result
    c.loop-background-test.true c.in_ok-push.ensures.items c.literal.ensures c.loop-background.invariant

pub literal-requires-clause-fits : goal.literal-requires-clause-fits
literal-requires-clause-fits c = word_below (seen c.args.plan.now) c.args.plan.now.is_plan.ready.sized false _
    (subst (λ (l : List ℕ). (k : ℕ) → k < length l → slice_index l k < 2 ^ c.args.plan.now.bits) (sym c.as_slice-background-items.ensures.value) c.args.plan.now.is_plan.ready.sized.grounds_fit
    c.loop-background.background-index c.loop-background-test.true)

pub pick_leaf-requires-clause-some : goal.pick_leaf-requires-clause-some
pick_leaf-requires-clause-some c =
    some_leaves (λ (b : ℕ). lit c.args.plan.now.bits (port_word (seen c.args.plan.now) false b)) c.as_slice-background-items.result.now c.args.plan.now.backgrounds.items c.loop-background.leaves.items
    (all_of (λ (b : ℕ). lit c.args.plan.now.bits (port_word (seen c.args.plan.now) false b)) c.as_slice-background-items.result.now c.loop-background.background-index
    c.loop-background.leaves.items c.loop-background-test.false c.loop-background.invariant)
    c.as_slice-background-items.ensures.value c.args.plan.now.is_plan.ready.has_background

pub pick_leaf-requires-clause-fits : goal.pick_leaf-requires-clause-fits
pick_leaf-requires-clause-fits c =
    few_leaves (λ (b : ℕ). lit c.args.plan.now.bits (port_word (seen c.args.plan.now) false b)) c.as_slice-background-items.result.now c.args.plan.now.backgrounds.items c.loop-background.leaves.items (2 ^ c.args.plan.now.back_width)
    (all_of (λ (b : ℕ). lit c.args.plan.now.bits (port_word (seen c.args.plan.now) false b)) c.as_slice-background-items.result.now c.loop-background.background-index
    c.loop-background.leaves.items c.loop-background-test.false c.loop-background.invariant)
    c.as_slice-background-items.ensures.value c.args.plan.now.is_plan.ready.backgrounds_fit

pub returns : goal.returns
returns c =
    picked c.pick_leaf.result c.args.back.bytes c.args.back.bytes c.args.plan.now.back_width _ _ refl
    (all_of (λ (b : ℕ). lit c.args.plan.now.bits (port_word (seen c.args.plan.now) false b)) c.as_slice-background-items.result.now c.loop-background.background-index
    c.loop-background.leaves.items c.loop-background-test.false c.loop-background.invariant
    ∙ ap (map (λ (b : ℕ). lit c.args.plan.now.bits (port_word (seen c.args.plan.now) false b))) c.as_slice-background-items.ensures.value)
    c.pick_leaf.ensures
