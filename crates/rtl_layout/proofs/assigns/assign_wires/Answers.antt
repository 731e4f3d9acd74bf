use Rattle.std.proofs.Common.{lit≤, lit<, ℕ, ◌-◌, ◌^◌, ◌<◌, ◌≤◌, sym, ap, ◌∙◌, subst}
use Rattle.verilog_tree.specs.Plain.{Net, Prefixed, Infixed, AssignItem}
use Rattle.verilog_tree.specs.declared.tree.BinOp.TheVariants.{Eq}
use Rattle.verilog_tree.specs.declared.tree.UnOp.TheVariants.{Invert}
use Rattle.rtl_layout.specs.Build.{lit}
use Rattle.rtl_layout.specs.Layout as L
use Rattle.rtl_layout.specs.Seen.{seen}
use Rattle.rtl_layout.proofs.Built.{told, chosen}
use Rattle.rtl_layout.proofs.Rowed.{row_is}
use Rattle.rtl_layout.proofs.assigns.assign_wires.Goals as goal

pub returns : goal.returns
returns c =
    let p = seen c.args.plan.now in
    let pattern = ap Net c.name-pattern_net.ensures in
    c.assign_all.ensures (L.wire_assigns p) (
      row_is AssignItem _ _ c.flag_row.result _ c.name-6.ensures c.flag_row.ensures,
      (
        row_is AssignItem _ _ c.ones_row.result _ c.name-7.ensures c.ones_row.ensures,
        (
          row_is AssignItem _ _ c.flag_row-2.result _ c.name-8.ensures c.flag_row-2.ensures,
          (
            row_is AssignItem _ _ c.in_row.result _ c.name-9.ensures (told c.in_row.result _ _ (ap (L.in_row p) c.name-10.ensures) c.in_row.ensures),
            (
              row_is AssignItem _ _ c.value_now.result _ c.name-11.ensures c.value_now.ensures,
              (
                row_is AssignItem _ _ c.by_element.result _ c.name-12.ensures c.by_element.ensures,
                (
                  row_is AssignItem _ _ c.by_element-2.result _ c.name-13.ensures c.by_element-2.ensures,
                  (
                    row_is AssignItem _ _ c.in_row-2.result _ c.name-14.ensures (told c.in_row-2.result _ _ (ap (L.in_row p) c.name-15.ensures) c.in_row-2.ensures),
                    (
                      row_is AssignItem _ _ c.by_element-3.result _ c.name-16.ensures c.by_element-3.ensures,
                      (
                        row_is AssignItem _ _ c.by_next.result _ c.name-17.ensures c.by_next.ensures,
                        (
                          row_is AssignItem _ _ c.by_next-2.result _ c.name-18.ensures c.by_next-2.ensures,
                          (
                            row_is AssignItem _ _ c.is_last-element.result _ c.name-19.ensures
                                (told c.is_last-element.result _ _ (ap (λ n. Infixed Eq (Net n) (lit p.element_width (c.len.result - 1))) c.name.ensures ∙ ap (λ k. Infixed Eq (Net L.element) (lit p.element_width (k - 1))) c.len.ensures.value) c.is_last-element.ensures),
                            (
                              row_is AssignItem _ _ c.is_last-back.result _ c.name-20.ensures
                                  (told c.is_last-back.result _ _ (ap (λ n. Infixed Eq (Net n) (lit p.back_width (c.len-2.result - 1))) c.name-2.ensures ∙ ap (λ k. Infixed Eq (Net L.back) (lit p.back_width (k - 1))) c.len-2.ensures.value) c.is_last-back.ensures),
                              (
                                row_is AssignItem _ _ c.choose-live.result _ c.name-21.ensures
                                    (told c.choose-live.result _ _ (chosen _ _ _ _ _ _ (c.net.ensures ∙ ap Net c.name-3.ensures) c.flag.ensures (c.net-2.ensures ∙ ap Net c.name-4.ensures)) c.choose-live.ensures),
                                (
                                  row_is AssignItem _ _ c.index.result _ c.name-22.ensures c.index.ensures,
                                  (
                                    row_is AssignItem _ _ c.pattern.result _ c.name-23.ensures (told c.pattern.result _ _ (ap (L.pattern_of p) c.name-24.ensures) c.pattern.ensures),
                                    (
                                      row_is AssignItem _ _ c.word_of-word.result _ c.name-25.ensures
                                          (told c.word_of-word.result _ _ (chosen _ _ _ _ _ _ (ap Net c.name-5.ensures) (ap (Prefixed Invert) (c.net-4.ensures ∙ pattern)) (c.net-3.ensures ∙ pattern)) c.word_of-word.ensures),
                                      tt,
                                    ),
                                  ),
                                ),
                              ),
                            ),
                          ),
                        ),
                      ),
                    ),
                  ),
                ),
              ),
            ),
          ),
        ),
      ),
    )

pub is_last-element-requires-clause-some : goal.is_last-element-requires-clause-some
is_last-element-requires-clause-some c = subst (λ (n : ℕ). 0 < n) (sym c.len.ensures.value) c.args.plan.now.is_plan.ready.has_element

pub is_last-element-requires-clause-fits : goal.is_last-element-requires-clause-fits
is_last-element-requires-clause-fits c = subst (λ (n : ℕ). n ≤ 2 ^ c.args.plan.now.element_width) (sym c.len.ensures.value) c.args.plan.now.is_plan.ready.elements_fit

pub is_last-back-requires-clause-some : goal.is_last-back-requires-clause-some
is_last-back-requires-clause-some c = subst (λ (n : ℕ). 0 < n) (sym c.len-2.ensures.value) c.args.plan.now.is_plan.ready.has_background

pub is_last-back-requires-clause-fits : goal.is_last-back-requires-clause-fits
is_last-back-requires-clause-fits c = subst (λ (n : ℕ). n ≤ 2 ^ c.args.plan.now.back_width) (sym c.len-2.ensures.value) c.args.plan.now.is_plan.ready.backgrounds_fit

pub name-requires : goal.name-requires
name-requires c = lit≤ tt

pub len-requires : goal.len-requires
len-requires c = lit< tt

pub is_last-element-requires-clause-positive : goal.is_last-element-requires-clause-positive
is_last-element-requires-clause-positive c = c.args.plan.now.is_plan.ready.sized.element_some

pub is_last-element-requires-clause-narrow : goal.is_last-element-requires-clause-narrow
is_last-element-requires-clause-narrow c = c.args.plan.now.is_plan.ready.sized.element_narrow

pub name-requires-2 : goal.name-requires-2
name-requires-2 c = lit≤ tt

pub len-requires-2 : goal.len-requires-2
len-requires-2 c = lit< tt

pub is_last-back-requires-clause-positive : goal.is_last-back-requires-clause-positive
is_last-back-requires-clause-positive c = c.args.plan.now.is_plan.ready.sized.back_some

pub is_last-back-requires-clause-narrow : goal.is_last-back-requires-clause-narrow
is_last-back-requires-clause-narrow c = c.args.plan.now.is_plan.ready.sized.back_narrow

pub name-requires-3 : goal.name-requires-3
name-requires-3 c = lit≤ tt

pub name-requires-4 : goal.name-requires-4
name-requires-4 c = lit≤ tt

pub name-pattern_net-requires : goal.name-pattern_net-requires
name-pattern_net-requires c = lit≤ tt

pub name-requires-5 : goal.name-requires-5
name-requires-5 c = lit≤ tt

pub name-requires-6 : goal.name-requires-6
name-requires-6 c = lit≤ tt

pub name-requires-7 : goal.name-requires-7
name-requires-7 c = lit≤ tt

pub name-requires-8 : goal.name-requires-8
name-requires-8 c = lit≤ tt

pub name-requires-9 : goal.name-requires-9
name-requires-9 c = lit≤ tt

pub name-requires-10 : goal.name-requires-10
name-requires-10 c = lit≤ tt

pub name-requires-11 : goal.name-requires-11
name-requires-11 c = lit≤ tt

pub name-requires-12 : goal.name-requires-12
name-requires-12 c = lit≤ tt

pub name-requires-13 : goal.name-requires-13
name-requires-13 c = lit≤ tt

pub name-requires-14 : goal.name-requires-14
name-requires-14 c = lit≤ tt

pub name-requires-15 : goal.name-requires-15
name-requires-15 c = lit≤ tt

pub name-requires-16 : goal.name-requires-16
name-requires-16 c = lit≤ tt

pub name-requires-17 : goal.name-requires-17
name-requires-17 c = lit≤ tt

pub name-requires-18 : goal.name-requires-18
name-requires-18 c = lit≤ tt

pub name-requires-19 : goal.name-requires-19
name-requires-19 c = lit≤ tt

pub name-requires-20 : goal.name-requires-20
name-requires-20 c = lit≤ tt

pub name-requires-21 : goal.name-requires-21
name-requires-21 c = lit≤ tt

pub name-requires-22 : goal.name-requires-22
name-requires-22 c = lit≤ tt

pub name-requires-23 : goal.name-requires-23
name-requires-23 c = lit≤ tt

pub name-requires-24 : goal.name-requires-24
name-requires-24 c = lit≤ tt

pub name-requires-25 : goal.name-requires-25
name-requires-25 c = lit≤ tt

pub assign_all-requires : goal.assign_all-requires
assign_all-requires c = lit< tt
