use Rattle.std.proofs.Common.{◌≡◌, OnOk, [], ◌∷◌, ◌++◌, codes, ap, ◌∙◌, sym, subst, map, lit<}
use Rattle.verilog_tree.specs.Plain.{Net, SetTo, plain, plain_stmt}
use Rattle.rtl_layout.specs.Build.{lit, at_reset}
use Rattle.rtl_layout.specs.Layout as L
use Rattle.rtl_layout.specs.inner.Layout as LInner
use Rattle.rtl_layout.proofs.Built.{told}
use Rattle.rtl_layout.proofs.Joined.{grown, aged_next, next_age}
use Rattle.rtl_layout.proofs.Rowed.{row_is}
use Rattle.rtl_layout.proofs.ages.set_age.Goals as goal

pub returns-then-many : goal.returns-then-many
returns-then-many c =
    let i = c.args.age in
    subst (λ m. OnOk c.set_all-then-many.result (map plain_stmt c.set_all-then-many.new.block.items ≡ map plain_stmt c.args.block.now.items ++ LInner.age_sets m c.args.width i)) (sym c.if-many.true)
    (grown c.set_all-then-many.result _ _ _ (LInner.valued_sets i) _
    (c.in_ok-set_all.ensures (LInner.valued_sets i) (
      row_is SetTo _ _ c.gated_reads.result _ (aged_next (codes "reads") _ i c.aged.ensures) c.gated_reads.ensures,
      (
        row_is SetTo _ _ c.gated_over.result _ (aged_next (codes "over") _ i c.aged-2.ensures) c.gated_over.ensures,
        (row_is SetTo _ _ c.gate.result _ (aged_next L.value _ i c.aged-3.ensures) (told c.gate.result _ _ (ap L.gated (c.net.ensures ∙ ap Net c.value_at.ensures)) c.gate.ensures), tt),
      ),
    ))
    (c.set_all-then-many.ensures (L.back_set c.args.width i ∷ []) (
      row_is SetTo _ _ c.after_reset-back.result _ (aged_next L.back _ i c.aged-then-many.ensures)
          (told c.after_reset-back.result _ _ (ap (λ x. at_reset x (plain c.net-then-many.result)) c.literal.ensures ∙ ap (at_reset (lit c.args.width 0)) (c.net-then-many.ensures ∙ ap Net c.back_at.ensures)) c.after_reset-back.ensures),
      tt,
    )))

pub returns : goal.returns
returns c =
    let i = c.args.age in
    subst (λ m. map plain_stmt c.set_all.new.block.items ≡ map plain_stmt c.args.block.now.items ++ LInner.age_sets m c.args.width i) (sym c.if-many.false)
    (c.in_ok-set_all.ensures (LInner.valued_sets i) (
      row_is SetTo _ _ c.gated_reads.result _ (aged_next (codes "reads") _ i c.aged.ensures) c.gated_reads.ensures,
      (
        row_is SetTo _ _ c.gated_over.result _ (aged_next (codes "over") _ i c.aged-2.ensures) c.gated_over.ensures,
        (row_is SetTo _ _ c.gate.result _ (aged_next L.value _ i c.aged-3.ensures) (told c.gate.result _ _ (ap L.gated (c.net.ensures ∙ ap Net c.value_at.ensures)) c.gate.ensures), tt),
      ),
    ))

pub overflow_add-age : goal.overflow_add-age
overflow_add-age c = (next_age _ c.requires.few).2

pub overflow_add-age-2 : goal.overflow_add-age-2
overflow_add-age-2 c = (next_age _ c.requires.few).2

pub overflow_add-age-3 : goal.overflow_add-age-3
overflow_add-age-3 c = (next_age _ c.requires.few).2

pub overflow_add-age-then-many : goal.overflow_add-age-then-many
overflow_add-age-then-many c = (next_age _ c.requires.few).2

pub aged-requires-clause-few : goal.aged-requires-clause-few
aged-requires-clause-few c = (next_age _ c.requires.few).0

pub aged-requires-2-clause-few : goal.aged-requires-2-clause-few
aged-requires-2-clause-few c = (next_age _ c.requires.few).0

pub aged-requires-3-clause-few : goal.aged-requires-3-clause-few
aged-requires-3-clause-few c = (next_age _ c.requires.few).0

pub aged-requires-then-many-clause-few : goal.aged-requires-then-many-clause-few
aged-requires-then-many-clause-few c = (next_age _ c.requires.few).0

pub gated_reads-requires : goal.gated_reads-requires
gated_reads-requires c = (next_age _ c.requires.few).1

pub gated_over-requires : goal.gated_over-requires
gated_over-requires c = (next_age _ c.requires.few).1

pub value_at-requires : goal.value_at-requires
value_at-requires c = (next_age _ c.requires.few).1

pub back_at-requires : goal.back_at-requires
back_at-requires c = (next_age _ c.requires.few).1

pub set_all-requires : goal.set_all-requires
set_all-requires c = lit< tt

pub set_all-requires-then-many : goal.set_all-requires-then-many
set_all-requires-then-many c = lit< tt

pub literal-requires-clause-positive : goal.literal-requires-clause-positive
literal-requires-clause-positive c = c.requires.positive

pub literal-requires-clause-narrow : goal.literal-requires-clause-narrow
literal-requires-clause-narrow c = c.requires.narrow
