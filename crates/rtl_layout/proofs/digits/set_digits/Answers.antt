use Rattle.std.proofs.Common.{◌≡◌, OnOk, [], ◌∷◌, ◌++◌, ◌∙◌, map, sym, subst}
use Rattle.verilog_tree.specs.Plain.{SetTo, plain_stmt}
use Rattle.rtl_layout.specs.Layout as L
use Rattle.rtl_layout.specs.Seen.{seen}
use Rattle.rtl_layout.proofs.Joined.{grown}
use Rattle.rtl_layout.proofs.Rowed.{row_is}
use Rattle.rtl_layout.proofs.digits.set_digits.Goals as goal

pub returns-then-has_several_bits : goal.returns-then-has_several_bits
returns-then-has_several_bits c =
    let p = seen c.args.plan.now in
    subst (λ b. OnOk c.set_all.result (map plain_stmt c.set_all.new.block.items ≡ map plain_stmt c.args.block.now.items ++ (L.digit_sets p ++ L.one_set p b)))
    (sym c.if-has_several_bits.true ∙ c.has_several_bits.ensures)
    (grown c.set_all.result _ _ _ (L.digit_sets p) _ c.in_ok-set_counters.ensures
    (c.set_all.ensures (SetTo L.one (L.one_next p) ∷ []) (row_is SetTo _ _ c.one_next.result _ c.name.ensures c.one_next.ensures, tt)))

pub returns : goal.returns
returns c =
    let p = seen c.args.plan.now in
    subst (λ b. map plain_stmt c.set_counters.new.block.items ≡ map plain_stmt c.args.block.now.items ++ (L.digit_sets p ++ L.one_set p b))
    (sym c.if-has_several_bits.false ∙ c.has_several_bits.ensures)
    c.in_ok-set_counters.ensures
