use Rattle.std.proofs.Common.{cond, sym, ap, ◌∙◌}
use Rattle.rtl_layout.specs.Layout as L
use Rattle.rtl_layout.specs.Seen.{seen}
use Rattle.rtl_layout.proofs.Built.{told}
use Rattle.rtl_layout.proofs.assigns.ones_row.Goals as goal

pub returns-then-has_several_bits : goal.returns-then-has_several_bits
returns-then-has_several_bits c =
    told c.flag_row.result _ _ (ap (λ t. L.flag_row (seen c.args.plan.now) (cond t L.one_behind L.one_at)) (sym c.if-has_several_bits.true ∙ c.has_several_bits.ensures)) c.flag_row.ensures

pub returns-else-has_several_bits : goal.returns-else-has_several_bits
returns-else-has_several_bits c =
    told c.flag_row-else-has_several_bits.result _ _ (ap (λ t. L.flag_row (seen c.args.plan.now) (cond t L.one_behind L.one_at)) (sym c.if-has_several_bits.false ∙ c.has_several_bits.ensures))
    c.flag_row-else-has_several_bits.ensures
