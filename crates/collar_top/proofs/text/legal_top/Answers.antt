use Rattle.std.proofs.Common.{map, sym, ap, subst, ◌∙◌}
use Rattle.verilog_tree.specs.Plain.{plain_module}
use Rattle.chip_rtl.specs.declared.top.Placed.{Placed}
use Rattle.chip_rtl.specs.ChipTree.{TopTree}
use Rattle.chip_rtl.specs.TopSeen.{plain_placed}
use Rattle.chip_rtl.specs.TopFits.{TopFits, placed_fit}
use Rattle.std.specs.Prelude.{List}
use Rattle.collar_top.specs.CollarTops.{placing_of}
use Rattle.collar_top.proofs.Ending.{top_fits}
use Rattle.collar_top.proofs.text.legal_top.Goals as goal

pub returns-clause-writable : goal.returns-clause-writable
returns-clause-writable c =
    subst (λ (t : TopTree). TopFits t) (sym c.top_with.ensures)
    (top_fits (placing_of c.args.macro_.now) c.args.memory.now (plain_module c.in-Ok.frame) (map plain_placed c.in-Ok-placed.placed.items) c.in-Ok.ensures
    (sym c.if-not-fits.ensures)
    (ap (λ (l : List Placed). placed_fit (map plain_placed l)) (sym c.deref.ensures.value) ∙ sym c.if-not-placed_fit.ensures))
