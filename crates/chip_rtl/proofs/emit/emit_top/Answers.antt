use Rattle.std.proofs.Common.{List, ℕ, ◌++◌, ◌∙◌, ap, sym, subst}
use Rattle.chip_rtl.specs.TopSeen.{plain_top}
use Rattle.chip_rtl.specs.PrintedTop.{printed_top}
use Rattle.chip_rtl.specs.PrintedLaws.{EndsChips}
use Rattle.chip_rtl.proofs.WrittenChip.{ends_chips}
use Rattle.chip_rtl.proofs.emit.emit_top.Goals as goal

pub returns-clause-ends_chips : goal.returns-clause-ends_chips
returns-clause-ends_chips c =
    let t = plain_top c.args.top.now in
    let text = c.in_ok-put_top.ensures ∙ ap (λ (out : List ℕ). out ++ printed_top t) c.new-out.ensures.items in
    subst (λ (out : List ℕ). EndsChips out t) (sym text) (ends_chips t c.requires)
