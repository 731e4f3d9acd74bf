use Rattle.bist_app.proofs.Common.{◌≡◌, ◌++◌, ◌∙◌, ap, length, suc, sym, subst, last_group, end_of}
use Rattle.bist_app.specs.Chip.{LeavesChip, chip_line}
use Rattle.bist_app.specs.inner.ChipParts.{CanStart, MakesFile}
use Rattle.bist_app.proofs.ChipTexts.{light_weights, starts, tests_table}
use Rattle.bist_app.proofs.chip.plan_chip.Goals as goal

pub first_fit-groups-requires-clause-light : goal.first_fit-groups-requires-clause-light
first_fit-groups-requires-clause-light c =
    light_weights c.args.chip.now c.args.table.now c.requires.0 c.budget.result c.deref.result.now c.budget.ensures.value c.deref.ensures.0 c.requires.1.has_read

pub put_chip_line-requires : goal.put_chip_line-requires
put_chip_line-requires c =
    subst (λ gs. CanStart gs c.deref-3.result.now) (sym c.deref-2.ensures.0)
    (starts c.args.chip.now c.args.table.now c.requires.0 c.budget.result c.deref.result.now c.first_fit-groups.result.items c.deref-3.result.now c.budget.ensures.value c.deref.ensures.0
    c.deref-3.ensures.0 c.requires.1.has_read c.first_fit-groups.ensures)

pub returns-clause-answer : goal.returns-clause-answer
unfolding LeavesChip
returns-clause-answer c =
    tests_table c.args.chip.now c.args.table.now c.budget.result c.deref.result.now c.first_fit-groups.result.items c.deref-3.result.now c.in_ok-outputs.ensures.0 c.put_chip_line.new.line.items _
    c.budget.ensures.value c.deref.ensures.0 c.deref-3.ensures.0 c.first_fit-groups.ensures
    (subst (λ gs. MakesFile c.args.chip.now c.args.table.now gs c.in_ok-outputs.ensures.0) c.deref-4.ensures.0 c.in_ok-outputs.ensures.1)
    (subst (λ gs. c.put_chip_line.new.line.items ≡ chip_line (length gs) (suc (last_group gs)) (end_of gs c.deref-3.result.now)) c.deref-2.ensures.0
    (c.in_ok-put_chip_line.ensures ∙ ap (λ xs. xs ++ chip_line (length c.deref-2.result.now) (suc (last_group c.deref-2.result.now)) (end_of c.deref-2.result.now c.deref-3.result.now)) c.new-line.ensures.items))
    c.in_ok-outputs.ensures.2
