use Rattle.bist_app.proofs.Common.{◌≡◌, ◌≤◌, true, length, sym, subst, IfOk-weaker}
use Rattle.verilog_tree.specs.Words.{is_name}
use Rattle.chip_rtl.specs.ChipFile.{IsPlanOf}
use Rattle.bist_app.proofs.ChipTexts.{legal_name, plan_of, makes_file}
use Rattle.bist_app.proofs.chip.chip_file.Goals as goal

pub append_top-requires-clause-named : goal.append_top-requires-clause-named
append_top-requires-clause-named c = subst (λ n. is_name n ≡ true) (sym c.name.ensures.value) (legal_name c.args.chip.now.name c.name.ensures.chip.name)

pub append_top-requires-clause-short : goal.append_top-requires-clause-short
append_top-requires-clause-short c = subst (λ n. length n ≤ 48) (sym c.name.ensures.value) c.name.ensures.chip.name.short

pub append_top-requires-clause-planned : goal.append_top-requires-clause-planned
append_top-requires-clause-planned c =
    subst (λ ds. IsPlanOf ds c.args.groups.now) (sym c.deref.ensures.value)
    (plan_of c.args.chip.now c.args.table.now c.requires.0 c.args.groups.now c.requires.1.has_read c.requires.2)

pub returns : goal.returns
returns c =
    IfOk-weaker c.one_output.result _ _
    (λ outputs e. (
      c.append_top.new.out.items,
      makes_file c.args.chip.now c.args.table.now c.args.groups.now c.in_ok-text.text.items c.append_top.new.out.items c.name.result.now c.deref.result.now
          c.name.ensures.value c.deref.ensures.value c.in_ok-text.ensures c.in_ok-append_top.ensures.ok,
      e,
    ))
    c.one_output.ensures
