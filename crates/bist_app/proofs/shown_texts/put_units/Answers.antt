use Rattle.bist_app.proofs.Common.{List, ℕ, ◌++◌, ◌∙◌, ap, sym}
use Rattle.std.proofs.lemmas.List.Folds.{flat_map-map}
use Rattle.report_lines.proofs.LinesGrow.{text_more, all_texts}
use Rattle.chip_desc.specs.Chips.{unit_of}
use Rattle.chip_desc.specs.declared.chip.ChipUnit.{ChipUnit}
use Rattle.bist_app.specs.Show.{unit_line}
use Rattle.bist_app.proofs.shown_texts.put_units.Goals as goal

abbrev line_of : ChipUnit → List ℕ
line_of u = unit_line (unit_of u)

pub loop-unit-preserved : goal.loop-unit-preserved
loop-unit-preserved c =
    text_more line_of c.args.units.now c.loop-unit.unit-index c.unit-item.result c.unit-item.result c.args.out.now.items c.loop-unit.out.items c.put_unit.new.out.items
    c.loop-unit-test.true c.unit-item.is c.loop-unit.invariant c.in_ok-put_unit.ensures

pub returns : goal.returns
returns c =
    all_texts line_of c.args.units.now c.loop-unit.unit-index c.args.out.now.items c.loop-unit.out.items c.loop-unit-test.false c.loop-unit.invariant
    ∙ ap (λ (l : List ℕ). c.args.out.now.items ++ l) (sym (flat_map-map unit_line unit_of c.args.units.now))
