use Rattle.bist_app.proofs.Common.{◌++◌, ◌∙◌, ap, refl, plain_module}
use Rattle.chip_rtl.specs.ChipLaws.{ShowsAll}
use Rattle.bist_app.specs.inner.ChipParts.{PutsSelfTest}
use Rattle.bist_app.proofs.ChipTexts.{tests_more}
use Rattle.bist_app.proofs.ReadTexts.{layout_reads}
use Rattle.bist_app.proofs.chip.self_tests.Goals as goal

pub loop-unit-preserved : goal.loop-unit-preserved
unfolding ShowsAll
loop-unit-preserved c =
    let puts : PutsSelfTest c.index-marches-unit.result c.index-memories-unit.result c.loop-unit.out.items c.put.new.out.items = record {
      tree = plain_module c.in_ok-module.module;
      fit = c.in_ok-module.ensures.fits;
      tests = c.in_ok-module.ensures.self_test;
      freely = layout_reads _ (plain_module c.in_ok-module.module) c.in_ok-module.ensures.layout refl;
      shows = (c.in_ok-module.ensures.expected, c.in_ok-module.ensures.numbers);
      text = c.in_ok-put.ensures.ok ∙ ap (λ t. c.loop-unit.out.items ++ t) (c.deref.ensures.value ∙ c.in_ok-text.ensures.form);
    } in
    tests_more c.args.table.now c.as_slice-marches.result.now c.as_slice-memories.result.now c.loop-unit.unit c.index-marches-unit.result c.index-memories-unit.result c.loop-unit.out.items
    c.put.new.out.items c.as_slice-marches.ensures.value c.as_slice-memories.ensures.value c.loop-unit-test.true c.index-marches-unit.is c.index-memories-unit.is
    puts c.loop-unit.invariant
