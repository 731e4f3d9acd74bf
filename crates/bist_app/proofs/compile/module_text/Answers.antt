use Rattle.bist_app.proofs.Common.{plain_module, IfOk-weaker}
use Rattle.bist_app.specs.Compile.{IsSelfTestText}
use Rattle.bist_app.proofs.Conforming.{layout_conforms}
use Rattle.bist_app.proofs.ReadTexts.{layout_reads, both_ok}
use Rattle.bist_app.proofs.compile.module_text.Goals as goal

pub returns : goal.returns
returns c =
    let tree = plain_module c.in_ok-tree.tree in
    let r = c.emit.result in
    let e = c.emit.ensures in
    let checked = layout_conforms c.args.march.now c.args.memory.now tree c.in_ok-tree.ensures.layout c.in_ok-tree.ensures.self_test in
    IfOk-weaker r _ _ (λ text said.
    let read = layout_reads text.items tree c.in_ok-tree.ensures.layout said.0 in
    let tests : IsSelfTestText c.args.march.now c.args.memory.now text.items = record {
      tree = tree;
      is_text = said.1.0;
      one_tree = said.1.1.0;
      spells = said.1.1.1.0;
      no_other = said.1.1.1.1;
      freely = read.0;
      freely_no_other = read.1;
      self_test = c.in_ok-tree.ensures.self_test;
      expected = c.in_ok-tree.ensures.expected;
      numbers = c.in_ok-tree.ensures.numbers;
      conforms = checked.0;
      conforms_alone = checked.1;
    } in
    tests) (both_ok _ _ r e.form (both_ok _ _ r e.text (both_ok _ _ r e.one_text (both_ok _ _ r e.spells e.no_other))))
