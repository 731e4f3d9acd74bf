use Rattle.std.proofs.Common.{◌+◌, not, ◌&&◌, drop, refl, ap, sym, ◌∙◌}
use Rattle.std.proofs.lemmas.Bool.{and_right}
use Rattle.std.proofs.lemmas.List.{at_drop_all}
use Rattle.std.proofs.Math.Bool.{and-true}
use Rattle.verilog_tree.specs.Formed.{has_label, labels_formed}
use Rattle.verilog_tree.proofs.InOrder.{at_item}
use Rattle.verilog_tree.proofs.Lists.{some_label}
use Rattle.verilog_tree.proofs.sizes.labels_formed.Goals as goal

pub loop-label-init : goal.loop-label-init
loop-label-init c = refl

pub returns-then-not-literal_formed : goal.returns-then-not-literal_formed
returns-then-not-literal_formed c =
    sym (and_right _ _ (c.loop-label.invariant ∙ at_item labels_formed c.args.labels.now c.loop-label.label-index c.label-item.result c.loop-label-test.true c.label-item.is
    ∙ ap (λ t. t && labels_formed (drop (c.loop-label.label-index + 1) c.args.labels.now)) (sym c.if-not-literal_formed.ensures)))

pub loop-label-preserved : goal.loop-label-preserved
loop-label-preserved c =
    c.loop-label.invariant ∙ at_item labels_formed c.args.labels.now c.loop-label.label-index c.label-item.result c.loop-label-test.true c.label-item.is
    ∙ ap (λ t. t && labels_formed (drop (c.loop-label.label-index + 1) c.args.labels.now)) (sym c.if-not-literal_formed.ensures)

pub returns : goal.returns
returns c =
    ap not c.is_empty.ensures
    ∙ sym (some_label c.args.labels.now)
    ∙ sym (and-true (has_label c.args.labels.now))
    ∙ ap (λ b. has_label c.args.labels.now && b) (sym (c.loop-label.invariant ∙ at_drop_all labels_formed c.args.labels.now c.loop-label.label-index c.loop-label-test.false))
