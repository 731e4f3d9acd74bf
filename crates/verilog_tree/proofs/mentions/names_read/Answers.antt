use Rattle.std.proofs.Common.{[], ◌∷◌, ◌++◌, map, refl, ap, ◌∙◌}
use Rattle.verilog_tree.specs.Rules.{mentioned}
use Rattle.verilog_tree.specs.inner.Seen.{mention}
use Rattle.verilog_tree.proofs.Appended.{item_more}
use Rattle.verilog_tree.proofs.mentions.names_read.Goals as goal

pub loop-next-preserved : goal.loop-next-preserved
loop-next-preserved c =
    item_more (λ m. mentioned (mention m) ∷ []) (λ ms. map mentioned (map mention ms)) (map (λ n. n.bytes) c.loop-next.names.items) (map (λ n. n.bytes) c.put_name.new.names.items) _ _ c.loop-next.next-index c.next-item.result (λ y ys. refl)
    c.loop-next-test.true c.next-item.is
    (c.in_ok-put_name.ensures ∙ ap (λ b. map (λ n. n.bytes) c.loop-next.names.items ++ b ∷ []) c.name.ensures)
    c.loop-next.invariant
