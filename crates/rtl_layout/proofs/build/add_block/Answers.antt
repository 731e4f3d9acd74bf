use Rattle.std.proofs.Common.{ap, ◌∙◌, map}
use Rattle.verilog_tree.specs.Plain.{AlwaysItem, statements, plain_item, plain_stmt}
use Rattle.rtl_layout.specs.Layout as L
use Rattle.rtl_layout.specs.Seen.{seen}
use Rattle.rtl_layout.proofs.Joined.{pushed, from_nothing}
use Rattle.rtl_layout.proofs.build.add_block.Goals as goal

pub returns : goal.returns
returns c =
    pushed plain_item c.args.items.now.items c.push.new.self.items _ _ c.in_ok-push.ensures.items
    (ap (λ n. AlwaysItem n (statements (map plain_stmt c.set_registers.new.block.items))) c.name.ensures
    ∙ ap (λ ss. AlwaysItem L.clk (statements ss)) (from_nothing (map plain_stmt c.new-block.result.items) _ (L.sets_all (seen c.args.plan.now)) (ap (map plain_stmt) c.new-block.ensures.items) c.in_ok-set_registers.ensures))
