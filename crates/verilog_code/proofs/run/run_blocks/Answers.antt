use Rattle.std.proofs.Common.{map, length, refl, ap, sym, ◌∙◌}
use Rattle.verilog_code.specs.Places.{run_blocks}
use Rattle.std.specs.List.{length_refill}
use Rattle.verilog_code.proofs.Loops.{one_run}
use Rattle.verilog_code.proofs.run.run_blocks.Goals as goal

pub loop-block-preserved : goal.loop-block-preserved
loop-block-preserved g c =
    let vs = c.args.values.now in
    let next = c.loop-block.next in
    let new = c.act_all.new.next in
    let lent = c.as_mut_slice.ensures.value in
    let block = c.block-item.result in
    let is = c.act_all.ensures ∙ ap (λ l. g.V.NetValue.do_all (map g.V.NetValue.doing l) vs c.as_mut_slice.result.now) c.deref.ensures.value ∙ ap (g.V.NetValue.do_all (map g.V.NetValue.doing block.items) vs) lent in
    record {
      len = sym (length_refill next.len next.items new next.ok.0) ∙ next.ok.0 ∙ c.loop-block.invariant.len;
      items = one_run c.args.blocks.now (λ bs l. run_blocks g.V.NetValue.do_all (map (λ b. map g.V.NetValue.doing b.items) bs) vs l) (λ b l. g.V.NetValue.do_all (map g.V.NetValue.doing b.items) vs l)
          c.loop-block.block-index next.len block next.items new _ c.loop-block-test.true c.block-item.is (λ more l. refl) next.ok.0 (c.act_all.auto.next ∙ ap length lent) is c.loop-block.invariant.items;
    }
