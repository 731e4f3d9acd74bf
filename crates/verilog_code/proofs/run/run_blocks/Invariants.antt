use Rattle.std.proofs.Common.{◌≡◌, length, map, drop}
use Rattle.verilog_code.specs.Places.{run_blocks}
use Rattle.verilog_code.proofs.run.run_blocks.Given as goal

abbrev pub invariant-loop-block : goal.invariant-loop-block
invariant-loop-block g l = record {
  len : length l.next.items ≡ length l.initial.next.items;
  items : run_blocks g.V.NetValue.do_all (map (λ b. map g.V.NetValue.doing b.items) (drop l.block-index l.blocks)) l.values l.next.items ≡ run_blocks g.V.NetValue.do_all (map (λ b. map g.V.NetValue.doing b.items) l.blocks) l.values l.initial.next.items;
}
