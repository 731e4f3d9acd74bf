use Rattle.std.proofs.Common.{◌∙◌}
use Rattle.verilog_code.specs.Places.{put_all}
use Rattle.verilog_code.proofs.Loops.{one_put}
use Rattle.verilog_code.proofs.run.put_all.Goals as goal

pub loop-i-preserved : goal.loop-i-preserved
loop-i-preserved g c = record {
  value = one_put c.args.all.now c.args.first c.loop-i.i c.index-all-i.result c.loop-i.values.items c.put.new.values.items (put_all c.args.first c.args.all.now c.args.values.now.items) c.loop-i-test.true c.index-all-i.is c.put.ensures.items c.loop-i.invariant.value;
  room = c.put.ensures.len ∙ c.loop-i.invariant.room;
}
