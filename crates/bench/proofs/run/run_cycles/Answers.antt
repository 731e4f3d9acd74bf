use Rattle.std.proofs.Common.{◌≡◌, ◌∙◌, ap}
use Rattle.verilog_cycle.specs.Design.{DesignView, with_registers}
use Rattle.bench.proofs.Stages.{stage_first, stage_more}
use Rattle.bench.proofs.run.run_cycles.Goals as goal

pub loop-cycle-init : goal.loop-cycle-init
loop-cycle-init g c = record {
  kept = c.first_cycle-watch.ensures.kept;
  room = c.first_cycle-watch.ensures.device.0;
  fitted = c.first_cycle-watch.ensures.device.1 ∙ c.requires.fitted;
  stage = stage_first c.args.design.now.tree c.args.march.now c.args.memory.now c.args.design.now.registers c.first_cycle-watch.new.design.registers _ _
      c.first_cycle-watch.result c.reset-control.result c.first_cycle-watch.ensures.watched
      (λ returned. c.reset-control.ensures c.args.march.now returned c.known.ensures c.assemble-code.ensures);
}

pub loop-cycle-preserved : goal.loop-cycle-preserved
loop-cycle-preserved g c = record {
  kept = c.turn-end.ensures.kept ∙ ap (λ (x : DesignView). with_registers x c.turn-end.new.design.registers) c.loop-cycle.invariant.kept;
  room = c.turn-end.ensures.device.0 ∙ c.loop-cycle.invariant.room;
  fitted = c.turn-end.ensures.device.1 ∙ c.loop-cycle.invariant.fitted;
  stage = stage_more c.args.design.now.tree c.loop-cycle.design.tree c.args.march.now c.args.memory.now c.args.design.now.registers _ c.loop-cycle.cycle
      c.loop-cycle.design.registers c.turn-end.new.design.registers c.loop-cycle.watch c.watched-watch.result _ _ c.loop-cycle.control c.step.new.self
      c.expected-expected.result c.turn-end.result (ap (λ (x : DesignView). x.tree) c.loop-cycle.invariant.kept) c.watched-watch.ensures
      c.loop-cycle.invariant.stage c.turn-end.ensures.turned c.turn-end.ensures.low
      (λ returned n. c.expected-expected.ensures c.args.march.now c.args.memory.now returned n)
      (λ returned n. c.step.ensures c.args.march.now c.args.memory.now returned n);
}
