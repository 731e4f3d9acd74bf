use Rattle.std.proofs.Common.{sym, ap, ◌∙◌, subst, arith}
use Rattle.controller.specs.declared.stage.Stage.{Stage}
use Rattle.controller.specs.Machine.{pushed, last_stage}
use Rattle.controller.specs.inner.States.{stage_from}
use Rattle.controller.specs.States.{IsKnown}
use Rattle.controller.proofs.Turn.{within}
use Rattle.controller.proofs.Mirror.{known_pushed, control_next, stands_next}
use Rattle.controller.proofs.control.Control.step.Goals as goal

pub instr_at-instr-requires : goal.instr_at-instr-requires
instr_at-instr-requires c =
    within c.self.invariant.somewhere.0 c.self.inside.memory.now c.self.inside.code.now c.self.inside.place c.self.invariant.somewhere.1

pub push_stage-leaving-requires : goal.push_stage-leaving-requires
push_stage-leaving-requires c =
    let count = c.self.invariant.count in
    let high = c.turn-turned.ensures.memory.latency_high in
    omega arith

pub word_at-self-inside-requires : goal.word_at-self-inside-requires
word_at-self-inside-requires c =
    let d = c.self.inside.memory.now in
    let s = stage_from c.instr_at-instr.result c.self.inside.run c.self.inside.place.back in
    subst (λ (x : Stage). IsKnown d x)
    (sym (c.push_stage-leaving.ensures.last ∙ ap (λ (x : Stage). last_stage x c.self.inside.stages.items) c.stage_of-entering.ensures))
    (known_pushed d s c.self.inside.stages.items c.self.invariant.somewhere.1.place.back c.self.invariant.known).1

pub invariant_of-self : goal.invariant_of-self
invariant_of-self c =
    control_next _ c.instr_at-instr.result c.turn-turned.result.place c.turn-turned.result.run c.push_stage-leaving.new.stages.items c.push_stage-leaving.result
    c.word_at-self-inside.result c.compare-self-inside.result c.self.invariant c.turn-turned.ensures.turned
    (c.push_stage-leaving.ensures.stages ∙ ap (λ (x : Stage). pushed x c.self.inside.stages.items) c.stage_of-entering.ensures)

pub returns : goal.returns
returns c = λ march d returned k e stands.
    stands_next march d _ _ c.args.rdata c.instr_at-instr.result c.turn-turned.result.place c.turn-turned.result.run c.push_stage-leaving.new.stages.items c.push_stage-leaving.result
    c.word_at-self-inside.result c.compare-self-inside.result returned k c.self.view_is c.turn-turned.ensures.memory c.instr_at-instr.ensures (c.turn-turned.ensures.turned march)
    (c.push_stage-leaving.ensures.stages ∙ ap (λ (x : Stage). pushed x c.self.inside.stages.items) c.stage_of-entering.ensures)
    (c.push_stage-leaving.ensures.last ∙ ap (λ (x : Stage). last_stage x c.self.inside.stages.items) c.stage_of-entering.ensures)
    c.word_at-self-inside.ensures.word c.compare-self-inside.ensures e stands
