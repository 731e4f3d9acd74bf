use Rattle.std.proofs.Common.{◌∙◌, sym}
use Rattle.controller.proofs.Turn.{within}
use Rattle.controller.proofs.Mirror.{visit_within, outputs_meet}
use Rattle.controller.proofs.control.Control.outputs.Goals as goal

pub instr_at-instr-requires : goal.instr_at-instr-requires
instr_at-instr-requires c =
    within c.self.invariant.somewhere.0 c.self.inside.memory.now c.self.inside.code.now c.self.inside.place c.self.invariant.somewhere.1

pub address-requires : goal.address-requires
address-requires c = λ on.
    visit_within c.self.invariant.somewhere.0 c.self.inside.memory.now c.self.inside.code.now c.self.inside.place c.instr_at-instr.result c.self.inside.run
    c.word_at-wdata.ensures.memory c.instr_at-instr.ensures c.self.invariant.somewhere.1 (sym c.is_live-live.ensures ∙ on)

pub returns : goal.returns
returns c = λ march d returned k stands.
    outputs_meet march d _ _ c.instr_at-instr.result c.is_live-live.result c.address.result c.word_at-wdata.result returned k
    c.self.view_is c.word_at-wdata.ensures.memory c.instr_at-instr.ensures c.is_live-live.ensures c.address.ensures c.word_at-wdata.ensures.word stands
