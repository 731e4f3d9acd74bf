use Rattle.std.proofs.Common.{List, ◌<◌, length, ◌++◌, ◌∙◌, ap, sym, arith}
use Rattle.march_core.specs.March.{element_at}
use Rattle.microcode.specs.declared.code.Instr.{Instr}
use Rattle.microcode.specs.Code.{opers_at, instrs_from}
use Rattle.microcode.proofs.Assembled.{room, element_more}
use Rattle.microcode.proofs.assembly.assemble.Goals as goal

pub push_element-requires-clause-room : goal.push_element-requires-clause-room
push_element-requires-clause-room c =
    let test = c.loop-element-test.true in
    let count = c.len-element-end.ensures.value in
    let below : c.loop-element.element < length c.args.march.now = omega arith in
    room c.args.march.now c.loop-element.element c.loop-element.code.items c.len-element-end.ensures.march below c.loop-element.invariant

pub loop-element-preserved : goal.loop-element-preserved
loop-element-preserved c =
    let march = c.args.march.now in
    let e = c.loop-element.element in
    let test = c.loop-element-test.true in
    let count = c.len-element-end.ensures.value in
    let below : e < length march = omega arith in
    c.push_element.ensures ∙ ap (λ (code : List Instr). code ++ instrs_from (element_at march e) 0 (opers_at march e)) c.loop-element.invariant
    ∙ sym (element_more march e below)
