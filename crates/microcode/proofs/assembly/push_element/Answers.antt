use Rattle.std.proofs.Common.{◌<◌, length, ◌++◌, ◌∙◌, ap, sym, arith}
use Rattle.march_core.specs.March.{MarchElement, sweep, order_at}
use Rattle.microcode.specs.Code.{opers_of, instrs_from}
use Rattle.microcode.proofs.Assembled.{pause_at, sweep_at}
use Rattle.microcode.proofs.assembly.push_element.Goals as goal

pub push-requires : goal.push-requires
push-requires c =
    let one = ap opers_of (pause_at c.args.march.now c.args.element (sym c.is_pause.ensures ∙ c.if-is_pause.true)) in
    let room = c.requires.room in
    let less : length c.args.code.now.items < 320 = omega arith in
    (omega arith, less)

pub push_ops-requires : goal.push_ops-requires
push_ops-requires c =
    let same = ap opers_of (sweep_at c.args.march.now c.args.element c.requires.within (sym c.is_pause.ensures ∙ c.if-is_pause.false)) in
    let count = ap length c.ops.ensures.value in
    let room = c.requires.room in
    omega arith

pub returns-then-is_pause : goal.returns-then-is_pause
returns-then-is_pause c =
    let e = pause_at c.args.march.now c.args.element (sym c.is_pause.ensures ∙ c.if-is_pause.true) in
    c.push.ensures.items ∙ ap (λ (x : MarchElement). c.args.code.now.items ++ instrs_from x 0 (opers_of x)) (sym e)

pub returns-else-is_pause : goal.returns-else-is_pause
returns-else-is_pause c =
    let march = c.args.march.now in
    let element = c.args.element in
    let e = sweep_at march element c.requires.within (sym c.is_pause.ensures ∙ c.if-is_pause.false) in
    let written = c.push_ops.ensures in
    written
    ∙ ap (λ order. c.args.code.now.items ++ instrs_from (sweep order c.ops.result.now) 0 (length c.ops.result.now)) c.order.ensures
    ∙ ap (λ ops. c.args.code.now.items ++ instrs_from (sweep (order_at march element) ops) 0 (length ops)) c.ops.ensures.value
    ∙ ap (λ (x : MarchElement). c.args.code.now.items ++ instrs_from x 0 (opers_of x)) (sym e)
