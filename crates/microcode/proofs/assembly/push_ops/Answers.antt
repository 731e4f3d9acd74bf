use Rattle.std.proofs.Common.{arith, refl, ap, ◌<◌, length, length-append}
use Rattle.march_core.specs.March.{sweep}
use Rattle.microcode.specs.Code.{instrs_from}
use Rattle.microcode.proofs.Behind.{length-instrs}
use Rattle.microcode.proofs.Assembled.{pushed_more, instr_is}
use Rattle.microcode.proofs.assembly.push_ops.Goals as goal

pub push-requires : goal.push-requires
push-requires c =
    let x = sweep c.args.order c.args.ops.now in
    let n = c.loop-number.number in
    let so_far = ap length c.loop-number.invariant in
    let both = length-append c.args.code.now.items (instrs_from x 0 n) in
    let more = length-instrs x 0 n in
    let test = c.loop-number-test.true in
    let room = c.requires in
    let less : length c.loop-number.code.items < 320 = omega arith in
    (omega arith, less)

pub loop-number-preserved : goal.loop-number-preserved
loop-number-preserved c =
    let x = sweep c.args.order c.args.ops.now in
    let n = c.loop-number.number in
    pushed_more x n _ c.args.code.now.items c.loop-number.code.items c.push.new.self.items c.push.ensures.items c.loop-number.invariant
    (instr_is x c.args.ops.now n c.writes.result c.data_value.result c.down_of-down.result refl refl c.loop-number-test.true c.writes.ensures c.data_value.ensures c.down_of-down.ensures)
