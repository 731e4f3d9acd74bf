use Rattle.std.proofs.Common.{arith}
use Rattle.word_coupling.proofs.Verdicts.{least_is, none_is}
use Rattle.word_coupling.proofs.judging.judge_by.Goals as goal

pub returns-in-Some : goal.returns-in-Some
returns-in-Some c =
    least_is c.args.reading c.args.prim.now c.args.march.now c.args.memory.now c.table_of-table.result c.known-2.ensures c.known.ensures
    c.bits-vic-end.ensures.memory c.table_of-table.ensures c.loop-vic.vic c.in-Some.escape c.in-Some.ensures c.loop-vic.invariant

pub returns : goal.returns
returns c =
    none_is c.args.reading c.args.prim.now c.args.march.now c.args.memory.now c.table_of-table.result c.known-2.ensures c.known.ensures
    c.bits-vic-end.ensures.memory c.table_of-table.ensures c.loop-vic.vic (omega arith) c.loop-vic.invariant
