use Rattle.std.proofs.Common.{sym, subst}
use Rattle.word_coupling.specs.Escapes.{IsWordVerdict}
use Rattle.word_coupling.proofs.Found.{found}
use Rattle.word_coupling.proofs.judging.judge_in_word.Goals as goal

pub returns : goal.returns
returns c =
    subst (IsWordVerdict c.args.march.now c.args.memory.now c.args.prim.now) (sym c.found_of.ensures)
    (found c.args.march.now c.args.memory.now c.args.prim.now c.judge_by-before.result c.judge_by-behind.result c.judge_by-before.ensures c.judge_by-behind.ensures)
