use Rattle.std.proofs.Common.{arith}
use Rattle.scrambler.proofs.Identity.{no_identity}
use Rattle.scrambler.proofs.scramble.Scramble.is_identity.Goals as goal

pub returns-then-row-i : goal.returns-then-row-i
returns-then-row-i c =
    let s = c.args.self.now in
    no_identity s c.loop-i.i c.row.result (omega arith) (omega arith) c.row.ensures.row c.if-row-i.true
