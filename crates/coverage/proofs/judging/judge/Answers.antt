use Rattle.coverage.proofs.Judged.{none_covered, escape_never, escape_verdict}
use Rattle.coverage.proofs.Tables.{nothing_passes, something_passes}
use Rattle.coverage.proofs.judging.judge.Goals as goal

pub returns-in-Some : goal.returns-in-Some
returns-in-Some c =
    let p = c.args.prim.now in
    let march = c.args.march.now in
    record {
      verdict = escape_verdict p march c.in-Some.escape c.known-2.ensures c.known.ensures c.in-Some.ensures.0 c.in-Some.ensures.1;
      each_size = λ size more. escape_never p march c.in-Some.escape c.known-2.ensures c.known.ensures c.in-Some.ensures.0 c.in-Some.ensures.1.escape size more;
      tables = something_passes p march c.in-Some.escape c.known-2.ensures c.known.ensures c.in-Some.ensures.0 c.in-Some.ensures.1.escape;
    }

pub returns-in-None : goal.returns-in-None
returns-in-None c =
    let p = c.args.prim.now in
    let march = c.args.march.now in
    let all = none_covered p march c.known-2.ensures c.known.ensures c.in-None.ensures in
    record { verdict = all; each_size = λ size more. all size more; tables = nothing_passes p march c.known-2.ensures c.known.ensures all }
