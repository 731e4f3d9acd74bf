use Rattle.std.proofs.Common.{Ok, Err}
use Rattle.march_syntax.proofs.Outcomes.{reads}
use Rattle.march_syntax.proofs.OneOutcome.{one_text}
use Rattle.march_syntax.proofs.read.read_march.Goals as goal

pub returns : goal.returns
returns c = record {
  ok = λ march. reads c.args.bytes.now c.scanned.result c.scanned.ensures (Ok march);
  refused = λ fault. reads c.args.bytes.now c.scanned.result c.scanned.ensures (Err fault);
  one_reading = λ es fs. one_text c.args.bytes.now es fs;
}
