use Rattle.std.proofs.Common.{Ok, Err}
use Rattle.fault_syntax.proofs.OneOutcome.{text_one}
use Rattle.fault_syntax.proofs.PrimReads.{reads}
use Rattle.fault_syntax.proofs.prim.read_prim.Goals as goal

pub returns : goal.returns
returns c = record {
  ok = λ p. reads c.args.bytes.now c.scanned.result c.scanned.ensures (Ok p);
  refused = λ fault. reads c.args.bytes.now c.scanned.result c.scanned.ensures (Err fault);
  one_reading = λ text other. text_one c.args.bytes.now text other;
}
