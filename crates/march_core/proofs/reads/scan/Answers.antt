use Rattle.std.proofs.Common.{◌∙◌, sym}
use Rattle.march_core.proofs.Scanning.{scan_more, write_scanned, read_scanned, same_expected}
use Rattle.march_core.proofs.reads.scan.Goals as goal
use Rattle.march_core.proofs.reads.scan.Goals.{in-Some, in-None+else-ne}

pub loop-index-preserved : goal.loop-index-preserved
loop-index-preserved c =
    elim c.match-written.branch [
      | in-Some w ↦ rw w.last-is (scan_more c.args.last c.loop-index.last _ c.args.ops.now c.loop-index.index c.loop-index-test.true c.loop-index.invariant
          (write_scanned c.loop-index.last _ w.in-Some.bit w.in-Some.ensures))
      | in-None+else-ne w ↦ rw w.last-is (scan_more c.args.last c.loop-index.last c.loop-index.last c.args.ops.now c.loop-index.index c.loop-index-test.true c.loop-index.invariant
          (read_scanned c.loop-index.last _ w.in-None.ensures (sym w.expected.ensures ∙ same_expected _ _ w.if-ne.ensures)))
    ]
