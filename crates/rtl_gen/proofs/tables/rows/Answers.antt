use Rattle.std.proofs.Common.{◌≡◌, ◌+◌, length, ap, ◌∙◌}
use Rattle.rtl_gen.specs.inner.Planned.{rows_from}
use Rattle.rtl_gen.proofs.Listed.{row_more, length-rows}
use Rattle.rtl_gen.proofs.tables.rows.Goals as goal

pub loop-i-preserved : goal.loop-i-preserved
loop-i-preserved c =
    let more : c.push.new.self.items ≡ rows_from c.args.scramble.now 0 (c.loop-i.i + 1) =
    row_more c.args.scramble.now c.loop-i.i c.loop-i.rows.items c.push.new.self.items c.row.result c.loop-i.invariant.0 c.push.ensures.items c.row.ensures in
    (more, ap length more ∙ length-rows c.args.scramble.now 0 (c.loop-i.i + 1))
