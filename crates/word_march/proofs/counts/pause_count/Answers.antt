use Rattle.std.proofs.Common.{◌∙◌, sym, arith}
use Rattle.word_march.proofs.Count.{pause_more, sweep_more}
use Rattle.word_march.proofs.counts.pause_count.Goals as goal
use Rattle.word_march.proofs.counts.pause_count.Goals.{then-is_pause, else-is_pause}

pub loop-element-preserved : goal.loop-element-preserved
loop-element-preserved c =
    let march = c.args.march.now in
    let element = c.loop-element.element in
    let so_far = c.loop-element.invariant.0 in
    let few = c.loop-element.invariant.1 in
    elim c.if-is_pause.branch [
      | then-is_pause w ↦
          let more = pause_more march element (omega arith) (sym c.is_pause.ensures ∙ w.if-is_pause.true) in
          let is = w.count-is in
          (omega arith, omega arith)
      | else-is_pause w ↦
          let more = sweep_more march element (omega arith) (sym c.is_pause.ensures ∙ w.if-is_pause.false) in
          let is = w.count-is in
          (omega arith, omega arith)
    ]
