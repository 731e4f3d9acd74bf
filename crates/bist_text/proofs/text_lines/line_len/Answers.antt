use Rattle.std.proofs.Common.{◌≡◌, ◌∙◌, length, arith}
use Rattle.std.proofs.lemmas.List.{drop_all}
use Rattle.bist_text.proofs.LineLemmas.{feed_on, feed_stop, feed_end}
use Rattle.bist_text.proofs.text_lines.line_len.Goals as goal

pub returns-then-byte-eq10-clause-value : goal.returns-then-byte-eq10-clause-value
returns-then-byte-eq10-clause-value c = feed_stop c.args.bytes.now c.loop-i.i _ c.loop-i-test.true c.if-byte-eq10.true c.loop-i.invariant

pub loop-i-preserved : goal.loop-i-preserved
loop-i-preserved c = feed_on c.args.bytes.now c.loop-i.i _ c.loop-i-test.true c.if-byte-eq10.false c.loop-i.invariant

pub returns-clause-value : goal.returns-clause-value
returns-clause-value c =
    let at_end : length c.args.bytes.now ≡ c.loop-i.i = omega arith in
    at_end ∙ feed_end c.args.bytes.now c.loop-i.i _ (drop_all c.loop-i.i c.args.bytes.now c.loop-i-test.false) c.loop-i.invariant
