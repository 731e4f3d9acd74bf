use Rattle.std.proofs.Common.{sym, ◌∙◌, drop_of_length-le, arith}
use Rattle.march_syntax.proofs.Standing.{stands_start, can_add, stands_on}
use Rattle.march_syntax.proofs.Outcomes.{gives_exceeded}
use Rattle.march_syntax.proofs.read.scanned.Goals as goal

pub loop-i-init : goal.loop-i-init
loop-i-init c = rw c.new-builder.ensures (stands_start c.args.bytes.now)

pub loop-i-preserved : goal.loop-i-preserved
loop-i-preserved c = stands_on c.args.bytes.now c.loop-i.place c.loop-i.braced c.loop-i.builder c.loop-i.exceeded c.loop-i.i c.loop-i.invariant c.in-Some.next c.build-exceeded.new.builder c.build-exceeded.result c.loop-i-test.true (sym c.in-Some.ensures) c.build-exceeded.ensures

pub returns-in-Some-exceeded : goal.returns-in-Some-exceeded
returns-in-Some-exceeded c = gives_exceeded c.args.bytes.now c.loop-i.place c.loop-i.braced c.loop-i.builder c.loop-i.exceeded c.loop-i.i c.loop-i.invariant c.in-Some-exceeded.fault c.in-Some-exceeded.is (drop_of_length-le c.args.bytes.now (omega arith)) (sym c.is_end.ensures ∙ c.if-not-is_end.false)

pub build-exceeded-requires : goal.build-exceeded-requires
build-exceeded-requires c =
    can_add c.args.bytes.now c.loop-i.place c.loop-i.braced c.loop-i.builder c.loop-i.exceeded c.loop-i.i c.loop-i.invariant _ c.in-Some.next
    (sym c.in-Some.ensures)
