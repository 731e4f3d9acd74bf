use Rattle.std.proofs.Common.{◌+◌, ◌*◌, ◌<◌, ◌^◌, length, arith}
use Rattle.bist_text.proofs.Powers.{digit_fits}
use Rattle.bist_text.proofs.numbers.number.Goals as goal

pub overflow_mul-value : goal.overflow_mul-value
overflow_mul-value c =
    let fits : c.loop-byte.value * c.args.radix + 0 < 2 ^ 64 = digit_fits c.args.radix c.loop-byte.byte-index (length c.args.bytes.now) c.loop-byte.value 0 (2 ^ 64) c.loop-byte.invariant.small (omega arith) c.loop-byte-test.true c.requires.fits in
    rw c.from-in-loop-byte.ensures (omega arith)

pub overflow_add-value : goal.overflow_add-value
overflow_add-value c =
    let fits : c.loop-byte.value * c.args.radix + c.in_ok-digit.digit < 2 ^ 64 = digit_fits c.args.radix c.loop-byte.byte-index (length c.args.bytes.now) c.loop-byte.value c.in_ok-digit.digit (2 ^ 64) c.loop-byte.invariant.small (omega (arith, c.in_ok-digit.ensures.value)) c.loop-byte-test.true c.requires.fits in
    rw (c.from-in-loop-byte.ensures, c.from-in-loop-byte-2.ensures) (omega arith)
