use Rattle.bist_app.proofs.Common.{◌-◌, length, arith}
use Rattle.std.proofs.lemmas.Nat.{one_shl}
use Rattle.bist_app.proofs.DirectionWord.{letter_more, all_bits, word_fits, word_directions, word_rest}
use Rattle.bist_app.proofs.directions.direction_word.Goals as goal

pub loop-letter-preserved : goal.loop-letter-preserved
loop-letter-preserved c =
    letter_more c.args.letters.now c.loop-letter.value c.loop-letter.letter-index c.from.result c.loop-letter.invariant c.from.ensures

pub overflow_mul-result : goal.overflow_mul-result
overflow_mul-result c =
    let has = all_bits c.args.letters.now c.loop-letter.letter-index c.loop-letter.value c.loop-letter.invariant c.loop-letter-test.false c.loop-letter.auto.letter-index-end in
    let below = word_fits c.args.letters.now c.loop-letter.value has c.requires.most in
    rw (one_shl (64 - length c.args.letters.now) 64 (omega (arith, c.requires.least))) (omega (arith, below))

pub returns-clause-directions : goal.returns-clause-directions
returns-clause-directions c =
    let has = all_bits c.args.letters.now c.loop-letter.letter-index c.loop-letter.value c.loop-letter.invariant c.loop-letter-test.false c.loop-letter.auto.letter-index-end in
    rw (one_shl (64 - length c.args.letters.now) 64 (omega (arith, c.requires.least)))
    (word_directions c.args.letters.now c.loop-letter.value has c.requires.most)

pub returns-clause-rest : goal.returns-clause-rest
returns-clause-rest c =
    rw (one_shl (64 - length c.args.letters.now) 64 (omega (arith, c.requires.least)))
    (word_rest c.args.letters.now c.loop-letter.value)
