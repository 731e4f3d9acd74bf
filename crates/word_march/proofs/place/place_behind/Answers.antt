use Rattle.std.proofs.Common.{◌+◌, arith}
use Rattle.word_march.proofs.Places.{first_place, next_place}
use Rattle.word_march.proofs.place.place_behind.Goals as goal

pub returns-in-Some-clause-place : goal.returns-in-Some-clause-place
returns-in-Some-clause-place c =
    let words = c.words-words.ensures.memory.words_low in
    next_place c.args.march.now c.args.memory.now (c.args.place.element + 1) c.in-Some.element c.args.place c.known.ensures c.requires.more (omega arith) c.in-Some.ensures.found

pub returns-in-None-clause-place : goal.returns-in-None-clause-place
returns-in-None-clause-place c =
    let words = c.words-words.ensures.memory.words_low in
    let more = c.requires.more in
    first_place c.args.march.now c.args.memory.now (c.args.place.background + 1) c.run_start.result c.known.ensures (omega arith) (omega arith) c.run_start.ensures
