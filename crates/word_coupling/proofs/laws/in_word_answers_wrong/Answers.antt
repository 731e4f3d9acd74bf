use Rattle.word_coupling.proofs.Memories.{in_word_wrong, each_in_word_wrong, before_planted}
use Rattle.word_coupling.proofs.laws.in_word_answers_wrong.Goals as goal

pub returns : goal.returns
returns c =
    let march = c.args.march.now in
    let d = c.args.memory.now in
    let wrong = in_word_wrong march d c.known.ensures in
    record { wrong = wrong; each = each_in_word_wrong march d wrong; before = before_planted }
