use Rattle.word_faults.proofs.Decoders.{decoder_wrong}
use Rattle.word_faults.proofs.laws.decoder_answers_wrong.Goals as goal

pub returns : goal.returns
returns c = decoder_wrong c.args.march.now c.args.memory.now c.known.ensures c.known-2.ensures
