use Rattle.word_device.proofs.Wholes.{planted_wrong}
use Rattle.word_faults.proofs.Linked.{linked_wrong}
use Rattle.word_faults.proofs.Decoders.{decoder_wrong}
use Rattle.word_faults.proofs.Dynamic.{dynamic_wrong}
use Rattle.word_faults.proofs.There.{are_there}
use Rattle.word_faults.proofs.Reached.{each_wrong}
use Rattle.word_faults.proofs.laws.each_memory_answers_wrong.Goals as goal

pub returns : goal.returns
returns c =
    let march = c.args.march.now in
    let d = c.args.memory.now in
    let is_march = c.known.ensures in
    let is_memory = c.known-2.ensures in
    each_wrong march d is_memory (are_there d is_memory) (planted_wrong march d is_memory) (linked_wrong march d is_march is_memory)
    (decoder_wrong march d is_march is_memory) (dynamic_wrong march d is_memory)
