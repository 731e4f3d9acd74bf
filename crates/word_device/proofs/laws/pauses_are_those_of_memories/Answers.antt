use Rattle.word_device.proofs.laws.pauses_are_those_of_memories.Goals as goal

pub returns : goal.returns
returns c = λ shape memory s m. record {
  name = m.name;
  words_low = m.words_low;
  words_high = m.words_high;
  bits_low = m.bits_low;
  bits_high = m.bits_high;
  latency_low = m.latency_low;
  latency_high = m.latency_high;
  polarity = m.polarity;
  pause_low = s.pause_low;
  pause_high = s.pause_high;
  address = m.address;
  full = m.full;
  invertible = m.invertible;
  unscrambled = m.unscrambled;
  tested = m.tested;
}
