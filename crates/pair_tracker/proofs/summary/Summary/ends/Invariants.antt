use Rattle.std.proofs.Common.{◌≡◌, ◌≤◌, length, take}
use Rattle.std.specs.List.{filter_map}
use Rattle.pair_tracker.specs.Reached.{all_pairs, with_word, words_from}
use Rattle.pair_tracker.proofs.summary.Summary.ends.Given as goal

abbrev pub invariant-loop-pair : goal.invariant-loop-pair
invariant-loop-pair l = record {
  found : l.found.items ≡ filter_map (with_word (words_from l.self.march l.self.prim l.self.placement l.self.first l.self.end l.start)) (take l.pair-index all_pairs);
  count : length l.found.items ≤ l.pair-index;
}
