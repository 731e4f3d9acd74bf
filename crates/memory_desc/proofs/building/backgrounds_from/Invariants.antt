use Rattle.memory_desc.proofs.Common.{Some, backgrounds, length, text_lines, ◌++◌, ◌≡◌, ◌≤◌}
use Rattle.memory_desc.specs.Subjects.{said}
use Rattle.memory_desc.specs.declared.content.Subject.TheVariants.{Backgrounds}
use Rattle.memory_desc.specs.inner.Heard.{statements}
use Rattle.memory_desc.proofs.building.backgrounds_from.Given as goal

abbrev pub invariant-loop-word : goal.invariant-loop-word
invariant-loop-word l = record {
  can_next : (goal.iterator-loop-word).can_next l.word-iterator;
  is_finite : (goal.iterator-loop-word).is_finite l.word-iterator;
  few : length l.set.items ≤ 8;
  taken : said Backgrounds (statements (text_lines l.bytes)) ≡ Some (backgrounds (l.set.items ++ l.word-iterator));
}
