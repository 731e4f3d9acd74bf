use Rattle.std.proofs.Common.{◌≡◌, ◌<◌, ◌+◌, ◌-◌, ◌*◌, ◌++◌, length}
use Rattle.march_core.specs.March.{all_ops}
use Rattle.made_inputs.specs.MadeMarch.{further, long_march}
use Rattle.made_inputs.proofs.made_march.add_further.Given as goal

-- the elements so far, and those that the sequence gives behind them, are the march
abbrev pub invariant-loop-element : goal.invariant-loop-element
invariant-loop-element l = record {
  whole : l.builder ++ further (58 - l._element) l.held l.x ≡ long_march l.number;
  elements : length l.builder ≡ 6 + l._element;
  operations : length (all_ops l.builder) ≡ 22 + 4 * l._element;
  small : l.x < 65536;
}
