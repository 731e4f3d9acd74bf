use Rattle.std.proofs.Common.{◌≡◌, ◌++◌, ◌∷◌, [], take}
use Rattle.march_core.specs.March.{sweep}
use Rattle.made_inputs.proofs.made_march.add_element.Given as goal

-- the element has the operations so far
abbrev pub invariant-loop-op : goal.invariant-loop-op
invariant-loop-op l = l.builder ≡ l.fn.builder ++ sweep l.fn.order (take l.op-index l.ops) ∷ []
