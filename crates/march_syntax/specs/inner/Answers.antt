-- Inner. For proofs and private contracts alone, beside Answers: what a text is read as: a march, or the first refusal.
use Rattle.std.specs.Prelude.{◌≡◌, List, Result, Ok, Err}
use Rattle.bist_text.specs.Machine.{Outcome, read, unexpected, truncated}
use Rattle.march_core.specs.declared.fault.MarchFault.{MarchFault}
use Rattle.march_core.specs.declared.fault.MarchFault.TheVariants.{Unexpected, Truncated}
use Rattle.march_core.specs.March.{MarchElement, IsMarch}
use Rattle.march_syntax.specs.Answers.{Refuses}

-- what the elements of a text are read as
abbrev pub Decides : List MarchElement → Result (List MarchElement) MarchFault → Type 0
Decides elements (Ok march) = (march ≡ elements) × IsMarch elements
Decides elements (Err fault) = Refuses elements fault

-- what a reader answers, by the outcome of its machine
abbrev pub Gives : Outcome (List MarchElement) → Result (List MarchElement) MarchFault → Type 0
Gives (unexpected k) result = result ≡ Err (Unexpected k)
Gives truncated result = result ≡ Err Truncated
Gives (read elements) result = Decides elements result
