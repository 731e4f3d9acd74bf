use Rattle.std.proofs.lemmas.Fmt.{decimal_digit}
use Rattle.memory_desc.proofs.Common.{Bool, List, ap, codes, decimal, lit<, sym, version_number, ℕ, ◌++◌, ◌∙◌}
use Rattle.memory_desc.proofs.print.opening.Goals as goal

abbrev before_name : List ℕ → List ℕ
before_name digits = codes "memory " ++ (digits ++ codes "\nname ")

pub returns-then-plain : goal.returns-then-plain
returns-then-plain c = ap before_name (sym (decimal_digit 1 (lit< tt))) ∙ ap (λ (plain : Bool). before_name (decimal (version_number plain))) (sym c.if-plain.true)

pub returns-else-plain : goal.returns-else-plain
returns-else-plain c = ap before_name (sym (decimal_digit 2 (lit< tt))) ∙ ap (λ (plain : Bool). before_name (decimal (version_number plain))) (sym c.if-plain.false)
