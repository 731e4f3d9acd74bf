use Rattle.bist_app.proofs.Common.{List, ℕ, codes, decimal, ap, ◌++◌, ◌∙◌, on_ok_weaker}
use Rattle.report_lines.proofs.LinesGrow.{two_parts}
use Rattle.bist_app.proofs.shown_texts.put_head.Goals as goal

pub returns : goal.returns
returns c =
    let out = c.args.out.now.items in
    let name = c.args.chip.now.name in
    let head : List ℕ = codes "chip 1\nname " ++ name ++ codes "\nbudget " in
    let number : List ℕ = decimal c.args.chip.now.budget ++ codes "\n" in
    let first = c.in_ok-put_between.ensures ∙ ap (λ (n : List ℕ). out ++ (codes "chip 1\nname " ++ n ++ codes "\nbudget ")) (c.as_bytes.ensures.value ∙ c.name.ensures.value) in
    on_ok_weaker c.put_number_between.result
    (λ second. two_parts out head number c.put_between.new.out.items c.put_number_between.new.out.items first
    (second ∙ ap (λ (n : ℕ). c.put_between.new.out.items ++ (decimal n ++ codes "\n")) (c.from.ensures ∙ c.budget.ensures.value)))
    c.put_number_between.ensures
