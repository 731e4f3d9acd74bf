use Rattle.memory_desc.proofs.Common.{List, Ok, Reads, [], ap, backgrounds, further, printed, rows_printed, subst, sym, with_rows, ℕ, ◌++◌, ◌∙◌, ◌∷◌}
use Rattle.memory_desc.proofs.ReadBack.{read_back}
use Rattle.memory_desc.proofs.print.print_memory.Goals as goal

pub returns-clause-form : goal.returns-clause-form
returns-clause-form c =
    let d = c.args.memory.now in
    let listed = backgrounds d.backgrounds ∷ [] in
    let rows = with_rows d.scramble (rows_printed d.scramble) listed in
    c.in_ok-put_backgrounds.ensures
    ∙ ap (λ size. c.put_rows.new.out.items ++ further size (backgrounds c.backgrounds.result.now ∷ [])) c.bits.ensures.value
    ∙ ap (λ set. c.put_rows.new.out.items ++ further d.bits (backgrounds set ∷ [])) c.backgrounds.ensures.value
    ∙ c.in_ok-put_rows.ensures d.bits listed
    ∙ ap (λ s. c.put_head.new.out.items ++ further d.bits (with_rows s (rows_printed s) listed)) c.scramble.ensures
    ∙ c.in_ok-put_head.ensures rows ∙ ap (λ (xs : List ℕ). xs ++ printed d) c.new-out.ensures.items

pub returns-clause-read_back : goal.returns-clause-read_back
returns-clause-read_back c = subst (λ b. Reads b (Ok c.args.memory.now)) (sym (returns-clause-form c)) (read_back c.args.memory.now c.bits.ensures.memory)
