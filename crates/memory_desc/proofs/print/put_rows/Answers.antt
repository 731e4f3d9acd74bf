use Rattle.memory_desc.proofs.Common.{add-one, ap, append_assoc, if◌then◌else◌, le_antisymm, further, row_terms, scramble, with_rows, ◌++◌, ◌∙◌, ◌∷◌}
use Rattle.memory_desc.proofs.print.put_rows.Goals as goal

pub loop-i-preserved : goal.loop-i-preserved
loop-i-preserved c =
    let s = c.args.scramble.now in
    let i = c.loop-i.i in
    λ size cs. rw add-one (simp (c.in_ok-put_row.ensures, append_assoc) (simp append_assoc at (c.loop-i.invariant size (scramble i (row_terms s i) ∷ cs))))

pub returns : goal.returns
returns c =
    let s = c.args.scramble.now in
    let all = le_antisymm c.loop-i.auto.i-end c.loop-i-test.false ∙ c.width-i-end.ensures.width in
    λ size cs. c.loop-i.invariant size cs ∙ ap (λ k. c.args.out.now.items ++ further size (with_rows s k cs)) all
    ∙ ap (λ b. c.args.out.now.items ++ further size (with_rows s (if b then 0 else s.width) cs)) c.if-is_identity.ensures
