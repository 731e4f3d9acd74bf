use Rattle.std.proofs.Math.Seq.{drop-cons}
use Rattle.std.proofs.lemmas.List.{drop_all}
use Rattle.memory_desc.proofs.Common.{List, [], add-one, ap, append-nil, append_assoc, codes, on_ok_weaker, words_text, ℕ, ◌++◌, ◌∙◌, ◌∷◌}
use Rattle.memory_desc.proofs.print.put_backgrounds.Goals as goal

pub loop-word-preserved : goal.loop-word-preserved
loop-word-preserved c =
    let more = c.loop-word.invariant in
    let left = drop-cons c.args.set.now c.loop-word.word-index 0 c.loop-word-test.true in
    rw add-one (simp (c.in_ok-put_word.ensures.ok, c.in_ok-put-2.ensures.ok, append_assoc) (rw left at more))

pub returns : goal.returns
returns c =
    let words = words_text c.args.bits c.args.set.now in
    let all = simp (drop_all c.loop-word.word-index c.args.set.now c.loop-word-test.false, append-nil) at c.loop-word.invariant in
    on_ok_weaker c.put-2.result
    (λ last. last ∙ ap (λ (x : List ℕ). x ++ (10 ∷ [])) (all ∙ ap (λ (x : List ℕ). x ++ words) c.in_ok-put.ensures.ok)
    ∙ append_assoc (c.args.out.now.items ++ codes "\nbackgrounds") words (10 ∷ []) ∙ append_assoc c.args.out.now.items (codes "\nbackgrounds") (words ++ (10 ∷ [])))
    c.put-2.ensures.ok
