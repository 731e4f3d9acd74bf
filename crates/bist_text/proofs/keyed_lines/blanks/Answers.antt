use Rattle.std.proofs.Common.{◌∙◌, sym}
use Rattle.std.proofs.lemmas.List.{drop_all}
use Rattle.bist_text.proofs.Blanks.{blanks_have}
use Rattle.bist_text.proofs.keyed.Steps.{blank_on, blank_stop, blank_end, rest_of}
use Rattle.bist_text.proofs.keyed_lines.blanks.Goals as goal

pub returns-then-not-contains : goal.returns-then-not-contains
returns-then-not-contains c =
    sym (rest_of c.args.text.now c.loop-i.i)
    ∙ blank_stop c.args.text.now _ c.loop-i.i c.loop-i-test.true (sym (blanks_have _) ∙ sym c.contains.ensures ∙ c.if-not-contains.true) c.loop-i.invariant

pub loop-i-preserved : goal.loop-i-preserved
loop-i-preserved c = blank_on c.args.text.now _ c.loop-i.i c.loop-i-test.true (sym (blanks_have _) ∙ sym c.contains.ensures ∙ c.if-not-contains.false) c.loop-i.invariant

pub returns : goal.returns
returns c = blank_end c.args.text.now _ c.loop-i.i (drop_all c.loop-i.i c.args.text.now c.loop-i-test.false) c.loop-i.invariant
