use Rattle.std.proofs.Common.{◌+◌, ◌∙◌, Some, map, sym, ap}
use Rattle.std.proofs.lemmas.List.{drop_all}
use Rattle.bist_text.specs.Keywords.{word_of}
use Rattle.bist_text.specs.keyed.Parts.{key_from}
use Rattle.bist_text.specs.keyed.Reading.{took, stuck}
use Rattle.bist_text.proofs.keyed.Steps.{key_read, key_stuck, rest_of}
use Rattle.bist_text.proofs.keyed_lines.key.Goals as goal

pub returns-in-None : goal.returns-in-None
returns-in-None g c =
    sym (key_stuck (map word_of c.args.words.now) c.loop-i.letters c.args.text.now c.loop-i.i _ c.loop-i-test.true c.in-None.ensures c.loop-i.invariant)
    ∙ ap stuck (rest_of c.args.text.now c.loop-i.i)

pub returns-in-Some-Whole : goal.returns-in-Some-Whole
returns-in-Some-Whole g c =
    sym (key_read (map word_of c.args.words.now) c.loop-i.letters c.args.text.now c.loop-i.i _ _ c.loop-i-test.true (ap Some (sym c.in-Some-Whole.field-0-is) ∙ c.in-Some-Whole.ensures) c.loop-i.invariant)
    ∙ ap (took c.in-Some-Whole.value) (rest_of c.args.text.now (c.loop-i.i + 1))

pub loop-i-preserved : goal.loop-i-preserved
loop-i-preserved g c =
    key_read (map word_of c.args.words.now) c.loop-i.letters c.args.text.now c.loop-i.i _ _ c.loop-i-test.true (ap Some (sym c.in-Some-More.field-0-is) ∙ c.in-Some-More.ensures) c.loop-i.invariant

pub returns : goal.returns
returns g c =
    sym c.loop-i.invariant ∙ ap (key_from (map word_of c.args.words.now) c.loop-i.letters) (drop_all c.loop-i.i c.args.text.now c.loop-i-test.false)
