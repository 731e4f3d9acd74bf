use Rattle.bist_app.proofs.Distinct.{first_and_rest, first_met}
use Rattle.bist_app.proofs.forms.+are_distinct.Goals as goal

pub returns-then-not-contains : goal.returns-then-not-contains
returns-then-not-contains t c = first_and_rest c.args.words.now _ _ _ c.in-len1-up.len_at_least c.contains.ensures.value c.if-not-contains.true c.are_distinct.ensures

pub returns-else-not-contains : goal.returns-else-not-contains
returns-else-not-contains t c = first_met c.args.words.now _ _ c.in-len1-up.len_at_least c.contains.ensures.value c.if-not-contains.false
