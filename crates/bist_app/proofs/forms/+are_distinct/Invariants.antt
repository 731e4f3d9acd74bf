use Rattle.bist_app.proofs.Common.{length}
use Rattle.bist_app.proofs.forms.+are_distinct.Given as goal

-- what is left to compare
abbrev pub decreases-are_distinct : goal.decreases-are_distinct
decreases-are_distinct l = length l.words.now
