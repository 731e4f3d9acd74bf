use Rattle.std.proofs.Common.{◌∙◌, map, ap, sym, subst}
use Rattle.std.specs.Prelude.{MatchOption}
use Rattle.pair_tracker.specs.Reached.{word_to, AreDeadEnds}
use Rattle.pair_tracker.specs.Tables.{table_of, LeadsNowhere, LeadsSomewhere}
use Rattle.pair_tracker.proofs.Tables.{through_tables}
use Rattle.pair_tracker.proofs.march_search.word_through.Goals as goal

pub word_between-requires-clause-dead : goal.word_between-requires-clause-dead
word_between-requires-clause-dead g c =
    let F = g.F.FewCells in
    let f = c.args.few.now in
    subst (λ n. AreDeadEnds F.number (F.wanted f) (F.machine f) (F.order f) c.args.march.now n c.args.dead_ends.now) (sym c.len.ensures.value) c.requires.dead

pub returns-clause-word : goal.returns-clause-word
returns-clause-word g c =
    let F = g.F.FewCells in
    let f = c.args.few.now in
    c.word_between.ensures.word ∙ ap (λ n. word_to (F.wanted f) (F.machine f) (F.order f) c.args.march.now 0 n c.args.start) c.len.ensures.value

pub returns-clause-dead : goal.returns-clause-dead
returns-clause-dead g c =
    let F = g.F.FewCells in
    let f = c.args.few.now in
    subst (λ n. AreDeadEnds F.number (F.wanted f) (F.machine f) (F.order f) c.args.march.now n c.word_between.new.dead_ends) c.len.ensures.value c.word_between.ensures.dead

pub returns-clause-tables : goal.returns-clause-tables
returns-clause-tables g c =
    let F = g.F.FewCells in
    let f = c.args.few.now in
    let march = c.args.march.now in
    let m = F.machine f in
    let order = F.order f in
    subst (λ o. MatchOption o (LeadsNowhere (F.wanted f) (map (table_of m order) march) c.args.start) (λ word. LeadsSomewhere (F.wanted f) (map (table_of m order) march) c.args.start))
    (sym (returns-clause-word g c)) (through_tables m order (F.wanted f) march c.args.start)
