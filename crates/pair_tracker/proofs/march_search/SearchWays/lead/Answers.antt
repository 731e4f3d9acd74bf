use Rattle.std.proofs.Common.{◌∙◌, ap}
use Rattle.march_core.specs.Addresses.{direction_of}
use Rattle.pair_tracker.specs.Few.{end_of}
use Rattle.pair_tracker.proofs.LeastWords.{between_is}
use Rattle.pair_tracker.proofs.march_search.SearchWays.lead.Goals as goal

pub returns : goal.returns
returns g c = λ e from.
    let s = c.args.self.now in
    c.end_of.ensures
    ∙ ap (λ e. end_of (g.F.FewCells.machine s.few.now) (g.F.FewCells.order s.few.now) e c.args.start (direction_of c.args.is_down))
    (between_is s.march.now s.end c.requires.holds.1 c.args.i e c.requires.there from)
