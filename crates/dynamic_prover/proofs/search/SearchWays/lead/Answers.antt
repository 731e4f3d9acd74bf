use Rattle.std.proofs.Common.{◌∙◌, ap}
use Rattle.march_core.specs.Addresses.{direction_of}
use Rattle.dynamic_prover.specs.inner.Legs.{leg_end}
use Rattle.dynamic_prover.proofs.Tables.{leg_is}
use Rattle.dynamic_prover.proofs.search.SearchWays.lead.Goals as goal

pub returns : goal.returns
returns c = λ e from.
    let s = c.args.self.now in
    c.end.ensures ∙ ap (λ l. leg_end s.shape l c.args.start (direction_of c.args.is_down)) (leg_is s.legs.now c.args.i e _ c.requires.there from)
