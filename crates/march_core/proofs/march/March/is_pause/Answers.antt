use Rattle.std.proofs.Common.{◌∙◌}
use Rattle.march_core.proofs.Directions.{pause_read}
use Rattle.march_core.proofs.march.March.is_pause.Goals as goal

pub returns : goal.returns
returns c =
    pause_read c.deref.result.now c.args.self.now c.args.i c.index-deref-i.result c.is_pause.result (c.deref.ensures.0 ∙ c.self.view_is)
    c.requires c.index-deref-i.is c.is_pause.ensures
