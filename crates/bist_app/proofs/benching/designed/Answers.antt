use Rattle.bist_app.proofs.Common.{plain_module}
use Rattle.bist_app.proofs.ReadBack.{want_of_elaborated}
use Rattle.bist_app.proofs.benching.designed.Goals as goal

pub want_of_module-requires : goal.want_of_module-requires
want_of_module-requires c =
    want_of_elaborated (plain_module c.args.module) c.elaborate.result c.in-Err.fault c.requires.legal c.requires.loopless c.in-Err.is c.elaborate.ensures
