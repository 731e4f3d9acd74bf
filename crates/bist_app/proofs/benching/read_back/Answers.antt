use Rattle.bist_app.proofs.Common.{◌≡◌, plain_module}
use Rattle.bist_app.proofs.ReadBack.{want_of_read}
use Rattle.bist_app.proofs.benching.read_back.Goals as goal

pub want_of_text-requires : goal.want_of_text-requires
want_of_text-requires c = want_of_read c.read_module.result c.in-Err.fault (λ m. plain_module m ≡ c.requires.0) c.in-Err.is (c.read_module.ensures.accepted c.requires.0 c.requires.1)
