use Rattle.collar_rtl.proofs.Building.{appended, joined_two}
use Rattle.collar_rtl.proofs.whole.push_words.Goals as goal

pub returns : goal.returns
returns c =
    appended c.join-2.result _ _ _ _ _ _ (joined_two _ _ _ _ _ _ _ _ c.of_pin.ensures c.at_pin.ensures c.name.ensures c.rdata_at-word.ensures) c.in_ok-join.ensures
    c.join-2.ensures
