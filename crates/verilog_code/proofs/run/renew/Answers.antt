use Rattle.std.proofs.Common.{ℕ, sym, subst, bit_or}
use Rattle.verilog_code.specs.Places.{put}
use Rattle.verilog_code.specs.Reading.{Known}
use Rattle.verilog_code.proofs.Knowing.{known_put}
use Rattle.verilog_code.proofs.run.renew.Goals as goal

pub returns-clause-known : goal.returns-clause-known
returns-clause-known g c = λ k ss lt r h.
    let a = c.args in
    subst (Known g.V.NetValue.zero g.V.NetValue.worth k (bit_or a.changed c.bit.result) ss) (sym c.put.ensures.items)
    (subst (λ (b : ℕ). Known g.V.NetValue.zero g.V.NetValue.worth k (bit_or a.changed b) ss (put a.values.now.items a.place a.x)) (sym c.bit.ensures)
    (known_put g.V.NetValue.zero g.V.NetValue.worth g.met.V.NetValue.rests k a.changed a.place a.x ss a.values.now.items lt r h))
