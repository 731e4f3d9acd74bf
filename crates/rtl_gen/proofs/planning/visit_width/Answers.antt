use Rattle.std.proofs.Common.{◌≤◌, ◌<◌, ◌^◌, arith, lit<}
use Rattle.std.proofs.Math.Nat.{pow-le-pow_right}
use Rattle.rtl_gen.proofs.planning.visit_width.Goals as goal

pub returns-then-width-address-clause-pause : goal.returns-then-width-address-clause-pause
returns-then-width-address-clause-pause c =
    let wider : 2 ^ c.width_of-width.result ≤ 2 ^ c.args.address = pow-le-pow_right (lit< tt) (omega arith) in
    let holds = c.width_of-width.ensures.width.holds in
    omega arith

pub returns-else-width-address-clause-narrow : goal.returns-else-width-address-clause-narrow
returns-else-width-address-clause-narrow c =
    let small : c.from.result < 2 ^ 16 = omega arith in
    c.width_of-width.ensures.width.least 16 (omega arith) small
