use Rattle.std.proofs.Common.{◌≤◌, length, sym, subst}
use Rattle.rtl_gen.proofs.Listed.{ops_few}
use Rattle.rtl_gen.proofs.tables.ops_count.Goals as goal

pub returns-clause-few : goal.returns-clause-few
returns-clause-few c = subst (λ l. length l ≤ 16) (sym c.ops.ensures.value) (ops_few c.args.march.now c.known.ensures.each c.args.i)
