use Rattle.march_syntax.proofs.OpBuilt.{op_built}
use Rattle.std.proofs.Common.{sym, ◌∙◌}
use Rattle.march_syntax.proofs.read.build.Goals as goal

pub returns-in-Adds : goal.returns-in-Adds
returns-in-Adds c =
    op_built c.args.exceeded c.args.event c.args.builder.now c.op.new.self c.in-Adds.op c.op.result c.err-in-Adds.result c.requires
    (sym c.is_some.ensures ∙ c.if-is_some.false) c.in-Adds.is
    (record { ok = c.op.ensures.ok; too_many = c.op.ensures.too_many; too_many_in_all = c.op.ensures.too_many_in_all; variant = c.op.ensures.variant })
    c.err-in-Adds.ensures.value
