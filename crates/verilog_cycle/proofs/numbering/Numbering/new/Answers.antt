use Rattle.std.proofs.Common.{ap, ◌∙◌, cond, Some, None}
use Rattle.std.specs.Str.{bytes_eq}
use Rattle.verilog_cycle.specs.inner.Numbering.{found, or_else}
use Rattle.verilog_cycle.proofs.Tabled.{numbers_next}
use Rattle.verilog_cycle.proofs.numbering.Numbering.new.Goals as goal

pub loop-i-preserved : goal.loop-i-preserved
loop-i-preserved c =
    numbers_next _ c.loop-i.i _ c.loop-i.numbers.entries c.note.new.numbers.entries c.loop-i-test.true c.loop-i.invariant
    (λ n. c.in_ok-note.ensures n ∙ ap (λ m. or_else (found c.loop-i.numbers.entries n) (cond (bytes_eq n m.bytes) (Some c.loop-i.i) None)) c.name-item.is)
