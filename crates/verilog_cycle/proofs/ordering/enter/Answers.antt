use Rattle.std.proofs.Common.{ℕ, option_map, get_or, sym, ap, ◌∙◌}
use Rattle.std.specs.Global.{Vec}
use Rattle.verilog_cycle.specs.inner.Graph.{from_first}
use Rattle.verilog_cycle.proofs.Marks.{no_loop}
use Rattle.verilog_cycle.proofs.Walk.{missing_out}
use Rattle.verilog_cycle.proofs.ordering.enter.Goals.{then-mark_of-ne0+in_ok-names+in_default, else-mark_of-ne0}
use Rattle.verilog_cycle.proofs.ordering.enter.Goals as goal

pub returns-clause-apart : goal.returns-clause-apart
returns-clause-apart c =
    let n = c.args.n in
    let path = c.args.path.now.items in
    elim c.if-mark_of-ne0.branch [
      | then-mark_of-ne0+in_ok-names+in_default w ↦ missing_out n path (sym (sym (ap (option_map (λ (v : Vec ℕ). v.items)) w.in_default.is) ∙ w.in_ok-names.ensures ∙ ap (from_first n) w.deref.ensures.value))
      | else-mark_of-ne0 w ↦ missing_out n path (no_loop path n (get_or c.args.marks.now n 0) c.requires (sym c.mark_of.ensures ∙ w.if-mark_of-ne0.false))
    ]
