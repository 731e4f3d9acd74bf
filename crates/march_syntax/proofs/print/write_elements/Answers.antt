use Rattle.std.proofs.Common.{◌++◌, ◌<◌, ◌≤◌, ◌∙◌, length, append-nil, arith, ap, sym}
use Rattle.march_syntax.proofs.PrintLaws.{element_written, no_elements}
use Rattle.march_syntax.proofs.print.write_elements.Goals as goal

pub loop-i-preserved : goal.loop-i-preserved
loop-i-preserved c =
    let within : c.loop-i.i < length c.args.march.now = omega (arith, c.len-i-end.ensures.value) in
    element_written c.loop-i.out.items c.separate.new.out.items c.write_element.new.out.items _ c.args.march.now c.loop-i.i
    c.in_ok-separate.ensures c.in_ok-write_element.ensures within c.loop-i.invariant

pub returns-clause-text : goal.returns-clause-text
returns-clause-text c =
    let at_end : length c.args.march.now ≤ c.loop-i.i = omega (arith, c.len-i-end.ensures.value) in
    sym (append-nil _) ∙ ap (λ x. c.loop-i.out.items ++ x) (sym (no_elements c.args.march.now c.loop-i.i at_end)) ∙ c.loop-i.invariant
