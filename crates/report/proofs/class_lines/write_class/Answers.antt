use Rattle.std.proofs.Common.{◌≢◌, ◌<◌, ℕ, ap, sym, codes, ◌∙◌, ◌++◌, arith}
use Rattle.report.proofs.ClassLines.{class_written}
use Rattle.report.proofs.class_lines.write_class.Goals as goal

some : (n : ℕ) → n ≢ 0 → 0 < n
some n differs = omega (arith, differs)

pub returns : goal.returns
returns c =
    let counts = c.count_class-counts in
    rw (sym counts.ensures.count, sym counts.ensures.covered)
    (class_written c.put_number_between-2.result c.args.class counts.result.count counts.result.covered c.args.out.now.items c.put_between.new.out.items c.put_number_between.new.out.items c.put_number_between-2.new.out.items
    (some counts.result.count c.if-counts-eq0.false) (c.in_ok-put_between.ensures ∙ ap (λ l. c.args.out.now.items ++ (codes "class " ++ l ++ codes " ")) c.class_name.ensures) c.in_ok-put_number_between.ensures c.put_number_between-2.ensures)
