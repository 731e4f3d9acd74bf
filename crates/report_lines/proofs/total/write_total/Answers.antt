use Rattle.report_lines.proofs.LinesGrow.{total_written}
use Rattle.report_lines.proofs.total.write_total.Goals as goal

pub returns : goal.returns
returns c =
    total_written c.put_number_between-3.result c.args.count c.args.covered c.args.out.now.items c.put_number_between.new.out.items c.put_number_between-2.new.out.items c.put_number_between-3.new.out.items
    c.in_ok-put_number_between.ensures c.in_ok-put_number_between-2.ensures c.put_number_between-3.ensures
