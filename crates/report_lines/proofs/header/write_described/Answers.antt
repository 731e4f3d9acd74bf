use Rattle.std.proofs.Common.{◌≡◌, length, ap}
use Rattle.std.specs.Prelude.{codes, decimal}
use Rattle.word_march.specs.Commands.{command_count}
use Rattle.report_lines.proofs.LinesGrow.{memory_written}
use Rattle.report_lines.proofs.header.write_described.Goals as goal

pub returns : goal.returns
returns c =
    let m = c.args.memory.now in
    let backgrounds : length c.backgrounds.result.now ≡ length m.backgrounds = ap length c.backgrounds.ensures.value in
    memory_written c.put_number_between-4.result c.args.out.now.items (codes "memory ") m.name (codes " words ") (decimal m.words) (codes " bits ") (decimal m.bits) (codes " backgrounds ") (decimal (length m.backgrounds))
    (codes " commands ") (decimal (command_count c.args.march.now m)) (codes "\n")
    c.put_between.new.out.items c.put_number_between.new.out.items c.put_number_between-2.new.out.items c.put_number_between-3.new.out.items c.put_number_between-4.new.out.items
    (rw (c.as_bytes.ensures.value, c.name.ensures) at c.in_ok-put_between.ensures)
    (rw (c.from.ensures, c.words.ensures.value) at c.in_ok-put_number_between.ensures)
    (rw (c.from-2.ensures, c.bits.ensures.value) at c.in_ok-put_number_between-2.ensures)
    (rw backgrounds at c.in_ok-put_number_between-3.ensures)
    (rw c.length.ensures.count at c.put_number_between-4.ensures)
