use Rattle.chip_desc.proofs.Common.{Err, None, Ok, ap, by_lines, passed, reading, statements, stopped, sym, text_lines, version_at, walk, ◌∙◌, ◌≡◌}
use Rattle.chip_desc.proofs.OneText.{reads_as, reads_one}
use Rattle.chip_desc.proofs.read.read_chip.Goals.{After-described, After-of_lines}
use Rattle.chip_desc.proofs.read.read_chip.Goals as goal

described : (c : After-described) → c.described.result ≡ reading c.args.bytes.now
described c =
    let ls = text_lines c.args.bytes.now in
    c.described.ensures ∙ sym (ap (λ o. by_lines o (statements ls)) (passed (walk version_at ls None) c.in-Ok.ensures))

pub returns-in-Ok-clause-ok : goal.returns-in-Ok-clause-ok
returns-in-Ok-clause-ok c d = reads_as c.args.bytes.now c.described.result (described c) (Ok d)

pub returns-in-Ok-clause-refused : goal.returns-in-Ok-clause-refused
returns-in-Ok-clause-refused c f = reads_as c.args.bytes.now c.described.result (described c) (Err f)

refused : (c : After-of_lines) → Err c.of_lines.result ≡ reading c.args.bytes.now
refused c =
    let ls = text_lines c.args.bytes.now in
    ap Err c.of_lines.ensures ∙ sym (ap (λ o. by_lines o (statements ls)) (stopped (walk version_at ls None) c.in-Err.fault c.in-Err.ensures))

pub returns-in-Err-clause-ok : goal.returns-in-Err-clause-ok
returns-in-Err-clause-ok c d = reads_as c.args.bytes.now (Err c.of_lines.result) (refused c) (Ok d)

pub returns-in-Err-clause-refused : goal.returns-in-Err-clause-refused
returns-in-Err-clause-refused c f = reads_as c.args.bytes.now (Err c.of_lines.result) (refused c) (Err f)

pub returns-in-Ok-clause-one_reading : goal.returns-in-Ok-clause-one_reading
returns-in-Ok-clause-one_reading c = reads_one c.args.bytes.now

pub returns-in-Err-clause-one_reading : goal.returns-in-Err-clause-one_reading
returns-in-Err-clause-one_reading c = reads_one c.args.bytes.now
