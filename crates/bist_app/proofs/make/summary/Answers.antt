use Rattle.bist_app.proofs.Common.{ℕ, ap, ◌∙◌, length, all_ops}
use Rattle.bist_app.specs.Make.{made_line}
use Rattle.bist_app.proofs.Making.{sizes_joined, line_joined}
use Rattle.bist_app.proofs.make.summary.Goals as goal

pub returns : goal.returns
returns c =
    let elements = length c.args.march.now in
    let operations = length (all_ops c.args.march.now) in
    let covered = c.args.covered in
    let count = c.args.count in
    let sizes =
    sizes_joined c.new-line.result.items c.put_number.new.line.items c.put_number-2.new.line.items c.put_number-3.new.line.items c.len.result
    c.total_ops.result c.length-commands.result c.in_ok-put_number.ensures c.in_ok-put_number-2.ensures c.in_ok-put_number-3.ensures in
    line_joined _ _ _ _ c.len.result c.total_ops.result c.length-commands.result covered count sizes c.in_ok-put_number-4.ensures
    c.in_ok-put_number_between.ensures c.new-line.ensures.items
    ∙ ap (λ (n : ℕ). made_line n c.total_ops.result c.length-commands.result covered count) c.len.ensures.value
    ∙ ap (λ (n : ℕ). made_line elements n c.length-commands.result covered count) c.total_ops.ensures
    ∙ ap (λ (n : ℕ). made_line elements operations n covered count) c.length-commands.ensures.count
