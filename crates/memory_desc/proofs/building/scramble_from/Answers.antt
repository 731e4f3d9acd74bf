use Rattle.memory_desc.proofs.Common.{ap, arith, constant_of, index_bits, inl, is_term_too_wide, list_any, matrix_of, sym, text_lines, ◌∙◌}
use Rattle.memory_desc.specs.inner.Heard.{statements}
use Rattle.memory_desc.proofs.Rows.{matrix_is, none_there, row_missing, row_there, rows_begun, rows_more, rows_within, terms_are, terms_within}
use Rattle.memory_desc.proofs.Scrambles.{dependent, scrambled}
use Rattle.memory_desc.proofs.building.scramble_from.Goals as goal

pub loop-bit-init : goal.loop-bit-init
loop-bit-init c = rows_begun (statements (text_lines c.args.bytes.now))

pub row_of-row-requires : goal.row_of-row-requires
row_of-row-requires c =
    let ss = statements (text_lines c.args.bytes.now) in
    let same = c.terms_in.ensures ∙ terms_are c.loop-bit.bit ss c.content_about.result c.from.ensures c.content_about.ensures c.in-Some.content c.in-Some.is in
    (c.args.width, c.requires.width.1, ap (list_any (is_term_too_wide c.args.width)) same ∙ terms_within ss c.args.width c.requires.fit.0 c.loop-bit.bit c.requires.fit.1)

pub loop-bit-preserved : goal.loop-bit-preserved
loop-bit-preserved c =
    let ss = statements (text_lines c.args.bytes.now) in
    let l = c.loop-bit in
    let row = c.row_of-row in
    let same = c.terms_in.ensures ∙ terms_are l.bit ss c.content_about.result c.from.ensures c.content_about.ensures c.in-Some.content c.in-Some.is in
    rows_more ss c.args.width l.bit l.rows l.constant row.result.names row.result.constant c.loop-bit-test.true c.requires.width.1
    (row_there l.bit ss c.content_about.result c.from.ensures c.content_about.ensures c.in-Some.content c.in-Some.is) (row.ensures.names ∙ ap index_bits same) (row.ensures.constant ∙ ap constant_of same) l.invariant

pub returns-in_default-clause-gives : goal.returns-in_default-clause-gives
returns-in_default-clause-gives c =
    let ss = statements (text_lines c.args.bytes.now) in
    let l = c.loop-bit in
    inl (rw (sym c.requires.rows ∙ c.if-not-scrambled.false)
    (row_missing ss c.args.width l.bit _ l.invariant.there c.loop-bit-test.true (none_there l.bit ss c.content_about.result c.from.ensures c.content_about.ensures c.in_default.is)))

pub invert-requires : goal.invert-requires
invert-requires c =
    let l = c.loop-bit in
    let fit = c.requires.fit in
    rows_within (statements (text_lines c.args.bytes.now)) c.args.width l.bit l.rows l.constant c.requires.width.1 (omega (arith, l.auto.bit-end, c.loop-bit-test.false)) l.invariant fit.0 fit.1 c.requires.width.0

pub returns-in-Ok-clause-gives : goal.returns-in-Ok-clause-gives
returns-in-Ok-clause-gives c =
    let ss = statements (text_lines c.args.bytes.now) in
    let l = c.loop-bit in
    let rows = matrix_is ss c.args.width l.bit l.rows l.constant c.requires.width.1 (omega (arith, l.auto.bit-end, c.loop-bit-test.false)) l.invariant in
    scrambled ss c.args.width (matrix_of c.args.width l.rows l.constant) c.in-Ok.scramble (sym c.requires.rows ∙ c.if-not-scrambled.false) rows.0 rows.1 c.in-Ok.ensures.scramble
    c.in-Ok.ensures.invertible

pub returns-in-Err-clause-gives : goal.returns-in-Err-clause-gives
returns-in-Err-clause-gives c =
    let ss = statements (text_lines c.args.bytes.now) in
    let l = c.loop-bit in
    let rows = matrix_is ss c.args.width l.bit l.rows l.constant c.requires.width.1 (omega (arith, l.auto.bit-end, c.loop-bit-test.false)) l.invariant in
    dependent ss c.args.width (matrix_of c.args.width l.rows l.constant) c.in-Err.dependence.rows (sym c.requires.rows ∙ c.if-not-scrambled.false) rows.0 rows.1 c.in-Err.ensures.dependence
