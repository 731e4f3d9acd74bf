use Rattle.std.proofs.Common.{subst, List, inr}
use Rattle.bist_text.specs.Lines.{TextLine, lines_left, plain_line, text_lines}
use Rattle.fault_syntax.proofs.LineByLine.{Reading, reading_on, all_read, line_refused, item_refused}
use Rattle.fault_syntax.proofs.PassedOn.{no_result, passed_on}
use Rattle.fault_syntax.specs.ListText.{Primitive as OnePrimitive, LineOf}
use Rattle.dynamic_core.specs.ItemParts.{RefusesOn, BringsIn}
use Rattle.dynamic_core.proofs.ListReads.{text_fault}
use Rattle.dynamic_core.proofs.list.read_lines.Goals as goal

pub loop-line-preserved : goal.loop-line-preserved
loop-line-preserved c = record {
  can_next = tt;
  is_finite = tt;
  reading = reading_on (LineOf c.args.set) (BringsIn c.args.set) (text_lines c.args.bytes.now) (lines_left c.next.new.self) (plain_line c.in-Some.line) c.loop-line.items.items c.add_item.new.items.items c.in_ok-read.ensures.0 (subst (λ (left : List TextLine). Reading (LineOf c.args.set) (BringsIn c.args.set) (text_lines c.args.bytes.now) left c.loop-line.items.items) c.in-Some.ensures.steps c.loop-line.invariant.reading) c.in_ok-read.ensures.1 (c.in_ok-add_item.ensures.ok c.in_ok-read.ensures.0 c.in_ok-read.ensures.2);
}

pub add_item-requires : goal.add_item-requires
add_item-requires c = c.loop-line.invariant.reading.within

pub returns-in_err-read-clause-ok : goal.returns-in_err-read-clause-ok
returns-in_err-read-clause-ok c = no_result c.from_residual.result _ c.from_residual.ensures.0

pub returns-in_err-read-clause-refused : goal.returns-in_err-read-clause-refused
returns-in_err-read-clause-refused c =
    passed_on c.from_residual.result c.in_err-read.field-0.0 _ c.from_residual.ensures
    (inr
    (line_refused (LineOf c.args.set) (BringsIn c.args.set) OnePrimitive (RefusesOn c.args.set) (text_lines c.args.bytes.now) (lines_left c.next.new.self) (plain_line c.in-Some.line) c.loop-line.items.items c.in_err-read.field-0.0
    (subst (λ (left : List TextLine). Reading (LineOf c.args.set) (BringsIn c.args.set) (text_lines c.args.bytes.now) left c.loop-line.items.items) c.in-Some.ensures.steps c.loop-line.invariant.reading) (text_fault c.args.set (plain_line c.in-Some.line) c.in_err-read.field-0.0 c.in_err-read.ensures)))

pub returns-in_err-add_item-clause-ok : goal.returns-in_err-add_item-clause-ok
returns-in_err-add_item-clause-ok c = no_result c.from_residual-in_err-add_item.result _ c.from_residual-in_err-add_item.ensures.0

pub returns-in_err-add_item-clause-refused : goal.returns-in_err-add_item-clause-refused
returns-in_err-add_item-clause-refused c =
    passed_on c.from_residual-in_err-add_item.result c.in_err-add_item.field-0.0 _ c.from_residual-in_err-add_item.ensures
    (item_refused (LineOf c.args.set) (BringsIn c.args.set) OnePrimitive (RefusesOn c.args.set) (text_lines c.args.bytes.now) (lines_left c.next.new.self) (plain_line c.in-Some.line) c.loop-line.items.items c.in_ok-read.ensures.0 c.in_err-add_item.field-0.0
    (subst (λ (left : List TextLine). Reading (LineOf c.args.set) (BringsIn c.args.set) (text_lines c.args.bytes.now) left c.loop-line.items.items) c.in-Some.ensures.steps c.loop-line.invariant.reading) c.in_ok-read.ensures.1
    (c.in_err-add_item.ensures.err c.in_ok-read.ensures.0 c.in_ok-read.ensures.2))

pub returns-clause-ok : goal.returns-clause-ok
returns-clause-ok c =
    all_read (LineOf c.args.set) (BringsIn c.args.set) (text_lines c.args.bytes.now) c.loop-line.items.items
    (subst (λ (left : List TextLine). Reading (LineOf c.args.set) (BringsIn c.args.set) (text_lines c.args.bytes.now) left c.loop-line.items.items) c.in-None.ensures.steps.0 c.loop-line.invariant.reading)
