use Rattle.made_inputs.specs.MadeMarch.{long_march}
use Rattle.made_inputs.proofs.MarchLaws.{further_on, further_done, one_longer, four_more}
use Rattle.made_inputs.proofs.made_march.add_further.Goals as goal

pub loop-element-preserved : goal.loop-element-preserved
loop-element-preserved c =
    let l = c.loop-element in
    let y = c.next_number-x.result in
    record {
      whole = further_on l.builder c.add_element.new.builder (long_march c.args.number) l._element l.x y l.held c.last_bit-held.result c.order_for.result c.further_ops.result
          c.loop-element-test.true c.next_number-x.ensures.value c.order_for.ensures c.further_ops.ensures c.last_bit-held.ensures c.add_element.ensures l.invariant.whole;
      elements = one_longer l.builder c.add_element.new.builder c.order_for.result c.further_ops.result l._element c.add_element.ensures l.invariant.elements;
      operations = four_more l.builder c.add_element.new.builder c.order_for.result c.further_ops.result l.held y l._element c.add_element.ensures c.further_ops.ensures l.invariant.operations;
      small = c.next_number-x.ensures.small;
    }

pub returns : goal.returns
returns c =
    let l = c.loop-element in
    further_done l.builder (long_march c.args.number) l._element l.x l.held c.loop-element-test.false l.invariant.whole
