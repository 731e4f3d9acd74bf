use Rattle.std.proofs.Common.{◌∙◌, ap, sym, subst, length, arith}
use Rattle.pair_tracker.specs.Pairs.{sides_in}
use Rattle.pair_tracker.specs.Reached.{word_to}
use Rattle.pair_tracker.specs.Tracking.{any_end}
use Rattle.decoder_faults.specs.inner.Pairs.{machine_of}
use Rattle.decoder_faults.specs.inner.Searching.{NoneBefore}
use Rattle.decoder_faults.proofs.Least.{none_so_far, least_found}
use Rattle.decoder_faults.proofs.escape.least_in.Goals as goal

pub returns-in-Some : goal.returns-in-Some
returns-in-Some c =
    let march = c.args.march.now in
    least_found march c.args.fault c.args.is_below c.content_of-content.result c.in-Some.directions c.escape_at.result c.known.ensures c.content_of-content.ensures.each_cell
    (subst (NoneBefore march c.args.fault c.args.is_below) (sym c.content_of-content.ensures.number) c.loop-number.invariant.none)
    (sym (c.in-Some.ensures.word ∙ ap (word_to any_end (machine_of c.args.fault) (sides_in c.args.is_below) march 0 (length march)) c.start_in-start.ensures))
    c.escape_at.ensures.fault c.escape_at.ensures.addresses c.escape_at.ensures.content c.escape_at.ensures.directions

pub loop-number-preserved : goal.loop-number-preserved
loop-number-preserved c =
    let march = c.args.march.now in
    record {
      none =
          none_so_far march c.args.fault c.args.is_below c.loop-number.number c.content_of-content.result c.known.ensures c.content_of-content.ensures.each_cell
          c.content_of-content.ensures.number c.loop-number.invariant.none
          (sym (c.in_default.ensures.word ∙ ap (word_to any_end (machine_of c.args.fault) (sides_in c.args.is_below) march 0 (length march)) c.start_in-start.ensures));
      known = c.in_default.ensures.dead;
    }

pub returns : goal.returns
returns c = λ content two low word through. c.loop-number.invariant.none content two (omega (arith, low, c.loop-number-test.false)) word through
