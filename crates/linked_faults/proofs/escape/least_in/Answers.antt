use Rattle.std.proofs.Common.{◌∙◌, ap, sym, refl, subst}
use Rattle.std.proofs.Common.{length}
use Rattle.pair_tracker.specs.Reached.{word_to}
use Rattle.pair_tracker.specs.Tracking.{any_end}
use Rattle.linked_faults.specs.inner.Searching.{KnowsOf}
use Rattle.linked_faults.specs.inner.Threes.{machine_of, cells_in}
use Rattle.linked_faults.proofs.Least.{none_so_far, least_here}
use Rattle.linked_faults.proofs.escape.least_in.Goals as goal

pub returns-in-Some : goal.returns-in-Some
returns-in-Some c =
    let march = c.args.march.now in
    let link = c.args.link.now in
    least_here march link c.args.order c.loop-number.number c.content_of-content.result c.in-Some.directions _ c.known.ensures
    c.content_of-content.ensures c.loop-number.invariant.none
    (sym (c.in-Some.ensures.word ∙ ap (λ s. word_to any_end (machine_of link s) cells_in march 0 (length march) c.content_of-content.result) c.link_places_in-spots.ensures.spots))
    refl c.link_places_in-spots.ensures.spots refl refl

pub loop-number-preserved : goal.loop-number-preserved
loop-number-preserved c =
    let march = c.args.march.now in
    let link = c.args.link.now in
    record {
      none =
          none_so_far march link c.args.order c.loop-number.number c.content_of-content.result c.known.ensures
          c.content_of-content.ensures c.loop-number.invariant.none
          (sym (c.in_default.ensures.word ∙ ap (λ s. word_to any_end (machine_of link s) cells_in march 0 (length march) c.content_of-content.result) c.link_places_in-spots.ensures.spots));
      known = subst (λ s. KnowsOf march link s c.word_through.new.dead_ends) c.link_places_in-spots.ensures.spots c.in_default.ensures.dead;
    }
