use Rattle.std.proofs.Common.{◌≡◌, ◌∙◌, ap, sym, subst, length, Some, None, arith}
use Rattle.escape_array.specs.Escapes.{content_number}
use Rattle.pair_tracker.specs.Survivors.{IsLeastWord}
use Rattle.escape_array.specs.inner.Searching.{NoneBefore}
use Rattle.escape_array.proofs.LeastArray.{least_of_whole, none_so_far}
use Rattle.escape_array.proofs.search.least_in.Goals as goal

pub returns-in-Some : goal.returns-in-Some
returns-in-Some c =
    let same = c.escape_at.ensures.content in
    let number : content_number c.escape_at.result.content ≡ c.loop-number.number = ap content_number same ∙ c.content_of-content.ensures.number in
    record {
      prim = c.escape_at.ensures.prim;
      places = c.escape_at.ensures.places;
      two_cells = ap length same ∙ c.content_of-content.ensures.two_cells;
      before = subst (λ n. NoneBefore c.args.march.now c.args.prim.now c.args.placement n) (sym number) c.loop-number.invariant.none;
      word =
          subst (λ w. IsLeastWord c.args.march.now c.args.prim.now c.args.placement c.escape_at.result.content (Some w)) (sym c.escape_at.ensures.directions)
          (subst (λ l. IsLeastWord c.args.march.now c.args.prim.now c.args.placement l (Some c.in-Some.directions)) (sym same)
          (least_of_whole c.args.march.now c.args.prim.now c.args.placement (length c.args.march.now) c.whole-whole.result c.content_of-content.result (Some c.in-Some.directions) c.whole-whole.ensures c.in-Some.ensures.word));
    }

pub loop-number-preserved : goal.loop-number-preserved
loop-number-preserved c = record {
  none =
      none_so_far c.args.march.now c.args.prim.now c.args.placement c.loop-number.number c.content_of-content.result
      c.content_of-content.ensures.two_cells c.content_of-content.ensures.number c.loop-number.invariant.none
      (least_of_whole c.args.march.now c.args.prim.now c.args.placement (length c.args.march.now) c.whole-whole.result c.content_of-content.result None c.whole-whole.ensures c.in_default.ensures.word);
  known = c.in_default.ensures.dead;
}

pub returns : goal.returns
returns c = λ content two low word through. c.loop-number.invariant.none content two (omega (arith, low, c.loop-number-test.false)) word through

pub least_word-requires-clause-last : goal.least_word-requires-clause-last
least_word-requires-clause-last c = c.whole-whole.ensures.end_is ∙ ap length (sym c.whole-whole.ensures.march_is)
