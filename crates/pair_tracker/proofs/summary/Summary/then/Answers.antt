use Rattle.std.proofs.Common.{◌≡◌, ◌≤◌, ◌∙◌, length, ap, sym, subst, arith}
use Rattle.pair_tracker.specs.Legs.{Leg, SumsUp}
use Rattle.pair_tracker.specs.Reached.{rows_of, IsSpan}
use Rattle.pair_tracker.proofs.Ends.{sums_up}
use Rattle.pair_tracker.proofs.Tables.{both_ways}
use Rattle.pair_tracker.proofs.summary.Summary.then.Goals as goal

pub returns-clause-sum : goal.returns-clause-sum
returns-clause-sum c =
    let a = c.self.inside in
    let b = c.next.inside in
    let behind : b.first ≡ a.end = ap (λ (leg : Leg). leg.first) c.next.view_is ∙ c.requires.behind ∙ ap (λ (leg : Leg). leg.end) (sym c.self.view_is) in
    let march = ap (λ (leg : Leg). leg.march) c.next.view_is ∙ c.requires.march ∙ ap (λ (leg : Leg). leg.march) (sym c.self.view_is) in
    let within : b.end ≤ length a.march.now = subst (λ m. b.end ≤ length m) march c.next.invariant.within in
    let first : a.first ≤ a.end = c.self.invariant.ordered in
    let second : b.first ≤ b.end = c.next.invariant.ordered in
    let is : IsSpan a.march.now a.prim a.placement a.first b.end = record {
      is_march = c.self.invariant.is_march;
      primitive = c.self.invariant.primitive;
      fits = c.self.invariant.fits;
      ordered = omega arith;
      within = within;
    } in
    let whole : Leg = record {
      march = a.march.now;
      prim = a.prim;
      placement = a.placement;
      first = a.first;
      end = b.end;
      rows = rows_of a.march.now a.prim a.placement a.first b.end;
    } in
    subst (λ (leg : Leg). SumsUp leg.march leg.prim leg.placement leg.first c.args.next.now.end whole) c.self.view_is
    (subst (λ (leg : Leg). SumsUp whole.march whole.prim whole.placement whole.first leg.end whole) c.next.view_is
    (sums_up a.march.now a.prim a.placement a.first b.end is))

pub returns-clause-joined : goal.returns-clause-joined
returns-clause-joined c start final =
    let self = c.args.self.now in
    let first : self.first ≤ self.end = subst (λ (leg : Leg). leg.first ≤ leg.end) c.self.view_is c.self.invariant.ordered in
    let second : c.args.next.now.first ≤ c.args.next.now.end = subst (λ (leg : Leg). leg.first ≤ leg.end) c.next.view_is c.next.invariant.ordered in
    let behind : self.end ≤ c.args.next.now.end = subst (λ k. k ≤ c.args.next.now.end) c.requires.behind second in
    both_ways self.prim self.placement self.march self.first self.end c.args.next.now.end first behind start final
