use Rattle.std.proofs.Common.{List, None, refl, get_or, subst, sym}
use Rattle.std.proofs.lemmas.List.{take_all}
use Rattle.dynamic_prover.specs.declared.spot.Spot.{Spot}
use Rattle.dynamic_prover.specs.declared.leg.Leg.{Leg}
use Rattle.dynamic_prover.specs.inner.Shapes.{end_in}
use Rattle.dynamic_prover.specs.inner.Legs.{leg_end, AreLegs}
use Rattle.dynamic_prover.specs.inner.Spots.{spot_as, candidates_at, candidates_of, NonePasses, IsFirstOf}
use Rattle.dynamic_prover.proofs.Searching.{none_at_more, found_among}
use Rattle.dynamic_prover.proofs.judging.least.Goals as goal

pub returns-in-Some : goal.returns-in-Some
returns-in-Some c =
    let s : Spot = get_or c.spots_of-spot-items.result.now c.loop-spot.spot-index (spot_as 0 None 0) in
    let found : IsFirstOf leg_end c.as_slice.result.now c.args.prim.now (candidates_at s) c.in-Some.escape = c.in-Some.ensures in
    let legs : AreLegs c.args.prim.now c.args.march.now c.as_slice.result.now =
    subst (λ (ls : List Leg). AreLegs c.args.prim.now c.args.march.now ls) (sym c.as_slice.ensures.value) c.legs_of-legs.ensures.legs in
    subst (λ (spots : List Spot). IsFirstOf (end_in c.args.prim.now) c.args.march.now c.args.prim.now (candidates_of spots) c.in-Some.escape) c.spots_of-spot-items.ensures
    (found_among c.args.prim.now c.args.march.now c.as_slice.result.now c.spots_of-spot-items.result.now c.loop-spot.spot-index s (spot_as 0 None 0) c.in-Some.escape legs c.loop-spot-test.true refl
    c.loop-spot.invariant found)

pub loop-spot-preserved : goal.loop-spot-preserved
loop-spot-preserved c =
    let s : Spot = get_or c.spots_of-spot-items.result.now c.loop-spot.spot-index (spot_as 0 None 0) in
    let none : NonePasses leg_end c.as_slice.result.now (candidates_at s) = c.in_default.ensures in
    let legs : AreLegs c.args.prim.now c.args.march.now c.as_slice.result.now =
    subst (λ (ls : List Leg). AreLegs c.args.prim.now c.args.march.now ls) (sym c.as_slice.ensures.value) c.legs_of-legs.ensures.legs in
    none_at_more c.args.prim.now c.args.march.now c.as_slice.result.now c.spots_of-spot-items.result.now c.loop-spot.spot-index s (spot_as 0 None 0) legs c.loop-spot-test.true refl
    c.loop-spot.invariant none

pub returns : goal.returns
returns c =
    subst (λ (spots : List Spot). NonePasses (end_in c.args.prim.now) c.args.march.now (candidates_of spots)) c.spots_of-spot-items.ensures
    (subst (λ (spots : List Spot). NonePasses (end_in c.args.prim.now) c.args.march.now (candidates_of spots))
    (take_all c.loop-spot.spot-index c.spots_of-spot-items.result.now c.loop-spot-test.false) c.loop-spot.invariant)
