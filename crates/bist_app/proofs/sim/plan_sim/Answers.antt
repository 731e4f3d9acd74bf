use Rattle.bist_app.proofs.Common.{◌≡◌, ◌∙◌, ap, map, written_of, Option, Some, None, List, Bool, length, refl, subst, ◌↔◌, MarchElement, Primitive, IsSome, IfSome, Direction, visits, directions_of}
use Rattle.march_core.specs.declared.visit.Miss.{Miss}
use Rattle.fault_core.specs.declared.cells.Places.{Places}
use Rattle.fault_core.specs.Cells.{close_of}
use Rattle.array_sim.specs.Detection.{IsCaught}
use Rattle.array_sim.specs.Differing.{IsFirstMiss}
use Rattle.bist_app.specs.Sim.{FirstDiffers, LeavesSim, content_of, directions_of_letters}
use Rattle.bist_app.proofs.DirectionWord.{fits_word, directions_whole}
use Rattle.bist_app.proofs.sim.plan_sim.Goals as goal

no_some : (miss : Option Miss) → miss ≡ None → IsSome miss → ⊥
no_some None none some = cc
no_some (Some miss) none some = cc

differs : (march : List MarchElement) (ds : List Direction) (prim : Primitive) (at : Places) (content : List Bool) (miss : Option Miss)
    → IsSome miss ↔ IsCaught march ds prim at content
    → IfSome miss (λ m. IsFirstMiss prim at (close_of prim at content) (visits march ds (length content)) m)
    → FirstDiffers march ds prim at content miss
differs march ds prim at content None caught first = λ c. no_some None refl (caught.1 c)
differs march ds prim at content (Some miss) caught first = first

pub simulate-miss-requires-clause-fits : goal.simulate-miss-requires-clause-fits
simulate-miss-requires-clause-fits c =
    fits_word c.args.letters.now c.args.march.now c.direction_word.result c.direction_word.ensures.directions c.direction_word.ensures.rest c.requires.fits

pub returns-clause-answer : goal.returns-clause-answer
unfolding LeavesSim
returns-clause-answer c =
    let march = c.args.march.now in
    let prim = c.args.prim.now in
    let cells = c.as_mut_slice.result.now in
    let miss = c.simulate-miss.result in
    let letters = directions_of_letters c.args.letters.now in
    let whole = directions_whole c.args.letters.now march c.direction_word.result c.direction_word.ensures.directions c.requires.fits in
    let first =
    subst (λ (ds : List Direction). FirstDiffers march ds prim c.args.places cells miss) whole
    (differs march (directions_of c.direction_word.result (length march)) prim c.args.places cells miss c.simulate-miss.ensures.caught c.simulate-miss.ensures.first) in
    let content : cells ≡ content_of c.args.digits.now = c.as_mut_slice.ensures.value ∙ c.in-Ok.ensures in (
      miss,
      subst (λ (bs : List Bool). FirstDiffers march letters prim c.args.places bs miss) content first,
      λ j. record { found = c.is_some.ensures j; outputs = ap (map written_of) c.new.ensures.items j; line = c.in_ok-line.ensures j },
    )
