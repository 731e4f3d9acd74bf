use Rattle.bist_app.proofs.Common.{◌≡◌, ◌∙◌, length, refl, sym, true, false, IsTrue, is_direction, FitsWord}
use Rattle.bist_app.specs.Sim.{directions_of_letters}
use Rattle.bist_app.proofs.DirectionWord.{letters_differ, fits_from_letters, letters_from_fits}
use Rattle.bist_app.proofs.directions.fit_directions.Goals as goal

pub returns-then-letters-len-clause-answer : goal.returns-then-letters-len-clause-answer
returns-then-letters-len-clause-answer c =
    (letters_differ c.args.letters.now c.args.march.now (λ same. c.if-letters-len.true (same ∙ sym c.len.ensures.value)), refl)

pub returns-then-not-fits_directions-clause-answer : goal.returns-then-not-fits_directions-clause-answer
returns-then-not-fits_directions-clause-answer c = (
  λ h.
      let same : length c.args.letters.now ≡ length c.args.march.now = c.if-letters-len.false ∙ c.len.ensures.value in
      let fits : FitsWord c.args.march.now c.direction_word.result = fits_from_letters c.args.letters.now c.args.march.now c.direction_word.result same c.direction_word.ensures.directions c.direction_word.ensures.rest h in
      let yes : c.fits_directions.result ≡ true = c.fits_directions.ensures.1 fits in
      let no : c.fits_directions.result ≡ false = c.if-not-fits_directions.true in
      let bad : false ≡ true = sym no ∙ yes in
      cc,
  refl,
)

fitting : (c : goal.Else-not-fits_directions) → IsTrue (is_direction c.args.march.now (directions_of_letters c.args.letters.now))
fitting c =
    let same : length c.args.letters.now ≡ length c.args.march.now = c.if-letters-len.false ∙ c.len.ensures.value in
    letters_from_fits c.args.letters.now c.args.march.now c.direction_word.result same c.direction_word.ensures.directions (c.fits_directions.ensures.0 c.if-not-fits_directions.false)

pub returns-clause-answer : goal.returns-clause-answer
returns-clause-answer c = fitting c

pub returns-clause-fits : goal.returns-clause-fits
returns-clause-fits c = fitting c
