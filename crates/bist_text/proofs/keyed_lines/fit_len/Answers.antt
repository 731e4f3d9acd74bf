use Rattle.std.proofs.Common.{◌≡◌, ◌∙◌, length, sym, arith}
use Rattle.std.proofs.lemmas.List.{drop_all}
use Rattle.bist_text.specs.keyed.Parts.{fits_of}
use Rattle.bist_text.proofs.keyed.Steps.{fit_on, fit_stop, fit_end}
use Rattle.bist_text.proofs.keyed_lines.fit_len.Goals as goal

pub returns-then-not-fits-clause-value : goal.returns-then-not-fits-clause-value
returns-then-not-fits-clause-value c =
    fit_stop (fits_of c.args.class) c.args.text.now c.loop-i.i _ c.loop-i-test.true (sym c.fits.ensures ∙ c.if-not-fits.true) c.loop-i.invariant

pub loop-i-preserved : goal.loop-i-preserved
loop-i-preserved c =
    fit_on (fits_of c.args.class) c.args.text.now c.loop-i.i _ c.loop-i-test.true (sym c.fits.ensures ∙ c.if-not-fits.false) c.loop-i.invariant

pub returns-clause-value : goal.returns-clause-value
returns-clause-value c =
    let at_end : length c.args.text.now ≡ c.loop-i.i = omega arith in
    at_end ∙ fit_end (fits_of c.args.class) c.args.text.now c.loop-i.i _ (drop_all c.loop-i.i c.args.text.now c.loop-i-test.false) c.loop-i.invariant
