use Rattle.std.proofs.Common.{◌≡◌, ◌∙◌, ℕ, List, Option, Some, None, Ok, Err, length, true≢false, refl, sym, subst, ap}
use Rattle.std.proofs.lemmas.Result.{IfOk-from_err}
use Rattle.std.specs.Prelude.{Result, IsOk, IsErr, IsErrAnd, IfErr, OnErr}
use Rattle.word_device.specs.declared.device.DeviceFault.{DeviceFault}
use Rattle.word_device.specs.declared.device.Planted.{Planted}
use Rattle.word_device.specs.declared.shape.Shape.{Shape}
use Rattle.word_device.specs.declared.way_back.WayBack.{WayBack}
use Rattle.word_device.specs.Chips.{FitsMemory, closed_words}
use Rattle.word_device.specs.Ports.{Chip, planted_chip}
use Rattle.word_device.specs.Boxes.{ArrayState, Told, IsArray, FitsBox, TellsChip}
use Rattle.word_device.specs.WayBack.{LeadsBack}
use Rattle.word_device.proofs.Boxed.{fits_wide, closed_whole}
use Rattle.word_device.proofs.Closed.{length-closed_words}
use Rattle.word_device.proofs.array.ArrayDeviceDevice.plant.Goals as goal

-- the instance fits the words
inside : (shape : Option Shape) (way : WayBack) (chip : Chip) (i : Planted) (words : List ℕ) → LeadsBack shape way × IsArray shape chip → FitsBox shape i
    → words ≡ chip.words
    → FitsMemory i (length words) 64
inside None way chip i words is fits same = absurd fits
inside (Some shape) way chip i words is fits same =
    fits_wide i shape.words shape.bits (length words) is.1.0.bits_high (ap length same ∙ is.1.1.words) fits

planted : (shape : Option Shape) (way : WayBack) (chip : Chip) (i : Planted) (words : List ℕ) → LeadsBack shape way × IsArray shape chip → FitsBox shape i
    → words ≡ closed_words i chip.words
    → LeadsBack shape way × IsArray shape (record chip { words = words; planted = Some i })
planted None way chip i words is fits closed = absurd fits
planted (Some shape) way chip i words is fits closed =
    let old = is.1.1 in
    (is.0, (is.1.0, record { words = ap length closed ∙ length-closed_words i chip.words ∙ old.words; planted = fits; pending = old.pending; idle = old.idle }))

told : (view s : ArrayState) (i : Planted) (words : List ℕ) → view ≡ s → words ≡ closed_words i view.chip.words
    → ◌≡◌ {A = Told}
    (record { room = view.room; shape = view.shape; tells = TellsChip (record { words = words; planted = Some i; pending = view.chip.pending; idle = view.chip.idle }) })
    (record { room = s.room; shape = s.shape; tells = TellsChip (planted_chip i s.chip) })
told view s i words is closed = cc

same_err : {P : Type 0} (r : Result (Unit {0}) DeviceFault) → P → OnErr r P
same_err (Ok x) p = tt
same_err (Err e) p = p

never_both : (r : Result (Unit {0}) DeviceFault) → IsErr r → IsOk r → ⊥
never_both (Ok x) err ok = true≢false (sym err)
never_both (Err e) err ok = true≢false (sym ok)

bad : (r : Result (Unit {0}) DeviceFault) (fault : DeviceFault) → IsErrAnd r (λ e. e ≡ fault) → fault ≡ DeviceFault.BadPlace
    → IfErr r (λ e. e ≡ DeviceFault.BadPlace)
bad (Ok x) fault is place = absurd is
bad (Err e) fault is place = is ∙ place

pub returns-in_err-check_place-clause-ok : goal.returns-in_err-check_place-clause-ok
returns-in_err-check_place-clause-ok c = IfOk-from_err c.from_residual.result _ c.from_residual.ensures.0

pub returns-in_err-check_place-clause-err : goal.returns-in_err-check_place-clause-err
returns-in_err-check_place-clause-err c = same_err c.from_residual.result refl

pub returns-in_err-check_place-clause-fits : goal.returns-in_err-check_place-clause-fits
returns-in_err-check_place-clause-fits c = (
  λ is. absurd (never_both c.from_residual.result c.from_residual.ensures.0 is),
  λ fits. absurd (true≢false (sym (c.in_err-check_place.ensures.fits.1 (subst (λ (s : ArrayState). FitsBox s.shape c.args.planted.now) (sym c.self.view_is) fits)))),
)

pub returns-in_err-check_place-clause-bad_place : goal.returns-in_err-check_place-clause-bad_place
returns-in_err-check_place-clause-bad_place c =
    bad c.from_residual.result c.in_err-check_place.field-0.0 c.from_residual.ensures.1 c.in_err-check_place.ensures.bad_place

pub close-requires : goal.close-requires
close-requires c =
    inside c.self.inside.shape c.self.inside.way _ c.args.planted.now c.deref_mut.result.now c.self.invariant (c.in_ok-check_place.ensures.fits.0 refl)
    c.deref_mut.ensures.value

pub invariant_of-self : goal.invariant_of-self
invariant_of-self c =
    planted c.self.inside.shape c.self.inside.way _ c.args.planted.now _ c.self.invariant (c.in_ok-check_place.ensures.fits.0 refl)
    (closed_whole c.self.inside.words.len c.args.planted.now c.deref_mut.result.now c.close.new.words c.self.inside.words.items c.self.inside.words.ok.0
    c.deref_mut.ensures.value c.close.ensures)

pub returns-clause-ok : goal.returns-clause-ok
returns-clause-ok c =
    told _ c.args.self.now c.args.planted.now _ c.self.view_is
    (closed_whole c.self.inside.words.len c.args.planted.now c.deref_mut.result.now c.close.new.words c.self.inside.words.items c.self.inside.words.ok.0
    c.deref_mut.ensures.value c.close.ensures)

pub returns-clause-fits : goal.returns-clause-fits
returns-clause-fits c =
    (λ _. subst (λ (s : ArrayState). FitsBox s.shape c.args.planted.now) c.self.view_is (c.in_ok-check_place.ensures.fits.0 refl), λ _. refl)

pub check_place-requires : goal.check_place-requires
check_place-requires c = c.requires.places
