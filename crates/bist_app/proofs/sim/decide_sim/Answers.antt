use Rattle.bist_app.proofs.Common.{◌≡◌, ℕ, List, Result, Ok, Err, refl, subst, MarchElement, Primitive, Done, Refusal, FitsAggressor, GivesPrim}
use Rattle.fault_core.specs.declared.cells.Places.{Places}
use Rattle.bist_app.specs.Sim.{FitsDirections, LeavesSim}
use Rattle.bist_app.proofs.Refusing.{passed_on}
use Rattle.bist_app.proofs.sim.decide_sim.Goals as goal

-- the same bytes under other names
told : (march : List MarchElement) (prim : Primitive) (at : Places) (digits digits' letters letters' : List ℕ) (outcome : Result Done Refusal)
    → digits ≡ digits' → letters ≡ letters' → LeavesSim march prim at digits letters outcome → LeavesSim march prim at digits' letters' outcome
told march prim at digits digits' letters letters' outcome d l h =
    subst (λ b. LeavesSim march prim at digits' b outcome) l (subst (λ b. LeavesSim march prim at b letters outcome) d h)

pub returns-in_err-march-clause-answer : goal.returns-in_err-march-clause-answer
returns-in_err-march-clause-answer g c =
    (Ok c.in-Some.shape, c.in-Some.ensures, (Err c.in_err-march.field-0.0, c.in_err-march.ensures.answer, passed_on _ _ c.from_residual.ensures))

pub returns-in_err-prim-clause-answer : goal.returns-in_err-prim-clause-answer
returns-in_err-prim-clause-answer g c =
    (Ok c.in-Some.shape, c.in-Some.ensures, (Ok c.in_ok-march.march, c.in_ok-march.ensures.answer, (Err c.in_err-prim.field-0.0, subst (λ b. GivesPrim b (Err c.in_err-prim.field-0.0)) c.as_bytes.ensures.value c.in_err-prim.ensures.answer, passed_on _ _ c.from_residual-in_err-prim.ensures)))

pub returns-in_err-fit_aggressor-clause-answer : goal.returns-in_err-fit_aggressor-clause-answer
returns-in_err-fit_aggressor-clause-answer g c =
    let fits = subst (λ b. FitsAggressor b c.in_ok-prim.prim (Err c.in_err-fit_aggressor.field-0.0)) c.is_some.ensures c.in_err-fit_aggressor.ensures.answer in
    (Ok c.in-Some.shape, c.in-Some.ensures, (Ok c.in_ok-march.march, c.in_ok-march.ensures.answer, (Ok c.in_ok-prim.prim, subst (λ b. GivesPrim b (Ok c.in_ok-prim.prim)) c.as_bytes.ensures.value c.in_ok-prim.ensures.answer, (Err c.in_err-fit_aggressor.field-0.0, fits, passed_on _ _ c.from_residual-in_err-fit_aggressor.ensures))))

pub returns-in_err-fit_directions-clause-answer : goal.returns-in_err-fit_directions-clause-answer
returns-in_err-fit_directions-clause-answer g c =
    let given = subst (λ b. FitsAggressor b c.in_ok-prim.prim (Ok tt)) c.is_some.ensures c.in_ok-fit_aggressor.ensures.answer in
    let fits = subst (λ b. FitsDirections b c.in_ok-march.march (Err c.in_err-fit_directions.field-0.0)) c.as_bytes-2.ensures.value c.in_err-fit_directions.ensures.answer in (
      Ok c.in-Some.shape,
      c.in-Some.ensures,
      (
        Ok c.in_ok-march.march,
        c.in_ok-march.ensures.answer,
        (
          Ok c.in_ok-prim.prim,
          subst (λ b. GivesPrim b (Ok c.in_ok-prim.prim)) c.as_bytes.ensures.value c.in_ok-prim.ensures.answer,
          (
            Ok tt,
            given,
            (Err c.in_err-fit_directions.field-0.0, fits, passed_on _ _ c.from_residual-in_err-fit_directions.ensures),
          ),
        ),
      ),
    )

pub returns-clause-answer : goal.returns-clause-answer
returns-clause-answer g c =
    let given = subst (λ b. FitsAggressor b c.in_ok-prim.prim (Ok tt)) c.is_some.ensures c.in_ok-fit_aggressor.ensures.answer in
    let fits = subst (λ b. FitsDirections b c.in_ok-march.march (Ok tt)) c.as_bytes-2.ensures.value c.in_ok-fit_directions.ensures.answer in (
      Ok c.in-Some.shape,
      c.in-Some.ensures,
      (
        Ok c.in_ok-march.march,
        c.in_ok-march.ensures.answer,
        (
          Ok c.in_ok-prim.prim,
          subst (λ b. GivesPrim b (Ok c.in_ok-prim.prim)) c.as_bytes.ensures.value c.in_ok-prim.ensures.answer,
          (
            Ok tt,
            given,
            (
              Ok tt,
              fits,
              told c.in_ok-march.march c.in_ok-prim.prim _ _ _ _ _ _ c.as_bytes-3.ensures.value c.as_bytes-4.ensures.value c.plan_sim.ensures.answer,
            ),
          ),
        ),
      ),
    )

pub returns-in_default-clause-answer : goal.returns-in_default-clause-answer
returns-in_default-clause-answer g c = (Err Refusal.Usage, c.in_default.ensures, refl)
