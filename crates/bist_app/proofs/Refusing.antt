-- A refusal that is passed on.
use Rattle.bist_app.proofs.Common.{◌≡◌, Result, Ok, Err, ap, Refusal, Effects, plain}
use Rattle.std.specs.Result.{IsErr, IsErrAnd}

pub stopped : {A : Type 0} (r : Result A Refusal) (e : Refusal) → IsErr r × IsErrAnd r (λ x. x ≡ e) → r ≡ Err e
stopped (Err x) e h = ap Err h.1
stopped (Ok value) e h = absurd h.1

pub passed_on : (r : Result Effects Refusal) (e : Refusal) → IsErr r × IsErrAnd r (λ x. x ≡ e) → plain r ≡ Err e
passed_on r e h = ap plain (stopped r e h)
