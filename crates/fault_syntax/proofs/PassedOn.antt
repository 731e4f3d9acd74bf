-- What a function says of a refusal that it passes on with `?`.
use Rattle.std.proofs.Common.{◌≡◌, Result, Ok, Err, IfOk, IfErr, IsErr, IsErrAnd, sym, subst}

pub no_result : {T E : Type 0} (r : Result T E) (Q : T → Type 0) → IsErr r → IfOk r Q
no_result (Ok x) Q h = cc
no_result (Err y) Q h = tt

pub passed_on : {T E : Type 0} (r : Result T E) (e : E) (P : E → Type 0) → IsErr r × IsErrAnd r (λ x. x ≡ e) → P e → IfErr r P
passed_on (Ok x) e P h p = tt
passed_on (Err y) e P h p = subst P (sym h.1) p
