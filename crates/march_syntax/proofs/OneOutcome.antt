-- A text is read as one march, or refused in one way.
use Rattle.std.proofs.Common.{◌≡◌, ℕ, List, ◌∙◌, Result, Ok, Err, refl, sym, ap, subst}
use Rattle.bist_text.specs.Machine.{Outcome, read, unexpected, truncated}
use Rattle.bist_text.specs.inner.Machine.{Answers}
use Rattle.bist_text.proofs.Settled.{answers_one}
use Rattle.march_core.specs.declared.fault.MarchFault.{MarchFault}
use Rattle.march_core.specs.declared.fault.MarchFault.TheVariants.{Unexpected, Truncated, Empty, TooManyElements, TooManyOps, TooManyInAll, ReadBeforeWrite, WrongExpect}
use Rattle.march_core.specs.March.{MarchElement}
use Rattle.march_syntax.specs.inner.Answers.{Decides, Gives}
use Rattle.march_syntax.specs.Answers.{Reads}
use Rattle.march_syntax.specs.MarchText.{MarchText}
use Rattle.march_syntax.specs.inner.Places.{start, step, value, rest}
use Rattle.march_syntax.proofs.Exceeding.{refuses_once, refuses_no_march}
use Rattle.march_syntax.proofs.PlaceLaws.{follows, start_is}

-- elements are read as one thing
decides_one : (es : List MarchElement) (q r : Result (List MarchElement) MarchFault) → Decides es q → Decides es r → q ≡ r
decides_one es (Ok m) (Ok n) p s = ap (λ x. Ok x) (p.0 ∙ sym s.0)
decides_one es (Ok m) (Err g) p s = absurd (refuses_no_march es g s p.1)
decides_one es (Err f) (Ok n) p s = absurd (refuses_no_march es f p s.1)
decides_one es (Err f) (Err g) p s = ap (λ x. Err x) (refuses_once es f g p s)

gives_one : (o : Outcome (List MarchElement)) (q r : Result (List MarchElement) MarchFault) → Gives o q → Gives o r → q ≡ r
gives_one (unexpected k) q r p s = p ∙ sym s
gives_one truncated q r p s = p ∙ sym s
gives_one (read es) q r p s = decides_one es q r p s

-- a text has one outcome
outcome_one : (b : List ℕ) (o p : Outcome (List MarchElement)) → Answers MarchText b o → Answers MarchText b p → o ≡ p
outcome_one b o p h k = answers_one step value rest (λ s. Unit {0}) follows MarchText start tt start_is b o p h k

-- what the bytes are read as is what their outcome gives
outcome_of : (b : List ℕ) (r : Result (List MarchElement) MarchFault) → Reads b r → (o : Outcome (List MarchElement)) × Answers MarchText b o × Gives o r
outcome_of b (Ok es) h = (read es, h.0, (refl, h.1))
outcome_of b (Err (Unexpected k)) h = (unexpected k, h, refl)
outcome_of b (Err Truncated) h = (truncated, h, refl)
outcome_of b (Err Empty) h = (read h.0, h.1, h.2)
outcome_of b (Err TooManyElements) h = (read h.0, h.1, h.2)
outcome_of b (Err (TooManyOps i)) h = (read h.0, h.1, h.2)
outcome_of b (Err TooManyInAll) h = (read h.0, h.1, h.2)
outcome_of b (Err (ReadBeforeWrite i j)) h = (read h.0, h.1, h.2)
outcome_of b (Err (WrongExpect i j)) h = (read h.0, h.1, h.2)

pub reads_one : (b : List ℕ) (q r : Result (List MarchElement) MarchFault) → Reads b q → Reads b r → q ≡ r
reads_one b q r h k =
    let x = outcome_of b q h in
    let y = outcome_of b r k in
    gives_one y.0 q r (subst (λ o. Gives o q) (outcome_one b x.0 y.0 x.1 y.1) x.2) y.2

-- a text has one reading
pub one_text : (b : List ℕ) (es fs : List MarchElement) → MarchText b es → MarchText b fs → es ≡ fs
one_text b es fs t u = same (outcome_one b (read es) (read fs) t u)
  where
    same : read es ≡ read fs → es ≡ fs
    same e = cc
