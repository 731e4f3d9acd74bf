-- What is said of a line's bytes.
use Rattle.std.proofs.Common.{◌≡◌, ℕ, List, Option, Result, refl, sym, subst}
use Rattle.bist_text.specs.Machine.{Outcome, read, unexpected, truncated, scan}
use Rattle.bist_text.specs.inner.Machine.{IsExact, Answers}
use Rattle.bist_text.proofs.Settled.{answers_one, scan_exact}
use Rattle.fault_syntax.specs.declared.reader.ReadItem.{ReadItem}
use Rattle.fault_syntax.specs.declared.reader.Refusal.{Refusal}
use Rattle.fault_syntax.specs.declared.words.Form.TheVariants.{Listed}
use Rattle.fault_syntax.specs.declared.words.AllowedNames.{AllowedNames}
use Rattle.fault_syntax.specs.inner.Brief.{answer_of}
use Rattle.fault_syntax.specs.inner.LineReading.{Says}
use Rattle.fault_syntax.specs.ListText.{Item, LineOf}
use Rattle.fault_syntax.specs.inner.Places.{start, step, value, rest}
use Rattle.fault_syntax.proofs.PlaceLaws.{follows, line_is}

module _ (set : AllowedNames) where
  line_exact : (b : List ℕ) → IsExact (LineOf set) b (scan (step (Listed set)) (value (Listed set)) b start 0)
  line_exact b =
      scan_exact (step (Listed set)) (value (Listed set)) (rest (Listed set)) (λ s. Unit {0}) (follows (Listed set)) (LineOf set) start tt (line_is set) b

  pub says : (b : List ℕ) (r : Result ReadItem Refusal) → r ≡ answer_of (scan (step (Listed set)) (value (Listed set)) b start 0) → Says set b r
  says b r e = subst (Says set b) (sym e) (go (scan (step (Listed set)) (value (Listed set)) b start 0) (line_exact b))
    where
      go : (o : Outcome (Option Item)) → IsExact (LineOf set) b o → Says set b (answer_of o)
      go (read v) x = (v, (x.reads v).0 refl, refl)
      go (unexpected k) x = (x.refuses k).0 refl
      go truncated x = x.ends_early.0 refl

  pub outcome_one : (b : List ℕ) (o p : Outcome (Option Item)) → Answers (LineOf set) b o → Answers (LineOf set) b p → o ≡ p
  outcome_one b o p h k =
      answers_one (step (Listed set)) (value (Listed set)) (rest (Listed set)) (λ s. Unit {0}) (follows (Listed set)) (LineOf set) start tt (line_is set) b o p h k
