-- From where a reader stands to what it answers.
use Rattle.std.proofs.Common.{◌≡◌, ◌↔◌, ℕ, Bool, true, List, [], ◌∙◌, drop, Option, Some, Result, Ok, Err, refl, sym, subst, inl, inr}
use Rattle.bist_text.specs.Machine.{Outcome, read, unexpected, truncated, scan}
use Rattle.bist_text.specs.inner.Machine.{IsExact}
use Rattle.bist_text.proofs.Settled.{scan_exact}
use Rattle.march_core.specs.declared.fault.MarchFault.{MarchFault}
use Rattle.march_core.specs.declared.fault.MarchFault.TheVariants.{Unexpected, Truncated, Empty, TooManyElements, TooManyOps, TooManyInAll, ReadBeforeWrite, WrongExpect}
use Rattle.march_core.specs.March.{MarchElement, IsMarch}
use Rattle.march_syntax.specs.declared.place.Place.{Place}
use Rattle.march_syntax.specs.Answers.{Refuses, Reads}
use Rattle.march_syntax.specs.inner.Answers.{Gives}
use Rattle.march_syntax.proofs.OneOutcome.{reads_one}
use Rattle.march_syntax.specs.MarchText.{MarchText}
use Rattle.march_syntax.specs.inner.Places.{may_end, start, step, value, rest}
use Rattle.march_syntax.proofs.PlaceLaws.{follows, start_is}
use Rattle.march_syntax.proofs.Standing.{Stands, Keeps, stands_end}

-- ---- what the reader answers

module _ (b : List ℕ) (place : Place) (braced : Bool) (built : List MarchElement) (exceeded : Option MarchFault) (i : ℕ) (x : Stands b place braced built exceeded i) where
  whole : drop i b ≡ [] → may_end place braced ≡ true → scan step value b start 0 ≡ read x.state.done
  whole d e = stands_end b place braced built exceeded i x d ∙ rw e refl

  pub gives_exceeded : (fault : MarchFault) → exceeded ≡ Some fault → drop i b ≡ [] → may_end place braced ≡ true
      → Gives (scan step value b start 0) (Err fault)
  gives_exceeded fault f d e =
      let k : Keeps b x.state built (Some fault) = subst (Keeps b x.state built) f x.kept in
      subst (λ o. Gives o (Err fault)) (sym (whole d e)) (inl (k x.state.done (whole d e)))

-- ---- what that says of the grammar

text_exact : (b : List ℕ) → IsExact MarchText b (scan step value b start 0)
text_exact b = scan_exact step value rest (λ s. Unit {0}) follows MarchText start tt start_is b

-- what the outcome gives is what the bytes are read as
refusal_reads : (b : List ℕ) (es : List MarchElement) (f : MarchFault) → MarchText b es → Refuses es f → Reads b (Err f)
refusal_reads b es Empty t h = (es, t, h)
refusal_reads b es TooManyElements t h = (es, t, h)
refusal_reads b es (TooManyOps i) t h = (es, t, h)
refusal_reads b es TooManyInAll t h = (es, t, h)
refusal_reads b es (ReadBeforeWrite i j) t h = (es, t, h)
refusal_reads b es (WrongExpect i j) t h = (es, t, h)
refusal_reads b es (Unexpected k) t h = absurd (elim h [ inl a ↦ a | inr a ↦ a.1 ])
refusal_reads b es Truncated t h = absurd (elim h [ inl a ↦ a | inr a ↦ a.1 ])

given_reads : (b : List ℕ) (o : Outcome (List MarchElement)) (r : Result (List MarchElement) MarchFault) → IsExact MarchText b o → Gives o r → Reads b r
given_reads b (unexpected k) r x g = subst (Reads b) (sym g) ((x.refuses k).0 refl)
given_reads b truncated r x g = subst (Reads b) (sym g) (x.ends_early.0 refl)
given_reads b (read es) (Ok m) x g = (subst (MarchText b) (sym g.0) ((x.reads es).0 refl), subst IsMarch (sym g.0) g.1)
given_reads b (read es) (Err f) x g = refusal_reads b es f ((x.reads es).0 refl) g

-- what a reader's answer says of its bytes, both ways
pub reads : (b : List ℕ) (r : Result (List MarchElement) MarchFault) → Gives (scan step value b start 0) r
    → (q : Result (List MarchElement) MarchFault) → (r ≡ q) ↔ Reads b q
reads b r g q =
    let x = given_reads b (scan step value b start 0) r (text_exact b) g in
    (λ e. subst (Reads b) e x, λ h. reads_one b r q x h)
