-- Of any text, bytes or not, a grammar that a machine follows has one answer: what is read of one of its texts goes on.
use Rattle.std.proofs.Common.{◌≡◌, ◌↔◌, ℕ, zero, suc, ◌+◌, ◌<◌, ◌≤◌, List, [], ◌∷◌, ◌++◌, ◌∙◌, take, drop, Option, Some, None, refl, arith, sym, ap, subst, append_assoc, append-nil}
use Rattle.bist_text.specs.Grammar.{Continues, IsUnexpected}
use Rattle.bist_text.specs.Machine.{Holds, Outcome, read, unexpected, truncated, scan}
use Rattle.bist_text.specs.inner.Machine.{Follows, Answers, IsExact}
use Rattle.bist_text.proofs.Machine.{scan_answers, backward, one_value, answers_iff}

pub split_at : (n : ℕ) (b : List ℕ) → take n b ++ drop n b ≡ b
split_at zero b = refl
split_at (suc n) [] = refl
split_at (suc n) (c ∷ b) = ap (λ x. c ∷ x) (split_at n b)

shorter : (n k : ℕ) (b : List ℕ) → n ≤ k → take n (take k b) ≡ take n b
shorter zero k b h = refl
shorter (suc n) zero b h = absurd (omega arith)
shorter (suc n) (suc k) [] h = refl
shorter (suc n) (suc k) (c ∷ b) h = ap (λ x. c ∷ x) (shorter n k b (omega arith))

module _ {S V : Type 0} (step : S → ℕ → Option S) (value : S → Option V) (rest : S → List ℕ → V → Type 0) (good : S → Type 0) (f : Follows step value rest good) where
  steps_on : (a b : List ℕ) (s : S) (v : V) (c : ℕ) (o : Option S) → step s c ≡ o → Holds o (λ t. rest t (a ++ b) v)
      → ((t : S) → step s c ≡ Some t → rest t (a ++ b) v → Continues (rest t) a) → Continues (rest s) (c ∷ a)
  steps_on a b s v c None e h more = absurd h
  steps_on a b s v c (Some t) e h more = backward step value rest good f s t c a e (more t e h)

  pub goes_on : (a b : List ℕ) (s : S) (v : V) → good s → rest s (a ++ b) v → Continues (rest s) a
  goes_on [] b s v g h = f.alive s g
  goes_on (c ∷ a) b s v g h = steps_on a b s v c (step s c) refl ((f.goes s c (a ++ b) v).0 h) (λ t e k. goes_on a b t v (f.keeps s c t g e) k)

  -- what is refused doesn't go on
  not_refused : (b more : List ℕ) (k : ℕ) (s : S) (v : V) → good s → IsUnexpected (rest s) b k → rest s (b ++ more) v → ⊥
  not_refused b more k s v g u h =
      u.after (goes_on (take (k + 1) b) (drop (k + 1) b ++ more) s v g
      (subst (λ (x : List ℕ). rest s x v) (sym (sym (append_assoc (take (k + 1) b) (drop (k + 1) b) more) ∙ ap (λ (x : List ℕ). x ++ more) (split_at (k + 1) b))) h))

  not_earlier : (b : List ℕ) (j k : ℕ) (s : S) → good s → IsUnexpected (rest s) b j → IsUnexpected (rest s) b k → j < k → ⊥
  not_earlier b j k s g u w l =
      let short : take (j + 1) (take k b) ≡ take (j + 1) b = shorter (j + 1) k b (omega arith) in
      let h = w.before in
      u.after (subst (λ (x : List ℕ). Continues (rest s) x) short
      (goes_on (take (j + 1) (take k b)) (drop (j + 1) (take k b) ++ h.0) s h.1 g
      (subst (λ (x : List ℕ). rest s x h.1) (sym (sym (append_assoc (take (j + 1) (take k b)) (drop (j + 1) (take k b)) h.0) ∙ ap (λ (x : List ℕ). x ++ h.0) (split_at (j + 1) (take k b)))) h.3)))

  -- a text has one answer
  pub one_answer : (b : List ℕ) (s : S) → good s → (o p : Outcome V) → Answers (rest s) b o → Answers (rest s) b p → o ≡ p
  one_answer b s g (read v) (read w) h k = ap read (one_value step value rest good f b s v w h k)
  one_answer b s g (read v) (unexpected k) h u = absurd (not_refused b [] k s v g u (subst (λ (x : List ℕ). rest s x v) (sym (append-nil b)) h))
  one_answer b s g (read v) truncated h t = absurd (t.none v h)
  one_answer b s g (unexpected k) (read v) u h = absurd (not_refused b [] k s v g u (subst (λ (x : List ℕ). rest s x v) (sym (append-nil b)) h))
  one_answer b s g (unexpected j) (unexpected k) u w =
      let p : j < k → ⊥ = not_earlier b j k s g u w in
      let q : k < j → ⊥ = not_earlier b k j s g w u in
      ap unexpected (omega arith)
  one_answer b s g (unexpected k) truncated u t = absurd (not_refused b t.before.0 k s t.before.1 g u t.before.3)
  one_answer b s g truncated (read v) t h = absurd (t.none v h)
  one_answer b s g truncated (unexpected k) t u = absurd (not_refused b t.before.0 k s t.before.1 g u t.before.3)
  one_answer b s g truncated truncated t u = refl

-- a text has one answer of a grammar that says what may follow a machine's start
pub answers_one : {S V : Type 0} (step : S → ℕ → Option S) (value : S → Option V) (rest : S → List ℕ → V → Type 0) (good : S → Type 0) → Follows step value rest good
    → (G : List ℕ → V → Type 0) (start : S) → good start → ((b : List ℕ) (v : V) → rest start b v ↔ G b v)
    → (b : List ℕ) (o p : Outcome V) → Answers G b o → Answers G b p → o ≡ p
answers_one step value rest good f G start g is b o p h k =
    let r : (o : Outcome _) → Answers G b o → Answers (rest start) b o = λ o h. answers_iff G (rest start) (λ c v. ((is c v).1, (is c v).0)) b o h in
    one_answer step value rest good f b start g o p (r o h) (r p k)

-- A machine answers each text exactly as its grammar says, where its start has the grammar's texts.
pub scan_exact : {S V : Type 0} (step : S → ℕ → Option S) (value : S → Option V) (rest : S → List ℕ → V → Type 0) (good : S → Type 0) → Follows step value rest good
    → (G : List ℕ → V → Type 0) (start : S) → good start → ((b : List ℕ) (v : V) → rest start b v ↔ G b v) → (b : List ℕ) → IsExact G b (scan step value b start 0)
scan_exact {S} {V} step value rest good f G start g is b = record {
  reads = λ v. (λ e. subst (Answers G b) e right, λ h. one (read v) h);
  refuses = λ k. (λ e. subst (Answers G b) e right, λ u. one (unexpected k) u);
  ends_early = (λ e. subst (Answers G b) e right, λ t. one truncated t);
}
  where
    right : Answers G b (scan step value b start 0)
    right = answers_iff (rest start) G is b (scan step value b start 0) (scan_answers step value rest good f b start g)

    one : (p : Outcome V) → Answers G b p → scan step value b start 0 ≡ p
    one p h = answers_one step value rest good f G start g is b (scan step value b start 0) p right h
