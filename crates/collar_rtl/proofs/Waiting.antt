-- A read is answered by its own word, as many cycles later as words are under way.
use Rattle.std.proofs.Common.{◌≡◌, ◌+◌, ◌≤◌, ℕ, zero, suc, List, [], ◌∷◌, ◌++◌, length, Option, Some, refl, sym, ap, subst, ◌∙◌, arith, length-append}
use Rattle.std.specs.Prelude.{slice_get}
use Rattle.std.proofs.lemmas.List.{append_assoc}
use Rattle.macro_pins.specs.Asked.{Asked}
use Rattle.macro_pins.specs.Macros.{Values, PortMemory, own, due_after, AreCycles}

module _ {S : Type 0} (m : PortMemory S) (c : Values → Asked) (r : Values → ℕ) where
  -- the state before a cycle
  abbrev pub state_at : S → List Values → ℕ → S
  state_at s es zero = s
  state_at s [] (suc t) = s
  state_at s (e ∷ es) (suc t) = state_at (m.after s (c e)) es t

  length_due : (q : List (Option ℕ)) (o : Option ℕ) → 1 ≤ length q → length (due_after q o) ≡ length q
  length_due [] o some = absurd (omega arith)
  length_due (x ∷ q) o some = let both = length-append q (o ∷ []) in omega arith

  -- a word that is under way comes in its turn
  waiting : (front back : List (Option ℕ)) (v n : ℕ) (s : S) (es : List Values) (f : Values) → n ≡ length front → AreCycles m c r s (front ++ Some v ∷ back) es
      → slice_get es n ≡ Some f → r f ≡ v
  waiting [] back v zero s [] f size h at = cc
  waiting [] back v zero s (e ∷ es) f size h at =
      let same : e ≡ f = cc in
      subst (λ (x : Values). r x ≡ v) same h.0
  waiting [] back v (suc n) s es f size h at = absurd (omega arith)
  waiting (x ∷ front) back v zero s es f size h at = absurd (omega arith)
  waiting (x ∷ front) back v (suc n) s [] f size h at = cc
  waiting (x ∷ front) back v (suc n) s (e ∷ es) f size h at =
      let o : Option ℕ = own m s (c e) in
      waiting front (back ++ o ∷ []) v n (m.after s (c e)) es f (omega arith)
      (subst (λ (q : List (Option ℕ)). AreCycles m c r (m.after s (c e)) q es) (append_assoc front (Some v ∷ back) (o ∷ [])) h.1) at

  pub answered : (t : ℕ) (s : S) (q : List (Option ℕ)) (es : List Values) (e f : Values) (v : ℕ) → 1 ≤ length q → AreCycles m c r s q es
      → slice_get es t ≡ Some e → slice_get es (t + length q) ≡ Some f → own m (state_at s es t) (c e) ≡ Some v → r f ≡ v
  answered t s [] es e f v some h here there is = absurd (omega arith)
  answered zero s (x ∷ q) [] e f v some h here there is = cc
  answered zero s (x ∷ q) (g ∷ es) e f v some h here there is =
      let same : g ≡ e = cc in
      let word : own m s (c g) ≡ Some v = ap (λ (y : Values). own m s (c y)) same ∙ is in
      let on : 0 + length (x ∷ q) ≡ suc (length q) = omega arith in
      let at : slice_get (g ∷ es) (suc (length q)) ≡ Some f = ap (slice_get (g ∷ es)) (sym on) ∙ there in
      waiting q [] v (length q) (m.after s (c g)) es f refl
      (subst (λ (o : Option ℕ). AreCycles m c r (m.after s (c g)) (q ++ o ∷ []) es) word h.1) at
  answered (suc t) s (x ∷ q) [] e f v some h here there is = cc
  answered (suc t) s (x ∷ q) (g ∷ es) e f v some h here there is =
      let next : List (Option ℕ) = due_after (x ∷ q) (own m s (c g)) in
      let size = length_due (x ∷ q) (own m s (c g)) some in
      let on : suc t + length (x ∷ q) ≡ suc (t + length next) = omega arith in
      let at : slice_get (g ∷ es) (suc (t + length next)) ≡ Some f = ap (slice_get (g ∷ es)) (sym on) ∙ there in
      answered t (m.after s (c g)) next es e f v (omega arith) h.1 here at is
