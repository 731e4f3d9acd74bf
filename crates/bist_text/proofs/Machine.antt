-- What the four laws of a machine give: it reads the texts of its grammar, each to one value, and each refusal
-- is at its place.
use Rattle.std.proofs.Common.{◌≡◌, ℕ, ◌+◌, ◌<◌, suc, List, [], ◌∷◌, ◌++◌, length, take, Option, Some, None, refl, arith, sym, ap, subst, ◌↔◌, add-one}
use Rattle.bist_text.specs.Grammar.{Continues, IsUnexpected, IsTruncated}
use Rattle.bist_text.specs.Machine.{Holds, Outcome, read, unexpected, truncated, ended, after, scan}
use Rattle.bist_text.specs.inner.Machine.{Follows, Answers}

-- what holds of the next state
holds_after : {S V : Type 0} (o : Option S) (P : S → Type 0) (k : ℕ) (f : S → Outcome V) (x : Outcome V) → Holds o P → ((t : S) → P t → f t ≡ x) → after o k f ≡ x
holds_after None P k f x h g = absurd h
holds_after (Some t) P k f x h g = g t h

after_read : {S V : Type 0} (o : Option S) (P : S → Type 0) (k : ℕ) (f : S → Outcome V) (v : V) → after o k f ≡ read v → ((t : S) → f t ≡ read v → P t) → Holds o P
after_read None P k f v h g = cc
after_read (Some t) P k f v h g = g t h

ended_read : {V : Type 0} (o : Option V) (v : V) → ended o ≡ read v → o ≡ Some v
ended_read None v h = cc
ended_read (Some w) v h = cc

ended_unexpected : {V : Type 0} (o : Option V) (k : ℕ) → ended o ≡ unexpected k → ⊥
ended_unexpected None k h = cc
ended_unexpected (Some w) k h = cc

ended_truncated : {V : Type 0} (o : Option V) (v : V) → ended o ≡ truncated → o ≡ Some v → ⊥
ended_truncated None v h e = cc
ended_truncated (Some w) v h e = cc

module _ {S V : Type 0} (step : S → ℕ → Option S) (value : S → Option V) (rest : S → List ℕ → V → Type 0) (good : S → Type 0) (f : Follows step value rest good) where
  pub scan_reads : (b : List ℕ) (s : S) (k : ℕ) (v : V) → rest s b v → scan step value b s k ≡ read v
  scan_reads [] s k v h = ap ended ((f.ends s v).0 h)
  scan_reads (c ∷ b) s k v h = holds_after (step s c) (λ t. rest t b v) k _ (read v) ((f.goes s c b v).0 h) (λ t h'. scan_reads b t (k + 1) v h')

  pub scan_read : (b : List ℕ) (s : S) (k : ℕ) (v : V) → scan step value b s k ≡ read v → rest s b v
  scan_read [] s k v h = (f.ends s v).1 (ended_read (value s) v h)
  scan_read (c ∷ b) s k v h = (f.goes s c b v).1 (after_read (step s c) (λ t. rest t b v) k _ v h (λ t h'. scan_read b t (k + 1) v h'))

  stuck : (s : S) (c : ℕ) (b : List ℕ) → step s c ≡ None → Continues (rest s) (c ∷ b) → ⊥
  stuck s c b e h = subst (λ (o : Option S). Holds o (λ t. rest t (b ++ h.0) h.1)) e ((f.goes s c (b ++ h.0) h.1).0 h.3)

  pub forward : (s t : S) (c : ℕ) (b : List ℕ) → step s c ≡ Some t → Continues (rest s) (c ∷ b) → Continues (rest t) b
  forward s t c b e h = (h.0, h.1, h.2, subst (λ (o : Option S). Holds o (λ t. rest t (b ++ h.0) h.1)) e ((f.goes s c (b ++ h.0) h.1).0 h.3))

  pub backward : (s t : S) (c : ℕ) (b : List ℕ) → step s c ≡ Some t → Continues (rest t) b → Continues (rest s) (c ∷ b)
  backward s t c b e h = (h.0, h.1, h.2, (f.goes s c (b ++ h.0) h.1).1 (subst (λ (o : Option S). Holds o (λ t. rest t (b ++ h.0) h.1)) (sym e) h.3))

  pub stops : (s : S) (c : ℕ) (b : List ℕ) → good s → step s c ≡ None → IsUnexpected (rest s) (c ∷ b) 0
  stops s c b g e = record { within = omega arith; before = f.alive s g; after = λ h. stuck s c [] e h }

  pub later : (s t : S) (c : ℕ) (b : List ℕ) (i : ℕ) → step s c ≡ Some t → IsUnexpected (rest t) b i → IsUnexpected (rest s) (c ∷ b) (suc i)
  later s t c b i e u = record {
    within = let h : i < length b = u.within in omega arith;
    before = backward s t c (take i b) e u.before;
    after = λ h. u.after (rw add-one (forward s t c (take (suc i) b) e (rw add-one at h)));
  }

  later_truncated : (s t : S) (c : ℕ) (b : List ℕ) → step s c ≡ Some t → IsTruncated (rest t) b → IsTruncated (rest s) (c ∷ b)
  later_truncated s t c b e u = record {
    none = λ v h. u.none v (subst (λ (o : Option S). Holds o (λ t. rest t b v)) e ((f.goes s c b v).0 h));
    before = backward s t c b e u.before;
  }

  -- the refusal at byte j of a text whose first byte is byte k
  abbrev Refuses : S → List ℕ → ℕ → ℕ → Type 0
  Refuses s b k j = (i : ℕ) × (j ≡ k + i) × IsUnexpected (rest s) b i

  step_unexpected : (s : S) (c : ℕ) (b : List ℕ) (k j : ℕ) (o : Option S) (g : S → Outcome V) → good s → step s c ≡ o → after o k g ≡ unexpected j → ((t : S) → good t → g t ≡ unexpected j → Refuses t b (k + 1) j) → Refuses s (c ∷ b) k j
  step_unexpected s c b k j None g w e h r = (0, let j_is : k ≡ j = cc in omega arith, stops s c b w e)
  step_unexpected s c b k j (Some t) g w e h r = let u : Refuses t b (k + 1) j = r t (f.keeps s c t w e) h in (suc u.0, omega (arith, u.1), later s t c b u.0 e u.2)

  pub scan_unexpected : (b : List ℕ) (s : S) (k j : ℕ) → good s → scan step value b s k ≡ unexpected j → Refuses s b k j
  scan_unexpected [] s k j w h = absurd (ended_unexpected (value s) j h)
  scan_unexpected (c ∷ b) s k j w h = step_unexpected s c b k j (step s c) (λ t. scan step value b t (k + 1)) w refl h (λ t w h'. scan_unexpected b t (k + 1) j w h')

  step_truncated : (s : S) (c : ℕ) (b : List ℕ) (k : ℕ) (o : Option S) (g : S → Outcome V) → good s → step s c ≡ o → after o k g ≡ truncated → ((t : S) → good t → g t ≡ truncated → IsTruncated (rest t) b) → IsTruncated (rest s) (c ∷ b)
  step_truncated s c b k None g w e h r = cc
  step_truncated s c b k (Some t) g w e h r = later_truncated s t c b e (r t (f.keeps s c t w e) h)

  pub scan_truncated : (b : List ℕ) (s : S) (k : ℕ) → good s → scan step value b s k ≡ truncated → IsTruncated (rest s) b
  scan_truncated [] s k w h = record { none = λ v r. ended_truncated (value s) v h ((f.ends s v).0 r); before = f.alive s w }
  scan_truncated (c ∷ b) s k w h = step_truncated s c b k (step s c) (λ t. scan step value b t (k + 1)) w refl h (λ t w h'. scan_truncated b t (k + 1) w h')

  answer : (b : List ℕ) (s : S) (o : Outcome V) → good s → scan step value b s 0 ≡ o → Answers (rest s) b o
  answer b s (read v) w h = scan_read b s 0 v h
  answer b s (unexpected j) w h = let u : Refuses s b 0 j = scan_unexpected b s 0 j w h in let e : u.0 ≡ j = omega (arith, u.1) in subst (λ (n : ℕ). IsUnexpected (rest s) b n) e u.2
  answer b s truncated w h = scan_truncated b s 0 w h

  -- what the machine answers is right
  pub scan_answers : (b : List ℕ) (s : S) → good s → Answers (rest s) b (scan step value b s 0)
  scan_answers b s w = answer b s (scan step value b s 0) w refl

  -- no bytes stand for two values
  pub one_value : (b : List ℕ) (s : S) (v w : V) → rest s b v → rest s b w → v ≡ w
  one_value b s v w p q = let a : scan step value b s 0 ≡ read v = scan_reads b s 0 v p in let c : scan step value b s 0 ≡ read w = scan_reads b s 0 w q in cc

-- the texts of one grammar are texts of another
abbrev pub HasTexts : {V W : Type 0} → (List ℕ → V → Type 0) → (List ℕ → W → Type 0) → Type 0
HasTexts {V} {W} G H = (b : List ℕ) (v : V) → G b v → (w : W) × H b w

continues_so : {V W : Type 0} (G : List ℕ → V → Type 0) (H : List ℕ → W → Type 0) → HasTexts G H → (b : List ℕ) → Continues G b → Continues H b
continues_so G H f b h = let t = f (b ++ h.0) h.1 h.3 in (h.0, t.0, h.2, t.1)

-- grammars of the same texts refuse the same
pub unexpected_so : {V W : Type 0} (G : List ℕ → V → Type 0) (H : List ℕ → W → Type 0) → HasTexts G H → HasTexts H G → (b : List ℕ) (k : ℕ) → IsUnexpected G b k → IsUnexpected H b k
unexpected_so G H f g b k u = record { within = u.within; before = continues_so G H f (take k b) u.before; after = λ z. u.after (continues_so H G g (take (k + 1) b) z) }

pub truncated_so : {V W : Type 0} (G : List ℕ → V → Type 0) (H : List ℕ → W → Type 0) → HasTexts G H → HasTexts H G → (b : List ℕ) → IsTruncated G b → IsTruncated H b
truncated_so G H f g b u = record { none = λ w z. (let t = g b w z in u.none t.0 t.1); before = continues_so G H f b u.before }

-- of two grammars that are the same
pub answers_iff : {V : Type 0} (G H : List ℕ → V → Type 0) → ((b : List ℕ) (v : V) → G b v ↔ H b v) → (b : List ℕ) (o : Outcome V) → Answers G b o → Answers H b o
answers_iff G H f b (read v) h = (f b v).0 h
answers_iff G H f b (unexpected k) h = unexpected_so G H (λ c v z. (v, (f c v).0 z)) (λ c v z. (v, (f c v).1 z)) b k h
answers_iff G H f b truncated h = truncated_so G H (λ c v z. (v, (f c v).0 z)) (λ c v z. (v, (f c v).1 z)) b h
