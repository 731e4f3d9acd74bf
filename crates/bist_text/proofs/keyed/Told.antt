-- What a reader answers is right, byte by byte; from that: exact, as its grammar says.
use Rattle.bist_text.proofs.keyed.Common.{Answers, Continues, IsExact, List, Outcome, Read, [], ap, append_assoc, arith, drop, inl, inr, length, outcome, read, refl, stuck, subst, suc, sym, take, take-take, take_all, took, truncated, unexpected, zero, ℕ, ◌++◌, ◌+◌, ◌-◌, ◌<◌, ◌↔◌, ◌∙◌, ◌∷◌, ◌≡◌, ◌≤◌, ◌⊎◌}
use Rattle.bist_text.proofs.Settled.{split_at}

-- ---- byte by byte

-- what may follow c
abbrev pub Behind : {V : Type 0} → ℕ → (List ℕ → V → Type 0) → List ℕ → V → Type 0
Behind c G = λ b v. G (c ∷ b) v

-- nothing begins with c
abbrev pub Never : {V : Type 0} → ℕ → (List ℕ → V → Type 0) → Type 0
Never {V} c G = (b : List ℕ) (v : V) → G (c ∷ b) v → ⊥

abbrev pub AtEnd : {V : Type 0} → (List ℕ → V → Type 0) → Read V → Type 0
AtEnd {V} G (took v x) = G [] v × ((w : V) → G [] w → w ≡ v)
AtEnd {V} G (stuck x) = (x ≡ []) × ((w : V) → G [] w → ⊥)

-- At a text's end the value is the one of the grammar, or there is none. At a byte the reader stops there and no text goes on so,
-- or the answer is right of what may follow. Wherever it has come, the text goes on.
abbrev pub Told : {V : Type 0} → (List ℕ → V → Type 0) → List ℕ → Read V → Type 0
Told G [] o = Continues G [] × AtEnd G o
Told G (c ∷ b) o = Continues G [] × ((Never c G × (o ≡ stuck (c ∷ b))) ⊎ Told (Behind c G) b o)

pub told_alive : {V : Type 0} (G : List ℕ → V → Type 0) (b : List ℕ) (o : Read V) → Told G b o → Continues G []
told_alive G [] o h = h.0
told_alive G (c ∷ b) o h = h.0

alive_iff : {V : Type 0} (G H : List ℕ → V → Type 0) → ((x : List ℕ) (v : V) → G x v ↔ H x v) → Continues G [] → Continues H []
alive_iff G H f a = (a.0, a.1, a.2, (f a.0 a.1).0 a.3)

pub end_iff : {V : Type 0} (G H : List ℕ → V → Type 0) (o : Read V) → ((v : V) → G [] v ↔ H [] v) → AtEnd G o → AtEnd H o
end_iff G H (took v x) f h = ((f v).0 h.0, λ w k. h.1 w ((f w).1 k))
end_iff G H (stuck x) f h = (h.0, λ w k. h.1 w ((f w).1 k))

pub told_iff : {V : Type 0} (G H : List ℕ → V → Type 0) (b : List ℕ) (o : Read V) → ((x : List ℕ) (v : V) → G x v ↔ H x v) → Told G b o → Told H b o
told_iff G H [] o f h = (alive_iff G H f h.0, end_iff G H o (λ v. f [] v) h.1)
told_iff G H (c ∷ b) o f h = (
  alive_iff G H f h.0,
  elim h.1 [
    | inl d ↦ inl (λ x v k. d.0 x v ((f (c ∷ x) v).1 k), d.1)
    | inr t ↦ inr (told_iff (Behind c G) (Behind c H) b o (λ x v. f (c ∷ x) v) t)
  ],
)

-- of grammars whose texts that begin with c are the same
pub told_from : {V : Type 0} (G H : List ℕ → V → Type 0) (c : ℕ) (b : List ℕ) (o : Read V) → Continues H [] → ((x : List ℕ) (v : V) → G (c ∷ x) v ↔ H (c ∷ x) v)
    → Told G (c ∷ b) o → Told H (c ∷ b) o
told_from G H c b o a f h = (
  a,
  elim h.1 [
    | inl d ↦ inl (λ x v k. d.0 x v ((f x v).1 k), d.1)
    | inr t ↦ inr (told_iff (Behind c G) (Behind c H) b o f t)
  ],
)

-- ---- a whole text

abbrev pub Stands : {V : Type 0} → (List ℕ → V → Type 0) → List ℕ → Read V → Type 0
Stands {V} G b (took v x) = ((k : ℕ) → Continues G (take k b)) × G b v × ((w : V) → G b w → w ≡ v)
Stands {V} G b (stuck []) = ((k : ℕ) → Continues G (take k b)) × ((w : V) → G b w → ⊥)
Stands {V} G b (stuck (c ∷ y)) = (j : ℕ) × (j + suc (length y) ≡ length b) × ((k : ℕ) → k ≤ j → Continues G (take k b))
    × ((x : List ℕ) (w : V) → G (take (suc j) b ++ x) w → ⊥)

none_of : {V : Type 0} (G : List ℕ → V → Type 0) → Continues G [] → (k : ℕ) → Continues G (take k [])
none_of G a zero = a
none_of G a (suc k) = a

at_end : {V : Type 0} (G : List ℕ → V → Type 0) (o : Read V) → Continues G [] → AtEnd G o → Stands G [] o
at_end G (took v x) a h = (none_of G a, h.0, h.1)
at_end G (stuck []) a h = (none_of G a, h.1)
at_end G (stuck (c ∷ y)) a h = (let e = h.0 in let z : ⊥ = cc in absurd z)

on_to : {V : Type 0} (G : List ℕ → V → Type 0) (c : ℕ) (b : List ℕ) → Continues G [] → ((k : ℕ) → Continues (Behind c G) (take k b)) → (k : ℕ) → Continues G (take k (c ∷ b))
on_to G c b a f zero = a
on_to G c b a f (suc k) = f k

longer : {V : Type 0} (G : List ℕ → V → Type 0) (c : ℕ) (b : List ℕ) (o : Read V) → Continues G [] → Stands (Behind c G) b o → Stands G (c ∷ b) o
longer G c b (took v x) a h = (on_to G c b a h.0, h.1, h.2)
longer G c b (stuck []) a h = (on_to G c b a h.0, h.1)
longer {V} G c b (stuck (d ∷ y)) a h = (suc h.0, (let e = h.1 in omega arith), up_to, h.3)
  where
    up_to : (k : ℕ) → k ≤ suc h.0 → Continues G (take k (c ∷ b))
    up_to zero l = a
    up_to (suc k) l = h.2 k (omega arith)

stops_here : {V : Type 0} (G : List ℕ → V → Type 0) (c : ℕ) (b : List ℕ) → Continues G [] → Never c G → Stands G (c ∷ b) (stuck (c ∷ b))
stops_here {V} G c b a d = (0, omega arith, up_to, d)
  where
    up_to : (k : ℕ) → k ≤ 0 → Continues G (take k (c ∷ b))
    up_to zero l = a
    up_to (suc k) l = absurd (omega arith)

pub stands : {V : Type 0} (G : List ℕ → V → Type 0) (b : List ℕ) (o : Read V) → Told G b o → Stands G b o
stands G [] o h = at_end G o h.0 h.1
stands G (c ∷ b) o h = elim h.1 [
  | inl d ↦ subst (Stands G (c ∷ b)) (sym d.1) (stops_here G c b h.0 d.0)
  | inr t ↦ longer G c b o h.0 (stands (Behind c G) b o t)
]

-- ---- exact

right : {V : Type 0} (G : List ℕ → V → Type 0) (b : List ℕ) (o : Read V) → Stands G b o → Answers G b (outcome b o)
right G b (took v x) h = h.1
right G b (stuck []) h = record { none = h.1; before = whole (h.0 (length b)) }
  where
    whole : Continues G (take (length b) b) → Continues G b
    whole a = subst (Continues G) (take_all (length b) b (omega arith)) a
right G b (stuck (c ∷ y)) h =
    let j = h.0 in
    let e = h.1 in
    let same : length b - suc (length y) ≡ j = omega arith in
    rw same (record {
      within = omega arith;
      before = h.2 j (omega arith);
      after = λ a. (let next : j + 1 ≡ suc j = omega arith in h.3 a.0 a.1 (subst (λ (k : ℕ). G (take k b ++ a.0) a.1) next a.3));
    })

-- no text goes on so, thus none that is longer does
dead_later : {V : Type 0} (G : List ℕ → V → Type 0) (b : List ℕ) (j k : ℕ) → ((x : List ℕ) (w : V) → G (take (suc j) b ++ x) w → ⊥) → j < k → Continues G (take k b) → ⊥
dead_later G b j k d l a =
    let short : take (suc j) (take k b) ≡ take (suc j) b = take-take (suc j) k b (omega arith) in
    d (drop (suc j) (take k b) ++ a.0) a.1
    (subst (λ (x : List ℕ). G x a.1)
    (ap (λ (x : List ℕ). x ++ a.0) (sym (split_at (suc j) (take k b))) ∙ append_assoc (take (suc j) (take k b)) (drop (suc j) (take k b)) a.0
    ∙ ap (λ (x : List ℕ). x ++ (drop (suc j) (take k b) ++ a.0)) short)
    a.3)

one : {V : Type 0} (G : List ℕ → V → Type 0) (b : List ℕ) (o : Read V) → Stands G b o → (p : Outcome V) → Answers G b p → outcome b o ≡ p
one G b (took v x) h (read w) g = ap read (sym (h.2 w g))
one G b (took v x) h (unexpected k) u = absurd (u.after (h.0 (k + 1)))
one G b (took v x) h truncated t = absurd (t.none v h.1)
one G b (stuck []) h (read w) g = absurd (h.1 w g)
one G b (stuck []) h (unexpected k) u = absurd (u.after (h.0 (k + 1)))
one G b (stuck []) h truncated t = refl
one G b (stuck (c ∷ y)) h (read w) g = absurd (h.3 (drop (suc h.0) b) w (subst (λ (x : List ℕ). G x w) (sym (split_at (suc h.0) b)) g))
one G b (stuck (c ∷ y)) h (unexpected k) u =
    let e = h.1 in
    let late : h.0 < k → ⊥ = λ l. dead_later G b h.0 k h.3 l u.before in
    let early : k < h.0 → ⊥ = λ l. u.after (h.2 (k + 1) (omega arith)) in
    ap unexpected (omega arith)
one G b (stuck (c ∷ y)) h truncated t = absurd (dead_later G b h.0 (length b) h.3 (let e = h.1 in omega arith) (subst (Continues G) (sym (take_all (length b) b (omega arith))) t.before))

-- A reader that is right byte by byte is exact.
pub told_exact : {V : Type 0} (G : List ℕ → V → Type 0) (b : List ℕ) (o : Read V) → Told G b o → IsExact G b (outcome b o)
told_exact {V} G b o t = record {
  reads = λ v. (λ e. subst (Answers G b) e (right G b o s), λ g. one G b o s (read v) g);
  refuses = λ k. (λ e. subst (Answers G b) e (right G b o s), λ u. one G b o s (unexpected k) u);
  ends_early = (λ e. subst (Answers G b) e (right G b o s), λ u. one G b o s truncated u);
}
  where
    s : Stands G b o
    s = stands G b o t
