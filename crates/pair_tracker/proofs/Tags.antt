-- In which order an element visits the few cells of a fault.
use Rattle.std.proofs.Common.{◌≡◌, ◌≢◌, ◌+◌, ◌<◌, ◌≤◌, ℕ, zero, suc, true, false, cond, eqb, nat_lt, Option, Some, None, List, [], ◌∷◌, ◌++◌, map, reverse, refl, ap, sym, subst, append-nil, ◌∙◌, ⊎_elim, arith}
use Rattle.std.proofs.Math.Nat.{eq-or-lt_of_le}
use Rattle.std.proofs.lemmas.List.{reverse-append, map-append}
use Rattle.std.proofs.lemmas.Bool.{eq-eqb, ne_eqb, lt-ltb, le-ltb, cases_eq, cases_lt}
use Rattle.std.specs.List.{range_with_len}
use Rattle.std.specs.Option.{option_and_then}
use Rattle.march_core.specs.declared.operation.Op.{Op}
use Rattle.march_core.specs.Visits.{Direction, Upward, Downward, addresses}
use Rattle.cell_machine.specs.declared.pair.Side.{Side}
use Rattle.cell_machine.specs.declared.pair.Side.TheVariants.{A, V}
use Rattle.cell_machine.specs.Seen.{place_of}
use Rattle.pair_tracker.specs.Few.{Machine, ops_run, passed, cells_run}
use Rattle.pair_tracker.specs.Pairs.{sides_in}

-- the few cells among others
abbrev pub kept : {I : Type 0} → List (Option I) → List (Option I)
kept [] = []
kept (None ∷ ts) = kept ts
kept (Some i ∷ ts) = Some i ∷ kept ts

-- where an act on another cell leaves the few, others make no difference
pub kept_does : {Q I : Type 0} (m : Machine Q I) → ((q : Q) → m.other q ≡ q) → (q : Q) (ts : List (Option I)) (ops : List Op) → cells_run m q ts ops ≡ cells_run m q (kept ts) ops
kept_does m stays q [] ops = refl
kept_does m stays q (None ∷ ts) ops = ap (λ r. cells_run m r ts ops) (still ops) ∙ kept_does m stays q ts ops
  where
    still : (ops : List Op) → passed m ops q ≡ q
    still [] = refl
    still (op ∷ ops) = stays q
kept_does {Q} m stays q (Some i ∷ ts) ops = go (λ r. kept_does m stays r ts ops) (ops_run m q i ops)
  where
    go : ((r : Q) → cells_run m r ts ops ≡ cells_run m r (kept ts) ops) → (o : Option Q)
        → option_and_then (λ r. cells_run m r ts ops) o ≡ option_and_then (λ r. cells_run m r (kept ts) ops) o
    go same None = refl
    go same (Some r) = same r

kept-append : {I : Type 0} (xs ys : List (Option I)) → kept (xs ++ ys) ≡ kept xs ++ kept ys
kept-append [] ys = refl
kept-append (None ∷ xs) ys = kept-append xs ys
kept-append (Some i ∷ xs) ys = ap (λ l. Some i ∷ l) (kept-append xs ys)

kept-reverse : {I : Type 0} (xs : List (Option I)) → kept (reverse xs) ≡ reverse (kept xs)
kept-reverse [] = refl
kept-reverse (None ∷ xs) =
    ap kept (reverse-append (None ∷ []) xs) ∙ kept-append (reverse xs) (None ∷ []) ∙ append-nil (kept (reverse xs)) ∙ kept-reverse xs
kept-reverse (Some i ∷ xs) =
    ap kept (reverse-append (Some i ∷ []) xs) ∙ kept-append (reverse xs) (Some i ∷ []) ∙ ap (λ l. l ++ Some i ∷ []) (kept-reverse xs) ∙ sym (reverse-append (Some i ∷ []) (kept xs))

pub map-reverse : {X Y : Type 0} (f : X → Y) (xs : List X) → map f (reverse xs) ≡ reverse (map f xs)
map-reverse f [] = refl
map-reverse f (x ∷ xs) =
    ap (map f) (reverse-append (x ∷ []) xs) ∙ map-append f (reverse xs) (x ∷ []) ∙ ap (λ l. l ++ f x ∷ []) (map-reverse f xs) ∙ sym (reverse-append (f x ∷ []) (map f xs))

-- one of the few, at its address
pub record Own (I : Type 0) : Type 0 where
  pub place : ℕ
  pub name : I

-- these stand from an address to an end, in the order of their addresses, and all others are none of them
abbrev pub Stand : {I : Type 0} → (ℕ → Option I) → ℕ → ℕ → List (Own I) → Type 0
Stand tag k end [] = (x : ℕ) → k ≤ x → x < end → tag x ≡ None
Stand tag k end (o ∷ os) = (k ≤ o.place) × (o.place < end) × ((x : ℕ) → k ≤ x → x < o.place → tag x ≡ None) × (tag o.place ≡ Some o.name) × Stand tag (o.place + 1) end os

abbrev pub names_of : {I : Type 0} → List (Own I) → List (Option I)
names_of [] = []
names_of (o ∷ os) = Some o.name ∷ names_of os

kept_range : {I : Type 0} (tag : ℕ → Option I) (os : List (Own I)) (k m end : ℕ) → end ≡ k + m → Stand tag k end os → kept (map tag (range_with_len k m)) ≡ names_of os
kept_range tag [] k zero end e stand = refl
kept_range tag (o ∷ os) k zero end e stand = absurd (let low : k ≤ o.place = stand.0 in let high : o.place < end = stand.1 in omega arith)
kept_range tag [] k (suc m) end e stand =
    ap (λ t. kept (t ∷ map tag (range_with_len (k + 1) m))) (stand k (omega arith) (omega arith))
    ∙ kept_range tag [] (k + 1) m end (omega arith) (λ x low high. stand x (omega arith) high)
kept_range tag (o ∷ os) k (suc m) end e stand =
    ⊎_elim
    (λ (here : k ≡ o.place).
    ap (λ t. kept (t ∷ map tag (range_with_len (k + 1) m))) (ap tag here ∙ stand.3)
    ∙ ap (λ l. Some o.name ∷ l) (kept_range tag os (k + 1) m end (omega arith) (subst (λ p. Stand tag (p + 1) end os) (sym here) stand.4)))
    (λ (further : k < o.place).
    ap (λ t. kept (t ∷ map tag (range_with_len (k + 1) m))) (stand.2 k (omega arith) further)
    ∙ kept_range tag (o ∷ os) (k + 1) m end (omega arith) (omega arith, stand.1, λ x low high. stand.2 x (omega arith) high, stand.3, stand.4))
    (eq-or-lt_of_le stand.0)

abbrev pub turned : {X : Type 0} → Direction → List X → List X
turned Upward xs = xs
turned Downward xs = reverse xs

pub addresses_kept : {I : Type 0} (tag : ℕ → Option I) (os : List (Own I)) (n : ℕ) → Stand tag 0 n os → (d : Direction) → kept (map tag (addresses d n)) ≡ turned d (names_of os)
unfolding addresses
addresses_kept tag os n stand Upward = kept_range tag os 0 n n (omega arith) stand
addresses_kept tag os n stand Downward =
    ap kept (map-reverse tag (range_with_len 0 n)) ∙ kept-reverse (map tag (range_with_len 0 n)) ∙ ap reverse (kept_range tag os 0 n n (omega arith) stand)

-- ---- two cells

-- which of the two an address is
abbrev pub side_at : ℕ → ℕ → ℕ → Option Side
side_at a v x = cond (eqb x a) (Some A) (cond (eqb x v) (Some V) None)

pub side_at-aggressor : (a v : ℕ) → side_at a v a ≡ Some A
side_at-aggressor a v = ap (λ b. cond b (Some A) (cond (eqb a v) (Some V) None)) (eq-eqb a a refl)

pub side_at-victim : (a v : ℕ) → a ≢ v → side_at a v v ≡ Some V
side_at-victim a v ne =
    ap (λ b. cond b (Some A) (cond (eqb v v) (Some V) None)) (ne_eqb v a (λ e. ne (sym e))) ∙ ap (λ b. cond b (Some V) None) (eq-eqb v v refl)

pub side_at-elsewhere : (a v x : ℕ) → x ≢ a → x ≢ v → side_at a v x ≡ None
side_at-elsewhere a v x xa xv =
    ap (λ b. cond b (Some A) (cond (eqb x v) (Some V) None)) (ne_eqb x a xa) ∙ ap (λ b. cond b (Some V) None) (ne_eqb x v xv)

pub side_is : (a v x : ℕ) (s : Side) → side_at a v x ≡ Some s → x ≡ place_of a v s
side_is a v x s e =
    ⊎_elim
    (λ (h : x ≡ a). named A (sym (ap (side_at a v) h ∙ side_at-aggressor a v) ∙ e) h)
    (λ (h : x ≢ a).
    ⊎_elim
    (λ (g : x ≡ v). named V (sym (ap (side_at a v) g ∙ side_at-victim a v (λ f. h (g ∙ sym f))) ∙ e) g)
    (λ (g : x ≢ v). absurd (let none : ◌≡◌ {A = Option Side} None (Some s) = sym (side_at-elsewhere a v x h g) ∙ e in cc))
    (cases_eq x v))
    (cases_eq x a)
  where
    named : (t : Side) → ◌≡◌ {A = Option Side} (Some t) (Some s) → x ≡ place_of a v t → x ≡ place_of a v s
    named t f is = let same : t ≡ s = cc in subst (λ u. x ≡ place_of a v u) same is

pub no_side : (a v x : ℕ) → side_at a v x ≡ None → (x ≢ a) × (x ≢ v)
no_side a v x e = (not_a, λ h. let some : ◌≡◌ {A = Option Side} None (Some V) = sym e ∙ ap (side_at a v) h ∙ side_at-victim a v (λ f. not_a (h ∙ sym f)) in cc)
  where
    not_a : x ≢ a
    not_a h = let some : ◌≡◌ {A = Option Side} None (Some A) = sym e ∙ ap (side_at a v) h ∙ side_at-aggressor a v in cc

abbrev two_own : Side → Side → ℕ → ℕ → List (Own Side)
two_own s t low high = (record { place = low; name = s }) ∷ (record { place = high; name = t }) ∷ []

two_stand : (a v n : ℕ) (s t : Side) (low high : ℕ) → low < high → high < n → side_at a v low ≡ Some s → side_at a v high ≡ Some t
    → ((x : ℕ) → x ≢ low → x ≢ high → side_at a v x ≡ None)
    → Stand (side_at a v) 0 n (two_own s t low high)
two_stand a v n s t low high lt within first second others = (
  omega arith,
  omega arith,
  λ x from below. others x (omega arith) (omega arith),
  first,
  (omega arith, within, λ x from below. others x (omega arith) (omega arith), second, λ x from below. others x (omega arith) (omega arith)),
)

pub pair_ordered : (a v n : ℕ) → a ≢ v → a < n → v < n → (d : Direction) → kept (map (side_at a v) (addresses d n)) ≡ sides_in (nat_lt a v) d
pair_ordered a v n ne an vn d =
    ⊎_elim
    (λ (lt : a < v).
    addresses_kept (side_at a v) (two_own A V a v) n (two_stand a v n A V a v lt vn (side_at-aggressor a v) (side_at-victim a v ne) (λ x xa xv. side_at-elsewhere a v x xa xv)) d
    ∙ below d ∙ ap (λ b. sides_in b d) (sym (lt-ltb a v lt)))
    (λ (ge : v ≤ a).
    addresses_kept (side_at a v) (two_own V A v a) n (two_stand a v n V A v a (omega arith) an (side_at-victim a v ne) (side_at-aggressor a v) (λ x xv xa. side_at-elsewhere a v x xa xv)) d
    ∙ above d ∙ ap (λ b. sides_in b d) (sym (le-ltb a v ge)))
    (cases_lt a v)
  where
    below : (d : Direction) → turned d (Some A ∷ Some V ∷ []) ≡ sides_in true d
    below Upward = refl
    below Downward = refl

    above : (d : Direction) → turned d (Some V ∷ Some A ∷ []) ≡ sides_in false d
    above Upward = refl
    above Downward = refl

-- the victim alone
pub victim_ordered : (a v n : ℕ) → n ≤ a → v < n → (d : Direction) → kept (map (side_at a v) (addresses d n)) ≡ Some V ∷ []
victim_ordered a v n past vn d =
    addresses_kept (side_at a v) ((record { place = v; name = V }) ∷ []) n
    (omega arith, vn, λ x low high. side_at-elsewhere a v x (omega arith) (omega arith), side_at-victim a v (omega arith), λ x low high. side_at-elsewhere a v x (omega arith) (omega arith)) d
    ∙ either d
  where
    either : (d : Direction) → turned d (Some V ∷ []) ≡ Some V ∷ []
    either Upward = refl
    either Downward = refl
