-- Items to the end of a line are taken as the grammar says.
use Rattle.bist_text.proofs.keyed.Common.{apart, if◌then◌else◌, subst, Bool, List, None, Option, Read, [], arith, at_bool, by_byte, by_item, comment, false, inl, inr, is_blank, items_from, items_of, length, onward, refl, remark_of, space, spaced, suc, sym, tail, took, true, when_false, zero, ℕ, ◌==◌, ◌↔◌, ◌∷◌, ◌≡◌}
use Rattle.bist_text.proofs.Carried.{Said, either, many_carries, onto, said_on}
use Rattle.bist_text.proofs.keyed.Items.{IsNext, items_made, no_item}
use Rattle.bist_text.proofs.keyed.PartLaws.{Either, Ends, Hears, Remark, Space, either_told, remark_told, space_told}
use Rattle.bist_text.proofs.keyed.Taken.{Takes}
use Rattle.bist_text.proofs.keyed.Told.{Told, told_iff}

-- ---- an item or the end, behind blanks

-- what is made of the next item, where it begins with a byte of p
pub by_first : {A V : Type 0} (p : ℕ → Bool) (m : List ℕ → Read (Option A)) (r : List ℕ → Read V) (v : V) (k : A → List ℕ → Read V) (b : List ℕ)
    → ((y : List ℕ) → onward (m y) (λ o x. by_item o (took v x) (λ a. k a x)) ≡ r y)
    → onward (by_byte p m (remark_of None) (took None []) b) (λ o x. by_item o (took v x) (λ a. k a x)) ≡ by_byte p r (remark_of v) (took v []) b
by_first p m r v k [] h = refl
by_first {A} {V} p m r v k (c ∷ b) h =
    at_bool (λ t. onward (if t then m (c ∷ b) else remark_of None (c ∷ b)) (λ o x. by_item o (took v x) (λ a. k a x)) ≡ (if t then r (c ∷ b) else remark_of v (c ∷ b))) (p c)
    (λ e. h (c ∷ b)) (λ e. no_item v k (c ∷ b))

-- items begin with a byte of p
pub record Begins {A : Type 0} (p : ℕ → Bool) (T : A → List ℕ → Type 0) : Type 0 where
  pub only : (a : A) (c : ℕ) (b : List ℕ) → p c ≡ false → T a (c ∷ b) → ⊥
  pub some : (a : A) → T a [] → ⊥
  pub hash_no : p 35 ≡ false

pub choice_told : {A V : Type 0} {n : ℕ} {p : ℕ → Bool} {f : A → V} {T : A → List ℕ → Type 0} {r : List ℕ → Read V} (v : V) → Begins p T → Takes n is_blank f T r
    → Hears n (Either (Said f (λ a. space (T a))) (Ends v)) (λ b. by_byte p r (remark_of v) (took v []) (spaced b))
choice_told {A} {V} {n} {p} {f} {T} {r} v s t b l =
    told_iff (Space Both) (Either (Said f (λ a. space (T a))) (Ends v)) b (by_byte p r (remark_of v) (took v []) (spaced b)) (λ x w. (from x w, to x w))
    (space_told n Both (by_byte p r (remark_of v) (took v [])) (λ c x w e h. elim h [ inl a ↦ t.shuns a.0 c x e a.2 | inr a ↦ when_false (c == 35) (Unit {0}) (apart is_blank c 35 e refl) a.1 ])
    (either_told n p (Said f T) (Remark v) r (remark_of v) (took v []) (λ c e x w h. s.only h.0 c x e h.2) (λ c e x w h. when_false (c == 35) (Unit {0}) (apart p c 35 e s.hash_no) h.1)
    (inr (refl, tt), λ w h. elim h [ inl a ↦ absurd (s.some a.0 a.2) | inr a ↦ a.0 ]) t.told (remark_told n v)) b l)
  where
    Both : List ℕ → V → Type 0
    Both = Either (Said f T) (Remark v)

    from : (x : List ℕ) (w : V) → Space Both x w → Either (Said f (λ a. space (T a))) (Ends v) x w
    from x w h = elim (either (many_carries is_blank) (λ y. Said f T y w) (λ y. Remark v y w) x h) [
      | inl a ↦ inl ((said_on (many_carries is_blank) f T x w).0 a)
      | inr a ↦ inr ((many_carries is_blank).draw (w ≡ v) (λ y. Remark v y w) (λ _. comment) (λ y k. k) x a)
    ]

    to : (x : List ℕ) (w : V) → Either (Said f (λ a. space (T a))) (Ends v) x w → Space Both x w
    to x w h = elim h [
      | inl a ↦ onto (many_carries is_blank) (T a.0) (λ y. Both y w) (λ y k. inl (a.0, a.1, k)) x a.2
      | inr a ↦ onto (many_carries is_blank) comment (λ y. Both y w) (λ y k. inr (a.0, k)) x a.1
    ]

-- ---- items

-- A reader of the next item or the end: where what is behind an item is taken, so is the item and what is behind it.
pub record IsItem {A : Type 0} (p : ℕ → Bool) (rest : List A → List ℕ → Type 0) (next : List ℕ → Read (Option A)) : Type 1 where
  pub ends : (b : List ℕ) → tail b ↔ rest [] b
  pub some : (a : A) (xs : List A) → rest (a ∷ xs) [] → ⊥
  pub shuns : (xs : List A) (c : ℕ) (b : List ℕ) → p c ≡ true → rest xs (c ∷ b) → ⊥
  pub step : {V : Type 0} (n : ℕ) (f : List A → V) (k : A → List ℕ → Read V) → ((a : A) → Takes n p (λ xs. f (a ∷ xs)) rest (k a))
      → Hears (suc n) (Either (Said (λ (q : A × List A). f (q.0 ∷ q.1)) (λ q. rest (q.0 ∷ q.1))) (Ends (f []))) (λ b. onward (next b) (λ o x. by_item o (took (f []) x) (λ a. k a x)))

module _ {A : Type 0} {p : ℕ → Bool} {rest : List A → List ℕ → Type 0} {next : List ℕ → Read (Option A)} (is_item : IsItem p rest next) where
  items_iff : {V : Type 0} (f : List A → V) (x : List ℕ) (v : V) → Either (Said (λ (q : A × List A). f (q.0 ∷ q.1)) (λ q. rest (q.0 ∷ q.1))) (Ends (f [])) x v ↔ Said f rest x v
  items_iff {V} f x v = (elim [ inl h ↦ (h.0.0 ∷ h.0.1, h.1, h.2) | inr h ↦ ([], h.0, (is_item.ends x).0 h.1) ], λ h. to h.0 h.1 h.2)
    where
      to : (xs : List A) → v ≡ f xs → rest xs x → Either (Said (λ (q : A × List A). f (q.0 ∷ q.1)) (λ q. rest (q.0 ∷ q.1))) (Ends (f [])) x v
      to [] e h = inr (e, (is_item.ends x).1 h)
      to (a ∷ xs) e h = inl ((a, xs), e, h)

  so_many_told : (n : ℕ) {V : Type 0} (f : List A → V) → Hears n (Said f rest) (items_from next n f)
  so_many_told zero {V} f [] l = (([], f [], refl, here), (here, λ w h. one w h.0 h.1 h.2))
    where
      here : Said f rest [] (f [])
      here = ([], refl, (is_item.ends []).0 tt)

      one : (w : V) (xs : List A) → w ≡ f xs → rest xs [] → w ≡ f []
      one w [] e h = e
      one w (a ∷ xs) e h = absurd (is_item.some a xs h)
  so_many_told zero f (c ∷ b) l = absurd (omega arith)
  so_many_told (suc n) f b l =
      told_iff (Either (Said (λ (q : A × List A). f (q.0 ∷ q.1)) (λ q. rest (q.0 ∷ q.1))) (Ends (f []))) (Said f rest) b (items_from next (suc n) f b) (items_iff f)
      (is_item.step n f (λ a. items_from next n (λ xs. f (a ∷ xs))) (λ a. record { told = so_many_told n (λ xs. f (a ∷ xs)); shuns = is_item.shuns }) b l)

  pub items_taken : {n : ℕ} {V : Type 0} (f : List A → V) → IsNext next → Takes n p f rest (λ b. onward (items_of next b) (λ xs x. took (f xs) x))
  items_taken f is_next = record { told = λ b l. subst (Told (Said f rest) b) (sym (items_made next is_next f b)) (so_many_told (length b) f b (omega arith)); shuns = is_item.shuns }
