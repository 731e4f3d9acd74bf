-- A register more on the way to a memory, or back from it, is a cycle more of its latency.
use Rattle.std.proofs.Common.{◌≡◌, ◌+◌, ◌<◌, ◌≤◌, ℕ, zero, suc, List, [], ◌∷◌, ◌++◌, drop, length, Option, None, refl, sym, subst, arith, length-append}
use Rattle.macro_pins.specs.Asked.{Asked}
use Rattle.macro_pins.specs.Macros.{Values, PortMemory, own, Due, Stands, due_after, AreCycles}

abbrev pub IsSome : List (Option ℕ) → Type 0
IsSome [] = ⊥
IsSome (w ∷ ws) = Unit {0}

-- of each two cycles one behind the other
abbrev pub Follows : (Values → Values → Type 0) → List Values → Type 0
Follows R [] = Unit {0}
Follows R (e ∷ []) = Unit {0}
Follows R (e ∷ f ∷ es) = R e f × Follows R (f ∷ es)

stands_left : (q x : List (Option ℕ)) (v : ℕ) → IsSome q → Stands q v → Stands (q ++ x) v
stands_left [] x v some h = absurd some
stands_left (w ∷ q) x v some h = h

drop_left : (q x : List (Option ℕ)) → IsSome q → drop 1 (q ++ x) ≡ drop 1 q ++ x
drop_left [] x some = absurd some
drop_left (w ∷ q) x some = refl

pub some_behind : (q : List (Option ℕ)) (w : Option ℕ) → IsSome (q ++ w ∷ [])
some_behind [] w = tt
some_behind (x ∷ q) w = tt

module _ {S : Type 0} (m : PortMemory S) where
  -- on the way there
  pub stage_in : (c d : Values → Asked) (r : Values → ℕ) (s : S) (q : List (Option ℕ)) (e : Values) (es : List Values) → IsSome q
      → Follows (λ x y. d y ≡ c x) (e ∷ es) → AreCycles m d r s q (e ∷ es) → AreCycles m c r (m.after s (d e)) (q ++ own m s (d e) ∷ []) (e ∷ es)
  stage_in c d r s q e [] some follows h = (stands_left q (own m s (d e) ∷ []) (r e) some h.0, tt)
  stage_in c d r s q e (f ∷ es) some follows h =
      let then_ : S = m.after s (d e) in
      let behind : List (Option ℕ) = due_after q (own m s (d e)) in
      let rest = stage_in c d r then_ behind f es (some_behind (drop 1 q) (own m s (d e))) follows.1 h.1 in
      let same : AreCycles m c r (m.after then_ (c e)) (behind ++ own m then_ (c e) ∷ []) (f ∷ es) =
      subst (λ (a : Asked). AreCycles m c r (m.after then_ a) (behind ++ own m then_ a ∷ []) (f ∷ es)) follows.0 rest in (
        stands_left q (own m s (d e) ∷ []) (r e) some h.0,
        subst (λ (l : List (Option ℕ)). AreCycles m c r (m.after then_ (c e)) (l ++ own m then_ (c e) ∷ []) (f ∷ es))
            (sym (drop_left q (own m s (d e) ∷ []) some)) same,
      )

  -- and on the way back
  pub stage_out : (c : Values → Asked) (r u : Values → ℕ) (s : S) (w : Option ℕ) (q : List (Option ℕ)) (e : Values) (es : List Values) → IsSome q
      → Follows (λ x y. u y ≡ r x) (e ∷ es) → Due w (u e) → AreCycles m c r s q (e ∷ es) → AreCycles m c u s (w ∷ q) (e ∷ es)
  stage_out c r u s w [] e es some follows due h = absurd some
  stage_out c r u s w (x ∷ q) e [] some follows due h = (due, tt)
  stage_out c r u s w (x ∷ q) e (f ∷ es) some follows due h =
      let next_due : Due x (u f) = subst (λ (v : ℕ). Due x v) (sym follows.0) h.0 in
      (due, stage_out c r u (m.after s (c e)) x (q ++ own m s (c e) ∷ []) f es (some_behind q (own m s (c e))) follows.1 next_due h.1)

  -- ---- several

  -- what is seen through i registers
  pub record Through (Good : S → Type 0) (c : Values → Asked) (r : Values → ℕ) (latency : ℕ) (es : List Values) : Type 0 where
    pub state : S
    pub due : List (Option ℕ)
    pub good : Good state
    pub under_way : length due ≡ latency
    pub some : IsSome due
    pub cycles : AreCycles m c r state due es

  pub stages_in : (Good : S → Type 0) (c : ℕ → Values → Asked) (r : Values → ℕ) (n latency i : ℕ) (e : Values) (es : List Values)
      → ((k : ℕ) (s : S) → k < n → Good s → Good (m.after s (c (suc k) e)))
      → ((k : ℕ) → k < n → Follows (λ x y. c (suc k) y ≡ c k x) (e ∷ es)) → i ≤ n → Through Good (c i) r latency (e ∷ es)
      → Through Good (c 0) r (i + latency) (e ∷ es)
  stages_in Good c r n latency zero e es keeps follows low h =
      let same : latency ≡ 0 + latency = omega arith in
      subst (λ (n : ℕ). Through Good (c 0) r n (e ∷ es)) same h
  stages_in Good c r n latency (suc i) e es keeps follows low h =
      let more = length-append h.due (own m h.state (c (suc i) e) ∷ []) in
      let size = h.under_way in
      let same : i + (latency + 1) ≡ suc i + latency = omega arith in
      subst (λ (n : ℕ). Through Good (c 0) r n (e ∷ es)) same
      (stages_in Good c r n (latency + 1) i e es keeps follows (omega arith) (record {
        state = m.after h.state (c (suc i) e);
        due = h.due ++ own m h.state (c (suc i) e) ∷ [];
        good = keeps i h.state (omega arith) h.good;
        under_way = omega arith;
        some = some_behind h.due (own m h.state (c (suc i) e));
        cycles = stage_in (c i) (c (suc i)) r h.state h.due e es h.some (follows i (omega arith)) h.cycles;
      }))

  pub stages_out : (Good : S → Type 0) (c : Values → Asked) (r : ℕ → Values → ℕ) (n latency i : ℕ) (e : Values) (es : List Values)
      → ((k : ℕ) → k < n → Follows (λ x y. r (suc k) y ≡ r k x) (e ∷ es)) → i ≤ n → Through Good c (r 0) latency (e ∷ es)
      → Through Good c (r i) (latency + i) (e ∷ es)
  stages_out Good c r n latency zero e es follows low h =
      let same : latency ≡ latency + 0 = omega arith in
      subst (λ (n : ℕ). Through Good c (r 0) n (e ∷ es)) same h
  stages_out Good c r n latency (suc i) e es follows low h =
      let before = stages_out Good c r n latency i e es follows (omega arith) h in
      let size = before.under_way in
      record {
        state = before.state;
        due = None ∷ before.due;
        good = before.good;
        under_way = omega arith;
        some = tt;
        cycles = stage_out c (r i) (r (suc i)) before.state None before.due e es before.some (follows i (omega arith)) tt before.cycles;
      }
