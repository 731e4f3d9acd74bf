-- A place's slot, and then what is left of the place behind it.
use Rattle.std.proofs.Common.{◌≡◌, ℕ, zero, suc, ◌+◌, ◌-◌, ◌<◌, ◌==◌, inl, inr, Bool, true, false, if◌then◌else◌, List, [], ◌∷◌, length, refl, ◌∙◌, ap, arith}
use Rattle.std.proofs.lemmas.Bool.{eqb-true, eqb-false}
use Rattle.std.specs.List.{AllByRecursion}
use Rattle.march_core.specs.March.{MarchElement, pause, sweep, element_at, IsElement, IsMarch}
use Rattle.microcode.specs.declared.place.Extent.{Extent}
use Rattle.microcode.specs.Code.{opers_at}
use Rattle.microcode.specs.Rows.{rest_of}
use Rattle.microcode.specs.Places.{Place, Lasts, lasts_at, place_after, all_last, IsPlace, IsExtent, Turns, visits_of, visits_at, slot_of, visit_slots, element_slots, run_slots, visit_rest, element_rest, run_rest, rest, first_place}
use Rattle.microcode.specs.inner.Places.{all_slots}
use Rattle.microcode.proofs.Rows.{goes_on, carries, ends, starts}

-- each element has a visit, and each visit an operation
pub opers_some : (march : List MarchElement) (e : ℕ) → AllByRecursion IsElement march → 0 < opers_at march e
opers_some [] e all = omega arith
opers_some (pause ∷ march) zero all = omega arith
opers_some (sweep order ops ∷ march) zero all = of_sweep all.0
  where
    of_sweep : IsElement (sweep order ops) → 0 < length ops
    of_sweep (inl h) = cc
    of_sweep (inr h) = h.0
opers_some (x ∷ march) (suc e) all = opers_some march e all.1

pub visits_some : (march : List MarchElement) (g : Extent) (e : ℕ) → IsExtent g → 0 < visits_at march g e
visits_some march g e m = by_element (element_at march e)
  where
    by_element : (x : MarchElement) → 0 < visits_of g x
    by_element pause = m.pause
    by_element (sweep order ops) = m.words

-- what a test of a digit tells
abbrev Tells : Bool → ℕ → ℕ → Type 0
Tells true x n = x + 1 ≡ n
Tells false x n = x + 1 < n

tells : (x n : ℕ) → x < n → Tells (x == n - 1) x n
tells x n h = by_test (x == n - 1) refl
  where
    by_test : (b : Bool) → (x == n - 1) ≡ b → Tells b x n
    by_test true e = let same = eqb-true x (n - 1) e in omega arith
    by_test false e = let other = eqb-false x (n - 1) e in omega arith

module _ {A : Type 0} (slot : Place → A) (march : List MarchElement) (g : Extent) (some_opers : (e : ℕ) → 0 < opers_at march e) (some_visits : (e : ℕ) → 0 < visits_at march g e) where
  -- ---- the first place of a visit, of an element, of a run

  visit_starts : (b e x : ℕ) → visit_slots slot march b e x ≡ visit_rest slot march b e x 0
  visit_starts b e x = starts (slot_of slot b e x) (opers_at march e) (slot_of slot b e x 0) (some_opers e) refl

  element_starts : (b e : ℕ) → element_slots slot march g b e ≡ element_rest slot march g b e 0 0
  element_starts b e = starts (visit_slots slot march b e) (visits_at march g e) (visit_rest slot march b e 0 0) (some_visits e) (visit_starts b e 0)

  run_starts : (b : ℕ) → 0 < length march → run_slots slot march g b ≡ run_rest slot march g b 0 0 0
  run_starts b h = starts (element_slots slot march g b) (length march) (element_rest slot march g b 0 0 0) h (element_starts b 0)

  pub all_starts : 0 < length march → 0 < g.runs → all_slots slot march g ≡ rest slot march g first_place
  all_starts h k = starts (run_slots slot march g) (g.runs) (run_rest slot march g 0 0 0 0) k (run_starts 0 h)

  -- ---- the four ways to go on, and the end

  abbrev Goal : Place → Lasts → Type 0
  Goal p l = IsPlace march g (place_after l p) × (rest slot march g p ≡ slot p ∷ (if all_last l then [] else rest slot march g (place_after l p)))

  by_lasts : (b e x o : ℕ) (lo lx le lb : Bool)
      → b < g.runs → e < length march → x < visits_at march g e → o < opers_at march e
      → Tells lo o (opers_at march e) → Tells lx x (visits_at march g e) → Tells le e (length march) → Tells lb b (g.runs)
      → Goal (record { back = b; element = e; visit = x; oper = o }) (record { oper = lo; visit = lx; element = le; back = lb })
  by_lasts b e x o false lx le lb hb he hx ho to tx te tb =
      let s = slot (record { back = b; element = e; visit = x; oper = o }) in (
        record { back = hb; element = he; visit = hx; oper = to },
        goes_on (run_slots slot march g) (g.runs) b _ _ s
            (goes_on (element_slots slot march g b) (length march) e _ _ s
            (goes_on (visit_slots slot march b e) (visits_at march g e) x _ _ s
            (carries (slot_of slot b e x) (opers_at march e) o _ s refl to))),
      )
  by_lasts b e x o true false le lb hb he hx ho to tx te tb =
      let s = slot (record { back = b; element = e; visit = x; oper = o }) in (
        record { back = hb; element = he; visit = tx; oper = some_opers e },
        goes_on (run_slots slot march g) (g.runs) b _ _ s
            (goes_on (element_slots slot march g b) (length march) e _ _ s
            (carries (visit_slots slot march b e) (visits_at march g e) x _ s (ends (slot_of slot b e x) (opers_at march e) o _ s refl to) tx
            ∙ ap (λ l. s ∷ rest_of (visit_slots slot march b e) (visits_at march g e) (x + 1) l) (visit_starts b e (x + 1)))),
      )
  by_lasts b e x o true true false lb hb he hx ho to tx te tb =
      let s = slot (record { back = b; element = e; visit = x; oper = o }) in (
        record { back = hb; element = te; visit = some_visits (e + 1); oper = some_opers (e + 1) },
        goes_on (run_slots slot march g) (g.runs) b _ _ s
            (carries (element_slots slot march g b) (length march) e _ s
            (ends (visit_slots slot march b e) (visits_at march g e) x _ s (ends (slot_of slot b e x) (opers_at march e) o _ s refl to) tx) te
            ∙ ap (λ l. s ∷ rest_of (element_slots slot march g b) (length march) (e + 1) l) (element_starts b (e + 1))),
      )
  by_lasts b e x o true true true false hb he hx ho to tx te tb =
      let s = slot (record { back = b; element = e; visit = x; oper = o }) in
      let some : 0 < length march = omega arith in (
        record { back = tb; element = some; visit = some_visits 0; oper = some_opers 0 },
        carries (run_slots slot march g) (g.runs) b _ s
            (ends (element_slots slot march g b) (length march) e _ s
            (ends (visit_slots slot march b e) (visits_at march g e) x _ s (ends (slot_of slot b e x) (opers_at march e) o _ s refl to) tx) te) tb
            ∙ ap (λ l. s ∷ rest_of (run_slots slot march g) (g.runs) (b + 1) l) (run_starts (b + 1) some),
      )
  by_lasts b e x o true true true true hb he hx ho to tx te tb =
      let s = slot (record { back = b; element = e; visit = x; oper = o }) in
      let some : 0 < length march = omega arith in
      let set : 0 < g.runs = omega arith in (
        record { back = set; element = some; visit = some_visits 0; oper = some_opers 0 },
        ends (run_slots slot march g) (g.runs) b _ s
            (ends (element_slots slot march g b) (length march) e _ s
            (ends (visit_slots slot march b e) (visits_at march g e) x _ s (ends (slot_of slot b e x) (opers_at march e) o _ s refl to) tx) te) tb,
      )

pub turns : {A : Type 0} (slot : Place → A) (march : List MarchElement) (g : Extent) (p : Place) → IsMarch march → IsExtent g → IsPlace march g p → Turns slot march g p
turns slot march g p is_march is_extent h =
    let l = lasts_at march g p in
    let both = by_lasts slot march g (λ e. opers_some march e is_march.each) (λ e. visits_some march g e is_extent)
    p.back p.element p.visit p.oper l.oper l.visit l.element l.back h.back h.element h.visit h.oper
    (tells p.oper (opers_at march p.element) h.oper) (tells p.visit (visits_at march g p.element) h.visit)
    (tells p.element (length march) h.element) (tells p.back (g.runs) h.back) in
    record { place = both.0; left = both.1 }
