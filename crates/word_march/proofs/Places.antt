-- Places within a march.
use Rattle.std.proofs.Common.{◌≡◌, ℕ, zero, suc, ◌<◌, ◌≤◌, true, false, IsTrue, List, [], ◌∷◌, length, Option, Some, None, IfSome, IfNone, subst, sym, ap, arith, inl, inr, zero-le}
use Rattle.std.specs.Option.{unwrap_or}
use Rattle.std.specs.List.{AllByRecursion}
use Rattle.march_core.specs.March.{MarchElement, pause, sweep, has_sweep, is_pause_at, IsElement, IsMarch, ops_at}
use Rattle.memory_desc.specs.Descriptions.{Description}
use Rattle.word_march.specs.declared.place.MarchPlace.{MarchPlace}
use Rattle.word_march.specs.Standing.{IsPlace}
use Rattle.word_march.specs.inner.Standing.{ArePauses, IsNextSweep, first_of, IsFirst}

filled : (march : List MarchElement) (e : ℕ) → AllByRecursion IsElement march → e < length march → is_pause_at march e ≡ false → 0 < length (ops_at march e)
filled [] e all h s = absurd (omega arith)
filled (pause ∷ march) zero all h s = cc
filled (sweep order ops ∷ march) zero all h s = elim all.0 [ inl p ↦ cc | inr r ↦ r.0 ]
filled (x ∷ march) (suc e) all h s = filled march e all.1 (omega arith) s

-- an element that isn't a pause has an operation
pub element_filled : (march : List MarchElement) (e : ℕ) → IsMarch march → e < length march → is_pause_at march e ≡ false → 0 < length (ops_at march e)
element_filled march e m h s = filled march e m.each h s

place_of : (march : List MarchElement) (d : Description) (b n : ℕ) → IsMarch march → b ≤ length d.backgrounds → 0 < d.words → IsNextSweep march 0 n → IsPlace march d (first_of b n)
place_of march d b n m h w next = record { background = h; element = next.within; step = w; op = element_filled march n m next.within next.sweeps }

pub first_place : (march : List MarchElement) (d : Description) (b : ℕ) (p : MarchPlace) → IsMarch march → b ≤ length d.backgrounds → 0 < d.words → IsFirst march b p → IsPlace march d p
first_place march d b p m h w first = subst (λ (q : MarchPlace). IsPlace march d q) (sym first.2) (place_of march d b first.0 m h w first.1)

-- a march isn't pauses alone
all_pauses : (march : List MarchElement) → IsTrue (has_sweep march) → ((k : ℕ) → k < length march → is_pause_at march k ≡ true) → ⊥
all_pauses [] h p = cc
all_pauses (pause ∷ march) h p = all_pauses march h (λ k l. p (suc k) (omega arith))
all_pauses (sweep order ops ∷ march) h p = let e : false ≡ true = p 0 (omega arith) in cc

pub not_pauses : (march : List MarchElement) (P : Type 0) → IsMarch march → ArePauses march 0 (length march) → P
not_pauses march P m p = absurd (all_pauses march m.some (λ k l. p k zero-le l))

-- where a run begins
pub run_begins : (march : List MarchElement) (b r : ℕ) (o : Option ℕ) → IsMarch march → IfSome o (IsNextSweep march 0) → IfNone o (ArePauses march 0 (length march))
    → r ≡ unwrap_or o 0 → IsFirst march b (first_of b r)
run_begins march b r None m some none e = not_pauses march _ m none
run_begins march b r (Some n) m some none e = (n, some, ap (first_of b) e)

-- a place in the next element
pub next_place : (march : List MarchElement) (d : Description) (from n : ℕ) (p : MarchPlace) → IsMarch march → p.background < length d.backgrounds → 0 < d.words
    → IsNextSweep march from n → IsPlace march d (record p { element = n; step = 0; op = 0 })
next_place march d from n p m h w next =
    record { background = omega arith; element = next.within; step = w; op = element_filled march n m next.within next.sweeps }
