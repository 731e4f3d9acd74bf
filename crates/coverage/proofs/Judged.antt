-- Escapes of two cells decide detection.
use Rattle.std.proofs.Common.{◌≡◌, ◌≤◌, ℕ, Option, Some, None, List, [], ◌∷◌, ◌++◌, length, refl, sym, subst, ◌∙◌, arith}
use Rattle.fault_core.specs.declared.cells.Places.{Places}
use Rattle.fault_core.specs.Primitive.{Primitive, IsPrimitive}
use Rattle.fault_core.specs.Cells.{FitsPlace}
use Rattle.march_core.specs.March.{MarchElement, IsMarch}
use Rattle.march_core.specs.Visits.{directions_of}
use Rattle.array_sim.specs.Detection.{IsCaught, DetectsAt, Detects}
use Rattle.cell_machine.specs.declared.pair.Pair.{Pair}
use Rattle.pair_tracker.specs.Placements.{places_in}
use Rattle.pair_tracker.specs.Ways.{ways_word}
use Rattle.pair_tracker.proofs.Wording.{fitting_word}
use Rattle.escape_array.specs.declared.escape.EscapeArray.{EscapeArray}
use Rattle.escape_array.specs.Escapes.{IsEscape, IsLeastEscape, places_of_escape}
use Rattle.escape_array.proofs.Replaying.{array_fits}
use Rattle.coverage.specs.declared.verdict.Verdict.{Verdict}
use Rattle.coverage.specs.declared.verdict.Verdict.TheVariants.{Escape}
use Rattle.coverage.specs.Verdicts.{IsVerdict, AreVerdicts}
use Rattle.coverage.proofs.EverySize.{own_run, passes_where, caught_where, same_run, SameView, TwoCells, to_two, two_cells_detect, one_size_detects}

-- where no array of two cells passes, two cells detect
pub no_escape_detects : (p : Primitive) (march : List MarchElement) → IsPrimitive p → IsMarch march
    → ((e : EscapeArray) → e.prim ≡ p → IsEscape march e → ⊥) → DetectsAt 2 march p
no_escape_detects p march is is_march none ds at content allowed fits size = go (own_run p at march ds content) refl
  where
    t : TwoCells p at (length content) content
    t = to_two p at (length content) content (subst (FitsPlace p at) (sym size) fits) refl

    to : Places
    to = places_in t.placement

    go : (r : Option Pair) → own_run p at march ds content ≡ r → IsCaught march ds p at content
    go None e = caught_where p is march is_march ds at content (subst (FitsPlace p at) (sym size) fits) e
    go (Some q) e =
        let w = fitting_word march ds is_march.elements_within allowed in
        let view : SameView at (length content) content to (length t.moved) t.moved = subst (λ k. SameView at (length content) content to k t.moved) (sym t.size) t.view in
        let passes = passes_where p is march is_march ds to t.moved (subst (FitsPlace p to) (sym t.size) t.fits_place) q (sym (same_run p march ds at content to t.moved view) ∙ e) in
        absurd (none (record { prim = p; agg = to.agg; vic = to.vic; content = t.moved; directions = ways_word 0 ds }) refl (record {
          array = record { placement = t.placement; fits = t.fits; places = refl; two_cells = t.size; is_word = w.is_word; directions = w.fits };
          passes = subst (λ l. IsCaught march l p to t.moved → ⊥) (sym w.stands) passes;
        }))

-- an array that passes is not detected
pub escape_undetected : (march : List MarchElement) (e : EscapeArray) → IsEscape march e → DetectsAt 2 march e.prim → ⊥
escape_undetected march e escape detects =
    let a = escape.array in
    escape.passes
    (detects (directions_of e.directions (length march)) (places_of_escape e) e.content a.directions.allowed (array_fits march e a) a.two_cells)

-- the verdict from the search
pub none_covered : (p : Primitive) (march : List MarchElement) → IsPrimitive p → IsMarch march
    → ((e : EscapeArray) → e.prim ≡ p → IsEscape march e → ⊥) → Detects march p
none_covered p march is is_march none = two_cells_detect p march is is_march (no_escape_detects p march is is_march none)

pub escape_never : (p : Primitive) (march : List MarchElement) (e : EscapeArray) → IsPrimitive p → IsMarch march → e.prim ≡ p → IsEscape march e
    → (size : ℕ) → 2 ≤ size → DetectsAt size march p → ⊥
escape_never p march e is is_march same escape size more detects =
    escape_undetected march e escape (subst (DetectsAt 2 march) (sym same) (one_size_detects p march is is_march size more detects))

pub escape_verdict : (p : Primitive) (march : List MarchElement) (e : EscapeArray) → IsPrimitive p → IsMarch march → e.prim ≡ p → IsLeastEscape march e
    → IsVerdict march p (Escape e)
escape_verdict p march e is is_march same least =
    (same, least, λ detects. escape_never p march e is is_march same least.escape 2 (omega arith) (detects 2 (omega arith)))

-- one more verdict
pub one_more : (march : List MarchElement) (ps : List Primitive) (vs : List Verdict) (p : Primitive) (v : Verdict)
    → AreVerdicts march ps vs → IsVerdict march p v → AreVerdicts march (ps ++ p ∷ []) (vs ++ v ∷ [])
one_more march [] [] p v h k = (k, tt)
one_more march [] (w ∷ ws) p v h k = absurd h
one_more march (q ∷ qs) [] p v h k = absurd h
one_more march (q ∷ qs) (w ∷ ws) p v h k = (h.0, one_more march qs ws p v h.1 k)
