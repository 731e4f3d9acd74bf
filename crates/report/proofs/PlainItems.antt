-- Static primitives with their verdicts are judged items.
use Rattle.std.proofs.Common.{◌≡◌, ◌+◌, ◌<◌, ◌≤◌, ℕ, Option, List, [], ◌∷◌, ◌++◌, length, map, take, get_or, refl, ap, sym, subst, ◌∙◌, arith, Result, Ok, Err, Vec, Global}
use Rattle.std.specs.List.{AllByRecursion}
use Rattle.std.specs.Prelude.{IfOk}
use Rattle.std.proofs.lemmas.List.{take_more, take_all, length-take}
use Rattle.fault_core.specs.Primitive.{Primitive}
use Rattle.march_core.specs.March.{MarchElement}
use Rattle.memory_desc.specs.Descriptions.{Description}
use Rattle.coverage.specs.declared.verdict.Verdict.{Verdict}
use Rattle.coverage.specs.Verdicts.{AreVerdicts}
use Rattle.dynamic_core.specs.declared.item.Item.TheVariants.{Plain}
use Rattle.report.specs.declared.judged.JudgedItem.{JudgedItem}
use Rattle.report.specs.Items.{IsJudged, item_of, plain_items}
use Rattle.report.specs.Report.{report_text, IsMixedReport}
use Rattle.report.proofs.Counts.{report_is}

behind : (ps : List Primitive) (vs : List Verdict) (p : Primitive) (v : Verdict) → length ps ≡ length vs
    → plain_items (ps ++ p ∷ []) (vs ++ v ∷ []) ≡ plain_items ps vs ++ JudgedItem.Plain p v ∷ []
behind [] [] p v e = refl
behind [] (w ∷ ws) p v e = absurd (omega (arith, e))
behind (q ∷ qs) [] p v e = absurd (omega (arith, e))
behind (q ∷ qs) (w ∷ ws) p v e = ap (λ l. JudgedItem.Plain q w ∷ l) (behind qs ws p v (omega (arith, e)))

pub one_more : (ps : List Primitive) (vs : List Verdict) (i : ℕ) (p : Primitive) (v : Verdict) → length ps ≡ length vs → i < length ps
    → p ≡ get_or ps i p → v ≡ get_or vs i v
    → plain_items (take (i + 1) ps) (take (i + 1) vs) ≡ plain_items (take i ps) (take i vs) ++ JudgedItem.Plain p v ∷ []
one_more ps vs i p v same within is_p is_v =
    ap (λ l. plain_items l (take (i + 1) vs)) (take_more ps i p within ∙ ap (λ q. take i ps ++ q ∷ []) (sym is_p))
    ∙ ap (plain_items (take i ps ++ p ∷ [])) (take_more vs i v (omega (arith, same, within)) ∙ ap (λ w. take i vs ++ w ∷ []) (sym is_v))
    ∙ behind (take i ps) (take i vs) p v (omega (arith, length-take i ps, length-take i vs, same))

pub all_of : (ps : List Primitive) (vs : List Verdict) (i : ℕ) → length ps ≡ length vs → length ps ≤ i → plain_items (take i ps) (take i vs) ≡ plain_items ps vs
all_of ps vs i same h =
    ap (λ l. plain_items l (take i vs)) (take_all i ps h) ∙ ap (plain_items ps) (take_all i vs (subst (λ (n : ℕ). n ≤ i) same h))

right : (march : List MarchElement) (ps : List Primitive) (vs : List Verdict) → AreVerdicts march ps vs → AllByRecursion (IsJudged march) (plain_items ps vs)
right march [] [] h = tt
right march [] (v ∷ vs) h = absurd h
right march (p ∷ ps) [] h = absurd h
right march (p ∷ ps) (v ∷ vs) h = (h.0, right march ps vs h.1)

in_order : (march : List MarchElement) (ps : List Primitive) (vs : List Verdict) → AreVerdicts march ps vs → map item_of (plain_items ps vs) ≡ map Plain ps
in_order march [] [] h = refl
in_order march [] (v ∷ vs) h = absurd h
in_order march (p ∷ ps) [] h = absurd h
in_order march (p ∷ ps) (v ∷ vs) h = ap (λ l. Plain p ∷ l) (in_order march ps vs h.1)

-- what was written of them is their report
pub written_of_verdicts : {E : Type 0} (march : List MarchElement) (memory : Option Description) (ps : List Primitive) (vs : List Verdict)
    (result : Result (Vec ℕ Global) E) → IfOk result (λ text. text.items ≡ report_text march memory (plain_items ps vs))
    → IfOk result (λ text. AreVerdicts march ps vs → IsMixedReport text.items march memory (map Plain ps))
written_of_verdicts march memory ps vs (Ok text) is = λ verdicts.
    subst (λ bytes. IsMixedReport bytes march memory (map Plain ps)) (sym is)
    (subst (IsMixedReport (report_text march memory (plain_items ps vs)) march memory) (in_order march ps vs verdicts)
    (report_is march memory (plain_items ps vs) (right march ps vs verdicts)))
written_of_verdicts march memory ps vs (Err e) is = is
