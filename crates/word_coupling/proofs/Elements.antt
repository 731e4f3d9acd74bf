-- The run of a march, element by element.
use Rattle.std.proofs.Common.{◌≡◌, ◌+◌, ◌<◌, ℕ, Option, List, ◌∷◌, drop, length, ap, sym, ◌∙◌}
use Rattle.std.proofs.lemmas.List.{drop_more}
use Rattle.fault_core.specs.Primitive.{Primitive}
use Rattle.cell_machine.specs.declared.pair.Pair.{Pair}
use Rattle.march_core.specs.March.{MarchElement, pause, element_at}
use Rattle.array_sim.proofs.Runs.{element_at-get}
use Rattle.word_coupling.specs.declared.reading.Reading.{Reading}
use Rattle.word_coupling.specs.inner.Couples.{behind, run_element, run_march}

pub march_step : (r : Reading) (p : Primitive) (background : Pair) (march : List MarchElement) (i : ℕ) (pair : Pair) (next : Option Pair) → i < length march
    → next ≡ run_element r p background (element_at march i) pair
    → run_march r p background (drop i march) pair ≡ behind next (run_march r p background (drop (i + 1) march))
march_step r p background march i pair next inside is =
    ap (λ (es : List MarchElement). run_march r p background es pair)
    (drop_more march i pause inside ∙ ap (λ e. e ∷ drop (i + 1) march) (sym (element_at-get march i pause inside)))
    ∙ ap (λ (z : Option Pair). behind z (run_march r p background (drop (i + 1) march))) (sym is)
