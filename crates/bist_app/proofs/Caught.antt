-- A chip in which an instance of a detected primitive was just planted.
use Rattle.bist_app.proofs.Common.{◌<◌, ◌∙◌, List, Some, refl, sym, subst, MarchElement, IsPrimitive, Description, IsMemory, Planted, shape_of, blank, HasDetected, FailsAlone, Closes, SomeWrong, run_word, length-replicate, FitsMemory}
use Rattle.array_sim.specs.Detection.{Detects}
use Rattle.bist_app.specs.Bench.{benched_chip}

has_detected : (march : List MarchElement) (d : Description) (i : Planted) → IsMemory d → IsPrimitive i.prim → FitsMemory i d.words d.bits → Closes
    → Detects march i.prim → HasDetected march d i (benched_chip d (Some i))
has_detected march d i memory primitive fits closes detects =
    let count = length-replicate d.words 0 in
    let closing = closes i (blank (shape_of d)).words primitive (subst (λ n. i.vic.word < n) (sym count) fits.word) in
    record {
      words = closing.as_many ∙ count;
      planted = refl;
      primitive = primitive;
      places = fits;
      closed = closing.closed;
      detected = detects d.words memory.words_low;
    }

pub planted_wrong : (march : List MarchElement) (d : Description) (i : Planted) → IsMemory d → IsPrimitive i.prim → FitsMemory i d.words d.bits → Closes → FailsAlone march d
    → Detects march i.prim → SomeWrong march d (run_word march d (benched_chip d (Some i)))
planted_wrong march d i memory primitive fits closes fails detects =
    fails (benched_chip d (Some i)) i (has_detected march d i memory primitive fits closes detects)
