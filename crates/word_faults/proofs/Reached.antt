-- What is said of each memory with a fault is said of all.
use Rattle.std.proofs.Common.{ℕ, List}
use Rattle.march_core.specs.March.{MarchElement}
use Rattle.memory_desc.specs.Descriptions.{Description, IsMemory}
use Rattle.word_device.specs.Answers.{HasWords, PlantedWrong}
use Rattle.word_faults.specs.Laws.{LinkedWrong, DecoderWrong, DynamicWrong}
use Rattle.word_faults.specs.There.{memory_of, AreThere}
use Rattle.word_faults.specs.Reached.{Begins, EachAnswersWrong}

has : (d : Description) (words pending : List ℕ) (idle : ℕ) → Begins d words pending → HasWords d (memory_of words pending idle)
has d words pending idle h = record { words = h.size; under_way = h.under_way }

-- said of all by the claims alone, and so by what they mean
pub each_wrong : (march : List MarchElement) (d : Description) → IsMemory d → AreThere d → PlantedWrong march d → LinkedWrong march d → DecoderWrong march d
    → DynamicWrong march d → EachAnswersWrong march d
each_wrong march d m there planted linked decoder dynamic = record {
  planted = λ p is detects words pending idle h i same fits. planted p is detects (memory_of words pending idle) i (has d words pending idle h) same fits;
  linked = λ link is some detects words pending idle h at fits. linked link is some detects (memory_of words pending idle) at (has d words pending idle h) fits;
  decoder = λ fault detects words pending idle h at by fits fault_is.
      decoder fault detects (memory_of words pending idle) at by _ (has d words pending idle h) fits fault_is (there.reads by 0 m.bits_low).0;
  dynamic = λ p is first detects words pending armed idle h at fits.
      dynamic p is (there.first p march first) detects _ at (there.held words pending armed idle h.size h.under_way) fits;
}
