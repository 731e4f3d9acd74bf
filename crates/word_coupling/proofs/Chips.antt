-- The chips of which the laws of the module speak are there.
use Rattle.std.proofs.Common.{◌<◌, ℕ, List, refl, sym, subst, ◌∙◌}
use Rattle.march_core.specs.March.{MarchElement}
use Rattle.memory_desc.specs.Descriptions.{Description}
use Rattle.word_device.specs.declared.device.Planted.{Planted}
use Rattle.word_device.proofs.Closed.{closed_twice, length-closed_words}
use Rattle.word_coupling.specs.Words.{in_word}
use Rattle.word_coupling.specs.Joint.{AreDetectedChips, AreEscapeChips}

pub detected_chips : (march : List MarchElement) (d : Description) → AreDetectedChips march d
detected_chips march d p word agg vic content is bits size detects =
    let i : Planted = in_word p word agg vic in
    record {
      words = length-closed_words i content ∙ size;
      planted = refl;
      primitive = is;
      places = bits;
      closed = closed_twice i content is (subst (λ (n : ℕ). word < n) (sym size) bits.word_within);
      detected = detects;
    }

pub escape_chips : (march : List MarchElement) (d : Description) → AreEscapeChips march d
escape_chips march d p word e content is two inside escape size holds = record {
  planted = refl;
  primitive = is;
  two_cell = two;
  within = inside;
  escape = escape;
  content = content;
  words = size;
  holds = holds;
  closed = refl;
}
