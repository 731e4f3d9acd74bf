-- What a box keeps, where its chip gets other words.
use Rattle.std.proofs.Common.{◌≡◌, ◌≤◌, ◌∙◌, ℕ, Option, Some, None, List, ◌++◌, length, take, drop, append-nil, ap, sym, arith}
use Rattle.std.proofs.Math.ListN.{drop_of_length-le}
use Rattle.std.proofs.Math.Seq.{take-length}
use Rattle.fault_core.specs.declared.primitive.Sense.{Sense}
use Rattle.word_device.specs.declared.device.BitPlace.{BitPlace}
use Rattle.word_device.specs.declared.device.Planted.{Planted}
use Rattle.word_device.specs.Chips.{FitsMemory, FitsAggPlace, closed_words}
use Rattle.word_device.specs.Boxes.{FitsPlanted}
use Rattle.word_device.proofs.Closed.{length-closed_words}

-- as many words over all that there are
pub whole : (n : ℕ) (new old : List ℕ) → n ≡ length old → length new ≡ length old → take n (new ++ drop (length new) old) ≡ new
whole n new old all same =
    ap (λ l. take n (new ++ l)) (drop_of_length-le old (omega arith)) ∙ ap (take n) (append-nil new) ∙ ap (λ k. take k new) (all ∙ sym same) ∙ take-length new

-- the words of the box are those that the instance closed
pub closed_whole : (n : ℕ) (i : Planted) (lent new old : List ℕ) → n ≡ length old → lent ≡ old → new ≡ closed_words i lent
    → take n (new ++ drop (length new) old) ≡ closed_words i old
closed_whole n i lent new old all same is =
    let closes : new ≡ closed_words i old = is ∙ ap (closed_words i) same in
    whole n new old all (ap length closes ∙ length-closed_words i old) ∙ closes

agg_wide : (agg : Option Sense) (at : Option BitPlace) (vic : BitPlace) (words bits n : ℕ) → bits ≤ 64 → n ≡ words → FitsAggPlace agg at vic words bits
    → FitsAggPlace agg at vic n 64
agg_wide None None vic words bits n narrow same fits = tt
agg_wide None (Some at) vic words bits n narrow same fits = fits
agg_wide (Some sense) None vic words bits n narrow same fits = fits
agg_wide (Some sense) (Some at) vic words bits n narrow same fits = (omega (arith, fits.0), omega (arith, fits.1), fits.2)

-- an instance fits words of 64 bits too
pub fits_wide : (i : Planted) (words bits n : ℕ) → bits ≤ 64 → n ≡ words → FitsMemory i words bits → FitsMemory i n 64
fits_wide i words bits n narrow same fits =
    record { word = omega arith; bit = omega arith; agg = agg_wide i.prim.agg i.agg i.vic words bits n narrow same fits.agg }

pub planted_wide : (planted : Option Planted) (words bits n : ℕ) → bits ≤ 64 → n ≡ words → FitsPlanted planted words bits → FitsPlanted planted n 64
planted_wide None words bits n narrow same fits = tt
planted_wide (Some i) words bits n narrow same fits = fits_wide i words bits n narrow same fits
