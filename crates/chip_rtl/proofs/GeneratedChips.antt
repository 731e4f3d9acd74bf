-- The printed self-tests and top of a plan are the text of their chip, which tests the memories.
use Rattle.std.proofs.Common.{ℕ, List, refl}
use Rattle.chip_rtl.specs.ChipLaws.{chip_of}
use Rattle.chip_rtl.proofs.Ruled.{top_is_legal}
use Rattle.chip_rtl.proofs.Whole.{top_tests}
use Rattle.chip_rtl.specs.PrintedTop.{printed_chip}
use Rattle.chip_rtl.specs.ChipFile.{IsChipTextOf, PlansAreWritten}
use Rattle.chip_rtl.proofs.GeneratedTops.{generated_fit}
use Rattle.chip_rtl.proofs.WrittenChip.{text_derived, no_other_chip}

pub plans_are_written : PlansAreWritten
plans_are_written name us budget groups ms p tested fit named differ =
    let c = chip_of name groups us ms in
    let b : List ℕ = printed_chip c in
    let h : IsChipTextOf b c = (fit, generated_fit name us budget groups p named, refl) in (
      record {
        chip = c;
        groups = groups;
        text = h;
        only = λ other k. no_other_chip b c other h (text_derived b other k);
        spells = text_derived b c h;
        no_other = λ other k. no_other_chip b c other h k;
        legal = top_is_legal name us budget groups ms p tested differ;
        modules = tested;
        named = refl;
        ports = refl;
        fitted = p.fitted;
        tests = top_tests name us budget groups ms p tested;
      },
      refl,
    )
