-- The top behind the printed self-tests of a plan makes its file.
use Rattle.std.proofs.Common.{◌≡◌, ◌∙◌, ◌≤◌, ℕ, true, List, ◌++◌, length, Result, Ok, Err, OnOk, sym, ap, subst}
use Rattle.std.proofs.lemmas.List.{length-map}
use Rattle.verilog_tree.specs.Words.{is_name}
use Rattle.memory_desc.specs.Descriptions.{Description}
use Rattle.chip_rtl.specs.ChipFile.{ChipFile, IsPlanOf, EndsFile}
use Rattle.chip_rtl.specs.ChipTree.{TopTree}
use Rattle.chip_rtl.specs.PrintedTop.{printed_top, printed_units}
use Rattle.chip_rtl.specs.TopFits.{TopFits}
use Rattle.chip_rtl.specs.Tops.{top_of}
use Rattle.chip_rtl.proofs.GeneratedChips.{plans_are_written}
use Rattle.chip_rtl.proofs.GeneratedTops.{generated_fit}
use Rattle.chip_rtl.proofs.Whole.{counted}

pub few_memories : (ds : List Description) (groups : List ℕ) → IsPlanOf ds groups → length ds ≤ 16
few_memories ds groups p = subst (λ (n : ℕ). n ≤ 16) (sym (length-map p.0 (λ u. u.memory)) ∙ ap length p.2) p.3.few

pub grouped_memories : (ds : List Description) (groups : List ℕ) → IsPlanOf ds groups → length groups ≡ length ds
grouped_memories ds groups p = (counted p.0 p.1 groups p.3).many ∙ ap length p.2

pub planned_top : (ds : List Description) (groups name : List ℕ) (t : TopTree) → IsPlanOf ds groups → is_name name ≡ true → t ≡ top_of name groups ds → TopFits t
planned_top ds groups name t p n e =
    subst TopFits (sym e) (subst (λ (ds : List Description). TopFits (top_of name groups ds)) p.2 (generated_fit name p.0 p.1 groups p.3 n))

pub file_ended : (old new name groups : List ℕ) (ds : List Description) (t : TopTree) (text : List ℕ) → is_name name ≡ true → t ≡ top_of name groups ds → text ≡ printed_top t → new ≡ old ++ text → EndsFile old new name groups ds
file_ended old new name groups ds t text n e f g us budget ms same printed p tested fit differ =
    subst (λ (b : List ℕ). (f : ChipFile b name us budget) × (f.chip.units ≡ ms))
    (sym (g ∙ ap (λ x. x ++ text) printed ∙ ap (λ x. printed_units ms ++ x) (f ∙ ap printed_top (e ∙ ap (top_of name groups) (sym same)))))
    (plans_are_written name us budget groups ms p tested fit n differ)

-- where it went well
pub where_ok : {A E : Type 0} {P Q : Type 0} (r : Result A E) → (P → Q) → OnOk r P → OnOk r Q
where_ok (Ok a) f h = f h
where_ok (Err e) f h = h
