use Rattle.std.proofs.Common.{◌≡◌, ℕ, ◌+◌, ◌<◌, Bool, true, false, ◌&&◌, ◌⊎◌, inl, inr, List, map, length, drop, get_or, refl, ap, sym, ◌∙◌}
use Rattle.std.proofs.lemmas.List.{at_drop_all}
use Rattle.verilog_tree.specs.declared.tree.Decl.{Decl}
use Rattle.verilog_tree.specs.declared.tree.BodyItem.{BodyItem}
use Rattle.verilog_tree.specs.declared.tree.BodyItem.TheVariants.{Wire, Reg}
use Rattle.verilog_tree.specs.Plain.{plain_item, plain_stmts}
use Rattle.verilog_tree.specs.Words.{is_name}
use Rattle.verilog_tree.specs.Fits.{statements_fit, item_fits, items_fit}
use Rattle.verilog_tree.proofs.InOrder.{at_item, and_then, and_else}
use Rattle.verilog_tree.proofs.layout.items_fit.Goals.{in-Assign+then-is_name, in-Assign+else-is_name, in-Always+then-is_name-2, in-Always+else-is_name-2, in-Wire2}
use Rattle.verilog_tree.proofs.layout.items_fit.Goals as goal

fits_as : (i j : BodyItem) → i ≡ j → item_fits 64 (plain_item j) ≡ item_fits 64 (plain_item i)
fits_as i j e = sym (ap (λ k. item_fits 64 (plain_item k)) e)

declared_fits : (i : BodyItem) (d : Decl) → (i ≡ Wire d) ⊎ (i ≡ Reg d) → is_name d.name.bytes ≡ item_fits 64 (plain_item i)
declared_fits i d (inl e) = fits_as i (Wire d) e
declared_fits i d (inr e) = fits_as i (Reg d) e

-- the loop's test at an item
at : (items : List BodyItem) (k : ℕ) (i : BodyItem) (b whole : Bool) → k < length items → i ≡ get_or items k i → b ≡ item_fits 64 (plain_item i) → items_fit 64 (map plain_item (drop k items)) ≡ whole → (b && items_fit 64 (map plain_item (drop (k + 1) items))) ≡ whole
at items k i b whole below is e so_far = ap (λ t. t && items_fit 64 (map plain_item (drop (k + 1) items))) e ∙ sym (at_item (λ is'. items_fit 64 (map plain_item is')) items k i below is) ∙ so_far

pub loop-item-init : goal.loop-item-init
loop-item-init c = refl

pub returns-then-not-fits : goal.returns-then-not-fits
returns-then-not-fits c =
    let i = c.item-item.result in
    let e : c.match-item.fits ≡ item_fits 64 (plain_item i) = elim c.match-item.branch [
      | in-Assign+then-is_name w ↦ w.fits-is ∙ and_then _ _ _ (sym w.is_name.ensures ∙ w.if-is_name.true) w.expr_fits.ensures ∙ fits_as i _ w.in-Assign.is
      | in-Assign+else-is_name w ↦ w.fits-is ∙ w.is_name.ensures ∙ and_else _ _ _ (sym w.is_name.ensures ∙ w.if-is_name.false) refl ∙ fits_as i _ w.in-Assign.is
      | in-Always+then-is_name-2 w ↦ w.fits-is ∙ and_then _ _ _ (sym w.is_name-in-Always.ensures ∙ w.if-is_name-2.true) (w.stmts_fit.ensures ∙ ap (λ l. statements_fit 63 (plain_stmts l)) w.deref.ensures.value) ∙ fits_as i _ w.in-Always.is
      | in-Always+else-is_name-2 w ↦ w.fits-is ∙ w.is_name-in-Always.ensures ∙ and_else _ _ _ (sym w.is_name-in-Always.ensures ∙ w.if-is_name-2.false) refl ∙ fits_as i _ w.in-Always.is
      | in-Wire2 w ↦ w.fits-is ∙ w.is_name-fits.ensures ∙ declared_fits i w.in-Wire.declared w.in-Wire.is
    ] in
    at c.args.items.now c.loop-item.item-index i false _ c.loop-item-test.true c.item-item.is (sym c.if-not-fits.true ∙ e) c.loop-item.invariant

pub loop-item-preserved : goal.loop-item-preserved
loop-item-preserved c =
    let i = c.item-item.result in
    let e : c.match-item.fits ≡ item_fits 64 (plain_item i) = elim c.match-item.branch [
      | in-Assign+then-is_name w ↦ w.fits-is ∙ and_then _ _ _ (sym w.is_name.ensures ∙ w.if-is_name.true) w.expr_fits.ensures ∙ fits_as i _ w.in-Assign.is
      | in-Assign+else-is_name w ↦ w.fits-is ∙ w.is_name.ensures ∙ and_else _ _ _ (sym w.is_name.ensures ∙ w.if-is_name.false) refl ∙ fits_as i _ w.in-Assign.is
      | in-Always+then-is_name-2 w ↦ w.fits-is ∙ and_then _ _ _ (sym w.is_name-in-Always.ensures ∙ w.if-is_name-2.true) (w.stmts_fit.ensures ∙ ap (λ l. statements_fit 63 (plain_stmts l)) w.deref.ensures.value) ∙ fits_as i _ w.in-Always.is
      | in-Always+else-is_name-2 w ↦ w.fits-is ∙ w.is_name-in-Always.ensures ∙ and_else _ _ _ (sym w.is_name-in-Always.ensures ∙ w.if-is_name-2.false) refl ∙ fits_as i _ w.in-Always.is
      | in-Wire2 w ↦ w.fits-is ∙ w.is_name-fits.ensures ∙ declared_fits i w.in-Wire.declared w.in-Wire.is
    ] in
    at c.args.items.now c.loop-item.item-index i true _ c.loop-item-test.true c.item-item.is (sym c.if-not-fits.false ∙ e) c.loop-item.invariant

pub returns : goal.returns
returns c = sym (at_drop_all (λ is'. items_fit 64 (map plain_item is')) c.args.items.now c.loop-item.item-index c.loop-item-test.false) ∙ c.loop-item.invariant
