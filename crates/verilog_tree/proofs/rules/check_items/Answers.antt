use Rattle.std.proofs.Common.{◌≡◌, ℕ, ◌+◌, ◌<◌, List, [], ◌∷◌, map, length, drop, get_or, Result, Ok, Err, IsErr, OnOk, refl, sym, ap, ◌∙◌}
use Rattle.std.proofs.lemmas.List.{at_drop_all}
use Rattle.verilog_tree.specs.declared.fault.TreeFault.{TreeFault}
use Rattle.verilog_tree.specs.declared.fault.TreeFault.TheVariants as T
use Rattle.verilog_tree.specs.declared.tree.BodyItem.{BodyItem}
use Rattle.verilog_tree.specs.Plain.{plain_item}
use Rattle.verilog_tree.specs.Names.{Declaration, width_of}
use Rattle.verilog_tree.specs.Rules.{first_of}
use Rattle.verilog_tree.specs.inner.Tables.{among, declared_behind, assigned_behind, set_behind, break_behind, breaks_behind, all_assigned}
use Rattle.verilog_tree.proofs.InOrder.{at_item, passed_on, second}
use Rattle.verilog_tree.proofs.Refusals.{tells_now}
use Rattle.verilog_tree.proofs.rules.check_items.Goals as goal

not_done : {A : Type 0} (r : Result A TreeFault) (P : Type 0) → IsErr r → OnOk r P
not_done (Ok x) P h = cc
not_done (Err f) P h = tt

-- at an item, the tables before and behind it
at_tables : (w : List ℕ → ℕ) (ds ds' : List Declaration) (as' bs ss ts : List (List ℕ)) (items : List BodyItem) (k : ℕ) (i : BodyItem) → k < length items → i ≡ get_or items k i → ds' ≡ declared_behind ds (plain_item i) → bs ≡ assigned_behind as' (plain_item i) → ts ≡ set_behind ss (plain_item i) →
    breaks_behind w ds as' ss (map plain_item (drop k items)) ≡ first_of (break_behind w ds (among as') ss (plain_item i) ∷ breaks_behind w ds' bs ts (map plain_item (drop (k + 1) items)) ∷ [])
at_tables w ds ds' as' bs ss ts items k i below at p q r = at_item (λ is'. breaks_behind w ds as' ss (map plain_item is')) items k i below at ∙ rw (p, q, r) refl

pub loop-item-init : goal.loop-item-init
loop-item-init c = (refl, refl)

pub returns-in_err-put_item-clause-refuses : goal.returns-in_err-put_item-clause-refuses
returns-in_err-put_item-clause-refuses c = passed_on _ _ c.from_residual.result T.NoMemory c.from_residual.ensures refl tt

pub returns-in_err-put_item-clause-assigned : goal.returns-in_err-put_item-clause-assigned
returns-in_err-put_item-clause-assigned c = not_done c.from_residual.result _ c.from_residual.ensures.0

pub returns-in_err-check_item-clause-refuses : goal.returns-in_err-check_item-clause-refuses
returns-in_err-check_item-clause-refuses c =
    let f = c.in_err-check_item.field-0.0 in
    let b = c.loop-item.before in
    passed_on _ _ c.from_residual-in_err-check_item.result f c.from_residual-in_err-check_item.ensures
    (sym c.loop-item.invariant.0 ∙ at_tables (width_of c.args.widths.now) b.declared _ b.assigned _ b.set _ c.args.items.now c.loop-item.item-index c.item-item.result c.loop-item-test.true c.item-item.is refl refl refl)
    (tells_now f _ _ c.in_err-check_item.ensures)

pub returns-in_err-check_item-clause-assigned : goal.returns-in_err-check_item-clause-assigned
returns-in_err-check_item-clause-assigned c = not_done c.from_residual-in_err-check_item.result _ c.from_residual-in_err-check_item.ensures.0

pub returns-in_err-pass-clause-refuses : goal.returns-in_err-pass-clause-refuses
returns-in_err-pass-clause-refuses c = passed_on _ _ c.from_residual-in_err-pass.result T.NoMemory c.from_residual-in_err-pass.ensures refl tt

pub returns-in_err-pass-clause-assigned : goal.returns-in_err-pass-clause-assigned
returns-in_err-pass-clause-assigned c = not_done c.from_residual-in_err-pass.result _ c.from_residual-in_err-pass.ensures.0

pub loop-item-preserved : goal.loop-item-preserved
loop-item-preserved c =
    let b = c.loop-item.before in
    let tables = c.in_ok-pass.ensures in
    let items = c.args.items.now in (
      sym (second _ _ c.in_ok-check_item.ensures)
          ∙ sym (at_tables (width_of c.args.widths.now) b.declared _ b.assigned _ b.set _ items c.loop-item.item-index c.item-item.result c.loop-item-test.true c.item-item.is tables.declared tables.assigned tables.set)
          ∙ c.loop-item.invariant.0,
      ap (λ n. all_assigned n (map plain_item (drop (c.loop-item.item-index + 1) items))) tables.assigned
          ∙ sym (at_item (λ is'. all_assigned b.assigned (map plain_item is')) items c.loop-item.item-index c.item-item.result c.loop-item-test.true c.item-item.is)
          ∙ c.loop-item.invariant.1,
    )

pub returns-clause-refuses : goal.returns-clause-refuses
returns-clause-refuses c =
    let b = c.loop-item.before in
    sym c.loop-item.invariant.0 ∙ at_drop_all (λ is'. breaks_behind (width_of c.args.widths.now) b.declared b.assigned b.set (map plain_item is')) c.args.items.now c.loop-item.item-index c.loop-item-test.false

pub returns-clause-assigned : goal.returns-clause-assigned
returns-clause-assigned c = sym (at_drop_all (λ is'. all_assigned c.loop-item.before.assigned (map plain_item is')) c.args.items.now c.loop-item.item-index c.loop-item-test.false) ∙ c.loop-item.invariant.1
