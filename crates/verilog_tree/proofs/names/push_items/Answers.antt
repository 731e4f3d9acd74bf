use Rattle.std.proofs.Common.{◌++◌, map, refl, sym, ap, ◌∙◌}
use Rattle.std.specs.Option.{option_map}
use Rattle.std.proofs.lemmas.List.{append-nil}
use Rattle.verilog_tree.specs.Plain.{plain_item}
use Rattle.verilog_tree.specs.Names.{declared_by, item_declarations}
use Rattle.verilog_tree.specs.Seen.{declaration}
use Rattle.verilog_tree.specs.inner.Seen.{declares}
use Rattle.verilog_tree.proofs.Appended.{item_more, items_done}
use Rattle.verilog_tree.proofs.names.push_items.Goals as goal
use Rattle.verilog_tree.proofs.names.push_items.Goals.{in-Some+in_ok-push, in_default}

pub loop-item-preserved : goal.loop-item-preserved
loop-item-preserved c =
    let m = map declaration c.loop-item.all.items in
    let here = c.declared_item.ensures ∙ append-nil (declared_by (plain_item c.item-item.result)) in
    item_more (λ i. declared_by (plain_item i)) (λ is. item_declarations (map plain_item is)) m (map declaration c.match-declared_item.all.items) _ c.args.items.now c.loop-item.item-index c.item-item.result (λ y ys. refl)
    c.loop-item-test.true c.item-item.is
    (elim c.match-declared_item.branch [
      | in-Some+in_ok-push w ↦
          ap (λ v. map declaration v.items) w.all-is
          ∙ w.in_ok-push.ensures
          ∙ ap (λ o. m ++ declares (option_map declaration o)) (sym w.in-Some.is)
          ∙ ap (λ l. m ++ l) here
      | in_default w ↦
          ap (λ v. map declaration v.items) w.all-is
          ∙ sym (append-nil m)
          ∙ ap (λ o. m ++ declares (option_map declaration o)) (sym w.in_default.is)
          ∙ ap (λ l. m ++ l) here
    ])
    c.loop-item.invariant

pub returns : goal.returns
returns c = items_done (λ is. item_declarations (map plain_item is)) (map declaration c.loop-item.all.items) _ c.args.items.now c.loop-item.item-index refl c.loop-item-test.false c.loop-item.invariant
