use Rattle.std.proofs.Common.{◌≡◌, List, ℕ, ◌∷◌, [], ◌++◌, ◌∙◌, true, codes, subst, refl, ap, sym, append_assoc}
use Rattle.std.proofs.lemmas.Result.{on_ok_weaker}
use Rattle.verilog_tree.specs.Fits.{item_fits}
use Rattle.verilog_tree.specs.Plain.{plain_item}
use Rattle.verilog_emit.specs.Printed.{range_text, item_text}
use Rattle.verilog_emit.proofs.Bodies.{told}
use Rattle.verilog_emit.proofs.items.put_item.Goals as goal

pub put_always-requires : goal.put_always-requires
put_always-requires c = rw c.deref.ensures.value (subst (λ i. item_fits 64 (plain_item i) ≡ true) c.in-Always.is c.requires)

pub returns-in-Wire : goal.returns-in-Wire
returns-in-Wire c =
    let before = c.args.out.now.items in
    let net = c.in-Wire.declared in
    told plain_item item_text c.args.item.now _ _ c.in-Wire.is refl c.put_declared.result before c.put_declared.new.out.items
    (on_ok_weaker c.put_declared.result
    (λ e. e ∙ ap (λ (w : List ℕ). before ++ w) (sym (append_assoc (codes "  wire " ++ range_text net.width ++ net.name.bytes) (codes ";") (10 ∷ [])))) c.put_declared.ensures)

pub returns-in-Reg : goal.returns-in-Reg
returns-in-Reg c =
    let before = c.args.out.now.items in
    let net = c.in-Reg.declared in
    told plain_item item_text c.args.item.now _ _ c.in-Reg.is refl c.put_declared-in-Reg.result before c.put_declared-in-Reg.new.out.items
    (on_ok_weaker c.put_declared-in-Reg.result
    (λ e. e ∙ ap (λ (w : List ℕ). before ++ w) (sym (append_assoc (codes "  reg " ++ range_text net.width ++ net.name.bytes) (codes ";") (10 ∷ [])))) c.put_declared-in-Reg.ensures)

pub returns-in-Assign : goal.returns-in-Assign
returns-in-Assign c = told plain_item item_text c.args.item.now _ _ c.in-Assign.is refl c.put_assigned.result c.args.out.now.items c.put_assigned.new.out.items c.put_assigned.ensures

pub returns-in-Always : goal.returns-in-Always
returns-in-Always c =
    told plain_item item_text c.args.item.now _ _ c.in-Always.is refl c.put_always.result c.args.out.now.items c.put_always.new.out.items
    (rw c.deref.ensures.value at c.put_always.ensures)
