use Rattle.std.proofs.Common.{◌≡◌, ℕ, Bool, List, [], ◌∷◌, map, refl, ◌∙◌}
use Rattle.verilog_tree.specs.declared.rules.Rule.TheVariants as R
use Rattle.verilog_tree.specs.Plain.{ModuleItem, plain_item}
use Rattle.verilog_tree.specs.Names.{Declaration, width_of}
use Rattle.verilog_tree.specs.Rules.{Mention, mentions, first_of, item_widths}
use Rattle.verilog_tree.specs.inner.Seen.{mention}
use Rattle.verilog_tree.specs.inner.Tables.{among, again, first_broken, break_behind}
use Rattle.verilog_tree.proofs.InOrder.{refuses_same, passed_on, past, third}
use Rattle.verilog_tree.proofs.Refusals.{tells_now}
use Rattle.verilog_tree.proofs.rules.check_item.Goals as goal

in_turn : (w : List ℕ → ℕ) (ds : List Declaration) (assigned : List ℕ → Bool) (set : List (List ℕ)) (i : ModuleItem) (ms : List Mention) → ms ≡ mentions i → break_behind w ds assigned set i ≡ first_of
    (first_broken R.Known w ds set i ms
    ∷ again ds assigned i
    ∷ first_broken R.InRange w ds set i ms
    ∷ item_widths w i
    ∷ first_broken R.Assignable w ds set i ms
    ∷ first_broken R.InOneBlock w ds set i ms
    ∷ first_broken R.Clocked w ds set i ms
    ∷ [])
unfolding break_behind
in_turn w ds assigned set i ms e = rw e refl

pub returns-in_err-keeps : goal.returns-in_err-keeps
returns-in_err-keeps c =
    let b = c.args.before.now in
    let f = c.in_err-keeps.field-0.0 in
    passed_on _ _ c.from_residual.result f c.from_residual.ensures
    (in_turn (width_of c.args.widths.now) b.declared (among b.assigned) b.set (plain_item c.args.item.now) (map mention c.args.all.now) c.requires)
    (tells_now f _ _ c.in_err-keeps.ensures)

pub returns-in_err-once : goal.returns-in_err-once
returns-in_err-once c =
    let b = c.args.before.now in
    let f = c.in_err-once.field-0.0 in
    passed_on _ _ c.from_residual-in_err-once.result f c.from_residual-in_err-once.ensures
    (in_turn (width_of c.args.widths.now) b.declared (among b.assigned) b.set (plain_item c.args.item.now) (map mention c.args.all.now) c.requires ∙ past _ _ c.in_ok-keeps.ensures)
    (tells_now f _ _ c.in_err-once.ensures)

pub returns-in_err-keeps-2 : goal.returns-in_err-keeps-2
returns-in_err-keeps-2 c =
    let b = c.args.before.now in
    let f = c.in_err-keeps-2.field-0.0 in
    passed_on _ _ c.from_residual-in_err-keeps-2.result f c.from_residual-in_err-keeps-2.ensures
    (in_turn (width_of c.args.widths.now) b.declared (among b.assigned) b.set (plain_item c.args.item.now) (map mention c.args.all.now) c.requires ∙ past _ _ c.in_ok-keeps.ensures ∙ past _ _ c.in_ok-once.ensures)
    (tells_now f _ _ c.in_err-keeps-2.ensures)

pub returns-in_err-item_widths : goal.returns-in_err-item_widths
returns-in_err-item_widths c =
    let b = c.args.before.now in
    let f = c.in_err-item_widths.field-0.0 in
    passed_on _ _ c.from_residual-in_err-item_widths.result f c.from_residual-in_err-item_widths.ensures
    (in_turn (width_of c.args.widths.now) b.declared (among b.assigned) b.set (plain_item c.args.item.now) (map mention c.args.all.now) c.requires ∙ past _ _ c.in_ok-keeps.ensures ∙ past _ _ c.in_ok-once.ensures ∙ past _ _ c.in_ok-keeps-2.ensures)
    (tells_now f _ _ c.in_err-item_widths.ensures)

pub returns-in_err-keeps-3 : goal.returns-in_err-keeps-3
returns-in_err-keeps-3 c =
    let b = c.args.before.now in
    let f = c.in_err-keeps-3.field-0.0 in
    passed_on _ _ c.from_residual-in_err-keeps-3.result f c.from_residual-in_err-keeps-3.ensures
    (in_turn (width_of c.args.widths.now) b.declared (among b.assigned) b.set (plain_item c.args.item.now) (map mention c.args.all.now) c.requires ∙ past _ _ c.in_ok-keeps.ensures ∙ past _ _ c.in_ok-once.ensures ∙ past _ _ c.in_ok-keeps-2.ensures ∙ past _ _ c.in_ok-item_widths.ensures)
    (tells_now f _ _ c.in_err-keeps-3.ensures)

pub returns-in_err-keeps-4 : goal.returns-in_err-keeps-4
returns-in_err-keeps-4 c =
    let b = c.args.before.now in
    let f = c.in_err-keeps-4.field-0.0 in
    passed_on _ _ c.from_residual-in_err-keeps-4.result f c.from_residual-in_err-keeps-4.ensures
    (in_turn (width_of c.args.widths.now) b.declared (among b.assigned) b.set (plain_item c.args.item.now) (map mention c.args.all.now) c.requires ∙ past _ _ c.in_ok-keeps.ensures ∙ past _ _ c.in_ok-once.ensures ∙ past _ _ c.in_ok-keeps-2.ensures ∙ past _ _ c.in_ok-item_widths.ensures ∙ past _ _ c.in_ok-keeps-3.ensures)
    (tells_now f _ _ c.in_err-keeps-4.ensures)

pub returns : goal.returns
returns c =
    let b = c.args.before.now in
    refuses_same _ _ c.keeps-5.result
    (in_turn (width_of c.args.widths.now) b.declared (among b.assigned) b.set (plain_item c.args.item.now) (map mention c.args.all.now) c.requires ∙ past _ _ c.in_ok-keeps.ensures ∙ past _ _ c.in_ok-once.ensures ∙ past _ _ c.in_ok-keeps-2.ensures ∙ past _ _ c.in_ok-item_widths.ensures ∙ third _ _ _ c.in_ok-keeps-3.ensures c.in_ok-keeps-4.ensures)
    c.keeps-5.ensures
