use Rattle.std.proofs.Common.{refl, Bool, cond, ◌+◌, [], ◌∷◌, map, drop, sym, ap, ◌∙◌, append-nil}
use Rattle.std.proofs.lemmas.List.{map-append}
use Rattle.std.specs.List.{filter}
use Rattle.verilog_tree.specs.Seen.{declaration}
use Rattle.verilog_cycle.specs.inner.Kinds.{is_of}
use Rattle.verilog_code.proofs.Loops.{one_more}
use Rattle.verilog_cycle.proofs.Gathered.{none_yet, all_gathered, fewer}
use Rattle.verilog_cycle.proofs.nets.all_of.Goals.{then-is_of+in_ok-push, else-is_of}
use Rattle.verilog_cycle.proofs.nets.all_of.Goals as goal

pub loop-next-preserved : goal.loop-next-preserved
loop-next-preserved c =
    let kept = is_of c.args.kind in
    let i = c.loop-next.next-index in
    let ds = c.args.declared.now in
    let d = c.next-item.result in
    let all = map declaration c.loop-next.all.items in
    let rest = filter kept (map declaration (drop (i + 1) ds)) in
    elim c.if-is_of.branch [
      | then-is_of+in_ok-push w ↦ one_more (λ l. filter kept (map declaration l)) ds i d (declaration d ∷ []) all (map declaration c.if-is_of.all.items) (filter kept (map declaration ds)) c.loop-next-test.true c.next-item.is
          (ap (λ (t : Bool). cond t (declaration d ∷ rest) rest) (sym c.is_of.ensures ∙ w.if-is_of.true)) (ap (λ v. map declaration v.items) w.all-is ∙ ap (map declaration) w.in_ok-push.ensures ∙ map-append declaration c.loop-next.all.items (d ∷ [])) c.loop-next.invariant
      | else-is_of w ↦ one_more (λ l. filter kept (map declaration l)) ds i d [] all (map declaration c.if-is_of.all.items) (filter kept (map declaration ds)) c.loop-next-test.true c.next-item.is
          (ap (λ (t : Bool). cond t (declaration d ∷ rest) rest) (sym c.is_of.ensures ∙ w.if-is_of.false)) (ap (λ v. map declaration v.items) w.all-is ∙ sym (append-nil all)) c.loop-next.invariant
    ]

pub loop-next-init : goal.loop-next-init
loop-next-init c = none_yet (λ l. filter (is_of c.args.kind) (map declaration l)) c.args.declared.now (map declaration c.new-all.result.items) (ap (map declaration) c.new-all.ensures.items)

pub bounds-declared-next-index : goal.bounds-declared-next-index
bounds-declared-next-index c = c.loop-next-test.true

pub loop-next-smaller : goal.loop-next-smaller
loop-next-smaller c = fewer _ _ c.loop-next-test.true

pub returns : goal.returns
returns c = all_gathered (λ l. filter (is_of c.args.kind) (map declaration l)) c.args.declared.now c.loop-next.next-index (map declaration c.loop-next.all.items) _ refl c.loop-next-test.false c.loop-next.invariant
