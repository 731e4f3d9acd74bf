use Rattle.std.proofs.Common.{refl, [], ◌∷◌, ◌++◌, map, get_or, ap, ◌∙◌}
use Rattle.std.proofs.lemmas.List.{get_or_default}
use Rattle.verilog_tree.specs.Seen.{declaration}
use Rattle.verilog_cycle.specs.Design.{names}
use Rattle.verilog_cycle.specs.Seen.{plain_names}
use Rattle.verilog_code.proofs.Loops.{one_more}
use Rattle.verilog_cycle.proofs.Gathered.{none_yet, all_gathered, fewer}
use Rattle.verilog_cycle.proofs.nets.names_at.Goals as goal

pub loop-n-init : goal.loop-n-init
loop-n-init c =
    let ns = names (map declaration c.args.declared.now) in
    none_yet (map (λ k. get_or ns k [])) c.args.numbers.now (plain_names c.new-all.result.items) (ap plain_names c.new-all.ensures.items)

pub bounds-numbers-n-index : goal.bounds-numbers-n-index
bounds-numbers-n-index c = c.loop-n-test.true

pub loop-n-smaller : goal.loop-n-smaller
loop-n-smaller c = fewer _ _ c.loop-n-test.true

pub loop-n-preserved : goal.loop-n-preserved
loop-n-preserved c =
    let ns = names (map declaration c.args.declared.now) in
    let i = c.loop-n.n-index in
    let k = get_or c.args.numbers.now i 0 in
    let all = plain_names c.loop-n.all.items in
    one_more (map (λ k. get_or ns k [])) c.args.numbers.now i k (get_or ns k [] ∷ []) all (plain_names c.push_name.new.list.items) _ c.loop-n-test.true (get_or_default c.args.numbers.now i 0 k c.loop-n-test.true) refl
    (c.in_ok-push_name.ensures ∙ ap (λ n. all ++ n ∷ []) c.named.ensures) c.loop-n.invariant

pub returns : goal.returns
returns c =
    let ns = names (map declaration c.args.declared.now) in
    all_gathered (map (λ k. get_or ns k [])) c.args.numbers.now c.loop-n.n-index (plain_names c.loop-n.all.items) _ refl c.loop-n-test.false c.loop-n.invariant
