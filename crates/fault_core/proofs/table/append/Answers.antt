use Rattle.std.proofs.Common.{◌≡◌, ◌∙◌, add-one, ℕ, ◌+◌, ◌<◌, List, [], ◌∷◌, ◌++◌, length, take, take_all, get_or, ap, append_assoc}
use Rattle.std.proofs.Math.Seq.{take-suc}
use Rattle.fault_core.proofs.table.append.Goals as goal

one_more : {A : Type 0} (xs old mid new : List A) (i : ℕ) (x : A) → i < length xs → x ≡ get_or xs i x → mid ≡ old ++ take i xs → new ≡ mid ++ x ∷ [] → new ≡ old ++ take (i + 1) xs
one_more xs old mid new i x l e m n =
    let more = take-suc xs i x l in
    let seam = append_assoc old (take i xs) (x ∷ []) in
    rw add-one (cc)

pub loop-prim-preserved : goal.loop-prim-preserved
loop-prim-preserved g c =
    one_more c.as_slice-prim-items.result.now c.args.prims.now.items c.loop-prim.prims.items _ c.loop-prim.prim-index c.prim-item.result c.loop-prim-test.true c.prim-item.is
    c.loop-prim.invariant c.push.ensures.items

pub returns : goal.returns
returns g c =
    c.loop-prim.invariant
    ∙ ap (λ ps. c.args.prims.now.items ++ ps) (take_all c.loop-prim.prim-index _ c.loop-prim-test.false ∙ c.as_slice-prim-items.ensures.value ∙ c.members.ensures)
