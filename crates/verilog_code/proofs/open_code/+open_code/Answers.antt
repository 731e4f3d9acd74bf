use Rattle.std.proofs.Common.{◌≡◌, ◌+◌, ◌%◌, ◌^◌, ℕ, Box, Global, List, Option, bit_and, sym, ap, ◌∙◌}
use Rattle.std.proofs.Math.Path.{ap₂}
use Rattle.std.specs.Prelude.{option_map}
use Rattle.verilog_tree.specs.declared.tree.UnOp.{UnOp}
use Rattle.verilog_tree.specs.declared.tree.BinOp.{BinOp}
use Rattle.verilog_tree.specs.Partial.{both}
use Rattle.verilog_code.specs.declared.code.Code.{Code}
use Rattle.verilog_code.specs.declared.code.Code as C
use Rattle.verilog_code.specs.Code.{lowered, raised, prefixed_code}
use Rattle.verilog_code.specs.OpenCode.{open_at, open_infixed_code, open_meaning, picked}
use Rattle.verilog_code.proofs.open_code.+open_code.Goals as goal

-- what a node is, the expression is
valued : (x node : Code) (vs : List (Option ℕ)) (is new : Option ℕ) → x ≡ node → open_meaning vs node ≡ is → new ≡ is → new ≡ open_meaning vs x
valued x node vs is new same opened e = e ∙ sym (ap (open_meaning vs) same ∙ opened)

module _ (vs : List (Option ℕ)) where
  choose_opened : (c a b : Box Code Global) → open_meaning vs (C.Choose c a b) ≡ picked (open_meaning vs c.value) (open_meaning vs a.value) (open_meaning vs b.value)
  choose_opened c a b = search C.the_lemmas

  net_opened : (n : ℕ) (a b : Box Code Global) → open_meaning vs (C.PickNet n a b) ≡ picked (open_at vs n) (open_meaning vs a.value) (open_meaning vs b.value)
  net_opened n a b = search C.the_lemmas

  bit_opened : (n i : ℕ) (a b : Box Code Global)
      → open_meaning vs (C.PickBit n i a b) ≡ picked (option_map (λ v. bit_and (lowered v i) 1) (open_at vs n)) (open_meaning vs a.value) (open_meaning vs b.value)
  bit_opened n i a b = search C.the_lemmas

  prefixed_opened : (o : UnOp) (ones : ℕ) (a : Box Code Global) → open_meaning vs (C.Prefixed o ones a) ≡ option_map (prefixed_code o ones) (open_meaning vs a.value)
  prefixed_opened o ones a = search C.the_lemmas

  infixed_opened : (o : BinOp) (ones : ℕ) (a b : Box Code Global)
      → open_meaning vs (C.Infixed o ones a b) ≡ open_infixed_code o ones (open_meaning vs a.value) (open_meaning vs b.value)
  infixed_opened o ones a b = search C.the_lemmas

  concat_opened : (low : ℕ) (a b : Box Code Global)
      → open_meaning vs (C.Concat low a b) ≡ both (λ x y. (raised x low + y) % 2 ^ 64) (open_meaning vs a.value) (open_meaning vs b.value)
  concat_opened low a b = search C.the_lemmas

  -- what is picked, by the same condition and the same sides
  pick : (p q : Option ℕ) (a c b d : Code) → p ≡ q → a ≡ c → b ≡ d → picked p (open_meaning vs a) (open_meaning vs b) ≡ picked q (open_meaning vs c) (open_meaning vs d)
  pick p q a c b d one first second =
      ap (λ n. picked n (open_meaning vs a) (open_meaning vs b)) one ∙ ap₂ (λ n m. picked q n m) (ap (open_meaning vs) first) (ap (open_meaning vs) second)

pub open_operated-returns-in-Choose : goal.open_operated-returns-in-Choose
open_operated-returns-in-Choose t c =
    let vs = c.args.values.now in
    valued c.args.x.now _ vs _ _ c.in-Choose.is (choose_opened vs c.in-Choose.c c.in-Choose.a c.in-Choose.b)
    (c.chosen.ensures ∙ pick vs _ _ _ _ _ _ (c.open_quick.ensures ∙ ap (open_meaning vs) c.deref.ensures) c.deref-in-Choose.ensures c.deref-in-Choose-2.ensures)

pub open_operated-returns-in-Prefixed : goal.open_operated-returns-in-Prefixed
open_operated-returns-in-Prefixed t c =
    let vs = c.args.values.now in
    let node = c.in-Prefixed in
    valued c.args.x.now _ vs _ _ node.is (prefixed_opened vs node.op node.ones node.a)
    (c.open_prefixed.ensures ∙ ap (option_map (prefixed_code node.op node.ones)) (c.open_quick-in-Prefixed.ensures ∙ ap (open_meaning vs) c.deref-in-Prefixed.ensures))

pub open_operated-returns-in-Infixed : goal.open_operated-returns-in-Infixed
open_operated-returns-in-Infixed t c =
    let vs = c.args.values.now in
    let node = c.in-Infixed in
    valued c.args.x.now _ vs _ _ node.is (infixed_opened vs node.op node.ones node.a node.b)
    (c.open_infixed.ensures
    ∙ ap₂ (λ a b. open_infixed_code node.op node.ones a b) (c.open_quick-in-Infixed.ensures ∙ ap (open_meaning vs) c.deref-in-Infixed.ensures)
    (c.open_quick-in-Infixed-2.ensures ∙ ap (open_meaning vs) c.deref-in-Infixed-2.ensures))

pub open_operated-returns-in-Concat : goal.open_operated-returns-in-Concat
open_operated-returns-in-Concat t c =
    let vs = c.args.values.now in
    let node = c.in-Concat in
    valued c.args.x.now _ vs _ _ node.is (concat_opened vs node.low node.a node.b)
    (c.concat.ensures
    ∙ ap₂ (both (λ x y. (raised x node.low + y) % 2 ^ 64)) (c.open_quick-in-Concat.ensures ∙ ap (open_meaning vs) c.deref-in-Concat.ensures)
    (c.open_quick-in-Concat-2.ensures ∙ ap (open_meaning vs) c.deref-in-Concat-2.ensures))

pub open_operated-returns-in-PickNet : goal.open_operated-returns-in-PickNet
open_operated-returns-in-PickNet t c =
    let vs = c.args.values.now in
    valued c.args.x.now _ vs _ _ c.in-PickNet.is (net_opened vs c.in-PickNet.place c.in-PickNet.a c.in-PickNet.b)
    (c.chosen-in-PickNet.ensures ∙ pick vs _ _ _ _ _ _ c.open_at-in-PickNet.ensures c.deref-in-PickNet.ensures c.deref-in-PickNet-2.ensures)

pub open_operated-returns-in-PickBit : goal.open_operated-returns-in-PickBit
open_operated-returns-in-PickBit t c =
    let vs = c.args.values.now in
    let node = c.in-PickBit in
    valued c.args.x.now _ vs _ _ node.is (bit_opened vs node.place node.bit node.a node.b)
    (c.chosen-in-PickBit.ensures
    ∙ pick vs _ _ _ _ _ _ (c.part-in-PickBit.ensures ∙ ap (option_map (λ v. bit_and (lowered v node.bit) 1)) c.open_at-in-PickBit.ensures) c.deref-in-PickBit.ensures
    c.deref-in-PickBit-2.ensures)

pub open_value-returns-in-PickNet : goal.open_value-returns-in-PickNet
open_value-returns-in-PickNet t c =
    let vs = c.args.values.now in
    valued c.args.x.now _ vs _ _ c.in-PickNet.is (net_opened vs c.in-PickNet.place c.in-PickNet.a c.in-PickNet.b)
    (c.chosen.ensures ∙ pick vs _ _ _ _ _ _ c.open_at.ensures c.deref.ensures c.deref-in-PickNet.ensures)

pub open_value-returns-in-PickBit : goal.open_value-returns-in-PickBit
open_value-returns-in-PickBit t c =
    let vs = c.args.values.now in
    let node = c.in-PickBit in
    valued c.args.x.now _ vs _ _ node.is (bit_opened vs node.place node.bit node.a node.b)
    (c.chosen-in-PickBit.ensures
    ∙ pick vs _ _ _ _ _ _ (c.part.ensures ∙ ap (option_map (λ v. bit_and (lowered v node.bit) 1)) c.open_at-in-PickBit.ensures) c.deref-in-PickBit.ensures
    c.deref-in-PickBit-2.ensures)
