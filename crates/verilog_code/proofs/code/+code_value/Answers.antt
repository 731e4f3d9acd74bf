use Rattle.std.proofs.Common.{◌≡◌, ◌≢◌, ◌+◌, ◌%◌, ◌^◌, ℕ, Box, Global, List, cond, nat_eq, bit_and, sym, ap, ◌∙◌}
use Rattle.std.proofs.Math.Path.{ap₂}
use Rattle.std.proofs.lemmas.Bool.{ne_eqb}
use Rattle.verilog_tree.specs.declared.tree.UnOp.{UnOp}
use Rattle.verilog_tree.specs.declared.tree.BinOp.{BinOp}
use Rattle.verilog_code.specs.declared.code.Code.{Code}
use Rattle.verilog_code.specs.declared.code.Code as C
use Rattle.verilog_code.specs.Code.{at, lowered, raised, prefixed_code, infixed_code, meaning}
use Rattle.verilog_code.proofs.code.+code_value.Goals as goal

-- what a node is worth, the expression is
valued : (x node : Code) (vs : List ℕ) (worth new : ℕ) → x ≡ node → meaning vs node ≡ worth → new ≡ worth → new ≡ meaning vs x
valued x node vs worth new same means e = e ∙ sym (ap (meaning vs) same ∙ means)

module _ (vs : List ℕ) where
  choose_means : (c a b : Box Code Global) → meaning vs (C.Choose c a b) ≡ cond (nat_eq (meaning vs c.value) 0) (meaning vs b.value) (meaning vs a.value)
  choose_means c a b = search C.the_lemmas

  net_means : (n : ℕ) (a b : Box Code Global) → meaning vs (C.PickNet n a b) ≡ cond (nat_eq (at vs n) 0) (meaning vs b.value) (meaning vs a.value)
  net_means n a b = search C.the_lemmas

  bit_means : (n i : ℕ) (a b : Box Code Global)
      → meaning vs (C.PickBit n i a b) ≡ cond (nat_eq (bit_and (lowered (at vs n) i) 1) 0) (meaning vs b.value) (meaning vs a.value)
  bit_means n i a b = search C.the_lemmas

  prefixed_means : (o : UnOp) (ones : ℕ) (a : Box Code Global) → meaning vs (C.Prefixed o ones a) ≡ prefixed_code o ones (meaning vs a.value)
  prefixed_means o ones a = search C.the_lemmas

  infixed_means : (o : BinOp) (ones : ℕ) (a b : Box Code Global) → meaning vs (C.Infixed o ones a b) ≡ infixed_code o ones (meaning vs a.value) (meaning vs b.value)
  infixed_means o ones a b = search C.the_lemmas

  concat_means : (low : ℕ) (a b : Box Code Global) → meaning vs (C.Concat low a b) ≡ (raised (meaning vs a.value) low + meaning vs b.value) % 2 ^ 64
  concat_means low a b = search C.the_lemmas

  -- what is chosen, by the same condition and the same sides
  choice : (p q : ℕ) (a c b d : Code) → p ≡ q → a ≡ c → b ≡ d → cond (nat_eq p 0) (meaning vs b) (meaning vs a) ≡ cond (nat_eq q 0) (meaning vs d) (meaning vs c)
  choice p q a c b d one first second =
      ap (λ n. cond (nat_eq n 0) (meaning vs b) (meaning vs a)) one ∙ ap₂ (λ n m. cond (nat_eq q 0) n m) (ap (meaning vs) second) (ap (meaning vs) first)

no_zero : (p q x y : ℕ) → p ≢ 0 → p ≡ q → y ≡ cond (nat_eq q 0) x y
no_zero p q x y other is = ap (λ t. cond t x y) (sym (ne_eqb p 0 other)) ∙ ap (λ k. cond (nat_eq k 0) x y) is

zeros : (p q x y : ℕ) → p ≡ 0 → p ≡ q → x ≡ cond (nat_eq q 0) x y
zeros p q x y none is = ap (λ k. cond (nat_eq k 0) x y) (sym none ∙ is)

pub operated-returns-in-Choose : goal.operated-returns-in-Choose
operated-returns-in-Choose t c =
    let vs = c.args.values.now in
    valued c.args.x.now _ vs _ _ c.in-Choose.is (choose_means vs c.in-Choose.c c.in-Choose.a c.in-Choose.b)
    (c.chosen.ensures ∙ choice vs _ _ _ _ _ _ (c.quick.ensures ∙ ap (meaning vs) c.deref.ensures) c.deref-in-Choose.ensures c.deref-in-Choose-2.ensures)

pub operated-returns-in-Prefixed : goal.operated-returns-in-Prefixed
operated-returns-in-Prefixed t c =
    let vs = c.args.values.now in
    let node = c.in-Prefixed in
    valued c.args.x.now _ vs _ _ node.is (prefixed_means vs node.op node.ones node.a)
    (c.prefixed.ensures ∙ ap (prefixed_code node.op node.ones) (c.quick-in-Prefixed.ensures ∙ ap (meaning vs) c.deref-in-Prefixed.ensures))

pub operated-returns-in-Infixed : goal.operated-returns-in-Infixed
operated-returns-in-Infixed t c =
    let vs = c.args.values.now in
    let node = c.in-Infixed in
    valued c.args.x.now _ vs _ _ node.is (infixed_means vs node.op node.ones node.a node.b)
    (c.infixed.ensures
    ∙ ap₂ (λ a b. infixed_code node.op node.ones a b) (c.quick-in-Infixed.ensures ∙ ap (meaning vs) c.deref-in-Infixed.ensures)
    (c.quick-in-Infixed-2.ensures ∙ ap (meaning vs) c.deref-in-Infixed-2.ensures))

pub operated-returns-in-Concat : goal.operated-returns-in-Concat
operated-returns-in-Concat t c =
    let vs = c.args.values.now in
    let node = c.in-Concat in
    valued c.args.x.now _ vs _ _ node.is (concat_means vs node.low node.a node.b)
    (ap₂ (λ x y. (x + y) % 2 ^ 64)
    (c.raised.ensures ∙ ap (λ x. raised x node.low) (c.quick-in-Concat.ensures ∙ ap (meaning vs) c.deref-in-Concat.ensures))
    (c.quick-in-Concat-2.ensures ∙ ap (meaning vs) c.deref-in-Concat-2.ensures))

pub operated-returns-in-PickNet : goal.operated-returns-in-PickNet
operated-returns-in-PickNet t c =
    let vs = c.args.values.now in
    valued c.args.x.now _ vs _ _ c.in-PickNet.is (net_means vs c.in-PickNet.place c.in-PickNet.a c.in-PickNet.b)
    (c.chosen-in-PickNet.ensures ∙ choice vs _ _ _ _ _ _ c.at-in-PickNet.ensures c.deref-in-PickNet.ensures c.deref-in-PickNet-2.ensures)

pub operated-returns-in-PickBit : goal.operated-returns-in-PickBit
operated-returns-in-PickBit t c =
    let vs = c.args.values.now in
    let node = c.in-PickBit in
    valued c.args.x.now _ vs _ _ node.is (bit_means vs node.place node.bit node.a node.b)
    (c.chosen-in-PickBit.ensures
    ∙ choice vs _ _ _ _ _ _ (ap (λ n. bit_and n 1) (c.lowered-in-PickBit.ensures ∙ ap (λ n. lowered n node.bit) c.at-in-PickBit.ensures)) c.deref-in-PickBit.ensures
    c.deref-in-PickBit-2.ensures)

pub value-returns-then-at-ne0 : goal.value-returns-then-at-ne0
value-returns-then-at-ne0 t c =
    let vs = c.args.values.now in
    valued c.args.x.now _ vs _ _ c.in-PickNet.is (net_means vs c.in-PickNet.place c.in-PickNet.a c.in-PickNet.b)
    (c.value.ensures ∙ ap (meaning vs) c.deref.ensures ∙ no_zero c.at.result _ _ _ c.if-at-ne0.true c.at.ensures)

pub value-returns-else-at-ne0 : goal.value-returns-else-at-ne0
value-returns-else-at-ne0 t c =
    let vs = c.args.values.now in
    valued c.args.x.now _ vs _ _ c.in-PickNet.is (net_means vs c.in-PickNet.place c.in-PickNet.a c.in-PickNet.b)
    (c.value-else-at-ne0.ensures ∙ ap (meaning vs) c.deref-else-at-ne0.ensures ∙ zeros c.at.result _ _ _ c.if-at-ne0.false c.at.ensures)
