use Rattle.std.proofs.Common.{List, [], ap, append-nil, append_assoc, sym, ◌++◌, ◌∙◌, ◌∷◌, ◌≡◌}
use Rattle.fault_core.specs.declared.primitive.Act.TheVariants.{Write, Read, Pause}
use Rattle.dynamic_core.specs.Primitive.{DynamicSense}
use Rattle.dynamic_core.proofs.Wrong.{is_wrong, none_wrong, wrong_by, leaves_other, flips_and_tells, flips_and_hides, answers_other}
use Rattle.dynamic_core.proofs.table.append_wrong.Goals as goal

three : {X : Type 0} (old one two now : List X) (a b c : X) → one ≡ old ++ a ∷ [] → two ≡ one ++ b ∷ [] → now ≡ two ++ c ∷ [] → now ≡ old ++ a ∷ b ∷ c ∷ []
three old one two now a b c e f g = g ∙ ap (λ xs. xs ++ c ∷ []) f ∙ ap (λ xs. (xs ++ b ∷ []) ++ c ∷ []) e ∙ simp append_assoc

pub of_parts-requires : goal.of_parts-requires
of_parts-requires g c =
    is_wrong c.args.agg.now c.args.vic.now c.vic.inside.state c.vic.inside.acts c.in-Some.acts _ _ c.left_by-left.result _ _ c.requires.aggressor c.requires.accesses
    (ap (λ (s : DynamicSense). s.acts) c.vic.view_is) c.vic.invariant c.in-Some.is c.left_by-left.ensures (leaves_other _ c.left_by-left.result c.in-Write.bit c.in-Write.is)

pub of_parts-requires-in-Read : goal.of_parts-requires-in-Read
of_parts-requires-in-Read g c =
    is_wrong c.args.agg.now c.args.vic.now c.vic.inside.state c.vic.inside.acts c.in-Some.acts _ _ c.left_by-left.result _ _ c.requires.aggressor c.requires.accesses
    (ap (λ (s : DynamicSense). s.acts) c.vic.view_is) c.vic.invariant c.in-Some.is c.left_by-left.ensures (flips_and_tells _ c.left_by-left.result c.in-Read.is)

pub of_parts-requires-in-Read-2 : goal.of_parts-requires-in-Read-2
of_parts-requires-in-Read-2 g c =
    is_wrong c.args.agg.now c.args.vic.now c.vic.inside.state c.vic.inside.acts c.in-Some.acts _ _ c.left_by-left.result _ _ c.requires.aggressor c.requires.accesses
    (ap (λ (s : DynamicSense). s.acts) c.vic.view_is) c.vic.invariant c.in-Some.is c.left_by-left.ensures (flips_and_hides _ c.left_by-left.result c.in-Read.is)

pub of_parts-requires-in-Read-3 : goal.of_parts-requires-in-Read-3
of_parts-requires-in-Read-3 g c =
    is_wrong c.args.agg.now c.args.vic.now c.vic.inside.state c.vic.inside.acts c.in-Some.acts _ _ c.left_by-left.result _ _ c.requires.aggressor c.requires.accesses
    (ap (λ (s : DynamicSense). s.acts) c.vic.view_is) c.vic.invariant c.in-Some.is c.left_by-left.ensures (answers_other _ c.left_by-left.result c.in-Read.is)

pub returns-in_default : goal.returns-in_default
returns-in_default g c = sym (append-nil _) ∙ ap (λ ps. c.args.prims.now.items ++ ps) (sym (none_wrong c.args.agg.now c.args.vic.now c.vic.inside.state c.vic.inside.acts c.vic.view_is c.in_default.is))

pub returns-in-Write : goal.returns-in-Write
returns-in-Write g c =
    c.push.ensures.items ∙ ap (λ p. c.args.prims.now.items ++ p ∷ []) c.of_parts.ensures
    ∙ ap (λ ps. c.args.prims.now.items ++ ps)
    (sym (wrong_by c.args.agg.now c.args.vic.now c.vic.inside.state c.vic.inside.acts c.in-Some.acts _ _ c.left_by-left.result (Write c.in-Write.bit) c.vic.view_is c.vic.invariant c.in-Some.is c.left_by-left.ensures c.in-Write.is))

pub returns-in-Read : goal.returns-in-Read
returns-in-Read g c =
    three c.args.prims.now.items c.push-in-Read.new.self.items c.push-in-Read-2.new.self.items _ _ _ _ (c.push-in-Read.ensures.items ∙ ap (λ p. c.args.prims.now.items ++ p ∷ []) c.of_parts-in-Read.ensures)
    (c.push-in-Read-2.ensures.items ∙ ap (λ p. c.push-in-Read.new.self.items ++ p ∷ []) c.of_parts-in-Read-2.ensures)
    (c.push-in-Read-3.ensures.items ∙ ap (λ p. c.push-in-Read-2.new.self.items ++ p ∷ []) c.of_parts-in-Read-3.ensures)
    ∙ ap (λ ps. c.args.prims.now.items ++ ps)
    (sym (wrong_by c.args.agg.now c.args.vic.now c.vic.inside.state c.vic.inside.acts c.in-Some.acts _ _ c.left_by-left.result Read c.vic.view_is c.vic.invariant c.in-Some.is c.left_by-left.ensures c.in-Read.is))

pub returns-in-Pause : goal.returns-in-Pause
returns-in-Pause g c =
    sym (append-nil _)
    ∙ ap (λ ps. c.args.prims.now.items ++ ps)
    (sym (wrong_by c.args.agg.now c.args.vic.now c.vic.inside.state c.vic.inside.acts c.in-Some.acts _ _ c.left_by-left.result Pause c.vic.view_is c.vic.invariant c.in-Some.is c.left_by-left.ensures c.in-Pause.is))
