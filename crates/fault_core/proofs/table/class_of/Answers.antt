use Rattle.std.proofs.Common.{Bool, None, Option, rules, Some, ap, subst, sym, ◌∙◌, ◌≡◌}
use Rattle.std.specs.List.{Contains}
use Rattle.fault_core.specs.Classes.{class_beside, class_by_aggressor, class_by_parts, class_of_victim, coupled}
use Rattle.fault_core.specs.Primitive.{IsPrimitive, Primitive}
use Rattle.fault_core.specs.Table.{members_of}
use Rattle.fault_core.specs.declared.primitive.Act.{Act}
use Rattle.fault_core.specs.declared.primitive.Sense.{Sense}
use Rattle.fault_core.specs.declared.table.Class.{Class}
use Rattle.fault_core.specs.declared.table.Class.TheVariants.{CFds}
use Rattle.fault_core.proofs.EveryPrimitive.{class_has, class_only}
use Rattle.fault_core.proofs.table.class_of.Goals as goal

abbrev own_of : Primitive → Class
own_of p = class_of_victim p.vic.act p.vic.state p.after p.answer

own_is : (p : Primitive) (own : Class) (vic : Sense) (after : Bool) (answer : Option Bool) → own ≡ class_of_victim vic.act vic.state after answer → vic ≡ p.vic → after ≡ p.after → answer ≡ p.answer → own ≡ own_of p
own_is p own vic after answer e v a w =
    e ∙ ap (λ (v : Sense). class_of_victim v.act v.state after answer) v ∙ ap (λ a. class_of_victim p.vic.act p.vic.state a answer) a ∙ ap (class_of_victim p.vic.act p.vic.state p.after) w

-- by what the aggressor is
module _ (p : Primitive) (own : Class) (agg : Option Sense) (told : agg ≡ p.agg) (is : own ≡ own_of p) where
  alone : agg ≡ None → own ≡ class_by_parts p
  alone e = is ∙ ap (λ a. class_beside a (own_of p)) (sym e ∙ told)

  holding : (s : Sense) → agg ≡ Some s → s.act ≡ None → coupled own ≡ class_by_parts p
  holding s e f = ap coupled is ∙ ap (λ a. class_by_aggressor a (own_of p)) (sym f) ∙ ap (λ a. class_beside a (own_of p)) (sym e ∙ told)

acting : (p : Primitive) (agg : Option Sense) (s : Sense) (act : Act) → agg ≡ p.agg → agg ≡ Some s → s.act ≡ Some act → CFds ≡ class_by_parts p
acting p agg s act told e f = ap (λ a. class_by_aggressor a (own_of p)) (sym f) ∙ ap (λ a. class_beside a (own_of p)) (sym e ∙ told)

member : (p : Primitive) (class : Class) → IsPrimitive p → class ≡ class_by_parts p → Contains (members_of class) p
member p class is e = subst (λ c. Contains (members_of c) p) (sym e) (class_has p is)

pub returns-in-None-clause-by_parts : goal.returns-in-None-clause-by_parts
returns-in-None-clause-by_parts c =
    alone c.args.prim.now c.victim_class-own.result c.agg.result c.agg.ensures.value (own_is c.args.prim.now _ c.vic.result c.after.result c.answer.result c.victim_class-own.ensures c.vic.ensures c.after.ensures c.answer.ensures) c.in-None.is

pub returns-in-None-clause-member : goal.returns-in-None-clause-member
returns-in-None-clause-member c = member c.args.prim.now _ c.agg.ensures.primitive (returns-in-None-clause-by_parts c)

pub returns-in-None-clause-only : goal.returns-in-None-clause-only
returns-in-None-clause-only c = λ class h. class_only c.args.prim.now class h ∙ sym (returns-in-None-clause-by_parts c)

pub returns-in-Some-None-clause-by_parts : goal.returns-in-Some-None-clause-by_parts
returns-in-Some-None-clause-by_parts c =
    let f : c.in-Some-None.field-0.act ≡ None = search rules in
    c.beside_a_state.ensures
    ∙ holding c.args.prim.now c.victim_class-own.result c.agg.result c.agg.ensures.value (own_is c.args.prim.now _ c.vic.result c.after.result c.answer.result c.victim_class-own.ensures c.vic.ensures c.after.ensures c.answer.ensures) c.in-Some-None.field-0 c.in-Some-None.is f

pub returns-in-Some-None-clause-member : goal.returns-in-Some-None-clause-member
returns-in-Some-None-clause-member c = member c.args.prim.now _ c.agg.ensures.primitive (returns-in-Some-None-clause-by_parts c)

pub returns-in-Some-None-clause-only : goal.returns-in-Some-None-clause-only
returns-in-Some-None-clause-only c = λ class h. class_only c.args.prim.now class h ∙ sym (returns-in-Some-None-clause-by_parts c)

pub returns-in-Some-Some-clause-by_parts : goal.returns-in-Some-Some-clause-by_parts
returns-in-Some-Some-clause-by_parts c =
    let f : (act : Act) × (c.in-Some-Some.field-0.act ≡ Some act) = search rules in
    acting c.args.prim.now c.agg.result c.in-Some-Some.field-0 f.0 c.agg.ensures.value c.in-Some-Some.is f.1

pub returns-in-Some-Some-clause-member : goal.returns-in-Some-Some-clause-member
returns-in-Some-Some-clause-member c = member c.args.prim.now CFds c.agg.ensures.primitive (returns-in-Some-Some-clause-by_parts c)

pub returns-in-Some-Some-clause-only : goal.returns-in-Some-Some-clause-only
returns-in-Some-Some-clause-only c = λ class h. class_only c.args.prim.now class h ∙ sym (returns-in-Some-Some-clause-by_parts c)
