use mathlib.Core.Bool.{true≢false}
use Rattle.std.proofs.Common.{None, Option, Some, ap, refl, subst, sym, ◌≡◌}
use Rattle.std.specs.Option.{MatchOption}
use Rattle.fault_syntax.specs.PrimText.{PrimParts}
use Rattle.fault_syntax.specs.Brief.{read_parts_of}
use Rattle.fault_syntax.specs.declared.reader.ReadParts.{ReadParts}
use Rattle.dynamic_core.specs.ItemParts.{StandsForDynamic}
use Rattle.dynamic_core.specs.Primitive.{DynamicPrimitive, IsDynamic}
use Rattle.dynamic_core.proofs.Standing.{dynamic_one}
use Rattle.dynamic_core.proofs.judge.dynamic_of.Goals.{After-new}
use Rattle.dynamic_core.proofs.judge.dynamic_of.Goals as goal

none : {A : Type 0} (N : Type 0) (P : A → Type 0) (o : Option A) → o ≡ None → N → MatchOption o N P
none N P None e n = n
none N P (Some a) e n = (let z : ⊥ = cc in absurd z)

pub returns-in_err-agg : goal.returns-in_err-agg
returns-in_err-agg c = λ text kept. none _ _ c.from_residual.result c.from_residual.ensures (λ p s _. c.in_err-agg.ensures text.agg (ap (λ (r : ReadParts). r.agg) kept) p.agg s.agg)

pub returns-in_err-vic : goal.returns-in_err-vic
returns-in_err-vic c = λ text kept. none _ _ c.from_residual-in_err-vic.result c.from_residual-in_err-vic.ensures (λ p s _. c.in_err-vic.ensures text.vic (ap (λ (r : ReadParts). r.vic) kept) p.vic s.vic)

-- the parts of which a primitive is made
abbrev parts : After-new → DynamicPrimitive
parts c = record { agg = c.in_ok-agg.agg; vic = c.in_ok-vic.vic; after = c.args.parts.after; answer = c.args.parts.answer }

stand : (c : After-new) (text : PrimParts) → c.args.parts ≡ read_parts_of text → StandsForDynamic text (parts c)
stand c text kept = record {
  agg = c.in_ok-agg.ensures text.agg (ap (λ (r : ReadParts). r.agg) kept);
  vic = c.in_ok-vic.ensures text.vic (ap (λ (r : ReadParts). r.vic) kept);
  after = ap (λ (r : ReadParts). r.after) kept;
  answer = ap (λ (r : ReadParts). r.answer) kept;
}

pub returns-in-Ok : goal.returns-in-Ok
returns-in-Ok c = λ text kept. subst (λ p. StandsForDynamic text p × IsDynamic p) (sym c.in-Ok.ensures.value) (stand (goal.at.returns-in-Ok c).After-new text kept, c.in-Ok.ensures.variant.0 refl)

pub returns-in-Err : goal.returns-in-Err
returns-in-Err c = λ text kept p s d.
    let new = (goal.at.returns-in-Err c).After-new in
    true≢false (sym (c.in-Err.ensures.variant.1 (subst IsDynamic (dynamic_one text p (parts new) s (stand new text kept)) d)))
