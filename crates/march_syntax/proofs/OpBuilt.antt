-- What a builder's answer to an operation says of the limits.
use Rattle.std.proofs.Common.{◌≡◌, refl, ◌↔◌, ◌-◌, ◌<◌, ◌≤◌, Bool, true, false, List, [], ◌∷◌, length, Option, Some, None, Result, Ok, Err, OnOk, IsOk, is_some, sym, subst, arith, ◌⊎◌, inl, inr}
use Rattle.std.specs.List.{AllByRecursion}
use Rattle.std.specs.Result.{result_err}
use Rattle.march_core.specs.declared.operation.Op.{Op}
use Rattle.march_core.specs.declared.fault.MarchFault.{MarchFault}
use Rattle.march_core.specs.declared.fault.MarchFault.TheVariants.{TooManyOps, TooManyInAll}
use Rattle.march_core.specs.Building.{with_op, last_ops}
use Rattle.march_core.specs.March.{MarchElement, ops_of, all_ops}
use Rattle.march_core.proofs.Built.{sweep_is_some, length-with_op, within-with_op, length-all_ops-with_op}
use Rattle.march_syntax.specs.declared.place.Event.{Event}
use Rattle.march_syntax.specs.declared.place.Event.TheVariants.{Quiet, Begins, Adds, Ends, Waits}
use Rattle.march_syntax.specs.inner.Building.{CanAdd, Builds}
use Rattle.march_syntax.specs.Limits.{IsWithin}

last_within : (es : List MarchElement) → AllByRecursion (λ e. length (ops_of e) ≤ 16) es → 0 < length es → length (last_ops es) ≤ 16
last_within [] all some = absurd (omega arith)
last_within (x ∷ []) all some = all.0
last_within (x ∷ f ∷ es) all some = last_within (f ∷ es) all.1 (omega arith)

-- the elements with one more operation, where there was room
within_op : (es : List MarchElement) (op : Op) → IsWithin es → 0 < length es → length (last_ops es) < 16 → length (all_ops es) < 256 → IsWithin (with_op es op)
within_op es op w some room all = record {
  elements_within = omega (arith, length-with_op es op, w.elements_within);
  each = within-with_op es op w.each room;
  ops_within = omega (arith, length-all_ops-with_op es op some);
}

-- a builder answers to an operation by the limits, 16 in the last element before 256 in all
pub record AnswersOp (es : List MarchElement) (op : Op) (r : Result (Unit {0}) MarchFault) (new : List MarchElement) : Type 0 where
  pub ok : OnOk r (new ≡ with_op es op)
  pub too_many : length (last_ops es) ≡ 16 → r ≡ Err (TooManyOps (length es - 1))
  pub too_many_in_all : length (last_ops es) < 16 → length (all_ops es) ≡ 256 → r ≡ Err TooManyInAll
  pub variant : IsOk r ↔ ((length (last_ops es) < 16) × (length (all_ops es) < 256))

built : (es new : List MarchElement) (op : Op) (r : Result (Unit {0}) MarchFault)
    → IsWithin es → 0 < length es → AnswersOp es op r new → Builds None (Adds op) es (result_err r) new
built es new op (Ok u) w some a =
    let room = a.variant.0 refl in
    (a.ok, subst IsWithin (sym a.ok) (within_op es op w some room.0 room.1))
built es new op (Err f) w some a =
    elim last [
      | inl full ↦ inl (fault_is f _ (a.too_many full), full)
      | inr room ↦ elim all [
        | inl full ↦ inr (fault_is f _ (a.too_many_in_all room full), room, full)
        | inr more ↦ absurd (not_ok (a.variant.1 (room, more)))
      ]
    ]
  where
    last : (length (last_ops es) ≡ 16) ⊎ (length (last_ops es) < 16)
    last = let most : length (last_ops es) ≤ 16 = last_within es w.each some in grind arith

    all : (length (all_ops es) ≡ 256) ⊎ (length (all_ops es) < 256)
    all = let most : length (all_ops es) ≤ 256 = w.ops_within in grind arith

    not_ok : (let b : Bool = false in b ≡ true) → ⊥
    not_ok e = cc

    fault_is : (f g : MarchFault) → (let r : Result (Unit {0}) MarchFault = Err f in r ≡ Err g) → f ≡ g
    fault_is f g e = cc

pub op_built : (exceeded : Option MarchFault) (event : Event) (es new : List MarchElement) (op : Op) (r : Result (Unit {0}) MarchFault) (o : Option MarchFault)
    → CanAdd exceeded event es → is_some exceeded ≡ false → event ≡ Adds op → AnswersOp es op r new → o ≡ result_err r → Builds exceeded event es o new
op_built (Some f) event es new op r o can none is a e = cc
op_built None Quiet es new op r o can none is a e = cc
op_built None (Begins x) es new op r o can none is a e = cc
op_built None Ends es new op r o can none is a e = cc
op_built None Waits es new op r o can none is a e = cc
op_built None (Adds x) es new op r o can none is a e =
    let same : x ≡ op = cc in subst (λ y. Builds None (Adds y) es o new) (sym same) (rw e (built es new op r can.0 (sweep_is_some es can.1) a))
