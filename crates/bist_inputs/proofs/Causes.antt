-- A refusal that no file's reading gave has its cause, and so has that of a unit's input.
use Rattle.std.proofs.Common.{ℕ, Result, Ok, Err, Option, IfErr}
use Rattle.bist_host.specs.Files.{Files}
use Rattle.bist_endings.specs.declared.ending.Refusal.{Refusal}
use Rattle.bist_inputs.specs.Inputs.{HasReadCause, IsOwnRefusal}
use Rattle.bist_inputs.specs.Chips.{of_unit}

pub own_cause : {A : Type 0} (files : Option Files) (rose : Type 0) (r : Result A Refusal)
    → IfErr r (λ e. IsOwnRefusal e) → HasReadCause files rose r
own_cause files rose (Ok a) own = tt
own_cause files rose (Err (Refusal.TooLarge p)) own = absurd own
own_cause files rose (Err (Refusal.ReadFailed p)) own = absurd own
own_cause files rose (Err (Refusal.Absent p)) own = absurd own
own_cause files rose (Err (Refusal.Unit unit refusal)) own = absurd own
own_cause files rose (Err other) own = tt

-- a refusal has its cause where its input is a unit's, too
pub unit_cause : {A : Type 0} (files : Option Files) (rose : Type 0) (unit : ℕ) (r : Result A Refusal)
    → HasReadCause files rose r → HasReadCause files rose (of_unit unit r)
unit_cause files rose unit (Ok a) cause = tt
unit_cause files rose unit (Err (Refusal.March f)) cause = tt
unit_cause files rose unit (Err (Refusal.Memory f)) cause = tt
unit_cause files rose unit (Err other) cause = cause
