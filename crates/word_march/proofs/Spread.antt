-- Where the operations of a list of steps stand, when each pause takes some cycles.
use Rattle.std.proofs.Common.{◌≡◌, ℕ, zero, suc, ◌+◌, ◌*◌, List, [], ◌∷◌, ◌++◌, length, map, replicate, slice_get, filter_map, flat_map, Option, Some, None, refl, sym, ◌∙◌, ap, arith, mul-suc, mul-zero, length-append, zero-add}
use Rattle.std.proofs.lemmas.List.{length-replicate}
use Rattle.std.proofs.lemmas.Option.{same_Some}
use Rattle.memory_desc.specs.Descriptions.{Description}
use Rattle.word_march.specs.declared.operations.WordOp.{WordOp}
use Rattle.word_march.specs.declared.operations.PortOp.{PortOp}
use Rattle.word_march.specs.Commands.{port_op, pauses_before, pauses, spread}

-- behind the cycles of a pause
behind : {A : Type 0} (n k : ℕ) (xs : List (Option A)) → slice_get (replicate n None ++ xs) (n + k) ≡ slice_get xs k
behind zero k xs = ap (slice_get xs) (zero-add k)
behind (suc n) k xs = let on : suc n + k ≡ suc (n + k) = omega arith in ap (slice_get (replicate (suc n) None ++ xs)) on ∙ behind n k xs

none_is_some : {A : Type 0} {P : Type 0} (x : A) → ◌≡◌ {A = Option A} None (Some x) → P
none_is_some x h = cc

-- an operation stands behind the cycles of a pause
from_behind : {A : Type 0} (n k : ℕ) (xs : List (Option A)) (x : A) → slice_get (replicate n None ++ xs) k ≡ Some (Some x)
    → (m : ℕ) × (k ≡ n + m) × (slice_get xs m ≡ Some (Some x))
from_behind zero k xs x h = (k, sym (zero-add k), h)
from_behind (suc n) zero xs x h = none_is_some x (same_Some _ _ h)
from_behind (suc n) (suc k) xs x h = let r = from_behind n k xs x h in let at = r.1 in (r.0, omega arith, r.2)

-- nothing but idle cycles
no_operation : {A : Type 0} (n : ℕ) (xs : List (Option A)) → filter_map (λ s. s) (replicate n None ++ xs) ≡ filter_map (λ s. s) xs
no_operation zero xs = refl
no_operation (suc n) xs = no_operation n xs

module _ (d : Description) where
  abbrev pub cycles : List (Option WordOp) → List (Option PortOp)
  cycles steps = flat_map (spread d) steps

  abbrev commands : List (Option WordOp) → List PortOp
  commands steps = map (port_op d) (filter_map (λ s. s) steps)

  abbrev pub place : List (Option WordOp) → ℕ → ℕ
  place steps j = j + d.pause * pauses_before steps j

  pub all_commands : (steps : List (Option WordOp)) → filter_map (λ s. s) (cycles steps) ≡ commands steps
  all_commands [] = refl
  all_commands (None ∷ steps) = no_operation d.pause (cycles steps) ∙ all_commands steps
  all_commands (Some o ∷ steps) = ap (λ cs. port_op d o ∷ cs) (all_commands steps)

  pub length-cycles : (steps : List (Option WordOp)) → length (cycles steps) ≡ length (commands steps) + d.pause * pauses steps
  length-cycles [] = let none = mul-zero d.pause in omega arith
  length-cycles (None ∷ steps) =
      let both = length-append (replicate {A = Option PortOp} d.pause None) (cycles steps) in
      let idle = length-replicate {A = Option PortOp} d.pause None in
      let rest = length-cycles steps in
      let one = mul-suc d.pause (pauses steps) in
      omega arith
  length-cycles (Some o ∷ steps) = let rest = length-cycles steps in omega arith

  -- behind a pause, and behind an operation
  pub behind_pause : (steps : List (Option WordOp)) (j : ℕ) → place (None ∷ steps) j ≡ d.pause + place steps j
  behind_pause steps j = let one = mul-suc d.pause (pauses_before steps j) in omega arith

  pub first_place : (o : WordOp) (steps : List (Option WordOp)) → place (Some o ∷ steps) zero ≡ 0
  first_place o steps = let none = mul-zero d.pause in omega arith

  pub next_place : (o : WordOp) (steps : List (Option WordOp)) (j : ℕ) → place (Some o ∷ steps) (suc j) ≡ suc (place steps j)
  next_place o steps j = omega arith

  pub command_stands : (steps : List (Option WordOp)) (j : ℕ) (c : PortOp) → slice_get (commands steps) j ≡ Some c
      → slice_get (cycles steps) (place steps j) ≡ Some (Some c)
  command_stands [] j c h = none_is_some c h
  command_stands (None ∷ steps) j c h =
      ap (slice_get (cycles (None ∷ steps))) (behind_pause steps j) ∙ behind d.pause (place steps j) (cycles steps) ∙ command_stands steps j c h
  command_stands (Some o ∷ steps) zero c h = ap (slice_get (cycles (Some o ∷ steps))) (first_place o steps) ∙ ap Some h
  command_stands (Some o ∷ steps) (suc j) c h = ap (slice_get (cycles (Some o ∷ steps))) (next_place o steps j) ∙ command_stands steps j c h

  pub only_commands : (steps : List (Option WordOp)) (k : ℕ) (c : PortOp) → slice_get (cycles steps) k ≡ Some (Some c)
      → (j : ℕ) × (slice_get (commands steps) j ≡ Some c) × (k ≡ place steps j)
  only_commands [] k c h = none_is_some (Some c) h
  only_commands (None ∷ steps) k c h =
      let r = from_behind d.pause k (cycles steps) c h in
      let q = only_commands steps r.0 c r.2 in
      (q.0, q.1, r.1 ∙ ap (λ (n : ℕ). d.pause + n) q.2 ∙ sym (behind_pause steps q.0))
  only_commands (Some o ∷ steps) zero c h = (0, same_Some _ _ h, sym (first_place o steps))
  only_commands (Some o ∷ steps) (suc k) c h =
      let q = only_commands steps k c h in
      (suc q.0, q.1, ap suc q.2 ∙ sym (next_place o steps q.0))
