-- Which status comes from what.
use Rattle.bist_app.proofs.Common.{◌≡◌, ◌⊎◌, inl, inr, ℕ, Bool, true, false, Option, Some, None, Result, Ok, Err, ◌∙◌, ap, refl, subst, ◌<◌, ◌≤◌, arith, Files, HostState, ReadsRose, WritesRose, InputRefusal, Refusal, WriteStop, Words, Done, status_of, found_status, HasReadCause, RefusalEnds, SaysAfterWrites, Boxes, row_of, Runs, Decides, HasNoShape, Command}
use Rattle.bist_app.proofs.OneCommand.{command_one}
use Rattle.bist_app.proofs.OneAnswer.{never_usage}
use Rattle.bist_app.proofs.Table.{facts_of}

-- 0 or 1
found_low : (b : Bool) (n : ℕ) → n ≡ found_status b → n < 2
found_low false n e = omega arith
found_low true n e = omega arith

-- after the writes the status is 0, 1, 8 or 9
after_writes : (done : Done) (old new : HostState) (stop : Result (Unit {0}) WriteStop) (n : ℕ)
    → SaysAfterWrites done old new stop n → 2 ≤ n → n < 8 → ⊥
after_writes done old new (Ok _) n (inl h) low high = let small = found_low done.found n h.0 in omega (arith, small)
after_writes done old new (Ok _) n (inr (inl h)) low high = omega (arith, h.0)
after_writes done old new (Ok _) n (inr (inr h)) low high = omega (arith, h.0)
after_writes done old new (Err (WriteStop.Failed p)) n h low high = omega (arith, h.0)
after_writes done old new (Err WriteStop.NoMemory) n h low high = omega (arith, h.0)

done_below : (done : Done) (old new : HostState) (stop : Result (Unit {0}) WriteStop) (n : ℕ)
    → SaysAfterWrites done old new stop n → 9 < n → ⊥
done_below done old new (Ok _) n (inl h) high = let small = found_low done.found n h.0 in omega (arith, small)
done_below done old new (Ok _) n (inr (inl h)) high = omega (arith, h.0)
done_below done old new (Ok _) n (inr (inr h)) high = omega (arith, h.0)
done_below done old new (Err (WriteStop.Failed p)) n h high = omega (arith, h.0)
done_below done old new (Err WriteStop.NoMemory) n h high = omega (arith, h.0)

-- it is 8 only where the count of writes rose
failed_writes : (done : Done) (old new : HostState) (stop : Result (Unit {0}) WriteStop) (n : ℕ)
    → SaysAfterWrites done old new stop n → n ≡ 8 → WritesRose old new
failed_writes done old new (Ok _) n (inl h) k = let small = found_low done.found n h.0 in absurd (omega (arith, small))
failed_writes done old new (Ok _) n (inr (inl h)) k = h.1
failed_writes done old new (Ok _) n (inr (inr h)) k = absurd (omega (arith, h.0))
failed_writes done old new (Err (WriteStop.Failed p)) n h k = h.1
failed_writes done old new (Err WriteStop.NoMemory) n h k = absurd (omega (arith, h.0))

-- no refusal has the status of a failed write
not_eight : (e : Refusal) (n : ℕ) → n ≡ status_of e → n ≡ 8 → ⊥
not_eight Refusal.Usage n h k = omega arith
not_eight (Refusal.Unit u (InputRefusal.March f)) n h k = omega arith
not_eight other n h k = omega arith

two_is_usage : (e : Refusal) (n : ℕ) → n ≡ status_of e → n ≡ 2 → e ≡ Refusal.Usage
two_is_usage Refusal.Usage n h k = refl
two_is_usage (Refusal.Unit u (InputRefusal.March f)) n h k = absurd (omega arith)
two_is_usage other n h k = absurd (omega arith)

read_cause : (files : Option Files) (rr : Type 0) (e : Refusal) (n : ℕ) → n ≡ status_of e → n ≡ 7 → HasReadCause {A = Done} files rr (Err e) → rr
read_cause files rr (Refusal.ReadFailed p) n h k c = c
read_cause files rr (Refusal.Unit u (InputRefusal.ReadFailed p)) n h k c = c
read_cause files rr other n h k c = absurd (omega arith)

-- how a refusal's status comes: its own, or 9
refusal_status : (e : Refusal) (old new : HostState) (n : ℕ) → RefusalEnds e old new n → (n ≡ status_of e) ⊎ (n ≡ 9)
refusal_status e old new n (inl h) = inl h.0
refusal_status e old new n (inr (inl h)) = inl h.0
refusal_status e old new n (inr (inr h)) = inr h.0

-- a read fault comes only where the count of reads rose
pub read_fault_rose : (words : Words) (boxes left : Boxes) (old new : HostState) (n : ℕ)
    → Runs words boxes left old new n → n ≡ 7 → ReadsRose old new
read_fault_rose words boxes left old new n (Ok done, decides, cause, (stop, writes, says)) k = absurd (after_writes done old new stop n says (omega arith) (omega arith))
read_fault_rose words boxes left old new n (Err e, decides, cause, (same, ends)) k =
    elim (refusal_status e old new n ends) [ inl h ↦ read_cause old.files (ReadsRose old new) e n h k cause | inr h ↦ absurd (omega arith) ]

-- a write fault comes only where the count of writes rose
pub write_fault_rose : (words : Words) (boxes left : Boxes) (old new : HostState) (n : ℕ)
    → Runs words boxes left old new n → n ≡ 8 → WritesRose old new
write_fault_rose words boxes left old new n (Ok done, decides, cause, (stop, writes, says)) k = failed_writes done old new stop n says k
write_fault_rose words boxes left old new n (Err e, decides, cause, (same, ends)) k =
    elim (refusal_status e old new n ends) [ inl h ↦ absurd (not_eight e n h k) | inr h ↦ absurd (omega arith) ]

silent_cause : (rr : Type 0) (e : Refusal) (n : ℕ) → n ≡ status_of e → (n ≡ 6) ⊎ (n ≡ 10) → HasReadCause {A = Done} None rr (Err e) → rr
silent_cause rr (Refusal.TooLarge p) n h k c = c
silent_cause rr (Refusal.ReadFailed p) n h k c = c
silent_cause rr (Refusal.Absent p) n h k c = c
silent_cause rr (Refusal.Unit u (InputRefusal.TooLarge p)) n h k c = c
silent_cause rr (Refusal.Unit u (InputRefusal.ReadFailed p)) n h k c = c
silent_cause rr (Refusal.Unit u (InputRefusal.Absent p)) n h k c = c
silent_cause rr other n h k c = absurd (omega arith)

-- over files that aren't told, a file is absent or too large only where the count of reads rose
pub silent_rose : (words : Words) (boxes left : Boxes) (old new : HostState) (n : ℕ)
    → Runs words boxes left old new n → old.files ≡ None → (n ≡ 6) ⊎ (n ≡ 10) → ReadsRose old new
silent_rose words boxes left old new n (Ok done, decides, cause, (stop, writes, says)) none (inl k) = absurd (after_writes done old new stop n says (omega arith) (omega arith))
silent_rose words boxes left old new n (Ok done, decides, cause, (stop, writes, says)) none (inr k) = absurd (done_below done old new stop n says (omega arith))
silent_rose words boxes left old new n (Err e, decides, cause, (same, ends)) none k =
    let silent : HasReadCause {A = Done} None (ReadsRose old new) (Err e) = subst (λ (f : Option Files). HasReadCause {A = Done} f (ReadsRose old new) (Err e)) none cause in
    elim (refusal_status e old new n ends) [ inl h ↦ silent_cause (ReadsRose old new) e n h k silent | inr h ↦ absurd (omega arith) ]

-- words without a shape are refused as such
no_shape_refused : (files : Option Files) (boxes left : Boxes) (words : Words) (outcome : Result Done Refusal) → Decides files boxes left words outcome
    → HasNoShape words → outcome ≡ Err Refusal.Usage
no_shape_refused files boxes left words outcome (None, (form, is, _)) none = is
no_shape_refused files boxes left words outcome (Some command, (form, rest)) none =
    elim ((facts_of command).said files boxes left words outcome rest) [ inl h ↦ h.0 | inr h ↦ absurd (none command (form, h)) ]

-- and end with 2, or 9
pub no_shape_ends : (words : Words) (boxes left : Boxes) (old new : HostState) (n : ℕ)
    → Runs words boxes left old new n → HasNoShape words → (n ≡ 2) ⊎ (n ≡ 9)
no_shape_ends words boxes left old new n (Ok done, decides, cause, ends) none =
    let is = no_shape_refused old.files boxes left words (Ok done) decides none in cc
no_shape_ends words boxes left old new n (Err e, decides, cause, (same, ends)) none =
    let is = no_shape_refused old.files boxes left words (Err e) decides none in
    let usage : e ≡ Refusal.Usage = cc in
    elim (refusal_status e old new n ends) [ inl h ↦ inl (h ∙ ap status_of usage) | inr h ↦ inr h ]

-- words that are refused as such have no shape
refused_no_shape : (files : Option Files) (boxes left : Boxes) (words : Words) → Decides files boxes left words (Err Refusal.Usage) → HasNoShape words
refused_no_shape files boxes left words (None, (form, is, _)) command shape = form command shape.0
refused_no_shape files boxes left words (Some given, (form, rest)) command shape =
    let same : command ≡ given = command_one words command given shape.0 form in
    never_usage files boxes left words given (subst (λ (c : Command). (row_of c).says words) same shape.1) rest

-- status 2 comes only of the words
pub usage_has_no_shape : (words : Words) (boxes left : Boxes) (old new : HostState) (n : ℕ)
    → Runs words boxes left old new n → n ≡ 2 → HasNoShape words
usage_has_no_shape words boxes left old new n (Ok done, decides, cause, (stop, writes, says)) k = absurd (after_writes done old new stop n says (omega arith) (omega arith))
usage_has_no_shape words boxes left old new n (Err e, decides, cause, (same, ends)) k =
    elim (refusal_status e old new n ends) [
      | inl h ↦ refused_no_shape old.files boxes left words (subst (λ f. Decides old.files boxes left words (Err f)) (two_is_usage e n h k) decides)
      | inr h ↦ absurd (omega arith)
    ]
