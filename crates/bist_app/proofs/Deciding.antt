-- A run is what was decided and how that ended: to decide only reads.
use Rattle.bist_app.proofs.Common.{◌≡◌, ℕ, List, Option, Result, Ok, Err, sym, subst, Files, HostState, OnlyReads, Rose, Refusal, Effects, WriteStop, Done, plain, Words, Ends, HasReadCause, HasCause, Boxes, Decides, Runs}

plain_cause : (files : Option Files) (rose : Type 0) (r : Result Effects Refusal) → HasReadCause files rose r → HasReadCause files rose (plain r)
plain_cause files rose (Ok plan) c = tt
plain_cause files rose (Err (Refusal.ReadFailed p)) c = c
plain_cause files rose (Err (Refusal.Absent p)) c = c
plain_cause files rose (Err (Refusal.TooLarge p)) c = c
plain_cause files rose (Err (Refusal.Unit u e)) c = c
plain_cause files rose (Err other) c = tt

-- how it ends doesn't depend on the count of reads
whatever_reads : (words : Words) (outcome : Result Done Refusal) (old new : HostState) (reads n : ℕ) → Ends words outcome old new n
    → Ends words outcome (record old { read_faults = reads }) new n
whatever_reads words (Ok done) old new reads n (Ok u, writes, says) = (Ok u, writes, says)
whatever_reads words (Ok done) old new reads n (Err (WriteStop.Failed p), writes, says) = (Err (WriteStop.Failed p), writes, says)
whatever_reads words (Ok done) old new reads n (Err WriteStop.NoMemory, writes, says) = (Err WriteStop.NoMemory, writes, says)
whatever_reads words (Err refusal) old new reads n ends = ends

pub decided_and_ended : (words : Words) (boxes left : Boxes) (old between new : HostState) (r : Result Effects Refusal) (n : ℕ) → OnlyReads old between
    → Decides old.files boxes left words (plain r) → HasCause old between r → new.read_faults ≡ between.read_faults → Ends words (plain r) between new n
    → Runs words boxes left old new n
decided_and_ended words boxes left old between new r n kept decides cause reads ends =
    let told : Option Files → Option (List ℕ) → ℕ → HostState = λ f s w. record { files = f; said = s; read_faults = old.read_faults; write_faults = w } in
    let unread : Ends words (plain r) (told between.files between.said between.write_faults) new n = whatever_reads words (plain r) between new old.read_faults n ends in
    let files = subst (λ f. Ends words (plain r) (told f between.said between.write_faults) new n) kept.files unread in
    let said = subst (λ s. Ends words (plain r) (told old.files s between.write_faults) new n) kept.said files in (
      plain r,
      decides,
      plain_cause old.files (Rose old.read_faults new.read_faults) r (subst (λ c. HasReadCause old.files (Rose old.read_faults c) r) (sym reads) cause),
      subst (λ w. Ends words (plain r) (told old.files old.said w) new n) kept.writes said,
    )
