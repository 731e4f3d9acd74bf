-- Where neither count rose and there was memory, the answer is that of the told files.
use Rattle.bist_app.proofs.Common.{◌≡◌, inl, inr, refl, subst, ℕ, Option, Some, None, Ok, Err, IfSome, ◌∙◌, Files, HostState, ReadsRose, WritesRose, InputRefusal, Refusal, WriteStop, Words, Done, status_of, HasReadCause, IsSettledRefusal, WritesInOrder, Boxes, Runs, Decides}
use Rattle.bist_app.specs.Answer.{Answers, IsComplete}

is_settled : (files : Option Files) (rr : Type 0) (e : Refusal) → (rr → ⊥) → (status_of e ≡ 9 → ⊥) → HasReadCause {A = Done} files rr (Err e) → IsSettledRefusal e
is_settled files rr (Refusal.ReadFailed p) quiet nine c = quiet c
is_settled files rr (Refusal.Unit u (InputRefusal.ReadFailed p)) quiet nine c = quiet c
is_settled files rr (Refusal.Unit u other) quiet nine c = tt
is_settled files rr Refusal.NoMemory quiet nine c = nine refl
is_settled files rr other quiet nine c = tt

complete : (words : Words) (boxes left : Boxes) (f : Files) (old new : HostState) (n : ℕ) → old.files ≡ Some f
    → Runs words boxes left old new n → (ReadsRose old new → ⊥) → (WritesRose old new → ⊥) → (n ≡ 9 → ⊥) → Answers f boxes left words old new n
complete words boxes left f old new n told (Ok done, decides, cause, (Ok u, writes, inl h)) nr nw n9 =
    inr (done, subst (λ t. Decides t boxes left words (Ok done)) told decides, h.0, h.1, subst (λ t. WritesInOrder words done.outputs t new.files (Ok tt)) told writes)
complete words boxes left f old new n told (Ok done, decides, cause, (Ok u, writes, inr (inl h))) nr nw n9 = absurd (nw h.1)
complete words boxes left f old new n told (Ok done, decides, cause, (Ok u, writes, inr (inr h))) nr nw n9 = absurd (n9 h.0)
complete words boxes left f old new n told (Ok done, decides, cause, (Err (WriteStop.Failed p), writes, h)) nr nw n9 = absurd (nw h.1)
complete words boxes left f old new n told (Ok done, decides, cause, (Err WriteStop.NoMemory, writes, h)) nr nw n9 = absurd (n9 h.0)
complete words boxes left f old new n told (Err e, decides, cause, (same, inl h)) nr nw n9 =
    let hn : n ≡ status_of e = h.0 in
    let first = subst (λ t. Decides t boxes left words (Err e)) told decides in
    let settled = is_settled old.files (ReadsRose old new) e nr (λ k. n9 (hn ∙ k)) cause in
    inl (e, record { first = first; settled = settled }, h.0, h.1, same ∙ told)
complete words boxes left f old new n told (Err e, decides, cause, (same, inr (inl h))) nr nw n9 = absurd (nw h.1)
complete words boxes left f old new n told (Err e, decides, cause, (same, inr (inr h))) nr nw n9 = absurd (n9 h.0)

-- what stands of told files
pub if_told : (told : Option Files) (P : Files → Type 0) → ((files : Files) → told ≡ Some files → P files) → IfSome told P
if_told None P h = tt
if_told (Some files) P h = h files refl

pub complete_told : (words : Words) (boxes left : Boxes) (old new : HostState) (n : ℕ)
    → Runs words boxes left old new n → IsComplete words boxes left old new n
complete_told words boxes left old new n h =
    if_told old.files (λ f. (ReadsRose old new → ⊥) → (WritesRose old new → ⊥) → (n ≡ 9 → ⊥) → Answers f boxes left words old new n) (λ f told. complete words boxes left f old new n told h)
