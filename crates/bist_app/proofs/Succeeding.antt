-- A run that ends with 0 or 1 over told files: what its command decides is done, the files are written and the line is said.
use Rattle.bist_app.proofs.Common.{◌≡◌, ◌≤◌, inl, inr, subst, arith, ℕ, Some, None, Result, Ok, Err, Files, HostState, Says, InputRefusal, Refusal, WriteStop, Words, word, Done, status_of, found_status, WritesInOrder, RefusalEnds, Command, Boxes, command_named, IsFormed, DecidesCommand, Runs}
use Rattle.bist_app.proofs.OneCommand.{only_named}

-- ---- what can't be

pub not_refused : {A E : Type 0} {value : A} {error : E} → Ok value ≡ Err error → ⊥
not_refused same = cc

pub same_value : {A E : Type 0} {one other : A} → (let r : Result A E = Ok one in r) ≡ Ok other → one ≡ other
same_value same = cc

pub too_high : (n k : ℕ) → n ≡ k → 2 ≤ k → n ≤ 1 → ⊥
too_high n k is high low = omega (arith, is, high, low)

pub eight_high : 2 ≤ 8
eight_high = omega arith

pub nine_high : 2 ≤ 9
nine_high = omega arith

status_high : (e : Refusal) → 2 ≤ status_of e
status_high Refusal.Usage = omega arith
status_high (Refusal.Unit u (InputRefusal.March f)) = omega arith
status_high other = omega arith

refused_high : (e : Refusal) (old new : HostState) (n : ℕ) → RefusalEnds e old new n → n ≤ 1 → ⊥
refused_high e old new n (inl h) low = too_high n (status_of e) h.0 (status_high e) low
refused_high e old new n (inr (inl h)) low = too_high n (status_of e) h.0 (status_high e) low
refused_high e old new n (inr (inr h)) low = too_high n 9 h.0 nine_high low

pub record Succeeds (command : Command) (words : Words) (files : Files) (old new : HostState) (n : ℕ) : Type 0 where
  pub done : Done
  pub boxes : Boxes
  pub left : Boxes
  pub form : IsFormed words command
  pub decides : DecidesCommand (Some files) boxes left words command (Ok done)
  pub writes : WritesInOrder words done.outputs (Some files) new.files (Ok tt)
  pub status : n ≡ found_status done.found
  pub says : Says old.said new.said done.line

pub succeeds : (command : Command) (words : Words) (boxes left : Boxes) (files : Files) (old new : HostState) (n : ℕ)
    → command_named (word words 0) ≡ Some command → n ≤ 1 → old.files ≡ Some files → Runs words boxes left old new n → Succeeds command words files old new n
succeeds command words boxes left files old new n named low told (Ok done, (None, (none, is, same)), cause, ends) = absurd (not_refused is)
succeeds command words boxes left files old new n named low told (Ok done, (Some given, (form, decides)), cause, (Ok u, writes, inl h)) =
    let same : given ≡ command = only_named words given command form named in
    let known = subst (λ t. DecidesCommand t boxes left words given (Ok done)) told decides in
    record {
      done = done;
      boxes = boxes;
      left = left;
      form = subst (IsFormed words) same form;
      decides = subst (λ c. DecidesCommand (Some files) boxes left words c (Ok done)) same known;
      writes = subst (λ t. WritesInOrder words done.outputs t new.files (Ok tt)) told writes;
      status = h.0;
      says = h.1;
    }
succeeds command words boxes left files old new n named low told (Ok done, given, cause, (Ok u, writes, inr (inl h))) = absurd (too_high n 8 h.0 eight_high low)
succeeds command words boxes left files old new n named low told (Ok done, given, cause, (Ok u, writes, inr (inr h))) = absurd (too_high n 9 h.0 nine_high low)
succeeds command words boxes left files old new n named low told (Ok done, given, cause, (Err (WriteStop.Failed p), writes, h)) = absurd (too_high n 8 h.0 eight_high low)
succeeds command words boxes left files old new n named low told (Ok done, given, cause, (Err WriteStop.NoMemory, writes, h)) = absurd (too_high n 9 h.0 nine_high low)
succeeds command words boxes left files old new n named low told (Err e, given, cause, (same, ends)) = absurd (refused_high e old new n ends low)
