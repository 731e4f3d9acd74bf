-- What a reader keeps, along a text.
use Rattle.std.proofs.Common.{◌≡◌, ℕ, ◌+◌, ◌<◌, List, [], ◌∙◌, length, drop, get_or, Option, Some, None, option_map, refl, if◌then◌else◌}
use Rattle.bist_text.specs.Machine.{unexpected, scan, ended}
use Rattle.bist_text.proofs.Loops.{scan_on, scan_stop, scan_end}
use Rattle.fault_syntax.specs.declared.reader.Reader.{Reader}
use Rattle.fault_syntax.specs.declared.words.Form.{Form}
use Rattle.fault_syntax.specs.inner.Places.{State, start, step, value, may_end, item_at}
use Rattle.fault_syntax.specs.inner.Brief.{reader_of}

-- where a reader stands in a text
pub record Stands (b : List ℕ) (l : Form) (reader : Reader) (i : ℕ) : Type 0 where
  pub state : State
  pub reached : scan (step l) (value l) b start 0 ≡ scan (step l) (value l) (drop i b) state i
  pub kept : reader ≡ reader_of state

-- the state behind a kept one
behind : (o : Option State) (r : Reader) → Some r ≡ option_map reader_of o → (t : State) × (o ≡ Some t) × (r ≡ reader_of t)
behind None r e = cc
behind (Some t) r e = (t, refl, some_is r (reader_of t) e)
  where
    some_is : (r q : Reader) → Some r ≡ Some q → r ≡ q
    some_is r q e = cc

nothing_behind : (o : Option State) → (let r : Option Reader = None in r) ≡ option_map reader_of o → o ≡ None
nothing_behind None e = refl
nothing_behind (Some t) e = cc

module _ (b : List ℕ) (l : Form) (reader : Reader) (i : ℕ) (x : Stands b l reader i) where
  pub stands_on : (next : Reader) → i < length b → ((s : State) → reader ≡ reader_of s → Some next ≡ option_map reader_of (step l s (get_or b i 0))) → Stands b l next (i + 1)
  stands_on next h f =
      let k : (t : State) × (step l x.state (get_or b i 0) ≡ Some t) × (next ≡ reader_of t) = behind (step l x.state (get_or b i 0)) next (f x.state x.kept) in
      record { state = k.0; reached = scan_on (step l) (value l) b i x.state k.0 (scan (step l) (value l) b start 0) h k.1 x.reached; kept = k.2 }

  pub stands_stop : i < length b → ((s : State) → reader ≡ reader_of s → (let r : Option Reader = None in r) ≡ option_map reader_of (step l s (get_or b i 0))) → scan (step l) (value l) b start 0 ≡ unexpected i
  stands_stop h f = scan_stop (step l) (value l) b i x.state (scan (step l) (value l) b start 0) h (nothing_behind (step l x.state (get_or b i 0)) (f x.state x.kept)) x.reached

  pub stands_end : drop i b ≡ [] → scan (step l) (value l) b start 0 ≡ ended (if may_end reader.place l then Some (item_at x.state.place x.state) else None)
  stands_end e = scan_end (step l) (value l) b i x.state (scan (step l) (value l) b start 0) e x.reached ∙ rw x.kept refl
