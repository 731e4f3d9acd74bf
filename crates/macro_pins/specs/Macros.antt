-- Public. A memory behind a port, seen from nets that carry its commands and its words, and a macro that has one behind its pins.
use Rattle.std.specs.Prelude.{◌≡◌, ◌++◌, ℕ, cond, List, [], ◌∷◌, Option, Some, None, length, drop}
use Rattle.macro_pins.specs.Pins.{Pins}
use Rattle.macro_pins.specs.Asked.{Asked, PinsAsk}

-- a number for each name
abbrev pub Values : Type 0
Values = List ℕ → ℕ

-- A memory of any kind: what a command, or a cycle without one, leaves of its state, and what a read is answered.
pub record PortMemory (S : Type 0) : Type 0 where
  pub after : S → Asked → S
  pub reply : S → Asked → ℕ

-- what a command is answered: a read alone
abbrev pub own : {S : Type 0} → PortMemory S → S → Asked → Option ℕ
own m s a = cond a.en (cond a.we None (Some (m.reply s a))) None

-- the word on the port is the one that is due, where one is
abbrev pub Due : Option ℕ → ℕ → Type 0
Due None v = Unit {0}
Due (Some w) v = v ≡ w

-- the words that are due, in this cycle first
abbrev pub Stands : List (Option ℕ) → ℕ → Type 0
Stands [] v = Unit {0}
Stands (w ∷ ws) v = Due w v

abbrev pub due_after : List (Option ℕ) → Option ℕ → List (Option ℕ)
due_after due w = drop 1 due ++ w ∷ []

-- Cycles of a memory with as many words under way as its latency, whose commands and words stand on nets.
abbrev pub AreCycles : {S : Type 0} → PortMemory S → (Values → Asked) → (Values → ℕ) → S → List (Option ℕ) → List Values → Type 0
AreCycles m command word s due [] = Unit {0}
AreCycles m command word s due (e ∷ es) =
    Stands due (word e) × AreCycles m command word (m.after s (command e)) (due_after due (own m s (command e))) es

-- ---- behind pins

-- what a macro holds: a state, and the words that are due
pub record Held (S : Type 0) : Type 0 where
  pub state : S
  pub due : List (Option ℕ)

-- A cycle of a macro with these values at its pins. Where the pins ask for a command, it does it; whatever they hold, it is left in a state
-- of its kind.
pub record MacroCycle {S : Type 0} (m : PortMemory S) (Good : S → Type 0) (p : Pins) (e : Values) (now next : Held S) : Type 0 where
  pub word : Stands now.due (e p.rdata)
  pub asked : (a : Asked) → PinsAsk p a e → (next.state ≡ m.after now.state a) × (next.due ≡ due_after now.due (own m now.state a))
  pub good : Good next.state
  pub as_many : length next.due ≡ length now.due
