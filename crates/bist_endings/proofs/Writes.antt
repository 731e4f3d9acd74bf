-- The writes of outputs: the first, then those behind it.
use Rattle.std.proofs.Common.{◌≡◌, ◌<◌, ◌≤◌, ◌-◌, ℕ, suc, arith, List, [], ◌∷◌, length, map, take, drop, get_or, Bor, Option, Result, Ok, Err, ap, ◌∙◌, subst, inr}
use Rattle.std.proofs.lemmas.List.{take_all, get_or_default}
use Rattle.bist_host.specs.Files.{Files, WritesFile}
use Rattle.bist_endings.specs.declared.ending.Output.{Output}
use Rattle.bist_endings.specs.declared.concluding.WriteStop.{WriteStop}
use Rattle.bist_endings.specs.Words.{Words, word}
use Rattle.bist_endings.specs.Ending.{written_of}
use Rattle.bist_endings.specs.Conclude.{NamesWords, WritesInOrder}

-- a word under any default is the word that the outputs name
named : (words : Words) (first o : Output) (d : Bor (List ℕ)) → first ≡ o → o.position < length words → (get_or words first.position d).now ≡ word words o.position
named words first o d is within =
    ap (λ (x : Output). (get_or words x.position d).now) is
    ∙ ap (λ (w : Bor (List ℕ)). w.now) (get_or_default words o.position d (record { ref_ptr = (0, 0); now = [] }) within)

written : (words : Words) (first o : Output) (d : Bor (List ℕ)) (bytes : List ℕ) (old new : Option Files) → first ≡ o → o.position < length words → bytes ≡ first.bytes.items
    → WritesFile old new (get_or words first.position d).now bytes → WritesFile old new (word words o.position) o.bytes.items
written words first o d bytes old new is within same h =
    subst (λ (b : List ℕ). WritesFile old new (word words o.position) b) (same ∙ ap (λ (x : Output). x.bytes.items) is)
    (subst (λ (n : List ℕ). WritesFile old new n bytes) (named words first o d is within) h)

behind : (n : ℕ) → n ≤ suc n - 1
behind n = omega arith

-- the first output is written, and the writes of the others go on from there
pub writes_more : (words : Words) (outputs : List Output) (first : Output) (d : Bor (List ℕ)) (bytes : List ℕ) (old between new : Option Files) (result : Result (Unit {0}) WriteStop)
    → 1 ≤ length outputs → first ≡ get_or outputs 0 first → NamesWords words (map written_of outputs) → bytes ≡ first.bytes.items
    → WritesFile old between (get_or words first.position d).now bytes
    → WritesInOrder words (map written_of (take (length outputs - 1) (drop 1 outputs))) between new result
    → WritesInOrder words (map written_of outputs) old new result
writes_more words [] first d bytes old between new result below is names same h rest = absurd (omega (arith, below))
writes_more words (o ∷ os) first d bytes old between new (Ok done) below is names same h rest = (
  between,
  written words first o d bytes old between is names.0 same h,
  subst (λ (l : List Output). WritesInOrder words (map written_of l) between new (Ok done)) (take_all (length (o ∷ os) - 1) os (behind (length os))) rest,
)
writes_more words (o ∷ os) first d bytes old between new (Err stop) below is names same h rest = inr (
  between,
  written words first o d bytes old between is names.0 same h,
  subst (λ (l : List Output). WritesInOrder words (map written_of l) between new (Err stop)) (take_all (length (o ∷ os) - 1) os (behind (length os))) rest,
)
