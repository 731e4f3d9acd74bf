-- The steps of a march on the words, one after another.
use Rattle.std.proofs.Common.{◌≡◌, ◌≢◌, ◌^◌, ◌%◌, ◌<◌, ℕ, Bool, true, false, Option, Some, None, List, [], ◌∷◌, length, filter_map, refl, subst, sym, ◌∙◌}
use Rattle.std.specs.Prelude.{if◌then◌else◌, slice_get, slice_set, slice_index}
use Rattle.std.proofs.lemmas.List.{length-set}
use Rattle.fault_core.specs.Primitive.{IsPrimitive}
use Rattle.word_march.specs.declared.operations.WordOp.{WordOp}
use Rattle.word_device.specs.declared.device.Planted.{Planted}
use Rattle.word_device.specs.Chips.{with_bit, with_bit_in, closed_words, plain_words, acted_words, matches, words_after, paused_words, words_paused, reply_to}
use Rattle.word_device.proofs.Closed.{closed_twice, length-closed_words}

-- the words behind a step: an operation, or a pause
abbrev pub stepped : Option Planted → List ℕ → Option WordOp → List ℕ
stepped i ws None = words_paused i ws
stepped i ws (Some o) = words_after i ws o

abbrev pub words_behind : Option Planted → List ℕ → List (Option WordOp) → List ℕ
words_behind i ws [] = ws
words_behind i ws (s ∷ ss) = words_behind i (stepped i ws s) ss

-- the replies to the operations
abbrev pub replies : Option Planted → List ℕ → List (Option WordOp) → List ℕ
replies i ws [] = []
replies i ws (None ∷ ss) = replies i (words_paused i ws) ss
replies i ws (Some o ∷ ss) = reply_to i ws o ∷ replies i (words_after i ws o) ss

abbrev pub operations : List (Option WordOp) → List WordOp
operations steps = filter_map (λ s. s) steps

-- the low bits of some read's reply aren't its expected word
pub record SomeReplyDiffers (bits : ℕ) (steps : List (Option WordOp)) (returned : List ℕ) : Type 0 where
  pub number : ℕ
  pub op : WordOp
  pub reply : ℕ
  pub is_op : slice_get (operations steps) number ≡ Some op
  pub is_read : op.write ≡ false
  pub is_reply : slice_get returned number ≡ Some reply
  pub differs : reply % 2 ^ bits ≢ op.word

-- every reply of a read is its expected word
abbrev pub AllRepliesRight : List (Option WordOp) → List ℕ → Type 0
AllRepliesRight steps returned =
    (number : ℕ) (op : WordOp) → slice_get (operations steps) number ≡ Some op → op.write ≡ false → slice_get returned number ≡ Some op.word

-- ---- the number of the words stays

length-if : (b : Bool) (xs ys : List ℕ) (n : ℕ) → length xs ≡ n → length ys ≡ n → length (if b then xs else ys) ≡ n
length-if true xs ys n hx hy = hx
length-if false xs ys n hx hy = hy

length-plain : (ws : List ℕ) (o : WordOp) → length (plain_words ws o) ≡ length ws
length-plain ws o = length-if o.write (slice_set ws o.index o.word) ws (length ws) (length-set ws o.index o.word) refl

length-acted : (i : Planted) (ws : List ℕ) (o : WordOp) → length (acted_words i ws o) ≡ length ws
length-acted i ws o =
    let plain : List ℕ = plain_words ws o in
    length-if (matches i ws o) (with_bit_in plain i.vic i.prim.after) plain (length ws)
    (length-set plain i.vic.word (with_bit (slice_index plain i.vic.word) i.vic.bit i.prim.after) ∙ length-plain ws o) (length-plain ws o)

length-after : (i : Option Planted) (ws : List ℕ) (o : WordOp) → length (words_after i ws o) ≡ length ws
unfolding words_after
length-after None ws o = length-plain ws o
length-after (Some i) ws o = length-closed_words i (acted_words i ws o) ∙ length-acted i ws o

abbrev rested_words : Bool → Planted → List ℕ → List ℕ
rested_words own i ws = if own then with_bit_in ws i.vic i.prim.after else ws

length-rested : (own : Bool) (i : Planted) (ws : List ℕ) → length (rested_words own i ws) ≡ length ws
length-rested own i ws =
    length-if own (with_bit_in ws i.vic i.prim.after) ws (length ws)
    (length-set ws i.vic.word (with_bit (slice_index ws i.vic.word) i.vic.bit i.prim.after)) refl

pub length-paused : (i : Option Planted) (ws : List ℕ) → length (words_paused i ws) ≡ length ws
unfolding paused_words
length-paused None ws = refl
length-paused (Some i) ws = length-closed_words i (rested_words _ i ws) ∙ length-rested _ i ws

pub length_stepped : (i : Option Planted) (ws : List ℕ) (s : Option WordOp) → length (stepped i ws s) ≡ length ws
length_stepped i ws None = length-paused i ws
length_stepped i ws (Some o) = length-after i ws o

-- ---- closed words stay closed

closed_after : (i : Planted) (ws : List ℕ) (o : WordOp) → IsPrimitive i.prim → i.vic.word < length ws
    → closed_words i (words_after (Some i) ws o) ≡ words_after (Some i) ws o
unfolding words_after
closed_after i ws o is inside =
    closed_twice i (acted_words i ws o) is (subst (λ n. i.vic.word < n) (sym (length-acted i ws o)) inside)

pub closed_paused : (i : Planted) (ws : List ℕ) → IsPrimitive i.prim → i.vic.word < length ws → closed_words i (paused_words i ws) ≡ paused_words i ws
unfolding paused_words
closed_paused i ws is inside =
    closed_twice i (rested_words _ i ws) is (subst (λ n. i.vic.word < n) (sym (length-rested _ i ws)) inside)

pub closed_stepped : (i : Planted) (ws : List ℕ) (s : Option WordOp) → IsPrimitive i.prim → i.vic.word < length ws
    → closed_words i (stepped (Some i) ws s) ≡ stepped (Some i) ws s
closed_stepped i ws None is inside = closed_paused i ws is inside
closed_stepped i ws (Some o) is inside = closed_after i ws o is inside
