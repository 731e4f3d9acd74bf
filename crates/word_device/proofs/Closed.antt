-- Closing words twice is closing them once, and keeps their number.
use Rattle.std.proofs.Common.{◌≡◌, ◌<◌, ℕ, Bool, true, false, not, ◌&&◌, ◌||◌, Option, Some, None, is_some, List, length, refl, ap, ◌∙◌}
use Rattle.std.specs.Prelude.{if◌then◌else◌, slice_index}
use Rattle.std.proofs.lemmas.List.{get_or-set_same, length-set}
use Rattle.fault_core.specs.declared.primitive.Act.{Act}
use Rattle.fault_core.specs.declared.primitive.Act.TheVariants.{Write, Read, Pause}
use Rattle.fault_core.specs.Primitive.{IsPrimitive, same_bit, agg_has_act, is_pause, is_retention}
use Rattle.fault_core.specs.Cells.{has_act}
use Rattle.cell_machine.proofs.Closing.{spent, differs, left_state}
use Rattle.word_device.specs.declared.device.BitPlace.{BitPlace}
use Rattle.word_device.specs.declared.device.Planted.{Planted}
use Rattle.word_device.specs.Chips.{has_bit, with_bit, bit_in, with_bit_in, agg_bit_holds, bits_hold, closed_words, paused_words}
use Rattle.word_device.specs.Runs.{Closes}
use Rattle.word_device.proofs.Lanes.{with_bit_same}

bit_in_set : (ws : List ℕ) (at : BitPlace) (b : Bool) → at.word < length ws → bit_in (with_bit_in ws at b) at ≡ b
bit_in_set ws at b inside =
    ap (λ w. has_bit w at.bit) (get_or-set_same ws at.word (with_bit (slice_index ws at.word) at.bit b) 0 inside) ∙ with_bit_same (slice_index ws at.word) at.bit b

pub closed_twice : (i : Planted) (ws : List ℕ) → IsPrimitive i.prim → i.vic.word < length ws → closed_words i (closed_words i ws) ≡ closed_words i ws
unfolding closed_words
closed_twice i ws is inside =
    let set : List ℕ = with_bit_in ws i.vic i.prim.after in
    let once : List ℕ = if not (has_act i.prim) && bits_hold i ws then set else ws in
    let over : (not (has_act i.prim) && bits_hold i once) ≡ false =
    spent (not (has_act i.prim)) (bits_hold i) ws set
    (λ idle.
    ap (λ b. same_bit b i.prim.vic.state && agg_bit_holds i.prim.agg i.agg set) (bit_in_set ws i.vic i.prim.after inside)
    ∙ ap (λ b. b && agg_bit_holds i.prim.agg i.agg set) (left_state i.prim is idle)) in
    ap (λ b. if b then with_bit_in once i.vic i.prim.after else once) over

pub length-closed_words : (i : Planted) (ws : List ℕ) → length (closed_words i ws) ≡ length ws
unfolding closed_words
length-closed_words i ws = go (not (has_act i.prim) && bits_hold i ws)
  where
    go : (b : Bool) → length (if b then with_bit_in ws i.vic i.prim.after else ws) ≡ length ws
    go true = length-set ws i.vic.word (with_bit (slice_index ws i.vic.word) i.vic.bit i.prim.after)
    go false = refl

-- ---- a pause taken twice is a pause taken once

-- an instance with an act closes nothing
closed_acting : (i : Planted) (ws : List ℕ) → has_act i.prim ≡ true → closed_words i ws ≡ ws
unfolding closed_words
closed_acting i ws acts = ap (λ b. if not b && bits_hold i ws then with_bit_in ws i.vic i.prim.after else ws) acts

is_the_pause : (act : Option Act) → is_pause act ≡ true → (act ≡ Some Pause) × (is_some act ≡ true)
is_the_pause None e = cc
is_the_pause (Some Read) e = cc
is_the_pause (Some (Write b)) e = cc
is_the_pause (Some Pause) e = (refl, refl)

-- the words with the victim's bit set, where it is
abbrev set_where : Bool → Planted → List ℕ → List ℕ
set_where b i ws = if b then with_bit_in ws i.vic i.prim.after else ws

abbrev rest_of : Bool → Planted → List ℕ → List ℕ
rest_of own i ws = closed_words i (set_where (own && bits_hold i ws) i ws)

rest_twice : (i : Planted) (ws : List ℕ) → IsPrimitive i.prim → i.vic.word < length ws → (own : Bool) → is_retention i.prim ≡ own
    → rest_of own i (rest_of own i ws) ≡ rest_of own i ws
rest_twice i ws is inside false e = closed_twice i ws is inside
rest_twice i ws is inside true e =
    let pause = is_the_pause i.prim.vic.act e in
    let acts : has_act i.prim ≡ true = ap (λ b. b || agg_has_act i.prim.agg) pause.1 in
    let set : List ℕ = with_bit_in ws i.vic i.prim.after in
    let once : List ℕ = set_where (bits_hold i ws) i ws in
    let over : bits_hold i once ≡ false =
    spent true (bits_hold i) ws set
    (λ _.
    ap (λ b. same_bit b i.prim.vic.state && agg_bit_holds i.prim.agg i.agg set) (bit_in_set ws i.vic i.prim.after inside)
    ∙ ap (λ b. b && agg_bit_holds i.prim.agg i.agg set) (differs i.prim.after i.prim.vic.state (is.wrong_pause pause.0))) in
    ap (rest_of true i) (closed_acting i once acts) ∙ ap (λ b. closed_words i (set_where b i once)) over

pub paused_twice : (i : Planted) (ws : List ℕ) → IsPrimitive i.prim → i.vic.word < length ws → paused_words i (paused_words i ws) ≡ paused_words i ws
unfolding paused_words
paused_twice i ws is inside = rest_twice i ws is inside (is_retention i.prim) refl

pub closes : Closes
closes i ws is inside = record { closed = closed_twice i ws is inside; as_many = length-closed_words i ws }
