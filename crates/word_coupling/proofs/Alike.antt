-- Only a write that is the act of a primitive finds other states in the two readings.
use Rattle.std.proofs.Common.{◌≡◌, ℕ, Bool, true, false, ◌&&◌, ◌||◌, Option, Some, None, List, [], ◌∷◌, refl, ap, sym, subst, ◌∙◌, is_some}
use Rattle.std.specs.Prelude.{if◌then◌else◌, ◌==◌, slice_set, slice_index}
use Rattle.std.proofs.Math.Path.{ap₂}
use Rattle.std.proofs.lemmas.List.{set-set}
use Rattle.fault_core.specs.declared.primitive.Act.{Act}
use Rattle.fault_core.specs.declared.primitive.Act.TheVariants.{Write, Read, Pause}
use Rattle.fault_core.specs.declared.primitive.Sense.{Sense}
use Rattle.fault_core.specs.Cells.{has_this_act}
use Rattle.cell_machine.specs.Pairs.{agg_act_of}
use Rattle.march_core.specs.March.{MarchElement}
use Rattle.memory_desc.specs.Descriptions.{Description}
use Rattle.word_march.specs.declared.operations.WordOp.{WordOp}
use Rattle.word_march.specs.Commands.{word_steps}
use Rattle.word_device.specs.declared.device.BitPlace.{BitPlace}
use Rattle.word_device.specs.declared.device.Planted.{Planted}
use Rattle.word_device.specs.Chips.{has_bit, with_bit, bit_in, with_bit_in, bits_hold, closed_words, falls_on, falls_on_agg, matches, plain_words, paused_words, reply_to}
use Rattle.word_coupling.specs.declared.reading.Reading.TheVariants.{Before, Behind}
use Rattle.word_coupling.specs.Words.{in_word, act_place, found_in, words_by, is_wrong, is_caught}
use Rattle.word_coupling.specs.Alike.{is_write_act, HasNoWrite, AreAlike, Forgets}
use Rattle.word_coupling.proofs.Stored.{stored_same, bit_place, bit_set_other}

never_this : (act : Option Act) (bit : Bool) → is_write_act act ≡ false → has_this_act act (Write bit) ≡ false
never_this None bit h = refl
never_this (Some Read) bit h = refl
never_this (Some Pause) bit h = refl
never_this (Some (Write own)) bit h = cc

never_falls : (act : Option Act) (at : BitPlace) (o : WordOp) → is_write_act act ≡ false → o.write ≡ true → falls_on act at o ≡ false
never_falls act at o h write =
    ap (λ (b : Bool). (at.word == o.index) && has_this_act act (if b then Write (has_bit o.word at.bit) else Read)) write
    ∙ ap (λ (b : Bool). (at.word == o.index) && b) (never_this act (has_bit o.word at.bit) h) ∙ none (at.word == o.index)
  where
    none : (b : Bool) → (b && false) ≡ false
    none true = refl
    none false = refl

never_falls_agg : (agg : Option Sense) (place : Option BitPlace) (o : WordOp) → is_write_act (agg_act_of agg) ≡ false → o.write ≡ true
    → falls_on_agg agg place o ≡ false
never_falls_agg None place o h write = refl
never_falls_agg (Some sense) None o h write = refl
never_falls_agg (Some sense) (Some at) o h write = never_falls sense.act at o h write

never_matches : (i : Planted) (words : List ℕ) (o : WordOp) → HasNoWrite i.prim → o.write ≡ true → matches i words o ≡ false
unfolding matches
never_matches i words o never write =
    ap (λ (b : Bool). (b || falls_on_agg i.prim.agg i.agg o) && bits_hold i words) (never_falls i.prim.vic.act i.vic o never.vic write)
    ∙ ap (λ (b : Bool). b && bits_hold i words) (never_falls_agg i.prim.agg i.agg o never.agg write)

-- a read leaves the words in which the states are found
found_same : (i : Planted) (words : List ℕ) (o : WordOp) → o.write ≡ false → found_in Behind i words o ≡ words
found_same i words o read =
    ap (λ (ws : List ℕ). with_bit_in ws (act_place i) (bit_in words (act_place i))) (ap (λ (b : Bool). if b then slice_set words o.index o.word else words) read)
    ∙ stored_same (act_place i).word (act_place i).bit words

matches_alike : (i : Planted) (words : List ℕ) (o : WordOp) → HasNoWrite i.prim → matches i (found_in Behind i words o) o ≡ matches i words o
matches_alike i words o never = go o.write refl
  where
    go : (b : Bool) → o.write ≡ b → matches i (found_in Behind i words o) o ≡ matches i words o
    go true write = never_matches i (found_in Behind i words o) o never write ∙ sym (never_matches i words o never write)
    go false read = ap (λ (ws : List ℕ). matches i ws o) (found_same i words o read)

words_alike : (i : Planted) (words : List ℕ) (o : WordOp) → HasNoWrite i.prim → words_by Behind i words o ≡ words_by Before i words o
words_alike i words o never =
    ap (λ (b : Bool). closed_words i (if b then with_bit_in (plain_words words o) i.vic i.prim.after else plain_words words o))
    (matches_alike i words o never)

caught_alike : (bits : ℕ) (i : Planted) → HasNoWrite i.prim → (steps : List (Option WordOp)) (words : List ℕ)
    → is_caught Behind bits i steps words ≡ is_caught Before bits i steps words
caught_alike bits i never [] words = refl
caught_alike bits i never (None ∷ steps) words = caught_alike bits i never steps (paused_words i words)
caught_alike bits i never (Some o ∷ steps) words =
    ap (λ (ws : List ℕ). is_wrong bits o (reply_to (Some i) words o) || is_caught Behind bits i steps ws) (words_alike i words o never)
    ∙ ap (λ (b : Bool). is_wrong bits o (reply_to (Some i) words o) || b) (caught_alike bits i never steps (words_by Before i words o))

pub alike : (march : List MarchElement) (d : Description) → AreAlike march d
alike march d p never = (
  λ detects word agg vic content bits size.
      caught_alike d.bits (in_word p word agg vic) never (word_steps march d) (closed_words (in_word p word agg vic) content) ∙ detects word agg vic content bits size,
  λ detects word agg vic content bits size.
      sym (caught_alike d.bits (in_word p word agg vic) never (word_steps march d) (closed_words (in_word p word agg vic) content)) ∙ detects word agg vic content bits size,
)

-- ---- a write of the word

set_index : (words : List ℕ) (k w n m : ℕ) → k ≡ w → slice_set (slice_set words w n) k m ≡ slice_set words k m
set_index words k w n m e = subst (λ (j : ℕ). slice_set (slice_set words j n) k m ≡ slice_set words k m) e (set-set words k n m)

pub forgets : Forgets
forgets p word agg vic words o bit apart inside write here =
    ap₂ (λ (next : List ℕ) (b : Bool). closed_words i (if b then with_bit_in next i.vic i.prim.after else next)) (plain (is_some p.vic.act))
    (ap₂ (λ (next : List ℕ) (b : Bool). matches i (with_bit_in next (act_place i) b) o) (plain (is_some p.vic.act)) (kept (is_some p.vic.act)))
  where
    i : Planted
    i = in_word p word agg vic

    at_bit : (n : ℕ) → plain_words (with_bit_in words (bit_place word n) bit) o ≡ plain_words words o
    at_bit n =
        ap (λ (b : Bool). if b then slice_set (with_bit_in words (bit_place word n) bit) o.index o.word else with_bit_in words (bit_place word n) bit) write
        ∙ set_index words o.index word (with_bit (slice_index words word) n bit) o.word here
        ∙ sym (ap (λ (b : Bool). if b then slice_set words o.index o.word else words) write)

    plain : (b : Bool) → plain_words (with_bit_in words (if b then bit_place word agg else bit_place word vic) bit) o ≡ plain_words words o
    plain true = at_bit agg
    plain false = at_bit vic

    kept : (b : Bool)
        → bit_in (with_bit_in words (if b then bit_place word agg else bit_place word vic) bit) (if b then bit_place word vic else bit_place word agg)
        ≡ bit_in words (if b then bit_place word vic else bit_place word agg)
    kept true = bit_set_other word agg vic words bit (λ e. apart (sym e)) inside
    kept false = bit_set_other word vic agg words bit apart inside
