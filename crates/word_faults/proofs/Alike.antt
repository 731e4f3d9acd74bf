-- Memories of words with a fault do what planted instances, cells and plain words do.
use Rattle.std.proofs.Common.{◌≡◌, ℕ, Bool, true, false, Option, Some, None, List, refl, ap, sym, ◌∙◌}
use Rattle.std.specs.Prelude.{if◌then◌else◌, slice_set, slice_index, bit_xor, ◌^◌}
use Rattle.std.proofs.lemmas.List.{set-get_or}
use Rattle.fault_core.specs.Primitive.{same_bit}
use Rattle.word_march.specs.declared.operations.WordOp.{WordOp}
use Rattle.word_device.specs.declared.device.BitPlace.{BitPlace}
use Rattle.word_device.specs.Chips.{has_bit, with_bit, with_bit_in, bit_in, matches, plain_words, plain_reply, acted_words, answered, words_after, reply_to}
use Rattle.linked_faults.specs.declared.link.Link.{Link}
use Rattle.linked_faults.specs.Linking.{IsLinked}
use Rattle.word_faults.specs.Linked.{Bits, first_of, second_of, linked}
use Rattle.word_faults.specs.Dynamic.{is_second}
use Rattle.word_faults.specs.Alike.{DoesAs, LinkedAsOne, DecodedByBits, DecodedPlainly, ChangesVictim, DynamicInPlace, DynamicRests}
use Rattle.word_faults.proofs.Decoders.{acts_as, read_as}
use Rattle.word_faults.proofs.Linked.{never_closes, first_pauses, second_pauses}

-- ---- linked primitives

module _ (link : Link) (at : Bits) (is : IsLinked link) where
  does_first : (words : List ℕ) (o : WordOp) → matches (first_of link at) words o ≡ true → DoesAs (Some (first_of link at)) (linked link at) words o
  unfolding words_after reply_to
  does_first words o own =
      let plain : List ℕ = plain_words words o in
      let rest : List ℕ = if matches (second_of link at) words o then with_bit_in plain at.v link.second.after else plain in
      let shown : ℕ = plain_reply words o in
      let rest_shown : ℕ = if matches (second_of link at) words o then answered link.second.answer at.v shown else shown in (
        ap (λ (b : Bool). if b then with_bit_in plain at.v link.first.after else rest) own
            ∙ sym (never_closes (first_of link at) (acted_words (first_of link at) words o) is.first_acts
            ∙ ap (λ (b : Bool). if b then with_bit_in plain at.v link.first.after else plain) own),
        ap (λ (b : Bool). if b then answered link.first.answer at.v shown else rest_shown) own
            ∙ sym (ap (λ (b : Bool). if b then answered link.first.answer at.v shown else shown) own),
      )

  does_second : (words : List ℕ) (o : WordOp) → matches (first_of link at) words o ≡ false → DoesAs (Some (second_of link at)) (linked link at) words o
  unfolding words_after reply_to
  does_second words o off =
      let plain : List ℕ = plain_words words o in
      let rest : List ℕ = if matches (second_of link at) words o then with_bit_in plain at.v link.second.after else plain in
      let shown : ℕ = plain_reply words o in
      let rest_shown : ℕ = if matches (second_of link at) words o then answered link.second.answer at.v shown else shown in (
        ap (λ (b : Bool). if b then with_bit_in plain at.v link.first.after else rest) off
            ∙ sym (never_closes (second_of link at) (acted_words (second_of link at) words o) is.second_acts),
        ap (λ (b : Bool). if b then answered link.first.answer at.v shown else rest_shown) off,
      )

pub as_one : LinkedAsOne
as_one link at is = record {
  first = does_first link at is;
  second = does_second link at is;
  first_pause = λ stays words. first_pauses link at words stays is.first_acts;
  second_pause = λ stays words. second_pauses link at words stays is.second_acts;
}

-- ---- the decoder

pub by_bits : DecodedByBits
by_bits decoder = record {
  after = λ read words o j. acts_as j decoder read words o;
  reads = λ bits k words j low. read_as bits j low (decoder k) words;
}

pub plainly : DecodedPlainly
unfolding words_after reply_to
plainly words o = ((refl, refl), refl)

-- ---- a dynamic primitive

same_itself : (b : Bool) → same_bit b b ≡ true
same_itself true = refl
same_itself false = refl

own_bit : (word i : ℕ) → with_bit word i (has_bit word i) ≡ word
unfolding with_bit
own_bit word i = ap (λ (b : Bool). if b then word else bit_xor word (2 ^ i)) (same_itself (has_bit word i))

own_bit_in : (words : List ℕ) (at : BitPlace) → with_bit_in words at (bit_in words at) ≡ words
own_bit_in words at = ap (slice_set words at.word) (own_bit (slice_index words at.word) at.bit) ∙ set-get_or words at.word 0

pub in_place : DynamicInPlace
in_place p at h o = go (is_second p at h o) refl
  where
    plain : List ℕ
    plain = plain_words h.words o

    shown : ℕ
    shown = plain_reply h.words o

    read_with : (answer : Option Bool) → (bit : Bool) × (answered answer at.vic shown ≡ with_bit shown at.vic.bit bit)
    read_with None = (has_bit shown at.vic.bit, sym (own_bit shown at.vic.bit))
    read_with (Some bit) = (bit, refl)

    go : (b : Bool) → is_second p at h o ≡ b → ChangesVictim p at h o
    go true is = record {
      left = p.after;
      words = ap (λ (b : Bool). if b then with_bit_in plain at.vic p.after else plain) is;
      read = (read_with p.answer).0;
      reply = ap (λ (b : Bool). if b then answered p.answer at.vic shown else shown) is ∙ (read_with p.answer).1;
    }
    go false is = record {
      left = bit_in plain at.vic;
      words = ap (λ (b : Bool). if b then with_bit_in plain at.vic p.after else plain) is ∙ sym (own_bit_in plain at.vic);
      read = has_bit shown at.vic.bit;
      reply = ap (λ (b : Bool). if b then answered p.answer at.vic shown else shown) is ∙ sym (own_bit shown at.vic.bit);
    }

pub rests : DynamicRests
rests p at h = record { idled = refl; paused = refl }
