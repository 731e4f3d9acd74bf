-- The words of a memory with an instance in one word are those of a good memory, but for the victim's bit.
use Rattle.std.proofs.Common.{◌≡◌, ◌≢◌, ◌<◌, ◌^◌, ◌%◌, ℕ, Bool, true, false, not, ◌&&◌, ◌||◌, Option, Some, None, List, length, refl, ap, sym, subst, ◌∙◌, eq-eqb}
use Rattle.std.specs.Prelude.{if◌then◌else◌, ◌==◌, slice_set, slice_index, unwrap_or, is_some}
use Rattle.std.proofs.Math.Nat.{mod-eq_of_lt}
use Rattle.std.proofs.lemmas.Bool.{ne_eqb}
use Rattle.std.proofs.lemmas.List.{get_or-set_same, get_or-set_other, set-set, set_comm, set-get_or, length-set}
use Rattle.fault_core.specs.declared.primitive.Act.{Act}
use Rattle.fault_core.specs.declared.primitive.Sense.{Sense}
use Rattle.fault_core.specs.Primitive.{Primitive, same_bit, is_retention}
use Rattle.fault_core.specs.Cells.{has_act, has_this_act}
use Rattle.cell_machine.specs.declared.pair.Pair.{Pair}
use Rattle.cell_machine.specs.Pairs.{pair_of, side_holds, pair_holds, with_victim, pair_close, agg_act_of, pair_pause}
use Rattle.word_march.specs.declared.operations.WordOp.{WordOp}
use Rattle.word_device.specs.declared.device.BitPlace.{BitPlace}
use Rattle.word_device.specs.declared.device.Planted.{Planted}
use Rattle.word_device.specs.Chips.{has_bit, with_bit, bit_in, with_bit_in, agg_bit_holds, bits_hold, closed_words, falls_on, falls_on_agg, matches, plain_words, answered, paused_words, words_after, reply_to}
use Rattle.word_device.proofs.Lanes.{with_bit_same}
use Rattle.word_device.proofs.Core.{length_stepped}
use Rattle.word_coupling.specs.declared.reading.Reading.{Reading}
use Rattle.word_coupling.specs.declared.reading.Reading.TheVariants.{Before, Behind}
use Rattle.word_coupling.specs.declared.couple.PairOp.{PairOp}
use Rattle.word_coupling.specs.Words.{in_word, found_in, words_by, is_wrong}
use Rattle.word_coupling.specs.inner.Couples.{act_with, couple_acts, plain_couple, found_pair, couple_after, victim_reply, is_misread}
use Rattle.word_coupling.proofs.Bits.{with_bit_other, with_bit_kept, with_bit_twice, low_same}

-- a bit of the word
abbrev pub bit_place : ℕ → ℕ → BitPlace
bit_place word bit = record { word = word; bit = bit }

-- good words with this bit at the victim's place
abbrev pub stored : ℕ → ℕ → List ℕ → Bool → List ℕ
stored w vic good v = with_bit_in good (bit_place w vic) v

-- what the two bits hold
abbrev pub seen_in : ℕ → ℕ → ℕ → List ℕ → Pair
seen_in w agg vic words = pair_of (has_bit (slice_index words w) agg) (has_bit (slice_index words w) vic)

-- an operation on the word, at the two bits
abbrev pub op_at : ℕ → ℕ → WordOp → PairOp
op_at agg vic o = record { write = o.write; bits = pair_of (has_bit o.word agg) (has_bit o.word vic) }

-- ---- the bits

read_word : (w vic : ℕ) (good : List ℕ) (v : Bool) → w < length good → slice_index (stored w vic good v) w ≡ with_bit (slice_index good w) vic v
read_word w vic good v inside = get_or-set_same good w (with_bit (slice_index good w) vic v) 0 inside

-- a bit of the word that is set, and another one
bit_set : (w i : ℕ) (words : List ℕ) (b : Bool) → w < length words → bit_in (with_bit_in words (bit_place w i) b) (bit_place w i) ≡ b
bit_set w i words b inside =
    ap (λ (x : ℕ). has_bit x i) (read_word w i words b inside) ∙ with_bit_same (slice_index words w) i b

pub bit_set_other : (w i j : ℕ) (words : List ℕ) (b : Bool) → j ≢ i → w < length words
    → bit_in (with_bit_in words (bit_place w i) b) (bit_place w j) ≡ bit_in words (bit_place w j)
bit_set_other w i j words b apart inside =
    ap (λ (x : ℕ). has_bit x j) (read_word w i words b inside) ∙ with_bit_other (slice_index words w) i j b apart

-- the last of two bits stands
stored_twice : (w vic : ℕ) (good : List ℕ) (v c : Bool) → w < length good
    → with_bit_in (stored w vic good v) (bit_place w vic) c ≡ stored w vic good c
stored_twice w vic good v c inside =
    let word : ℕ = slice_index good w in
    ap (λ (x : ℕ). slice_set (stored w vic good v) w (with_bit x vic c)) (read_word w vic good v inside)
    ∙ set-set good w (with_bit word vic v) (with_bit (with_bit word vic v) vic c)
    ∙ ap (slice_set good w) (with_bit_twice word vic v c)

-- the bit that stands there already
pub stored_same : (w vic : ℕ) (words : List ℕ) → stored w vic words (has_bit (slice_index words w) vic) ≡ words
stored_same w vic words = ap (slice_set words w) (with_bit_kept (slice_index words w) vic) ∙ set-get_or words w 0

-- ---- states and closing

agg_state : (agg : Option Sense) (at : BitPlace) (words : List ℕ) (bit : Bool) → bit_in words at ≡ bit
    → agg_bit_holds agg (Some at) words ≡ side_holds agg bit
agg_state None at words bit e = refl
agg_state (Some sense) at words bit e = ap (λ b. same_bit b sense.state) e

-- the pair of a memory with these good words and this bit
pub record Shows (w agg vic : ℕ) (good : List ℕ) (pair : Pair) : Type 0 where
  pub inside : w < length good
  pub apart : agg ≢ vic
  pub agg_is : has_bit (slice_index good w) agg ≡ pair.a

-- the states hold as in the two bits of any words
holds_by : (p : Primitive) (w agg vic : ℕ) (words : List ℕ) (pair : Pair) → bit_in words (bit_place w vic) ≡ pair.v
    → bit_in words (bit_place w agg) ≡ pair.a → bits_hold (in_word p w agg vic) words ≡ pair_holds p pair
holds_by p w agg vic words pair on_vic on_agg =
    ap (λ b. same_bit b p.vic.state && agg_bit_holds p.agg (Some (bit_place w agg)) words) on_vic
    ∙ ap (λ b. same_bit pair.v p.vic.state && b) (agg_state p.agg (bit_place w agg) words pair.a on_agg)

stored_agg : (w agg vic : ℕ) (good : List ℕ) (pair : Pair) → Shows w agg vic good pair → bit_in (stored w vic good pair.v) (bit_place w agg) ≡ pair.a
stored_agg w agg vic good pair s = bit_set_other w vic agg good pair.v s.apart s.inside ∙ s.agg_is

holds_same : (p : Primitive) (w agg vic : ℕ) (good : List ℕ) (pair : Pair) → Shows w agg vic good pair
    → bits_hold (in_word p w agg vic) (stored w vic good pair.v) ≡ pair_holds p pair
holds_same p w agg vic good pair s =
    holds_by p w agg vic (stored w vic good pair.v) pair (bit_set w vic good pair.v s.inside) (stored_agg w agg vic good pair s)

-- a victim that is set, where it is
set_victim : (w vic : ℕ) (good : List ℕ) (pair : Pair) (c : Bool) → w < length good → (b : Bool)
    → (if b then with_bit_in (stored w vic good pair.v) (bit_place w vic) c else stored w vic good pair.v)
    ≡ stored w vic good (if b then with_victim pair c else pair).v
set_victim w vic good pair c inside true = stored_twice w vic good pair.v c inside
set_victim w vic good pair c inside false = refl

set_agg : (pair : Pair) (c b : Bool) → (if b then with_victim pair c else pair).a ≡ pair.a
set_agg pair c true = refl
set_agg pair c false = refl

pub close_agg : (p : Primitive) (pair : Pair) → (pair_close p pair).a ≡ pair.a
unfolding pair_close
close_agg p pair = set_agg pair p.after (not (has_act p) && pair_holds p pair)

pub closed_same : (p : Primitive) (w agg vic : ℕ) (good : List ℕ) (pair : Pair) → Shows w agg vic good pair
    → closed_words (in_word p w agg vic) (stored w vic good pair.v) ≡ stored w vic good (pair_close p pair).v
unfolding closed_words pair_close
closed_same p w agg vic good pair s =
    let words : List ℕ = stored w vic good pair.v in
    ap (λ b. if not (has_act p) && b then with_bit_in words (bit_place w vic) p.after else words) (holds_same p w agg vic good pair s)
    ∙ set_victim w vic good pair p.after s.inside (not (has_act p) && pair_holds p pair)

with_set : (w agg vic : ℕ) (good : List ℕ) (pair : Pair) (c b : Bool) → Shows w agg vic good pair
    → Shows w agg vic good (if b then with_victim pair c else pair)
with_set w agg vic good pair c b s = record { inside = s.inside; apart = s.apart; agg_is = s.agg_is ∙ sym (set_agg pair c b) }

pub shows_closed : (p : Primitive) (w agg vic : ℕ) (good : List ℕ) (pair : Pair) → Shows w agg vic good pair → Shows w agg vic good (pair_close p pair)
shows_closed p w agg vic good pair s = record { inside = s.inside; apart = s.apart; agg_is = s.agg_is ∙ sym (close_agg p pair) }

-- ---- a pause

pub paused_same : (p : Primitive) (w agg vic : ℕ) (good : List ℕ) (pair : Pair) → Shows w agg vic good pair
    → paused_words (in_word p w agg vic) (stored w vic good pair.v) ≡ stored w vic good (pair_pause p pair).v
unfolding paused_words pair_pause
paused_same p w agg vic good pair s =
    let i : Planted = in_word p w agg vic in
    let words : List ℕ = stored w vic good pair.v in
    let own : Bool = is_retention p && pair_holds p pair in
    ap (λ b. closed_words i (if is_retention p && b then with_bit_in words (bit_place w vic) p.after else words)) (holds_same p w agg vic good pair s)
    ∙ ap (closed_words i) (set_victim w vic good pair p.after s.inside own)
    ∙ closed_same p w agg vic good (if own then with_victim pair p.after else pair) (with_set w agg vic good pair p.after own s)

pub shows_paused : (p : Primitive) (w agg vic : ℕ) (good : List ℕ) (pair : Pair) → Shows w agg vic good pair → Shows w agg vic good (pair_pause p pair)
unfolding pair_pause
shows_paused p w agg vic good pair s =
    let own : Bool = is_retention p && pair_holds p pair in
    shows_closed p w agg vic good (if own then with_victim pair p.after else pair) (with_set w agg vic good pair p.after own s)

-- ---- an operation on the word

-- an operation by its parts
abbrev pub op_of : Bool → ℕ → ℕ → WordOp
op_of write index word = record { write = write; index = index; word = word }

falls_here : (act : Option Act) (w bit word : ℕ) (write : Bool)
    → falls_on act (bit_place w bit) (op_of write w word) ≡ has_this_act act (act_with write (has_bit word bit))
falls_here act w bit word write = ap (λ b. b && has_this_act act (act_with write (has_bit word bit))) (eq-eqb w w refl)

agg_falls_here : (agg : Option Sense) (w bit word : ℕ) (write : Bool)
    → falls_on_agg agg (Some (bit_place w bit)) (op_of write w word) ≡ has_this_act (agg_act_of agg) (act_with write (has_bit word bit))
agg_falls_here None w bit word write = refl
agg_falls_here (Some sense) w bit word write = falls_here sense.act w bit word write

matches_here : (p : Primitive) (w agg vic : ℕ) (words : List ℕ) (pair : Pair) (write : Bool) (word : ℕ)
    → bits_hold (in_word p w agg vic) words ≡ pair_holds p pair
    → matches (in_word p w agg vic) words (op_of write w word) ≡ couple_acts p pair (op_at agg vic (op_of write w word))
unfolding matches couple_acts
matches_here p w agg vic words pair write word same =
    let i : Planted = in_word p w agg vic in
    let o : WordOp = op_of write w word in
    let on_vic : Bool = has_this_act p.vic.act (act_with write (has_bit word vic)) in
    let on_agg : Bool = has_this_act (agg_act_of p.agg) (act_with write (has_bit word agg)) in
    ap (λ b. (b || falls_on_agg p.agg (Some (bit_place w agg)) o) && bits_hold i words) (falls_here p.vic.act w vic word write)
    ∙ ap (λ b. (on_vic || b) && bits_hold i words) (agg_falls_here p.agg w agg word write)
    ∙ ap (λ b. (on_vic || on_agg) && b) same

-- the plain part
written_here : (w vic : ℕ) (good : List ℕ) (word : ℕ) → w < length good → stored w vic (slice_set good w word) (has_bit word vic) ≡ slice_set good w word
written_here w vic good word inside =
    let written : List ℕ = slice_set good w word in
    let held : slice_index written w ≡ word = get_or-set_same good w word 0 inside in
    ap (λ (x : ℕ). stored w vic written (has_bit x vic)) (sym held) ∙ stored_same w vic written

plain_here : (w agg vic : ℕ) (good : List ℕ) (pair : Pair) (write : Bool) (word : ℕ) → Shows w agg vic good pair
    → plain_words (stored w vic good pair.v) (op_of write w word)
    ≡ stored w vic (plain_words good (op_of write w word)) (plain_couple pair (op_at agg vic (op_of write w word))).v
plain_here w agg vic good pair false word s = refl
plain_here w agg vic good pair true word s =
    set-set good w (with_bit (slice_index good w) vic pair.v) word ∙ sym (written_here w vic good word s.inside)

-- the two bits behind the plain part
shows_plain : (w agg vic : ℕ) (good : List ℕ) (pair : Pair) (write : Bool) (word : ℕ) → Shows w agg vic good pair
    → Shows w agg vic (plain_words good (op_of write w word)) (plain_couple pair (op_at agg vic (op_of write w word)))
shows_plain w agg vic good pair false word s = s
shows_plain w agg vic good pair true word s =
    record {
      inside = subst (λ (n : ℕ). w < n) (sym (length-set good w word)) s.inside;
      apart = s.apart;
      agg_is = ap (λ (x : ℕ). has_bit x agg) (get_or-set_same good w word 0 s.inside);
    }

-- the states are found so in the two bits
found_holds : (r : Reading) (p : Primitive) (w agg vic : ℕ) (good : List ℕ) (pair : Pair) (write : Bool) (word : ℕ) → Shows w agg vic good pair
    → bits_hold (in_word p w agg vic) (found_in r (in_word p w agg vic) (stored w vic good pair.v) (op_of write w word))
    ≡ pair_holds p (found_pair r p pair (op_at agg vic (op_of write w word)))
unfolding found_pair
found_holds Before p w agg vic good pair write word s = holds_same p w agg vic good pair s
found_holds Behind p w agg vic good pair write word s = go (is_some p.vic.act)
  where
    o : WordOp
    o = op_of write w word

    words : List ℕ
    words = stored w vic good pair.v

    next : List ℕ
    next = plain_words words o

    plain : Pair
    plain = plain_couple pair (op_at agg vic o)

    shows : Shows w agg vic (plain_words good o) plain
    shows = shows_plain w agg vic good pair write word s

    is_next : next ≡ stored w vic (plain_words good o) plain.v
    is_next = plain_here w agg vic good pair write word s

    inside : w < length next
    inside =
        subst (λ (ws : List ℕ). w < length ws) (sym is_next)
        (subst (λ (n : ℕ). w < n) (sym (length-set (plain_words good o) w (with_bit (slice_index (plain_words good o) w) vic plain.v))) shows.inside)

    next_vic : bit_in next (bit_place w vic) ≡ plain.v
    next_vic = ap (λ (ws : List ℕ). bit_in ws (bit_place w vic)) is_next ∙ bit_set w vic (plain_words good o) plain.v shows.inside

    next_agg : bit_in next (bit_place w agg) ≡ plain.a
    next_agg = ap (λ (ws : List ℕ). bit_in ws (bit_place w agg)) is_next ∙ stored_agg w agg vic (plain_words good o) plain shows

    at : Bool → BitPlace
    at b = if b then bit_place w vic else bit_place w agg

    go : (b : Bool)
        → bits_hold (in_word p w agg vic) (with_bit_in next (at b) (bit_in words (at b)))
        ≡ pair_holds p (if b then pair_of plain.a pair.v else pair_of pair.a plain.v)
    go true =
        let was : Bool = bit_in words (bit_place w vic) in
        holds_by p w agg vic (with_bit_in next (bit_place w vic) was) (pair_of plain.a pair.v)
        (bit_set w vic next was inside ∙ bit_set w vic good pair.v s.inside)
        (bit_set_other w vic agg next was s.apart inside ∙ next_agg)
    go false =
        let was : Bool = bit_in words (bit_place w agg) in
        holds_by p w agg vic (with_bit_in next (bit_place w agg) was) (pair_of pair.a plain.v)
        (bit_set_other w agg vic next was (λ e. s.apart (sym e)) inside ∙ next_vic)
        (bit_set w agg next was inside ∙ stored_agg w agg vic good pair s)

next_here : (r : Reading) (p : Primitive) (w agg vic : ℕ) (good : List ℕ) (pair : Pair) (write : Bool) (word : ℕ) → Shows w agg vic good pair
    → words_by r (in_word p w agg vic) (stored w vic good pair.v) (op_of write w word)
    ≡ stored w vic (plain_words good (op_of write w word)) (couple_after r p pair (op_at agg vic (op_of write w word))).v
unfolding couple_after
next_here r p w agg vic good pair write word s =
    let i : Planted = in_word p w agg vic in
    let words : List ℕ = stored w vic good pair.v in
    let o : WordOp = op_of write w word in
    let found : Pair = found_pair r p pair (op_at agg vic o) in
    let own : Bool = couple_acts p found (op_at agg vic o) in
    let next : List ℕ = plain_words good o in
    let plain : Pair = plain_couple pair (op_at agg vic o) in
    let shows : Shows w agg vic next plain = shows_plain w agg vic good pair write word s in
    let set_in : List ℕ → List ℕ = λ (ws : List ℕ). if own then with_bit_in ws (bit_place w vic) p.after else ws in
    ap (λ (b : Bool). closed_words i (if b then with_bit_in (plain_words words o) (bit_place w vic) p.after else plain_words words o))
    (matches_here p w agg vic (found_in r i words o) found write word (found_holds r p w agg vic good pair write word s))
    ∙ ap (λ (ws : List ℕ). closed_words i (set_in ws)) (plain_here w agg vic good pair write word s)
    ∙ ap (closed_words i) (set_victim w vic next plain p.after shows.inside own)
    ∙ closed_same p w agg vic next (if own then with_victim plain p.after else plain) (with_set w agg vic next plain p.after own shows)

shows_here : (r : Reading) (p : Primitive) (w agg vic : ℕ) (good : List ℕ) (pair : Pair) (write : Bool) (word : ℕ) → Shows w agg vic good pair
    → Shows w agg vic (plain_words good (op_of write w word)) (couple_after r p pair (op_at agg vic (op_of write w word)))
unfolding couple_after
shows_here r p w agg vic good pair write word s =
    let o : WordOp = op_of write w word in
    let own : Bool = couple_acts p (found_pair r p pair (op_at agg vic o)) (op_at agg vic o) in
    let plain : Pair = plain_couple pair (op_at agg vic o) in
    shows_closed p w agg vic (plain_words good o) (if own then with_victim plain p.after else plain)
    (with_set w agg vic (plain_words good o) plain p.after own (shows_plain w agg vic good pair write word s))

-- a read shows the good word, but for the victim's bit
answered_here : (own : Bool) (answer : Option Bool) (word w vic : ℕ) (v : Bool)
    → (if own then answered answer (bit_place w vic) (with_bit word vic v) else with_bit word vic v)
    ≡ with_bit word vic (if own then unwrap_or answer v else v)
answered_here false answer word w vic v = refl
answered_here true None word w vic v = refl
answered_here true (Some r) word w vic v = with_bit_twice word vic v r

reply_here : (p : Primitive) (w agg vic : ℕ) (good : List ℕ) (pair : Pair) (word : ℕ) → Shows w agg vic good pair
    → reply_to (Some (in_word p w agg vic)) (stored w vic good pair.v) (op_of false w word)
    ≡ with_bit (slice_index good w) vic (victim_reply p pair (op_at agg vic (op_of false w word)))
unfolding reply_to victim_reply
reply_here p w agg vic good pair word s =
    let words : List ℕ = stored w vic good pair.v in
    let own : Bool = couple_acts p pair (op_at agg vic (op_of false w word)) in
    ap (λ (b : Bool). if b then answered p.answer (bit_place w vic) (slice_index words w) else slice_index words w)
    (matches_here p w agg vic words pair false word (holds_same p w agg vic good pair s))
    ∙ ap (λ (x : ℕ). if own then answered p.answer (bit_place w vic) x else x) (read_word w vic good pair.v s.inside)
    ∙ answered_here own p.answer (slice_index good w) w vic pair.v

wrong_here : (p : Primitive) (bits w agg vic : ℕ) (good : List ℕ) (pair : Pair) (write : Bool) (word : ℕ) → Shows w agg vic good pair
    → word < 2 ^ bits → vic < bits → (write ≡ false → slice_index good w ≡ word)
    → is_wrong bits (op_of write w word) (reply_to (Some (in_word p w agg vic)) (stored w vic good pair.v) (op_of write w word))
    ≡ is_misread p pair (op_at agg vic (op_of write w word))
unfolding is_misread
wrong_here p bits w agg vic good pair true word s fits low right = refl
wrong_here p bits w agg vic good pair false word s fits low right =
    let shown : Bool = victim_reply p pair (op_at agg vic (op_of false w word)) in
    ap (λ (x : ℕ). not (x % 2 ^ bits == word)) (reply_here p w agg vic good pair word s ∙ ap (λ (x : ℕ). with_bit x vic shown) (right refl))
    ∙ ap not (low_same bits word vic shown fits low)

-- what an operation on the word makes of the memory is what it makes of the two bits
pub record Here (r : Reading) (p : Primitive) (bits w agg vic : ℕ) (good : List ℕ) (pair : Pair) (o : WordOp) : Type 0 where
  pub next : words_by r (in_word p w agg vic) (stored w vic good pair.v) o ≡ stored w vic (words_after None good o) (couple_after r p pair (op_at agg vic o)).v
  pub shows : Shows w agg vic (words_after None good o) (couple_after r p pair (op_at agg vic o))
  pub wrong : is_wrong bits o (reply_to (Some (in_word p w agg vic)) (stored w vic good pair.v) o) ≡ is_misread p pair (op_at agg vic o)

here_at : (r : Reading) (p : Primitive) (bits w agg vic : ℕ) (good : List ℕ) (pair : Pair) (write : Bool) (word : ℕ) → Shows w agg vic good pair
    → word < 2 ^ bits → vic < bits → (write ≡ false → reply_to None good (op_of write w word) ≡ word)
    → Here r p bits w agg vic good pair (op_of write w word)
unfolding words_after reply_to
here_at r p bits w agg vic good pair write word s fits low right =
    record {
      next = next_here r p w agg vic good pair write word s;
      shows = shows_here r p w agg vic good pair write word s;
      wrong = wrong_here p bits w agg vic good pair write word s fits low
          (λ e. sym (ap (λ (b : Bool). if b then 0 else slice_index good w) e) ∙ right e);
    }

pub here : (r : Reading) (p : Primitive) (bits w agg vic : ℕ) (good : List ℕ) (pair : Pair) (o : WordOp) → w ≡ o.index → Shows w agg vic good pair
    → o.word < 2 ^ bits → vic < bits → (o.write ≡ false → reply_to None good o ≡ o.word)
    → Here r p bits w agg vic good pair o
here r p bits w agg vic good pair o on s fits low right =
    subst
    (λ (k : ℕ). (o.write ≡ false → reply_to None good (op_of o.write k o.word) ≡ o.word) → Here r p bits w agg vic good pair (op_of o.write k o.word))
    on (here_at r p bits w agg vic good pair o.write o.word s fits low) right

-- ---- an operation elsewhere

falls_away : (act : Option Act) (w bit : ℕ) (o : WordOp) → w ≢ o.index → falls_on act (bit_place w bit) o ≡ false
falls_away act w bit o off =
    ap (λ b. b && has_this_act act (act_with o.write (has_bit o.word bit))) (ne_eqb w o.index off)

agg_falls_away : (agg : Option Sense) (w bit : ℕ) (o : WordOp) → w ≢ o.index → falls_on_agg agg (Some (bit_place w bit)) o ≡ false
agg_falls_away None w bit o off = refl
agg_falls_away (Some sense) w bit o off = falls_away sense.act w bit o off

matches_away : (p : Primitive) (w agg vic : ℕ) (words : List ℕ) (o : WordOp) → w ≢ o.index → matches (in_word p w agg vic) words o ≡ false
unfolding matches
matches_away p w agg vic words o off =
    let i : Planted = in_word p w agg vic in
    ap (λ b. (b || falls_on_agg p.agg (Some (bit_place w agg)) o) && bits_hold i words) (falls_away p.vic.act w vic o off)
    ∙ ap (λ b. b && bits_hold i words) (agg_falls_away p.agg w agg o off)

plain_away : (w vic : ℕ) (good : List ℕ) (v : Bool) (o : WordOp) → w ≢ o.index
    → plain_words (stored w vic good v) o ≡ stored w vic (plain_words good o) v
plain_away w vic good v o off = go o.write
  where
    go : (write : Bool) → (if write then slice_set (stored w vic good v) o.index o.word else stored w vic good v)
        ≡ stored w vic (if write then slice_set good o.index o.word else good) v
    go false = refl
    go true =
        set_comm good w o.index (with_bit (slice_index good w) vic v) o.word off
        ∙ ap (λ (x : ℕ). slice_set (slice_set good o.index o.word) w (with_bit x vic v)) (sym (get_or-set_other good o.index w o.word 0 off))

kept_away : (w : ℕ) (good : List ℕ) (o : WordOp) → w ≢ o.index → slice_index (plain_words good o) w ≡ slice_index good w
kept_away w good o off = go o.write
  where
    go : (write : Bool) → slice_index (if write then slice_set good o.index o.word else good) w ≡ slice_index good w
    go false = refl
    go true = get_or-set_other good o.index w o.word 0 off

-- it leaves the two bits, and a read of it is right
pub record Away (r : Reading) (p : Primitive) (bits w agg vic : ℕ) (good : List ℕ) (pair : Pair) (o : WordOp) : Type 0 where
  pub next : words_by r (in_word p w agg vic) (stored w vic good pair.v) o ≡ stored w vic (words_after None good o) pair.v
  pub shows : Shows w agg vic (words_after None good o) pair
  pub right : is_wrong bits o (reply_to (Some (in_word p w agg vic)) (stored w vic good pair.v) o) ≡ false

pub shows_away : (w agg vic : ℕ) (good : List ℕ) (pair : Pair) (o : WordOp) → w ≢ o.index → Shows w agg vic good pair → Shows w agg vic (words_after None good o) pair
unfolding words_after
shows_away w agg vic good pair o off s =
    record {
      inside = subst (λ (n : ℕ). w < n) (sym (length_stepped None good (Some o))) s.inside;
      apart = s.apart;
      agg_is = ap (λ (x : ℕ). has_bit x agg) (kept_away w good o off) ∙ s.agg_is;
    }

next_away : (r : Reading) (p : Primitive) (w agg vic : ℕ) (good : List ℕ) (pair : Pair) (o : WordOp) → w ≢ o.index → Shows w agg vic good pair → pair_close p pair ≡ pair
    → words_by r (in_word p w agg vic) (stored w vic good pair.v) o ≡ stored w vic (words_after None good o) pair.v
unfolding words_after
next_away r p w agg vic good pair o off s closed =
    let i : Planted = in_word p w agg vic in
    let words : List ℕ = stored w vic good pair.v in
    ap (λ (b : Bool). closed_words i (if b then with_bit_in (plain_words words o) (bit_place w vic) p.after else plain_words words o))
    (matches_away p w agg vic (found_in r i words o) o off)
    ∙ ap (closed_words i) (plain_away w vic good pair.v o off)
    ∙ closed_same p w agg vic (plain_words good o) pair (shows_away w agg vic good pair o off s)
    ∙ ap (λ (q : Pair). stored w vic (plain_words good o) q.v) closed

right_away : (p : Primitive) (bits w agg vic : ℕ) (good : List ℕ) (v : Bool) (o : WordOp) → w ≢ o.index → o.word < 2 ^ bits
    → (o.write ≡ false → reply_to None good o ≡ o.word)
    → is_wrong bits o (reply_to (Some (in_word p w agg vic)) (stored w vic good v) o) ≡ false
unfolding reply_to
right_away p bits w agg vic good v o off fits right =
    let words : List ℕ = stored w vic good v in
    let other : o.index ≢ w = λ e. off (sym e) in
    let plain : Bool → ℕ = λ (b : Bool). if b then 0 else slice_index words o.index in
    ap (λ (b : Bool). is_wrong bits o (if b then answered p.answer (bit_place w vic) (plain o.write) else plain o.write)) (matches_away p w agg vic words o off)
    ∙ go o.write refl
  where
    go : (write : Bool) → o.write ≡ write
        → (not write && not ((if write then 0 else slice_index (stored w vic good v) o.index) % 2 ^ bits == o.word)) ≡ false
    go true e = refl
    go false e =
        let good_read : slice_index good o.index ≡ o.word = sym (ap (λ (b : Bool). if b then 0 else slice_index good o.index) e) ∙ right e in
        let read : slice_index (stored w vic good v) o.index ≡ o.word =
        get_or-set_other good w o.index (with_bit (slice_index good w) vic v) 0 (λ h. off (sym h)) ∙ good_read in
        ap not (eq-eqb (slice_index (stored w vic good v) o.index % 2 ^ bits) o.word (ap (λ (x : ℕ). x % 2 ^ bits) read ∙ mod-eq_of_lt fits))

pub away : (r : Reading) (p : Primitive) (bits w agg vic : ℕ) (good : List ℕ) (pair : Pair) (o : WordOp) → w ≢ o.index → Shows w agg vic good pair → pair_close p pair ≡ pair
    → o.word < 2 ^ bits → (o.write ≡ false → reply_to None good o ≡ o.word)
    → Away r p bits w agg vic good pair o
away r p bits w agg vic good pair o off s closed fits right =
    record {
      next = next_away r p w agg vic good pair o off s closed;
      shows = shows_away w agg vic good pair o off s;
      right = right_away p bits w agg vic good pair.v o off fits right;
    }
