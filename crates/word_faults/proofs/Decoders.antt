-- A fault of the decoder of words is, at each bit, that fault of the decoder of cells.
use Rattle.std.proofs.Common.{◌≡◌, ◌≢◌, ◌<◌, ◌^◌, ◌%◌, ◌==◌, ℕ, Bool, true, false, Some, List, length, refl, ap, sym, subst, ◌∙◌, arith, min, max, zero, suc}
use Rattle.std.specs.Prelude.{if◌then◌else◌, ◌&&◌, ◌||◌, slice_set, slice_index}
use Rattle.std.specs.Int.{bit_at}
use Rattle.std.proofs.lemmas.List.{length-set}
use Rattle.std.proofs.lemmas.Nat.Bits.{bit_at_and, bit_at_or, bit_at-lt, bit_at_ones}
use Rattle.fault_core.specs.declared.primitive.Act.TheVariants.{Write, Read}
use Rattle.march_core.specs.March.{MarchElement, IsMarch}
use Rattle.march_core.specs.Runs.{up, is_write, data_value}
use Rattle.march_core.specs.Visits.{Visit, visiting, visits}
use Rattle.array_sim.specs.Run.{act_of}
use Rattle.array_sim.specs.Differing.{SomeDiffersBy}
use Rattle.backgrounds.specs.Backgrounds.{word_of}
use Rattle.memory_desc.specs.Descriptions.{Description, IsMemory}
use Rattle.word_march.specs.Commands.{word_op}
use Rattle.word_march.specs.declared.operations.WordOp.{WordOp}
use Rattle.word_device.specs.Chips.{has_bit, act_on}
use Rattle.word_device.proofs.Lanes.{lane_set, lane_cell, length-lane, has_bit-zero}
use Rattle.word_device.proofs.Answering.{IsLawful}
use Rattle.word_device.proofs.Attaching.{AlwaysDiffers, from_any, answers_wrong}
use Rattle.decoder_faults.specs.declared.fault.DecoderFault.{DecoderFault}
use Rattle.decoder_faults.specs.declared.fault.WiredRead.{WiredRead}
use Rattle.decoder_faults.specs.declared.fault.WiredRead.TheVariants.{And, Or, Own}
use Rattle.decoder_faults.specs.Decoding.{AddressPair, FitsPair, HasFault, Decoder, Reach, no_cell, one_cell, two_cells, wired_bit, write_through, read_through, act_through, answer_through}
use Rattle.decoder_faults.specs.Detection.{cells_behind, is_wrong_there, DetectsDecoder}
use Rattle.decoder_faults.proofs.Among.{caught_among}
use Rattle.decoder_faults.proofs.TakenCells.{met_where}
use Rattle.word_faults.specs.Laws.{DecoderWrong}
use Rattle.word_faults.specs.Cells.{column}
use Rattle.word_faults.specs.Decoders.{write_words, decoded, ReadsSomeBit}
use Rattle.word_faults.specs.Alike.{wired_words, read_words}
use Rattle.word_faults.proofs.Catching.{catches}
use Rattle.word_faults.proofs.Solid.{act_solid, wrong_read, word_differs, up_fits}

-- ---- one bit of each word

bits_of : (wired : WiredRead) (x y j : ℕ) → has_bit (wired_words wired x y) j ≡ wired_bit wired (has_bit x j) (has_bit y j)
unfolding has_bit
bits_of And x y j = ap (λ (n : ℕ). n == 1) (bit_at_and x y j) ∙ of_min (bit_at x j) (bit_at y j) (bit_at-lt x j) (bit_at-lt y j)
  where
    of_min : (a c : ℕ) → a < 2 → c < 2 → (min a c == 1) ≡ ((a == 1) && (c == 1))
    of_min zero zero h k = refl
    of_min zero (suc zero) h k = refl
    of_min (suc zero) zero h k = refl
    of_min (suc zero) (suc zero) h k = refl
    of_min (suc (suc a)) c h k = absurd (omega (arith, h))
    of_min a (suc (suc c)) h k = absurd (omega (arith, k))
bits_of Or x y j = ap (λ (n : ℕ). n == 1) (bit_at_or x y j) ∙ of_max (bit_at x j) (bit_at y j) (bit_at-lt x j) (bit_at-lt y j)
  where
    of_max : (a c : ℕ) → a < 2 → c < 2 → (max a c == 1) ≡ ((a == 1) || (c == 1))
    of_max zero zero h k = refl
    of_max zero (suc zero) h k = refl
    of_max (suc zero) zero h k = refl
    of_max (suc zero) (suc zero) h k = refl
    of_max (suc (suc a)) c h k = absurd (omega (arith, h))
    of_max a (suc (suc c)) h k = absurd (omega (arith, k))
bits_of Own x y j = refl

write_as : (j : ℕ) (reach : Reach) (ws : List ℕ) (word : ℕ) → column j (write_words reach ws word) ≡ write_through reach (column j ws) (has_bit word j)
write_as j (no_cell answer) ws word = refl
write_as j (one_cell c) ws word = lane_set (λ k. j) ws c word
write_as j (two_cells wired c e) ws word =
    lane_set (λ k. j) (slice_set ws c word) e word ∙ ap (λ l. slice_set l e (has_bit word j)) (lane_set (λ k. j) ws c word)

pub read_as : (bits j : ℕ) → j < bits → (reach : Reach) (ws : List ℕ) → has_bit (read_words bits reach ws) j ≡ read_through reach (column j ws)
unfolding has_bit
read_as bits j some (no_cell true) ws = rw (bit_at_ones bits j some) refl
read_as bits j some (no_cell false) ws = has_bit-zero j
read_as bits j some (one_cell c) ws = sym (lane_cell (λ k. j) ws c)
read_as bits j some (two_cells wired c e) ws =
    bits_of wired (slice_index ws c) (slice_index ws e) j
    ∙ ap (λ x. wired_bit wired x (has_bit (slice_index ws e) j)) (sym (lane_cell (λ k. j) ws c))
    ∙ ap (λ x. wired_bit wired (cell_at ws c) x) (sym (lane_cell (λ k. j) ws e))
  where
    cell_at : List ℕ → ℕ → Bool
    cell_at ws c = read_through (one_cell c) (column j ws)

pub acts_as : (j : ℕ) (decoder : Decoder) (read : ℕ → List ℕ → ℕ) (ws : List ℕ) (o : WordOp) → column j ((decoded decoder read).after ws o) ≡ act_through (decoder o.index) (column j ws) (act_on o j)
acts_as j decoder read ws o = go o.write
  where
    go : (write : Bool) → column j (if write then write_words (decoder o.index) ws o.word else ws)
        ≡ act_through (decoder o.index) (column j ws) (if write then Write (has_bit o.word j) else Read)
    go true = write_as j (decoder o.index) ws o.word
    go false = refl

-- ---- the steps of the march

length_written : (reach : Reach) (ws : List ℕ) (word : ℕ) → length (write_words reach ws word) ≡ length ws
length_written (no_cell answer) ws word = refl
length_written (one_cell c) ws word = length-set ws c word
length_written (two_cells wired c e) ws word = length-set (slice_set ws c word) e word ∙ length-set ws c word

lawful : (words : ℕ) (decoder : Decoder) (read : ℕ → List ℕ → ℕ) → IsLawful (decoded decoder read) (λ ws. length ws ≡ words)
lawful words decoder read = record {
  same_after = λ s k x y. refl;
  same_reply = λ s k x y. refl;
  good_after = λ s o good. by o.write s o.index o.word good;
  good_idled = λ s good. good;
  good_paused = λ s good. good;
  idled_paused = λ s good. refl;
  paused_idled = λ s good. refl;
  settled = λ s good. refl;
}
  where
    by : (write : Bool) (s : List ℕ) (k word : ℕ) → length s ≡ words → length (if write then write_words (decoder k) s word else s) ≡ words
    by true s k word good = length_written (decoder k) s word ∙ good
    by false s k word good = good

module _ (bits : ℕ) (decoder : Decoder) (read : ℕ → List ℕ → ℕ) (reads : ReadsSomeBit bits decoder read) where
  abbrev seen : List ℕ → List Bool
  seen ws = column reads.bit ws

  visits_as : (ws : List ℕ) (v : Visit) → seen ((decoded decoder read).after ws (word_op bits 0 v)) ≡ cells_behind decoder (seen ws) (visiting v)
  visits_as ws v = acts_as reads.bit decoder read ws (word_op bits 0 v) ∙ ap (act_through (decoder v.address) (seen ws)) (act_solid bits reads.bit v reads.low)

  wrong_as : (ws : List ℕ) (v : Visit) → is_wrong_there decoder (seen ws) v ≡ true
      → (is_write v.op ≡ false) × ((decoded decoder read).reply ws (word_op bits 0 v) % 2 ^ bits ≢ word_of 0 (data_value v.op) bits)
  wrong_as ws v wrong =
      let bad = wrong_read v.op (answer_through (decoder v.address) (seen ws) (act_of v.op)) wrong in
      let reply : (decoded decoder read).reply ws (word_op bits 0 v) ≡ read v.address ws =
      ap (λ (w : Bool). if w then 0 else read v.address ws) bad.0 in
      let shown : answer_through (decoder v.address) (seen ws) (act_of v.op) ≡ Some (has_bit ((decoded decoder read).reply ws (word_op bits 0 v)) reads.bit) =
      ap (answer_through (decoder v.address) (seen ws)) bad.1 ∙ ap Some (sym (reads.as_cell v.address ws)) ∙ ap (λ n. Some (has_bit n reads.bit)) (sym reply) in
      (bad.0, word_differs bits reads.bit v ((decoded decoder read).reply ws (word_op bits 0 v)) reads.low (λ e. bad.2 (shown ∙ e)))

-- ---- the test

pub decoder_caught : (march : List MarchElement) (d : Description) → IsMarch march → IsMemory d → (fault : DecoderFault) → DetectsDecoder march fault → (at : AddressPair) (decoder : Decoder)
    (read : ℕ → List ℕ → ℕ) → FitsPair at d.words → HasFault decoder fault at → ReadsSomeBit d.bits decoder read → AlwaysDiffers (decoded decoder read) (λ s. length s ≡ d.words) march d
decoder_caught march d marches is fault detected at decoder read places fault_is reads =
    let law = lawful d.words decoder read in
    let Good : List ℕ → Type 0 = λ ws. length ws ≡ d.words in
    record {
      lawful = law;
      differs =
          catches (decoded decoder read) Good law d.bits (cells_behind decoder) (is_wrong_there decoder) (column reads.bit)
          (λ s v good. visits_as d.bits decoder read reads s v) (λ s e good. refl) (λ s v good wrong. wrong_as d.bits decoder read reads s v wrong) march d refl
          (λ s good. by s good) is;
    }
  where
    by : (s : List ℕ) → length s ≡ d.words → SomeDiffersBy (cells_behind decoder) (is_wrong_there decoder) (column reads.bit s) (visits march (up march) d.words)
    by s good =
        let size : length (column reads.bit s) ≡ d.words = length-lane (λ k. reads.bit) s ∙ good in
        subst (λ (n : ℕ). SomeDiffersBy (cells_behind decoder) (is_wrong_there decoder) (column reads.bit s) (visits march (up march) n)) size
        (caught_among march fault (met_where march fault marches detected) (up march) decoder at (column reads.bit s) (up_fits march) (subst (FitsPair at) (sym size) places) fault_is)

pub decoder_wrong : (march : List MarchElement) (d : Description) → IsMarch march → IsMemory d → DecoderWrong march d
decoder_wrong march d marches is fault detected m at decoder read has places fault_is reads =
    let G : List ℕ → Type 0 = λ s. length s ≡ d.words in
    answers_wrong (decoded decoder read) G (λ s. Unit {0}) march d
    (from_any (decoded decoder read) G march d (decoder_caught march d marches is fault detected at decoder read places fault_is reads)) is m has.words
