-- What the search finds is the verdict on the whole test.
use Rattle.std.proofs.Common.{◌≡◌, ◌≢◌, ◌-◌, ◌<◌, ◌≤◌, ℕ, suc, Bool, true, false, not, is_some, Option, List, [], ◌∷◌, length, replicate, refl, ap, sym, ◌∙◌, inl, inr, arith}
use Rattle.std.proofs.Math.Path.{ap₂}
use Rattle.std.proofs.lemmas.Bool.{cases_lt}
use Rattle.std.proofs.lemmas.List.{length-replicate}
use Rattle.fault_core.specs.Primitive.{Primitive, IsPrimitive}
use Rattle.cell_machine.specs.declared.pair.Pair.{Pair}
use Rattle.cell_machine.specs.Pairs.{pair_of, pair_close}
use Rattle.march_core.specs.March.{MarchElement, IsMarch}
use Rattle.memory_desc.specs.Descriptions.{Description, IsMemory}
use Rattle.word_march.specs.Commands.{word_steps}
use Rattle.word_device.specs.Chips.{with_bit, closed_words}
use Rattle.word_device.proofs.Lanes.{with_bit_same}
use Rattle.word_coupling.specs.declared.reading.Reading.{Reading}
use Rattle.word_coupling.specs.declared.ends.EndTable.{EndTable}
use Rattle.word_coupling.specs.declared.judging.WordEscape.{WordEscape}
use Rattle.word_coupling.specs.Words.{in_word, is_caught, AreBits, IsCaughtInWord, DetectsBy}
use Rattle.word_coupling.specs.inner.Couples.{bits_at, behind, run_march, run_test, passes}
use Rattle.word_coupling.specs.Escapes.{Holds, IsWordEscape, IsLeastWordEscape}
use Rattle.word_coupling.specs.inner.Searching.{end_in, IsTable, run_by, passes_by, PassesBy, IsLeastBeside}
use Rattle.word_coupling.proofs.Bits.{with_bit_other}
use Rattle.word_coupling.proofs.Stored.{seen_in}
use Rattle.word_coupling.proofs.Runs.{behind_same}
use Rattle.word_coupling.proofs.Whole.{caught_is}

-- ---- the table stands for the march

by_table : (r : Reading) (p : Primitive) (march : List MarchElement) (t : EndTable) → IsTable r p march t → (agg vic : ℕ) (bs : List ℕ) (pair : Pair)
    → run_by (end_in t) agg vic bs pair ≡ run_test r p march agg vic bs pair
by_table r p march t table agg vic [] pair = refl
by_table r p march t table agg vic (b ∷ bs) pair =
    ap (λ (z : Option Pair). behind z (run_by (end_in t) agg vic bs)) (table (bits_at agg vic b) pair)
    ∙ behind_same (run_by (end_in t) agg vic bs) (run_test r p march agg vic bs) (λ q. by_table r p march t table agg vic bs q)
    (run_march r p (bits_at agg vic b) march pair)

passes_same : (r : Reading) (p : Primitive) (march : List MarchElement) (t : EndTable) → IsTable r p march t → (backgrounds : List ℕ) (agg vic : ℕ) (content : Pair)
    → passes_by (end_in t) p backgrounds agg vic content ≡ passes r p march backgrounds agg vic content
unfolding passes_by passes
passes_same r p march t table backgrounds agg vic content = ap is_some (by_table r p march t table agg vic backgrounds (pair_close p content))

-- ---- words with this content at two bits

abbrev word_with : WordEscape → ℕ
word_with e = with_bit (with_bit 0 e.agg e.content.a) e.vic e.content.v

abbrev words_with : Description → WordEscape → List ℕ
words_with d e = word_with e ∷ replicate (d.words - 1) 0

length-words_with : (d : Description) (e : WordEscape) → IsMemory d → length (words_with d e) ≡ d.words
length-words_with d e m =
    let some = m.words_low in
    let one_less : suc (d.words - 1) ≡ d.words = omega arith in
    ap suc (length-replicate (d.words - 1) 0) ∙ one_less

words_hold : (d : Description) (e : WordEscape) → e.agg ≢ e.vic → Holds (words_with d e) 0 e
words_hold d e apart =
    record {
      agg = with_bit_other (with_bit 0 e.agg e.content.a) e.vic e.agg e.content.v apart ∙ with_bit_same 0 e.agg e.content.a;
      vic = with_bit_same (with_bit 0 e.agg e.content.a) e.vic e.content.v;
    }

-- ---- escapes of the words are those of the two bits

module _ (r : Reading) (p : Primitive) (march : List MarchElement) (d : Description) (t : EndTable) (is : IsPrimitive p) (is_march : IsMarch march) (m : IsMemory d)
    (table : IsTable r p march t) where
  -- what the test says of words in which the two bits hold a content
  caught_at : (e : WordEscape) → e.agg < d.bits → e.vic < d.bits → e.agg ≢ e.vic → (word : ℕ) (content : List ℕ) → word < d.words → length content ≡ d.words
      → Holds content word e
      → is_caught r d.bits (in_word p word e.agg e.vic) (word_steps march d) (closed_words (in_word p word e.agg e.vic) content)
      ≡ not (passes_by (end_in t) p d.backgrounds e.agg e.vic e.content)
  caught_at e low_agg low_vic apart word content inside size holds =
      let bits : AreBits d word e.agg e.vic = record { word_within = inside; agg_within = low_agg; vic_within = low_vic; apart = apart } in
      let seen : seen_in word e.agg e.vic content ≡ e.content = ap₂ (λ (x y : Bool). pair_of x y) holds.agg holds.vic in
      caught_is r p march d word e.agg e.vic content is is_march m bits size
      ∙ ap (λ (c : Pair). not (passes r p march d.backgrounds e.agg e.vic c)) seen
      ∙ ap not (sym (passes_same r p march t table d.backgrounds e.agg e.vic e.content))

  escape_of : (e : WordEscape) → PassesBy (end_in t) p d.bits d.backgrounds e → IsWordEscape r march d p e
  escape_of e by =
      record {
        agg_within = by.agg_within;
        vic_within = by.vic_within;
        apart = by.apart;
        passes = λ word content inside size holds caught.
            let right = caught_at e by.agg_within by.vic_within by.apart word content inside size holds ∙ ap not by.passes in
            cc (right, caught);
      }

  passes_of : (e : WordEscape) → IsWordEscape r march d p e → PassesBy (end_in t) p d.bits d.backgrounds e
  passes_of e escape =
      record {
        agg_within = escape.agg_within;
        vic_within = escape.vic_within;
        apart = escape.apart;
        passes = go (passes_by (end_in t) p d.backgrounds e.agg e.vic e.content) refl;
      }
    where
      go : (b : Bool) → passes_by (end_in t) p d.backgrounds e.agg e.vic e.content ≡ b → passes_by (end_in t) p d.backgrounds e.agg e.vic e.content ≡ true
      go true is_b = is_b
      go false is_b =
          let low = m.words_low in
          let holds = words_hold d e escape.apart in
          let size = length-words_with d e m in
          let caught = caught_at e escape.agg_within escape.vic_within escape.apart 0 (words_with d e) (omega arith) size holds ∙ ap not is_b in
          absurd (escape.passes 0 (words_with d e) (omega arith) size holds caught)

  -- ---- the verdict

  pub least_is : (vic : ℕ) (e : WordEscape) → IsLeastBeside (end_in t) p d.bits d.backgrounds vic e
      → ((f : WordEscape) → PassesBy (end_in t) p d.bits d.backgrounds f → f.vic < vic → ⊥)
      → IsLeastWordEscape r march d p e × (DetectsBy r march d p → ⊥)
  least_is vic e beside before =
      let escape : IsWordEscape r march d p e = escape_of e beside.passes in
      let low = m.words_low in
      let here = beside.vic_is in (
        record {
          escape = escape;
          least = λ f also.
              let by : PassesBy (end_in t) p d.bits d.backgrounds f = passes_of f also in
              elim (cases_lt f.vic vic) [
                | inl less ↦ absurd (before f by less)
                | inr more ↦
                    elim (cases_lt vic f.vic) [
                      | inl less ↦ inl (omega arith)
                      | inr same ↦ let at : f.vic ≡ vic = omega arith in inr (here ∙ sym at, beside.least f by at)
                    ]
              ];
        },
        λ detects.
            escape.passes 0 (words_with d e) (omega arith) (length-words_with d e m) (words_hold d e escape.apart)
            (detects 0 e.agg e.vic (words_with d e)
            (record { word_within = omega arith; agg_within = escape.agg_within; vic_within = escape.vic_within; apart = escape.apart })
            (length-words_with d e m)),
      )

  pub none_is : (n : ℕ) → d.bits ≤ n → ((f : WordEscape) → PassesBy (end_in t) p d.bits d.backgrounds f → f.vic < n → ⊥) → DetectsBy r march d p
  none_is n all before word agg vic content bits size = go (passes_by (end_in t) p d.backgrounds agg vic (seen_in word agg vic content)) refl
    where
      e : WordEscape
      e = record { agg = agg; vic = vic; content = seen_in word agg vic content }

      go : (b : Bool) → passes_by (end_in t) p d.backgrounds agg vic (seen_in word agg vic content) ≡ b
          → IsCaughtInWord r march d (in_word p word agg vic) content
      go true passes =
          let low = bits.vic_within in
          absurd (before e (record { agg_within = bits.agg_within; vic_within = bits.vic_within; apart = bits.apart; passes = passes }) (omega arith))
      go false fails =
          caught_at e bits.agg_within bits.vic_within bits.apart word content bits.word_within size (record { agg = refl; vic = refl }) ∙ ap not fails
