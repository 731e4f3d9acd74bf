-- The report of a list says what its right verdicts say, and has one text.
use Rattle.std.proofs.Common.{◌≡◌, ◌-◌, ◌++◌, ℕ, Bool, true, false, nat_lt, Option, Some, None, List, length, refl, ap, sym, subst, ◌∙◌, inl, inr, arith}
use Rattle.std.specs.Prelude.{count_by}
use Rattle.std.specs.List.{flat_map}
use Rattle.std.proofs.lemmas.List.{length-map}
use Rattle.fault_core.specs.Primitive.{Primitive}
use Rattle.march_core.specs.March.{MarchElement}
use Rattle.memory_desc.specs.Descriptions.{Description}
use Rattle.dynamic_core.specs.declared.item.Item.{Item}
use Rattle.report_lines.specs.Lines.{march_line, memory_line, total_line}
use Rattle.report_lines.specs.Listed.{CountsOf, SomeLacks, AreLinesOf}
use Rattle.report_lines.proofs.Listed.{Tells, counts_one, lines_one, counted, some_lacks, lines_of}
use Rattle.word_coupling.specs.declared.reading.Reading.{Reading}
use Rattle.word_coupling.specs.declared.reading.Reading.TheVariants.{Before, Behind}
use Rattle.word_coupling.specs.declared.reading.Readings.{Readings}
use Rattle.word_coupling.specs.declared.reading.Readings.TheVariants.{BeforeAlone, BehindAlone, Both}
use Rattle.word_coupling.specs.declared.judging.WordEscape.{WordEscape}
use Rattle.word_coupling.specs.declared.judging.FoundEscape.{FoundEscape}
use Rattle.word_coupling.specs.declared.judged.JudgedCoupling.{JudgedCoupling}
use Rattle.word_coupling.specs.Words.{DetectsInWord}
use Rattle.word_coupling.specs.Escapes.{IsNoGreater, IsLeastWordEscape, is_among, first_of, IsFirstEscape, IsWordVerdict}
use Rattle.word_coupling.specs.Report.{couplings, judged_in, escape_line, apart_line, unpaired_line, IsCouplingLine, IsInWordReport, ReportsInWord}
use Rattle.word_coupling.specs.inner.Judged.{IsJudgedRight, prim_of, is_none, is_covered, verdict_line, judged_line, in_word_text, AreJudgedInWord}
use Rattle.word_coupling.proofs.Contents.{one_content}
use Rattle.word_coupling.proofs.Found.{Said}

-- ---- one text

-- neither of two escapes is greater
both_least : (e f : WordEscape) → IsNoGreater e f → IsNoGreater f e → (e.agg ≡ f.agg) × (e.vic ≡ f.vic) × (e.content ≡ f.content)
both_least e f (inl h) (inl i) = absurd (omega (arith, h, i))
both_least e f (inl h) (inr (i, k)) = absurd (omega (arith, h, i))
both_least e f (inr (h, k)) (inl i) = absurd (omega (arith, h, i))
both_least e f (inr (h, inl k)) (inr (i, inl l)) = absurd (omega (arith, k, l))
both_least e f (inr (h, inl k)) (inr (i, inr (l, m))) = absurd (omega (arith, k, l))
both_least e f (inr (h, inr (k, l))) (inr (i, inl m)) = absurd (omega (arith, k, m))
both_least e f (inr (h, inr (k, l))) (inr (i, inr (m, n))) = (k, h, one_content e.content f.content (omega (arith, l, n)))

same_escape_line : (p : Primitive) (f g : FoundEscape) → f.readings ≡ g.readings
    → (f.at.agg ≡ g.at.agg) × (f.at.vic ≡ g.at.vic) × (f.at.content ≡ g.at.content) → escape_line p f ≡ escape_line p g
same_escape_line p f g readings same =
    λ j. escape_line p (record { readings = readings j; at = record { agg = same.0 j; vic = same.1 j; content = same.2 j } })

-- the readings that have an escape are told by what is detected in each
said_one : (march : List MarchElement) (d : Description) (p : Primitive) (r : Reading) (b c : Bool) → Said march d p b r → Said march d p c r → b ≡ c
said_one march d p r true true h k = refl
said_one march d p r true false h k = absurd (h.lacks k)
said_one march d p r false true h k = absurd (k.lacks h)
said_one march d p r false false h k = refl

by_each : (r q : Readings) → is_among Before r ≡ is_among Before q → is_among Behind r ≡ is_among Behind q → r ≡ q
by_each BeforeAlone BeforeAlone e i = refl
by_each BeforeAlone BehindAlone e i = cc
by_each BeforeAlone Both e i = cc
by_each BehindAlone BeforeAlone e i = cc
by_each BehindAlone BehindAlone e i = refl
by_each BehindAlone Both e i = cc
by_each Both BeforeAlone e i = cc
by_each Both BehindAlone e i = cc
by_each Both Both e i = refl

readings_one : (march : List MarchElement) (d : Description) (p : Primitive) (f g : FoundEscape) → IsFirstEscape march d p f
    → IsFirstEscape march d p g → f.readings ≡ g.readings
readings_one march d p f g h k =
    by_each f.readings g.readings
    (said_one march d p Before (is_among Before f.readings) (is_among Before g.readings) (h.each Before) (k.each Before))
    (said_one march d p Behind (is_among Behind f.readings) (is_among Behind g.readings) (h.each Behind) (k.each Behind))

first_escape_line : (march : List MarchElement) (d : Description) (p : Primitive) (f g : FoundEscape) → IsFirstEscape march d p f
    → IsFirstEscape march d p g → escape_line p f ≡ escape_line p g
first_escape_line march d p f g h k =
    let same : f.readings ≡ g.readings = readings_one march d p f g h k in
    let least : IsLeastWordEscape (first_of f.readings) march d p g.at =
    subst (λ (r : Readings). IsLeastWordEscape (first_of r) march d p g.at) (sym same) k.least in
    same_escape_line p f g same (both_least f.at g.at (h.least.least g.at least.escape) (least.least f.at h.least.escape))

-- some reading has an escape
some_lacks_it : (march : List MarchElement) (d : Description) (p : Primitive) (f : FoundEscape) → IsFirstEscape march d p f
    → DetectsInWord march d p → ⊥
some_lacks_it march d p f h detects = go f.readings h.each
  where
    go : (r : Readings) → ((reading : Reading) → Said march d p (is_among reading r) reading) → ⊥
    go BeforeAlone each = (each Before).lacks (detects Before)
    go BehindAlone each = (each Behind).lacks (detects Behind)
    go Both each = (each Before).lacks (detects Before)

line_one : (march : List MarchElement) (d : Description) (p : Primitive) (s t : List ℕ) → IsCouplingLine march d p s → IsCouplingLine march d p t → s ≡ t
line_one march d p s t (inl (here, is)) (inl (also, it)) = is ∙ sym it
line_one march d p s t (inl (here, is)) (inr (f, g, it)) = absurd (some_lacks_it march d p f g here)
line_one march d p s t (inr (e, h, is)) (inl (here, it)) = absurd (some_lacks_it march d p e h here)
line_one march d p s t (inr (e, h, is)) (inr (f, g, it)) =
    is ∙ first_escape_line march d p e f h g ∙ sym it

pub one_in_word_text : (march : List MarchElement) (d : Description) (items : List Item) (text other : List ℕ)
    → IsInWordReport text march d items → IsInWordReport other march d items → text ≡ other
one_in_word_text march d items text other r q =
    let lines = lines_one (IsCouplingLine march d) (line_one march d) (judged_in d items) r.lines q.lines r.are_lines q.are_lines in
    let covered = counts_one (DetectsInWord march d) (judged_in d items) r.covered q.covered r.detects q.detects in
    r.is
    ∙ (λ j. march_line march ++ memory_line march (Some d) ++ lines j ++ apart_line (length items - length (couplings items)) ++ unpaired_line d (length (couplings items)) ++ total_line (length (judged_in d items)) (covered j))
    ∙ sym q.is

-- ---- what right verdicts say

tells : (march : List MarchElement) (d : Description) (p : Primitive) (o : Option FoundEscape) → IsWordVerdict march d p o → Tells (DetectsInWord march d) p (is_none o)
tells march d p None h = h
tells march d p (Some f) h = some_lacks_it march d p f h

line_is : (march : List MarchElement) (d : Description) (p : Primitive) (o : Option FoundEscape) → IsWordVerdict march d p o → IsCouplingLine march d p (verdict_line p o)
line_is march d p None h = inl (h, refl)
line_is march d p (Some f) h = inr (f, h, refl)

module _ (march : List MarchElement) (d : Description) (items : List Item) (js : List JudgedCoupling) (h : AreJudgedInWord march d items js) where
  size : length js ≡ length (judged_in d items)
  size = sym (length-map js prim_of) ∙ ap length h.in_order

  detected : CountsOf (DetectsInWord march d) (judged_in d items) (count_by is_covered js)
  detected =
      subst (λ ps. CountsOf (DetectsInWord march d) ps (count_by is_covered js)) h.in_order
      (counted (DetectsInWord march d) prim_of is_covered (IsJudgedRight march d) (λ j. tells march d j.prim j.escape) js h.each)

  all_lines : AreLinesOf (IsCouplingLine march d) (judged_in d items) (flat_map judged_line js)
  all_lines =
      subst (λ ps. AreLinesOf (IsCouplingLine march d) ps (flat_map judged_line js)) h.in_order
      (lines_of (IsCouplingLine march d) prim_of judged_line (IsJudgedRight march d) (λ j. line_is march d j.prim j.escape) js h.each)

  lacking : SomeLacks (DetectsInWord march d) (judged_in d items) (nat_lt (count_by is_covered js) (length js))
  lacking =
      subst (λ ps. SomeLacks (DetectsInWord march d) ps (nat_lt (count_by is_covered js) (length js))) h.in_order
      (some_lacks (DetectsInWord march d) prim_of is_covered (IsJudgedRight march d) (λ j. tells march d j.prim j.escape) js h.each)

  pub reports : (found : Bool) (text line : List ℕ) → found ≡ nat_lt (count_by is_covered js) (length js)
      → text ≡ in_word_text march d (length items - length (couplings items)) (length (couplings items)) js
      → line ≡ total_line (length js) (count_by is_covered js)
      → ReportsInWord march d items found text line
  reports found text line is_found is_text is_line = record {
    found = subst (SomeLacks (DetectsInWord march d) (judged_in d items)) (sym is_found) lacking;
    report = record {
      lines = flat_map judged_line js;
      covered = count_by is_covered js;
      are_lines = all_lines;
      detects = detected;
      is =
          is_text
          ∙ ap (λ n. march_line march ++ memory_line march (Some d) ++ flat_map judged_line js ++ apart_line (length items - length (couplings items))
          ++ unpaired_line d (length (couplings items)) ++ total_line n (count_by is_covered js)) size;
    };
    covered = count_by is_covered js;
    detects = detected;
    last = is_line ∙ ap (λ n. total_line n (count_by is_covered js)) size;
  }
