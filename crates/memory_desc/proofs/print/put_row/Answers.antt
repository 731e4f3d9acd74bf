use Rattle.memory_desc.proofs.Common.{Bool, List, Scrambling, Term, [], add-one, ap, append-nil, append_assoc, bit_at, codes, constant, decimal, eq-eqb, false, if◌then◌else◌, index_bit, index_terms, le_antisymm, ne_eqb, on_ok_weaker, row_terms, shr_and_one, sym, terms_text, true, ℕ, ◌++◌, ◌+◌, ◌∙◌, ◌∷◌, ◌≡◌, ◌==◌}
use Rattle.scrambler.specs.Scrambling.{row}
use Rattle.memory_desc.proofs.print.put_row.Goals.{then-names-j-eq1+in_ok-put_number-2, else-names-j-eq1}
use Rattle.memory_desc.proofs.print.put_row.Goals as goal

with_bit : (names j : ℕ) (ts : List Term) (t : Bool) → (bit_at names j == 1) ≡ t → index_terms names (j + 1) ts ≡ index_terms names j (if t then index_bit j ∷ ts else ts)
with_bit names j ts t e = rw add-one (ap (λ (b : Bool). index_terms names j (if b then index_bit j ∷ ts else ts)) e)

pub loop-j-preserved : goal.loop-j-preserved
loop-j-preserved c =
    let names = c.row-names.result in
    let j = c.loop-j.j in
    elim c.if-names-j-eq1.branch [
      | then-names-j-eq1+in_ok-put_number-2 w ↦ λ ts.
          let bit = with_bit names j ts true (eq-eqb (bit_at names j) 1 (sym (shr_and_one names j) ∙ w.if-names-j-eq1.true)) in
          simp (w.out-is, w.mark-is, w.in_ok-put_number-2.ensures, w.from-then-names-j-eq1.ensures, append_assoc, bit) (c.loop-j.invariant (index_bit j ∷ ts))
      | else-names-j-eq1 w ↦ λ ts.
          let bit = with_bit names j ts false (ne_eqb (bit_at names j) 1 (λ e. w.if-names-j-eq1.false (shr_and_one names j ∙ e))) in
          simp (w.out-is, w.mark-is, bit) (c.loop-j.invariant ts)
    ]

row_is : (s : Scrambling) (i names n : ℕ) (t : Bool) → names ≡ row s i → n ≡ s.width → (bit_at s.constant i == 1) ≡ t → index_terms names n (if t then constant true ∷ [] else []) ≡ row_terms s i
row_is s i names n t e f g = rw (e, f) (ap (λ (t : Bool). index_terms (row s i) s.width (if t then constant true ∷ [] else [])) (sym g))

pub returns-then-constant-i-eq1 : goal.returns-then-constant-i-eq1
returns-then-constant-i-eq1 c =
    let s = c.args.scramble.now in
    let i = c.args.i in
    let all = le_antisymm c.loop-j.auto.j-end c.loop-j-test.false ∙ c.width-j-end.ensures.width in
    let bit = eq-eqb (bit_at s.constant i) 1 (ap (λ k. bit_at k i) (sym c.constant.ensures.constant) ∙ sym (shr_and_one c.constant.result i) ∙ c.if-constant-i-eq1.true) in
    let text : c.put_number.new.out.items ++ terms_text 61 (row_terms s i) ≡ c.args.out.now.items ++ (codes "\nscramble a" ++ (decimal i ++ terms_text 61 (row_terms s i))) =
    simp (c.in_ok-put_number.ensures, c.from.ensures, append_assoc) in
    on_ok_weaker c.put.result
    (λ last. last ∙ c.loop-j.invariant (constant true ∷ [])
    ∙ ap (λ ts. c.put_number.new.out.items ++ terms_text 61 ts) (row_is s i c.row-names.result c.loop-j.j true c.row-names.ensures.row all bit) ∙ text)
    c.put.ensures.ok

pub returns-else-constant-i-eq1 : goal.returns-else-constant-i-eq1
returns-else-constant-i-eq1 c =
    let s = c.args.scramble.now in
    let i = c.args.i in
    let all = le_antisymm c.loop-j.auto.j-end c.loop-j-test.false ∙ c.width-j-end.ensures.width in
    let bit =
    ne_eqb (bit_at s.constant i) 1 (λ e. c.if-constant-i-eq1.false (shr_and_one c.constant.result i ∙ ap (λ k. bit_at k i) c.constant.ensures.constant ∙ e)) in
    let text : c.put_number.new.out.items ++ terms_text 61 (row_terms s i) ≡ c.args.out.now.items ++ (codes "\nscramble a" ++ (decimal i ++ terms_text 61 (row_terms s i))) =
    simp (c.in_ok-put_number.ensures, c.from.ensures, append_assoc) in
    sym (append-nil c.loop-j.out.items) ∙ c.loop-j.invariant []
    ∙ ap (λ ts. c.put_number.new.out.items ++ terms_text 61 ts) (row_is s i c.row-names.result c.loop-j.j false c.row-names.ensures.row all bit) ∙ text
