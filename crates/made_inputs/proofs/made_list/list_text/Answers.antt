use Rattle.std.proofs.Common.{◌≡◌, ◌++◌, ◌≤◌, ℕ, List, Ok, ◌∙◌, ap, sym, subst, arith, codes, add-one}
use Rattle.dynamic_core.specs.Items.{ReadsItems}
use Rattle.made_inputs.specs.MadeList.{all_lines, made_text, made_items}
use Rattle.made_inputs.proofs.ListLaws.{all_lines_more, made_reads}
use Rattle.made_inputs.proofs.made_list.list_text.Goals as goal

pub loop-line-preserved : goal.loop-line-preserved
loop-line-preserved c =
    c.in_ok-put.ensures.ok ∙ ap (λ (t : List ℕ). t ++ codes "all\n") c.loop-line.invariant ∙ all_lines_more c.loop-line._line
    ∙ ap all_lines (sym (add-one c.loop-line._line))

all_are_written : (text : List ℕ) (lines : ℕ) → text ≡ all_lines lines → lines ≤ 21 → 21 ≤ lines → text ≡ made_text
unfolding made_text
all_are_written text lines is most least = let all : lines ≡ 21 = omega (arith, most, least) in is ∙ ap all_lines all

pub returns-clause-form : goal.returns-clause-form
returns-clause-form c = all_are_written c.loop-line.text.items c.loop-line._line c.loop-line.invariant c.loop-line.auto._line-end c.loop-line-test.false

pub returns-clause-read_back : goal.returns-clause-read_back
returns-clause-read_back c =
    let whole = all_are_written c.loop-line.text.items c.loop-line._line c.loop-line.invariant c.loop-line.auto._line-end c.loop-line-test.false in
    subst (λ (t : List ℕ). ReadsItems t (Ok made_items)) (sym whole) made_reads
