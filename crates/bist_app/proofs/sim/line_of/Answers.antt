use Rattle.bist_app.proofs.Common.{◌≡◌, ◌++◌, ◌∙◌, ℕ, List, Vec, Global, ap, sym, append_assoc, codes, decimal}
use Rattle.march_core.specs.declared.visit.Miss.{Miss}
use Rattle.bist_app.specs.Sim.{caught_line, sim_line}
use Rattle.bist_app.proofs.sim.line_of.Goals as goal
use Rattle.bist_app.proofs.sim.line_of.Goals.{in-None+in_ok-put-in-None, in-Some+in_ok-put_number-in-Some+in_ok-put_number-in-Some-2+in_ok-put_number_between-in-Some}

-- numbers behind their texts, one after another
joined : (before first second third : List ℕ) (miss : Miss) → first ≡ before ++ codes "caught element " ++ decimal miss.element
    → second ≡ first ++ codes " address " ++ decimal miss.address → third ≡ second ++ (codes " operation " ++ decimal miss.op ++ codes "\n")
    → third ≡ before ++ caught_line miss
joined before first second third miss e f g =
    g ∙ ap (λ (l : List ℕ). l ++ (codes " operation " ++ decimal miss.op ++ codes "\n")) (f ∙ ap (λ (l : List ℕ). l ++ codes " address " ++ decimal miss.address) e)
    ∙ in_line before (codes "caught element ") (decimal miss.element) (codes " address ") (decimal miss.address) (codes " operation ") (decimal miss.op) (codes "\n")
  where
    in_line : (l a x b y c z d : List ℕ) → ((l ++ a ++ x) ++ b ++ y) ++ (c ++ z ++ d) ≡ l ++ (a ++ x ++ b ++ y ++ c ++ z ++ d)
    in_line l a x b y c z d = simp append_assoc

pub returns : goal.returns
returns c = elim c.match-miss.branch [
  | in-None+in_ok-put-in-None w ↦ ap (λ (v : Vec ℕ Global). v.items) w.line-is ∙ w.in_ok-put-in-None.ensures.ok ∙ ap (λ (l : List ℕ). l ++ codes "passes\n") c.new-line.ensures.items
      ∙ ap sim_line (sym w.in-None.is)
  | in-Some+in_ok-put_number-in-Some+in_ok-put_number-in-Some-2+in_ok-put_number_between-in-Some w ↦ ap (λ (v : Vec ℕ Global). v.items) w.line-is
      ∙ joined c.new-line.result.items w.put_number.new.line.items w.put_number-in-Some.new.line.items w.put_number_between.new.out.items w.in-Some.miss
      w.in_ok-put_number-in-Some.ensures w.in_ok-put_number-in-Some-2.ensures w.in_ok-put_number_between-in-Some.ensures
      ∙ ap (λ (l : List ℕ). l ++ caught_line w.in-Some.miss) c.new-line.ensures.items ∙ ap sim_line (sym w.in-Some.is)
]
