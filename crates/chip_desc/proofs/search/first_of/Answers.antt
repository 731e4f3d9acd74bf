use denote.Enum.Bare.{sameb}
use Rattle.chip_desc.specs.contracts.content.ChipKey.{the_type}
use Rattle.chip_desc.specs.declared.content.ChipKey.TheVariants.{Unit}
use Rattle.chip_desc.proofs.Common.{Bool, Budget, Chip, Content, ChipKey, List, Name, Option, Some, Statement, TextLine, ap, first_of, if◌then◌else◌, is_key, kind_of, refl, said, stated, statements, sym, ◌++◌, ◌∙◌, ◌∷◌, ◌≡◌}
use Rattle.chip_desc.proofs.search.first_of.Goals as goal

line_said : (ls x : List TextLine) (l : TextLine) (o : Option Content) → ls ≡ l ∷ x → o ≡ said l.text → statements ls ≡ stated l.number o ++ statements x
line_said ls x l o e h = ap statements e ∙ ap (λ (o : Option Content). stated l.number o ++ statements x) (sym h)

same_key : (k l : ChipKey) → sameb the_type k l ≡ is_key l k
same_key Chip Chip = refl
same_key Name Name = refl
same_key Budget Budget = refl
same_key Unit Unit = refl
same_key k l = refl

-- the first of a kind, by the kind of the next
first_on : (key k : ChipKey) (ss : List Statement) (s : Statement) (t : Bool) → t ≡ sameb the_type k key → k ≡ kind_of s.content → first_of key (s ∷ ss) ≡ (if t then Some s else first_of key ss)
first_on key k ss s t e h = ap (λ (t : Bool). if t then Some s else first_of key ss) (sym (e ∙ same_key k key ∙ ap (is_key key) h))

pub returns-then-eq : goal.returns-then-eq
returns-then-eq c =
    sym (c.loop-line.invariant.found ∙ ap (first_of c.args.wanted) (line_said _ _ _ _ c.in-Some.ensures.steps c.in-Some-said.ensures)
    ∙ first_on c.args.wanted c.kind_of.result _ _ _ (sym c.if-eq.true ∙ c.eq.ensures) c.kind_of.ensures)

pub loop-line-preserved-in_default : goal.loop-line-preserved-in_default
loop-line-preserved-in_default c = record {
  can_next = tt;
  is_finite = tt;
  found = c.loop-line.invariant.found ∙ ap (first_of c.args.wanted) (line_said _ _ _ _ c.in-Some.ensures.steps c.in_default.ensures);
}

pub loop-line-preserved : goal.loop-line-preserved
loop-line-preserved c = record {
  can_next = tt;
  is_finite = tt;
  found =
      c.loop-line.invariant.found ∙ ap (first_of c.args.wanted) (line_said _ _ _ _ c.in-Some.ensures.steps c.in-Some-said.ensures)
      ∙ first_on c.args.wanted c.kind_of.result _ _ _ (sym c.if-eq.false ∙ c.eq.ensures) c.kind_of.ensures;
}

pub returns : goal.returns
returns c = sym (c.loop-line.invariant.found ∙ ap (λ ls. first_of c.args.wanted (statements ls)) c.in-None.ensures.steps.0)
