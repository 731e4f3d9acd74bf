use Rattle.memory_desc.proofs.Common.{nat_tests, get_or, eqb-true, false, lt-ltb, le-ltb, true, append-nil, append_assoc, [], length-append, subst, AreBackgrounds, Contains, Content, List, Option, Some, ap, arith, backgrounds, length, list_any, sym, refl, Bool, unserved, ℕ, ◌+◌, ◌++◌, ◌<◌, ◌==◌, ◌∙◌, ◌∷◌, ◌≡◌, ◌≤◌}
use Rattle.memory_desc.specs.declared.fault.MemoryFault.TheVariants.{NoSolidBackground, TooManyBackgrounds}
use Rattle.memory_desc.proofs.building.backgrounds_from.Goals as goal

-- one more word is put in
moved : (items rest more items' : List ℕ) (w : ℕ) → rest ≡ w ∷ more → items' ≡ items ++ w ∷ [] → items ++ rest ≡ items' ++ more
moved items rest more items' w e k = ap (λ xs. items ++ xs) e ∙ sym (append_assoc items (w ∷ []) more) ∙ ap (λ xs. xs ++ more) (sym k)

room : (n m : ℕ) → n ≤ 8 → false ≡ (n == 8) → m ≡ n + 1 → m ≤ 8
room n m l e k = grind (arith, nat_tests)

-- the words that are said: those of the set, and those that are left
module _ (o : Option Content) (items rest : List ℕ) (said : o ≡ Some (backgrounds (items ++ rest))) where
  too_many_said : (w : ℕ) (more : List ℕ) → rest ≡ w ∷ more → true ≡ (length items == 8) → unserved o ≡ Some TooManyBackgrounds
  too_many_said w more e k =
      let many : 8 ≤ length items = grind (arith, nat_tests) in
      let past : 8 < length (items ++ rest) = omega (arith, length-append items rest, ap length e) in ap unserved said ∙ rw (lt-ltb 8 (length (items ++ rest)) past) refl

  all_said : rest ≡ [] → o ≡ Some (backgrounds items)
  all_said e = said ∙ ap (λ xs. Some (backgrounds (items ++ xs))) e ∙ ap (λ xs. Some (backgrounds xs)) (append-nil items)

  unsolid : (t : Bool) → rest ≡ [] → length items ≤ 8 → t ≡ list_any (λ w. w == 0) items → t ≡ false → unserved o ≡ Some NoSolidBackground
  unsolid t e few k f = ap unserved (all_said e) ∙ rw (le-ltb 8 (length items) few, sym k ∙ f) refl

solid : (xs items : List ℕ) → xs ≡ items → (k : ℕ) × (k < length xs) × ((d : ℕ) → (get_or xs k d == 0) ≡ true) → Contains items 0
solid xs items e h = subst (λ xs. Contains xs 0) e (h.0, h.1, eqb-true _ 0 (h.2 0))

pub loop-word-preserved : goal.loop-word-preserved
loop-word-preserved c =
    let s = c.loop-word.invariant in
    record {
      can_next = tt;
      is_finite = tt;
      few = room (length c.loop-word.set.items) _ s.few c.if-is_full.ensures.value c.push.ensures.len;
      taken = s.taken ∙ ap (λ xs. Some (backgrounds xs)) (moved c.loop-word.set.items c.loop-word.word-iterator c.next.new.self c.push.new.self.items c.in-Some.word c.in-Some.ensures.steps c.push.ensures.items);
    }

pub returns-then-is_full : goal.returns-then-is_full
returns-then-is_full c = too_many_said _ c.loop-word.set.items c.loop-word.word-iterator c.loop-word.invariant.taken c.in-Some.word c.next.new.self c.in-Some.ensures.steps c.if-is_full.ensures.value

pub returns-then-not-contains : goal.returns-then-not-contains
returns-then-not-contains c =
    let s = c.loop-word.invariant in
    unsolid _ c.loop-word.set.items c.loop-word.word-iterator s.taken c.contains.result c.in-None.ensures.steps.0 s.few
    (c.contains.ensures.value ∙ ap (list_any (λ w. w == 0)) c.as_slice.ensures.value) c.if-not-contains.true

pub returns : goal.returns
returns c =
    let s = c.loop-word.invariant in
    let set = c.loop-word.set.items in
    let said = all_said _ set c.loop-word.word-iterator s.taken c.in-None.ensures.steps.0 in
    (subst (λ (o : Option Content). AreBackgrounds o c.args.bits set) (sym said) refl, s.few, solid c.as_slice.result.now set c.as_slice.ensures.value c.if-not-contains.ensures.cases)
