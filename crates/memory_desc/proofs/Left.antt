-- What is left of the items of a line, where they are read one after another.
use Rattle.memory_desc.proofs.Common.{IsNext, IsWhole, List, None, length, ◌<◌, Option, Read, Some, ap, items_in, onward, stuck, subst, sym, took, ℕ, ◌∙◌, ◌∷◌, ◌≡◌}
use Rattle.bist_text.specs.keyed.Parts.{items_of}
use Rattle.bist_text.proofs.keyed.Items.{items_end, items_on, items_stuck, next_shorter}

-- how items end, whatever they are
abbrev pub Ended : {A : Type 0} → Read A → Read (Unit {0})
Ended o = onward o (λ _ x. took tt x)

end_took : {A : Type 0} (o : Read (List A)) (x : List ℕ) → Ended o ≡ took tt x → o ≡ took (items_in o) x
end_took (took a y) x e = (let same : y ≡ x = cc in ap (took a) same)
end_took (stuck y) x e = (let z : ⊥ = cc in absurd z)

end_stuck : {A : Type 0} (o : Read A) (x : List ℕ) → Ended o ≡ stuck x → o ≡ stuck x
end_stuck (took a y) x e = (let z : ⊥ = cc in absurd z)
end_stuck (stuck y) x e = (let same : y ≡ x = cc in ap stuck same)

module _ {A : Type 0} (next : List ℕ → Read (Option A)) (is_next : IsNext next) where
  -- ---- the loop to their end

  pub goes_on : {o : Option A} (all b x : List ℕ) (a : A) → Ended (items_of next b) ≡ Ended (items_of next all) → next b ≡ took o x → o ≡ Some a → Ended (items_of next x) ≡ Ended (items_of next all)
  goes_on all b x a h e k = sym (items_on next is_next (λ _. tt) b x a (e ∙ ap (λ o. took o x) k)) ∙ h

  pub shorter : {o : Option A} (b x : List ℕ) (a : A) → next b ≡ took o x → o ≡ Some a → length x < length b
  shorter b x a e k = next_shorter next is_next b x a (e ∙ ap (λ o. took o x) k)

  pub all_took : {o : Option A} (all b x : List ℕ) → Ended (items_of next b) ≡ Ended (items_of next all) → next b ≡ took o x → o ≡ None → items_of next all ≡ took (items_in (items_of next all)) x
  all_took all b x h e k = end_took (items_of next all) x (sym h ∙ items_end next is_next (λ _. tt) b x (e ∙ ap (λ o. took o x) k))

  pub all_whole : {o : Option A} (all b x : List ℕ) → Ended (items_of next b) ≡ Ended (items_of next all) → next b ≡ took o x → o ≡ None → IsWhole (items_of next all)
  all_whole all b x h e k = subst IsWhole (sym (all_took all b x h e k)) tt

  pub all_stuck : (all b x : List ℕ) → Ended (items_of next b) ≡ Ended (items_of next all) → next b ≡ stuck x → items_of next all ≡ stuck x
  all_stuck all b x h e = end_stuck (items_of next all) x (sym h ∙ items_stuck next is_next (λ _. tt) b x e)

  -- ---- one after another

  pub one_left : {o : Option A} (b x : List ℕ) (a : A) → next b ≡ took o x → o ≡ Some a → IsWhole (items_of next b) → IsWhole (items_of next x) × (items_in (items_of next b) ≡ a ∷ items_in (items_of next x))
  one_left b x a e k w = go (items_of next b) (items_of next x) (items_on next is_next (λ xs. xs) b x a (e ∙ ap (λ o. took o x) k)) w
    where
      go : (o p : Read (List A)) → onward o (λ xs x. took xs x) ≡ onward p (λ xs x. took (a ∷ xs) x) → IsWhole o → IsWhole p × (items_in o ≡ a ∷ items_in p)
      go (took xs y) (took ys z) e w = (tt, (let same : xs ≡ a ∷ ys = cc in same))
      go (took xs y) (stuck z) e w = (let z : ⊥ = cc in absurd z)
      go (stuck y) p e w = absurd w
