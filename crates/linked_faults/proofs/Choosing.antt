-- The links that are pushed are the linked ones of all pairs.
use Rattle.std.proofs.Common.{◌≡◌, ◌↔◌, inl, inr, Bool, true, false, List, [], ◌∷◌, ◌++◌, map, refl, ap, sym, subst, ◌∙◌, cond}
use Rattle.std.specs.List.{All, AllByRecursion}
use Rattle.std.proofs.lemmas.List.Elements.{All-head, All-tail}
use Rattle.fault_core.specs.Primitive.{Primitive, IsPrimitive}
use Rattle.fault_core.specs.Table.{one_cell_table, two_cell_table}
use Rattle.linked_faults.specs.declared.link.Link.{Link}
use Rattle.linked_faults.specs.Linking.{IsLinked}
use Rattle.linked_faults.specs.Kinds.{pairs_of, pairs_among, AreThose, AreLinks}
use Rattle.linked_faults.specs.inner.Testing.{linked_test, linked_behind, linked_pairs}
use Rattle.linked_faults.proofs.Testing.{test_tells}

-- one more in front, chosen or not
one_more : (x : Link) (xs chosen : List Link) (b : Bool) → (b ≡ true) ↔ IsLinked x → AreThose IsLinked xs chosen → AreThose IsLinked (x ∷ xs) (cond b (x ∷ []) [] ++ chosen)
one_more x xs chosen true h rest = inl (h.0 refl, chosen, rest, refl)
one_more x xs chosen false h rest = inr ((λ is. cc (h.1 is)), rest)

-- those of two lists
pub those_joined : (xs ys chosen more : List Link) → AreThose IsLinked xs chosen → AreThose IsLinked ys more → AreThose IsLinked (xs ++ ys) (chosen ++ more)
those_joined [] ys chosen more h k = subst (λ l. AreThose IsLinked ys (l ++ more)) (sym h) k
those_joined (x ∷ xs) ys chosen more (inl (p, rest, h, is)) k =
    inl (p, rest ++ more, those_joined xs ys rest more h k, ap (λ l. l ++ more) is)
those_joined (x ∷ xs) ys chosen more (inr (p, h)) k = inr (p, those_joined xs ys chosen more h k)

behind : (is_shared : Bool) (first : Primitive) (seconds : List Primitive) → IsPrimitive first → AllByRecursion IsPrimitive seconds
    → AreThose IsLinked (map (λ q. record { first = first; second = q; is_shared = is_shared }) seconds) (linked_behind is_shared seconds first)
behind is_shared first [] f h = refl
behind is_shared first (q ∷ qs) f h =
    let link : Link = record { first = first; second = q; is_shared = is_shared } in
    one_more link (map (λ r. record { first = first; second = r; is_shared = is_shared }) qs) (linked_behind is_shared qs first) (linked_test link)
    (test_tells link f h.0 (linked_test link) refl) (behind is_shared first qs f h.1)

pairs : (is_shared : Bool) (firsts seconds : List Primitive) → AllByRecursion IsPrimitive firsts → AllByRecursion IsPrimitive seconds
    → AreThose IsLinked (pairs_of firsts seconds is_shared) (linked_pairs firsts seconds is_shared)
pairs is_shared [] seconds f h = refl
pairs is_shared (p ∷ ps) seconds f h =
    those_joined _ _ _ _ (behind is_shared p seconds f.0 h) (pairs is_shared ps seconds f.1 h)

-- each kind behind the one before
all_of : (a b c d e : List Link) (ones twos : List Primitive) → AllByRecursion IsPrimitive ones → AllByRecursion IsPrimitive twos
    → a ≡ linked_pairs ones ones false → b ≡ a ++ linked_pairs twos twos true → c ≡ b ++ linked_pairs twos ones false
    → d ≡ c ++ linked_pairs ones twos false → e ≡ d ++ linked_pairs twos twos false → AreThose IsLinked (pairs_among ones twos) e
all_of a b c d e ones twos f h ea eb ec ed ee =
    let grown : (A B C D E : List Link) → a ≡ A → b ≡ a ++ B → c ≡ b ++ C → d ≡ c ++ D → e ≡ d ++ E → (((A ++ B) ++ C) ++ D) ++ E ≡ e =
    (λ A B C D E ga gb gc gd ge. sym (ge ∙ ap (λ l. l ++ E) (gd ∙ ap (λ l. l ++ D) (gc ∙ ap (λ l. l ++ C) (gb ∙ ap (λ l. l ++ B) ga))))) in
    subst (AreThose IsLinked (pairs_among ones twos)) (grown _ _ _ _ _ ea eb ec ed ee)
    (those_joined _ _ _ _ (those_joined _ _ _ _ (those_joined _ _ _ _ (those_joined _ _ _ _ (pairs false ones ones f f) (pairs true twos twos h h))
    (pairs false twos ones h f)) (pairs false ones twos f h)) (pairs false twos twos h h))

by_recursion : (ps : List Primitive) → All IsPrimitive ps → AllByRecursion IsPrimitive ps
by_recursion [] h = tt
by_recursion (p ∷ ps) h = (All-head IsPrimitive p ps h, by_recursion ps (All-tail IsPrimitive p ps h))

-- the tables in place of what the calls gave
pub are_links : (a b c d e : List Link) (ones twos : List Primitive) → ones ≡ one_cell_table → twos ≡ two_cell_table
    → All IsPrimitive ones → All IsPrimitive twos
    → a ≡ linked_pairs ones ones false → b ≡ a ++ linked_pairs twos twos true → c ≡ b ++ linked_pairs twos ones false
    → d ≡ c ++ linked_pairs ones twos false → e ≡ d ++ linked_pairs twos twos false → AreLinks e
unfolding AreLinks
are_links a b c d e ones twos o t f h ea eb ec ed ee =
    subst (λ (l : List Primitive). AreThose IsLinked (pairs_among l two_cell_table) e) o
    (subst (λ (l : List Primitive). AreThose IsLinked (pairs_among ones l) e) t
    (all_of a b c d e ones twos (by_recursion ones f) (by_recursion twos h) ea eb ec ed ee))

-- those of a list are one list
those_one : (xs chosen other : List Link) → AreThose IsLinked xs chosen → AreThose IsLinked xs other → chosen ≡ other
those_one [] chosen other h k = h ∙ sym k
those_one (x ∷ xs) chosen other (inl (p, rest, h, is)) (inl (q, more, k, it)) = is ∙ ap (λ l. x ∷ l) (those_one xs rest more h k) ∙ sym it
those_one (x ∷ xs) chosen other (inl (p, rest, h, is)) (inr (q, k)) = absurd (q p)
those_one (x ∷ xs) chosen other (inr (p, h)) (inl (q, more, k, it)) = absurd (p q)
those_one (x ∷ xs) chosen other (inr (p, h)) (inr (q, k)) = those_one xs chosen other h k

pub links_one : (links other : List Link) → AreLinks links → AreLinks other → links ≡ other
unfolding AreLinks
links_one links other h k = those_one (pairs_among one_cell_table two_cell_table) links other h k
