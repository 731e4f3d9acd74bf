-- What the tables of elements lead to is what a search through the elements reaches.
use Rattle.std.proofs.Common.{◌≡◌, ◌+◌, ◌-◌, ◌≤◌, ℕ, zero, suc, Bool, true, false, cond, ◌||◌, Option, Some, None, List, [], ◌∷◌, ◌++◌, map, length, take, drop, refl, ap, sym, subst, ◌∙◌, inl, inr, arith}
use Rattle.std.proofs.Math.Seq.{take-add}
use Rattle.std.proofs.lemmas.List.{drop-drop, map-append}
use Rattle.std.specs.Prelude.{MatchOption, Contains, ◌↔◌}
use Rattle.std.specs.List.{AllByRecursion, filter_map}
use Rattle.fault_core.specs.Primitive.{Primitive}
use Rattle.march_core.specs.March.{MarchElement}
use Rattle.march_core.specs.Visits.{Upward, Downward}
use Rattle.cell_machine.specs.declared.pair.Pair.{Pair}
use Rattle.cell_machine.specs.Pairs.{pair_close}
use Rattle.pair_tracker.specs.declared.placement.Placement.{Placement}
use Rattle.pair_tracker.specs.declared.placement.Survivor.{Survivor}
use Rattle.pair_tracker.specs.Few.{Machine, Order, end_of}
use Rattle.pair_tracker.specs.declared.placement.Placement.TheVariants.{Alone, Below, Above}
use Rattle.pair_tracker.specs.Legs.{elements_between, cells_in}
use Rattle.pair_tracker.specs.Placements.{pair_in}
use Rattle.pair_tracker.specs.Survivors.{Survives, IsEnd, AreSurvivors}
use Rattle.pair_tracker.specs.Pairs.{machine_of, sides_in}
use Rattle.pair_tracker.specs.Reached.{is_wanted, word_to, all_pairs, with_word, words_from, ends_by, IsSpan}
use Rattle.pair_tracker.specs.Tables.{Table, table_of, Composed, LeadsNowhere, LeadsSomewhere, tables_at, AreComposed, AreJoined}
use Rattle.pair_tracker.specs.Tracking.{is_below}
use Rattle.pair_tracker.specs.Ways.{holds_at, can_reach, ways_to, ways_word}
use Rattle.pair_tracker.proofs.Ends.{same_pair, wants_itself, ends_are, whole_survivors}
use Rattle.pair_tracker.proofs.Found.{each_found, found_there}
use Rattle.pair_tracker.proofs.Passing.{all_between, pair_of_cells}

module _ {Q I : Type 0} (m : Machine Q I) (order : Order I) where
  abbrev tables : List MarchElement → List (Table Q)
  tables es = map (table_of m order) es

  module _ (wanted : Q → Bool) where
    abbrev reaches : List MarchElement → Q → Bool
    reaches es q = can_reach wanted (end_of m order) es q

    -- from one of two states the rest reaches a wanted end
    onward : (es : List MarchElement) → ((q : Q) → reaches es q ≡ true → LeadsSomewhere wanted (tables es) q) → (t : Table Q) (q : Q) (up down : Option Q)
        → (t q).upward ≡ up → (t q).downward ≡ down → (holds_at (λ r. reaches es r) up || holds_at (λ r. reaches es r) down) ≡ true
        → LeadsSomewhere wanted (t ∷ tables es) q
    onward es ih t q None None u d e = cc
    onward es ih t q None (Some s) u d e =
        let rest = ih s e in
        record { end = rest.end; composed = (s, inr d, rest.composed); is_wanted = rest.is_wanted }
    onward es ih t q (Some r) down u d e = go (reaches es r) refl
      where
        below : (w : Option Q) → (t q).downward ≡ w → holds_at (λ r. reaches es r) w ≡ true → LeadsSomewhere wanted (t ∷ tables es) q
        below None d e = cc
        below (Some s) d e =
            let rest = ih s e in
            record { end = rest.end; composed = (s, inr d, rest.composed); is_wanted = rest.is_wanted }

        go : (b : Bool) → reaches es r ≡ b → LeadsSomewhere wanted (t ∷ tables es) q
        go true is =
            let rest = ih r is in
            record { end = rest.end; composed = (r, inl u, rest.composed); is_wanted = rest.is_wanted }
        go false is = below down d (ap (λ b. b || holds_at (λ r. reaches es r) down) (sym is) ∙ e)

    pub somewhere : (es : List MarchElement) (q : Q) → reaches es q ≡ true → LeadsSomewhere wanted (tables es) q
    somewhere [] q e = record { end = q; composed = refl; is_wanted = e }
    somewhere (x ∷ es) q e =
        onward es (somewhere es) (table_of m order x) q (end_of m order x q Upward) (end_of m order x q Downward) refl refl e

    or_left : (a b : Bool) → a ≡ true → (a || b) ≡ true
    or_left true b e = refl
    or_left false b e = cc

    or_right : (a b : Bool) → b ≡ true → (a || b) ≡ true
    or_right true b e = refl
    or_right false b e = e

    pub reached : (es : List MarchElement) (q r : Q) → Composed (tables es) q r → wanted r ≡ true → reaches es q ≡ true
    reached [] q r same is = ap wanted same ∙ is
    reached (x ∷ es) q r (s, inl up, rest) is =
        or_left _ (holds_at (λ r. reaches es r) (end_of m order x q Downward)) (ap (holds_at (λ r. reaches es r)) up ∙ reached es s r rest is)
    reached (x ∷ es) q r (s, inr down, rest) is =
        or_right (holds_at (λ r. reaches es r) (end_of m order x q Upward)) _ (ap (holds_at (λ r. reaches es r)) down ∙ reached es s r rest is)

    -- the answer of a search is that of the tables
    pub by_tables : (march : List MarchElement) (i j : ℕ) (q : Q)
        → MatchOption (word_to wanted m order march i j q) (LeadsNowhere wanted (tables (elements_between march i j)) q)
        (λ word. LeadsSomewhere wanted (tables (elements_between march i j)) q)
    by_tables march i j q = go (reaches es q) refl
      where
        es : List MarchElement
        es = elements_between march i j

        Goal : Bool → Type 0
        Goal b =
            MatchOption (cond b (Some (ways_word i (ways_to wanted (end_of m order) es q))) None) (LeadsNowhere wanted (tables es) q)
            (λ word. LeadsSomewhere wanted (tables es) q)

        nowhere : reaches es q ≡ false → LeadsNowhere wanted (tables es) q
        nowhere none r leads = never (wanted r) refl
          where
            never : (b : Bool) → wanted r ≡ b → wanted r ≡ false
            never false is = is
            never true is = absurd (let wrong : true ≡ false = sym (reached es q r leads is) ∙ none in cc)

        go : (b : Bool) → reaches es q ≡ b → Goal (reaches es q)
        go true is = subst Goal (sym is) (somewhere es q is)
        go false is = subst Goal (sym is) (nowhere is)

    -- of a whole march
    pub through_tables : (march : List MarchElement) (q : Q)
        → MatchOption (word_to wanted m order march 0 (length march) q) (LeadsNowhere wanted (tables march) q) (λ word. LeadsSomewhere wanted (tables march) q)
    through_tables march q =
        subst (λ es. MatchOption (word_to wanted m order march 0 (length march) q) (LeadsNowhere wanted (tables es) q) (λ word. LeadsSomewhere wanted (tables es) q))
        (all_between march) (by_tables march 0 (length march) q)

-- tables one after another
pub join : {Q : Type 0} → (ts us : List (Table Q)) (q r : Q) → Composed (ts ++ us) q r → AreJoined ts us q r
join [] us q r leads = record { middle = q; first = refl; second = leads }
join (t ∷ ts) us q r (s, turns, rest) =
    let parts = join ts us s r rest in
    record { middle = parts.middle; first = (s, turns, parts.first); second = parts.second }

pub joined : {Q : Type 0} → (ts us : List (Table Q)) (q s r : Q) → Composed ts q s → Composed us s r → Composed (ts ++ us) q r
joined {Q} [] us q s r same leads = subst (λ (x : Q). Composed us x r) (sym same) leads
joined (t ∷ ts) us q s r (x, turns, rest) leads = (x, turns, joined ts us x s r rest leads)

between_parts : (march : List MarchElement) (i j k : ℕ) → i ≤ j → j ≤ k → elements_between march i k ≡ elements_between march i j ++ elements_between march j k
between_parts march i j k first second =
    let steps : k - i ≡ (j - i) + (k - j) = omega arith in
    let there : i + (j - i) ≡ j = omega arith in
    ap (λ n. take n (drop i march)) steps
    ∙ take-add (j - i) (k - j) (drop i march)
    ∙ ap (λ l. elements_between march i j ++ take (k - j) l) (drop-drop (j - i) i march ∙ ap (λ n. drop n march) there)

pub both_ways : (p : Primitive) (placement : Placement) (march : List MarchElement) (i j k : ℕ) → i ≤ j → j ≤ k → (start final : Pair)
    → Composed (tables_at p placement (elements_between march i k)) start final
    ↔ AreJoined (tables_at p placement (elements_between march i j)) (tables_at p placement (elements_between march j k)) start final
both_ways p placement march i j k first second start final =
    let f : MarchElement → Table Pair = table_of (machine_of p) (sides_in (is_below placement)) in
    let ts : List (Table Pair) = tables_at p placement (elements_between march i j) in
    let us : List (Table Pair) = tables_at p placement (elements_between march j k) in
    let same : tables_at p placement (elements_between march i k) ≡ ts ++ us =
    ap (map f) (between_parts march i j k first second) ∙ map-append f (elements_between march i j) (elements_between march j k) in (
      λ leads. join ts us start final (subst (λ (l : List (Table Pair)). Composed l start final) same leads),
      λ parts. subst (λ (l : List (Table Pair)). Composed l start final) (sym same) (joined ts us start parts.middle final parts.first parts.second),
    )

-- the pairs with their least words are those that the tables lead to
pub ends_composed : (march : List MarchElement) (p : Primitive) (placement : Placement) (i j : ℕ) (start : Pair)
    → AreComposed (tables_at p placement (elements_between march i j)) start (ends_by march p placement i j start)
ends_composed march p placement i j start = record {
  each = each_found (λ s. Composed tables start s.pair) words all_pairs (λ q word is. there q (words q) (by q) is);
  all = λ final leads. listed final leads (words final) refl (by final);
}
  where
    tables : List (Table Pair)
    tables = tables_at p placement (elements_between march i j)

    words : Pair → Option ℕ
    words = words_from march p placement i j start

    By : Pair → Option ℕ → Type 0
    By q o = MatchOption o (LeadsNowhere (is_wanted (Some q)) tables start) (λ word. LeadsSomewhere (is_wanted (Some q)) tables start)

    by : (q : Pair) → By q (words q)
    by q = by_tables (machine_of p) (sides_in (is_below placement)) (is_wanted (Some q)) march i j start

    there : (q : Pair) (o : Option ℕ) → By q o → {word : ℕ} → o ≡ Some word → Composed tables start q
    there q None none is = cc
    there q (Some w) some is = subst (λ r. Composed tables start r) (same_pair q some.end some.is_wanted) some.composed

    listed : (final : Pair) → Composed tables start final → (o : Option ℕ) → words final ≡ o → By final o
        → (s : Survivor) × Contains (filter_map (with_word words) all_pairs) s × (s.pair ≡ final)
    listed final leads None is none = absurd (let wrong : true ≡ false = sym (wants_itself final) ∙ none final leads in cc)
    listed final leads (Some w) is some = (record { pair = final; directions = w }, found_there words final w is, refl)

-- ---- arrays of two cells

contained : {X : Type 0} → (P : X → Type 0) (xs : List X) → AllByRecursion P xs → (x : X) → Contains xs x → P x
contained P [] all x (k, within, is) = absurd (omega arith)
contained P (y ∷ xs) all x (zero, within, is) = subst P is all.0
contained P (y ∷ xs) all x (suc k, within, is) = contained P xs all.1 x (k, omega arith, is)

pub two_cells : (placement : Placement) (q : Pair) → length (cells_in placement q) ≡ 2
two_cells Alone q = refl
two_cells Below q = refl
two_cells Above q = refl

module _ (march : List MarchElement) (p : Primitive) (placement : Placement) (is : IsSpan march p placement 0 (length march)) where
  abbrev found_from : Pair → List Survivor
  found_from start = ends_by march p placement 0 (length march) (pair_close p start)

  composed_from : (start : Pair) → AreComposed (tables_at p placement march) (pair_close p start) (found_from start)
  composed_from start =
      subst (λ es. AreComposed (tables_at p placement es) (pair_close p start) (found_from start)) (all_between march)
      (ends_composed march p placement 0 (length march) (pair_close p start))

  survivors_from : (content : List Bool) → length content ≡ 2 → AreSurvivors march p placement content (found_from (pair_in placement content))
  survivors_from content size =
      whole_survivors march p placement 0 (length march) content (found_from (pair_in placement content)) refl refl is size
      (ends_are march p placement 0 (length march) is (pair_close p (pair_in placement content)))

  -- an array that survives is one that the tables lead through
  pub survives_composed : (content : List Bool) (word : ℕ) (final : Pair) → length content ≡ 2 → Survives march p placement content word final
      → Composed (tables_at p placement march) (pair_close p (pair_in placement content)) final
  survives_composed content word final size survives =
      let start : Pair = pair_in placement content in
      let there = (survivors_from content size).all final word survives in
      subst (λ q. Composed (tables_at p placement march) (pair_close p start) q) there.2
      (contained (λ (s : Survivor). Composed (tables_at p placement march) (pair_close p start) s.pair) (found_from start) (composed_from start).each there.0 there.1)

  -- and the other way round
  pub composed_survives : (start final : Pair) → Composed (tables_at p placement march) (pair_close p start) final
      → (word : ℕ) × Survives march p placement (cells_in placement start) word final
  composed_survives start final leads =
      let there = (composed_from start).all final leads in
      let found = subst (λ q. AreSurvivors march p placement (cells_in placement start) (found_from q)) (pair_of_cells placement start)
      (survivors_from (cells_in placement start) (two_cells placement start)) in
      let end = contained (IsEnd (λ final word. Survives march p placement (cells_in placement start) word final)) (found_from start) found.each there.0 there.1 in
      (there.0.directions, subst (Survives march p placement (cells_in placement start) there.0.directions) there.2 end.leads)
