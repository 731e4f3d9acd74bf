-- The units of the lines of a text.
use Rattle.chip_desc.proofs.Common.{All, Bool, ChipUnit, Content, IsFile, IsUnit, List, None, Option, Some, Statement, TextLine, TooManyUnits, UnitDescription, [], and_parts, ap, arith, budget, cond, false, find, if◌then◌else◌, is_file, is_formed, is_heavier, is_key, is_out_of_range, is_outside, kind_of, leb-true, length, length-append, length-map, list_all, lt-ltb, ltb-false, map, name, nat_le, nat_lt, none_at, not, or_parts, out_of_range, plain_unit, refl, said, stated, statements, suc, sym, too_many, true, unit, unit_in, unit_of, unit_said, units_said, version, zero, ℕ, ◌&&◌, ◌++◌, ◌+◌, ◌<◌, ◌==◌, ◌||◌, ◌∙◌, ◌∷◌, ◌≡◌, ◌≤◌}
use Rattle.std.proofs.Common.{append-nil, le-ltb}
use Rattle.std.specs.Option.{option_map}
use Rattle.std.specs.Str.{IsAscii}
use Rattle.std.proofs.lemmas.List.Elements.{All-cons, All-nil}
use Rattle.chip_desc.specs.Chips.{is_file_byte}
use Rattle.chip_desc.specs.ChipTable.{at_line}
use Rattle.chip_desc.specs.declared.content.UnitLine.{UnitLine}
use Rattle.chip_desc.specs.declared.fault.ChipFault.TheVariants.{OutOfRange}
use Rattle.chip_desc.specs.declared.content.ChipKey.TheVariants.{Unit as OfUnit}
use Rattle.chip_desc.proofs.OneText.{formed_said}

-- ---- names of files

file_byte_low : (c : ℕ) → is_file_byte c ≡ true → c < 128
file_byte_low c h =
    let p = and_parts (nat_le 33 c && nat_le c 126) (not (c == 35)) h in
    let l = leb-true c 126 (and_parts (nat_le 33 c) (nat_le c 126) p.0).1 in
    omega arith

bytes_ascii : (b : List ℕ) → list_all is_file_byte b ≡ true → IsAscii b
bytes_ascii [] h i = omega arith
bytes_ascii (c ∷ b) h zero = file_byte_low c (and_parts (is_file_byte c) (list_all is_file_byte b) h).0
bytes_ascii (c ∷ b) h (suc i) = bytes_ascii b (and_parts (is_file_byte c) (list_all is_file_byte b) h).1 i

pub file_ascii : (b : List ℕ) → is_file b ≡ true → IsAscii b
file_ascii b h = bytes_ascii b (and_parts (list_all is_file_byte b) (nat_le 1 (length b)) h).0

-- ---- a unit's line

unit_is : (c : Content) (u : UnitDescription) → unit_said (Some c) ≡ Some u → c ≡ unit u.weight u.march u.memory
unit_is (unit n m f) u e = (let z : (let v : UnitDescription = record { weight = n; march = m; memory = f } in v) ≡ u = cc in ap (λ (u : UnitDescription). unit u.weight u.march u.memory) z)
unit_is c u e = (let z : ⊥ = cc in absurd z)

-- the content of a line that says a unit
pub content_is : (v : Option Content) (u : UnitDescription) → unit_said v ≡ Some u → v ≡ Some (unit u.weight u.march u.memory)
content_is None u e = (let z : ⊥ = cc in absurd z)
content_is (Some c) u e = ap Some (unit_is c u e)

-- ---- line by line

abbrev is_out : Statement → Bool
is_out s = is_out_of_range s.content

-- nothing is found: neither here nor behind
pub find_past : (p : Statement → Bool) (s : Statement) (ss : List Statement) → find p (s ∷ ss) ≡ None → (p s ≡ false) × (find p ss ≡ None)
find_past p s ss e = go (p s) refl e
  where
    go : (t : Bool) → p s ≡ t → cond t (Some s) (find p ss) ≡ None → (p s ≡ false) × (find p ss ≡ None)
    go true h e = (let z : ⊥ = cc in absurd z)
    go false h e = (h, e)

pub unit_key : (c : Content) → is_key OfUnit (kind_of c) ≡ true → kind_of c ≡ OfUnit
unit_key (unit n m f) e = refl
unit_key c e = (let z : ⊥ = cc in absurd z)

pub some_unit : (c : Content) → kind_of c ≡ OfUnit → 1 ≤ length (unit_in c)
some_unit (unit n m f) e = omega arith
some_unit c e = (let z : ⊥ = cc in absurd z)

-- ---- all units are within the limits

is_unit : (most n : ℕ) (m f : List ℕ) → is_formed (unit n m f) ≡ true → is_out_of_range (unit n m f) ≡ false → is_heavier most (unit n m f) ≡ false
    → IsUnit most (record { weight = n; march = m; memory = f })
is_unit most n m f formed inside light =
    let p = and_parts (is_file m) (is_file f) formed in
    let r = or_parts (is_outside n || nat_lt 255 (length m)) (nat_lt 255 (length f)) inside in
    let s = or_parts (is_outside n) (nat_lt 255 (length m)) r.0 in
    let t = or_parts (nat_lt n 1) (nat_lt 1000000 n) s.0 in
    record {
      some = ltb-false n 1 t.0;
      within = ltb-false most n light;
      march = record { bytes = p.0; short = ltb-false 255 (length m) s.1 };
      memory = record { bytes = p.1; short = ltb-false 255 (length f) r.1 };
    }

pub all_units : (ls : List TextLine) (most : ℕ) → find is_out (statements ls) ≡ None → find (λ s. is_heavier most s.content) (statements ls) ≡ None
    → All (λ u. IsUnit most u) (units_said (statements ls))
all_units [] most e h = All-nil (λ u. IsUnit most u)
all_units (l ∷ ls) most e h = go (said l.text) refl e h (λ e h. all_units ls most e h)
  where
    one : (c : Content) → is_formed c ≡ true → is_out_of_range c ≡ false → is_heavier most c ≡ false → All (λ u. IsUnit most u) (units_said (statements ls))
        → All (λ u. IsUnit most u) (unit_in c ++ units_said (statements ls))
    one (unit n m f) formed inside light a = All-cons (λ u. IsUnit most u) (record { weight = n; march = m; memory = f }) (units_said (statements ls)) (is_unit most n m f formed inside light) a
    one (version n) formed inside light a = a
    one (name b) formed inside light a = a
    one (budget n) formed inside light a = a

    go : (v : Option Content) → said l.text ≡ v → find is_out (stated l.number v ++ statements ls) ≡ None → find (λ s. is_heavier most s.content) (stated l.number v ++ statements ls) ≡ None
        → (find is_out (statements ls) ≡ None → find (λ s. is_heavier most s.content) (statements ls) ≡ None → All (λ u. IsUnit most u) (units_said (statements ls)))
        → All (λ u. IsUnit most u) (units_said (stated l.number v ++ statements ls))
    go None k e h again = again e h
    go (Some c) k e h again =
        let x : Statement = record { line = l.number; content = c } in
        let p = find_past is_out x (statements ls) e in
        let q = find_past (λ s. is_heavier most s.content) x (statements ls) h in
        one c (formed_said l.text c k) p.0 q.0 (again p.1 q.1)

-- ---- the units that the loop takes

unit_ranged : (c : Content) (u : UnitDescription) → c ≡ unit u.weight u.march u.memory → is_formed c ≡ true → is_out_of_range c ≡ false → IsFile u.march × IsFile u.memory
unit_ranged c u e f o =
    let p = and_parts (is_file u.march) (is_file u.memory) (sym (ap is_formed e) ∙ f) in
    let r = or_parts (is_outside u.weight || nat_lt 255 (length u.march)) (nat_lt 255 (length u.memory)) (sym (ap is_out_of_range e) ∙ o) in
    let s = or_parts (is_outside u.weight) (nat_lt 255 (length u.march)) r.0 in
    (record { bytes = p.0; short = ltb-false 255 (length u.march) s.1 }, record { bytes = p.1; short = ltb-false 255 (length u.memory) r.1 })

pushed : (us : List ChipUnit) (u : ChipUnit) (ds : List UnitDescription) → map unit_of (us ++ u ∷ []) ++ ds ≡ map unit_of us ++ unit_of u ∷ ds
pushed [] u ds = refl
pushed (v ∷ us) u ds = ap (λ ds. unit_of v ∷ ds) (pushed us u ds)

-- behind a line that says no unit, and behind any line
pub no_unit : {before left : List TextLine} {l : TextLine} → before ≡ l ∷ left → None ≡ unit_said (said l.text) → units_said (statements before) ≡ units_said (statements left)
no_unit {before} {left} {l} step h = ap (λ ls. units_said (statements ls)) step ∙ go (said l.text) h
  where
    go : (v : Option Content) → None ≡ unit_said v → units_said (stated l.number v ++ statements left) ≡ units_said (statements left)
    go None h = refl
    go (Some (unit w m f)) h = (let z : ⊥ = cc in absurd z)
    go (Some c) h = refl

pub still_ranged : {before left : List TextLine} {l : TextLine} → before ≡ l ∷ left → out_of_range (statements before) ≡ None → out_of_range (statements left) ≡ None
still_ranged {before} {left} {l} step r = go (said l.text) (sym (ap (λ ls. out_of_range (statements ls)) step) ∙ r)
  where
    go : (v : Option Content) → out_of_range (stated l.number v ++ statements left) ≡ None → out_of_range (statements left) ≡ None
    go None r = r
    go (Some c) r =
        let s : Statement = record { line = l.number; content = c } in
        ap (at_line (λ n. OutOfRange n)) (find_past is_out s (statements left) (none_at _ (find is_out (s ∷ statements left)) r)).1

-- the units where no line is left
pub few_units : (us : List ChipUnit) (ls : List TextLine) (ss : List Statement) → ls ≡ [] → length us ≤ 16 → map unit_of us ++ units_said (statements ls) ≡ units_said ss → (too_many ss ≡ None) × (map unit_of us ≡ units_said ss)
few_units us ls ss e n t =
    let same : map unit_of us ≡ units_said ss = sym (append-nil _) ∙ ap (λ ls. map unit_of us ++ units_said (statements ls)) (sym e) ∙ t in
    (ap (λ b. if b then Some TooManyUnits else None) (le-ltb 16 (length (units_said ss)) (omega (arith, ap length same, length-map us unit_of))), same)

module _ {before left : List TextLine} {l : TextLine} (step : before ≡ l ∷ left) (o : Option UnitLine) (u : UnitLine) (s : option_map plain_unit o ≡ unit_said (said l.text)) (e : o ≡ Some u) where
  says_unit : said l.text ≡ Some (unit u.weight u.march.now u.memory.now)
  says_unit = content_is (said l.text) (plain_unit u) (sym s ∙ ap (option_map plain_unit) e)

  pub unit_fits : out_of_range (statements before) ≡ None → IsFile u.march.now × IsFile u.memory.now
  unit_fits r =
      let c = unit u.weight u.march.now u.memory.now in
      let none : find is_out (statements (l ∷ left)) ≡ None = none_at _ (find is_out (statements (l ∷ left))) (ap (λ ls. out_of_range (statements ls)) (sym step) ∙ r) in
      let here : find is_out ((record { line = l.number; content = c }) ∷ statements left) ≡ None = ap (λ v. find is_out (stated l.number v ++ statements left)) (sym says_unit) ∙ none in
      unit_ranged c (plain_unit u) refl (formed_said l.text c says_unit) (find_past is_out (record { line = l.number; content = c }) (statements left) here).0

  more : units_said (statements before) ≡ plain_unit u ∷ units_said (statements left)
  more = ap (λ ls. units_said (statements ls)) step ∙ ap (λ v. units_said (stated l.number v ++ statements left)) says_unit

  pub one_more : (us vs : List ChipUnit) (v : ChipUnit) (ds : List UnitDescription) → vs ≡ us ++ v ∷ [] → unit_of v ≡ plain_unit u → map unit_of us ++ units_said (statements before) ≡ ds → map unit_of vs ++ units_said (statements left) ≡ ds
  one_more us vs v ds e h t =
      ap (λ vs. map unit_of vs ++ units_said (statements left)) e ∙ pushed us v (units_said (statements left)) ∙ ap (λ d. map unit_of us ++ d ∷ units_said (statements left)) h
      ∙ ap (λ ds. map unit_of us ++ ds) (sym more) ∙ t

  pub one_too_many : (us : List ChipUnit) (ss : List Statement) → length us ≡ 16 → map unit_of us ++ units_said (statements before) ≡ units_said ss → too_many ss ≡ Some TooManyUnits
  one_too_many us ss n t =
      let all : length (units_said ss) ≡ length (map unit_of us) + suc (length (units_said (statements left))) =
      ap length (sym t) ∙ length-append (map unit_of us) (units_said (statements before)) ∙ ap (λ xs. length (map unit_of us) + length xs) more in
      let same : length (map unit_of us) ≡ length us = length-map us unit_of in
      ap (λ b. if b then Some TooManyUnits else None) (lt-ltb 16 (length (units_said ss)) (omega arith))
