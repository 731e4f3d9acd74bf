-- Where the instructions of an element stand in the code, and the place behind a place.
use Rattle.std.proofs.Common.{◌≡◌, ℕ, zero, suc, ◌+◌, ◌-◌, ◌<◌, ◌≤◌, ◌⊎◌, inl, inr, Bool, true, false, if◌then◌else◌, List, [], ◌∷◌, ◌++◌, length, slice_get, Some, None, refl, sym, ◌∙◌, ap, subst, arith, zero-add, length-append, eq-eqb, ne_eqb, eqb-true}
use Rattle.std.proofs.lemmas.Option.{same_Some, slice_get_within}
use Rattle.std.proofs.lemmas.Bool.Decides.{eqb_tells}
use Rattle.microcode.specs.declared.code.Instr.{Instr}
use Rattle.microcode.specs.declared.place.CodePlace.{CodePlace}
use Rattle.microcode.specs.declared.place.Extent.{Extent}
use Rattle.march_core.specs.March.{MarchElement, pause, sweep, is_pause, element_at}
use Rattle.microcode.specs.Code.{opers_of, opers_at, instr_of, instrs_from, assemble, first_of}
use Rattle.microcode.specs.Places.{Lasts, lasts_at, place_after, all_last, IsPlace, IsExtent, visits_of, visits_at, next_place}
use Rattle.microcode.specs.Running.{digits, IsAt, IsBehind}
use Rattle.microcode.proofs.Turn.{turns, opers_some}

-- ---- the instructions

instr_there : (x : MarchElement) (i n j : ℕ) (more : List Instr) → j < n → slice_get (instrs_from x i n ++ more) j ≡ Some (instr_of x (i + j))
instr_there x i zero j more h = absurd (omega arith)
instr_there x i (suc n) zero more h = let here : i ≡ i + 0 = omega arith in ap (λ k. Some (instr_of x k)) here
instr_there x i (suc n) (suc j) more h =
    let on : i + 1 + j ≡ i + suc j = omega arith in
    instr_there x (i + 1) n j more (omega arith) ∙ ap (λ k. Some (instr_of x k)) on

instr_behind : (x : MarchElement) (i n j : ℕ) (more : List Instr) → slice_get (instrs_from x i n ++ more) (n + j) ≡ slice_get more j
instr_behind x i zero j more = ap (slice_get more) (zero-add j)
instr_behind x i (suc n) j more =
    let on : suc n + j ≡ suc (n + j) = omega arith in
    ap (slice_get (instrs_from x i (suc n) ++ more)) on ∙ instr_behind x (i + 1) n j more

pub length-instrs : (x : MarchElement) (i n : ℕ) → length (instrs_from x i n) ≡ n
length-instrs x i zero = refl
length-instrs x i (suc n) = ap suc (length-instrs x (i + 1) n)

pub first_zero : (march : List MarchElement) → first_of march 0 ≡ 0
first_zero [] = refl
first_zero (x ∷ march) = refl

-- instruction o of element e
pub code_at : (march : List MarchElement) (e o : ℕ) → e < length march → o < opers_at march e
    → slice_get (assemble march) (first_of march e + o) ≡ Some (instr_of (element_at march e) o)
code_at [] e o h k = absurd (omega arith)
code_at (x ∷ march) zero o h k =
    let at : 0 + o ≡ o = zero-add o in
    ap (slice_get (assemble (x ∷ march))) at ∙ instr_there x 0 (opers_of x) o (assemble march) k ∙ ap (λ j. Some (instr_of x j)) at
code_at (x ∷ march) (suc e) o h k =
    let on : opers_of x + first_of march e + o ≡ opers_of x + (first_of march e + o) = omega arith in
    ap (slice_get (assemble (x ∷ march))) on ∙ instr_behind x 0 (opers_of x) (first_of march e + o) (assemble march) ∙ code_at march e o (omega arith) k

first_more : (march : List MarchElement) (e : ℕ) → e < length march → first_of march (e + 1) ≡ first_of march e + opers_at march e
first_more [] e h = absurd (omega arith)
first_more (x ∷ march) zero h = let none = first_zero march in omega arith
first_more (x ∷ march) (suc e) h =
    let on : suc e + 1 ≡ suc (e + 1) = omega arith in
    let more = first_more march e (omega arith) in
    ap (first_of (x ∷ march)) on ∙ (omega arith)

first_all : (march : List MarchElement) → first_of march (length march) ≡ length (assemble march)
first_all [] = refl
first_all (x ∷ march) =
    let rest = first_all march in
    let both = length-append (instrs_from x 0 (opers_of x)) (assemble march) in
    let here = length-instrs x 0 (opers_of x) in
    omega arith

-- ---- the place behind a place

visits_are : (g : Extent) (x : MarchElement) → (if is_pause x then g.pause else g.words) ≡ visits_of g x
visits_are g pause = refl
visits_are g (sweep order ops) = refl

pub within : (march : List MarchElement) (g : Extent) (code : List Instr) (p : CodePlace) → IsAt march code g p → p.first + p.oper < length code
within march g code p at =
    let there = slice_get_within (assemble march) _ _ (code_at march p.element p.oper at.place.element at.place.oper) in
    let same = ap length at.assembled in
    let first = at.first in
    omega arith

module _ (march : List MarchElement) (g : Extent) (code : List Instr) (p : CodePlace) (i : Instr) (m : IsExtent g) (at : IsAt march code g p)
    (there : slice_get code (p.first + p.oper) ≡ Some i) where
  pub is_instr : i ≡ instr_of (element_at march p.element) p.oper
  is_instr =
      same_Some _ _ (sym there ∙ ap (λ c. slice_get c (p.first + p.oper)) at.assembled ∙ ap (λ f. slice_get (assemble march) (f + p.oper)) at.first
      ∙ code_at march p.element p.oper at.place.element at.place.oper)

  abbrev lasts : Lasts
  lasts = lasts_at march g (digits p)

  last_oper : (b : Bool) → i.last ≡ b → lasts.oper ≡ b
  last_oper b h = sym (ap (λ x. x.last) is_instr) ∙ h

  visits_here : (v : ℕ) → v ≡ (if i.pause then g.pause else g.words) → v ≡ visits_at march g p.element
  visits_here v h =
      h ∙ ap (λ x. if x.pause then g.pause else g.words) is_instr ∙ visits_are g (element_at march p.element)

  opers_end : i.last ≡ true → p.oper + 1 ≡ opers_at march p.element
  opers_end h =
      let same = eqb-true p.oper (opers_at march p.element - 1) (last_oper true h) in
      let some = opers_some march p.element at.accepted.each in
      omega arith

  element_end : i.last ≡ true → p.first + p.oper + 1 ≡ first_of march (p.element + 1)
  element_end h =
      let last = opers_end h in
      let first = at.first in
      let more = first_more march p.element at.place.element in
      omega arith

  -- where it lies, if the next place is this one
  moved : (q : CodePlace) (l : Lasts) → lasts ≡ l → digits q ≡ place_after l (digits p) → all_last l ≡ false → q.first ≡ first_of march q.element
      → IsBehind march code g p (Some q)
  moved q l e goes n f =
      let is : digits q ≡ next_place march g (digits p) = goes ∙ sym (ap (λ k. place_after k (digits p)) e) in (
        record {
          accepted = at.accepted;
          assembled = at.assembled;
          first = f;
          place = subst (λ r. IsPlace march g r) (sym is) (turns (λ q. q) march g (digits p) at.accepted m at.place).place;
        },
        is,
        ap all_last e ∙ n,
      )

  pub behind_oper : i.last ≡ false → IsBehind march code g p (Some (record p { oper = p.oper + 1 }))
  behind_oper h =
      moved (record p { oper = p.oper + 1 }) (record lasts { oper = false })
      (λ j. record { oper = last_oper false h j; visit = lasts.visit; element = lasts.element; back = lasts.back }) refl refl at.first

  pub behind_visit : (v : ℕ) → i.last ≡ true → v ≡ (if i.pause then g.pause else g.words) → p.visit + 1 < v
      → IsBehind march code g p (Some (record p { oper = 0; visit = p.visit + 1 }))
  behind_visit v h e l =
      let count = visits_here v e in
      let other : lasts.visit ≡ false = ne_eqb p.visit (visits_at march g p.element - 1) (λ x. omega arith) in
      moved (record p { oper = 0; visit = p.visit + 1 }) (record lasts { oper = true; visit = false })
      (λ j. record { oper = last_oper true h j; visit = other j; element = lasts.element; back = lasts.back }) refl refl at.first

  last_visit : (v : ℕ) → v ≡ (if i.pause then g.pause else g.words) → v ≤ p.visit + 1 → lasts.visit ≡ true
  last_visit v e l =
      let count = visits_here v e in
      let in_range = at.place.visit in
      eq-eqb p.visit (visits_at march g p.element - 1) (omega arith)

  pub behind_element : (v : ℕ) → i.last ≡ true → v ≡ (if i.pause then g.pause else g.words) → v ≤ p.visit + 1 → p.first + p.oper + 1 < length code
      → IsBehind march code g p (Some (record { first = p.first + p.oper + 1; oper = 0; visit = 0; element = p.element + 1; back = p.back }))
  behind_element v h e l k =
      let in_range = at.place.element in
      let all = first_all march in
      let same = ap length at.assembled in
      let next = element_end h in
      let other : lasts.element ≡ false = ne_eqb p.element (length march - 1) (λ x. let end : p.element + 1 ≡ length march = omega arith in
      let total = ap (first_of march) end in omega arith) in
      moved (record { first = p.first + p.oper + 1; oper = 0; visit = 0; element = p.element + 1; back = p.back })
      (record { oper = true; visit = true; element = false; back = lasts.back })
      (λ j. record { oper = last_oper true h j; visit = last_visit v e l j; element = other j; back = lasts.back }) refl refl next

  last_element : i.last ≡ true → length code ≤ p.first + p.oper + 1 → lasts.element ≡ true
  last_element h k =
      let in_range = at.place.element in
      let next = element_end h in
      let same = ap length at.assembled in
      elim (cases (p.element + 1) (length march) (omega arith)) [
        | inl end ↦ eq-eqb p.element (length march - 1) (omega arith)
        | inr more ↦
            let some = opers_some march (p.element + 1) at.accepted.each in
            let l = slice_get_within (assemble march) _ _ (code_at march (p.element + 1) 0 more some) in
            absurd (omega arith)
      ]
    where
      cases : (x y : ℕ) → x ≤ y → (x ≡ y) ⊎ (x < y)
      cases x y l = elim (eqb_tells x y) [ inl q ↦ inl q.1 | inr q ↦ let ne = q.1 in inr (omega arith) ]

  pub behind_back : (v : ℕ) → i.last ≡ true → v ≡ (if i.pause then g.pause else g.words) → v ≤ p.visit + 1 → length code ≤ p.first + p.oper + 1
      → p.back + 1 < g.runs
      → IsBehind march code g p (Some (record { first = 0; oper = 0; visit = 0; element = 0; back = p.back + 1 }))
  behind_back v h e l k n =
      let other : lasts.back ≡ false = ne_eqb p.back (g.runs - 1) (λ x. omega arith) in
      moved (record { first = 0; oper = 0; visit = 0; element = 0; back = p.back + 1 })
      (record { oper = true; visit = true; element = true; back = false })
      (λ j. record { oper = last_oper true h j; visit = last_visit v e l j; element = last_element h k j; back = other j }) refl refl (sym (first_zero march))

  pub behind_none : (v : ℕ) → i.last ≡ true → v ≡ (if i.pause then g.pause else g.words) → v ≤ p.visit + 1 → length code ≤ p.first + p.oper + 1
      → g.runs ≤ p.back + 1 → IsBehind march code g p None
  behind_none v h e l k n =
      let in_range = at.place.back in
      let last : lasts.back ≡ true = eq-eqb p.back (g.runs - 1) (omega arith) in
      let all : lasts ≡ record { oper = true; visit = true; element = true; back = true } =
      λ j. record { oper = last_oper true h j; visit = last_visit v e l j; element = last_element h k j; back = last j } in
      (ap all_last all, ap (λ k. place_after k (digits p)) all)
