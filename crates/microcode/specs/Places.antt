-- Public. Places in the run of a march, by four digits, and what is left from one of them on.
use Rattle.std.specs.Prelude.{ℕ, ◌+◌, ◌-◌, ◌<◌, ◌≤◌, ◌≡◌, ◌==◌, Bool, true, if◌then◌else◌, ◌&&◌, List, [], ◌∷◌, length}
use Rattle.march_core.specs.March.{MarchElement, pause, sweep, element_at}
use Rattle.march_core.specs.Visits.{Direction, Upward, Downward}
use Rattle.microcode.specs.declared.place.Extent.{Extent}
use Rattle.microcode.specs.Code.{opers_at}
use Rattle.microcode.specs.Rows.{rows, rest_of}

pub record Place : Type 0 where
  pub back : ℕ
  pub element : ℕ
  pub visit : ℕ
  pub oper : ℕ

abbrev pub first_place : Place
first_place = record { back = 0; element = 0; visit = 0; oper = 0 }

pub record IsExtent (g : Extent) : Type 0 where
  pub words : 1 ≤ g.words
  pub pause : 1 ≤ g.pause
  pub runs : 1 ≤ g.runs

-- how many visits an element makes
abbrev pub visits_of : Extent → MarchElement → ℕ
visits_of g pause = g.pause
visits_of g (sweep order ops) = g.words

abbrev pub visits_at : List MarchElement → Extent → ℕ → ℕ
visits_at march g e = visits_of g (element_at march e)

-- the index of a visit
abbrev pub index_in : Direction → ℕ → ℕ → ℕ
index_in Upward words x = x
index_in Downward words x = words - 1 - x

-- ---- the digits

pub record IsPlace (march : List MarchElement) (g : Extent) (p : Place) : Type 0 where
  pub back : p.back < g.runs
  pub element : p.element < length march
  pub visit : p.visit < visits_at march g p.element
  pub oper : p.oper < opers_at march p.element

-- which digits are at their last
pub record Lasts : Type 0 where
  pub oper : Bool
  pub visit : Bool
  pub element : Bool
  pub back : Bool

abbrev pub lasts_at : List MarchElement → Extent → Place → Lasts
lasts_at march g p = record {
  oper = p.oper == opers_at march p.element - 1;
  visit = p.visit == visits_at march g p.element - 1;
  element = p.element == length march - 1;
  back = p.back == g.runs - 1;
}

-- a digit steps where each digit below it is at its last, and goes to 0 from its own last
abbrev pub counted : Bool → Bool → ℕ → ℕ
counted steps last n = if steps then (if last then 0 else n + 1) else n

abbrev pub place_after : Lasts → Place → Place
place_after l p = record {
  oper = counted true l.oper p.oper;
  visit = counted l.oper l.visit p.visit;
  element = counted (l.oper && l.visit) l.element p.element;
  back = counted (l.oper && (l.visit && l.element)) l.back p.back;
}

abbrev pub all_last : Lasts → Bool
all_last l = l.oper && (l.visit && (l.element && l.back))

abbrev pub next_place : List MarchElement → Extent → Place → Place
next_place march g p = place_after (lasts_at march g p) p

abbrev pub is_last : List MarchElement → Extent → Place → Bool
is_last march g p = all_last (lasts_at march g p)

-- ---- what is done at the places, as lists of lists of lists of lists

abbrev pub slot_of : {A : Type 0} → (Place → A) → ℕ → ℕ → ℕ → ℕ → List A
slot_of slot b e x o = slot (record { back = b; element = e; visit = x; oper = o }) ∷ []

abbrev pub visit_slots : {A : Type 0} → (Place → A) → List MarchElement → ℕ → ℕ → ℕ → List A
visit_slots slot march b e x = rows (slot_of slot b e x) 0 (opers_at march e)

abbrev pub element_slots : {A : Type 0} → (Place → A) → List MarchElement → Extent → ℕ → ℕ → List A
element_slots slot march g b e = rows (visit_slots slot march b e) 0 (visits_at march g e)

abbrev pub run_slots : {A : Type 0} → (Place → A) → List MarchElement → Extent → ℕ → List A
run_slots slot march g b = rows (element_slots slot march g b) 0 (length march)

-- ---- what is left of them from a place on

abbrev pub visit_rest : {A : Type 0} → (Place → A) → List MarchElement → ℕ → ℕ → ℕ → ℕ → List A
visit_rest slot march b e x o = rest_of (slot_of slot b e x) (opers_at march e) o (slot_of slot b e x o)

abbrev pub element_rest : {A : Type 0} → (Place → A) → List MarchElement → Extent → ℕ → ℕ → ℕ → ℕ → List A
element_rest slot march g b e x o = rest_of (visit_slots slot march b e) (visits_at march g e) x (visit_rest slot march b e x o)

abbrev pub run_rest : {A : Type 0} → (Place → A) → List MarchElement → Extent → ℕ → ℕ → ℕ → ℕ → List A
run_rest slot march g b e x o = rest_of (element_slots slot march g b) (length march) e (element_rest slot march g b e x o)

abbrev pub rest : {A : Type 0} → (Place → A) → List MarchElement → Extent → Place → List A
rest slot march g p = rest_of (run_slots slot march g) g.runs p.back (run_rest slot march g p.back p.element p.visit p.oper)

-- what is done at a place, and then what is left of the place behind it
pub record Turns {A : Type 0} (slot : Place → A) (march : List MarchElement) (g : Extent) (p : Place) : Type 0 where
  pub place : IsPlace march g (next_place march g p)
  pub left : rest slot march g p ≡ slot p ∷ (if is_last march g p then [] else rest slot march g (next_place march g p))
