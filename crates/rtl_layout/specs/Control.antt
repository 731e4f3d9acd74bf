-- Public. The controller as a machine.
use Rattle.std.specs.Prelude.{ℕ, zero, suc, ◌+◌, ◌-◌, Bool, true, false, cond, not, ◌&&◌, nat_eq, List, [], ◌∷◌, length, bit_xor, slice_index_or, bit_and, count_ones, ◌*◌, ◌%◌}
use Rattle.verilog_tree.specs.Meaning.{bit}
use Rattle.rtl_layout.specs.declared.element.PlanOperation.{PlanOperation}
use Rattle.rtl_layout.specs.declared.row.Row.{Row}
use Rattle.rtl_layout.specs.Plan.{Element, Plan, port_word, limit}

-- what was commanded some cycles ago
pub record Stage : Type 0 where
  pub reads : Bool
  pub over : Bool
  pub value : Bool
  pub back : ℕ

pub record Control : Type 0 where
  pub oper : ℕ
  pub visit : ℕ
  pub element : ℕ
  pub back : ℕ
  pub run : Bool
  -- from age 1 to one less than the latency
  pub stages : List Stage
  -- of the latency's age
  pub reads : Bool
  pub over : Bool
  pub want : ℕ
  pub bad : Bool

abbrev pub idle : PlanOperation
idle = record { write = false; bit = false }

abbrev pub nothing : Element
nothing = record { down = false; pause = false; operations = idle ∷ [] }

abbrev pub element_at : Plan → ℕ → Element
element_at p k = slice_index_or p.elements k nothing

abbrev pub operation_at : Plan → ℕ → ℕ → PlanOperation
operation_at p k o = slice_index_or (element_at p k).operations o idle

abbrev pub background_at : Plan → ℕ → ℕ
background_at p k = slice_index_or p.backgrounds k 0

abbrev pub word_at : Plan → ℕ → Bool → ℕ
word_at p k v = port_word p v (background_at p k)

abbrev pub asleep : Stage
asleep = record { reads = false; over = false; value = false; back = 0 }

abbrev pub quiet : ℕ → List Stage
quiet zero = []
quiet (suc n) = asleep ∷ quiet n

abbrev pub start : Plan → Control
start p = record {
  oper = 0;
  visit = 0;
  element = 0;
  back = 0;
  run = true;
  stages = quiet p.delay;
  reads = false;
  over = false;
  want = 0;
  bad = false;
}

-- the last of these
abbrev pub oldest : Stage → List Stage → Stage
oldest s [] = s
oldest s (t ∷ ts) = oldest t ts

-- all but the last of these
abbrev pub younger : Stage → List Stage → List Stage
younger s [] = []
younger s (t ∷ ts) = s ∷ younger t ts

-- the place's element and operation, and whether a command goes out
abbrev pub here : Plan → Control → Element
here p c = element_at p c.element

abbrev pub operation : Plan → Control → PlanOperation
operation p c = operation_at p c.element c.oper

abbrev pub is_live : Plan → Control → Bool
is_live p c = cond (here p c).pause false c.run

-- what is commanded now
abbrev pub now : Plan → Control → Stage
now p c = record {
  reads = cond (operation p c).write false (is_live p c);
  over = not c.run;
  value = (operation p c).bit;
  back = c.back;
}

abbrev pub ends_oper : Plan → Control → Bool
ends_oper p c = nat_eq c.oper (length (here p c).operations - 1)

abbrev pub ends_visit : Plan → Control → Bool
ends_visit p c = nat_eq c.visit (limit p (here p c) - 1)

abbrev pub ends_element : Plan → Control → Bool
ends_element p c = nat_eq c.element (length p.elements - 1)

abbrev pub ends_back : Plan → Control → Bool
ends_back p c = nat_eq c.back (length p.backgrounds - 1)

-- a digit goes on to the next value, or from its last to 0
abbrev pub turned : Bool → ℕ → ℕ
turned last k = cond last 0 (k + 1)

-- whether all of these are true
abbrev pub all : List Bool → Bool
all [] = true
all (b ∷ bs) = b && all bs

abbrev pub step : Plan → ℕ → Control → Control
step p word c =
    let e0 = ends_oper p c in
    let e1 = ends_visit p c in
    let e2 = ends_element p c in
    let e3 = ends_back p c in
    let old = oldest (now p c) c.stages in
    record {
      oper = cond (all (c.run ∷ [])) (turned e0 c.oper) c.oper;
      visit = cond (all (c.run ∷ e0 ∷ [])) (turned e1 c.visit) c.visit;
      element = cond (all (c.run ∷ e0 ∷ e1 ∷ [])) (turned e2 c.element) c.element;
      back = cond (all (c.run ∷ e0 ∷ e1 ∷ e2 ∷ [])) (turned e3 c.back) c.back;
      run = cond (all (c.run ∷ e0 ∷ e1 ∷ e2 ∷ e3 ∷ [])) false c.run;
      stages = younger (now p c) c.stages;
      reads = old.reads;
      over = old.over;
      want = word_at p old.back old.value;
      bad = cond (all (c.reads ∷ not (nat_eq word c.want) ∷ [])) true c.bad;
    }

pub record Ports : Type 0 where
  pub en : Bool
  pub we : Bool
  pub index : ℕ
  pub wdata : ℕ
  pub done : Bool
  pub fail : Bool

-- the index of the word that is visited
abbrev pub index_at : Plan → Element → ℕ → ℕ
index_at p x k = cond x.down (p.words - 1 - k) k

abbrev pub outputs : Plan → Control → Ports
outputs p c = record {
  en = is_live p c;
  we = (operation p c).write;
  index = index_at p (here p c) c.visit;
  wdata = word_at p c.back (operation p c).bit;
  done = c.over;
  fail = c.bad;
}

-- a bit of the address
abbrev pub address_bit : Row → ℕ → ℕ
address_bit r k = bit_xor (count_ones (bit_and k r.mask) % 2) (bit r.flip)

abbrev pub address_of : List Row → ℕ → ℕ
address_of [] k = 0
address_of (r ∷ rs) k = address_of rs k * 2 + address_bit r k

abbrev pub logical : Plan → ℕ → ℕ
logical p k = cond p.straight k (address_of p.rows k)
