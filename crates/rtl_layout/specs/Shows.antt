-- Public. Which plans a module can be made of, and when its ports answer for the controller.
use Rattle.std.specs.Prelude.{◌≡◌, ℕ, ◌^◌, ◌<◌, ◌≤◌, true, false, List, [], ◌∷◌, length, slice_index_or}
use Rattle.verilog_tree.specs.Words.{is_name}
use Rattle.verilog_tree.specs.Meaning.{Env, bit, History}
use Rattle.rtl_layout.specs.declared.row.Row.{Row}
use Rattle.rtl_layout.specs.Plan.{Plan}
use Rattle.rtl_layout.specs.Layout.{reset, rdata, self_test, en, we, addr, wdata, done, fail}
use Rattle.rtl_layout.specs.Control.{Control, Ports, start, step, outputs, logical, element_at, background_at}

abbrev pub no_row : Row
no_row = record { mask = 0; flip = false }

abbrev pub mask_at : Plan → ℕ → ℕ
mask_at p j = (slice_index_or p.rows j no_row).mask

-- The widths of a plan are those that names can have, it has a row for each bit of the address, and its masks,
-- backgrounds and polarity fit.
pub record Sized (p : Plan) : Type 0 where
  pub addr_some : 1 ≤ p.addr_width
  pub addr_narrow : p.addr_width ≤ 64
  pub visit_holds : p.addr_width ≤ p.visit_width
  pub visit_narrow : p.visit_width ≤ 64
  pub element_some : 1 ≤ p.element_width
  pub element_narrow : p.element_width ≤ 64
  pub oper_some : 1 ≤ p.oper_width
  pub oper_narrow : p.oper_width ≤ 64
  -- a row has a bit for each number of an operation
  pub row_narrow : 2 ^ p.oper_width ≤ 64
  pub back_some : 1 ≤ p.back_width
  pub back_narrow : p.back_width ≤ 64
  pub bits_some : 1 ≤ p.bits
  pub bits_narrow : p.bits ≤ 64
  pub rows_full : length p.rows ≡ p.addr_width
  pub masks_fit : (j : ℕ) → j < length p.rows → mask_at p j < 2 ^ p.addr_width
  pub grounds_fit : (j : ℕ) → j < length p.backgrounds → background_at p j < 2 ^ p.bits
  pub polarity_fits : p.polarity < 2 ^ p.bits

-- and it has an element, a background, an operation of each element, a word and a cycle of a pause, and no more of
-- these than its widths count
pub record Ready (p : Plan) : Type 0 where
  pub sized : Sized p
  pub has_element : 0 < length p.elements
  pub has_background : 0 < length p.backgrounds
  pub has_operation : (k : ℕ) → 0 < length (element_at p k).operations
  pub has_word : 0 < p.words
  pub has_pause : 0 < p.pause
  pub elements_fit : length p.elements ≤ 2 ^ p.element_width
  pub backgrounds_fit : length p.backgrounds ≤ 2 ^ p.back_width
  pub words_fit : p.words ≤ 2 ^ p.visit_width
  pub pause_fits : p.pause ≤ 2 ^ p.visit_width
  pub operations_fit : (k : ℕ) → length (element_at p k).operations ≤ 2 ^ p.oper_width
  pub index_fits : p.words ≤ 2 ^ p.addr_width

-- The ports answer for the controller: the address where a command goes out.
pub record Answers (p : Plan) (q : Ports) (e : Env) : Type 0 where
  pub en_is : e en ≡ bit q.en
  pub we_is : e we ≡ bit q.we
  pub addr_is : q.en ≡ true → e addr ≡ logical p q.index
  pub wdata_is : e wdata ≡ q.wdata
  pub done_is : e done ≡ bit q.done
  pub fail_is : e fail ≡ bit q.fail

abbrev pub NoReset : List Env → Type 0
NoReset [] = Unit {0}
NoReset (i ∷ is) = (i reset ≡ 0) × NoReset is

-- each cycle's ports answer for the controller of that cycle
abbrev pub AllAnswer : Plan → Control → List Env → List Env → Type 0
AllAnswer p c [] es = Unit {0}
AllAnswer p c (i ∷ is) [] = Unit {0}
AllAnswer p c (i ∷ is) (e ∷ es) = Answers p (outputs p c) e × AllAnswer p (step p (i rdata) c) is es

-- Whatever the registers hold, the ports are quiet in a cycle with reset, and then answer for the
-- controller from its start.
abbrev pub AnswersAlways : Plan → Type 0
AnswersAlways p =
    (regs i e : Env) (is es : List Env) → i reset ≡ 1 → NoReset is → History (self_test p) regs (i ∷ is) (e ∷ es)
    → ((e en ≡ 0) × (e done ≡ 0) × (e fail ≡ 0)) × AllAnswer p (start p) is es

-- A plan of a module that can be written: at most four ages, which have a digit each, and names that are legal.
pub record IsPlan (p : Plan) : Type 0 where
  pub ready : Ready p
  pub few_ages : p.delay ≤ 3
  pub few_elements : length p.elements ≤ 64
  pub few_backgrounds : length p.backgrounds ≤ 8
  pub element_small : p.element_width ≤ 16
  pub oper_small : p.oper_width ≤ 16
  pub back_small : p.back_width ≤ 16
  pub name : is_name p.name ≡ true
