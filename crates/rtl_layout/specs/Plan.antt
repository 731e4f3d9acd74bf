-- Public. What a self-test module is made from, as plain numbers and tables.
use Rattle.std.specs.Prelude.{ℕ, ◌-◌, ◌^◌, Bool, cond, nat_eq, nat_lt, List, length, bit_xor}
use Rattle.rtl_layout.specs.declared.element.PlanOperation.{PlanOperation}
use Rattle.rtl_layout.specs.declared.row.Row.{Row}

-- an element; a pause has one operation, which is never shown
pub record Element : Type 0 where
  pub down : Bool
  pub pause : Bool
  pub operations : List PlanOperation

pub record Plan : Type 0 where
  pub name : List ℕ
  pub elements : List Element
  pub words : ℕ
  pub bits : ℕ
  pub backgrounds : List ℕ
  -- whether the address is the index itself, and else its bits from the lowest up
  pub straight : Bool
  pub rows : List Row
  -- one less than the cycles from a command to its word
  pub delay : ℕ
  pub polarity : ℕ
  -- the cycles of a pause
  pub pause : ℕ
  pub addr_width : ℕ
  pub visit_width : ℕ
  pub element_width : ℕ
  pub oper_width : ℕ
  pub back_width : ℕ

-- a background's word with the bit of an operation, as it stands on a port
abbrev pub port_word : Plan → Bool → ℕ → ℕ
port_word p v b = bit_xor (cond v (2 ^ p.bits - 1 - b) b) p.polarity

-- whether there are several backgrounds
abbrev pub several : Plan → Bool
several p = nat_lt 1 (length p.backgrounds)

-- whether a word has several bits
abbrev pub several_bits : Plan → Bool
several_bits p = nat_lt 1 p.bits

-- whether an element has one operation
abbrev pub is_single : Element → Bool
is_single x = nat_eq (length x.operations) 1

-- how often an element is visited
abbrev pub limit : Plan → Element → ℕ
limit p x = cond x.pause p.pause p.words
