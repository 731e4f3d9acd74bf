-- Inner. What the tables over the march tell.
use Rattle.std.specs.Prelude.{ℕ, Bool, ◌++◌, map, drop, take}
use Rattle.verilog_tree.specs.Plain.{Expression}
use Rattle.rtl_layout.specs.declared.flags.MarchFlag.{MarchFlag}
use Rattle.rtl_layout.specs.declared.flags.MarchFlag.TheVariants.{Write, One, OneBehind, EndsBehind, Down, Pause, Single}
use Rattle.rtl_layout.specs.Build.{lit, pick, counted, number_of}
use Rattle.rtl_layout.specs.Layout.{element, writes_at, one_at, one_behind, ends_behind}
use Rattle.rtl_layout.specs.Plan.{Plan, Element, is_single}

abbrev pub row_flag : MarchFlag → Element → ℕ → Bool
row_flag Write = writes_at
row_flag One = one_at
row_flag OneBehind = one_behind
row_flag EndsBehind = ends_behind
row_flag Down = λ x i. x.down
row_flag Pause = λ x i. x.pause
row_flag Single = λ x i. is_single x

-- what an element has at each of these numbers
abbrev pub row_leaf : ℕ → MarchFlag → Element → Expression
row_leaf width which x = lit width (number_of (map (row_flag which x) (counted width)))

-- that of the element so many places on
abbrev pub flags_ahead : Plan → ℕ → MarchFlag → ℕ → Expression
flags_ahead p width which ahead = pick element p.element_width (map (row_leaf width which) (drop ahead p.elements ++ take ahead p.elements))
