-- Trusted. What a module means: the width and the value of an expression, the equations that settle a cycle, and
-- the registers after a rising edge of the clock. All values are unsigned and two-valued (IEEE 1364-2005
-- without x and z).
use Rattle.std.specs.Prelude.{◌≡◌, ℕ, ◌+◌, ◌-◌, ◌*◌, ◌/◌, ◌%◌, ◌^◌, ◌<◌, Bool, false, cond, ◌||◌, nat_eq, List, [], ◌∷◌, ◌++◌}
use Rattle.std.specs.Str.{bytes_eq}
use Rattle.bist_bits.specs.Vector.{Vector}
pub use Rattle.verilog_tree.specs.Operators.{bit, truth, prefixed_width, infixed_width, prefixed, infixed}
use Rattle.verilog_tree.specs.Plain.{Expression, Net, BitSelect, PartSelect, Literal, Concatenation, Prefixed, Infixed, Conditional, Expressions, NoMore, Followed, Statement, SetTo, IfElse, CaseOf, Statements, Done, Then, Arms, NoArm, ArmOf, ModuleItem, AssignItem, AlwaysItem, ModuleTree}
use Rattle.verilog_tree.specs.declared.names.Kind.{Kind}
use Rattle.verilog_tree.specs.declared.names.Kind.TheVariants as K
use Rattle.verilog_tree.specs.Names.{Declaration, declarations, width_of, is_clk}

-- a number for each name
abbrev pub Env : Type 0
Env = List ℕ → ℕ

-- the width of an expression, where names have the widths w
abbrev mutual
  pub width : (List ℕ → ℕ) → Expression → ℕ
  width w (Net n) = w n
  width w (BitSelect n i) = 1
  width w (PartSelect n h l) = h + 1 - l
  width w (Literal b) = b.width
  width w (Concatenation xs) = widths w xs
  width w (Prefixed o x) = prefixed_width o (width w x)
  width w (Infixed o x y) = infixed_width o (width w x)
  width w (Conditional c x y) = width w x

  -- the sum of their widths
  pub widths : (List ℕ → ℕ) → Expressions → ℕ
  widths w NoMore = 0
  widths w (Followed x xs) = width w x + widths w xs

-- the value of an expression, where names have the widths w and the values e
abbrev mutual
  pub value : (List ℕ → ℕ) → Env → Expression → ℕ
  value w e (Net n) = e n
  value w e (BitSelect n i) = e n / 2 ^ i % 2
  value w e (PartSelect n h l) = e n / 2 ^ l % 2 ^ (h + 1 - l)
  value w e (Literal b) = b.value
  value w e (Concatenation xs) = joined w e xs
  value w e (Prefixed o x) = prefixed o (width w x) (value w e x)
  value w e (Infixed o x y) = infixed o (width w x) (value w e x) (value w e y)
  value w e (Conditional c x y) = cond (truth (value w e c)) (value w e x) (value w e y)

  -- the first in the high bits
  pub joined : (List ℕ → ℕ) → Env → Expressions → ℕ
  joined w e NoMore = 0
  joined w e (Followed x xs) = value w e x * 2 ^ widths w xs + joined w e xs

-- the widths that the names of a module are declared with
abbrev pub names_widths : ModuleTree → List ℕ → ℕ
names_widths mo = width_of (declarations mo.ports mo.items)

-- The bits that a name has in a cycle. The clock has none: it is what parts the cycles.
abbrev pub settled_width : ModuleTree → List ℕ → ℕ
settled_width mo n = cond (is_clk n) 0 (names_widths mo n)

-- what a declared name that no expression drives is given, whatever names have
abbrev pub Given : {A : Type 0} → (List ℕ → A) → (List ℕ → A) → (List ℕ → A) → Kind → List ℕ → Type 0
Given regs ins e K.Input n = is_clk n ≡ false → e n ≡ ins n
Given regs ins e K.Wire n = Unit {0}
Given regs ins e K.Register n = e n ≡ regs n

abbrev pub AllGiven : {A : Type 0} → (List ℕ → A) → (List ℕ → A) → (List ℕ → A) → List Declaration → Type 0
AllGiven regs ins e [] = Unit {0}
AllGiven regs ins e (d ∷ ds) = Given regs ins e d.kind d.name × AllGiven regs ins e ds

-- each wire and plain output has, in this same e, the value of its expression: no order is given
abbrev pub Equations : (List ℕ → ℕ) → Env → List ModuleItem → Type 0
Equations w e [] = Unit {0}
Equations w e (AssignItem n x ∷ is) = (e n ≡ value w e x) × Equations w e is
Equations w e (other ∷ is) = Equations w e is

-- The environment e settles a cycle whose registers and inputs have these values. A name that the
-- module doesn't declare has no bits, so e gives it 0.
pub record Settles (mo : ModuleTree) (regs ins e : Env) : Type 0 where
  pub within : (n : List ℕ) → e n < 2 ^ settled_width mo n
  pub given : AllGiven regs ins e (declarations mo.ports mo.items)
  pub equations : Equations (names_widths mo) e mo.items

abbrev pub is_label : ℕ → List Vector → Bool
is_label v [] = false
is_label v (b ∷ bs) = nat_eq v b.value || is_label v bs

-- The registers and values that the taken statements set, in the order of the text. Every condition and
-- every value is taken in e, so before the edge.
abbrev mutual
  pub sets_of : (List ℕ → ℕ) → Env → Statement → List (List ℕ × ℕ)
  sets_of w e (SetTo n x) = (n, value w e x) ∷ []
  sets_of w e (IfElse c a b) = cond (truth (value w e c)) (sets w e a) (sets w e b)
  sets_of w e (CaseOf x as' d) = arm_sets w e (value w e x) as' (sets w e d)

  pub sets : (List ℕ → ℕ) → Env → Statements → List (List ℕ × ℕ)
  sets w e Done = []
  sets w e (Then s ss) = sets_of w e s ++ sets w e ss

  -- those of the first arm with a label of this value, else the default's
  pub arm_sets : (List ℕ → ℕ) → Env → ℕ → Arms → List (List ℕ × ℕ) → List (List ℕ × ℕ)
  arm_sets w e v NoArm d = d
  arm_sets w e v (ArmOf ls ss as') d = cond (is_label v ls) (sets w e ss) (arm_sets w e v as' d)

-- those of all blocks, block by block
abbrev pub block_sets : (List ℕ → ℕ) → Env → List ModuleItem → List (List ℕ × ℕ)
block_sets w e [] = []
block_sets w e (AlwaysItem c ss ∷ is) = sets w e ss ++ block_sets w e is
block_sets w e (other ∷ is) = block_sets w e is

-- what the last pair of a name sets, or else the old
abbrev pub last_set : {A : Type 0} → List ℕ → List (List ℕ × A) → A → A
last_set n [] old = old
last_set n (p ∷ ps) old = last_set n ps (cond (bytes_eq n p.0) p.1 old)

-- the registers after the edge that ends the cycle of e
abbrev pub next : ModuleTree → Env → Env
next mo e n = last_set n (block_sets (names_widths mo) e mo.items) (e n)

-- One environment a cycle, each settled with the registers of its cycle. The first cycle has the
-- registers regs, and each later one those that the cycle before leaves.
abbrev pub History : ModuleTree → Env → List Env → List Env → Type 0
History mo regs [] [] = Unit {0}
History mo regs (i ∷ is) (e ∷ es) = Settles mo regs i e × History mo (next mo e) is es
History mo regs inputs environments = ⊥
