-- A module whose cycles settle has a history with any inputs, as long as one likes.
use Rattle.std.proofs.Common.{◌≡◌, ℕ, zero, suc, ◌+◌, ◌^◌, ◌<◌, false, true, List, [], ◌∷◌, ◌++◌, Some, None, refl, sym, ap, subst, arith, slice_get, ◌∙◌, append_assoc}
use Rattle.verilog_tree.specs.declared.names.Kind.{Kind}
use Rattle.verilog_tree.specs.declared.names.Kind.TheVariants as K
use Rattle.verilog_tree.specs.Plain.{ModuleTree}
use Rattle.verilog_tree.specs.Names.{Declaration, declarations, lookup, declared_width, is_clk}
use Rattle.verilog_tree.specs.Formed.{formed}
use Rattle.verilog_tree.specs.Meaning.{Env, names_widths, settled_width, next, History}
use Rattle.verilog_tree.specs.Rules.{first_break}
use Rattle.verilog_tree.specs.Wires.{Falls, GivenWithin, AllWithin, Starts}
use Rattle.verilog_tree.proofs.Clean.{Fresh, fresh_found}
use Rattle.verilog_tree.proofs.Settling.{lawful_module, one_settles}
use Rattle.verilog_open.proofs.Within.{next_fits}

-- the values of registers and inputs are within their widths
pub starts_at : (regs ins : Env) (ds b es : List Declaration) → Fresh b es → b ++ es ≡ ds → ((d : Declaration) → lookup ds d.name ≡ Some d → GivenWithin regs ins d.kind d.name d.width) → AllWithin regs ins es
starts_at regs ins ds b [] f e by = tt
starts_at regs ins ds b (d ∷ es) f e by =
    (by d (subst (λ (l : List Declaration). lookup l d.name ≡ Some d) e (fresh_found b es d f.0)), starts_at regs ins ds (b ++ d ∷ []) es f.1 (append_assoc b (d ∷ []) es ∙ e) by)

-- the inputs of so many cycles from t on
abbrev pub inputs_from : (ℕ → Env) → ℕ → ℕ → List Env
inputs_from ins t zero = []
inputs_from ins t (suc n) = ins t ∷ inputs_from ins (suc t) n

-- input k of them is that of cycle t + k
pub inputs_at : (ins : ℕ → Env) (t n k : ℕ) (i : Env) → slice_get (inputs_from ins t n) k ≡ Some i → i ≡ ins (t + k)
inputs_at ins t zero k i g = cc
inputs_at ins t (suc n) zero i g = let at : t ≡ t + 0 = omega arith in let same : ins t ≡ i = cc in sym same ∙ ap ins at
inputs_at ins t (suc n) (suc k) i g = let at : suc t + k ≡ t + suc k = omega arith in subst (λ (z : ℕ). i ≡ ins z) at (inputs_at ins (suc t) n k i g)

-- a history of so many more cycles behind cycle t, and its last environment
pub record Lasts (mo : ModuleTree) (ins : ℕ → Env) (t k : ℕ) (regs : Env) : Type 0 where
  pub cycles : List Env
  pub last : Env
  pub history : History mo regs (inputs_from ins t (suc k)) cycles
  pub at : slice_get cycles k ≡ Some last
  pub fits : (n : List ℕ) → last n < 2 ^ settled_width mo n

module _ (mo : ModuleTree) (f : formed mo ≡ true) (h : first_break mo ≡ None) (rank : List ℕ → ℕ) (falls : Falls rank mo.items) (ins : ℕ → Env)
    (narrow : (t : ℕ) (d : Declaration) → lookup (declarations mo.ports mo.items) d.name ≡ Some d → d.kind ≡ K.Input → is_clk d.name ≡ false → ins t d.name < 2 ^ d.width) where
  abbrev ds : List Declaration
  ds = declarations mo.ports mo.items

  starts : (t : ℕ) (regs : Env) → ((n : List ℕ) → regs n < 2 ^ names_widths mo n) → Starts mo regs (ins t)
  starts t regs fit = starts_at regs (ins t) ds [] ds (lawful_module mo f h).fresh refl (λ d q. within d q d.kind refl)
    where
      within : (d : Declaration) → lookup ds d.name ≡ Some d → (k : Kind) → d.kind ≡ k → GivenWithin regs (ins t) k d.name d.width
      within d q K.Input i = λ c. narrow t d q i c
      within d q K.Wire i = tt
      within d q K.Register i = subst (λ (v : ℕ). regs d.name < 2 ^ v) (ap declared_width q) (fit d.name)

  pub lasts : (k t : ℕ) (regs : Env) → ((n : List ℕ) → regs n < 2 ^ names_widths mo n) → Lasts mo ins t k regs
  lasts zero t regs fit =
      let one = one_settles mo f h rank falls regs (ins t) (starts t regs fit) in
      record { cycles = one.env ∷ []; last = one.env; history = (one.settles, tt); at = refl; fits = one.settles.within }
  lasts (suc k) t regs fit =
      let one = one_settles mo f h rank falls regs (ins t) (starts t regs fit) in
      let more = lasts k (suc t) (next mo one.env) (next_fits mo f h one.env one.settles.within) in
      record { cycles = one.env ∷ more.cycles; last = more.last; history = (one.settles, more.history); at = more.at; fits = more.fits }
