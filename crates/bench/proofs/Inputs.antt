-- The inputs of a module with the ports of a self-test, besides the clock: `reset` and `rdata`, in either order.
use Rattle.std.proofs.Common.{◌≡◌, ◌≢◌, ◌⊎◌, ℕ, zero, suc, ◌+◌, ◌<◌, ◌^◌, Bool, true, false, not, ◌&&◌, ◌||◌, nat_eq, if◌then◌else◌, List, [], ◌∷◌, ◌++◌, map, length, refl, sym, ap, ap₂, ◌∙◌, append_assoc, Option, Some, None, slice_get, subst, arith, codes, inl, inr}
use Rattle.std.specs.List.{AllByRecursion, filter}
use Rattle.std.specs.Option.{option_map}
use Rattle.std.specs.Str.{bytes_eq}
use Rattle.std.proofs.lemmas.Slice.Eq.{bytes_eq-Decides}
use Rattle.std.proofs.lemmas.Bool.Decides.{Decides-eqb}
use Rattle.verilog_tree.specs.declared.tree.Dir.{Dir}
use Rattle.verilog_tree.specs.declared.tree.Dir.TheVariants.{Input, Output, OutputReg}
use Rattle.verilog_tree.specs.declared.names.Kind.TheVariants as K
use Rattle.verilog_tree.specs.Plain.{ModulePort, ModuleItem, WireItem, RegItem, AssignItem, AlwaysItem, ModuleTree}
use Rattle.verilog_tree.specs.Names.{Declaration, port_declaration, port_declarations, item_declarations, kind_of, is_input, is_clk}
use Rattle.memory_desc.specs.Descriptions.{Description}
use Rattle.self_test.specs.Ports.{ports}
use Rattle.self_test.specs.WrongPort.{has_port, has_name, same_port, same_direction, ArePorts}
use Rattle.verilog_tree.specs.Meaning.{Env, Given, AllGiven}
use Rattle.verilog_cycle.specs.Nets.{valued}
use Rattle.verilog_cycle.specs.Design.{inputs_of, names, Fit}
use Rattle.self_test.specs.Pins.{reset_leads}
use Rattle.self_test.proofs.Places.{or_true, and_true, nothing_left}
use Rattle.bench.specs.inner.Cycles.{input_values}

-- ---- the inputs by recursion on the ports

pub is_data : Declaration → Bool
is_data x = is_input x.kind && not (is_clk x.name)

pub data_inputs : List ModulePort → List Declaration
unfolding is_data
data_inputs [] = []
data_inputs (p ∷ ps) = if is_data (port_declaration p) then port_declaration p ∷ data_inputs ps else data_inputs ps

no_items : (is : List ModuleItem) → filter (λ x. is_input x.kind && not (is_clk x.name)) (item_declarations is) ≡ []
no_items [] = refl
no_items (WireItem n k ∷ is) = no_items is
no_items (RegItem n k ∷ is) = no_items is
no_items (AssignItem n x ∷ is) = no_items is
no_items (AlwaysItem c ss ∷ is) = no_items is

pub inputs_are : (ps : List ModulePort) (is : List ModuleItem) → filter (λ x. is_input x.kind && not (is_clk x.name)) (port_declarations ps ++ item_declarations is) ≡ data_inputs ps
unfolding is_data data_inputs
inputs_are [] is = no_items is
inputs_are (p ∷ ps) is = ap (λ l. if is_input (kind_of p.dir) && not (is_clk p.name) then port_declaration p ∷ l else l) (inputs_are ps is)

-- ---- which they are

abbrev pub reset_input : Declaration
reset_input = record { name = codes "reset"; kind = K.Input; width = 1 }

abbrev pub rdata_input : Description → Declaration
rdata_input d = record { name = codes "rdata"; kind = K.Input; width = d.bits }

abbrev IsOne : Description → Declaration → Type 0
IsOne d x = (x ≡ reset_input) ⊎ (x ≡ rdata_input d)

skip_output : (x y r : Bool) → ((x && (false && y)) || r) ≡ true → r ≡ true
skip_output true y r h = h
skip_output false y r h = h

-- a port of the list that is an input and not the clock
is_one : (d : Description) (n : List ℕ) (k : ℕ) → has_port (record { dir = Input; name = n; width = k }) (ports d) ≡ true → is_clk n ≡ false
    → IsOne d (record { name = n; kind = K.Input; width = k })
is_one d n k h c = elim (or_true (bytes_eq n (codes "clk") && nat_eq k 1) _ h) [
  | inl g ↦ (let z = (and_true (bytes_eq n (codes "clk")) (nat_eq k 1) g).0 in cc)
  | inr g ↦ elim (or_true (bytes_eq n (codes "reset") && nat_eq k 1) _ g) [
    | inl f ↦ (let a = and_true (bytes_eq n (codes "reset")) (nat_eq k 1) f in
        inl (ap₂ (λ m w. record { name = m; kind = K.Input; width = w }) ((bytes_eq-Decides n (codes "reset")).0 a.0) ((Decides-eqb k 1).0 a.1)))
    | inr f ↦ elim (or_true (bytes_eq n (codes "rdata") && nat_eq k d.bits) _ f) [
      | inl e ↦ (let a = and_true (bytes_eq n (codes "rdata")) (nat_eq k d.bits) e in
          inr (ap₂ (λ m w. record { name = m; kind = K.Input; width = w }) ((bytes_eq-Decides n (codes "rdata")).0 a.0) ((Decides-eqb k d.bits).0 a.1)))
      | inr e ↦ absurd (none_left e)
    ]
  ]
]
  where
    none_left : ((bytes_eq n (codes "en") && (false && nat_eq k 1)) || ((bytes_eq n (codes "we") && (false && nat_eq k 1))
        || ((bytes_eq n (codes "addr") && (false && nat_eq k d.scramble.width)) || ((bytes_eq n (codes "wdata") && (false && nat_eq k d.bits))
        || ((bytes_eq n (codes "done") && (false && nat_eq k 1)) || ((bytes_eq n (codes "fail") && (false && nat_eq k 1)) || false)))))) ≡ true → ⊥
    none_left e =
        let we = skip_output (bytes_eq n (codes "en")) (nat_eq k 1) _ e in
        let addr = skip_output (bytes_eq n (codes "we")) (nat_eq k 1) _ we in
        let wdata = skip_output (bytes_eq n (codes "addr")) (nat_eq k d.scramble.width) _ addr in
        let done = skip_output (bytes_eq n (codes "wdata")) (nat_eq k d.bits) _ wdata in
        let fail = skip_output (bytes_eq n (codes "done")) (nat_eq k 1) _ done in
        nothing_left (skip_output (bytes_eq n (codes "fail")) (nat_eq k 1) false fail)

port_is_one : (d : Description) (p : ModulePort) (dir : Dir) → p.dir ≡ dir → has_port p (ports d) ≡ true → is_data (port_declaration p) ≡ true → IsOne d (port_declaration p)
unfolding is_data
port_is_one d p Input e h t =
    let clk = and_true (is_input (kind_of p.dir)) (not (is_clk p.name)) t in
    subst (λ x. IsOne d (record { name = p.name; kind = kind_of x; width = p.width })) (sym e)
    (is_one d p.name p.width (ap (λ x. has_port (record { dir = x; name = p.name; width = p.width }) (ports d)) (sym e) ∙ h) (not_true (is_clk p.name) clk.1))
  where
    not_true : (b : Bool) → not b ≡ true → b ≡ false
    not_true true h = cc
    not_true false h = refl
port_is_one d p Output e h t = let z = (and_true (is_input (kind_of p.dir)) (not (is_clk p.name)) t).0 in let y = ap (λ x. is_input (kind_of x)) e in cc
port_is_one d p OutputReg e h t = let z = (and_true (is_input (kind_of p.dir)) (not (is_clk p.name)) t).0 in let y = ap (λ x. is_input (kind_of x)) e in cc

pub each_is_one : (d : Description) (ps : List ModulePort) → AllByRecursion (λ p. has_port p (ports d) ≡ true) ps → AllByRecursion (IsOne d) (data_inputs ps)
unfolding data_inputs
each_is_one d [] a = tt
each_is_one d (p ∷ ps) a = by (each_is_one d ps a.1) (is_data (port_declaration p)) refl
  where
    by : AllByRecursion (IsOne d) (data_inputs ps) → (t : Bool) → is_data (port_declaration p) ≡ t
        → AllByRecursion (IsOne d) (if t then port_declaration p ∷ data_inputs ps else data_inputs ps)
    by rest true e = (port_is_one d p p.dir refl a.0 e, rest)
    by rest false e = rest

-- ---- each name stands once

abbrev IsOther : Declaration → Declaration → Type 0
IsOther x y = bytes_eq y.name x.name ≡ false

abbrev AreOnce : List Declaration → Type 0
AreOnce [] = Unit {0}
AreOnce (x ∷ xs) = AllByRecursion (IsOther x) xs × AreOnce xs

pub or_false : (x y : Bool) → (x || y) ≡ false → (x ≡ false) × (y ≡ false)
or_false true y h = cc
or_false false y h = (refl, h)

abbrev pub Alone : List ModulePort → Type 0
Alone qs = (b : List ModulePort) (q : ModulePort) (c : List ModulePort) → qs ≡ b ++ q ∷ c → has_name q.name b ≡ false

-- the ports behind p have other names
others : (p : ModulePort) (b qs : List ModulePort) → Alone (p ∷ b ++ qs) → AllByRecursion (IsOther (port_declaration p)) (data_inputs qs)
unfolding data_inputs
others p b [] h = tt
others p b (q ∷ qs) h =
    by (others p (b ++ q ∷ []) qs (subst Alone (ap (λ l. p ∷ l) (sym (append_assoc b (q ∷ []) qs))) h)) (is_data (port_declaration q)) refl
  where
    by : AllByRecursion (IsOther (port_declaration p)) (data_inputs qs) → (t : Bool) → is_data (port_declaration q) ≡ t
        → AllByRecursion (IsOther (port_declaration p)) (if t then port_declaration q ∷ data_inputs qs else data_inputs qs)
    by rest true e = ((or_false (bytes_eq q.name p.name) (has_name q.name b) (h (p ∷ b) q qs refl)).0, rest)
    by rest false e = rest

pub behind : (p : ModulePort) (qs : List ModulePort) → Alone (p ∷ qs) → Alone qs
behind p qs h b q c e = (or_false (bytes_eq q.name p.name) (has_name q.name b) (h (p ∷ b) q c (ap (λ l. p ∷ l) e))).1

each_once : (qs : List ModulePort) → Alone qs → AreOnce (data_inputs qs)
unfolding data_inputs
each_once [] h = tt
each_once (p ∷ qs) h = by (each_once qs (behind p qs h)) (is_data (port_declaration p)) refl
  where
    by : AreOnce (data_inputs qs) → (t : Bool) → is_data (port_declaration p) ≡ t → AreOnce (if t then port_declaration p ∷ data_inputs qs else data_inputs qs)
    by rest true e = (others p [] qs h, rest)
    by rest false e = rest

-- ---- both are there

abbrev Holds : List Declaration → Declaration → Type 0
Holds xs x = (i : ℕ) × (slice_get xs i ≡ Some x)

later : (xs : List Declaration) (x y : Declaration) → Holds xs x → Holds (y ∷ xs) x
later xs x y h = (suc h.0, h.1)

-- an input of the ports that isn't the clock is among these
is_there : (n : List ℕ) (k : ℕ) (qs : List ModulePort) → is_clk n ≡ false → has_port (record { dir = Input; name = n; width = k }) qs ≡ true
    → Holds (data_inputs qs) (record { name = n; kind = K.Input; width = k })
unfolding data_inputs
is_there n k [] c h = cc
is_there n k (q ∷ qs) c h = elim (or_true _ _ h) [
  | inl g ↦ here q.dir refl g
  | inr g ↦ there (is_data (port_declaration q)) refl (is_there n k qs c g)
]
  where
    there : (t : Bool) → is_data (port_declaration q) ≡ t → Holds (data_inputs qs) (record { name = n; kind = K.Input; width = k })
        → Holds (if t then port_declaration q ∷ data_inputs qs else data_inputs qs) (record { name = n; kind = K.Input; width = k })
    there true e r = later (data_inputs qs) (record { name = n; kind = K.Input; width = k }) (port_declaration q) r
    there false e r = r

    no_way : (dir : Dir) → q.dir ≡ dir → same_direction Input dir ≡ false → same_port (record { dir = Input; name = n; width = k }) q ≡ true → ⊥
    no_way dir e f g =
        let parts = and_true (bytes_eq n q.name) _ g in
        let goes = (and_true (same_direction Input q.dir) (nat_eq k q.width) parts.1).0 in
        let z : true ≡ false = sym goes ∙ ap (same_direction Input) e ∙ f in
        cc

    here : (dir : Dir) → q.dir ≡ dir → same_port (record { dir = Input; name = n; width = k }) q ≡ true
        → Holds (if is_data (port_declaration q) then port_declaration q ∷ data_inputs qs else data_inputs qs) (record { name = n; kind = K.Input; width = k })
    here Input e g =
        let parts = and_true (bytes_eq n q.name) _ g in
        let width = (and_true (same_direction Input q.dir) (nat_eq k q.width) parts.1).1 in
        let same : ◌≡◌ {A = ModulePort} (record { dir = Input; name = n; width = k }) q =
        ap (λ x. record { dir = x; name = n; width = k }) (sym e)
        ∙ ap₂ (λ m w. record { dir = q.dir; name = m; width = w }) ((bytes_eq-Decides n q.name).0 parts.0) ((Decides-eqb k q.width).0 width) in
        subst (λ (x : ModulePort). Holds (if is_data (port_declaration x) then port_declaration x ∷ data_inputs qs else data_inputs qs) (record { name = n; kind = K.Input; width = k })) same
        (subst (λ b. Holds (if not b then (record { name = n; kind = K.Input; width = k }) ∷ data_inputs qs else data_inputs qs) (record { name = n; kind = K.Input; width = k })) (sym c) (0, refl))
    here Output e g = absurd (no_way Output e refl g)
    here OutputReg e g = absurd (no_way OutputReg e refl g)

-- ---- so there are two orders

abbrev Orders : Description → List Declaration → Type 0
Orders d xs = (xs ≡ reset_input ∷ rdata_input d ∷ []) ⊎ (xs ≡ rdata_input d ∷ reset_input ∷ [])

twice : (x y z : Declaration) → x ≡ z → y ≡ z → bytes_eq y.name x.name ≡ false → ⊥
twice x y z e f h =
    let same = (bytes_eq-Decides y.name x.name).1 (ap (λ v. v.name) (f ∙ sym e)) in
    nothing_left (sym h ∙ same)

same_some : (x y : Declaration) → Some y ≡ Some x → x ≡ y
same_some x y h = cc

apart : (d : Description) {x : Declaration} → reset_input ≡ x → rdata_input d ≡ x → ⊥
apart d {x} e f = nothing_left ((bytes_eq-Decides (codes "reset") (codes "rdata")).1 (ap (λ v. v.name) (e ∙ sym f)))

two : (d : Description) (xs : List Declaration) → AllByRecursion (IsOne d) xs → AreOnce xs → Holds xs reset_input → Holds xs (rdata_input d) → Orders d xs
two d [] a o r w = let z = r.1 in cc
two d (x ∷ []) a o (zero, e) (zero, f) = absurd (apart d (same_some reset_input x e) (same_some (rdata_input d) x f))
two d (x ∷ []) a o (suc i, e) w = cc
two d (x ∷ []) a o (zero, e) (suc j, f) = cc
two d (x ∷ y ∷ []) (inl e, (inr f, _)) o r w = inl (ap₂ (λ p q. p ∷ q ∷ []) e f)
two d (x ∷ y ∷ []) (inr e, (inl f, _)) o r w = inr (ap₂ (λ p q. p ∷ q ∷ []) e f)
two d (x ∷ y ∷ []) (inl e, (inl f, _)) o r w = absurd (twice x y reset_input e f o.0.0)
two d (x ∷ y ∷ []) (inr e, (inr f, _)) o r w = absurd (twice x y (rdata_input d) e f o.0.0)
two d (x ∷ y ∷ z ∷ xs) (inl e, (inl f, _)) o r w = absurd (twice x y reset_input e f o.0.0)
two d (x ∷ y ∷ z ∷ xs) (inr e, (inr f, _)) o r w = absurd (twice x y (rdata_input d) e f o.0.0)
two d (x ∷ y ∷ z ∷ xs) (inl e, (inr f, (inl g, _))) o r w = absurd (twice x z reset_input e g o.0.1.0)
two d (x ∷ y ∷ z ∷ xs) (inl e, (inr f, (inr g, _))) o r w = absurd (twice y z (rdata_input d) f g o.1.0.0)
two d (x ∷ y ∷ z ∷ xs) (inr e, (inl f, (inl g, _))) o r w = absurd (twice y z reset_input f g o.1.0.0)
two d (x ∷ y ∷ z ∷ xs) (inr e, (inl f, (inr g, _))) o r w = absurd (twice x z (rdata_input d) e g o.0.1.0)

-- ---- what the inputs are given

leads : List Declaration → Bool
leads [] = false
leads (x ∷ xs) = bytes_eq x.name (codes "reset")

leads_is : (ps : List ModulePort) → reset_leads ps ≡ leads (data_inputs ps)
unfolding data_inputs is_data leads
leads_is [] = refl
leads_is (p ∷ ps) = by (is_input (kind_of p.dir) && not (is_clk p.name)) (leads_is ps)
  where
    by : (t : Bool) → reset_leads ps ≡ leads (data_inputs ps)
        → (if t then bytes_eq p.name (codes "reset") else reset_leads ps) ≡ leads (if t then port_declaration p ∷ data_inputs ps else data_inputs ps)
    by true h = refl
    by false h = h

abbrev pub bit_of : Bool → ℕ
bit_of b = if b then 1 else 0

-- the inputs fit, and give `reset` and `rdata` these values
pub record AreGiven (d : Description) (xs : List Declaration) (values : List ℕ) (reset : Bool) (rdata : ℕ) : Type 0 where
  pub fit : Fit xs values
  pub resets : valued (names xs) values (codes "reset") ≡ bit_of reset
  pub reads : valued (names xs) values (codes "rdata") ≡ rdata

bit_low : (b : Bool) → bit_of b < 2 ^ 1
bit_low true = omega arith
bit_low false = omega arith

given_in : (d : Description) (xs : List Declaration) (first reset : Bool) (rdata : ℕ) → Orders d xs → first ≡ leads xs → rdata < 2 ^ d.bits
    → AreGiven d xs (input_values first reset rdata) reset rdata
unfolding leads
given_in d xs first reset rdata (inl e) f low =
    subst (λ (l : List Declaration). AreGiven d l (input_values first reset rdata) reset rdata) (sym e)
    (subst (λ b. AreGiven d (reset_input ∷ rdata_input d ∷ []) (input_values b reset rdata) reset rdata) (sym (f ∙ ap leads e))
    (record { fit = (bit_low reset, (low, tt)); resets = refl; reads = refl }))
given_in d xs first reset rdata (inr e) f low =
    subst (λ (l : List Declaration). AreGiven d l (input_values first reset rdata) reset rdata) (sym e)
    (subst (λ b. AreGiven d (rdata_input d ∷ reset_input ∷ []) (input_values b reset rdata) reset rdata) (sym (f ∙ ap leads e))
    (record { fit = (low, (bit_low reset, tt)); resets = refl; reads = refl }))

pub given : (d : Description) (mo : ModuleTree) (first reset : Bool) (rdata : ℕ) → ArePorts d mo.ports → first ≡ reset_leads mo.ports → rdata < 2 ^ d.bits
    → AreGiven d (inputs_of mo) (input_values first reset rdata) reset rdata
given d mo first reset rdata a f low =
    subst (λ (l : List Declaration). AreGiven d l (input_values first reset rdata) reset rdata) (sym (inputs_are mo.ports mo.items))
    (given_in d (data_inputs mo.ports) first reset rdata
    (two d (data_inputs mo.ports) (each_is_one d mo.ports a.only) (each_once mo.ports a.once) (is_there (codes "reset") 1 mo.ports refl a.each.1.0)
    (is_there (codes "rdata") d.bits mo.ports refl a.each.1.1.0))
    (f ∙ leads_is mo.ports) low)

-- what an environment gives an input
pub given_there : (regs ins e : Env) (n : List ℕ) (k : ℕ) (ps : List ModulePort) (rest : List Declaration) → is_clk n ≡ false
    → has_port (record { dir = Input; name = n; width = k }) ps ≡ true → AllGiven regs ins e (port_declarations ps ++ rest) → e n ≡ ins n
given_there regs ins e n k [] rest c h a = cc
given_there regs ins e n k (q ∷ qs) rest c h a = elim (or_true _ _ h) [
  | inl g ↦ here q.dir refl g
  | inr g ↦ given_there regs ins e n k qs rest c g a.1
]
  where
    no_way : (dir : Dir) → q.dir ≡ dir → same_direction Input dir ≡ false → same_port (record { dir = Input; name = n; width = k }) q ≡ true → ⊥
    no_way dir e f g =
        let parts = and_true (bytes_eq n q.name) _ g in
        let goes = (and_true (same_direction Input q.dir) (nat_eq k q.width) parts.1).0 in
        nothing_left (sym (ap (same_direction Input) e ∙ f) ∙ goes)

    here : (dir : Dir) → q.dir ≡ dir → same_port (record { dir = Input; name = n; width = k }) q ≡ true → e n ≡ ins n
    here Input f g =
        let parts = and_true (bytes_eq n q.name) _ g in
        let same = (bytes_eq-Decides n q.name).0 parts.0 in
        let G : Dir → Type 0 = λ x. Given regs ins e (kind_of x) q.name in
        subst (λ m. e m ≡ ins m) (sym same) (subst G f a.0 (ap is_clk (sym same) ∙ c))
    here Output f g = absurd (no_way Output f refl g)
    here OutputReg f g = absurd (no_way OutputReg f refl g)
