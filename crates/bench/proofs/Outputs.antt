-- The outputs of a module with the ports of a self-test, which may be in any order.
use Rattle.std.proofs.Common.{◌≡◌, ℕ, ◌+◌, ◌<◌, ◌^◌, ◌%◌, ◌==◌, Bool, true, false, ◌&&◌, nat_eq, cond, Some, List, [], ◌∷◌, ◌++◌, map, length, refl, sym, ap, ap₂, ◌∙◌, subst, codes, inl, inr, slice_index}
use Rattle.std.specs.Str.{bytes_eq}
use Rattle.std.proofs.lemmas.Slice.Eq.{bytes_eq-Decides}
use Rattle.std.proofs.lemmas.Bool.Decides.{Decides-eqb}
use Rattle.std.proofs.Math.Nat.{mod-eq_of_lt}
use Rattle.verilog_tree.specs.declared.tree.Dir.TheVariants.{Output}
use Rattle.verilog_tree.specs.Plain.{ModulePort, ModuleTree}
use Rattle.verilog_tree.specs.Names.{Declaration, port_declaration, port_declarations, width_of, declared_width, lookup, number}
use Rattle.verilog_tree.specs.Meaning.{Env}
use Rattle.memory_desc.specs.Descriptions.{Description}
use Rattle.self_test.specs.Ports.{ports, port_values}
use Rattle.self_test.specs.WrongPort.{has_port, has_name, same_port, same_direction, ArePorts}
use Rattle.word_device.specs.Joint.{command_on}
use Rattle.verilog_cycle.specs.Design.{outputs_of}
use Rattle.bench.specs.declared.cycle.Outputs.{Outputs}
use Rattle.self_test.specs.declared.pins.Pins.{Pins}
use Rattle.self_test.specs.Pins.{output_names, ArePins}
use Rattle.bench.specs.inner.Cycles.{AreWithin, outputs_at}
use Rattle.self_test.proofs.Places.{or_true, and_true, nothing_left, place_within, value_there}
use Rattle.bench.proofs.Inputs.{or_false, Alone, behind}

-- ---- the width of an output

-- a port that is found stands somewhere
named : (x : ModulePort) (qs : List ModulePort) → has_port x qs ≡ true
    → (b : List ModulePort) × (q : ModulePort) × (c : List ModulePort) × (qs ≡ b ++ q ∷ c) × (same_port x q ≡ true)
named x [] h = cc
named x (q ∷ qs) h = elim (or_true (same_port x q) (has_port x qs) h) [
  | inl g ↦ ([], q, qs, refl, g)
  | inr g ↦ (let r = named x qs g in (q ∷ r.0, r.1, r.2, ap (λ l. q ∷ l) r.3, r.4))
]

pub width_there : (n : List ℕ) (k : ℕ) (ps : List ModulePort) (rest : List Declaration) → Alone ps → has_port (record { dir = Output; name = n; width = k }) ps ≡ true
    → width_of (port_declarations ps ++ rest) n ≡ k
width_there n k [] rest h f = cc
width_there n k (p ∷ ps) rest h f = by (bytes_eq n p.name) refl (λ g. width_there n k ps rest (behind p ps h) g)
  where
    x : ModulePort
    x = record { dir = Output; name = n; width = k }

    twice : bytes_eq n p.name ≡ true → has_port (record { dir = Output; name = n; width = k }) ps ≡ true → ⊥
    twice e g =
        let r = named (record { dir = Output; name = n; width = k }) ps g in
        let other = (or_false (bytes_eq r.1.name p.name) (has_name r.1.name r.0) (h (p ∷ r.0) r.1 r.2 (ap (λ l. p ∷ l) r.3))).0 in
        let here = (bytes_eq-Decides n p.name).0 e in
        let there = (bytes_eq-Decides n r.1.name).0 (and_true (bytes_eq n r.1.name) (same_direction Output r.1.dir && nat_eq k r.1.width) r.4).0 in
        nothing_left (sym other ∙ (bytes_eq-Decides r.1.name p.name).1 (sym there ∙ here))

    by : (b : Bool) → bytes_eq n p.name ≡ b → (has_port (record { dir = Output; name = n; width = k }) ps ≡ true → width_of (port_declarations ps ++ rest) n ≡ k)
        → width_of (port_declarations (p ∷ ps) ++ rest) n ≡ k
    by true e r = elim (or_true (same_port (record { dir = Output; name = n; width = k }) p) (has_port (record { dir = Output; name = n; width = k }) ps) f) [
      | inl g ↦ (let a = and_true (bytes_eq n p.name) (same_direction Output p.dir && nat_eq k p.width) g in let w = and_true (same_direction Output p.dir) (nat_eq k p.width) a.1 in
          ap (λ b. declared_width (cond b (Some (port_declaration p)) (lookup (port_declarations ps ++ rest) n))) e ∙ sym ((Decides-eqb k p.width).0 w.1))
      | inr g ↦ absurd (twice e g)
    ]
    by false e r = elim (or_true (same_port (record { dir = Output; name = n; width = k }) p) (has_port (record { dir = Output; name = n; width = k }) ps) f) [
      | inl g ↦ absurd (nothing_left (sym e ∙ (and_true (bytes_eq n p.name) (same_direction Output p.dir && nat_eq k p.width) g).0))
      | inr g ↦ ap (λ b. declared_width (cond b (Some (port_declaration p)) (lookup (port_declarations ps ++ rest) n))) e ∙ r g
    ]

-- ---- all outputs

pub within : (d : Description) (mo : ModuleTree) (pins : Pins) → ArePorts d mo.ports → ArePins mo.ports pins → AreWithin pins (length (outputs_of mo))
within d mo pins a s =
    let o = a.each.1.1.1 in
    let en = place_within (codes "en") 1 mo.ports o.0 in
    let we = place_within (codes "we") 1 mo.ports o.1.0 in
    let addr = place_within (codes "addr") d.scramble.width mo.ports o.1.1.0 in
    let wdata = place_within (codes "wdata") d.bits mo.ports o.1.1.1.0 in
    let done = place_within (codes "done") 1 mo.ports o.1.1.1.1.0 in
    let fail = place_within (codes "fail") 1 mo.ports o.1.1.1.1.1.0 in
    record {
      en = subst (λ i. i < length (outputs_of mo)) (sym s.en) en;
      we = subst (λ i. i < length (outputs_of mo)) (sym s.we) we;
      addr = subst (λ i. i < length (outputs_of mo)) (sym s.addr) addr;
      wdata = subst (λ i. i < length (outputs_of mo)) (sym s.wdata) wdata;
      done = subst (λ i. i < length (outputs_of mo)) (sym s.done) done;
      fail = subst (λ i. i < length (outputs_of mo)) (sym s.fail) fail;
    }

-- what an environment shows at the outputs
pub record Shown (e : Env) (out : Outputs) : Type 0 where
  pub cmd : out.cmd ≡ command_on (port_values e)
  pub done : out.done ≡ (port_values e).done
  pub fail : out.fail ≡ (port_values e).fail

pub shown : (d : Description) (mo : ModuleTree) (pins : Pins) (e : Env) (values : List ℕ) → ArePorts d mo.ports → ArePins mo.ports pins
    → e (codes "addr") < 2 ^ 32 → values ≡ map (λ x. e x.name) (outputs_of mo) → Shown e (outputs_at values pins)
shown d mo pins e values a s low v = record {
  cmd = rw (en, we, addr, wdata) refl;
  done = ap (λ n. n == 1) done;
  fail = ap (λ n. n == 1) fail;
}
  where
    at : (n : List ℕ) (k i : ℕ) → has_port (record { dir = Output; name = n; width = k }) mo.ports ≡ true → i ≡ number (output_names mo.ports) n
        → slice_index values i ≡ e n
    at n k i h f = ap₂ (λ l j. slice_index l j) v f ∙ value_there 0 e n k mo.ports h

    en : slice_index values pins.en ≡ e (codes "en")
    en = at (codes "en") 1 pins.en a.each.1.1.1.0 s.en

    we : slice_index values pins.we ≡ e (codes "we")
    we = at (codes "we") 1 pins.we a.each.1.1.1.1.0 s.we

    addr : slice_index values pins.addr % 2 ^ 32 ≡ e (codes "addr")
    addr = ap (λ n. n % 2 ^ 32) (at (codes "addr") d.scramble.width pins.addr a.each.1.1.1.1.1.0 s.addr) ∙ mod-eq_of_lt low

    wdata : slice_index values pins.wdata ≡ e (codes "wdata")
    wdata = at (codes "wdata") d.bits pins.wdata a.each.1.1.1.1.1.1.0 s.wdata

    done : slice_index values pins.done ≡ e (codes "done")
    done = at (codes "done") 1 pins.done a.each.1.1.1.1.1.1.1.0 s.done

    fail : slice_index values pins.fail ≡ e (codes "fail")
    fail = at (codes "fail") 1 pins.fail a.each.1.1.1.1.1.1.1.1.0 s.fail
