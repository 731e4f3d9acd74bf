-- The names of a top are all different.
use Rattle.std.proofs.Common.{◌≡◌, ℕ, zero, suc, ◌+◌, ◌<◌, ◌≤◌, Bool, true, false, cond, List, [], ◌∷◌, ◌++◌, length, drop, Option, Some, None, codes, decimal, refl, sym, ap, ◌∙◌, arith}
use Rattle.std.proofs.lemmas.Fmt.{decimal_is_IsNumeral}
use Rattle.std.proofs.lemmas.Slice.Eq.{bytes_eq-Decides}
use Rattle.std.specs.Str.{bytes_eq}
use Rattle.std.specs.Str.Parse.{digits_value}
use Rattle.verilog_tree.specs.declared.names.Kind.{Kind}
use Rattle.verilog_tree.specs.Plain.{ModuleItem, ModulePort}
use Rattle.verilog_tree.specs.Names.{Declaration, port_declarations, item_declarations, declarations, lookup}
use Rattle.memory_desc.specs.Descriptions.{Description}
use Rattle.chip_rtl.specs.Tops.{rdata_of, en_of, we_of, addr_of, wdata_of, over_of, bad_of, hold_of, unit_ports, top_ports, unit_wires, hold_wires}
use Rattle.self_test.specs.Ports.{port}
use Rattle.verilog_tree.specs.declared.tree.Dir.TheVariants.{Output}
use Rattle.verilog_tree.proofs.Sound.{Apart}

-- ---- numbers behind a word

same_rest : (p a b : List ℕ) → p ++ a ≡ p ++ b → a ≡ b
same_rest [] a b h = h
same_rest (c ∷ p) a b h = same_rest p a b (ap (drop 1) h)

by_true : (t : Bool) → (t ≡ true → ⊥) → t ≡ false
by_true true h = absurd (h refl)
by_true false h = refl

pub numbered : (p : List ℕ) (i j : ℕ) → i < 1000 → j < 1000 → (i ≡ j → ⊥) → bytes_eq (p ++ decimal i) (p ++ decimal j) ≡ false
numbered p i j a b n = by_true (bytes_eq (p ++ decimal i) (p ++ decimal j)) (λ h.
    let e = same_rest p (decimal i) (decimal j) ((bytes_eq-Decides (p ++ decimal i) (p ++ decimal j)).0 h) in
    n (sym (decimal_is_IsNumeral i (omega arith)).1 ∙ ap (digits_value 10) e ∙ (decimal_is_IsNumeral j (omega arith)).1))

-- ---- what is declared

abbrev pub decl : List ℕ → Kind → ℕ → Declaration
decl n k w = record { name = n; kind = k; width = w }

-- the wires of the top
abbrev pub wires_of : List Description → ℕ → List ModuleItem
wires_of ds k = unit_wires 0 ds ++ hold_wires 0 k

-- the declarations of the top
abbrev pub declared : List Description → ℕ → List Declaration
declared ds k = declarations (top_ports ds) (wires_of ds k)

-- from unit i on, k units have no net of this name
pub record MissesPorts (n : List ℕ) (i k : ℕ) : Type 0 where
  pub rdata : (j : ℕ) → i ≤ j → j < i + k → bytes_eq n (rdata_of j) ≡ false
  pub en : (j : ℕ) → i ≤ j → j < i + k → bytes_eq n (en_of j) ≡ false
  pub we : (j : ℕ) → i ≤ j → j < i + k → bytes_eq n (we_of j) ≡ false
  pub addr : (j : ℕ) → i ≤ j → j < i + k → bytes_eq n (addr_of j) ≡ false
  pub wdata : (j : ℕ) → i ≤ j → j < i + k → bytes_eq n (wdata_of j) ≡ false

misses_more : (n : List ℕ) (i k : ℕ) → MissesPorts n i (suc k) → MissesPorts n (suc i) k
misses_more n i k m = record {
  rdata = λ j a b. m.rdata j (omega arith) (omega arith);
  en = λ j a b. m.en j (omega arith) (omega arith);
  we = λ j a b. m.we j (omega arith) (omega arith);
  addr = λ j a b. m.addr j (omega arith) (omega arith);
  wdata = λ j a b. m.wdata j (omega arith) (omega arith);
}

pass : (t : Bool) (d : Declaration) (o p : Option Declaration) → t ≡ false → o ≡ p → cond t (Some d) o ≡ p
pass t d o p h q = ap (λ u. cond u (Some d) o) h ∙ q

pub skip_ports : (n : List ℕ) (i : ℕ) (ds : List Description) (rest : List ModulePort) (tail : List Declaration) → MissesPorts n i (length ds) → lookup (port_declarations (unit_ports i ds ++ rest) ++ tail) n ≡ lookup (port_declarations rest ++ tail) n
skip_ports n i [] rest tail m = refl
skip_ports n i (d ∷ ds) rest tail m =
    pass (bytes_eq n (rdata_of i)) _ _ _ (m.rdata i (omega arith) (omega arith))
    (pass (bytes_eq n (en_of i)) _ _ _ (m.en i (omega arith) (omega arith))
    (pass (bytes_eq n (we_of i)) _ _ _ (m.we i (omega arith) (omega arith))
    (pass (bytes_eq n (addr_of i)) _ _ _ (m.addr i (omega arith) (omega arith))
    (pass (bytes_eq n (wdata_of i)) _ _ _ (m.wdata i (omega arith) (omega arith))
    (skip_ports n (suc i) ds rest tail (misses_more n i (length ds) m))))))

pub skip_wires : (n : List ℕ) (i : ℕ) (ds : List Description) (rest : List ModuleItem) → ((j : ℕ) → i ≤ j → j < i + length ds → bytes_eq n (over_of j) ≡ false) → ((j : ℕ) → i ≤ j → j < i + length ds → bytes_eq n (bad_of j) ≡ false)
    → lookup (item_declarations (unit_wires i ds ++ rest)) n ≡ lookup (item_declarations rest) n
skip_wires n i [] rest a b = refl
skip_wires n i (d ∷ ds) rest a b =
    pass (bytes_eq n (over_of i)) _ _ _ (a i (omega arith) (omega arith))
    (pass (bytes_eq n (bad_of i)) _ _ _ (b i (omega arith) (omega arith))
    (skip_wires n (suc i) ds rest (λ j l m. a j (omega arith) (omega arith)) (λ j l m. b j (omega arith) (omega arith))))

pub skip_holds : (n : List ℕ) (g k : ℕ) → ((j : ℕ) → g < j → j ≤ g + k → bytes_eq n (hold_of j) ≡ false) → lookup (item_declarations (hold_wires g k)) n ≡ None
skip_holds n g zero a = refl
skip_holds n g (suc k) a = pass (bytes_eq n (hold_of (suc g))) _ _ _ (a (suc g) (omega arith) (omega arith)) (skip_holds n (suc g) k (λ j l m. a j (omega arith) (omega arith)))

-- ---- all of them apart

module _ (ds : List Description) (k : ℕ) (few : length ds < 900) (groups : k < 900) where
  abbrev pub ends : List ModulePort
  ends = port Output (codes "done") 1 ∷ port Output (codes "fail") (length ds) ∷ []

  abbrev pub behind : List Declaration
  behind = item_declarations (wires_of ds k)

  -- a name that begins as no wire does
  no_wire : (n : List ℕ) → ((j : ℕ) → bytes_eq n (over_of j) ≡ false) → ((j : ℕ) → bytes_eq n (bad_of j) ≡ false) → ((j : ℕ) → bytes_eq n (hold_of j) ≡ false) → lookup behind n ≡ None
  no_wire n a b c = skip_wires n 0 ds (hold_wires 0 k) (λ j l m. a j) (λ j l m. b j) ∙ skip_holds n 0 k (λ j l m. c j)

  -- nor as a port behind the units
  no_end : (n : List ℕ) → bytes_eq n (codes "done") ≡ false → bytes_eq n (codes "fail") ≡ false → lookup behind n ≡ None → lookup (port_declarations ends ++ behind) n ≡ None
  no_end n a b c = pass (bytes_eq n (codes "done")) _ _ _ a (pass (bytes_eq n (codes "fail")) _ _ _ b c)

  apart_holds : (g n : ℕ) → g + n ≤ k → Apart (item_declarations (hold_wires g n))
  apart_holds g zero l = tt
  apart_holds g (suc n) l = (
    skip_holds (hold_of (suc g)) (suc g) n (λ j a b. numbered (codes "hold_") (suc g) j (omega arith) (omega arith) (λ e. omega arith)),
    apart_holds (suc g) n (omega arith),
  )

  apart_wires : (i : ℕ) (es : List Description) → i + length es ≤ length ds → Apart (item_declarations (unit_wires i es ++ hold_wires 0 k))
  apart_wires i [] l = apart_holds 0 k (omega arith)
  apart_wires i (e ∷ es) l = (
    skip_wires (over_of i) (suc i) es (hold_wires 0 k) (λ j a b. numbered (codes "over_") i j (omega arith) (omega arith) (λ e. omega arith)) (λ j a b. refl) ∙ skip_holds (over_of i) 0 k (λ j a b. refl),
    (
      skip_wires (bad_of i) (suc i) es (hold_wires 0 k) (λ j a b. refl) (λ j a b. numbered (codes "bad_") i j (omega arith) (omega arith) (λ e. omega arith)) ∙ skip_holds (bad_of i) 0 k (λ j a b. refl),
      apart_wires (suc i) es (omega arith),
    ),
  )

  -- the ports of later units have other names
  later_ports : (n : List ℕ) (i : ℕ) (es : List Description) → MissesPorts n (suc i) (length es) → lookup (port_declarations ends ++ behind) n ≡ None → lookup (port_declarations (unit_ports (suc i) es ++ ends) ++ behind) n ≡ None
  later_ports n i es m q = skip_ports n (suc i) es ends behind m ∙ q

  apart_ports : (i : ℕ) (es : List Description) → i + length es ≤ length ds → Apart (port_declarations (unit_ports i es ++ ends) ++ behind)
  apart_ports i [] l = (
    no_wire (codes "done") (λ j. refl) (λ j. refl) (λ j. refl),
    (no_wire (codes "fail") (λ j. refl) (λ j. refl) (λ j. refl), apart_wires 0 ds (omega arith)),
  )
  apart_ports i (e ∷ es) l =
      let clear : (n : List ℕ) → bytes_eq n (codes "done") ≡ false → bytes_eq n (codes "fail") ≡ false → ((j : ℕ) → bytes_eq n (over_of j) ≡ false) → ((j : ℕ) → bytes_eq n (bad_of j) ≡ false) → ((j : ℕ) → bytes_eq n (hold_of j) ≡ false) → lookup (port_declarations ends ++ behind) n ≡ None = λ n a b c f g. no_end n a b (no_wire n c f g) in (
        later_ports (rdata_of i) i es (record { rdata = λ j a b. numbered (codes "rdata_") i j (omega arith) (omega arith) (λ e. omega arith); en = λ j a b. refl; we = λ j a b. refl; addr = λ j a b. refl; wdata = λ j a b. refl }) (clear (rdata_of i) refl refl (λ j. refl) (λ j. refl) (λ j. refl)),
        (
          later_ports (en_of i) i es (record { rdata = λ j a b. refl; en = λ j a b. numbered (codes "en_") i j (omega arith) (omega arith) (λ e. omega arith); we = λ j a b. refl; addr = λ j a b. refl; wdata = λ j a b. refl }) (clear (en_of i) refl refl (λ j. refl) (λ j. refl) (λ j. refl)),
          (
            later_ports (we_of i) i es (record { rdata = λ j a b. refl; en = λ j a b. refl; we = λ j a b. numbered (codes "we_") i j (omega arith) (omega arith) (λ e. omega arith); addr = λ j a b. refl; wdata = λ j a b. refl }) (clear (we_of i) refl refl (λ j. refl) (λ j. refl) (λ j. refl)),
            (
              later_ports (addr_of i) i es (record { rdata = λ j a b. refl; en = λ j a b. refl; we = λ j a b. refl; addr = λ j a b. numbered (codes "addr_") i j (omega arith) (omega arith) (λ e. omega arith); wdata = λ j a b. refl }) (clear (addr_of i) refl refl (λ j. refl) (λ j. refl) (λ j. refl)),
              (
                later_ports (wdata_of i) i es (record { rdata = λ j a b. refl; en = λ j a b. refl; we = λ j a b. refl; addr = λ j a b. refl; wdata = λ j a b. numbered (codes "wdata_") i j (omega arith) (omega arith) (λ e. omega arith) }) (clear (wdata_of i) refl refl (λ j. refl) (λ j. refl) (λ j. refl)),
                apart_ports (suc i) es (omega arith),
              ),
            ),
          ),
        ),
      )

  pub apart : Apart (declared ds k)
  apart = (
    skip_ports (codes "clk") 0 ds ends behind (record { rdata = λ j a b. refl; en = λ j a b. refl; we = λ j a b. refl; addr = λ j a b. refl; wdata = λ j a b. refl }) ∙ no_end (codes "clk") refl refl (no_wire (codes "clk") (λ j. refl) (λ j. refl) (λ j. refl)),
    (
      skip_ports (codes "reset") 0 ds ends behind (record { rdata = λ j a b. refl; en = λ j a b. refl; we = λ j a b. refl; addr = λ j a b. refl; wdata = λ j a b. refl }) ∙ no_end (codes "reset") refl refl (no_wire (codes "reset") (λ j. refl) (λ j. refl) (λ j. refl)),
      apart_ports 0 ds (omega arith),
    ),
  )
