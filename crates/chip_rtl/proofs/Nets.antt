-- Each name of a top is found as it is declared.
use Rattle.std.proofs.Common.{◌≡◌, ℕ, zero, suc, ◌+◌, ◌<◌, ◌⊎◌, inl, inr, Bool, true, false, cond, List, [], ◌∷◌, ◌++◌, length, Some, slice_get, codes, refl, sym, ap, ◌∙◌, subst, arith}
use Rattle.std.proofs.lemmas.Slice.Eq.{bytes_eq-Decides}
use Rattle.std.specs.Str.{bytes_eq}
use Rattle.verilog_tree.specs.declared.names.Kind.TheVariants as K
use Rattle.verilog_tree.specs.Plain.{ModuleItem, ModulePort}
use Rattle.verilog_tree.specs.Names.{Declaration, port_declarations, item_declarations, lookup}
use Rattle.verilog_tree.proofs.Clean.{same_bytes}
use Rattle.memory_desc.specs.Descriptions.{Description}
use Rattle.chip_rtl.specs.Tops.{rdata_of, en_of, we_of, addr_of, wdata_of, over_of, bad_of, hold_of, unit_ports, unit_wires, hold_wires}
use Rattle.verilog_tree.proofs.Sound.{Apart}
use Rattle.chip_rtl.proofs.Naming.{decl, declared, ends, behind, apart}

abbrev pub In : Declaration → List Declaration → Type 0
In d [] = ⊥
In d (e ∷ es) = (e ≡ d) ⊎ In d es

by_true : (t : Bool) → (t ≡ true → ⊥) → t ≡ false
by_true true h = absurd (h refl)
by_true false h = refl

-- where names are apart, each declaration is found
pub found_in : (d : Declaration) (ds : List Declaration) → Apart ds → In d ds → lookup ds d.name ≡ Some d
found_in d [] a m = absurd m
found_in d (e ∷ es) a (inl q) = subst (λ (x : Declaration). lookup (e ∷ es) x.name ≡ Some x) q (ap (λ t. cond t (Some e) (lookup es e.name)) (same_bytes e.name))
found_in d (e ∷ es) a (inr m) =
    let later = found_in d es a.1 m in
    let other : bytes_eq d.name e.name ≡ false = by_true (bytes_eq d.name e.name) (λ h. let q = (bytes_eq-Decides d.name e.name).0 h in let z = sym a.0 ∙ (ap (lookup es) (sym q) ∙ later) in let y : ⊥ = cc in y) in
    ap (λ t. cond t (Some e) (lookup es d.name)) other ∙ later

in_right : (d : Declaration) (xs ys : List Declaration) → In d ys → In d (xs ++ ys)
in_right d [] ys m = m
in_right d (x ∷ xs) ys m = inr (in_right d xs ys m)

-- the ports of unit i
pub record PortsIn (i : ℕ) (d : Description) (ds : List Declaration) : Type 0 where
  pub rdata : In (decl (rdata_of i) K.Input d.bits) ds
  pub en : In (decl (en_of i) K.Wire 1) ds
  pub we : In (decl (we_of i) K.Wire 1) ds
  pub addr : In (decl (addr_of i) K.Wire d.scramble.width) ds
  pub wdata : In (decl (wdata_of i) K.Wire d.bits) ds

ports_in : (i j : ℕ) (ds : List Description) (d : Description) (rest : List ModulePort) (tail : List Declaration) → slice_get ds j ≡ Some d → PortsIn (i + j) d (port_declarations (unit_ports i ds ++ rest) ++ tail)
ports_in i j [] d rest tail q = cc
ports_in i zero (e ∷ ds) d rest tail q =
    let s : e ≡ d = cc in
    let n : i ≡ i + 0 = omega arith in
    subst (λ m. PortsIn m d (port_declarations (unit_ports i (e ∷ ds) ++ rest) ++ tail)) n
    (subst (λ (x : Description). PortsIn i x (port_declarations (unit_ports i (e ∷ ds) ++ rest) ++ tail)) s
    (record { rdata = inl refl; en = inr (inl refl); we = inr (inr (inl refl)); addr = inr (inr (inr (inl refl))); wdata = inr (inr (inr (inr (inl refl)))) }))
ports_in i (suc j) (e ∷ ds) d rest tail q =
    let r = ports_in (suc i) j ds d rest tail q in
    let n : suc i + j ≡ i + suc j = omega arith in
    subst (λ m. PortsIn m d (port_declarations (unit_ports i (e ∷ ds) ++ rest) ++ tail)) n
    (record { rdata = inr (inr (inr (inr (inr r.rdata)))); en = inr (inr (inr (inr (inr r.en)))); we = inr (inr (inr (inr (inr r.we)))); addr = inr (inr (inr (inr (inr r.addr)))); wdata = inr (inr (inr (inr (inr r.wdata)))) })

wires_in : (i j : ℕ) (ds : List Description) (rest : List ModuleItem) → j < length ds → In (decl (over_of (i + j)) K.Wire 1) (item_declarations (unit_wires i ds ++ rest)) × In (decl (bad_of (i + j)) K.Wire 1) (item_declarations (unit_wires i ds ++ rest))
wires_in i j [] rest l = absurd (omega arith)
wires_in i zero (d ∷ ds) rest l =
    let n : i ≡ i + 0 = omega arith in
    subst (λ m. In (decl (over_of m) K.Wire 1) (item_declarations (unit_wires i (d ∷ ds) ++ rest)) × In (decl (bad_of m) K.Wire 1) (item_declarations (unit_wires i (d ∷ ds) ++ rest))) n
    (inl refl, inr (inl refl))
wires_in i (suc j) (d ∷ ds) rest l =
    let r = wires_in (suc i) j ds rest (omega arith) in
    let n : suc i + j ≡ i + suc j = omega arith in
    subst (λ m. In (decl (over_of m) K.Wire 1) (item_declarations (unit_wires i (d ∷ ds) ++ rest)) × In (decl (bad_of m) K.Wire 1) (item_declarations (unit_wires i (d ∷ ds) ++ rest))) n
    (inr (inr r.0), inr (inr r.1))

holds_in : (g k j : ℕ) → j < k → In (decl (hold_of (suc (g + j))) K.Wire 1) (item_declarations (hold_wires g k))
holds_in g zero j l = absurd (omega arith)
holds_in g (suc k) zero l = let n : g ≡ g + 0 = omega arith in inl (ap (λ m. decl (hold_of (suc m)) K.Wire 1) n)
holds_in g (suc k) (suc j) l =
    let n : suc g + j ≡ g + suc j = omega arith in
    inr (subst (λ m. In (decl (hold_of (suc m)) K.Wire 1) (item_declarations (hold_wires (suc g) k))) n (holds_in (suc g) k j (omega arith)))

wires_right : (i : ℕ) (ds : List Description) (k : ℕ) (d : Declaration) → In d (item_declarations (hold_wires 0 k)) → In d (item_declarations (unit_wires i ds ++ hold_wires 0 k))
wires_right i [] k d m = m
wires_right i (x ∷ ds) k d m = inr (inr (wires_right (suc i) ds k d m))

port_end : (i : ℕ) (ds : List Description) (rest : List ModulePort) (tail : List Declaration) (d : Declaration) → In d (port_declarations rest ++ tail) → In d (port_declarations (unit_ports i ds ++ rest) ++ tail)
port_end i [] rest tail d m = m
port_end i (x ∷ ds) rest tail d m = inr (inr (inr (inr (inr (port_end (suc i) ds rest tail d m)))))

-- ---- what the names are found as

-- unit i's names
pub record Found (i : ℕ) (d : Description) (ds : List Declaration) : Type 0 where
  pub rdata : lookup ds (rdata_of i) ≡ Some (decl (rdata_of i) K.Input d.bits)
  pub en : lookup ds (en_of i) ≡ Some (decl (en_of i) K.Wire 1)
  pub we : lookup ds (we_of i) ≡ Some (decl (we_of i) K.Wire 1)
  pub addr : lookup ds (addr_of i) ≡ Some (decl (addr_of i) K.Wire d.scramble.width)
  pub wdata : lookup ds (wdata_of i) ≡ Some (decl (wdata_of i) K.Wire d.bits)
  pub over : lookup ds (over_of i) ≡ Some (decl (over_of i) K.Wire 1)
  pub bad : lookup ds (bad_of i) ≡ Some (decl (bad_of i) K.Wire 1)

module _ (ds : List Description) (k : ℕ) (few : length ds < 900) (groups : k < 900) where
  find : (d : Declaration) → In d (declared ds k) → lookup (declared ds k) d.name ≡ Some d
  find d m = found_in d (declared ds k) (apart ds k few groups) m

  abbrev last : List ModulePort
  last = ends ds k few groups

  abbrev wires : List Declaration
  wires = behind ds k few groups

  pub ports_at : (i : ℕ) (d : Description) → slice_get ds i ≡ Some d → PortsIn i d (declared ds k)
  ports_at i d q =
      let r = ports_in 0 i ds d last wires q in
      let n : 0 + i ≡ i = omega arith in
      let s = subst (λ m. PortsIn m d (port_declarations (unit_ports 0 ds ++ last) ++ wires)) n r in
      record { rdata = inr (inr s.rdata); en = inr (inr s.en); we = inr (inr s.we); addr = inr (inr s.addr); wdata = inr (inr s.wdata) }

  over_in : (i : ℕ) → i < length ds → In (decl (over_of i) K.Wire 1) (declared ds k)
  over_in i l =
      let n : 0 + i ≡ i = omega arith in
      subst (λ m. In (decl (over_of m) K.Wire 1) (declared ds k)) n (inr (inr (in_right _ (port_declarations (unit_ports 0 ds ++ last)) wires (wires_in 0 i ds (hold_wires 0 k) l).0)))

  bad_in : (i : ℕ) → i < length ds → In (decl (bad_of i) K.Wire 1) (declared ds k)
  bad_in i l =
      let n : 0 + i ≡ i = omega arith in
      subst (λ m. In (decl (bad_of m) K.Wire 1) (declared ds k)) n (inr (inr (in_right _ (port_declarations (unit_ports 0 ds ++ last)) wires (wires_in 0 i ds (hold_wires 0 k) l).1)))

  pub found_unit : (i : ℕ) (d : Description) → slice_get ds i ≡ Some d → i < length ds → Found i d (declared ds k)
  found_unit i d q l =
      let p = ports_at i d q in
      record {
        rdata = find _ p.rdata;
        en = find _ p.en;
        we = find _ p.we;
        addr = find _ p.addr;
        wdata = find _ p.wdata;
        over = find _ (over_in i l);
        bad = find _ (bad_in i l);
      }

  pub found_over : (i : ℕ) → i < length ds → lookup (declared ds k) (over_of i) ≡ Some (decl (over_of i) K.Wire 1)
  found_over i l = find _ (over_in i l)

  pub found_bad : (i : ℕ) → i < length ds → lookup (declared ds k) (bad_of i) ≡ Some (decl (bad_of i) K.Wire 1)
  found_bad i l = find _ (bad_in i l)

  pub found_hold : (g : ℕ) → g < k → lookup (declared ds k) (hold_of (suc g)) ≡ Some (decl (hold_of (suc g)) K.Wire 1)
  found_hold g l =
      let n : 0 + g ≡ g = omega arith in
      find (decl (hold_of (suc g)) K.Wire 1)
      (subst (λ m. In (decl (hold_of (suc m)) K.Wire 1) (declared ds k)) n (inr (inr (in_right _ (port_declarations (unit_ports 0 ds ++ last)) wires (wires_right 0 ds k _ (holds_in 0 k g l))))))

  pub reset_in : In (decl (codes "reset") K.Input 1) (declared ds k)
  reset_in = inr (inl refl)

  pub found_done : lookup (declared ds k) (codes "done") ≡ Some (decl (codes "done") K.Wire 1)
  found_done = find (decl (codes "done") K.Wire 1) (inr (inr (port_end 0 ds last wires _ (inl refl))))

  pub found_fail : lookup (declared ds k) (codes "fail") ≡ Some (decl (codes "fail") K.Wire (length ds))
  found_fail = find (decl (codes "fail") K.Wire (length ds)) (inr (inr (port_end 0 ds last wires _ (inr (inl refl)))))
