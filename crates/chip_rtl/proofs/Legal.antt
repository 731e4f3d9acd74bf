-- The top of a chip breaks no rule.
use Rattle.std.proofs.Common.{◌≡◌, ℕ, zero, suc, ◌+◌, ◌<◌, ◌≤◌, Bool, true, false, cond, not, ◌||◌, inl, inr, List, [], ◌∷◌, ◌++◌, length, Option, Some, None, is_some, is_none, slice_get, codes, refl, sym, ap, ◌∙◌, subst, arith, append-nil}
use Rattle.std.proofs.lemmas.Option.{slice_get_within}
use Rattle.std.specs.Str.{bytes_eq}
use Rattle.verilog_tree.specs.declared.tree.UnOp.TheVariants.{Not}
use Rattle.verilog_tree.specs.declared.names.Kind.{Kind}
use Rattle.verilog_tree.specs.declared.names.Kind.TheVariants as K
use Rattle.verilog_tree.specs.Plain.{Expression, Net, Concatenation, Prefixed, ModuleItem, ModulePort, ModuleTree}
use Rattle.verilog_tree.specs.Names.{Declaration, port_declarations, item_declarations, declarations, lookup, declared_width, width_of, is_wire, is_clk, is_declared_as}
use Rattle.verilog_tree.specs.Meaning.{Env, width}
use Rattle.verilog_tree.specs.Rules.{Break, Twice, Undriven, first_of, items_break, is_assigned, undriven, port_twice, port_clock, first_break}
use Rattle.verilog_tree.proofs.Clean.{Fresh, declarations_more}
use Rattle.memory_desc.specs.Descriptions.{Description}
use Rattle.chip_plan.specs.Groups.{last_group}
use Rattle.chip_rtl.specs.Together.{top_module}
use Rattle.chip_rtl.specs.Tops.{en_of, we_of, addr_of, wdata_of, over_of, bad_of, hold_of, members, over_from, all_over, bad_parts, hold_assigns, unit_ports, top_ports, unit_wires, hold_wires}
use Rattle.chip_rtl.proofs.Naming.{decl, wires_of, declared, apart, ends}
use Rattle.chip_rtl.proofs.Nets.{found_unit, found_over, found_bad, found_hold, found_done, found_fail}
use Rattle.chip_rtl.proofs.Values.{Among, member_of, parts_wide}
use Rattle.chip_rtl.proofs.Shaped.{unit_assigns, Ported, finals, assigns, whole, whole_module, chip, module_is, declared_are, assigns_declare}
use Rattle.chip_rtl.proofs.Driving.{skip_declared, hold_driven, behind_hold_assigns, Drives, drives_behind, units_driven, targets, EachGood, good_assigns}
use Rattle.verilog_tree.proofs.Sound.{Known, Sound, SoundParts, GoodAssign, Declares, declares_pass, declares_only, assigns_pass, Apart, fresh_of}

-- ---- rules on ports

apart_left : (xs ys : List Declaration) → Apart (xs ++ ys) → Apart xs
apart_left [] ys a = tt
apart_left (x ∷ xs) ys a = (left xs ys x.name a.0, apart_left xs ys a.1)
  where
    not_found : (t : Bool) (d : Declaration) (o p : Option Declaration) → cond t (Some d) o ≡ None → (o ≡ None → p ≡ None) → cond t (Some d) p ≡ None
    not_found true d o p h f = cc
    not_found false d o p h f = f h

    left : (xs ys : List Declaration) (n : List ℕ) → lookup (xs ++ ys) n ≡ None → lookup xs n ≡ None
    left [] ys n h = refl
    left (d ∷ xs) ys n h = not_found _ d (lookup (xs ++ ys) n) (lookup xs n) h (left xs ys n)

never_twice : (b ds : List Declaration) → Fresh b ds → port_twice b ds ≡ None
never_twice b [] f = refl
never_twice b (d ∷ ds) f = ap (λ o. cond (is_some o) (Some (Twice d.name)) (port_twice (b ++ d ∷ []) ds)) f.0 ∙ never_twice (b ++ d ∷ []) ds f.1

units_clock : (i : ℕ) (ds : List Description) (rest : List ModulePort) → port_clock (port_declarations rest) ≡ None → port_clock (port_declarations (unit_ports i ds ++ rest)) ≡ None
units_clock i [] rest h = h
units_clock i (d ∷ ds) rest h = units_clock (suc i) ds rest h

-- ---- wires are declared, and driven

wires_declare : (i : ℕ) (ds : List Description) (g k : ℕ) → Declares (unit_wires i ds ++ hold_wires g k)
wires_declare i (d ∷ ds) g k = (refl, (refl, wires_declare (suc i) ds g k))
wires_declare i [] g zero = tt
wires_declare i [] g (suc k) = (refl, wires_declare i [] (suc g) k)

step : (is : List ModuleItem) (n : List ℕ) (o : Option Break) → is_assigned is n ≡ true → o ≡ None → cond (not (is_assigned is n)) (Some (Undriven n)) o ≡ None
step is n o h q = ap (λ t. cond (not t) (Some (Undriven n)) o) h ∙ q

ports_driven : (is : List ModuleItem) (i : ℕ) (ds : List Description) (rest : List ModulePort) → ((j : ℕ) → i ≤ j → j < i + length ds → Drives is j) → undriven is (port_declarations rest) ≡ None → undriven is (port_declarations (unit_ports i ds ++ rest)) ≡ None
ports_driven is i [] rest h q = q
ports_driven is i (d ∷ ds) rest h q =
    let v = h i (omega arith) (omega arith) in
    step is (en_of i) _ v.en (step is (we_of i) _ v.we (step is (addr_of i) _ v.addr (step is (wdata_of i) _ v.wdata
    (ports_driven is (suc i) ds rest (λ j a b. h j (omega arith) (omega arith)) q))))

wires_driven : (is : List ModuleItem) (i : ℕ) (ds : List Description) (g k : ℕ) → ((j : ℕ) → i ≤ j → j < i + length ds → Drives is j) → ((j : ℕ) → g ≤ j → j < g + k → is_assigned is (hold_of (suc j)) ≡ true)
    → undriven is (item_declarations (unit_wires i ds ++ hold_wires g k)) ≡ None
wires_driven is i (d ∷ ds) g k h f =
    let v = h i (omega arith) (omega arith) in
    step is (over_of i) _ v.over (step is (bad_of i) _ v.bad (wires_driven is (suc i) ds g k (λ j a b. h j (omega arith) (omega arith)) f))
wires_driven is i [] g zero h f = refl
wires_driven is i [] g (suc k) h f = step is (hold_of (suc g)) _ (f g (omega arith) (omega arith)) (wires_driven is i [] (suc g) k (λ j a b. absurd (omega arith)) (λ j a b. f j (omega arith) (omega arith)))

-- ---- the assigns keep the rules

known : {ds : List Declaration} {n : List ℕ} {k : Kind} {v : ℕ} → lookup ds n ≡ Some (decl n k v) → is_clk n ≡ false → Known ds n
known h c = record { declared = ap is_none h; no_clock = c }

good : (ds : List Declaration) (n : List ℕ) (v : ℕ) (x : Expression) → lookup ds n ≡ Some (decl n K.Wire v) → Sound (width_of ds) ds x → width (width_of ds) x ≡ v → GoodAssign (width_of ds) ds n x
good ds n v x h s e = record { sound = s; wide = ap declared_width h ∙ sym e; there = ap is_none h; wire = ap (is_declared_as (λ d. is_wire d.kind)) h }

module _ (ds : List Description) (k : ℕ) (few : length ds < 900) (groups : k < 900) where
  abbrev all : List Declaration
  all = declared ds k

  abbrev w : List ℕ → ℕ
  w n = width_of all n

  abbrev OneBit : Expression → Type 0
  OneBit x = Sound w all x × (width w x ≡ 1)

  over_known : (i : ℕ) → i < length ds → OneBit (Net (over_of i))
  over_known i l = let f = found_over ds k few groups i l in (known f refl, ap declared_width f)

  from_sound : (i : ℕ) (is : List ℕ) → ((j : ℕ) → Among j (i ∷ is) → j < length ds) → OneBit (over_from i is)
  from_sound i [] h = over_known i (h i (inl refl))
  from_sound i (j ∷ js) h =
      let a = over_known i (h i (inl refl)) in
      let b = from_sound j js (λ m n. h m (inr n)) in
      ((a.0, b.0, a.1 ∙ sym b.1), refl)

  all_sound : (is : List ℕ) → ((j : ℕ) → Among j is → j < length ds) → OneBit (all_over is)
  all_sound [] h = (tt, refl)
  all_sound (i ∷ is) h = from_sound i is h

  parts_known : (n : ℕ) → n ≤ length ds → SoundParts w all (bad_parts n)
  parts_known zero l = tt
  parts_known (suc n) l = (known (found_bad ds k few groups n (omega arith)) refl, parts_known n (omega arith))

  bad_wide : (i : ℕ) → i < length ds → w (bad_of i) ≡ 1
  bad_wide i l = ap declared_width (found_bad ds k few groups i l)

  units_good : (inner : ℕ → Env) (i : ℕ) (es : List Description) → i + length es ≤ length ds → ((j : ℕ) (d : Description) → slice_get es j ≡ Some d → slice_get ds (i + j) ≡ Some d) → EachGood w all (unit_assigns inner i es)
  units_good inner i [] l h = tt
  units_good inner i (d ∷ es) l h =
      let here : slice_get ds i ≡ Some d = subst (λ j. slice_get ds j ≡ Some d) (let e : i + 0 ≡ i = omega arith in e) (h 0 d refl) in
      let f = found_unit ds k few groups i d here (omega arith) in (
        good all (en_of i) 1 _ f.en tt refl,
        (
          good all (we_of i) 1 _ f.we tt refl,
          (
            good all (addr_of i) d.scramble.width _ f.addr tt refl,
            (
              good all (wdata_of i) d.bits _ f.wdata tt refl,
              (
                good all (over_of i) 1 _ f.over tt refl,
                (
                  good all (bad_of i) 1 _ f.bad tt refl,
                  units_good inner (suc i) es (omega arith) (λ j e q. subst (λ m. slice_get ds m ≡ Some e) (let e : i + suc j ≡ suc i + j = omega arith in e) (h (suc j) e q)),
                ),
              ),
            ),
          ),
        ),
      )

module _ (name : List ℕ) (gs : List ℕ) (ds : List Description) (ms : List ModuleTree) (ported : Ported ms ds) (many : length gs ≡ length ds) (few : length ds ≤ 64) (groups : last_group gs < 900) where
  abbrev k : ℕ
  k = last_group gs

  abbrev all_declared : List Declaration
  all_declared = declared ds k

  abbrev wd : List ℕ → ℕ
  wd n = width_of all_declared n

  members_within : (g : ℕ) (j : ℕ) → Among j (members g 0 gs) → j < length ds
  members_within g j m =
      let r = member_of g 0 gs j m in
      let e : r.0 ≡ j = (let z = r.1 in omega arith) in
      subst (λ x. x < length ds) e (subst (λ x. r.0 < x) many (slice_get_within gs r.0 g r.2))

  holds_good : (inner : ℕ → Env) (g n : ℕ) (rest : List ModuleItem) → g + n ≤ k → EachGood wd all_declared rest → EachGood wd all_declared (hold_assigns gs g n ++ rest)
  holds_good inner g zero rest l h = h
  holds_good inner g (suc n) rest l h =
      let s = all_sound ds k (omega arith) groups (members g 0 gs) (members_within g) in
      (good all_declared (hold_of (suc g)) 1 (Prefixed Not (all_over (members g 0 gs))) (found_hold ds k (omega arith) groups g (omega arith)) s.0 refl, holds_good inner (suc g) n rest (omega arith) h)

  finals_good : (rest : List ModuleItem) → EachGood wd all_declared rest → EachGood wd all_declared (finals name gs ds ms ported many ++ rest)
  finals_good rest h =
      let s = all_sound ds k (omega arith) groups (members k 0 gs) (members_within k) in
      let wide = parts_wide wd (λ n. 0) (length ds) (bad_wide ds k (omega arith) groups) in (
        good all_declared (codes "done") 1 (all_over (members k 0 gs)) (found_done ds k (omega arith) groups) s.0 s.1,
        (good all_declared (codes "fail") (length ds) (Concatenation (bad_parts (length ds))) (found_fail ds k (omega arith) groups) (parts_known ds k (omega arith) groups (length ds) (omega arith), omega arith) wide, h),
      )

  each_good : (inner : ℕ → Env) → EachGood wd all_declared (assigns name gs ds ms ported many inner)
  each_good inner = holds_good inner 0 k (finals name gs ds ms ported many ++ unit_assigns inner 0 ds) (omega arith) (finals_good (unit_assigns inner 0 ds)
      (units_good ds k (omega arith) groups inner 0 ds (omega arith) (λ j d q. subst (λ m. slice_get ds m ≡ Some d) (let e : j ≡ 0 + j = omega arith in e) q)))

  -- ---- the items

  items_legal : (inner : ℕ → Env) → items_break wd (top_ports ds) [] (whole name gs ds ms ported many inner) ≡ None
  items_legal inner =
      let x = wires_of ds k in
      let a = assigns name gs ds ms ported many inner in
      let only = declares_only x (wires_declare 0 ds 0 k) in
      declares_pass wd (top_ports ds) [] x a (wires_declare 0 ds 0 k) (fresh_of (declarations (top_ports ds) []) (item_declarations x) (subst (λ (l : List Declaration). Apart (l ++ item_declarations x)) (sym (append-nil (port_declarations (top_ports ds)))) (apart ds k (omega arith) groups)))
      (subst (λ (l : List ModuleItem). items_break wd (top_ports ds) x l ≡ None) (append-nil a)
      (assigns_pass wd (top_ports ds) all_declared [] (λ b q s. refl) x a [] refl (λ n. (only n).0) (λ n. (only n).1)
      (good_assigns wd all_declared [] a (each_good inner) (targets name gs ds ms ported many (omega arith) groups inner) (λ n h. refl))))

  -- ---- everything is driven

  driven_here : (inner : ℕ → Env) (n : List ℕ) → is_assigned (assigns name gs ds ms ported many inner) n ≡ true → is_assigned (whole name gs ds ms ported many inner) n ≡ true
  driven_here inner n h = skip_declared n 0 ds 0 k (assigns name gs ds ms ported many inner) ∙ h

  pass_true : (s t : Bool) → t ≡ true → (s || t) ≡ true
  pass_true true t h = refl
  pass_true false t h = h

  drives_all : (inner : ℕ → Env) (i : ℕ) → i < length ds → Drives (whole name gs ds ms ported many inner) i
  drives_all inner i l =
      let n : 0 + i ≡ i = omega arith in
      drives_behind (unit_assigns inner 0 ds) (whole name gs ds ms ported many inner) i
      (λ m h. driven_here inner m (behind_hold_assigns m gs 0 k (finals name gs ds ms ported many ++ unit_assigns inner 0 ds) (pass_true (bytes_eq m (codes "done")) _ (pass_true (bytes_eq m (codes "fail")) _ h))))
      (subst (λ j. Drives (unit_assigns inner 0 ds) j) n (units_driven inner 0 ds i l))

  hold_all : (inner : ℕ → Env) (g : ℕ) → g < k → is_assigned (whole name gs ds ms ported many inner) (hold_of (suc g)) ≡ true
  hold_all inner g l =
      let n : 0 + g ≡ g = omega arith in
      driven_here inner (hold_of (suc g)) (subst (λ m. is_assigned (assigns name gs ds ms ported many inner) (hold_of (suc m)) ≡ true) n (hold_driven gs 0 k g (finals name gs ds ms ported many ++ unit_assigns inner 0 ds) l))

  ends_driven : (inner : ℕ → Env) → undriven (whole name gs ds ms ported many inner) (port_declarations (ends ds k (omega arith) groups)) ≡ None
  ends_driven inner =
      let tail = finals name gs ds ms ported many ++ unit_assigns inner 0 ds in
      step (whole name gs ds ms ported many inner) (codes "done") _ (driven_here inner (codes "done") (behind_hold_assigns (codes "done") gs 0 k tail refl))
      (step (whole name gs ds ms ported many inner) (codes "fail") _ (driven_here inner (codes "fail") (behind_hold_assigns (codes "fail") gs 0 k tail refl)) refl)

  five_none : (a b c d e : Option Break) → a ≡ None → b ≡ None → c ≡ None → d ≡ None → e ≡ None → first_of (a ∷ b ∷ c ∷ d ∷ e ∷ []) ≡ None
  five_none a b c d e p q r s t = rw (p, q, r, s, t) refl

  pub whole_legal : (inner : ℕ → Env) → first_break (whole_module name gs ds ms ported many inner) ≡ None
  whole_legal inner =
      let items = whole name gs ds ms ported many inner in
      let fresh = fresh_of [] (port_declarations (top_ports ds)) (apart_left (port_declarations (top_ports ds)) (item_declarations (wires_of ds k)) (apart ds k (omega arith) groups)) in
      five_none _ _ _ _ _
      (never_twice [] (port_declarations (top_ports ds)) fresh)
      (units_clock 0 ds (ends ds k (omega arith) groups) refl)
      (subst (λ (l : List Declaration). items_break (width_of l) (top_ports ds) [] items ≡ None) (sym (declared_are name gs ds ms ported many inner)) (items_legal inner))
      (ports_driven items 0 ds (ends ds k (omega arith) groups) (λ j a b. drives_all inner j (omega arith)) (ends_driven inner))
      (subst (λ (l : List Declaration). undriven items l ≡ None) (sym (wires_only inner)) (wires_driven items 0 ds 0 k (λ j a b. drives_all inner j (omega arith)) (λ j a b. hold_all inner j (omega arith))))
    where
      wires_only : (inner : ℕ → Env) → item_declarations (whole name gs ds ms ported many inner) ≡ item_declarations (wires_of ds k)
      wires_only inner = declarations_more [] (wires_of ds k) (assigns name gs ds ms ported many inner) ∙ ap (λ l. item_declarations (wires_of ds k) ++ l) (assigns_declare name gs ds ms ported many inner) ∙ append-nil (item_declarations (wires_of ds k))

  pub legal : (inner : ℕ → Env) → first_break (top_module (chip name gs ds ms ported many) inner) ≡ None
  legal inner = subst (λ (m : ModuleTree). first_break m ≡ None) (sym (module_is name gs ds ms ported many inner)) (whole_legal inner)
