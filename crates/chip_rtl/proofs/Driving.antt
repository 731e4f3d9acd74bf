-- Which names the assigns of a chip's top drive, each once.
use Rattle.std.proofs.Common.{◌≡◌, ℕ, zero, suc, ◌+◌, ◌<◌, ◌≤◌, Bool, true, false, ◌||◌, List, [], ◌∷◌, ◌++◌, length, codes, refl, sym, ap, ◌∙◌, subst, arith}
use Rattle.std.proofs.lemmas.Slice.Eq.{bytes_eq-Decides}
use Rattle.std.specs.Str.{bytes_eq}
use Rattle.verilog_tree.specs.Plain.{ModuleItem, WireItem, RegItem, AssignItem, AlwaysItem, ModuleTree}
use Rattle.verilog_tree.specs.Meaning.{Env}
use Rattle.verilog_tree.specs.Names.{Declaration}
use Rattle.verilog_tree.specs.Rules.{is_assigned}
use Rattle.verilog_tree.proofs.Clean.{same_bytes}
use Rattle.memory_desc.specs.Descriptions.{Description}
use Rattle.chip_plan.specs.Groups.{last_group}
use Rattle.chip_rtl.specs.Tops.{en_of, we_of, addr_of, wdata_of, over_of, bad_of, hold_of, hold_assigns, unit_wires, hold_wires}
use Rattle.chip_rtl.proofs.Naming.{numbered}
use Rattle.chip_rtl.proofs.Shaped.{unit_assigns, Ported, finals, assigns}
use Rattle.verilog_tree.proofs.Sound.{GoodAssign, GoodAssigns, among}

skip : (s t u : Bool) → s ≡ false → t ≡ u → (s || t) ≡ u
skip s t u h q = ap (λ x. x || t) h ∙ q

hit : (s t : Bool) → s ≡ true → (s || t) ≡ true
hit s t h = ap (λ x. x || t) h

hit_self : (n : List ℕ) (t : Bool) → (bytes_eq n n || t) ≡ true
hit_self n t = hit (bytes_eq n n) t (same_bytes n)

pass_on : (s t : Bool) → t ≡ true → (s || t) ≡ true
pass_on true t h = refl
pass_on false t h = h

six : (a b c d e f t : Bool) → t ≡ true → (a || (b || (c || (d || (e || (f || t)))))) ≡ true
six a b c d e f t h = pass_on a _ (pass_on b _ (pass_on c _ (pass_on d _ (pass_on e _ (pass_on f t h)))))

-- ---- names that nothing drives here

pub skip_hold_assigns : (n : List ℕ) (gs : List ℕ) (g k : ℕ) (rest : List ModuleItem) → ((j : ℕ) → g < j → j ≤ g + k → bytes_eq n (hold_of j) ≡ false) → is_assigned (hold_assigns gs g k ++ rest) n ≡ is_assigned rest n
skip_hold_assigns n gs g zero rest h = refl
skip_hold_assigns n gs g (suc k) rest h = skip (bytes_eq n (hold_of (suc g))) _ _ (h (suc g) (omega arith) (omega arith)) (skip_hold_assigns n gs (suc g) k rest (λ j a b. h j (omega arith) (omega arith)))

-- from unit i on, k units drive no net of this name
pub record MissesOutputs (n : List ℕ) (i k : ℕ) : Type 0 where
  pub en : (j : ℕ) → i ≤ j → j < i + k → bytes_eq n (en_of j) ≡ false
  pub we : (j : ℕ) → i ≤ j → j < i + k → bytes_eq n (we_of j) ≡ false
  pub addr : (j : ℕ) → i ≤ j → j < i + k → bytes_eq n (addr_of j) ≡ false
  pub wdata : (j : ℕ) → i ≤ j → j < i + k → bytes_eq n (wdata_of j) ≡ false
  pub over : (j : ℕ) → i ≤ j → j < i + k → bytes_eq n (over_of j) ≡ false
  pub bad : (j : ℕ) → i ≤ j → j < i + k → bytes_eq n (bad_of j) ≡ false

outputs_more : (n : List ℕ) (i k : ℕ) → MissesOutputs n i (suc k) → MissesOutputs n (suc i) k
outputs_more n i k m = record {
  en = λ j a b. m.en j (omega arith) (omega arith);
  we = λ j a b. m.we j (omega arith) (omega arith);
  addr = λ j a b. m.addr j (omega arith) (omega arith);
  wdata = λ j a b. m.wdata j (omega arith) (omega arith);
  over = λ j a b. m.over j (omega arith) (omega arith);
  bad = λ j a b. m.bad j (omega arith) (omega arith);
}

pub skip_units : (n : List ℕ) (inner : ℕ → Env) (i : ℕ) (ds : List Description) → MissesOutputs n i (length ds) → is_assigned (unit_assigns inner i ds) n ≡ false
skip_units n inner i [] m = refl
skip_units n inner i (d ∷ ds) m =
    skip (bytes_eq n (en_of i)) _ _ (m.en i (omega arith) (omega arith))
    (skip (bytes_eq n (we_of i)) _ _ (m.we i (omega arith) (omega arith))
    (skip (bytes_eq n (addr_of i)) _ _ (m.addr i (omega arith) (omega arith))
    (skip (bytes_eq n (wdata_of i)) _ _ (m.wdata i (omega arith) (omega arith))
    (skip (bytes_eq n (over_of i)) _ _ (m.over i (omega arith) (omega arith))
    (skip (bytes_eq n (bad_of i)) _ _ (m.bad i (omega arith) (omega arith))
    (skip_units n inner (suc i) ds (outputs_more n i (length ds) m)))))))

-- declarations drive nothing
pub skip_declared : (n : List ℕ) (i : ℕ) (ds : List Description) (g k : ℕ) (rest : List ModuleItem) → is_assigned ((unit_wires i ds ++ hold_wires g k) ++ rest) n ≡ is_assigned rest n
skip_declared n i (d ∷ ds) g k rest = skip_declared n (suc i) ds g k rest
skip_declared n i [] g zero rest = refl
skip_declared n i [] g (suc k) rest = skip_declared n i [] (suc g) k rest

-- ---- names that are driven

pub hold_driven : (gs : List ℕ) (g k j : ℕ) (rest : List ModuleItem) → j < k → is_assigned (hold_assigns gs g k ++ rest) (hold_of (suc (g + j))) ≡ true
hold_driven gs g zero j rest l = absurd (omega arith)
hold_driven gs g (suc k) zero rest l = hit (bytes_eq (hold_of (suc (g + 0))) (hold_of (suc g))) _ (let s : g + 0 ≡ g = omega arith in ap (λ m. bytes_eq (hold_of (suc m)) (hold_of (suc g))) s ∙ same_bytes (hold_of (suc g)))
hold_driven gs g (suc k) (suc j) rest l =
    let s : suc g + j ≡ g + suc j = omega arith in
    pass_on (bytes_eq (hold_of (suc (g + suc j))) (hold_of (suc g))) _ (subst (λ m. is_assigned (hold_assigns gs (suc g) k ++ rest) (hold_of (suc m)) ≡ true) s (hold_driven gs (suc g) k j rest (omega arith)))

pub behind_hold_assigns : (n : List ℕ) (gs : List ℕ) (g k : ℕ) (rest : List ModuleItem) → is_assigned rest n ≡ true → is_assigned (hold_assigns gs g k ++ rest) n ≡ true
behind_hold_assigns n gs g zero rest h = h
behind_hold_assigns n gs g (suc k) rest h = pass_on (bytes_eq n (hold_of (suc g))) _ (behind_hold_assigns n gs (suc g) k rest h)

-- all six nets of unit i
pub record Drives (is : List ModuleItem) (i : ℕ) : Type 0 where
  pub en : is_assigned is (en_of i) ≡ true
  pub we : is_assigned is (we_of i) ≡ true
  pub addr : is_assigned is (addr_of i) ≡ true
  pub wdata : is_assigned is (wdata_of i) ≡ true
  pub over : is_assigned is (over_of i) ≡ true
  pub bad : is_assigned is (bad_of i) ≡ true

pub drives_behind : (xs ys : List ModuleItem) (i : ℕ) → ((n : List ℕ) → is_assigned xs n ≡ true → is_assigned ys n ≡ true) → Drives xs i → Drives ys i
drives_behind xs ys i f d = record { en = f (en_of i) d.en; we = f (we_of i) d.we; addr = f (addr_of i) d.addr; wdata = f (wdata_of i) d.wdata; over = f (over_of i) d.over; bad = f (bad_of i) d.bad }

pub units_driven : (inner : ℕ → Env) (i : ℕ) (ds : List Description) (j : ℕ) → j < length ds → Drives (unit_assigns inner i ds) (i + j)
units_driven inner i [] j l = absurd (omega arith)
units_driven inner i (d ∷ ds) zero l =
    let s : i ≡ i + 0 = omega arith in
    let is = unit_assigns inner i (d ∷ ds) in
    let rest = unit_assigns inner (suc i) ds in
    subst (λ m. Drives is m) s (record {
      en = hit_self (en_of i) _;
      we = hit_self (we_of i) _;
      addr = hit_self (addr_of i) _;
      wdata = hit_self (wdata_of i) _;
      over = hit_self (over_of i) _;
      bad = hit_self (bad_of i) _;
    })
units_driven inner i (d ∷ ds) (suc j) l =
    let s : suc i + j ≡ i + suc j = omega arith in
    subst (λ m. Drives (unit_assigns inner i (d ∷ ds)) m) s
    (drives_behind (unit_assigns inner (suc i) ds) (unit_assigns inner i (d ∷ ds)) (suc i + j)
    (λ n h. six (bytes_eq n (en_of i)) (bytes_eq n (we_of i)) (bytes_eq n (addr_of i)) (bytes_eq n (wdata_of i)) (bytes_eq n (over_of i)) (bytes_eq n (bad_of i)) (is_assigned (unit_assigns inner (suc i) ds) n) h)
    (units_driven inner (suc i) ds j (omega arith)))

-- ---- no name is driven twice

-- assigns alone, none of which names what a later one names
abbrev pub Targets : List ModuleItem → Type 0
Targets [] = Unit {0}
Targets (AssignItem n x ∷ is) = (is_assigned is n ≡ false) × Targets is
Targets (WireItem n k ∷ is) = ⊥
Targets (RegItem n k ∷ is) = ⊥
Targets (AlwaysItem c ss ∷ is) = ⊥

unit_targets : (inner : ℕ → Env) (i : ℕ) (ds : List Description) → i + length ds < 1000 → Targets (unit_assigns inner i ds)
unit_targets inner i [] l = tt
unit_targets inner i (d ∷ ds) l =
    let rest = unit_assigns inner (suc i) ds in (
      skip_units (en_of i) inner (suc i) ds (record { en = λ j a b. numbered (codes "en_") i j (omega arith) (omega arith) (λ e. omega arith); we = λ j a b. refl; addr = λ j a b. refl; wdata = λ j a b. refl; over = λ j a b. refl; bad = λ j a b. refl }),
      (
        skip_units (we_of i) inner (suc i) ds (record { en = λ j a b. refl; we = λ j a b. numbered (codes "we_") i j (omega arith) (omega arith) (λ e. omega arith); addr = λ j a b. refl; wdata = λ j a b. refl; over = λ j a b. refl; bad = λ j a b. refl }),
        (
          skip_units (addr_of i) inner (suc i) ds (record { en = λ j a b. refl; we = λ j a b. refl; addr = λ j a b. numbered (codes "addr_") i j (omega arith) (omega arith) (λ e. omega arith); wdata = λ j a b. refl; over = λ j a b. refl; bad = λ j a b. refl }),
          (
            skip_units (wdata_of i) inner (suc i) ds (record { en = λ j a b. refl; we = λ j a b. refl; addr = λ j a b. refl; wdata = λ j a b. numbered (codes "wdata_") i j (omega arith) (omega arith) (λ e. omega arith); over = λ j a b. refl; bad = λ j a b. refl }),
            (
              skip_units (over_of i) inner (suc i) ds (record { en = λ j a b. refl; we = λ j a b. refl; addr = λ j a b. refl; wdata = λ j a b. refl; over = λ j a b. numbered (codes "over_") i j (omega arith) (omega arith) (λ e. omega arith); bad = λ j a b. refl }),
              (
                skip_units (bad_of i) inner (suc i) ds (record { en = λ j a b. refl; we = λ j a b. refl; addr = λ j a b. refl; wdata = λ j a b. refl; over = λ j a b. refl; bad = λ j a b. numbered (codes "bad_") i j (omega arith) (omega arith) (λ e. omega arith) }),
                unit_targets inner (suc i) ds (omega arith),
              ),
            ),
          ),
        ),
      ),
    )

none_of_units : (n : List ℕ) (inner : ℕ → Env) (ds : List Description) → ((j : ℕ) → bytes_eq n (en_of j) ≡ false) → ((j : ℕ) → bytes_eq n (we_of j) ≡ false) → ((j : ℕ) → bytes_eq n (addr_of j) ≡ false) → ((j : ℕ) → bytes_eq n (wdata_of j) ≡ false)
    → ((j : ℕ) → bytes_eq n (over_of j) ≡ false) → ((j : ℕ) → bytes_eq n (bad_of j) ≡ false) → is_assigned (unit_assigns inner 0 ds) n ≡ false
none_of_units n inner ds a b c d e f = skip_units n inner 0 ds (record { en = λ j l m. a j; we = λ j l m. b j; addr = λ j l m. c j; wdata = λ j l m. d j; over = λ j l m. e j; bad = λ j l m. f j })

module _ (name : List ℕ) (gs : List ℕ) (ds : List Description) (ms : List ModuleTree) (ported : Ported ms ds) (many : length gs ≡ length ds) (few : length ds < 900) (groups : last_group gs < 900) (inner : ℕ → Env) where
  abbrev tail : List ModuleItem
  tail = finals name gs ds ms ported many ++ unit_assigns inner 0 ds

  hold_targets : (g k : ℕ) → g + k < 1000 → Targets (hold_assigns gs g k ++ tail)
  hold_targets g zero l = (
    none_of_units (codes "done") inner ds (λ j. refl) (λ j. refl) (λ j. refl) (λ j. refl) (λ j. refl) (λ j. refl),
    (none_of_units (codes "fail") inner ds (λ j. refl) (λ j. refl) (λ j. refl) (λ j. refl) (λ j. refl) (λ j. refl), unit_targets inner 0 ds (omega arith)),
  )
  hold_targets g (suc k) l = (
    skip_hold_assigns (hold_of (suc g)) gs (suc g) k tail (λ j a b. numbered (codes "hold_") (suc g) j (omega arith) (omega arith) (λ e. omega arith))
        ∙ none_of_units (hold_of (suc g)) inner ds (λ j. refl) (λ j. refl) (λ j. refl) (λ j. refl) (λ j. refl) (λ j. refl),
    hold_targets (suc g) k (omega arith),
  )

  pub targets : Targets (assigns name gs ds ms ported many inner)
  targets = hold_targets 0 (last_group gs) (omega arith)

-- ---- good assigns, each with another target

abbrev pub EachGood : (List ℕ → ℕ) → List Declaration → List ModuleItem → Type 0
EachGood w ds [] = Unit {0}
EachGood w ds (AssignItem n x ∷ is) = GoodAssign w ds n x × EachGood w ds is
EachGood w ds (WireItem n k ∷ is) = ⊥
EachGood w ds (RegItem n k ∷ is) = ⊥
EachGood w ds (AlwaysItem c ss ∷ is) = ⊥

by_true : (t : Bool) → (t ≡ true → ⊥) → t ≡ false
by_true true h = absurd (h refl)
by_true false h = refl

pub good_assigns : (w : List ℕ → ℕ) (ds : List Declaration) (seen : List (List ℕ)) (is : List ModuleItem) → EachGood w ds is → Targets is → ((n : List ℕ) → is_assigned is n ≡ true → among n seen ≡ false) → GoodAssigns w ds seen is
good_assigns w ds seen [] g t h = tt
good_assigns w ds seen (WireItem n k ∷ is) g t h = absurd g
good_assigns w ds seen (RegItem n k ∷ is) g t h = absurd g
good_assigns w ds seen (AlwaysItem c ss ∷ is) g t h = absurd g
good_assigns w ds seen (AssignItem n x ∷ is) g t h = (
  g.0,
  h n (hit (bytes_eq n n) (is_assigned is n) (same_bytes n)),
  good_assigns w ds (n ∷ seen) is g.1 t.1 (λ m a. ap (λ s. s || among m seen) (other m a) ∙ h m (pass_on (bytes_eq m n) (is_assigned is m) a)),
)
  where
    other : (m : List ℕ) → is_assigned is m ≡ true → bytes_eq m n ≡ false
    other m a = by_true (bytes_eq m n) (λ q. let e = (bytes_eq-Decides m n).0 q in let z = sym (ap (is_assigned is) (sym e) ∙ a) ∙ t.0 in let y : ⊥ = cc in y)
