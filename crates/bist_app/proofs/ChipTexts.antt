-- The text of a chip's self-tests, and its file.
use Rattle.bist_app.proofs.Common.{◌≡◌, ◌∙◌, ◌≤◌, ◌<◌, ◌+◌, ◌++◌, ◌&&◌, ◌∷◌, [], ℕ, zero, suc, ◌⊎◌, inl, inr, true, false, not, All, List, length, map, take, get_or, Some, slice_get, Contains, refl, sym, ap, subst, arith, append-nil, append_assoc, add-one, MarchElement, Description, ModuleTree, SelfTest, ChipDescription, Seat, IsFirstRoom, FirstFit, last_group, end_of, TestUnit, lengths, ShowsAll, AllTested, AllShow, IsPlan, weights, Written, length-map, take_all, option_map}
use Rattle.std.specs.List.{AllByRecursion}
use Rattle.std.proofs.Math.Path.{ap₂}
use Rattle.std.proofs.Math.Seq.{take-suc}
use Rattle.std.proofs.lemmas.Bool.{le-leb}
use Rattle.std.proofs.lemmas.List.Elements.{All-map}
use Rattle.std.proofs.lemmas.Option.{slice_get-get_or, slice_get-map, slice_get_within, get_or_from_slice_get}
use Rattle.memory_desc.specs.Names.{IsName}
use Rattle.verilog_tree.specs.Words.{is_name}
use Rattle.verilog_tree.specs.Fits.{fits}
use Rattle.verilog_emit.specs.Printed.{printed}
use Rattle.chip_plan.proofs.Filling.{few_groups as numbered, none_left_out}
use Rattle.chip_rtl.specs.PrintedTop.{printed_units}
use Rattle.chip_rtl.specs.TopFits.{AllFit}
use Rattle.chip_rtl.specs.ChipFile.{IsPlanOf, EndsFile}
use Rattle.chip_rtl.proofs.Whole.{counted}
use Rattle.bist_app.specs.declared.units.UnitTable.{UnitTable}
use Rattle.bist_app.specs.Chip.{IsChipTested, ReadsFreely, chip_line}
use Rattle.bist_app.specs.inner.UnitTables.{IsTableOf}
use Rattle.bist_app.specs.inner.ChipParts.{IsRead, PutsSelfTest, AreSelfTests, PutSelfTests, CanStart, IsReady, MakesFile}
use Rattle.bist_app.proofs.TakenNames.{all_differ}

-- ---- texts, one behind another

printed_more : (ms : List ModuleTree) (m : ModuleTree) → printed_units (ms ++ m ∷ []) ≡ printed_units ms ++ printed m
printed_more [] m = append-nil (printed m)
printed_more (n ∷ ms) m = ap (λ t. printed n ++ t) (printed_more ms m) ∙ sym (append_assoc (printed n) (printed_units ms) (printed m))

fit_more : (ms : List ModuleTree) (m : ModuleTree) → AllFit ms → fits m ≡ true → AllFit (ms ++ m ∷ [])
fit_more [] m all fit = (fit, tt)
fit_more (n ∷ ms) m all fit = (all.0, fit_more ms m all.1 fit)

tested_more : (ms : List ModuleTree) (us : List TestUnit) (m : ModuleTree) (u : TestUnit) → AllTested ms us → SelfTest m u.march u.memory → AllTested (ms ++ m ∷ []) (us ++ u ∷ [])
tested_more [] [] m u all test = (test, tt)
tested_more [] (v ∷ us) m u all test = absurd all
tested_more (n ∷ ms) [] m u all test = absurd all
tested_more (n ∷ ms) (v ∷ us) m u all test = (all.0, tested_more ms us m u all.1 test)

shown_more : (ms : List ModuleTree) (us : List TestUnit) (m : ModuleTree) (u : TestUnit) → AllShow ms us → ShowsAll m u.march u.memory → AllShow (ms ++ m ∷ []) (us ++ u ∷ [])
shown_more [] [] m u all shows = (shows, tt)
shown_more [] (v ∷ us) m u all shows = absurd all
shown_more (n ∷ ms) [] m u all shows = absurd all
shown_more (n ∷ ms) (v ∷ us) m u all shows = (all.0, shown_more ms us m u all.1 shows)

freely_more : (ms : List ModuleTree) (m : ModuleTree) → AllByRecursion ReadsFreely ms → ReadsFreely m → AllByRecursion ReadsFreely (ms ++ m ∷ [])
freely_more [] m all reads = (reads, tt)
freely_more (n ∷ ms) m all reads = (all.0, freely_more ms m all.1 reads)

-- the element at a place, among what a function gives of a list
at_place : {X Y : Type 0} (f : X → Y) (xs : List X) (ys : List Y) (i : ℕ) (x : X) (y : Y) → ys ≡ map f xs → i < length xs → y ≡ get_or ys i y → f (get_or xs i x) ≡ y
at_place f xs ys i x y are within is =
    sym (get_or_from_slice_get ys i (f (get_or xs i x)) y
    (ap (λ (zs : List _). slice_get zs i) are ∙ slice_get-map f xs i ∙ ap (option_map f) (slice_get-get_or xs i x within)))
    ∙ sym is

test_more : (us : List TestUnit) (i : ℕ) (u : TestUnit) (march : List MarchElement) (memory : Description) (old new : List ℕ) → take (suc i) us ≡ take i us ++ u ∷ []
    → u.march ≡ march → u.memory ≡ memory → AreSelfTests (take i us) old → PutsSelfTest march memory old new → AreSelfTests (take (suc i) us) new
test_more us i u march memory old new split m d h p =
    let test : SelfTest p.tree u.march u.memory = subst (SelfTest p.tree u.march) (sym d) (subst (λ x. SelfTest p.tree x memory) (sym m) p.tests) in
    let shows : ShowsAll p.tree u.march u.memory = subst (ShowsAll p.tree u.march) (sym d) (subst (λ x. ShowsAll p.tree x memory) (sym m) p.shows) in
    record {
      trees = h.trees ++ p.tree ∷ [];
      fit = fit_more h.trees p.tree h.fit p.fit;
      tested = subst (AllTested (h.trees ++ p.tree ∷ [])) (sym split) (tested_more h.trees (take i us) p.tree u h.tested test);
      shown = subst (AllShow (h.trees ++ p.tree ∷ [])) (sym split) (shown_more h.trees (take i us) p.tree u h.shown shows);
      freely = freely_more h.trees p.tree h.freely p.freely;
      are = p.text ∙ ap (λ t. t ++ printed p.tree) h.are ∙ sym (printed_more h.trees p.tree);
    }

pub tests_more : (t : UnitTable) (marches : List (List MarchElement)) (ds : List Description) (i : ℕ) (march : List MarchElement) (memory : Description) (old new : List ℕ) → marches ≡ t.marches.items → ds ≡ t.memories.items
    → i < length ds → march ≡ get_or marches i march → memory ≡ get_or ds i memory → PutsSelfTest march memory old new → PutSelfTests t i old → PutSelfTests t (i + 1) new
tests_more t marches ds i march memory old new m d within at stands p inv us h =
    let many : length ds ≡ length us = ap length (d ∙ h.memories) ∙ length-map us (λ (u : TestUnit). u.memory) in
    let below : i < length us = omega (arith, within, many) in
    let none : TestUnit = record { march = march; memory = memory; weight = 0 } in
    let u : TestUnit = get_or us i none in
    subst (λ n. AreSelfTests (take n us) new) (sym (add-one i))
    (test_more us i u march memory old new (take-suc us i none below)
    (at_place (λ (v : TestUnit). v.march) us marches i none march (m ∙ h.marches) below at)
    (at_place (λ (v : TestUnit). v.memory) us ds i none memory (d ∙ h.memories) below stands) (inv us h) p)

pub as_many : (t : UnitTable) (us : List TestUnit) → IsTableOf t us → length t.marches.items ≡ length t.memories.items
as_many t us h = ap length h.marches ∙ length-map us (λ (u : TestUnit). u.march) ∙ sym (ap length h.memories ∙ length-map us (λ (u : TestUnit). u.memory))

-- ---- the plan

pub legal_name : (n : List ℕ) → IsName n → is_name n ≡ true
legal_name n h =
    let low = h.short in
    let short : length n ≤ 64 = omega (arith, low) in
    ap₂ (λ a b. a && b) (ap₂ (λ a b. a && not b) h.identifier h.free) (le-leb (length n) 64 short)

weighed : (chip : ChipDescription) (t : UnitTable) (us : List TestUnit) → IsRead chip t us → length (weights us) ≡ length chip.units
weighed chip t us r = ap length r.weighing ∙ length-map chip.units (λ d. d.weight)

counted_units : (chip : ChipDescription) (t : UnitTable) (us : List TestUnit) → IsRead chip t us → length us ≡ length chip.units
counted_units chip t us r = sym (length-map us (λ (u : TestUnit). u.weight)) ∙ weighed chip t us r

-- 1 to 16 units
pub some_units : (chip : ChipDescription) (t : UnitTable) (us : List TestUnit) → IsRead chip t us → 1 ≤ length us
some_units chip t us r = subst (λ n. 1 ≤ n) (sym (counted_units chip t us r)) r.is_chip.any

pub few_units : (chip : ChipDescription) (t : UnitTable) (us : List TestUnit) → IsRead chip t us → length us ≤ 16
few_units chip t us r = subst (λ n. n ≤ 16) (sym (counted_units chip t us r)) r.is_chip.few

pub light_units : (chip : ChipDescription) (t : UnitTable) (us : List TestUnit) → IsRead chip t us → All (λ w. (1 ≤ w) × (w ≤ chip.budget)) (weights us)
light_units chip t us r =
    subst (All (λ w. (1 ≤ w) × (w ≤ chip.budget))) (sym r.weighing)
    (All-map (λ (w : ℕ). (1 ≤ w) × (w ≤ chip.budget)) (λ d. d.weight) chip.units (λ i d within. let u = r.is_chip.units i d within in (u.some, u.within)))

pub plan : (chip : ChipDescription) (t : UnitTable) (us : List TestUnit) (groups : List ℕ) → IsRead chip t us → FirstFit chip.budget [] (weights us) groups → IsPlan us chip.budget groups
plan chip t us groups r fitted = record {
  some = some_units chip t us r;
  few = few_units chip t us r;
  memories = r.known;
  light = λ i d within. (light_units chip t us r i d within).1;
  fitted = fitted;
}

pub plan_of : (chip : ChipDescription) (t : UnitTable) (us : List TestUnit) (groups : List ℕ) → IsRead chip t us → FirstFit chip.budget [] (weights us) groups → IsPlanOf t.memories.items groups
plan_of chip t us groups r fitted = (us, chip.budget, sym r.table.memories, plan chip t us groups r fitted)

-- ---- the file

ends_named : (old new name other groups : List ℕ) (ds es : List Description) → name ≡ other → ds ≡ es → EndsFile old new name groups ds → EndsFile old new other groups es
ends_named old new name other groups ds es n d h = subst (λ fs. EndsFile old new other groups fs) d (subst (λ m. EndsFile old new m groups ds) n h)

pub makes_file : (chip : ChipDescription) (t : UnitTable) (groups old new name : List ℕ) (ds : List Description) → name ≡ chip.name → ds ≡ t.memories.items
    → PutSelfTests t (length t.memories.items) old → EndsFile old new name groups ds → MakesFile chip t groups new
makes_file chip t groups old new name ds called are put given us ready fitted =
    let ends = ends_named old new name chip.name groups ds t.memories.items called are given in
    let r = ready.has_read in
    let many : length us ≤ length t.memories.items = let n : length t.memories.items ≡ length us = ap length r.table.memories ∙ length-map us (λ (u : TestUnit). u.memory) in omega (arith, n) in
    let tests : AreSelfTests us old = subst (λ vs. AreSelfTests vs old) (take_all (length t.memories.items) us many) (put us r.table) in
    let file = ends us chip.budget tests.trees (sym r.table.memories) tests.are (plan chip t us groups r fitted) tests.tested tests.fit (all_differ chip.name us ready.names) in
    (file.0, subst (λ ms. AllShow ms us) (sym file.1) tests.shown, subst (AllByRecursion ReadsFreely) (sym file.1) tests.freely)

-- ---- the starts

contained : (groups : List ℕ) (i k : ℕ) → slice_get groups i ≡ Some k → Contains groups k
contained groups i k at = (i, slice_get_within groups i k at, get_or_from_slice_get groups i k k at)

pub can_start : (chip : ChipDescription) (t : UnitTable) (us : List TestUnit) (groups : List ℕ) → IsRead chip t us → FirstFit chip.budget [] (weights us) groups → CanStart groups t.lengths.items
can_start chip t us groups r fitted =
    let p = plan chip t us groups r fitted in
    let many : length groups ≡ length us = (counted us chip.budget groups p).many ∙ length-map us (λ (u : TestUnit). u.memory) in
    let long : length t.lengths.items ≡ length us = ap length r.table.lengths ∙ length-map us _ in
    let some = some_units chip t us r in
    let few = few_units chip t us r in
    let any : 0 < length groups = omega (arith, many, some) in
    record {
      some = omega (arith, many, some);
      few = omega (arith, many, few);
      each = omega (arith, many, long);
      sizes = r.table.short;
      full = λ k most. let at = none_left_out chip.budget (weights us) groups fitted p.light any k most in contained groups at.0 k at.1;
      few_groups = numbered chip.budget (weights us) groups fitted p.light any;
    }

-- ---- what is left

-- two first rooms are one
room_one : (budget : ℕ) (before : List Seat) (weight g h : ℕ) → IsFirstRoom budget before weight g → IsFirstRoom budget before weight h → g ≡ h
room_one budget before weight g h f k = elim (apart g h) [ inl s ↦ s | inr o ↦ absurd (elim o [ inl l ↦ beyond g h f k l | inr l ↦ beyond h g k f l ]) ]
  where
    apart : (g h : ℕ) → (g ≡ h) ⊎ ((g < h) ⊎ (h < g))
    apart zero zero = inl refl
    apart zero (suc h) = inr (inl (omega arith))
    apart (suc g) zero = inr (inr (omega arith))
    apart (suc g) (suc h) = elim (apart g h) [ inl s ↦ inl (ap suc s) | inr o ↦ inr (elim o [ inl l ↦ inl (omega (arith, l)) | inr l ↦ inr (omega (arith, l)) ]) ]

    beyond : (g h : ℕ) → IsFirstRoom budget before weight g → IsFirstRoom budget before weight h → g < h → ⊥
    beyond g h f k l = let room = f.room in let full = k.least g l in omega (arith, room, full)

pub fit_one : (budget : ℕ) (before : List Seat) (ws gs hs : List ℕ) → FirstFit budget before ws gs → FirstFit budget before ws hs → gs ≡ hs
fit_one budget before [] [] [] f g = refl
fit_one budget before [] [] (h ∷ hs) f g = absurd g
fit_one budget before [] (g ∷ gs) hs f k = absurd f
fit_one budget before (w ∷ ws) [] hs f g = absurd f
fit_one budget before (w ∷ ws) (g ∷ gs) [] f k = absurd k
fit_one budget before (w ∷ ws) (g ∷ gs) (h ∷ hs) f k =
    let same : g ≡ h = room_one budget before w g h f.0 k.0 in
    let rest : FirstFit budget (record { weight = w; group = g } ∷ before) ws hs = subst (λ x. FirstFit budget (record { weight = w; group = x } ∷ before) ws hs) (sym same) k.1 in
    ap₂ (λ x xs. x ∷ xs) same (fit_one budget (record { weight = w; group = g } ∷ before) ws gs hs f.1 rest)

pub fitted_units : (chip : ChipDescription) (t : UnitTable) (us : List TestUnit) (budget : ℕ) (ws groups : List ℕ) → budget ≡ chip.budget → ws ≡ t.weights.items → IsRead chip t us
    → FirstFit budget [] ws groups → FirstFit chip.budget [] (weights us) groups
fitted_units chip t us budget ws groups b w r f = subst (λ vs. FirstFit chip.budget [] vs groups) (w ∙ r.table.weights) (subst (λ n. FirstFit n [] ws groups) b f)

pub light_weights : (chip : ChipDescription) (t : UnitTable) (us : List TestUnit) (budget : ℕ) (ws : List ℕ) → budget ≡ chip.budget → ws ≡ t.weights.items → IsRead chip t us
    → All (λ w. (1 ≤ w) × (w ≤ budget)) ws
light_weights chip t us budget ws b w r =
    subst (λ n. All (λ (x : ℕ). (1 ≤ x) × (x ≤ n)) ws) (sym b) (subst (All (λ (x : ℕ). (1 ≤ x) × (x ≤ chip.budget))) (sym (w ∙ r.table.weights)) (light_units chip t us r))

pub starts : (chip : ChipDescription) (t : UnitTable) (us : List TestUnit) (budget : ℕ) (ws groups ls : List ℕ) → budget ≡ chip.budget → ws ≡ t.weights.items → ls ≡ t.lengths.items → IsRead chip t us
    → FirstFit budget [] ws groups → CanStart groups ls
starts chip t us budget ws groups ls b w l r f = subst (CanStart groups) (sym l) (can_start chip t us groups r (fitted_units chip t us budget ws groups b w r f))

pub tests_table : (chip : ChipDescription) (t : UnitTable) (budget : ℕ) (ws groups ls text line : List ℕ) (outputs : List Written) → budget ≡ chip.budget → ws ≡ t.weights.items → ls ≡ t.lengths.items
    → FirstFit budget [] ws groups → MakesFile chip t groups text → line ≡ chip_line (length groups) (suc (last_group groups)) (end_of groups ls)
    → outputs ≡ (record { position = 2; bytes = text }) ∷ [] → (us : List TestUnit) → IsReady chip t us
    → IsChipTested chip.name us chip.budget (record { found = false; outputs = outputs; line = line })
tests_table chip t budget ws groups ls text line outputs b w l f makes said out us ready =
    let r = ready.has_read in
    let fit = fitted_units chip t us budget ws groups b w r f in
    let made = makes us ready fit in
    let file = made.0 in
    let same : groups ≡ file.groups = fit_one chip.budget [] (weights us) groups file.groups fit file.fitted in
    let many : length groups ≡ length us = (counted us chip.budget groups (plan chip t us groups r fit)).many ∙ length-map us (λ (u : TestUnit). u.memory) in
    let lines : line ≡ chip_line (length us) (suc (last_group file.groups)) (end_of file.groups (lengths us)) =
    said ∙ ap (λ n. chip_line n (suc (last_group groups)) (end_of groups ls)) many
    ∙ ap (λ x. chip_line (length us) (suc (last_group groups)) (end_of groups x)) (l ∙ r.table.lengths)
    ∙ ap (λ x. chip_line (length us) (suc (last_group x)) (end_of x (lengths us))) same in
    record { text = text; file = file; shown = made.1; freely = made.2; done_is = λ j. record { found = false; outputs = out j; line = lines j } }
