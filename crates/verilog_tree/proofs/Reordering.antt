-- The order of assign items and of always blocks does not matter.
use Rattle.std.proofs.Common.{◌≡◌, ℕ, zero, suc, ◌+◌, ◌^◌, ◌<◌, Bool, true, false, cond, ◌||◌, nat_eq, List, [], ◌∷◌, ◌++◌, None, refl, sym, ap, ◌∙◌, subst, arith, sum_by}
use Rattle.std.proofs.lemmas.List.Sorted.{sum_by-IsPermutation}
use Rattle.std.proofs.lemmas.List.Sums.{sum_by-cons}
use Rattle.std.proofs.lemmas.Bool.{eqb-true}
use Rattle.std.proofs.lemmas.Bool.Decides.{nat_tests}
use Rattle.std.proofs.lemmas.Slice.Eq.{bytes_eq-Decides}
use Rattle.std.specs.Str.{bytes_eq}
use Rattle.verilog_tree.specs.declared.names.Kind.{Kind}
use Rattle.verilog_tree.specs.declared.names.Kind.TheVariants as K
use Rattle.verilog_tree.specs.Plain.{Statement, SetTo, IfElse, CaseOf, Statements, Done, Then, Arms, NoArm, ArmOf, ModuleItem, AssignItem, AlwaysItem, ModulePort, ModuleTree}
use Rattle.verilog_tree.specs.Names.{Declaration, declarations, port_declarations, item_declarations, width_of, is_clk}
use Rattle.verilog_tree.specs.Meaning.{Env, truth, is_label, value, Given, AllGiven, Equations, Settles, names_widths, sets_of, sets, arm_sets, block_sets, last_set, next, History}
use Rattle.verilog_tree.specs.Rules.{TwoBlocks, Mention, AsClock, AsTarget, Whole, Selected, reads, statement_mentions, statements_mentions, arms_mentions, mentions, first_bad, is_target, is_set, is_set_before, item_break, items_break, first_break, port_twice, port_clock, undriven}
use Rattle.verilog_tree.specs.Order.{Assignment, assignments, blocks, Reordered, MeansTheSame}
use Rattle.verilog_tree.proofs.Breaks.{two, five}
use Rattle.verilog_tree.proofs.Clean.{not_here, item_clean}

abbrev off : Bool → ℕ
off true = 0
off false = 1

-- 0 where the assignment's equation holds
abbrev fails : (List ℕ → ℕ) → Env → Assignment → ℕ
fails w e a = off (nat_eq (e a.target) (value w e a.expression))

holds_at : (a b : ℕ) (t : Bool) → nat_eq a b ≡ t → off t ≡ 0 → a ≡ b
holds_at a b true q h = eqb-true a b q
holds_at a b false q h = absurd (omega arith)

same_number : (a : ℕ) → nat_eq a a ≡ true
same_number a = grind (arith, nat_tests)

none_fails : (w : List ℕ → ℕ) (e : Env) (is : List ModuleItem) → Equations w e is → sum_by (fails w e) (assignments is) ≡ 0
none_fails w e [] h = refl
none_fails w e (AssignItem n x ∷ is) h =
    let here : off (nat_eq (e n) (value w e x)) ≡ 0 = rw h.0 (ap off (same_number (value w e x))) in
    sum_by-cons (fails w e) (record { target = n; expression = x }) (assignments is)
    ∙ ap (λ j. j + sum_by (fails w e) (assignments is)) here ∙ ap (λ j. 0 + j) (none_fails w e is h.1)
none_fails w e (other ∷ is) h = none_fails w e is h

all_hold : (w : List ℕ → ℕ) (e : Env) (is : List ModuleItem) → sum_by (fails w e) (assignments is) ≡ 0 → Equations w e is
all_hold w e [] h = tt
all_hold w e (AssignItem n x ∷ is) h =
    let both : off (nat_eq (e n) (value w e x)) + sum_by (fails w e) (assignments is) ≡ 0 = sym (sum_by-cons (fails w e) (record { target = n; expression = x }) (assignments is)) ∙ h in
    (holds_at (e n) (value w e x) (nat_eq (e n) (value w e x)) refl (omega (arith, both)), all_hold w e is (omega (arith, both)))
all_hold w e (other ∷ is) h = all_hold w e is h

-- one more than the value of the last pair of the name, or m where it has none
abbrev mark : List ℕ → List (List ℕ × ℕ) → ℕ → ℕ
mark n [] m = m
mark n (p ∷ ps) m = mark n ps (cond (bytes_eq n p.0) (suc p.1) m)

mark_append : (n : List ℕ) (ps qs : List (List ℕ × ℕ)) (m : ℕ) → mark n (ps ++ qs) m ≡ mark n qs (mark n ps m)
mark_append n [] qs m = refl
mark_append n (p ∷ ps) qs m = mark_append n ps qs (cond (bytes_eq n p.0) (suc p.1) m)

-- a mark, read
abbrev marked : ℕ → ℕ → ℕ
marked zero old = old
marked (suc v) old = v

last_marked : (n : List ℕ) (ps : List (List ℕ × ℕ)) (old m : ℕ) → last_set n ps (marked m old) ≡ marked (mark n ps m) old
last_marked n [] old m = refl
last_marked n (p ∷ ps) old m = ap (λ v. last_set n ps v) (one (bytes_eq n p.0)) ∙ last_marked n ps old (cond (bytes_eq n p.0) (suc p.1) m)
  where
    one : (t : Bool) → cond t p.1 (marked m old) ≡ marked (cond t (suc p.1) m) old
    one true = refl
    one false = refl

or_more : (t a b c : Bool) → a ≡ (b || c) → (t || a) ≡ ((t || b) || c)
or_more true a b c h = refl
or_more false a b c h = h

plus_zero : (j : ℕ) → 0 + j ≡ j
plus_zero j = omega arith

-- what expressions and statements name as a target
target_append : (n : List ℕ) (xs ys : List Mention) → is_target n (xs ++ ys) ≡ (is_target n xs || is_target n ys)
target_append n [] ys = refl
target_append n (AsClock m ∷ xs) ys = target_append n xs ys
target_append n (AsTarget m ∷ xs) ys = or_more (bytes_eq n m) (is_target n (xs ++ ys)) (is_target n xs) (is_target n ys) (target_append n xs ys)
target_append n (Whole m ∷ xs) ys = target_append n xs ys
target_append n (Selected m h l ∷ xs) ys = target_append n xs ys

pub or_false : (s t : Bool) → (s || t) ≡ false → (s ≡ false) × (t ≡ false)
or_false true t h = cc
or_false false t h = (refl, h)

apart : (n : List ℕ) (xs ys : List Mention) → is_target n (xs ++ ys) ≡ false → (is_target n xs ≡ false) × (is_target n ys ≡ false)
apart n xs ys h = or_false (is_target n xs) (is_target n ys) (sym (target_append n xs ys) ∙ h)

chosen_mark : (n : List ℕ) (t : Bool) (ps qs : List (List ℕ × ℕ)) (m : ℕ) → mark n ps m ≡ m → mark n qs m ≡ m → mark n (cond t ps qs) m ≡ m
chosen_mark n true ps qs m a b = a
chosen_mark n false ps qs m a b = b

-- a block that doesn't name a register leaves its mark
mutual
  statement_leaves : (w : List ℕ → ℕ) (e : Env) (n : List ℕ) (s : Statement) (m : ℕ) → is_target n (statement_mentions s) ≡ false → mark n (sets_of w e s) m ≡ m
  statement_leaves w e n (SetTo k x) m h = ap (λ t. cond t (suc (value w e x)) m) ((or_false (bytes_eq n k) (is_target n (reads x)) h).0)
  statement_leaves w e n (IfElse c a b) m h =
      let p = apart n (reads c) (statements_mentions a ++ statements_mentions b) h in
      let q = apart n (statements_mentions a) (statements_mentions b) p.1 in
      chosen_mark n (truth (value w e c)) (sets w e a) (sets w e b) m (statements_leave w e n a m q.0) (statements_leave w e n b m q.1)
  statement_leaves w e n (CaseOf x as' d) m h =
      let p = apart n (reads x) (arms_mentions as' ++ statements_mentions d) h in
      let q = apart n (arms_mentions as') (statements_mentions d) p.1 in
      arms_leave w e n (value w e x) as' (sets w e d) m q.0 (statements_leave w e n d m q.1)

  statements_leave : (w : List ℕ → ℕ) (e : Env) (n : List ℕ) (ss : Statements) (m : ℕ) → is_target n (statements_mentions ss) ≡ false → mark n (sets w e ss) m ≡ m
  statements_leave w e n Done m h = refl
  statements_leave w e n (Then s ss) m h =
      let p = apart n (statement_mentions s) (statements_mentions ss) h in
      mark_append n (sets_of w e s) (sets w e ss) m ∙ ap (mark n (sets w e ss)) (statement_leaves w e n s m p.0) ∙ statements_leave w e n ss m p.1

  arms_leave : (w : List ℕ → ℕ) (e : Env) (n : List ℕ) (v : ℕ) (as' : Arms) (d : List (List ℕ × ℕ)) (m : ℕ) → is_target n (arms_mentions as') ≡ false → mark n d m ≡ m → mark n (arm_sets w e v as' d) m ≡ m
  arms_leave w e n v NoArm d m h g = g
  arms_leave w e n v (ArmOf ls ss as') d m h g =
      let p = apart n (statements_mentions ss) (arms_mentions as') h in
      chosen_mark n (is_label v ls) (sets w e ss) (arm_sets w e v as' d) m (statements_leave w e n ss m p.0) (arms_leave w e n v as' d m p.1 g)

this_or_later : (t : Bool) {s : Bool} {P : Type 0} → (t ≡ true → P) → (s ≡ true → P) → (t || s) ≡ true → P
this_or_later true now later h = now refl
this_or_later false now later h = later h

-- a register that a block sets is set by none before it
only_here : (b : List ModuleItem) (n : List ℕ) (ms : List Mention) → first_bad (is_set_before b) TwoBlocks ms ≡ None → is_target n ms ≡ true → is_set b n ≡ false
only_here b n [] h t = cc
only_here b n (AsClock m ∷ ms) h t = only_here b n ms h t
only_here b n (AsTarget m ∷ ms) h t =
    let p = not_here (is_set b m) (TwoBlocks m) (first_bad (is_set_before b) TwoBlocks ms) h in
    this_or_later (bytes_eq n m) (λ q. subst (λ k. is_set b k ≡ false) (sym ((bytes_eq-Decides n m).0 q)) p.0) (only_here b n ms p.1) t
only_here b n (Whole m ∷ ms) h t = only_here b n ms h t
only_here b n (Selected m i l ∷ ms) h t = only_here b n ms h t

pub set_append : (b is : List ModuleItem) (n : List ℕ) → is_set (b ++ is) n ≡ (is_set b n || is_set is n)
set_append [] is n = refl
set_append (AlwaysItem k ss ∷ b) is n = or_more (is_target n (statements_mentions ss)) (is_set (b ++ is) n) (is_set b n) (is_set is n) (set_append b is n)
set_append (other ∷ b) is n = set_append b is n

-- the mark that a block leaves
abbrev block_mark : (List ℕ → ℕ) → Env → List ℕ → Statements → ℕ
block_mark w e n ss = mark n (sets w e ss) 0

-- each block's registers are set by none before it
abbrev Apart : List ModuleItem → List ModuleItem → List ℕ → Type 0
Apart b [] n = Unit {0}
Apart b (AlwaysItem k ss ∷ is) n = (is_target n (statements_mentions ss) ≡ true → is_set b n ≡ false) × Apart (b ++ AlwaysItem k ss ∷ []) is n
Apart b (other ∷ is) n = Apart (b ++ other ∷ []) is n

items_apart : (w : List ℕ → ℕ) (ps : List ModulePort) (b is : List ModuleItem) (n : List ℕ) → items_break w ps b is ≡ None → Apart b is n
items_apart w ps b [] n h = tt
items_apart w ps b (i ∷ is) n h =
    let p = two (item_break w ps b i) (items_break w ps (b ++ i ∷ []) is) h in
    let c = item_clean w ps b i p.0 in
    here i c.5 (items_apart w ps (b ++ i ∷ []) is n p.1)
  where
    here : (i : ModuleItem) → first_bad (is_set_before b) TwoBlocks (mentions i) ≡ None → Apart (b ++ i ∷ []) is n → Apart b (i ∷ is) n
    here (AlwaysItem k ss) g rest = (only_here b n (statements_mentions ss) g, rest)
    here other g rest = rest

not_set_more : (b : List ModuleItem) (i : ModuleItem) (n : List ℕ) (t : Bool) → is_set (i ∷ []) n ≡ false → is_set b n ≡ t → is_set (b ++ i ∷ []) n ≡ t
not_set_more b i n t h q = set_append b (i ∷ []) n ∙ ap (λ s. is_set b n || s) h ∙ end (is_set b n) ∙ q
  where
    end : (s : Bool) → (s || false) ≡ s
    end true = refl
    end false = refl

set_more : (b : List ModuleItem) (i : ModuleItem) (n : List ℕ) → is_set b n ≡ true → is_set (b ++ i ∷ []) n ≡ true
set_more b i n q = set_append b (i ∷ []) n ∙ ap (λ s. s || is_set (i ∷ []) n) q

set_now : (b : List ModuleItem) (k : List ℕ) (ss : Statements) (n : List ℕ) → is_target n (statements_mentions ss) ≡ true → is_set (b ++ AlwaysItem k ss ∷ []) n ≡ true
set_now b k ss n q = set_append b (AlwaysItem k ss ∷ []) n ∙ ap (λ t. is_set b n || (t || false)) q ∙ end (is_set b n)
  where
    end : (s : Bool) → (s || (true || false)) ≡ true
    end true = refl
    end false = refl

-- where an earlier block sets the register, these blocks leave it
module _ (w : List ℕ → ℕ) (e : Env) (n : List ℕ) where
  later_leave : (b is : List ModuleItem) → Apart b is n → is_set b n ≡ true → (m : ℕ) → (mark n (block_sets w e is) m ≡ m) × (sum_by (block_mark w e n) (blocks is) ≡ 0)
  later_leave b [] a q m = (refl, refl)
  later_leave b (AlwaysItem k ss ∷ is) a q m =
      let none : is_target n (statements_mentions ss) ≡ false = not_target (is_target n (statements_mentions ss)) refl in
      let rest = later_leave (b ++ AlwaysItem k ss ∷ []) is a.1 (set_more b (AlwaysItem k ss) n q) m in (
        mark_append n (sets w e ss) (block_sets w e is) m ∙ ap (mark n (block_sets w e is)) (statements_leave w e n ss m none) ∙ rest.0,
        sum_by-cons (block_mark w e n) ss (blocks is) ∙ ap (λ j. j + sum_by (block_mark w e n) (blocks is)) (statements_leave w e n ss 0 none) ∙ ap (λ j. 0 + j) rest.1,
      )
    where
      not_target : (t : Bool) → is_target n (statements_mentions ss) ≡ t → is_target n (statements_mentions ss) ≡ false
      not_target true g = let z = a.0 g in cc
      not_target false g = g
  later_leave b (other ∷ is) a q m = later_leave (b ++ other ∷ []) is a (set_more b other n q) m

  -- the mark that the blocks leave is the sum of what each leaves
  mark_sum : (b is : List ModuleItem) → Apart b is n → is_set b n ≡ false → mark n (block_sets w e is) 0 ≡ sum_by (block_mark w e n) (blocks is)
  mark_sum b [] a q = refl
  mark_sum b (AlwaysItem k ss ∷ is) a q =
      mark_append n (sets w e ss) (block_sets w e is) 0 ∙ by_target (is_target n (statements_mentions ss)) refl (mark_sum (b ++ AlwaysItem k ss ∷ []) is a.1) ∙ sym (sum_by-cons (block_mark w e n) ss (blocks is))
    where
      by_target : (t : Bool) → is_target n (statements_mentions ss) ≡ t → (is_set (b ++ AlwaysItem k ss ∷ []) n ≡ false → mark n (block_sets w e is) 0 ≡ sum_by (block_mark w e n) (blocks is)) → mark n (block_sets w e is) (mark n (sets w e ss) 0) ≡ mark n (sets w e ss) 0 + sum_by (block_mark w e n) (blocks is)
      by_target true g rest =
          let later = later_leave (b ++ AlwaysItem k ss ∷ []) is a.1 (set_now b k ss n g) (mark n (sets w e ss) 0) in
          let u = later.0 in
          let v = later.1 in
          omega arith
      by_target false g rest =
          let r = rest (not_set_more b (AlwaysItem k ss) n false (ap (λ t. t || false) g) q) in
          let z = statements_leave w e n ss 0 g in
          ap (mark n (block_sets w e is)) z ∙ r ∙ sym (ap (λ j. j + sum_by (block_mark w e n) (blocks is)) z ∙ plus_zero (sum_by (block_mark w e n) (blocks is)))
  mark_sum b (other ∷ is) a q = mark_sum (b ++ other ∷ []) is a (not_set_more b other n false refl q)

same_widths : (one other : ModuleTree) → Reordered one other → declarations one.ports one.items ≡ declarations other.ports other.items
same_widths one other r = ap (λ ps. port_declarations ps ++ item_declarations one.items) r.ports ∙ ap (λ l. port_declarations other.ports ++ l) r.declared

no_two_blocks : (mo : ModuleTree) (n : List ℕ) → first_break mo ≡ None → Apart [] mo.items n
no_two_blocks mo n h =
    let ports = port_declarations mo.ports in
    let items = item_declarations mo.items in
    let b = five (port_twice [] ports) (port_clock ports) (items_break (names_widths mo) mo.ports [] mo.items) (undriven mo.items ports) (undriven mo.items items) h in
    items_apart (names_widths mo) mo.ports [] mo.items n b.2

next_marked : (mo : ModuleTree) → first_break mo ≡ None → (e : Env) (n : List ℕ) → next mo e n ≡ marked (sum_by (block_mark (names_widths mo) e n) (blocks mo.items)) (e n)
next_marked mo h e n =
    last_marked n (block_sets (names_widths mo) e mo.items) (e n) 0
    ∙ ap (λ m. marked m (e n)) (mark_sum (names_widths mo) e n [] mo.items (no_two_blocks mo n h) refl)

same_next : (one other : ModuleTree) → first_break one ≡ None → first_break other ≡ None → Reordered one other → (e : Env) (n : List ℕ) → next one e n ≡ next other e n
same_next one other h g r e n =
    next_marked one h e n
    ∙ ap (λ m. marked m (e n)) (sym (sum_by-IsPermutation (block_mark (names_widths one) e n) (blocks one.items) (blocks other.items) r.clocked))
    ∙ ap (λ (l : List Declaration). marked (sum_by (block_mark (width_of l) e n) (blocks other.items)) (e n)) (same_widths one other r)
    ∙ sym (next_marked other g e n)

same_settles : (one other : ModuleTree) → Reordered one other → (regs ins e : Env) → Settles one regs ins e → Settles other regs ins e
same_settles one other r regs ins e s =
    let moved = same_widths one other r in
    let failing : sum_by (fails (names_widths one) e) (assignments other.items) ≡ 0 = sum_by-IsPermutation (fails (names_widths one) e) (assignments one.items) (assignments other.items) r.assigned ∙ none_fails (names_widths one) e one.items s.equations in
    record {
      within = λ n. subst (λ (l : List Declaration). e n < 2 ^ cond (is_clk n) 0 (width_of l n)) moved (s.within n);
      given = subst (λ (l : List Declaration). AllGiven regs ins e l) moved s.given;
      equations = subst (λ (l : List Declaration). Equations (width_of l) e other.items) moved (all_hold (names_widths one) e other.items failing);
    }

-- registers that have the same values
given_same : (regs more ins e : Env) → ((n : List ℕ) → regs n ≡ more n) → (ds : List Declaration) → AllGiven regs ins e ds → AllGiven more ins e ds
given_same regs more ins e q [] h = tt
given_same regs more ins e q (d ∷ ds) h = (by_kind d.kind h.0, given_same regs more ins e q ds h.1)
  where
    by_kind : (k : Kind) → Given regs ins e k d.name → Given more ins e k d.name
    by_kind K.Input g = g
    by_kind K.Wire g = tt
    by_kind K.Register g = g ∙ q d.name

settles_same : (mo : ModuleTree) (regs more ins e : Env) → ((n : List ℕ) → regs n ≡ more n) → Settles mo regs ins e → Settles mo more ins e
settles_same mo regs more ins e q s = record {
  within = s.within;
  given = given_same regs more ins e q (declarations mo.ports mo.items) s.given;
  equations = s.equations;
}

same_history : (one other : ModuleTree) → first_break one ≡ None → first_break other ≡ None → Reordered one other → (regs more : Env) → ((n : List ℕ) → regs n ≡ more n) → (is es : List Env) → History one regs is es → History other more is es
same_history one other h g r regs more q [] [] t = tt
same_history one other h g r regs more q [] (e ∷ es) t = absurd t
same_history one other h g r regs more q (i ∷ is) [] t = absurd t
same_history one other h g r regs more q (i ∷ is) (e ∷ es) t = (
  settles_same other regs more i e q (same_settles one other r regs i e t.0),
  same_history one other h g r (next one e) (next other e) (same_next one other h g r e) is es t.1,
)

pub means_the_same : (one other : ModuleTree) → first_break one ≡ None → first_break other ≡ None → Reordered one other → MeansTheSame one other
means_the_same one other h g r = record {
  settles = same_settles one other r;
  registers = same_next one other h g r;
  histories = λ regs is es t. same_history one other h g r regs regs (λ n. refl) is es t;
}
