-- What an edge leaves is within its widths.
use Rattle.std.proofs.Common.{◌≡◌, ℕ, ◌^◌, ◌<◌, Bool, true, false, cond, ◌&&◌, List, [], ◌∷◌, ◌++◌, None, refl, sym, subst}
use Rattle.std.specs.Str.{bytes_eq}
use Rattle.std.proofs.lemmas.Bool.{and_parts}
use Rattle.std.proofs.lemmas.Slice.Eq.{bytes_eq-Decides}
use Rattle.verilog_tree.specs.Plain.{Statement, SetTo, IfElse, CaseOf, Statements, Done, Then, Arms, NoArm, ArmOf, ModuleItem, AlwaysItem, ModuleTree}
use Rattle.verilog_tree.specs.Formed.{formed, expression_formed, statement_formed, statements_formed, arms_formed, has_arm, has_label, labels_formed}
use Rattle.verilog_tree.specs.Names.{is_clk}
use Rattle.verilog_tree.specs.Meaning.{Env, truth, width, value, names_widths, settled_width, is_label, sets_of, sets, arm_sets, block_sets, last_set, next}
use Rattle.verilog_tree.specs.Rules.{first_break, unequal, expression_widths, label_widths, statement_widths, statements_widths, arms_widths}
use Rattle.verilog_tree.proofs.Breaks.{two, three}
use Rattle.verilog_tree.proofs.Bounds.{value_fits, unequal_none}
use Rattle.verilog_tree.proofs.Settling.{narrowed}
use Rattle.verilog_open.proofs.Edges.{module_blocks}
use Rattle.verilog_open.specs.Laws.{BlocksWide}

-- every pair is within the width of its name
abbrev AllFit : (List ℕ → ℕ) → List (List ℕ × ℕ) → Type 0
AllFit w [] = Unit {0}
AllFit w (p ∷ ps) = (p.1 < 2 ^ w p.0) × AllFit w ps

all_append : (w : List ℕ → ℕ) (ps qs : List (List ℕ × ℕ)) → AllFit w ps → AllFit w qs → AllFit w (ps ++ qs)
all_append w [] qs f g = g
all_append w (p ∷ ps) qs f g = (f.0, all_append w ps qs f.1 g)

chosen_fit : (w : List ℕ → ℕ) (t : Bool) (ps qs : List (List ℕ × ℕ)) → AllFit w ps → AllFit w qs → AllFit w (cond t ps qs)
chosen_fit w true ps qs f g = f
chosen_fit w false ps qs f g = g

mutual
  set_fits : (w : List ℕ → ℕ) (e : Env) → ((m : List ℕ) → e m < 2 ^ w m) → (s : Statement) → statement_formed s ≡ true → statement_widths w s ≡ None → AllFit w (sets_of w e s)
  set_fits w e u (SetTo n x) f h =
      let h' = two (expression_widths w x) (unequal (w n) (width w x)) h in
      (subst (λ (k : ℕ). value w e x < 2 ^ k) (sym (unequal_none (w n) (width w x) h'.1)) (value_fits w e x (λ m v. u m) f h'.0), tt)
  set_fits w e u (IfElse c a b) f h =
      let f' = and_parts (expression_formed c && statements_formed a) (statements_formed b) f in
      let f'' = and_parts (expression_formed c) (statements_formed a) f'.0 in
      let h' = three (expression_widths w c) (statements_widths w a) (statements_widths w b) h in
      chosen_fit w (truth (value w e c)) (sets w e a) (sets w e b) (sets_fit w e u a f''.1 h'.1) (sets_fit w e u b f'.1 h'.2)
  set_fits w e u (CaseOf x as' d) f h =
      let f' = and_parts (expression_formed x && has_arm as' && arms_formed as') (statements_formed d) f in
      let f'' = and_parts (expression_formed x && has_arm as') (arms_formed as') f'.0 in
      let h' = three (expression_widths w x) (arms_widths w (width w x) as') (statements_widths w d) h in
      arms_fit w e u (value w e x) (width w x) as' (sets w e d) f''.1 h'.1 (sets_fit w e u d f'.1 h'.2)

  sets_fit : (w : List ℕ → ℕ) (e : Env) → ((m : List ℕ) → e m < 2 ^ w m) → (ss : Statements) → statements_formed ss ≡ true → statements_widths w ss ≡ None → AllFit w (sets w e ss)
  sets_fit w e u Done f h = tt
  sets_fit w e u (Then s ss) f h =
      let f' = and_parts (statement_formed s) (statements_formed ss) f in
      let h' = two (statement_widths w s) (statements_widths w ss) h in
      all_append w (sets_of w e s) (sets w e ss) (set_fits w e u s f'.0 h'.0) (sets_fit w e u ss f'.1 h'.1)

  arms_fit : (w : List ℕ → ℕ) (e : Env) → ((m : List ℕ) → e m < 2 ^ w m) → (v k : ℕ) (as' : Arms) (d : List (List ℕ × ℕ)) → arms_formed as' ≡ true → arms_widths w k as' ≡ None → AllFit w d → AllFit w (arm_sets w e v as' d)
  arms_fit w e u v k NoArm d f h g = g
  arms_fit w e u v k (ArmOf ls ss as') d f h g =
      let f' = and_parts (has_label ls && labels_formed ls && statements_formed ss) (arms_formed as') f in
      let f'' = and_parts (has_label ls && labels_formed ls) (statements_formed ss) f'.0 in
      let h' = three (label_widths k ls) (statements_widths w ss) (arms_widths w k as') h in
      chosen_fit w (is_label v ls) (sets w e ss) (arm_sets w e v as' d) (sets_fit w e u ss f''.1 h'.1) (arms_fit w e u v k as' d f'.1 h'.2 g)

blocks_fit : (w : List ℕ → ℕ) (e : Env) → ((m : List ℕ) → e m < 2 ^ w m) → (is : List ModuleItem) → BlocksWide w is → AllFit w (block_sets w e is)
blocks_fit w e u [] b = tt
blocks_fit w e u (AlwaysItem c ss ∷ is) b = all_append w (sets w e ss) (block_sets w e is) (sets_fit w e u ss b.0 b.1) (blocks_fit w e u is b.2)
blocks_fit w e u (other ∷ is) b = blocks_fit w e u is b

last_fits : (w : List ℕ → ℕ) (n : List ℕ) (ps : List (List ℕ × ℕ)) (old : ℕ) → AllFit w ps → old < 2 ^ w n → last_set n ps old < 2 ^ w n
last_fits w n [] old a lt = lt
last_fits w n (p ∷ ps) old a lt = last_fits w n ps (cond (bytes_eq n p.0) p.1 old) a.1 (by_test (bytes_eq n p.0) ((bytes_eq-Decides n p.0).0))
  where
    by_test : (t : Bool) → (t ≡ true → n ≡ p.0) → cond t p.1 old < 2 ^ w n
    by_test true s = subst (λ (m : List ℕ). p.1 < 2 ^ w m) (sym (s refl)) a.0
    by_test false s = lt

-- after a cycle whose values fit, the registers fit
pub next_fits : (mo : ModuleTree) → formed mo ≡ true → first_break mo ≡ None → (e : Env) → ((m : List ℕ) → e m < 2 ^ settled_width mo m) → (n : List ℕ) → next mo e n < 2 ^ names_widths mo n
next_fits mo f h e fits n =
    let w = names_widths mo in
    let within : (m : List ℕ) → e m < 2 ^ w m = λ m. narrowed (is_clk m) (e m) (w m) (fits m) in
    last_fits w n (block_sets w e mo.items) (e n) (blocks_fit w e within mo.items (module_blocks mo f h)) (within n)
