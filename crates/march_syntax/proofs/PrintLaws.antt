-- The printed form of a march is a text of it, and how it is written part by part.
use Rattle.std.proofs.Common.{◌≡◌, ℕ, ◌+◌, ◌<◌, ◌≤◌, suc, zero, true, false, ⊎_elim, List, [], ◌∷◌, ◌++◌, ◌∙◌, length, drop, drop-cons, get_or, inl, subst, sym, ap, append_assoc, refl, arith, add-one}
use Rattle.std.specs.List.{AllByRecursion}
use Rattle.std.proofs.lemmas.List.{drop_all}
use Rattle.bist_text.specs.Grammar.{word, one_of}
use Rattle.bist_text.proofs.Pieces.{many_none, word_on}
use Rattle.march_core.specs.declared.operation.Order.{Order}
use Rattle.march_core.specs.declared.operation.Order.TheVariants.{Up, Down, Any}
use Rattle.march_core.specs.declared.operation.Op.{Op}
use Rattle.march_core.specs.declared.operation.Op.TheVariants.{W0}
use Rattle.march_core.specs.March.{MarchElement, pause, sweep, is_pause, IsElement, IsMarch, element_at, order_at, ops_at, is_pause_at}
use Rattle.march_syntax.specs.MarchText.{is_white, ws, spellings, op_text, more_ops, ops, body, element, more_elements, close, listed, MarchText}
use Rattle.march_syntax.specs.Printed.{order_text, more_ops_text, ops_text, element_text, more_elements_text, elements_text, printed}
use Rattle.march_syntax.specs.inner.Printed.{separator}

-- ---- what is printed is a text of the grammar

more_ops_on : (os : List Op) (K : List ℕ → Type 0) (r : List ℕ) → K r → more_ops os K (more_ops_text os ++ r)
more_ops_on [] K r h = h
more_ops_on (o ∷ os) K r h = inl (many_none is_white (word (op_text o) (more_ops os K)) ((op_text o ++ more_ops_text os) ++ r) (rw append_assoc (word_on (op_text o) (more_ops os K) (more_ops_text os ++ r) (more_ops_on os K r h))))

body_on : (os : List Op) (K : List ℕ → Type 0) (r : List ℕ) → 0 < length os → K r → body os K (40 ∷ ((ops_text os ++ (41 ∷ [])) ++ r))
body_on [] K r n h = absurd (omega arith)
body_on (o ∷ os) K r n h = inl (many_none is_white (ops (o ∷ os) (ws (word (41 ∷ []) K))) ((ops_text (o ∷ os) ++ (41 ∷ [])) ++ r) (simp append_assoc (word_on (op_text o) (more_ops os (ws (word (41 ∷ []) K))) (more_ops_text os ++ (41 ∷ r)) (more_ops_on os (ws (word (41 ∷ []) K)) (41 ∷ r) (inl h)))))

order_on : (o : Order) (K : List ℕ → Type 0) (r : List ℕ) → K r → one_of (spellings o) K (order_text o ++ r)
order_on Up K r h = inl h
order_on Down K r h = inl h
order_on Any K r h = inl h

sweep_is : (o : Order) (os : List Op) (r : List ℕ) → element_text (sweep o os) ++ r ≡ order_text o ++ (40 ∷ ((ops_text os ++ (41 ∷ [])) ++ r))
sweep_is o os r = simp append_assoc

element_on : (e : MarchElement) (K : List ℕ → Type 0) (r : List ℕ) → IsElement e → K r → element e K (element_text e ++ r)
element_on pause K r n h = inl h
element_on (sweep o os) K r n h =
    subst (element (sweep o os) K) (sym (sweep_is o os r))
    (order_on o (body os K) (40 ∷ ((ops_text os ++ (41 ∷ [])) ++ r)) (body_on os K r (some n) h))
  where
    some : IsElement (sweep o os) → 0 < length os
    some n = ⊎_elim (λ (p : is_pause (sweep o os) ≡ true). cc) (λ (p : (0 < length os) × (length os ≤ 16)). p.0) n

more_on : (es : List MarchElement) (K : List ℕ → Type 0) (r : List ℕ) → AllByRecursion IsElement es → K r → more_elements es K (more_elements_text es ++ r)
more_on [] K r n h = h
more_on (e ∷ es) K r n h = inl (many_none is_white (element e (more_elements es K)) ((element_text e ++ more_elements_text es) ++ r) (rw append_assoc (element_on e (more_elements es K) (more_elements_text es ++ r) n.0 (more_on es K r n.1 h))))

pub printed_is : (es : List MarchElement) → IsMarch es → MarchText (printed es) es
printed_is [] n = let some = n.some in cc
printed_is (e ∷ es) n = inl (inl (many_none is_white (listed true (e ∷ es)) (elements_text (e ∷ es) ++ (125 ∷ [])) (rw append_assoc (element_on e (more_elements es (ws (close true))) (more_elements_text es ++ (125 ∷ [])) (n.each).0 (more_on es (ws (close true)) (125 ∷ []) (n.each).1 (inl tt))))))

-- ---- part by part

-- the text from operation i on
abbrev pub ops_from : ℕ → List Op → List ℕ
ops_from zero os = ops_text os
ops_from (suc i) os = more_ops_text (drop (suc i) os)

abbrev pub elements_from : ℕ → List MarchElement → List ℕ
elements_from zero es = elements_text es
elements_from (suc i) es = more_elements_text (drop (suc i) es)

drop_element : (es : List MarchElement) (i : ℕ) → i < length es → drop i es ≡ element_at es i ∷ drop (suc i) es
drop_element [] i h = absurd (omega arith)
drop_element (e ∷ es) zero h = refl
drop_element (e ∷ es) (suc i) h = drop_element es i (omega arith)

elements_step : (es : List MarchElement) (i : ℕ) → i < length es
    → elements_from i es ≡ separator 59 i ++ (element_text (element_at es i) ++ elements_from (suc i) es)
elements_step [] zero h = absurd (omega arith)
elements_step (e ∷ es) zero h = refl
elements_step es (suc i) h = ap more_elements_text (drop_element es (suc i) h)

ops_step : (os : List Op) (i : ℕ) → i < length os → ops_from i os ≡ separator 44 i ++ (op_text (get_or os i W0) ++ ops_from (suc i) os)
ops_step [] zero h = absurd (omega arith)
ops_step (o ∷ os) zero h = refl
ops_step os (suc i) h = ap more_ops_text (drop-cons os (suc i) W0 h)

-- a part more is written
part_written : (old mid new whole mark text left rest : List ℕ) → mid ≡ old ++ mark → new ≡ mid ++ text → left ≡ mark ++ (text ++ rest) → old ++ left ≡ whole → new ++ rest ≡ whole
part_written old mid new whole mark text left rest m n s e =
    ap (λ x. x ++ rest) (n ∙ ap (λ x. x ++ text) m) ∙ append_assoc (old ++ mark) text rest ∙ append_assoc old mark (text ++ rest) ∙ ap (λ x. old ++ x) (sym s) ∙ e

pub op_written : (old mid new whole : List ℕ) (os : List Op) (i : ℕ) → mid ≡ old ++ separator 44 i
    → new ≡ mid ++ op_text (get_or os i W0) → i < length os → old ++ ops_from i os ≡ whole → new ++ ops_from (i + 1) os ≡ whole
op_written old mid new whole os i m n l e =
    rw add-one (part_written old mid new whole (separator 44 i) (op_text (get_or os i W0)) (ops_from i os) (ops_from (suc i) os) m n (ops_step os i l) e)

pub element_written : (old mid new whole : List ℕ) (es : List MarchElement) (i : ℕ) → mid ≡ old ++ separator 59 i
    → new ≡ mid ++ element_text (element_at es i) → i < length es → old ++ elements_from i es ≡ whole → new ++ elements_from (i + 1) es ≡ whole
element_written old mid new whole es i m n l e =
    rw add-one (part_written old mid new whole (separator 59 i) (element_text (element_at es i)) (elements_from i es) (elements_from (suc i) es) m n (elements_step es i l) e)

-- no part is left
pub no_ops : (os : List Op) (i : ℕ) → length os ≤ i → ops_from i os ≡ []
no_ops [] zero h = refl
no_ops (o ∷ os) zero h = absurd (omega arith)
no_ops os (suc i) h = ap more_ops_text (drop_all (suc i) os h)

pub no_elements : (es : List MarchElement) (i : ℕ) → length es ≤ i → elements_from i es ≡ []
no_elements [] zero h = refl
no_elements (e ∷ es) zero h = absurd (omega arith)
no_elements es (suc i) h = ap more_elements_text (drop_all (suc i) es h)

-- an element by its parts
pub pause_there : (es : List MarchElement) (i : ℕ) → is_pause_at es i ≡ true → element_at es i ≡ pause
pause_there [] i h = refl
pause_there (pause ∷ es) zero h = refl
pause_there (sweep o os ∷ es) zero h = cc
pause_there (e ∷ es) (suc i) h = pause_there es i h

pub sweep_there : (es : List MarchElement) (i : ℕ) → i < length es → is_pause_at es i ≡ false → element_at es i ≡ sweep (order_at es i) (ops_at es i)
sweep_there [] i l h = absurd (omega arith)
sweep_there (pause ∷ es) zero l h = cc
sweep_there (sweep o os ∷ es) zero l h = refl
sweep_there (e ∷ es) (suc i) l h = sweep_there es i (omega arith) h
