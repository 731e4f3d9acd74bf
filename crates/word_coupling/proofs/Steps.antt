-- The test of a memory on the words of an instance in one word is a run of the two bits.
use Rattle.std.proofs.Common.{◌≡◌, ◌≢◌, ◌<◌, ℕ, suc, Bool, true, false, not, ◌||◌, ◌&&◌, eqb, Option, Some, None, is_some, List, [], ◌∷◌, refl, ap, sym, ◌∙◌, ⊎_elim}
use Rattle.std.specs.Prelude.{if◌then◌else◌, ◌==◌}
use Rattle.std.proofs.lemmas.Bool.Decides.{eqb_tells}
use Rattle.fault_core.specs.Primitive.{Primitive, IsPrimitive, is_retention}
use Rattle.cell_machine.specs.declared.pair.Pair.{Pair}
use Rattle.cell_machine.specs.Pairs.{pair_holds, with_victim, pair_close, pair_pause}
use Rattle.cell_machine.proofs.Closing.{pair_close-closed}
use Rattle.word_march.specs.declared.operations.WordOp.{WordOp}
use Rattle.word_device.specs.Chips.{words_after, reply_to}
use Rattle.word_device.proofs.Core.{replies, operations, AllRepliesRight}
use Rattle.word_device.proofs.Porting.{InMemory}
use Rattle.word_coupling.specs.declared.reading.Reading.{Reading}
use Rattle.word_coupling.specs.declared.couple.PairOp.{PairOp}
use Rattle.word_coupling.specs.Words.{in_word, words_by, is_caught}
use Rattle.word_coupling.specs.inner.Couples.{couple_acts, plain_couple, found_pair, couple_after, is_misread, run_op, behind}
use Rattle.word_coupling.proofs.Stored.{stored, op_at, Shows, shows_paused, paused_same, Here, here, Away, away}

-- the operations on the word, at its two bits; those on other words leave them
abbrev pub run_steps : Reading → Primitive → ℕ → ℕ → ℕ → List (Option WordOp) → Pair → Option Pair
run_steps r p w agg vic [] pair = Some pair
run_steps r p w agg vic (None ∷ steps) pair = run_steps r p w agg vic steps (pair_pause p pair)
run_steps r p w agg vic (Some o ∷ steps) pair =
    if w == o.index then behind (run_op r p pair (op_at agg vic o)) (run_steps r p w agg vic steps) else run_steps r p w agg vic steps pair

closed_after : (r : Reading) (p : Primitive) (pair : Pair) (o : PairOp) → IsPrimitive p → pair_close p (couple_after r p pair o) ≡ couple_after r p pair o
unfolding couple_after
closed_after r p pair o is =
    pair_close-closed p (if couple_acts p (found_pair r p pair o) o then with_victim (plain_couple pair o) p.after else plain_couple pair o) is

closed_paused : (p : Primitive) (pair : Pair) → IsPrimitive p → pair_close p (pair_pause p pair) ≡ pair_pause p pair
unfolding pair_pause
closed_paused p pair is = pair_close-closed p (if is_retention p && pair_holds p pair then with_victim pair p.after else pair) is

-- the first of the operations is right, where it is a read
first_right : (o : WordOp) (steps : List (Option WordOp)) (good : List ℕ) → AllRepliesRight (Some o ∷ steps) (replies None good (Some o ∷ steps))
    → o.write ≡ false → reply_to None good o ≡ o.word
first_right o steps good right read = let found = right 0 o refl read in cc

abbrev Caught : Reading → Primitive → ℕ → ℕ → ℕ → ℕ → List (Option WordOp) → List ℕ → Pair → Type 0
Caught r p bits w agg vic steps good pair =
    is_caught r bits (in_word p w agg vic) steps (stored w vic good pair.v) ≡ not (is_some (run_steps r p w agg vic steps pair))

caught_here : (r : Reading) (p : Primitive) (bits w agg vic : ℕ) (o : WordOp) (steps : List (Option WordOp)) (good : List ℕ) (pair : Pair) → eqb w o.index ≡ true
    → Here r p bits w agg vic good pair o
    → Caught r p bits w agg vic steps (words_after None good o) (couple_after r p pair (op_at agg vic o))
    → Caught r p bits w agg vic (Some o ∷ steps) good pair
caught_here r p bits w agg vic o steps good pair on h rest =
    let next : Pair = couple_after r p pair (op_at agg vic o) in
    ap (λ (b : Bool). b || is_caught r bits (in_word p w agg vic) steps (words_by r (in_word p w agg vic) (stored w vic good pair.v) o)) h.wrong
    ∙ ap (λ (ws : List ℕ). is_misread p pair (op_at agg vic o) || is_caught r bits (in_word p w agg vic) steps ws) h.next
    ∙ ap (λ (b : Bool). is_misread p pair (op_at agg vic o) || b) rest
    ∙ go (is_misread p pair (op_at agg vic o))
    ∙ ap (λ (b : Bool). not (is_some (if b then behind (run_op r p pair (op_at agg vic o)) (run_steps r p w agg vic steps) else run_steps r p w agg vic steps pair))) (sym on)
  where
    go : (b : Bool)
        → (b || not (is_some (run_steps r p w agg vic steps (couple_after r p pair (op_at agg vic o)))))
        ≡ not (is_some (behind (if b then None else Some (couple_after r p pair (op_at agg vic o))) (run_steps r p w agg vic steps)))
    go true = refl
    go false = refl

caught_away : (r : Reading) (p : Primitive) (bits w agg vic : ℕ) (o : WordOp) (steps : List (Option WordOp)) (good : List ℕ) (pair : Pair) → eqb w o.index ≡ false
    → Away r p bits w agg vic good pair o
    → Caught r p bits w agg vic steps (words_after None good o) pair
    → Caught r p bits w agg vic (Some o ∷ steps) good pair
caught_away r p bits w agg vic o steps good pair off a rest =
    ap (λ (b : Bool). b || is_caught r bits (in_word p w agg vic) steps (words_by r (in_word p w agg vic) (stored w vic good pair.v) o)) a.right
    ∙ ap (λ (ws : List ℕ). is_caught r bits (in_word p w agg vic) steps ws) a.next
    ∙ rest
    ∙ ap (λ (b : Bool). not (is_some (if b then behind (run_op r p pair (op_at agg vic o)) (run_steps r p w agg vic steps) else run_steps r p w agg vic steps pair))) (sym off)

-- the words are answered wrong exactly where the two bits are
pub caught_steps : (r : Reading) (p : Primitive) (words bits w agg vic : ℕ) → IsPrimitive p → vic < bits → (steps : List (Option WordOp)) (good : List ℕ) (pair : Pair)
    → Shows w agg vic good pair → pair_close p pair ≡ pair → InMemory words bits (operations steps) → AllRepliesRight steps (replies None good steps)
    → is_caught r bits (in_word p w agg vic) steps (stored w vic good pair.v) ≡ not (is_some (run_steps r p w agg vic steps pair))
caught_steps r p words bits w agg vic is low [] good pair s closed within right = refl
caught_steps r p words bits w agg vic is low (None ∷ steps) good pair s closed within right =
    ap (is_caught r bits (in_word p w agg vic) steps) (paused_same p w agg vic good pair s)
    ∙ caught_steps r p words bits w agg vic is low steps good (pair_pause p pair) (shows_paused p w agg vic good pair s) (closed_paused p pair is) within right
caught_steps r p words bits w agg vic is low (Some o ∷ steps) good pair s closed within right =
    let first : o.write ≡ false → reply_to None good o ≡ o.word = first_right o steps good right in
    let rest : AllRepliesRight steps (replies None (words_after None good o) steps) = λ number op is_op read. right (suc number) op is_op read in
    ⊎_elim
    (λ (h : (eqb w o.index ≡ true) × (w ≡ o.index)).
    let now : Here r p bits w agg vic good pair o = here r p bits w agg vic good pair o h.1 s within.1 low first in
    let next : Pair = couple_after r p pair (op_at agg vic o) in
    caught_here r p bits w agg vic o steps good pair h.0 now
    (caught_steps r p words bits w agg vic is low steps (words_after None good o) next now.shows (closed_after r p pair (op_at agg vic o) is) within.2 rest))
    (λ (h : (eqb w o.index ≡ false) × (w ≢ o.index)).
    let now : Away r p bits w agg vic good pair o = away r p bits w agg vic good pair o h.1 s closed within.1 first in
    caught_away r p bits w agg vic o steps good pair h.0 now
    (caught_steps r p words bits w agg vic is low steps (words_after None good o) pair now.shows closed within.2 rest))
    (eqb_tells w o.index)
