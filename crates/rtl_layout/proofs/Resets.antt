-- A cycle with reset leaves the controller's start.
use Rattle.std.proofs.Common.{◌≡◌, ℕ, zero, suc, ◌<◌, Bool, true, false, cond, List, ◌++◌, length, refl, ap, ◌∙◌, arith}
use Rattle.std.proofs.lemmas.Bool.{ltb-false}
use Rattle.verilog_tree.specs.Plain.{statements}
use Rattle.verilog_tree.specs.Meaning.{Env, bit, names_widths, Settles, sets, last_set, next}
use Rattle.rtl_layout.specs.Plan.{Plan, several, limit}
use Rattle.rtl_layout.specs.Layout.{reset, back, reads_at, over_at, end_sets, self_test, en, done, fail}
use Rattle.rtl_layout.specs.Layout as L
use Rattle.rtl_layout.specs.Control.{start, quiet, here, element_at}
use Rattle.rtl_layout.specs.Shows.{Ready}
use Rattle.rtl_layout.specs.inner.Shows.{BacksIn, Shows}
use Rattle.rtl_layout.proofs.Counter.{on_one}
use Rattle.rtl_layout.proofs.Stages.{ages_reset, last_resets}
use Rattle.rtl_layout.proofs.Step.{ages_shown, first_last, begins}
use Rattle.rtl_layout.proofs.Turn as T

length_quiet : (n : ℕ) → length (quiet n) ≡ n
length_quiet zero = refl
length_quiet (suc n) = ap suc (length_quiet n)

backs_quiet : (k n : ℕ) → 0 < k → BacksIn k (quiet n)
backs_quiet k zero h = tt
backs_quiet k (suc n) h = (h, backs_quiet k n h)

module _ (p : Plan) (ready : Ready p) (regs ins e : Env) (s : Settles (self_test p) regs ins e) (z : ins reset ≡ 1) where
  is_reset : e reset ≡ 1
  is_reset = T.reset_in p regs ins e s ∙ z

  lefts : (n : List ℕ) → (old : ℕ) × (next (self_test p) e n ≡ last_set n (sets (names_widths (self_test p)) e (statements (L.stage_sets (several p) p.back_width 0 p.delay ++ end_sets p))) old)
  lefts n = T.next_left p e n

  last_zero : (next (self_test p) e (reads_at (suc p.delay)) ≡ 0) × (next (self_test p) e (over_at (suc p.delay)) ≡ 0)
  last_zero =
      let q = last_resets (names_widths (self_test p)) e p.back_width (end_sets p) (T.ends_clear p e) is_reset (several p) 0 p.delay p.delay (omega arith) in
      let a = lefts (reads_at (suc p.delay)) in
      let b = lefts (over_at (suc p.delay)) in
      (a.1 ∙ q.0 a.0, b.1 ∙ q.1 b.0)

  back_zero : next (self_test p) e back ≡ 0
  back_zero = T.next_back p e ∙ on_one (e reset) _ _ is_reset

  pub starts : Shows p (start p) (next (self_test p) e)
  starts = record {
    oper_is = T.next_oper p e ∙ on_one (e reset) _ _ is_reset;
    visit_is = T.next_visit p e ∙ on_one (e reset) _ _ is_reset;
    element_is = T.next_element p e ∙ on_one (e reset) _ _ is_reset;
    back_is = back_zero;
    run_is = T.next_run p e ∙ on_one (e reset) _ _ is_reset;
    last_oper_is = T.next_last_oper p e ∙ on_one (e reset) _ _ is_reset ∙ ap bit (first_last (length (element_at p 0).operations) (ready.has_operation 0));
    last_visit_is = T.next_last_visit p e ∙ on_one (e reset) _ _ is_reset ∙ ap bit (first_last (limit p (element_at p 0)) (limit_some (element_at p 0).pause));
    one_is = λ h. T.next_one p e h ∙ on_one (e reset) _ _ is_reset ∙ ap bit (begins p ready 0);
    stages_are = ages_shown (several p) (length p.backgrounds) 0 (quiet p.delay) _ (next (self_test p) e)
        (ages_reset (names_widths (self_test p)) e p.back_width (end_sets p) (T.ends_clear p e) is_reset (several p) 0 p.delay)
        (backs_quiet (length p.backgrounds) p.delay ready.has_background) (λ h. ltb-false 1 (length p.backgrounds) h) (λ h. back_zero) lefts;
    reads_is = last_zero.0;
    over_is = last_zero.1;
    want_is = λ h. cc;
    bad_is = T.next_bad p e ∙ on_one (e reset) _ _ is_reset;
    stages_count = length_quiet p.delay;
    backs_in = backs_quiet (length p.backgrounds) p.delay ready.has_background;
    oper_in = ready.has_operation 0;
    visit_in = limit_some (here p (start p)).pause;
    element_in = ready.has_element;
    back_in = ready.has_background;
  }
    where
      limit_some : (t : Bool) → 0 < cond t p.pause p.words
      limit_some true = ready.has_pause
      limit_some false = ready.has_word

  -- the gated ports are quiet
  pub quiet_ports : (e en ≡ 0) × (e done ≡ 0) × (e fail ≡ 0)
  quiet_ports = (T.en_is p regs ins e s ∙ on_one (e reset) _ _ is_reset, T.done_is p regs ins e s ∙ on_one (e reset) _ _ is_reset, T.fail_is p regs ins e s ∙ on_one (e reset) _ _ is_reset)
