-- Every history after a reset answers for the controller's run.
use Rattle.std.proofs.Common.{List, [], ◌∷◌}
use Rattle.verilog_tree.specs.Meaning.{Env, History, next}
use Rattle.rtl_layout.specs.Plan.{Plan}
use Rattle.rtl_layout.specs.Layout.{rdata, self_test}
use Rattle.rtl_layout.specs.Control.{Control, start, step}
use Rattle.rtl_layout.specs.Shows.{Ready, Sized, AllAnswer, AnswersAlways, NoReset}
use Rattle.rtl_layout.specs.inner.Shows.{Shows}
use Rattle.rtl_layout.proofs.Step.{turn}
use Rattle.rtl_layout.proofs.Outputs.{answers}
use Rattle.rtl_layout.proofs.Resets.{starts, quiet_ports}

module _ (p : Plan) (ready : Ready p) (sized : Sized p) where
  later_answer : (c : Control) (regs : Env) (is es : List Env) → Shows p c regs → NoReset is → History (self_test p) regs is es → AllAnswer p c is es
  later_answer c regs [] [] sh z h = tt
  later_answer c regs [] (e ∷ es) sh z h = absurd h
  later_answer c regs (i ∷ is) [] sh z h = absurd h
  later_answer c regs (i ∷ is) (e ∷ es) sh z h = (
    answers p ready sized regs i e h.0 c sh z.0,
    later_answer (step p (i rdata) c) (next (self_test p) e) is es (turn p ready sized regs i e h.0 c sh z.0) z.1 h.1,
  )

  pub always : AnswersAlways p
  always regs i e is es r z h = (quiet_ports p ready regs i e h.0 r, later_answer (start p) (next (self_test p) e) is es (starts p ready regs i e h.0 r) z h.1)
