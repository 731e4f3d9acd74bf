use Rattle.rtl_layout.proofs.Whole.{legal}
use Rattle.rtl_layout.proofs.Text.{all_fits}
use Rattle.rtl_layout.proofs.Few.{operators_few}
use Rattle.rtl_layout.proofs.Forms.{is_formed, settles_once}
use Rattle.rtl_layout.proofs.laws.module_breaks_no_rule.Goals as goal

pub returns : goal.returns
returns c = record {
  legal = λ p ready. legal p ready ready.sized;
  sizes = λ p ready. is_formed p ready ready.sized;
  text = λ p ready. all_fits p ready ready.sized;
  few = operators_few;
  settles = λ p ready. settles_once p ready ready.sized;
}
