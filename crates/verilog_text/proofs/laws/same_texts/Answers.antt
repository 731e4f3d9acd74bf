use Rattle.std.proofs.Common.{◌≡◌}
use Rattle.verilog_text.proofs.SameTexts.{same_texts}
use Rattle.verilog_text.proofs.laws.same_texts.Goals as goal

pub returns : goal.returns
returns c = λ limit d ts us e. same_texts limit d (λ y vs. (y ≡ e) × (vs ≡ us)) ts
