use Rattle.std.proofs.Common.{◌≡◌}
use Rattle.verilog_text.proofs.FullTexts.{full_texts}
use Rattle.verilog_text.proofs.laws.full_texts.Goals as goal

pub returns : goal.returns
returns c = λ limit d ts us e. full_texts limit d (λ y vs. (y ≡ e) × (vs ≡ us)) ts
