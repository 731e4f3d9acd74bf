use Rattle.bist_app.proofs.Conforming.{generated_conform}
use Rattle.bist_app.proofs.laws.generated_modules_conform.Goals as goal

pub returns : goal.returns
returns c = generated_conform
