use Rattle.bist_app.specs.Compile.{LeavesCompile}
use Rattle.bist_app.proofs.compile.plan_compile.Goals as goal

pub returns-clause-answer : goal.returns-clause-answer
unfolding LeavesCompile
returns-clause-answer c = record {
  text = c.in_ok-text.text.items;
  bytes = c.in_ok-reported.reported.bytes.items;
  tests = c.in_ok-text.ensures;
  reports = c.in_ok-reported.ensures.reports;
  outputs = c.in_ok-outputs.ensures;
}
