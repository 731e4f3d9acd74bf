use Rattle.bist_app.proofs.Common.{Boxes, Done, Files, Option, Result, Some, Refusal, Words, refl, subst, ◌≡◌, DecidesCommand, Decides, IsFormed, Command}
use Rattle.bist_app.proofs.OneCommand.{no_make}
use Rattle.bist_app.proofs.commands.decide.Goals as goal

decided : {files : Option Files} {boxes left : Boxes} (words : Words) {outcome : Result Done Refusal} (named : Command) {c : Command} → c ≡ named → IsFormed words c
    → DecidesCommand files boxes left words named outcome → Decides files boxes left words outcome
decided words named is formed decides = (Some named, (subst (IsFormed words) is formed, decides))

pub returns-in-Some-Sim : goal.returns-in-Some-Sim
returns-in-Some-Sim g c = record {
  kept = c.decide_sim.ensures.kept;
  outputs = c.decide_sim.ensures.outputs;
  answer = decided _ Command.Sim c.in-Some-Sim.field-0-is c.in-Some-Sim.ensures (c.decide_sim.ensures.answer, refl);
  cause = c.decide_sim.ensures.cause;
  make = no_make _ Command.Sim tt c.in-Some-Sim.field-0-is c.in-Some-Sim.ensures;
}

pub returns-in-Some-Judge : goal.returns-in-Some-Judge
returns-in-Some-Judge g c = record {
  kept = c.decide_judge.ensures.kept;
  outputs = c.decide_judge.ensures.outputs;
  answer = decided _ Command.Judge c.in-Some-Judge.field-0-is c.in-Some-Judge.ensures (c.decide_judge.ensures.answer, refl);
  cause = c.decide_judge.ensures.cause;
  make = no_make _ Command.Judge tt c.in-Some-Judge.field-0-is c.in-Some-Judge.ensures;
}

pub returns-in-Some-Decoder : goal.returns-in-Some-Decoder
returns-in-Some-Decoder g c = record {
  kept = c.decide_decoder.ensures.kept;
  outputs = c.decide_decoder.ensures.outputs;
  answer = decided _ Command.Decoder c.in-Some-Decoder.field-0-is c.in-Some-Decoder.ensures (c.decide_decoder.ensures.answer, refl);
  cause = c.decide_decoder.ensures.cause;
  make = no_make _ Command.Decoder tt c.in-Some-Decoder.field-0-is c.in-Some-Decoder.ensures;
}

pub returns-in-Some-Linked : goal.returns-in-Some-Linked
returns-in-Some-Linked g c = record {
  kept = c.decide_linked.ensures.kept;
  outputs = c.decide_linked.ensures.outputs;
  answer = decided _ Command.Linked c.in-Some-Linked.field-0-is c.in-Some-Linked.ensures (c.decide_linked.ensures.answer, refl);
  cause = c.decide_linked.ensures.cause;
  make = no_make _ Command.Linked tt c.in-Some-Linked.field-0-is c.in-Some-Linked.ensures;
}

pub returns-in-Some-Vectors : goal.returns-in-Some-Vectors
returns-in-Some-Vectors g c = record {
  kept = c.decide_vectors.ensures.kept;
  outputs = c.decide_vectors.ensures.outputs;
  answer = decided _ Command.Vectors c.in-Some-Vectors.field-0-is c.in-Some-Vectors.ensures (c.decide_vectors.ensures.answer, refl);
  cause = c.decide_vectors.ensures.cause;
  make = no_make _ Command.Vectors tt c.in-Some-Vectors.field-0-is c.in-Some-Vectors.ensures;
}

pub returns-in-Some-Compile : goal.returns-in-Some-Compile
returns-in-Some-Compile g c = record {
  kept = c.decide_compile.ensures.kept;
  outputs = c.decide_compile.ensures.outputs;
  answer = decided _ Command.Compile c.in-Some-Compile.field-0-is c.in-Some-Compile.ensures (c.decide_compile.ensures.answer, refl);
  cause = c.decide_compile.ensures.cause;
  make = no_make _ Command.Compile tt c.in-Some-Compile.field-0-is c.in-Some-Compile.ensures;
}

pub returns-in-Some-InWord : goal.returns-in-Some-InWord
returns-in-Some-InWord g c = record {
  kept = c.decide_in_word.ensures.kept;
  outputs = c.decide_in_word.ensures.outputs;
  answer = decided _ Command.InWord c.in-Some-InWord.field-0-is c.in-Some-InWord.ensures (c.decide_in_word.ensures.answer, refl);
  cause = c.decide_in_word.ensures.cause;
  make = no_make _ Command.InWord tt c.in-Some-InWord.field-0-is c.in-Some-InWord.ensures;
}

pub returns-in-Some-Bench : goal.returns-in-Some-Bench
returns-in-Some-Bench g c = record {
  kept = c.decide_bench.ensures.kept;
  outputs = c.decide_bench.ensures.outputs;
  answer = decided _ Command.Bench c.in-Some-Bench.field-0-is c.in-Some-Bench.ensures c.decide_bench.ensures.answer;
  cause = c.decide_bench.ensures.cause;
  make = no_make _ Command.Bench tt c.in-Some-Bench.field-0-is c.in-Some-Bench.ensures;
}

pub returns-in-Some-BenchFile : goal.returns-in-Some-BenchFile
returns-in-Some-BenchFile g c = record {
  kept = c.decide_benchfile.ensures.kept;
  outputs = c.decide_benchfile.ensures.outputs;
  answer = decided _ Command.BenchFile c.in-Some-BenchFile.field-0-is c.in-Some-BenchFile.ensures c.decide_benchfile.ensures.answer;
  cause = c.decide_benchfile.ensures.cause;
  make = no_make _ Command.BenchFile tt c.in-Some-BenchFile.field-0-is c.in-Some-BenchFile.ensures;
}

pub returns-in-Some-BenchFault : goal.returns-in-Some-BenchFault
returns-in-Some-BenchFault g c = record {
  kept = c.decide_fault.ensures.kept;
  outputs = c.decide_fault.ensures.outputs;
  answer = decided _ Command.BenchFault c.in-Some-BenchFault.field-0-is c.in-Some-BenchFault.ensures c.decide_fault.ensures.answer;
  cause = c.decide_fault.ensures.cause;
  make = no_make _ Command.BenchFault tt c.in-Some-BenchFault.field-0-is c.in-Some-BenchFault.ensures;
}

pub returns-in-Some-BenchAll : goal.returns-in-Some-BenchAll
returns-in-Some-BenchAll g c = record {
  kept = c.decide_bench_all.ensures.kept;
  outputs = c.decide_bench_all.ensures.outputs;
  answer = decided _ Command.BenchAll c.in-Some-BenchAll.field-0-is c.in-Some-BenchAll.ensures c.decide_bench_all.ensures.answer;
  cause = c.decide_bench_all.ensures.cause;
  make = no_make _ Command.BenchAll tt c.in-Some-BenchAll.field-0-is c.in-Some-BenchAll.ensures;
}

pub returns-in-Some-Check : goal.returns-in-Some-Check
returns-in-Some-Check g c = record {
  kept = c.decide_check.ensures.kept;
  outputs = c.decide_check.ensures.outputs;
  answer = decided _ Command.Check c.in-Some-Check.field-0-is c.in-Some-Check.ensures (c.decide_check.ensures.answer, refl);
  cause = c.decide_check.ensures.cause;
  make = no_make _ Command.Check tt c.in-Some-Check.field-0-is c.in-Some-Check.ensures;
}

pub returns-in-Some-Chip : goal.returns-in-Some-Chip
returns-in-Some-Chip g c = record {
  kept = c.decide_chip.ensures.kept;
  outputs = c.decide_chip.ensures.outputs;
  answer = decided _ Command.Chip c.in-Some-Chip.field-0-is c.in-Some-Chip.ensures (c.decide_chip.ensures.answer, refl);
  cause = c.decide_chip.ensures.cause;
  make = no_make _ Command.Chip tt c.in-Some-Chip.field-0-is c.in-Some-Chip.ensures;
}

pub returns-in-Some-Show : goal.returns-in-Some-Show
returns-in-Some-Show g c = record {
  kept = c.decide_show.ensures.kept;
  outputs = c.decide_show.ensures.outputs;
  answer = decided _ Command.Show c.in-Some-Show.field-0-is c.in-Some-Show.ensures (c.decide_show.ensures.answer, refl);
  cause = c.decide_show.ensures.cause;
  make = no_make _ Command.Show tt c.in-Some-Show.field-0-is c.in-Some-Show.ensures;
}
