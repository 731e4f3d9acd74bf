-- What is known of each row of the table of commands.
pub mod SimFacts
pub mod JudgeFacts
pub mod DecoderFacts
pub mod LinkedFacts
pub mod VectorsFacts
pub mod CompileFacts
pub mod InWordFacts
pub mod MakeFacts
pub mod BenchFacts
pub mod BenchFileFacts
pub mod BenchFaultFacts
pub mod BenchAllFacts
pub mod CheckFacts
pub mod ChipFacts
pub mod ShowFacts
use Rattle.bist_app.proofs.Table.BenchAllFacts.{bench_all_facts}
use Rattle.bist_app.proofs.Table.BenchFacts.{bench_facts}
use Rattle.bist_app.proofs.Table.BenchFaultFacts.{bench_fault_facts}
use Rattle.bist_app.proofs.Table.BenchFileFacts.{bench_file_facts}
use Rattle.bist_app.proofs.Table.CheckFacts.{check_facts}
use Rattle.bist_app.proofs.Table.ChipFacts.{chip_facts}
use Rattle.bist_app.proofs.Table.CompileFacts.{compile_facts}
use Rattle.bist_app.proofs.Table.DecoderFacts.{decoder_facts}
use Rattle.bist_app.proofs.Facts.{Facts}
use Rattle.bist_app.proofs.Table.InWordFacts.{in_word_facts}
use Rattle.bist_app.proofs.Table.JudgeFacts.{judge_facts}
use Rattle.bist_app.proofs.Table.LinkedFacts.{linked_facts}
use Rattle.bist_app.proofs.Table.MakeFacts.{make_facts}
use Rattle.bist_app.proofs.Table.ShowFacts.{show_facts}
use Rattle.bist_app.proofs.Table.SimFacts.{sim_facts}
use Rattle.bist_app.proofs.Table.VectorsFacts.{vectors_facts}
use Rattle.bist_app.proofs.Common.{row_of, Command}

pub facts_of : (command : Command) → Facts (row_of command)
facts_of Command.Sim = sim_facts
facts_of Command.Judge = judge_facts
facts_of Command.Decoder = decoder_facts
facts_of Command.Linked = linked_facts
facts_of Command.Vectors = vectors_facts
facts_of Command.Compile = compile_facts
facts_of Command.InWord = in_word_facts
facts_of Command.Make = make_facts
facts_of Command.Bench = bench_facts
facts_of Command.BenchFile = bench_file_facts
facts_of Command.BenchFault = bench_fault_facts
facts_of Command.BenchAll = bench_all_facts
facts_of Command.Check = check_facts
facts_of Command.Chip = chip_facts
facts_of Command.Show = show_facts
