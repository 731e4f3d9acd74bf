use Rattle.std.proofs.Common.{◌∙◌, ap, subst, Ok, List, ℕ}
use Rattle.march_syntax.specs.Answers.{Reads as ReadsMarch}
use Rattle.memory_desc.specs.Table.{Reads as ReadsMemory}
use Rattle.made_inputs.specs.MadeMarch.{line_of}
use Rattle.bist_app.specs.Make.{made_outputs}
use Rattle.bist_app.proofs.make.made_of.Goals as goal

pub returns : goal.returns
returns c = record {
  march_reads = subst (λ text. ReadsMarch text (Ok c.args.march.now)) c.in_ok-march_bytes.ensures.form c.in_ok-march_bytes.ensures.read_back;
  memory_reads = subst (λ text. ReadsMemory text (Ok c.args.memory.now)) c.in_ok-memory_bytes.ensures.form c.in_ok-memory_bytes.ensures.read_back;
  memory = c.known.ensures;
  list_reads = c.requires;
  text = c.in_ok-verilog.verilog.items;
  tests = c.in_ok-verilog.ensures;
  bytes = c.in_ok-reported.reported.bytes.items;
  last = c.in_ok-reported.reported.line.items;
  reports = c.in_ok-reported.ensures.reports;
  covered = c.in_ok-reported.reported.covered;
  detects = c.in_ok-reported.ensures.covered;
  outputs =
      c.in_ok-outputs.ensures
      ∙ ap (λ (text : List ℕ). made_outputs text c.in_ok-memory_bytes.memory_bytes.items c.args.listed.items c.in_ok-verilog.verilog.items c.in_ok-reported.reported.bytes.items) c.in_ok-march_bytes.ensures.form
      ∙ ap (λ (text : List ℕ). made_outputs (line_of c.args.march.now) text c.args.listed.items c.in_ok-verilog.verilog.items c.in_ok-reported.reported.bytes.items) c.in_ok-memory_bytes.ensures.form;
  line = c.in_ok-line.ensures;
}
