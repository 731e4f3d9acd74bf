use Rattle.std.proofs.Common.{subst}
use Rattle.decoder_faults.specs.declared.fault.DecoderFault.{DecoderFault}
use Rattle.decoder_faults.specs.Detection.{DetectsAmong}
use Rattle.decoder_faults.proofs.Classic.{detects_all}
use Rattle.decoder_faults.proofs.Lines.{lines_detected}
use Rattle.decoder_faults.proofs.Least.{judged_below, judged_above}
use Rattle.decoder_faults.proofs.escape.least_decoder_escape.Goals as goal

pub returns-in-Some : goal.returns-in-Some
returns-in-Some c =
    let judged = judged_below c.args.march.now c.args.fault c.in-Some.escape c.known.ensures c.in-Some.ensures in
    record {
      verdict = judged.0;
      each_size = judged.1;
      among_others = judged.3;
      stuck_lines = λ other none. lines_detected c.args.march.now (subst (λ (f : DecoderFault). DetectsAmong c.args.march.now f) other (judged.3 none));
      by_elements = judged.2;
      classic = λ bit turns. detects_all bit c.args.march.now turns c.args.fault _ judged.2;
    }

pub returns-in-None : goal.returns-in-None
returns-in-None c =
    let judged = judged_above c.args.march.now c.args.fault c.least_in-in-None.result c.known.ensures c.in-None.ensures c.least_in-in-None.ensures in
    record {
      verdict = judged.0;
      each_size = judged.1;
      among_others = judged.3;
      stuck_lines = λ other none. lines_detected c.args.march.now (subst (λ (f : DecoderFault). DetectsAmong c.args.march.now f) other (judged.3 none));
      by_elements = judged.2;
      classic = λ bit turns. detects_all bit c.args.march.now turns c.args.fault c.least_in-in-None.result judged.2;
    }
