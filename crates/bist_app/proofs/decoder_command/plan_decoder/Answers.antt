use Rattle.bist_app.specs.Decoder.{LeavesDecoder}
use Rattle.bist_app.proofs.Decoding.{decoder_done}
use Rattle.bist_app.proofs.decoder_command.plan_decoder.Goals as goal

pub returns-clause-outputs : goal.returns-clause-outputs
returns-clause-outputs c =
    decoder_done c.args.march.now c.in_ok-report.report.covered _ c.in_ok-report.report.bytes.items c.in_ok-line.line.items c.in_ok-report.ensures.report
    c.in_ok-report.ensures.covered c.in_ok-line.ensures c.in_ok-outputs.ensures

pub returns-clause-answer : goal.returns-clause-answer
unfolding LeavesDecoder
returns-clause-answer c =
    decoder_done c.args.march.now c.in_ok-report.report.covered _ c.in_ok-report.report.bytes.items c.in_ok-line.line.items c.in_ok-report.ensures.report
    c.in_ok-report.ensures.covered c.in_ok-line.ensures c.in_ok-outputs.ensures
