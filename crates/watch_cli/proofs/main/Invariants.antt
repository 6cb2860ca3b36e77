-- The buffers keep their lengths, the session's numbers their limits, and the program is not over.
use Rattle.std.proofs.Common.{◌≡◌, ◌<◌, ◌*◌, length}
use Rattle.records.specs.Record.{record_length}
use Rattle.reply_text.specs.Form.{program_width, program_window}
use Rattle.replies.specs.Following.{stage_number, over_stage}
use Rattle.program.specs.Stages.{Within}
use Rattle.watch_cli.proofs.main.Given as goal

abbrev pub invariant-loop : goal.invariant-loop
invariant-loop l = record {
  not_over : stage_number l.session.stage < over_stage;
  within : Within 4112 l.session;
  line : length l.line ≡ 4112;
  rule : length l.rule ≡ 4112;
  bytes : length l.record ≡ record_length program_width;
  window : length l.window ≡ program_window;
  scratch : length l.scratch ≡ program_window;
  out : length l.out ≡ 34 * 256;
}
