-- What the take answers is possible with the record that it leaves (`take_told`), so its text is known, and whether
-- another follows.
use Prim.Native.Nat.{ℕ}
use mathlib.Core.Path.{sym, subst}
use mathlib.Core.Bool.{false}
use mathlib.Core.List.{List}
use Rattle.std.proofs.Common.{rules}
use Rattle.codec.specs.Little.{Bytes}
use Rattle.records.specs.Record.{taken_counts}
use Rattle.reply_text.specs.Form.{program_width}
use Rattle.replies.specs.Replies.{Possible}
use Rattle.call_take.specs.Take.{take_call}
use Rattle.program.specs.CallAnswers.{take_told}
use Rattle.program.proofs.turn.take_next.Goals as goal

pub returns : goal.returns
returns c =
    let a = c.args in
    let o = take_call program_width a.«record».now a.window.now a.scratch.now in
    let bytes : Bytes a.«record».now = search rules in
    let told = take_told program_width a.«record».now a.window.now a.scratch.now bytes in
    let left = c.watch32_take.ensures in
    let parts = c.decode-reply.ensures o.answer told.0 left.reply in
    let possible : Possible false (taken_counts program_width c.watch32_take.new.«record») o.answer =
    subst (λ (l : List ℕ). Possible false (taken_counts program_width l) o.answer) (sym left.bytes) told.1 in
    let laid = c.lay-end.ensures in
    record {
      end = laid.upper_bound;
      text = laid.out_after o.answer possible parts;
      follows = c.take_follows.ensures _ o.answer told.1 parts;
      bytes = left.bytes;
      window = left.window;
      scratch = left.scratch;
    }
