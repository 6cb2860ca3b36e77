-- Judged, written, answered: the parts' own promises.
use lib.ListN.{length}
use Rattle.call_open.proofs.OpenSteps.{opened_reply, opened_bytes, opened_window}
use Rattle.call_open.proofs.open_table.Goals as goal

-- The reply by rewriting and not by `cc`: of a wrong word `cc` only says that it met a bound of its own.
pub returns-clause-reply : goal.returns-clause-reply
returns-clause-reply c =
    let a = c.args in
    let n = length a.window.now in
    rw (
      c.state_word.ensures,
      c.has_bit.ensures,
      c.judge-values.ensures,
    ) (opened_reply a.w a.k a.labels a.table.now a.lines n)

pub returns-clause-bytes : goal.returns-clause-bytes
returns-clause-bytes c =
    let a = c.args in
    let n = length a.window.now in
    cc (opened_bytes a.w a.k a.labels a.table.now a.lines n)

pub returns-clause-window : goal.returns-clause-window
returns-clause-window c =
    let a = c.args in
    let n = length a.window.now in
    cc (opened_window a.w a.k a.labels a.table.now a.lines n)
