-- All that is proved of sound watches is true of every watch that calls and moves alone wrote.
use Rattle.std.specs.Prelude.{ℕ}
use Rattle.clocks.specs.Event.{Cut}
use Rattle.rules.specs.Formula.{Formula}
use Rattle.call_open.specs.Open.{open_call}
use Rattle.demands.specs.Run.{Watch, run, opened}
use Rattle.demands.specs.EveryList.{at_end}
use Rattle.demands.specs.Written.{moved_to, opens, moves}
use Rattle.demands.specs.lists.WindowExact.{window_exact_of}
use Rattle.demands.specs.lists.Offer.{offer_exact_of}
use Rattle.demands.specs.lists.TakeAnswers.{take_exact_of}
use Rattle.demands.specs.lists.Caps.{caps_alike_of}
use Rattle.demands.specs.lists.Find.{find_exact_of}
use Rattle.demands.specs.lists.Page.{page_shows_of}
use Rattle.demands.specs.lists.Busiest.{busiest_kept_of}
use Rattle.demands.specs.lists.Close.{close_exact_of}
use Rattle.demands.specs.lists.Dropped.{stays_dropped_of}
use Rattle.demands.specs.lists.Again.{again_exact_of}
use Rattle.demands.specs.lists.Messages.{messages_exact_of}
use Rattle.demands.specs.lists.Balance.{balanced_of}
use Rattle.demands.specs.lists.Empties.{empties_of}
use Rattle.demands.specs.lists.SoundRun.{Sound}
use Rattle.demands.specs.lists.OrderIndependent.{alike_as_read}
use Rattle.demands.specs.forms.Moves.{written_sound, every_watch, run-written, move_answers}
use Rattle.demands.specs.statements.Caps.{CapsAreAlike}
use Rattle.demands.specs.statements.Empties.{PendingComesToAnEnd}
use Rattle.demands.specs.statements.Moves.{next_move}
use Rattle.demands.specs.statements.EveryWatch.{WatchExact, EveryWatchIsExact, ExactAfterAMove, OrderIndependentWithMoves}

exact_of : (w k : ℕ) (f : Formula) (start : Cut) (Z : Watch) → Sound w k f start Z → WatchExact w k f start Z
exact_of w k f start Z S = record {
  window = window_exact_of w k f start Z S;
  offers = offer_exact_of w k f start Z S;
  takes = take_exact_of w k f start Z S;
  caps = caps_alike_of w k f start Z S;
  finds = find_exact_of w k f start Z S;
  pages = page_shows_of w k f start Z S;
  busiest = busiest_kept_of w k f start Z S;
  closes = close_exact_of w k f start Z S;
  dropped = stays_dropped_of w k f start Z S;
  agains = again_exact_of w k f start Z S;
  messages = messages_exact_of w k f start Z S;
  empties = empties_of w k f start Z S;
  moves = λ to t target. move_answers w to k f start Z S t target;
  verdicts = S.reporting.truthful;
  balance = balanced_of w k f start Z S;
}

pub every-watch_exact : EveryWatchIsExact
every-watch_exact = every_watch _ exact_of

pub caps_alike : CapsAreAlike
caps_alike = every_watch _ caps_alike_of

pub pending_comes_to_an_end : PendingComesToAnEnd
pending_comes_to_an_end = every_watch _ empties_of

pub exact_after_a_move : ExactAfterAMove
exact_after_a_move v w pos pos' text k labels eight s window a cs p t target q ds r =
    let W = at_end v text k labels s window cs in
    every-watch_exact text k labels eight w (run w ds (moved_to (next_move v w W t target) W))
    (run-written text k labels w ds r (moved_to (next_move v w W t target) W)
    (moves v w pos' W
    (run-written text k labels v cs p (opened (open_call v text k labels s window)) (opens v pos s window a)) t target
    q))

pub order_independent_with_moves : OrderIndependentWithMoves
order_independent_with_moves text k labels eight w Y Z y z =
    alike_as_read w text k labels Y Z (written_sound text k labels eight w Y y)
    (written_sound text k labels eight w Z z)
