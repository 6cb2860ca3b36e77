-- The one theorem, put together from those that prove its parts.
use Rattle.pactl.specs.SemanticsTheorem as semantics
use Rattle.pactl.specs.PathsTheorem as paths
use Rattle.pactl.specs.ClauseLaws as clauses
use Rattle.rules.specs.grammar.GrammarTheorem as grammar
use Rattle.rules.specs.reading.ReaderAccepts as reader
use Rattle.rules.specs.reading.PlaceLaws as place
use Rattle.call_open.specs.OpenTheorem as opening
use Rattle.call_open.specs.OpenReplyLaws as opening_replies
use Rattle.call_offer.specs.OfferReplyLaws as offer_replies
use Rattle.call_take.specs.TakeReplyLaws as take_replies
use Rattle.call_find.specs.FindReplyLaws as find_replies
use Rattle.call_close.specs.CloseReplyLaws as close_replies
use Rattle.call_move.specs.MoveTheorem as moving
use Rattle.call_page.specs.PageTheorem as paging
use Rattle.call_busiest.specs.BusiestTheorem as day
use Rattle.sharing_laws.specs.Best as sharing
use Rattle.call_take.specs.TakeCapsLaws.{caps_make_no_difference}
use Rattle.call_shares.specs.SharesTheorem as shares
use Rattle.call_shared.specs.SharedOpenTheorem.{shared_open_exact}
use Rattle.call_shared.specs.SharedTakeTheorem.{shared_take_exact}
use Rattle.call_shared.specs.SharedCloseTheorem.{shared_close_exact}
use Rattle.call_shared.specs.SharedFitLaws.{allowed_exactly}
use Rattle.pool_runs.specs.WithinTheorem.{never_over}
use Rattle.pool_runs.specs.MembersTheorem.{every_member_exact, members_order_independent, member_and-plain-alike}
use Rattle.pool_runs.specs.OthersTheorem.{others_make_no_difference}
use Rattle.pool_runs.specs.EmptiesTheorem.{every_member_empties}
use Rattle.theorem.specs.Theorem.{Theorem}
use Rattle.demands.specs.lists.Mislent.{mislent_exact}
use Rattle.demands.specs.lists.WindowExact.{window_exact}
use Rattle.demands.specs.lists.Offer.{offer_exact}
use Rattle.demands.specs.lists.TakeAnswers.{take_exact}
use Rattle.demands.specs.lists.VerdictsTrue.{verdicts_true}
use Rattle.demands.specs.lists.OrderIndependent.{order_independent}
use Rattle.demands.specs.lists.Balance.{answers_balanced}
use Rattle.demands.specs.lists.Again.{again_exact}
use Rattle.demands.specs.lists.WithoutAgains.{agains_make_no_difference}
use Rattle.demands.specs.lists.Messages.{messages_exact}
use Rattle.demands.specs.lists.Earlier.{earlier_lists_stand}
use Rattle.demands.specs.lists.Find.{find_first}
use Rattle.demands.specs.lists.Close.{close_exact}
use Rattle.demands.specs.lists.Dropped.{dropped_for_good}
use Rattle.demands.specs.lists.Page.{page_shows_kept}
use Rattle.demands.specs.lists.DayListed.{day_is_listed}
use Rattle.demands.specs.lists.Busiest.{busiest_kept}
use Rattle.demands.specs.lists.BusiestTaken.{day-fits_its_window, day_is_taken}
use Rattle.demands.specs.lists.BusiestRoom.{day_meets_no_36}
use Rattle.demands.specs.lists.Examples.{starred}
use Rattle.demands.specs.forms.EveryWatch.{every-watch_exact, caps_alike, pending_comes_to_an_end, exact_after_a_move, order_independent_with_moves}
use Rattle.demands.specs.forms.BothForms.{both_forms_alike, moved_goes_on}
use Rattle.demands.specs.forms.PagesAlike.{pages_alike}

pub theorem : Theorem
theorem = record {
  open_exact = opening.open_exact;
  text_first_fault = grammar.reader_first_fault;
  text_forms = reader.reader_accepts;
  text_faultless = grammar.reader_faultless;
  text_place = place.fault_place;
  mislent = mislent_exact;
  open_tells = opening_replies.replies_tell;
  offer_tells = offer_replies.replies_tell;
  take_tells = take_replies.replies_tell;
  find_tells = find_replies.replies_tell;
  close_tells = close_replies.replies_tell;
  window_exact = window_exact;
  offer_exact = offer_exact;
  take_exact = take_exact;
  verdicts_true = verdicts_true;
  clauses_as_printed = semantics.clauses_as_printed;
  over_paths = paths.operators_over_paths;
  order_independent = order_independent;
  balance = answers_balanced;
  again_exact = again_exact;
  agains_idle = agains_make_no_difference;
  messages = messages_exact;
  earlier_lists = earlier_lists_stand;
  clauses_right = clauses.clauses_right;
  find_first = find_first;
  close_exact = close_exact;
  dropped_for_good = dropped_for_good;
  move_exact = moving.move_exact;
  widening = moving.widen_never_43;
  there_and_back = moving.there_and_back;
  every_watch = every-watch_exact;
  after_a_move = exact_after_a_move;
  order_with_moves = order_independent_with_moves;
  both_forms = both_forms_alike;
  goes_on = moved_goes_on;
  page_exact = paging.page_exact;
  page_refused = paging.refused_writes_nothing;
  page_tells = paging.page_tells;
  page_shows = page_shows_kept;
  pages_alike = pages_alike;
  busiest_exact = day.busiest_exact;
  kept_is_products = sharing.kept_is_products;
  even_is_best = sharing.even_is_best;
  day_listed = day_is_listed;
  busiest_kept = busiest_kept;
  day_fits = day-fits_its_window;
  day_taken = day_is_taken;
  day_no_36 = day_meets_no_36;
  shares_exact = shares.shares_exact;
  shared_open = shared_open_exact;
  shared_take = shared_take_exact;
  shared_close = shared_close_exact;
  allowed_exactly = allowed_exactly;
  caps_idle = caps_make_no_difference;
  caps_alike = caps_alike;
  never_over = never_over;
  members_exact = every_member_exact;
  members_order = members_order_independent;
  member_and_plain = member_and-plain-alike;
  others_idle = others_make_no_difference;
  empties = pending_comes_to_an_end;
  members_empty = every_member_empties;
  examples = starred;
}
