-- One theorem to start from: the demands in their order, then the requests of 02, then the examples. Each field is a
-- statement in a file of its own. Demand 1 begins in code: each function that C calls promises, for all bytes, that its
-- reply and every lent byte are what a definition gives (watch src/lib, watch32 src/lib). Proved in TheoremProved.
use Rattle.pactl.specs.Semantics.{ClausesAsPrinted}
use Rattle.pactl.specs.Paths.{OperatorsOverPaths}
use Rattle.pactl.specs.Clauses.{ClausesRight}
use Rattle.rules.specs.Fault.{ReaderFindsFirstFault, ReaderAcceptsForms, ReaderAcceptsFaultless, FaultPlaceBelow1024}
use Rattle.call_open.specs.OpenExact.{OpenIsExact}
use Rattle.call_open.specs.OpenReplies.{OpenTells}
use Rattle.call_offer.specs.OfferReplies.{OfferTells}
use Rattle.call_take.specs.TakeReplies.{TakeTells}
use Rattle.call_find.specs.FindReplies.{FindTells}
use Rattle.call_close.specs.CloseReplies.{CloseTells}
use Rattle.call_move.specs.MoveExact.{MoveExact, WidenNever43, ThereAndBack}
use Rattle.call_page.specs.PageExact.{PageIsExact, RefusedWritesNothing, PageTells}
use Rattle.call_busiest.specs.BusiestExact.{BusiestIsExact}
use Rattle.call_take.specs.TakeCaps.{CapsMakeNoDifference}
use Rattle.call_shares.specs.SharesExact.{SharesAreExact}
use Rattle.call_shared.specs.SharedExact.{SharedOpenIsExact, SharedTakeIsExact, SharedCloseIsExact}
use Rattle.call_shared.specs.SharedFit.{AllowedIsExact}
use Rattle.sharing_laws.specs.SharingExact.{KeptIsProducts, EvenIsBest}
use Rattle.demands.specs.statements.Mislent.{MislentIsExact}
use Rattle.demands.specs.statements.WindowExact.{WindowIsExact}
use Rattle.demands.specs.statements.Verdicts.{VerdictsAreTrue}
use Rattle.demands.specs.statements.Offer.{OfferIsExact}
use Rattle.demands.specs.statements.TakeAnswers.{TakeIsExact}
use Rattle.demands.specs.statements.OrderIndependent.{OrderIndependent}
use Rattle.demands.specs.statements.Balance.{AnswersBalance}
use Rattle.demands.specs.statements.Again.{AgainIsExact, AgainsMakeNoDifference}
use Rattle.demands.specs.statements.Messages.{MessagesAreExact}
use Rattle.demands.specs.statements.Earlier.{EarlierListsStand}
use Rattle.demands.specs.statements.Find.{FindIsExact}
use Rattle.demands.specs.statements.Close.{CloseIsExact, DroppedStaysDropped}
use Rattle.demands.specs.statements.EveryWatch.{EveryWatchIsExact, ExactAfterAMove, OrderIndependentWithMoves}
use Rattle.demands.specs.statements.BothForms.{BothFormsAlike, MovedGoesOn}
use Rattle.demands.specs.statements.Page.{PageShowsKept, PagesAlike}
use Rattle.demands.specs.statements.Busiest.{DayIsListed, BusiestIsKept}
use Rattle.demands.specs.statements.BusiestTaken.{DayFitsItsWindow, DayIsTaken, DayMeetsNo36}
use Rattle.demands.specs.statements.Caps.{CapsAreAlike}
use Rattle.demands.specs.statements.Empties.{PendingComesToAnEnd}
use Rattle.pool_runs.specs.statements.Within.{NeverOver}
use Rattle.pool_runs.specs.statements.Members.{EveryMemberIsExact, MembersOrderIndependent, MemberAndPlainAlike}
use Rattle.pool_runs.specs.statements.Others.{OthersMakeNoDifference}
use Rattle.pool_runs.specs.statements.Empties.{EveryMemberEmpties}
use Rattle.demands.specs.statements.Examples.{StarredExamples}

pub record Theorem : Type 1 where
  -- Demand 1, on all bytes: each answer of open exactly if, and by its text's first fault; wrong lengths and wrong
  -- records, and that they change no byte; how the reply word tells the answers apart
  pub open_exact : OpenIsExact
  pub text_first_fault : ReaderFindsFirstFault
  pub text_forms : ReaderAcceptsForms
  pub text_faultless : ReaderAcceptsFaultless
  pub text_place : FaultPlaceBelow1024
  pub mislent : MislentIsExact
  pub open_tells : OpenTells
  pub offer_tells : OfferTells
  pub take_tells : TakeTells
  pub find_tells : FindTells
  pub close_tells : CloseTells
  -- Demand 2, after every list of calls: the window holds exactly the kept cuts with PaCTL's truth of every line; each
  -- answer of the next offer and take, exactly if; every verdict reported on the way is PaCTL's
  pub window_exact : WindowIsExact
  pub offer_exact : OfferIsExact
  pub take_exact : TakeIsExact
  pub verdicts_true : VerdictsAreTrue
  -- PaCTL's truth is the one of source 000: its clauses as printed, and over paths
  pub clauses_as_printed : ClausesAsPrinted
  pub over_paths : OperatorsOverPaths
  -- Demand 3, of two lists of calls; and the balance
  pub order_independent : OrderIndependent
  pub balance : AnswersBalance
  -- [1] Sent again
  pub again_exact : AgainIsExact
  pub agains_idle : AgainsMakeNoDifference
  -- [2] Messages
  pub messages : MessagesAreExact
  pub earlier_lists : EarlierListsStand
  -- [3] The clauses of judging
  pub clauses_right : ClausesRight
  -- [4] The earliest frontier
  pub find_first : FindIsExact
  -- [5] Closed processes
  pub close_exact : CloseIsExact
  pub dropped_for_good : DroppedStaysDropped
  -- [6] Counts past 65,535: moves, on all bytes; every watch that calls and moves alone wrote, in either form, has all
  -- that demand 2 and the requests say of the watch at the end of a list; demand 3 with moves among the calls
  pub move_exact : MoveExact
  pub widening : WidenNever43
  pub there_and_back : ThereAndBack
  pub every_watch : EveryWatchIsExact
  pub after_a_move : ExactAfterAMove
  pub order_with_moves : OrderIndependentWithMoves
  pub both_forms : BothFormsAlike
  pub goes_on : MovedGoesOn
  -- [7] A page
  pub page_exact : PageIsExact
  pub page_refused : RefusedWritesNothing
  pub page_tells : PageTells
  pub page_shows : PageShowsKept
  pub pages_alike : PagesAlike
  -- [8] The busiest day
  pub busiest_exact : BusiestIsExact
  pub kept_is_products : KeptIsProducts
  pub even_is_best : EvenIsBest
  pub day_listed : DayIsListed
  pub busiest_kept : BusiestIsKept
  pub day_fits : DayFitsItsWindow
  pub day_taken : DayIsTaken
  pub day_no_36 : DayMeetsNo36
  -- [10] Shares: setting them, and open, take and close of a watch that shares, on all bytes; when a take's cap makes
  -- no difference; and of every run of calls on such watches: they never keep over 1,024 together, each is as exact as
  -- any watch, demand 3 of any two, and the others make no difference
  pub shares_exact : SharesAreExact
  pub shared_open : SharedOpenIsExact
  pub shared_take : SharedTakeIsExact
  pub shared_close : SharedCloseIsExact
  pub allowed_exactly : AllowedIsExact
  pub caps_idle : CapsMakeNoDifference
  pub caps_alike : CapsAreAlike
  pub never_over : NeverOver
  pub members_exact : EveryMemberIsExact
  pub members_order : MembersOrderIndependent
  pub member_and_plain : MemberAndPlainAlike
  pub others_idle : OthersMakeNoDifference
  -- [14] The hold empties: of every watch, and of every watch that shares
  pub empties : PendingComesToAnEnd
  pub members_empty : EveryMemberEmpties
  -- The starred examples of 01
  pub examples : StarredExamples
