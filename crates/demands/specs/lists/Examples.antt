-- The starred examples of 01, computed from the calls' definitions.
use Rattle.std.specs.Prelude.{◌≡◌, refl, List, [], ◌∷◌, ◌++◌}
use Rattle.std.proofs.Common.{sym, ap, ◌∙◌}
use Rattle.std.specs.Int.Count.{count_trailing_zeros}
use Rattle.frontiers.specs.declared.Frontier.{Frontier}
use Rattle.codec.specs.Bit.{bit}
use Rattle.codec.specs.Little.{bytes_of, value_of, number, put}
use Rattle.clocks.specs.Event.{involved, count, apply, minus, less, lowered}
use Rattle.clocks.specs.History.{taken, is_number, event, clock_of}
use Rattle.clocks.specs.Counts.{list_of}
use Rattle.clocks.specs.Bounded.{all_below, any_below, any_of}
use Rattle.clocks.specs.Tested.{ready, consistent}
use Rattle.clocks.specs.Redundant.{served, redundant_within, redundant}
use Rattle.clocks.specs.Key.{lowest, key_of, key_before}
use Rattle.clocks.specs.Refusal.{bad_mask, bad_clock, bad_labels, bad_start}
use Rattle.clocks.specs.SameEvent.{same_event}
use Rattle.repeats.specs.Repeats.{repeated}
use Rattle.rules.specs.Reader.{rest_at, a_word_at, e_word_at, word_at, and_then, expect, expect_digit, close_at, atom_at, inner_with, unary_with, binary_with, body_with, form_at, read_rule}
use Rattle.rules.specs.Line.{true_lines, constant_lines, lines_before, lines_after, lines_between, lines_after_both, constant_weight, unary_weight, binary_weight, line_count, lines_at}
use Rattle.pactl.specs.Table.{table_bytes, good_line, good_from}
use Rattle.pactl.specs.TableBytes.{line_at, lines_from}
use Rattle.pactl.specs.Judge.{proposition_judged, not_judged, and_judged, ey_judged, es_judged, as_judged, judge_line, judge_from}
use Rattle.lookup.specs.Order.{before, same}
use Rattle.lookup.specs.Seek.{standing, bisect, gallop, seek}
use Rattle.window.specs.Step.{stays, enabled_at, advanced, filtered, slot_counts, merge_into, merge, slots, sought, without_last, consider, gathered, judged_by, lay, stepped, kept_after, fits}
use Rattle.window.specs.Start.{start_frontier}
use Rattle.frontiers.specs.Bytes.{frontier_length, count_bytes, frontier_bytes, frontier_from, frontier_at, frontiers, framed, window_bytes, replaced}
use Rattle.answers.specs.Answer.{state_of}
use Rattle.records.specs.Record.{taken_counts, last_clocks, table_lines, pending_at, pending_events, event_bytes, inserted, removed, clocks_set, closed_set, counted, ready_in}
use Rattle.refusals.specs.Refusals.{bad_record_length, bad_window_length, room_of, bad_processes, bad_state, names_closed, already_taken, conflicts, conflicting, not_open, named_by}
use Rattle.call_open.specs.Open.{first_record, open_table, open_read, open_call}
use Rattle.call_offer.specs.Offer.{place_among, offer_call}
use Rattle.trial.specs.Trial.{valid_among, setting_in, places_of, places_from, tried}
use Rattle.call_take.specs.Take.{decided, take_within, take_capped}
use Rattle.call_close.specs.Close.{remaining, close_process, close_call}
use Rattle.demands.specs.Status.{insert_at, remove_at}
use Rattle.demands.specs.Run.{trial_of, stopped_at, taken_ledger, offered_ledger, closed_ledger, after, run}
use Rattle.demands.specs.statements.Examples.{eight, watch, comes, some_order, a1, a2, b1, first, second, headed, vectors, source_keeps, StarredExamples}

-- ---- Theorem

-- The frontiers kept at (2 1): the eight lines of the rule are the bits of each one's values.
abbrev frontiers_at21 : List Frontier
frontiers_at21 =
    record { counts = eight 0 1 0; labels = eight 0 1 0; masks = eight 0 2 0; values = 42 }
    ∷ record { counts = eight 1 1 0; labels = eight 1 1 0; masks = eight 1 2 0; values = 249 }
    ∷ record { counts = eight 2 0 0; labels = eight 0 0 0; masks = eight 1 0 0; values = 10 }
    ∷ record { counts = eight 2 1 0; labels = eight 0 1 0; masks = eight 1 2 0; values = 170 }
    ∷ []

pub starred : StarredExamples
unfolding repeated same_event bad_start rest_at a_word_at e_word_at word_at and_then expect expect_digit close_at atom_at inner_with unary_with binary_with body_with form_at read_rule line_count constant_weight unary_weight binary_weight true_lines constant_lines lines_before lines_after lines_between lines_after_both lines_at start_frontier first_record open_table open_read open_call count_trailing_zeros bit bytes_of value_of number put involved count apply minus list_of all_below any_below any_of ready less lowered valid_among lowest key_of key_before bad_mask bad_clock bad_labels stays enabled_at advanced filtered slot_counts merge_into merge slots sought without_last consider gathered judged_by lay stepped kept_after fits frontier_length count_bytes frontier_bytes frontier_from frontier_at frontiers framed window_bytes replaced before same standing bisect gallop seek table_bytes good_line good_from line_at lines_from proposition_judged not_judged and_judged ey_judged es_judged as_judged judge_line judge_from taken_counts last_clocks table_lines pending_at pending_events event_bytes inserted removed clocks_set counted bad_record_length bad_window_length room_of bad_processes bad_state names_closed already_taken conflicts conflicting place_among offer_call setting_in ready_in places_of places_from tried state_of decided take_within take_capped after run trial_of stopped_at taken_ledger offered_ledger closed_ledger not_open named_by closed_set remaining close_process close_call insert_at remove_at headed vectors source_keeps consistent redundant redundant_within served taken clock_of event is_number
starred =
    let ab : (watch 2 some_order (a1 ++ a2 ++ b1)).window ≡ window_bytes 2 200 frontiers_at21 = refl in
    let ba : (watch 2 some_order (b1 ++ a1 ++ a2)).window ≡ window_bytes 2 200 frontiers_at21 = refl in
    let history : (watch 3 some_order (comes first ++ comes second)).ledger.history ≡ second ∷ first ∷ [] = refl in
    let source : source_keeps 3 (second ∷ first ∷ []) ≡ (eight 0 0 0 ∷ eight 1 1 0 ∷ eight 1 2 1 ∷ []) = refl in
    record {
      arrival = refl;
      arrival_cuts = refl;
      arrival_and = refl;
      arrival_rule = refl;
      other_order = refl;
      same_window = ab ∙ sym ba;
      then_both = refl;
      alone = refl;
      knows = refl;
      knows_cuts = refl;
      forgets = refl;
      sent_again = refl;
      shuts = refl;
      shuts_cuts = refl;
      in_every_order = refl;
      ap_start = refl;
      ay_start = refl;
      ey_next = refl;
      three = refl;
      three_cuts = refl;
      three_source = ap (source_keeps 3) history ∙ source;
    }
