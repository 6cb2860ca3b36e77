-- What a call comes to, by the numbers that decide it.
use Rattle.std.specs.Prelude.{ℕ, ◌*◌, ◌≤◌, ◌<◌, ◌≡◌, true, false, List, ◌≢◌, length}
use borrow.Author.Tests.{eq-eqb, ne_eqb, lt-ltb, le-ltb}
use Rattle.records.specs.Record.{event_length}
use Rattle.refusals.specs.Refusals.{bad_processes}
use Rattle.call_busiest.specs.Sharing.{shares, sharing_keeps}
use Rattle.call_busiest.specs.Busiest.{bad_day, too_busy, bad_list_length, day_turned_back, day_written, busiest_call}

module _ (w k n : ℕ) (events : List ℕ) where
  pub processes_turned : bad_processes k ≡ true → busiest_call w k n events ≡ day_turned_back events 45
  unfolding busiest_call bad_day
  processes_turned h = rw h

  module _ (good : bad_processes k ≡ false) where
    pub events_turned : 65535 < n → busiest_call w k n events ≡ day_turned_back events 45
    unfolding busiest_call bad_day
    events_turned l = rw (good, lt-ltb 65535 n l)

    module _ (few : n ≤ 65535) where
      pub busy_turned : 1024 < sharing_keeps (shares k n) → busiest_call w k n events ≡ day_turned_back events 46
      unfolding busiest_call bad_day too_busy
      busy_turned l = rw (good, le-ltb 65535 n few, lt-ltb 1024 (sharing_keeps (shares k n)) l)

      module _ (room : sharing_keeps (shares k n) ≤ 1024) where
        pub length-turned : length events ≢ n * event_length w → busiest_call w k n events ≡ day_turned_back events 6
        unfolding busiest_call bad_day too_busy bad_list_length
        length-turned other =
            rw (
              good,
              le-ltb 65535 n few,
              le-ltb 1024 (sharing_keeps (shares k n)) room,
              ne_eqb (length events) (n * event_length w) other,
            )

        pub all-written : length events ≡ n * event_length w → busiest_call w k n events ≡ day_written w k n
        unfolding busiest_call bad_day too_busy bad_list_length
        all-written same =
            rw (
              good,
              le-ltb 65535 n few,
              le-ltb 1024 (sharing_keeps (shares k n)) room,
              eq-eqb (length events) (n * event_length w) same,
            )
