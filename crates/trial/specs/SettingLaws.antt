-- The setting of a step, by the parameters that the code hands on.
use Rattle.std.specs.Prelude.{ℕ, ◌+◌, ◌-◌, ◌*◌, ◌≤◌, ◌<◌, ◌≡◌, List, take, drop, length}
use Rattle.std.proofs.Common.{arith, sym, ap, length-drop, take_all}
use Rattle.clocks.specs.declared.Event.{Event}
use Rattle.clocks.specs.Event.{Cut, apply, involved}
use Rattle.clocks.specs.Counts.{at, list_of}
use Rattle.clocks.specs.stored.CountsLaws.{length-list_of, at-list_of-all, at_beyond}
use Rattle.pactl.specs.TableBytes.{lines_of}
use Rattle.window.specs.StepCode.{setting_with}
use Rattle.codec.specs.BitLaws.{bit_above}
use Rattle.codec.specs.Little.{number}
use Rattle.records.specs.Record.{table_place, process_count, closed_mask, line_total, taken_counts, table_lines, taken_place}
use Rattle.trial.specs.Trial.{setting_in}

pub setting_with_lem : (w : ℕ) (s : List ℕ) (e : Event) → e.mask < 256
    → setting_in w s e
    ≡ setting_with (process_count s) (closed_mask s) (drop (table_place w) s) (line_total s) e
    (list_of 8 (apply e (at (taken_counts w s))))
unfolding setting_in table_lines apply involved taken_counts
setting_with_lem w s e m =
    ap (λ (c : Cut). record {
      stored = 8;
      processes = process_count s;
      closed = closed_mask s;
      table = lines_of (drop (table_place w) s) (line_total s);
      event = e;
      reached = c;
    })
    (sym (at-list_of-all 8 (apply e (at (taken_counts w s))) (λ p l. silent p l)))
  where
    length_taken : length (taken_counts w s) ≡ 8
    length_taken = length-list_of 8 (λ p. number s (taken_place + p * w) w)

    silent : (p : ℕ) → 8 ≤ p → apply e (at (taken_counts w s)) p ≡ 0
    silent p l = rw (bit_above e.mask 8 p m l, at_beyond (taken_counts w s) p (omega (arith, length_taken)))

-- ... and with the part of the record that is lent as the table.
pub setting_lent : (w : ℕ) (s : List ℕ) (e : Event) (k closed place lines : ℕ) (reached : List ℕ) → e.mask < 256
    → k ≡ process_count s → closed ≡ closed_mask s → place ≡ table_place w → lines ≡ line_total s
    → reached ≡ list_of 8 (apply e (at (taken_counts w s)))
    → setting_in w s e ≡ setting_with k closed (take (length s - place) (drop place s)) lines e reached
setting_lent w s e k closed place lines reached m p d q l r =
    rw (p, d, l, r, take_all (length s - place) (drop place s) (simp length-drop (omega arith)), q)
    (setting_with_lem w s e m)
