-- An open by the number that it is turned back with before its text is read.
use Rattle.std.specs.Prelude.{ℕ, ◌≡◌, cond, ◌||◌, List, eqb, length}
use Rattle.std.proofs.Common.{◌∙◌, lit<, ne_eqb}
use Rattle.rules.specs.Reader.{read_rule}
use Rattle.clocks.specs.Refusal.{bad_start}
use Rattle.refusals.specs.Refusals.{bad_record_length, bad_window_length, bad_processes}
use Rattle.answers.specs.Answer.{turned_back}
use Rattle.answers.specs.Turns.{chosen_by, end, turn}
use Rattle.call_open.specs.Open.{Opened, open_read, open_call}
use Rattle.call_open.specs.OpenCode.{open_fault}

-- What an open that is turned back answers and leaves.
abbrev pub turned : List ℕ → List ℕ → ℕ → Opened
turned s window n = record { answer = turned_back n 0; bytes = s; window = window }

module _ (w : ℕ) (text : List ℕ) (k : ℕ) (labels s window : List ℕ) where
  abbrev fault : ℕ
  fault = open_fault w k labels (length s) (length window)

  pub open_by : open_call w text k labels s window
      ≡ cond (eqb fault 0) (open_read w k labels s window (read_rule text k)) (turned s window fault)
  unfolding open_call open_fault
  open_by =
      chosen_by
      (turn (bad_record_length w (length s) || bad_window_length w (length window)) 6
      (turn (bad_processes k) 5 (turn (bad_start k labels) 9 end)))
      (turned s window) (open_read w k labels s window (read_rule text k)) (lit< tt, (lit< tt, (lit< tt, tt)))

  pub open_back : (n : ℕ) → n ≡ fault → (n ≡ 0 → ⊥) → open_call w text k labels s window ≡ turned s window n
  open_back n e h = open_by ∙ rw (← e, ne_eqb n 0 h)
