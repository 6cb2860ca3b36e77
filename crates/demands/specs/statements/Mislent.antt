-- A call that is lent buffers of a wrong length, or a record that is none (01: 6, 34), on all bytes: exactly when it is
-- turned back so, and that no lent byte changes then. So the caller of a list goes on with the record and the window of
-- before, and the watch differs by an answer alone. Proved in lists/Mislent.
use Rattle.std.specs.Prelude.{ℕ, ◌≡◌, true, false, ◌↔◌}
use Rattle.numbers.specs.Refusal.{length_number, state_number}
use Rattle.answers.specs.Answer.{turned_back}
use Rattle.demands.specs.Mislent.{Mislent, answer_to, TurnedAway, lent_to, left_by, wrong_lengths, wrong_state}
use Rattle.demands.specs.Run.{Watch, mislends, after, answered_by}

pub record MislentExact (w : ℕ) (m : Mislent) : Type 0 where
  -- 6 exactly if a lent buffer has a wrong length; 34 exactly if none has and the record, or its window, is none
  pub length_exactly : (answer_to w m ≡ turned_back length_number 0) ↔ (wrong_lengths w m ≡ true)
  pub state_exactly : (answer_to w m ≡ turned_back state_number 0)
      ↔ ((wrong_lengths w m ≡ false) × (wrong_state w m ≡ true))
  -- every byte of every lent buffer is then as it was
  pub unwritten : TurnedAway w m → left_by w m ≡ lent_to m
  -- in a list: the watch of before, with one answer more
  pub goes_on : (W : Watch) → after w (mislends m) W ≡ answered_by (answer_to w m) W

abbrev pub MislentIsExact : Type 0
MislentIsExact = (w : ℕ) (m : Mislent) → MislentExact w m
