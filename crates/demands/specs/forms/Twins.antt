-- Two sound watches of both forms with one ledger: they keep the same frontiers, since a history has but one window;
-- and so the bytes of the one are those of the other, moved.
use Rattle.std.specs.Prelude.{ℕ, ◌*◌, ◌≤◌, ◌≡◌, List, map, length}
use Rattle.std.proofs.Common.{sym, ap, ap₂, subst, ◌∙◌}
use Rattle.pactl.specs.declared.Line.{Line}
use Rattle.clocks.specs.Event.{Cut}
use Rattle.frontiers.specs.declared.Frontier.{Frontier}
use Rattle.frontiers.specs.Bytes.{frontier_length, window_bytes}
use Rattle.window_laws.specs.Represents.{Represents}
use Rattle.window_laws.specs.FrontierOf.{frontier_of}
use Rattle.rules.specs.Formula.{Formula}
use Rattle.rules.specs.Line.{lines_at}
use Rattle.refusals.specs.Refusals.{room_of}
use Rattle.call_move.specs.Parts.{record_parts, window_parts}
use Rattle.call_move.specs.Move.{moved}
use Rattle.demands.specs.Ledger.{Ledger}
use Rattle.demands.specs.Run.{Watch}
use Rattle.demands.specs.Status.{record_bytes}
use Rattle.demands.specs.World.{world_of, status_of}
use Rattle.demands.specs.bytes.MovedLaws.{record_moved, window_moved}
use Rattle.demands.specs.calls.AfterCall.{room_iff}
use Rattle.demands.specs.calls.KeptCutsLaws.{cuts_unique, represented_cuts}
use Rattle.demands.specs.calls.StoredFits.{sized, kept_shaped}
use Rattle.demands.specs.calls.WindowRooms.{room_of_lem}
use Rattle.demands.specs.statements.BothForms.{SameInBoth}
use Rattle.demands.specs.lists.SoundRun.{Sound}

-- ---- Definition

-- Two watches between two calls, Y with counts of v bytes and Z with counts of w bytes.
pub record Twins (v w k : ℕ) (f : Formula) (start : Cut) (Y Z : Watch) : Type 0 where
  pub first : Sound v k f start Y
  pub second : Sound w k f start Z
  pub same_answers : Y.answers ≡ Z.answers
  pub same_ledger : Y.ledger ≡ Z.ledger
  pub same_accepted : Y.accepted ≡ Z.accepted
  pub room : ℕ
  pub long : length Y.window ≡ room * frontier_length v
  pub other_long : length Z.window ≡ room * frontier_length w

-- ---- What they hold

module _ (v w k : ℕ) (f : Formula) (start : Cut) (Y Z : Watch) (t : Twins v w k f start Y Z) where
  abbrev table : List Line
  table = lines_at 0 f

  pub kept_alike : t.first.right.kept ≡ t.second.right.kept
  kept_alike =
      let L : Ledger = Z.ledger in
      let X : Represents (world_of k L.closed table start) L.history t.first.right.kept =
      subst (λ (M : Ledger). Represents (world_of k M.closed table start) M.history t.first.right.kept)
      t.same_ledger t.first.right.represents in
      let U : Represents (world_of k L.closed table start) L.history t.second.right.kept =
      t.second.right.represents in
      let one : X.cuts ≡ U.cuts =
      cuts_unique k L.closed L.history X.cuts U.cuts
      (represented_cuts k L.closed L.history table start t.first.right.kept X)
      (represented_cuts k L.closed L.history table start t.second.right.kept U) in
      X.are ∙ ap (map (frontier_of (world_of k L.closed table start) L.history)) one ∙ sym U.are

  status_alike : status_of k table (length t.first.right.kept) Y.ledger
      ≡ status_of k table (length t.second.right.kept) Z.ledger
  status_alike = ap₂ (λ (fs : List Frontier) (L : Ledger). status_of k table (length fs) L) kept_alike t.same_ledger

  -- they have room in the window
  few : length t.first.right.kept ≤ t.room
  few =
      let n : ℕ = length t.first.right.kept in
      subst (λ (m : ℕ). n ≤ m) (ap (room_of v) t.long ∙ room_of_lem v t.room)
      ((room_iff v n (length Y.window)).1 t.first.right.room)

  -- ---- Theorem

  pub twins_moved : SameInBoth v w Y Z
  twins_moved =
      let S = t.first in
      let U = t.second in
      record {
        room = t.room;
        same_answers = t.same_answers;
        same_ledger = t.same_ledger;
        same_accepted = t.same_accepted;
        window_length = t.long;
        other_length = t.other_long;
        record_moved =
            ap (moved v w record_parts) S.right.bytes_are
            ∙ record_moved v w (status_of k table (length S.right.kept) Y.ledger)
            (sized v k table start S.rule Y.ledger Y.bytes Y.window S.right)
            ∙ ap (record_bytes w) status_alike ∙ sym U.right.bytes_are;
        window_moved =
            ap (moved v w (window_parts t.room))
            (S.right.window_is ∙ ap (λ (n : ℕ). window_bytes v n S.right.kept) t.long)
            ∙ window_moved v w t.room S.right.kept
            (kept_shaped v k table start S.rule Y.ledger Y.bytes Y.window S.right) few
            ∙ ap₂ (window_bytes w) (sym t.other_long) kept_alike ∙ sym U.right.window_is;
      }
