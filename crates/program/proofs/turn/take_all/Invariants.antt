-- With what is laid, the takes that are left come to the whole (`Ahead`); each turn is one take less (`ahead_step`),
-- and each has room for its text.
use Prim.Native.Nat.{◌≤◌, ◌+◌, ◌-◌, ◌*◌}
use lib.ListN.{length, take}
use Rattle.program.specs.Turn.{takes_while, most_takes}
use Rattle.program.proofs.TurnSteps.{Ahead}
use Rattle.program.proofs.turn.take_all.Given as goal

abbrev pub invariant-loop : goal.invariant-loop
invariant-loop l = record {
  room : l.at + (33 - l.counter) * 256 ≤ length l.out;
  ahead : Ahead (takes_while most_takes l.initial.follows l.k l.initial.«record» l.initial.window l.initial.scratch) (take l.start l.initial.out) l.follows l.k (33 - l.counter) l.«record» l.window l.scratch (take l.at l.out);
}
