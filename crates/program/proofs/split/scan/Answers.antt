-- The bytes before the first line feed go after the line's, as many as there is room for (`feed_found`, `as_many`).
use native.Mathlib.Omega.{arith}
use mathlib.Core.Path.{◌≡◌, ap, ◌∙◌}
use Prim.Native.Nat.{◌+◌, ◌-◌}
use Rattle.std.proofs.lemmas.Grind.{common_steps}
use Rattle.std.specs.Prelude.{is_some}
use Rattle.answers.specs.Answer.{flag}
use lib.ListN.{length, take}
use Rattle.program.specs.Split.{up_to_feed, has_feed}
use Rattle.program.proofs.TurnSteps.{laid_after}
use Rattle.program.proofs.SplitSteps.{feed_found, feed_within, byte_flag, as_many}
use Rattle.program.proofs.split.scan.Goals as goal
use Rattle.program.proofs.split.scan.Goals.{in-Some, in-None}

pub returns : goal.returns
returns c =
    let a = c.args in
    let found = feed_found a.bytes.now c.feed_place-feed.result c.feed_place-feed.ensures in
    let text : c.match-feed.text.now ≡ up_to_feed a.bytes.now =
    elim c.match-feed.branch [ in-Some w ↦ rw w.text-is (rw w.in-Some.is at found.0) | in-None w ↦ rw w.text-is (rw w.in-None.is at found.0) ] in
    let feed : c.match-feed.feed ≡ c.feed_place-feed.result =
    elim c.match-feed.branch [ in-Some w ↦ cc | in-None w ↦ cc ] in
    let told = ap is_some feed ∙ found.1 in
    let byte : c.from.result ≡ flag (has_feed a.bytes.now) =
    c.from.ensures ∙ byte_flag c.is_some.result ∙ ap flag (c.is_some.ensures ∙ told) in
    let used : length c.match-feed.text.now + c.from.result ≡ length (up_to_feed a.bytes.now) + flag (has_feed a.bytes.now) = rw (text, byte) in
    let after = c.copy_from_slice.new.self in
    let n = c.min-n.result in
    let whole : take n after ≡ after = grind (arith, common_steps) in
    let kept = laid_after a.line.now after a.start n (a.start + n - a.start) c.requires (grind (arith, common_steps)) in
    record {
      ended = c.is_some-2.ensures ∙ told;
      passed = used;
      inside = (omega (arith, used, feed_within a.bytes.now), omega arith);
      laid = kept ∙ rw (whole, c.copy_from_slice.ensures.after, text) (as_many a.line.now (up_to_feed a.bytes.now) a.start n c.requires (rw text at c.min-n.ensures));
    }
