-- The room that the first line gives is at most 1,024 frontiers.
use Rattle.std.specs.Prelude.{ℕ, ◌≤◌, Bool, true, false, cond, ◌&&◌, List, [], ◌∷◌, T, ltb, leb, eqb, length, drop}
use Rattle.std.proofs.Common.{leb→le}
use Rattle.clocks.specs.stored.BoundedLaws.{and_r}
use Rattle.codec.specs.Ascii.{ascii}
use Rattle.rules.specs.Text.{byte_at}
use Rattle.line_pieces.specs.Read.{Read, At, Refused}
use Rattle.lines.specs.WatchLine.{WatchLine, Watch, Refused as WatchRefused}
use Rattle.codec.specs.Decimal.{digits, value}
use Rattle.line_pieces.specs.Number.{number_of, number_at}
use Rattle.line_pieces.specs.Reading.{line_limit, then_byte, then_number, then_end, limited, head_read, value_read, then_last}
use Rattle.lines.specs.Lines.{watch_of, watch_line, k_limit, room_limit}

-- A reading's number is at most so much.
abbrev AtMost : ℕ → Read → Type 0
AtMost most (At i v) = v ≤ most
AtMost most (Refused n i) = Unit {0}

-- The room is at most 1,024.
abbrev pub RoomWithin : WatchLine → Type 0
RoomWithin (Watch k room) = room ≤ 1024
RoomWithin (WatchRefused n i) = Unit {0}

-- Either of two readings, by a test.
either : (most : ℕ) (b : Bool) (r q : Read) → (T b → AtMost most r) → AtMost most q → AtMost most (cond b r q)
either most true r q f g = f tt
either most false r q f g = g

digits-within : (ds : List ℕ) (i least most : ℕ) → AtMost most (number_of ds i least most)
unfolding number_of
digits-within [] i least most = tt
digits-within (d ∷ ds) i least most =
    let v = value (d ∷ ds) in
    either most (eqb d 48 && ltb 0 (length ds)) _ _ (λ t. tt) (either most (leb least v && leb v most) _ _ (λ t. leb→le v most (and_r (leb least v) (leb v most) t)) tt)

number-within : (s : List ℕ) (least most : ℕ) (r : Read) → AtMost most (then_number s least most r)
unfolding then_number number_at
number-within s least most (At i v) = digits-within (digits (drop i s)) i least most
number-within s least most (Refused n i) = tt

byte_within : (s : List ℕ) (b most : ℕ) (r : Read) → AtMost most r → AtMost most (then_byte s b r)
unfolding then_byte
byte_within s b most (At i v) h = either most (eqb (byte_at s i) b) _ _ (λ t. h) tt
byte_within s b most (Refused n i) h = tt

end-within : (s : List ℕ) (most : ℕ) (r : Read) → AtMost most r → AtMost most (then_end s r)
unfolding then_end
end-within s most (At i v) h = either most (ltb i (length s)) _ _ (λ t. tt) h
end-within s most (Refused n i) h = tt

limit_within : (s : List ℕ) (most : ℕ) (r : Read) → AtMost most r → AtMost most (limited s r)
unfolding limited
limit_within s most (At i v) h = either most (ltb line_limit (length s)) _ _ (λ t. tt) h
limit_within s most (Refused n i) h = either most (ltb line_limit (length s) && ltb line_limit i) _ _ (λ t. tt) tt

made : (k : ℕ) (r : Read) → AtMost 1024 r → RoomWithin (watch_of k r)
unfolding watch_of
made k (At i v) h = h
made k (Refused n i) h = tt

pub room_within : (s : List ℕ) → RoomWithin (watch_line s)
unfolding watch_line then_last
room_within s =
    let k = then_number s 0 k_limit (head_read s (ascii "(watch ")) in
    let room = then_number s 1 room_limit (then_byte s 32 k) in
    made (value_read k) _ (limit_within s 1024 _ (end-within s 1024 _
    (byte_within s 41 1024 room (number-within s 1 room_limit (then_byte s 32 k)))))
