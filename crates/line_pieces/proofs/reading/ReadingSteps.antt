-- A line's pieces: the step of the code's loop, and the limit on a line's bytes.
use Rattle.std.proofs.Common.{ℕ, ◌+◌, ◌≤◌, ◌<◌, ◌≡◌, refl, List, [], ◌∷◌, length, get_or, drop, add-one, drop_of_length-le, drop-cons, Result, Ok, Err}
use Rattle.std.specs.Result.{IfErr}
use borrow.Author.Tests.{lt-ltb}
use Rattle.numbers.specs.declared.fault.Fault.{Fault}
use Rattle.line_pieces.specs.Read.{Read, Refused}
use Rattle.line_pieces.specs.Reading.{line_limit, then_byte, then_bytes}
use Rattle.line_pieces.specs.ReadingCode.{over_limit, within_limit}

-- While bytes are left, byte i is next; then the reading stays.
pub then_bytes_next : (s bs : List ℕ) (i : ℕ) (r : Read) → i < length bs
    → then_bytes s (drop i bs) r ≡ then_bytes s (drop (i + 1) bs) (then_byte s (get_or bs i 0) r)
unfolding then_bytes
then_bytes_next s bs i r h = rw (drop-cons bs i 0 h, add-one i)

pub then_bytes-end : (s bs : List ℕ) (i : ℕ) (r : Read) → length bs ≤ i → then_bytes s (drop i bs) r ≡ r
unfolding then_bytes
then_bytes-end s bs i r h = rw (drop_of_length-le bs h)

-- A fault stays.
pub then_bytes-refused : (s bs : List ℕ) (n i : ℕ) → then_bytes s bs (Refused n i) ≡ Refused n i
unfolding then_byte then_bytes
then_bytes-refused s [] n i = refl
then_bytes-refused s (b ∷ bs) n i = then_bytes-refused s bs n i

-- A line over the limit has its fault there, where none stands up to there.
pub behind_limit : {A : Type 0} (s : List ℕ) (read : Result A Fault) → line_limit < length s
    → IfErr read (λ fault. line_limit < fault.place) → Err over_limit ≡ within_limit s read
unfolding within_limit
behind_limit s (Ok value) h f = rw (lt-ltb line_limit (length s) h)
behind_limit s (Err fault) h f = rw (lt-ltb line_limit (length s) h, lt-ltb line_limit fault.place f)
