-- Laws of a table read from its bytes: it gives back the lines whose bytes they are, and its line i is line i of the
-- bytes.
use Rattle.std.specs.Prelude.{ℕ, zero, suc, ◌+◌, ◌-◌, ◌*◌, ◌<◌, ◌≤◌, ◌≡◌, refl, List, [], ◌∷◌, ◌++◌, Bool, true, ◌&&◌, length, get_or}
use Rattle.std.proofs.Common.{add-one, arith, ap, ap₂, ◌∙◌}
use Rattle.std.specs.List.{range_with_len, list_all}
use Rattle.pactl.specs.declared.Line.{Line}
use Rattle.pactl.specs.Table.{table_bytes, good_line, good_from}
use Rattle.pactl.specs.TableBytes.{line_at, lines_from, lines_of}

-- Behind three bytes more, a line is one further on.
line_at_behind : (x y z : ℕ) (bytes : List ℕ) (i : ℕ) → line_at (x ∷ y ∷ z ∷ bytes) (suc i) ≡ line_at bytes i
unfolding line_at
line_at_behind x y z bytes i =
    let e : 3 * suc i ≡ suc (suc (suc (3 * i))) = omega arith in
    let e₁ : 3 * suc i + 1 ≡ suc (suc (suc (3 * i + 1))) = omega arith in
    let e₂ : 3 * suc i + 2 ≡ suc (suc (suc (3 * i + 2))) = omega arith in
    rw (e₁, e₂, e)

lines_from_behind : (x y z : ℕ) (bytes : List ℕ) (n i : ℕ) → lines_from (x ∷ y ∷ z ∷ bytes) n (suc i) ≡ lines_from bytes n i
unfolding lines_from
lines_from_behind x y z bytes zero i = refl
lines_from_behind x y z bytes (suc n) i =
    ap₂ (λ (l : Line) (ls : List Line). l ∷ ls) (line_at_behind x y z bytes i)
    (rw (add-one (suc i), add-one i) (lines_from_behind x y z bytes n (suc i)))

-- The lines whose bytes stand first come back.
pub lines_of-table_bytes : (ls : List Line) (rest : List ℕ) → lines_of (table_bytes ls ++ rest) (length ls) ≡ ls
unfolding lines_from table_bytes line_at
lines_of-table_bytes [] rest = refl
lines_of-table_bytes (l ∷ ls) rest =
    ap (λ (ms : List Line). l ∷ ms)
    (lines_from_behind l.kind l.a l.b (table_bytes ls ++ rest) (length ls) 0 ∙ lines_of-table_bytes ls rest)

pub length-lines_from : (bytes : List ℕ) (n i : ℕ) → length (lines_from bytes n i) ≡ n
unfolding lines_from
length-lines_from bytes zero i = refl
length-lines_from bytes (suc n) i = ap suc (length-lines_from bytes n (i + 1))

-- The line at a place of them.
pub get_d_lines_from : (bytes : List ℕ) (n i j : ℕ) (d : Line) → j < n → get_or (lines_from bytes n i) j d ≡ line_at bytes (i + j)
unfolding lines_from
get_d_lines_from bytes zero i j d h = absurd (omega arith)
get_d_lines_from bytes (suc n) i zero d h = ap (line_at bytes) (omega arith)
get_d_lines_from bytes (suc n) i (suc j) d h =
    get_d_lines_from bytes n (i + 1) j d (omega arith) ∙ ap (line_at bytes) (omega arith)

pub get_d_lines_of : (bytes : List ℕ) (n j : ℕ) (d : Line) → j < n → get_or (lines_of bytes n) j d ≡ line_at bytes j
get_d_lines_of bytes n j d h = get_d_lines_from bytes n 0 j d h ∙ ap (line_at bytes) (omega arith)

-- While lines are left, the next is line i; then there are none.
pub lines_from_next : (bytes : List ℕ) (n i : ℕ) → i < n → lines_from bytes (n - i) i ≡ line_at bytes i ∷ lines_from bytes (n - (i + 1)) (i + 1)
unfolding lines_from
lines_from_next bytes n i h =
    let e : n - i ≡ suc (n - (i + 1)) = omega arith in
    rw e

pub lines_from-end : (bytes : List ℕ) (n i : ℕ) → n ≤ i → lines_from bytes (n - i) i ≡ []
unfolding lines_from
lines_from-end bytes n i h =
    let e : n - i ≡ 0 = omega arith in
    rw e

-- The check of the lines from line i on is that of each.
pub good-each : (k : ℕ) (bytes : List ℕ) (n i : ℕ)
    → list_all (λ j. good_line k j (line_at bytes j)) (range_with_len i n) ≡ good_from k i (lines_from bytes n i)
unfolding good_from lines_from
good-each k bytes zero i = refl
good-each k bytes (suc n) i = ap (λ (b : Bool). good_line k i (line_at bytes i) && b) (good-each k bytes n (i + 1))

-- The check of the lines from line i on: of line i, then of those behind it.
pub good_from_next : (k : ℕ) (bytes : List ℕ) (n i : ℕ) → i < n
    → good_from k i (lines_from bytes (n - i) i) ≡ (good_line k i (line_at bytes i) && good_from k (i + 1) (lines_from bytes (n - (i + 1)) (i + 1)))
unfolding good_from
good_from_next k bytes n i h = rw (lines_from_next bytes n i h)

pub good_from-end : (k : ℕ) (bytes : List ℕ) (n i : ℕ) → n ≤ i → good_from k i (lines_from bytes (n - i) i) ≡ true
unfolding good_from
good_from-end k bytes n i h = rw (lines_from-end bytes n i h)
