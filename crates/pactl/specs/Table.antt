-- A rule's table: its lines, their bytes, and which of them are good.
use Rattle.std.specs.Prelude.{ℕ, ◌+◌, ◌<◌, ◌≡◌, Bool, true, cond, ◌&&◌, ◌||◌, List, [], ◌∷◌, leb, ltb, eqb, length, get_or}
use Rattle.pactl.specs.declared.Line.{Line}
use Rattle.pactl.specs.Line.{line}

-- The bytes of a table: three for each line (01, The rule).
unfoldable pub table_bytes : (ls : List Line) → List ℕ
table_bytes [] = []
table_bytes (l ∷ ls) = l.kind ∷ l.a ∷ l.b ∷ table_bytes ls

-- Line i of a table is l.
abbrev pub LineIs : (ls : List Line) (i : ℕ) (l : Line) → Type 0
LineIs ls i l = (i < length ls) × (get_or ls i (line 0 0 0) ≡ l)

-- Line i is good, with k processes (01, Turned back, from the state: 34): its kind is at most 5, its process below k
-- and its proposition at most 7, the lines it names are earlier, an unused b is 0.
unfoldable pub good_line : (k i : ℕ) (l : Line) → Bool
good_line k i l =
    cond (eqb l.kind 0) (ltb l.a k && leb l.b 7)
    (cond (eqb l.kind 1 || eqb l.kind 3) (ltb l.a i && eqb l.b 0)
    (leb l.kind 5 && (ltb l.a i && ltb l.b i)))

-- Lines that stand from line i on are good, each in its place.
unfoldable pub good_from : (k i : ℕ) (ls : List Line) → Bool
good_from k i [] = true
good_from k i (l ∷ ls) = good_line k i l && good_from k (i + 1) ls

-- A table's lines are good.
abbrev pub good_table : (k : ℕ) (ls : List Line) → Bool
good_table k ls = good_from k 0 ls
