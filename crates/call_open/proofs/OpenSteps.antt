-- Open, part by part, as its functions go through it.
use Prim.Native.Nat.{ℕ, ◌+◌, ◌*◌, ◌≤◌, zero, suc, ◌-◌, ◌^◌, ◌<◌}
use native.Mathlib.Omega.{arith}
use mathlib.Core.Path.{◌≡◌, refl, sym, ap, ◌∙◌}
use mathlib.Core.List.{List, ◌∷◌, ◌++◌, append_assoc, append-nil, []}
use mathlib.Core.Bool.{false}
use lib.ListN.{length, get_or, take, drop, replicate, length-append, length-replicate, replicate-append-replicate, set}
use lib.Seq.{drop-drop, sets-eq, take-append_seam, drop-append_seam, drop-append-add, drop-cons, sets, length-take-le}
use Rattle.pactl.specs.TableBytes.{line_at, lines_from, lines_of}
use Rattle.pactl.specs.Table.{table_bytes}
use Rattle.frontiers.specs.declared.Frontier.{Frontier}
use Rattle.codec.specs.Little.{bytes_of, put}
use Rattle.frontiers.specs.BytesLaws.{length_eights}
use Rattle.frontiers.specs.Bytes.{frontier_length, frontier_bytes, framed, window_bytes}
use Rattle.pactl.specs.TableBytesLaws.{length-lines_from}
use Rattle.codec.specs.LittleLaws.{length-bytes_of, pow_256_pos}
use Rattle.clocks.specs.Counts.{at}
use Rattle.codec.specs.Bit.{bit}
use Rattle.window.specs.Start.{start_frontier}
use Rattle.pactl.specs.Judge.{judge}
use Rattle.records.specs.Record.{table_place, event_length, record_length}
use Rattle.call_open.specs.Open.{first_record, open_table}
use Rattle.answers.specs.Answer.{flag, reply_word, state_of}
use Rattle.call_open.specs.OpenCode.{zeros_judged}

-- ---- The bytes of a table

-- Lines read from bytes have those bytes.
lines_bytes : (bytes : List ℕ) (n i : ℕ) → 3 * i + 3 * n ≤ length bytes → table_bytes (lines_from bytes n i) ≡ take (3 * n) (drop (3 * i) bytes)
unfolding table_bytes lines_from line_at
lines_bytes bytes zero i h = refl
lines_bytes bytes (suc n) i h =
    let three : 3 * suc n ≡ suc (suc (suc (3 * n))) = omega arith in
    let a : drop (3 * i) bytes ≡ get_or bytes (3 * i) 0 ∷ drop (suc (3 * i)) bytes = drop-cons bytes (3 * i) 0 (omega arith) in
    let b : drop (suc (3 * i)) bytes ≡ get_or bytes (suc (3 * i)) 0 ∷ drop (suc (suc (3 * i))) bytes = drop-cons bytes (suc (3 * i)) 0 (omega arith) in
    let d : drop (suc (suc (3 * i))) bytes ≡ get_or bytes (suc (suc (3 * i))) 0 ∷ drop (suc (suc (suc (3 * i)))) bytes = drop-cons bytes (suc (suc (3 * i))) 0 (omega arith) in
    let one_on : 3 * i + 1 ≡ suc (3 * i) = omega arith in
    let two_on : 3 * i + 2 ≡ suc (suc (3 * i)) = omega arith in
    let next : 3 * (i + 1) ≡ suc (suc (suc (3 * i))) = omega arith in
    let rest : table_bytes (lines_from bytes n (i + 1)) ≡ take (3 * n) (drop (suc (suc (suc (3 * i)))) bytes) =
    lines_bytes bytes n (i + 1) (omega arith) ∙ ap (λ (m : ℕ). take (3 * n) (drop m bytes)) next in
    rw (one_on, two_on, rest, three, a, b, d)

pub table_bytes_lem : (bytes : List ℕ) (n : ℕ) → 3 * n ≤ length bytes → table_bytes (lines_of bytes n) ≡ take (3 * n) bytes
table_bytes_lem bytes n h = lines_bytes bytes n 0 (omega arith)

-- ---- Stores into zeros

-- Bytes copied over a part are stored there.
pub copied : (s bs : List ℕ) (at n : ℕ) → at + n ≤ length s → length bs ≡ n
    → take at s ++ (bs ++ drop (at + n - at) (drop at s)) ≡ sets s at bs
copied s bs at n h e =
    let part : at + n - at ≡ n = omega arith in
    rw part (sym (sets-eq bs s at (omega arith) ∙ rw (e, drop-drop n at s) (append_assoc (take at s) bs (drop (at + n) s))))

-- A part stored over one as long.
sets-part : (front part back bs : List ℕ) → length part ≡ length bs → sets (front ++ (part ++ back)) (length front) bs ≡ front ++ (bs ++ back)
sets-part front part back bs e =
    let fits : length front + length bs ≤ length (front ++ (part ++ back)) = simp length-append (omega arith) in
    rw (sets-eq bs (front ++ (part ++ back)) (length front) fits, take-append_seam front (part ++ back), drop-append-add front (part ++ back) (length bs), ← e, drop-append_seam part back)
    (append_assoc front bs back)

pub sets-zeros : (front bs : List ℕ) (a b n place : ℕ) → n ≡ a + (length bs + b) → place ≡ length front + a
    → sets (front ++ replicate n 0) place bs ≡ front ++ (replicate a 0 ++ (bs ++ replicate b 0))
sets-zeros front bs a b n place e p =
    let long : length (front ++ replicate a 0) ≡ place = simp (length-append, length-replicate) (omega arith) in
    let split : front ++ replicate n 0 ≡ (front ++ replicate a 0) ++ (replicate (length bs) 0 ++ replicate b 0) =
    rw (e, ← replicate-append-replicate {A = ℕ} a (length bs + b) 0, ← replicate-append-replicate {A = ℕ} (length bs) b 0) (sym (append_assoc front (replicate a 0) _)) in
    let stored = sets-part (front ++ replicate a 0) (replicate (length bs) 0) (replicate b 0) bs (length-replicate (length bs) 0) in
    rw (split, ← long, stored) (append_assoc front (replicate a 0) (bs ++ replicate b 0))

-- ---- The record of a new watch

-- The first eight bytes: processes, lines, none pending, one frontier kept.
head : ℕ → ℕ → List ℕ
head k lines = k ∷ lines ∷ 0 ∷ 0 ∷ bytes_of 4 1

head_stored : (k lines m : ℕ) → put (set (set (replicate (8 + m) 0) 0 k) 1 lines) 4 4 1 ≡ head k lines ++ replicate m 0
unfolding head put bytes_of
head_stored k lines m = rw (← replicate-append-replicate {A = ℕ} 8 m 0)

five : (a b c d e : List ℕ) → a ++ (b ++ (c ++ (d ++ e))) ≡ a ++ b ++ c ++ d ++ e
five a b c d e = simp append_assoc

pub stored_record : (w k lines : ℕ) (s table : List ℕ) → length s ≡ record_length w → lines ≤ 64 → 3 * lines ≤ length table
    → sets (put (set (set (replicate (length s) 0) 0 k) 1 lines) 4 4 1) (table_place w) (take (3 * lines) table)
    ≡ first_record w k (lines_of table lines)
unfolding first_record head
stored_record w k lines s table long few enough =
    let bs : List ℕ = take (3 * lines) table in
    let count : length bs ≡ 3 * lines = length-take-le (3 * lines) table enough in
    let m : ℕ = 72 * w + 192 + 32 * event_length w in
    let total : length s ≡ 8 + m = omega arith in
    let behind : ℕ = 192 - 3 * lines + 32 * event_length w in
    let table_stored : sets (head k lines ++ replicate m 0) (table_place w) bs ≡ head k lines ++ (replicate (72 * w) 0 ++ (bs ++ replicate behind 0)) =
    sets-zeros (head k lines) bs (72 * w) behind m (table_place w) (omega arith) (omega (arith, length-bytes_of 4 1)) in
    rw (total, head_stored k lines m, table_stored, length-lines_from table lines 0, table_bytes_lem table lines enough, count, ← replicate-append-replicate {A = ℕ} (192 - 3 * lines) (32 * event_length w) 0)
    (five (head k lines) (replicate (72 * w) 0) bs (replicate (192 - 3 * lines) 0) (replicate (32 * event_length w) 0))

-- ---- The window of a new watch

pub zeros_fit : (n w p : ℕ) → at (replicate n 0) p < 256 ^ w
zeros_fit zero w p = pow_256_pos w
zeros_fit (suc n) w zero = pow_256_pos w
zeros_fit (suc n) w (suc p) = zeros_fit n w p

pub stored_window : (w n : ℕ) (labels : List ℕ) (values : ℕ) → length labels ≡ 8 → frontier_length w ≤ n
    → let f : Frontier = record { counts = replicate 8 0; labels = labels; masks = replicate 8 0; values = values } in
    sets (replicate n 0) 0 (frontier_bytes w f) ≡ window_bytes w n (zeros_judged labels values)
unfolding window_bytes framed
stored_window w n labels values l h =
    let f : Frontier = record { counts = replicate 8 0; labels = labels; masks = replicate 8 0; values = values } in
    let long : length (frontier_bytes w f) ≡ frontier_length w = length_eights w f refl l refl in
    let one : length (zeros_judged labels values) * frontier_length w ≡ frontier_length w = omega arith in
    rw (one, append-nil) (sets-zeros [] (frontier_bytes w f) 0 (n - frontier_length w) n 0 (omega arith) refl)

-- ---- Opened with a table

module _ (w k : ℕ) (labels table : List ℕ) (lines n : ℕ) where
  -- The values of the cut of zeros.
  abbrev pub start_values : ℕ
  start_values = judge labels 0 0 false (lines_of table lines)

  pub opened_reply : 256 * flag (bit start_values (lines - 1)) + 65536 * 1 ≡ reply_word (open_table w (lines_of table lines) k labels n).answer
  unfolding open_table state_of start_frontier reply_word
  opened_reply = rw (length-lines_from table lines 0)

  pub opened_bytes : first_record w k (lines_of table lines) ≡ (open_table w (lines_of table lines) k labels n).bytes
  unfolding open_table
  opened_bytes = refl

  pub opened_window : window_bytes w n (zeros_judged labels start_values) ≡ (open_table w (lines_of table lines) k labels n).window
  unfolding open_table start_frontier
  opened_window = refl
