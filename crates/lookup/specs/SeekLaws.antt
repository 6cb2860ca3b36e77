-- The look-up on an ascending list finds exactly what is there, whatever the hint; and its loops, turn by turn.
use Prim.Native.Nat.{ℕ, zero, suc, ◌+◌, ◌-◌, ◌/◌, ◌≤◌, ◌<◌, ◌*◌}
use Rattle.std.proofs.Common.{arith, sym, ap, ◌∙◌, true≢false, lt-ltb, le-ltb}
use Rattle.std.proofs.Math.Decide.{dec_lt}
use Rattle.std.specs.Prelude.{◌≡◌, Bool, true, false, ◌↔◌, get_or, T}
use Rattle.std.proofs.Math.Path.{refl}
use mathlib.Core.List.{List, [], Memᴰ}
use Rattle.std.proofs.Math.ListN.{length}
use Rattle.clocks.specs.cuts.EventLaws.{T_true}
use Rattle.lookup.specs.Seek.{standing, stands_to, bisect, gallop, seek}
use Rattle.std.specs.declared.cmp.Ordering.{Ordering}
use Rattle.std.specs.declared.cmp.Ordering.TheVariants.{Less, Equal, Greater}
use Rattle.lookup.specs.Order.{before, same}
use Rattle.lookup.specs.Ascending.{Ascending}
use Rattle.lookup.specs.OrderLaws.{same_e, same_refl, before_asym, before_differ}
use Rattle.frontiers.specs.ListLaws.{place_member, member_place}

-- ---- How counts stand to a key

not_T : (b : Bool) → (T b → ⊥) → b ≡ false
not_T true n = absurd (n tt)
not_T false n = refl

pub standing-same : (a : List ℕ) → standing a a ≡ Equal
unfolding standing
standing-same a = rw (T_true (same a a) (same_refl a))

pub standing-before : (a b : List ℕ) → T (before a b) → standing a b ≡ Less
unfolding standing
standing-before a b t = rw (not_T (same a b) (λ s. before_differ a b t (same_e a b s)), T_true (before a b) t)

pub standing_behind : (a b : List ℕ) → T (before b a) → standing a b ≡ Greater
unfolding standing
standing_behind a b t = rw (not_T (same a b) (λ s. before_differ b a t (sym (same_e a b s))), not_T (before a b) (before_asym b a t))

-- Only the key itself stands as the same.
pub standing_e : (a b : List ℕ) → standing a b ≡ Equal → a ≡ b
unfolding standing
standing_e a b e = go (same a b) refl (before a b) refl
  where
    is_same : Ordering → Bool
    is_same x = elim x [ Less ↦ false | Equal ↦ true | Greater ↦ false ]

    go : (t : Bool) → same a b ≡ t → (u : Bool) → before a b ≡ u → a ≡ b
    go true q u r = same_e a b (rw q tt)
    go false q true r = absurd (true≢false (sym (ap is_same (rw (q, r) at e))))
    go false q false r = absurd (true≢false (sym (ap is_same (rw (q, r) at e))))

-- ---- The loops, turn by turn: with enough turns allowed, their number makes no difference

module _ (keys : List (List ℕ)) (key : List ℕ) where
  pub bisect-end : (d lo hi : ℕ) → hi ≤ lo → bisect keys key d lo hi ≡ length keys
  unfolding bisect
  bisect-end zero lo hi l = refl
  bisect-end (suc d) lo hi l = rw (le-ltb lo hi l, bisect)

  bisect-turn : (d lo hi : ℕ) → lo < hi → (b : Ordering) → stands_to keys key (lo + (hi - lo) / 2) ≡ b
      → bisect keys key (suc d) lo hi
      ≡ elim b [ Less ↦ bisect keys key d (lo + (hi - lo) / 2 + 1) hi | Equal ↦ lo + (hi - lo) / 2 | Greater ↦ bisect keys key d lo (lo + (hi - lo) / 2) ]
  unfolding bisect
  bisect-turn d lo hi l b t = rw (lt-ltb lo hi l, t, bisect)

  bisect_fuel : (d e lo hi : ℕ) → hi - lo ≤ d → hi - lo ≤ e → bisect keys key d lo hi ≡ bisect keys key e lo hi
  bisect_fuel zero e lo hi l m = bisect-end zero lo hi (omega arith) ∙ sym (bisect-end e lo hi (omega arith))
  bisect_fuel (suc d) zero lo hi l m = bisect-end (suc d) lo hi (omega arith) ∙ sym (bisect-end zero lo hi (omega arith))
  bisect_fuel (suc d) (suc e) lo hi l m = go (dec_lt lo hi) (stands_to keys key (lo + (hi - lo) / 2)) refl (bisect_fuel d e)
    where
      go : Dec (lo < hi) → (b : Ordering) → stands_to keys key (lo + (hi - lo) / 2) ≡ b
          → ((lo hi : ℕ) → hi - lo ≤ d → hi - lo ≤ e → bisect keys key d lo hi ≡ bisect keys key e lo hi)
          → bisect keys key (suc d) lo hi ≡ bisect keys key (suc e) lo hi
      go (no k) b q r = bisect-end (suc d) lo hi (omega arith) ∙ sym (bisect-end (suc e) lo hi (omega arith))
      go (yes k) Less q r =
          bisect-turn d lo hi k Less q ∙ r (lo + (hi - lo) / 2 + 1) hi (omega arith) (omega arith) ∙ sym (bisect-turn e lo hi k Less q)
      go (yes k) Equal q r = bisect-turn d lo hi k Equal q ∙ sym (bisect-turn e lo hi k Equal q)
      go (yes k) Greater q r =
          bisect-turn d lo hi k Greater q ∙ r lo (lo + (hi - lo) / 2) (omega arith) (omega arith) ∙ sym (bisect-turn e lo hi k Greater q)

  -- A turn: up, at its end, or down.
  pub bisect_step : (d lo hi : ℕ) → lo < hi → hi - lo ≤ d → (b : Ordering) → stands_to keys key (lo + (hi - lo) / 2) ≡ b
      → bisect keys key d lo hi
      ≡ elim b [ Less ↦ bisect keys key d (lo + (hi - lo) / 2 + 1) hi | Equal ↦ lo + (hi - lo) / 2 | Greater ↦ bisect keys key d lo (lo + (hi - lo) / 2) ]
  bisect_step zero lo hi k l b q = absurd (omega arith)
  bisect_step (suc d) lo hi k l Less q =
      bisect-turn d lo hi k Less q ∙ bisect_fuel d (suc d) (lo + (hi - lo) / 2 + 1) hi (omega arith) (omega arith)
  bisect_step (suc d) lo hi k l Equal q = bisect-turn d lo hi k Equal q
  bisect_step (suc d) lo hi k l Greater q =
      bisect-turn d lo hi k Greater q ∙ bisect_fuel d (suc d) lo (lo + (hi - lo) / 2) (omega arith) (omega arith)

  -- A gallop's last turn, past the end.
  gallop_over : (d lo width : ℕ) → length keys ≤ lo + width → gallop keys key (suc d) lo width ≡ bisect keys key (length keys) (lo + 1) (length keys)
  unfolding gallop
  gallop_over d lo width m = rw (le-ltb (lo + width) (length keys) m, gallop)

  pub gallop_past : (d lo width : ℕ) → lo < length keys → length keys - lo ≤ d → length keys ≤ lo + width
      → gallop keys key d lo width ≡ bisect keys key (length keys) (lo + 1) (length keys)
  gallop_past zero lo width k l m = absurd (omega arith)
  gallop_past (suc d) lo width k l m = gallop_over d lo width m

  gallop-turn : (d lo width : ℕ) → lo + width < length keys → (b : Ordering) → stands_to keys key (lo + width) ≡ b
      → gallop keys key (suc d) lo width
      ≡ elim b [ Less ↦ gallop keys key d (lo + width) (width * 2) | Equal ↦ lo + width | Greater ↦ bisect keys key (length keys) (lo + 1) (lo + width) ]
  unfolding gallop
  gallop-turn d lo width l b q = rw (lt-ltb (lo + width) (length keys) l, q, gallop)

  gallop_fuel : (d e lo width : ℕ) → lo < length keys → length keys - lo ≤ d → length keys - lo ≤ e → 0 < width
      → gallop keys key d lo width ≡ gallop keys key e lo width
  gallop_fuel zero e lo width k l m z = absurd (omega arith)
  gallop_fuel (suc d) zero lo width k l m z = absurd (omega arith)
  gallop_fuel (suc d) (suc e) lo width k l m z = go (dec_lt (lo + width) (length keys)) (stands_to keys key (lo + width)) refl (gallop_fuel d e)
    where
      go : Dec (lo + width < length keys) → (b : Ordering) → stands_to keys key (lo + width) ≡ b
          → ((lo width : ℕ) → lo < length keys → length keys - lo ≤ d → length keys - lo ≤ e → 0 < width → gallop keys key d lo width ≡ gallop keys key e lo width)
          → gallop keys key (suc d) lo width ≡ gallop keys key (suc e) lo width
      go (no n) b q r = gallop_past (suc d) lo width k l (omega arith) ∙ sym (gallop_past (suc e) lo width k m (omega arith))
      go (yes n) Less q r =
          gallop-turn d lo width n Less q ∙ r (lo + width) (width * 2) n (omega arith) (omega arith) (omega arith)
          ∙ sym (gallop-turn e lo width n Less q)
      go (yes n) Equal q r = gallop-turn d lo width n Equal q ∙ sym (gallop-turn e lo width n Equal q)
      go (yes n) Greater q r = gallop-turn d lo width n Greater q ∙ sym (gallop-turn e lo width n Greater q)

  -- A turn within: on, at its end, or back.
  pub gallop_step : (d lo width : ℕ) → length keys - lo ≤ d → 0 < width → lo + width < length keys → (b : Ordering) → stands_to keys key (lo + width) ≡ b
      → gallop keys key d lo width
      ≡ elim b [ Less ↦ gallop keys key d (lo + width) (width * 2) | Equal ↦ lo + width | Greater ↦ bisect keys key (length keys) (lo + 1) (lo + width) ]
  gallop_step zero lo width l z k b q = absurd (omega arith)
  gallop_step (suc d) lo width l z k Less q =
      gallop-turn d lo width k Less q ∙ gallop_fuel d (suc d) (lo + width) (width * 2) k (omega arith) (omega arith) (omega arith)
  gallop_step (suc d) lo width l z k Equal q = gallop-turn d lo width k Equal q
  gallop_step (suc d) lo width l z k Greater q = gallop-turn d lo width k Greater q

  -- The first test of the look-up: up from the hint, at its end, or down.
  pub seek_step : (hint : ℕ) → hint < length keys → (b : Ordering) → stands_to keys key hint ≡ b
      → seek keys key hint
      ≡ elim b [ Less ↦ gallop keys key (length keys) hint 1 | Equal ↦ hint | Greater ↦ bisect keys key (length keys) 0 hint ]
  unfolding seek
  seek_step hint l b q = rw (lt-ltb hint (length keys) l, q, seek)

  pub seek_whole : (hint : ℕ) → length keys ≤ hint → seek keys key hint ≡ bisect keys key (length keys) 0 (length keys)
  unfolding seek
  seek_whole hint l = rw (le-ltb hint (length keys) l, seek)

  -- ---- Where the look-up ends, on any list: at the key, or at the number of keys

  -- The key stands at a place that is none after the last.
  abbrev Ends : ℕ → Type 0
  Ends i = i < length keys → stands_to keys key i ≡ Equal

  ends_at : (i j : ℕ) → i ≡ j → Ends j → Ends i
  ends_at i j e f = rw e f

  bisect-ends : (d lo hi : ℕ) → Ends (bisect keys key d lo hi)
  unfolding bisect
  bisect-ends zero lo hi = λ l. absurd (omega arith)
  bisect-ends (suc d) lo hi = go (dec_lt lo hi) (stands_to keys key (lo + (hi - lo) / 2)) refl (bisect-ends d)
    where
      go : Dec (lo < hi) → (b : Ordering) → stands_to keys key (lo + (hi - lo) / 2) ≡ b → ((lo hi : ℕ) → Ends (bisect keys key d lo hi))
          → Ends (bisect keys key (suc d) lo hi)
      go (no k) b q r = ends_at _ (length keys) (bisect-end (suc d) lo hi (omega arith)) (λ l. absurd (omega arith))
      go (yes k) Less q r = ends_at _ _ (bisect-turn d lo hi k Less q) (r (lo + (hi - lo) / 2 + 1) hi)
      go (yes k) Equal q r = ends_at _ _ (bisect-turn d lo hi k Equal q) (λ l. q)
      go (yes k) Greater q r = ends_at _ _ (bisect-turn d lo hi k Greater q) (r lo (lo + (hi - lo) / 2))

  gallop-ends : (d lo width : ℕ) → Ends (gallop keys key d lo width)
  unfolding gallop
  gallop-ends zero lo width = λ l. absurd (omega arith)
  gallop-ends (suc d) lo width = go (dec_lt (lo + width) (length keys)) (stands_to keys key (lo + width)) refl (gallop-ends d)
    where
      go : Dec (lo + width < length keys) → (b : Ordering) → stands_to keys key (lo + width) ≡ b → ((lo width : ℕ) → Ends (gallop keys key d lo width))
          → Ends (gallop keys key (suc d) lo width)
      go (no k) b q r = ends_at _ _ (gallop_over d lo width (omega arith)) (bisect-ends (length keys) (lo + 1) (length keys))
      go (yes k) Less q r = ends_at _ _ (gallop-turn d lo width k Less q) (r (lo + width) (width * 2))
      go (yes k) Equal q r = ends_at _ _ (gallop-turn d lo width k Equal q) (λ l. q)
      go (yes k) Greater q r = ends_at _ _ (gallop-turn d lo width k Greater q) (bisect-ends (length keys) (lo + 1) (lo + width))

  -- The look-up ends at the key, or at the number of keys.
  pub seek-ends : (hint : ℕ) → seek keys key hint < length keys → get_or keys (seek keys key hint) [] ≡ key
  seek-ends hint l = standing_e (get_or keys (seek keys key hint) []) key (go (dec_lt hint (length keys)) (stands_to keys key hint) refl l)
    where
      go : Dec (hint < length keys) → (b : Ordering) → stands_to keys key hint ≡ b → Ends (seek keys key hint)
      go (no k) b q = ends_at _ _ (seek_whole hint (omega arith)) (bisect-ends (length keys) 0 (length keys))
      go (yes k) Less q = ends_at _ _ (seek_step hint k Less q) (gallop-ends (length keys) hint 1)
      go (yes k) Equal q = ends_at _ _ (seek_step hint k Equal q) (λ l. q)
      go (yes k) Greater q = ends_at _ _ (seek_step hint k Greater q) (bisect-ends (length keys) 0 hint)

-- ---- On an ascending list

module _ (keys : List (List ℕ)) (asc : Ascending keys) where
  -- What stands before and after the key that stands at j.
  low : (j i : ℕ) → j < length keys → i < j → stands_to keys (get_or keys j []) i ≡ Less
  low j i l m = standing-before (get_or keys i []) (get_or keys j []) (asc i j m l)

  high : (j i : ℕ) → i < length keys → j < i → stands_to keys (get_or keys j []) i ≡ Greater
  high j i l m = standing_behind (get_or keys i []) (get_or keys j []) (asc j i m l)

  here : (j i : ℕ) → i ≡ j → stands_to keys (get_or keys j []) i ≡ Equal
  here j i e = rw e (standing-same (get_or keys j []))

  bisect-finds : (j : ℕ) → j < length keys → (d lo hi : ℕ) → hi - lo ≤ d → hi ≤ length keys → lo ≤ j → j < hi
      → bisect keys (get_or keys j []) d lo hi ≡ j
  bisect-finds j l zero lo hi e h a b = absurd (omega arith)
  bisect-finds j l (suc d) lo hi e h a b = go (dec_lt (lo + (hi - lo) / 2) j) (dec_lt j (lo + (hi - lo) / 2)) (bisect-finds j l d)
    where
      go : Dec (lo + (hi - lo) / 2 < j) → Dec (j < lo + (hi - lo) / 2)
          → ((lo hi : ℕ) → hi - lo ≤ d → hi ≤ length keys → lo ≤ j → j < hi → bisect keys (get_or keys j []) d lo hi ≡ j)
          → bisect keys (get_or keys j []) (suc d) lo hi ≡ j
      go (yes k) m r =
          bisect-turn keys (get_or keys j []) d lo hi (omega arith) Less (low j (lo + (hi - lo) / 2) l k)
          ∙ r (lo + (hi - lo) / 2 + 1) hi (omega arith) h (omega arith) b
      go (no k) (yes m) r =
          bisect-turn keys (get_or keys j []) d lo hi (omega arith) Greater (high j (lo + (hi - lo) / 2) (omega arith) m)
          ∙ r lo (lo + (hi - lo) / 2) (omega arith) (omega arith) a m
      go (no k) (no m) r =
          bisect-turn keys (get_or keys j []) d lo hi (omega arith) Equal (here j (lo + (hi - lo) / 2) (omega arith)) ∙ omega arith

  gallop-finds : (j : ℕ) → j < length keys → (d lo width : ℕ) → length keys - lo ≤ d → 0 < width → lo < j
      → gallop keys (get_or keys j []) d lo width ≡ j
  gallop-finds j l zero lo width e z a = absurd (omega arith)
  gallop-finds j l (suc d) lo width e z a = go (dec_lt (lo + width) (length keys)) (dec_lt (lo + width) j) (dec_lt j (lo + width)) (gallop-finds j l d)
    where
      go : Dec (lo + width < length keys) → Dec (lo + width < j) → Dec (j < lo + width)
          → ((lo width : ℕ) → length keys - lo ≤ d → 0 < width → lo < j → gallop keys (get_or keys j []) d lo width ≡ j)
          → gallop keys (get_or keys j []) (suc d) lo width ≡ j
      go (no k) m n r =
          gallop_past keys (get_or keys j []) (suc d) lo width (omega arith) e (omega arith)
          ∙ bisect-finds j l (length keys) (lo + 1) (length keys) (omega arith) (omega arith) (omega arith) l
      go (yes k) (yes m) n r =
          gallop-turn keys (get_or keys j []) d lo width k Less (low j (lo + width) l m) ∙ r (lo + width) (width * 2) (omega arith) (omega arith) m
      go (yes k) (no m) (yes n) r =
          gallop-turn keys (get_or keys j []) d lo width k Greater (high j (lo + width) k n)
          ∙ bisect-finds j l (length keys) (lo + 1) (lo + width) (omega arith) (omega arith) (omega arith) n
      go (yes k) (no m) (no n) r =
          gallop-turn keys (get_or keys j []) d lo width k Equal (here j (lo + width) (omega arith)) ∙ omega arith

  -- What stands at j is found at j, whatever the hint.
  pub seek_finds : (j : ℕ) → j < length keys → (hint : ℕ) → seek keys (get_or keys j []) hint ≡ j
  seek_finds j l hint = go (dec_lt hint (length keys)) (dec_lt hint j) (dec_lt j hint)
    where
      go : Dec (hint < length keys) → Dec (hint < j) → Dec (j < hint) → seek keys (get_or keys j []) hint ≡ j
      go (no k) m n =
          seek_whole keys (get_or keys j []) hint (omega arith)
          ∙ bisect-finds j l (length keys) 0 (length keys) (omega arith) (omega arith) (omega arith) l
      go (yes k) (yes m) n =
          seek_step keys (get_or keys j []) hint k Less (low j hint l m) ∙ gallop-finds j l (length keys) hint 1 (omega arith) (omega arith) m
      go (yes k) (no m) (yes n) =
          seek_step keys (get_or keys j []) hint k Greater (high j hint k n)
          ∙ bisect-finds j l (length keys) 0 hint (omega arith) (omega arith) (omega arith) n
      go (yes k) (no m) (no n) = seek_step keys (get_or keys j []) hint k Equal (here j hint (omega arith)) ∙ omega arith

-- The look-up ends at a place exactly if the key stands anywhere.
pub seek_member : (keys : List (List ℕ)) → Ascending keys → (key : List ℕ) (hint : ℕ) → (seek keys key hint < length keys) ↔ Memᴰ key keys
seek_member keys asc key hint = (found, ends)
  where
    found : seek keys key hint < length keys → Memᴰ key keys
    found l = rw (seek-ends keys key hint l) at (place_member keys (seek keys key hint) [] l)

    ends : Memᴰ key keys → seek keys key hint < length keys
    ends m =
        let r = member_place keys key [] m in
        let here : seek keys key hint ≡ r.0 = rw r.2 at (seek_finds keys asc r.0 r.1 hint) in
        rw here r.1
