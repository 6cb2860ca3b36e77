-- Lists of numbers: the step of the code's loop.
use Prim.Native.Nat.{ℕ, suc, ◌+◌, ◌-◌, ◌≤◌, ◌<◌}
use native.Mathlib.Omega.{arith}
use mathlib.Core.Path.{◌≡◌, refl, sym, ap, ◌∙◌}
use mathlib.Core.Bool.{Bool, true, false, cond}
use mathlib.Core.List.{List, [], ◌∷◌, ◌++◌}
use lib.Dec.{ltb, eqb}
use lib.ListN.{length, length-append, length-set, get_or, set, replicate, get_or-append}
use lib.Seq.{ext_get_or, get_or-append_seam, get_or-set_same, get_or-set_other}
use borrow.Author.Tests.{ltb-true, ltb-false, eqb-true, eqb-false}
use Rattle.clocks.specs.Counts.{at, list_of}
use Rattle.clocks.specs.stored.CountsLaws.{length-list_of, get_d_list_of, at_beyond}
use Rattle.rules.specs.Text.{byte_at}
use Rattle.line_pieces.specs.Read.{At}
use Rattle.line_pieces.specs.ReadingCode.{fault_of}
use Rattle.line_pieces.specs.Number.{number_at}
use Rattle.line_pieces.specs.NumberLaws.{number-after}
use Rattle.std.specs.Prelude.{Ok, Err}
use Rattle.line_pieces.specs.NumberList.{after_number, numbers_at, all_numbers_at, eight_values}
use Rattle.line_pieces.specs.NumberListCode.{numbers_of, numbers_read}
use Rattle.line_pieces.specs.declared.BadList.{BadList}

-- ---- The numbers kept

-- A number more takes the place behind those that are there; behind the eighth place it is not kept.
pub eight_more : (ns : List ℕ) (v : ℕ) → eight_values (ns ++ v ∷ []) ≡ set (eight_values ns) (length ns) v
eight_more ns v =
    ext_get_or 0 (eight_values (ns ++ v ∷ [])) (set (eight_values ns) (length ns) v)
    (length-list_of 8 (at (ns ++ v ∷ [])) ∙ sym (length-list_of 8 (at ns))
    ∙ sym (length-set (eight_values ns) (length ns) v))
    (λ p h. let q : p < 8 = omega (arith, length-list_of 8 (at (ns ++ v ∷ []))) in
    get_d_list_of 8 (at (ns ++ v ∷ [])) p 0 q ∙ go p q (ltb p (length ns)) (eqb p (length ns)) refl refl)
  where
    go : (p : ℕ) → p < 8 → (a b : Bool) → ltb p (length ns) ≡ a → eqb p (length ns) ≡ b
        → at (ns ++ v ∷ []) p ≡ get_or (set (eight_values ns) (length ns) v) p 0
    go p q a true e f =
        let r : p ≡ length ns = eqb-true p (length ns) f in
        let l : length ns < length (eight_values ns) = omega (arith, length-list_of 8 (at ns)) in
        rw (r) (get_or-append_seam ns v [] 0 ∙ sym (get_or-set_same (eight_values ns) (length ns) v 0 l))
    go p q true false e f =
        let r : p < length ns = ltb-true p (length ns) e in
        get_or-append ns (v ∷ []) 0 p r
        ∙ sym (get_or-set_other (eight_values ns) (length ns) p v 0 (eqb-false p (length ns) f)
        ∙ get_d_list_of 8 (at ns) p 0 q)
    go p q false false e f =
        let l : length ns ≤ p = ltb-false p (length ns) e in
        let r : length (ns ++ v ∷ []) ≤ p = omega (arith, length-append ns (v ∷ []), eqb-false p (length ns) f) in
        at_beyond (ns ++ v ∷ []) p r
        ∙ sym (get_or-set_other (eight_values ns) (length ns) p v 0 (eqb-false p (length ns) f)
        ∙ get_d_list_of 8 (at ns) p 0 q
        ∙ at_beyond ns p l)

-- ---- The loop

-- What the loop keeps to: it has read the numbers ns, and the rest from here on is what is left of the whole list.
pub record Going (s : List ℕ) (ascending : Bool) (most start : ℕ) (values : List ℕ)
    (count least here : ℕ) : Type 0 where
  pub numbers : List ℕ
  pub values_are : values ≡ eight_values numbers
  pub count_is : count ≡ length numbers
  pub few : length numbers ≤ length s
  pub near : length numbers ≤ here
  pub goes : all_numbers_at s ascending most start
      ≡ numbers_at (length s + 1 - length numbers) s ascending most least numbers here

pub going_start : (s : List ℕ) (ascending : Bool) (most start : ℕ)
    → Going s ascending most start (replicate 8 0) 0 0 start
unfolding list_of
going_start s ascending most start = record {
  numbers = [];
  values_are = refl;
  count_is = refl;
  few = omega arith;
  near = omega arith;
  goes = ap (λ (n : ℕ). numbers_at n s ascending most 0 [] start) (omega arith);
}

module _ {s : List ℕ} {ascending : Bool} {most start : ℕ} {values : List ℕ} {count least here : ℕ}
    (g : Going s ascending most start values count least here) where
  -- One number further.
  going_step : all_numbers_at s ascending most start
      ≡ after_number s ascending (numbers_at (length s - length g.numbers) s ascending most) g.numbers
      (number_at s here least most)
  unfolding numbers_at
  going_step =
      let e : length s + 1 - length g.numbers ≡ suc (length s - length g.numbers) = omega (arith, g.few) in
      g.goes ∙ rw e

  pub going_refused : (bad : BadList) → bad.values ≡ values → fault_of bad.fault ≡ number_at s here least most
      → numbers_of (Err bad) ≡ numbers_read (all_numbers_at s ascending most start)
  unfolding after_number
  going_refused bad kept met = rw (going_step, ← met, kept, g.values_are)

  pub going_last : (i v : ℕ) (more : List ℕ) → At i v ≡ number_at s here least most → eqb (byte_at s i) 32 ≡ false
      → more ≡ set values count v
      → numbers_of (Ok (record { values = more; here = record { place = i; value = count + 1 } }))
      ≡ numbers_read (all_numbers_at s ascending most start)
  unfolding after_number
  going_last i v more h q m = rw (going_step, ← h, q, m, g.values_are, g.count_is, eight_more g.numbers v)

  pub going_on : (i v next : ℕ) (more : List ℕ) → At i v ≡ number_at s here least most → eqb (byte_at s i) 32 ≡ true
      → i < length s → more ≡ set values count v → next ≡ cond ascending (v + 1) 0
      → Going s ascending most start more (count + 1) next (i + 1)
  unfolding after_number
  going_on i v next more h q l m e =
      let a = number-after s here least most i v (sym h) in
      let n = length-append g.numbers (v ∷ []) in
      let left : length s - length g.numbers ≡ length s + 1 - length (g.numbers ++ v ∷ []) =
      omega (arith, n, g.few, g.near) in
      record {
        numbers = g.numbers ++ v ∷ [];
        values_are = rw (m, g.values_are, g.count_is) (sym (eight_more g.numbers v));
        count_is = omega (arith, n, g.count_is);
        few = omega (arith, n, a.behind, g.near);
        near = omega (arith, n, a.behind, g.near);
        goes = going_step ∙ rw (← h, q, e, left);
      }
