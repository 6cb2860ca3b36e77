-- A part of the page that is stored as a whole: one that is copied, and blanks.
use Rattle.std.proofs.Common.{◌≡◌, ℕ, ◌+◌, ◌-◌, ◌≤◌, List, ◌++◌, length, take, drop, replicate, arith, ap, sym, ◌∙◌, append_assoc, length-drop, length-take-le}
use Rattle.std.proofs.lemmas.List.{length-replicate}
use Rattle.std.proofs.Math.Seq.{drop-drop}
use Rattle.std.proofs.lemmas.List.Edits.{sets, sets-eq}

-- What stands there when the k bytes from a on are lent, and come back as these.
abbrev pub with_part : (s : List ℕ) (a k : ℕ) (ys : List ℕ) → List ℕ
with_part s a k ys = take a s ++ (ys ++ drop k (drop a s))

pub part_stored : (s : List ℕ) (a k : ℕ) (ys : List ℕ) → length ys ≡ k → a + k ≤ length s → with_part s a k ys ≡ sets s a ys
part_stored s a k ys e h =
    sym (sets-eq ys s a (omega arith) ∙ rw (e, drop-drop k a s) (append_assoc (take a s) ys (drop (a + k) s)))

-- The n bytes from a on, up to place e.
pub blanked : (s : List ℕ) (a e n : ℕ) (ys : List ℕ) → e ≡ a + n → a + n ≤ length s
    → ys ≡ replicate (length (take (e - a) (drop a s))) 32 → with_part s a (e - a) ys ≡ sets s a (replicate n 32)
blanked s a e n ys end h q =
    let k : e - a ≡ n = omega arith in
    let long : length (take (e - a) (drop a s)) ≡ n = length-take-le (e - a) (drop a s) (simp length-drop (omega arith)) ∙ k in
    let blanks : ys ≡ replicate n 32 = q ∙ rw long in
    part_stored s a (e - a) ys (ap length blanks ∙ length-replicate {A = ℕ} n 32 ∙ sym k) (omega arith)
    ∙ ap (sets s a) blanks
