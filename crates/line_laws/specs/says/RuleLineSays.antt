-- A rule's line is accepted exactly if it says a form of the grammar within the limits.
use Rattle.std.specs.Prelude.{ℕ, ◌+◌, ◌-◌, ◌≤◌, ◌<◌, ◌≡◌, refl, ◌&&◌, List, [], ◌∷◌, ◌++◌, ltb, length, drop}
use Rattle.std.proofs.Common.{arith, sym, ap, ◌∙◌, length-append, length-take, length-drop, get_or-take, get_or-drop, ltb-false, le-ltb}
use Rattle.std.proofs.Math.Seq.{take-append_seam}
use Rattle.rules.specs.Formula.{Formula, atom, constant, unary, binary}
use Rattle.codec.specs.Ascii.{ascii}
use Rattle.rules.specs.Text.{byte_at, text_of}
use Rattle.rules.specs.Fault.{StandsAt, Span}
use Rattle.rules.specs.Reader.{Reading, formed, faulty, read_rule}
use Rattle.rules.specs.reading.ReaderAccepts.{reader_accepts}
use Rattle.rules.specs.reading.WordLaws.{span_byte, span_append, if_byte}
use Rattle.line_pieces.specs.Read.{Read, At, Refused}
use Rattle.line_pieces.specs.Reading.{head_read, line_limit, limited}
use Rattle.lines.specs.RuleLine.{RuleLine, Rule, Refused as RuleRefused}
use Rattle.lines.specs.Lines.{rule_text, rule_closed, rule_of, rule_line}
use Rattle.line_laws.specs.LineSays.{RuleSays, RuleIsAsSaid, RuleBytesAreTheForm}
use Rattle.line_laws.specs.pieces.NumberTextRead.{if_known}
use Rattle.line_laws.specs.faults.FaultTheorem.{stands_of}
use Rattle.line_laws.specs.says.LineNumbers.{head_met, whole_line}
use Rattle.line_laws.specs.says.SaidIsRead.{bytes_within, ends-all, ends_on}

-- ---- An accepted line says a form

not_rule : (a b n i : ℕ) → Rule a b ≡ RuleRefused n i → ⊥
not_rule a b n i e = let z : ◌≡◌ {A = ℕ} 0 1 = cc in omega arith

-- What the code's tests say.
record Accepted (s : List ℕ) (k start end : ℕ) : Type 0 where
  head_place : ℕ
  head_value : ℕ
  head : head_read s (ascii "(rule ") ≡ At head_place head_value
  short : length s ≤ line_limit
  form_end : ℕ
  form : Formula
  read : read_rule (rule_text s) k ≡ formed form_end form
  last : byte_at s (length s - 1) ≡ 41
  places : (start ≡ 6) × (end ≡ length s - 1)

accepted : (s : List ℕ) (k start end : ℕ) → rule_line s k ≡ Rule start end → Accepted s k start end
unfolding rule_line rule_of rule_closed limited
accepted s k start end h = go (head_read s (ascii "(rule ")) refl h
  where
    closed : (i v : ℕ) → head_read s (ascii "(rule ") ≡ At i v → length s ≤ line_limit → (r : Reading)
        → read_rule (rule_text s) k ≡ r
        → rule_closed s r ≡ Rule start end → Accepted s k start end
    closed i v e short (faulty n j) f q = absurd (not_rule start end n j (sym q))
    closed i v e short (formed j g) f q =
        if_byte (λ (x : RuleLine). x ≡ Rule start end → Accepted s k start end) (byte_at s (length s - 1)) 41
        (Rule 6 (length s - 1)) (RuleRefused 1 (length s - 1))
        (λ b w. let y : 6 ≡ start = cc in
        let z : length s - 1 ≡ end = cc in
        record {
          head_place = i;
          head_value = v;
          head = e;
          short = short;
          form_end = j;
          form = g;
          read = f;
          last = b;
          places = (sym y, sym z);
        })
        (λ _ w. absurd (not_rule start end 1 (length s - 1) (sym w))) q

    go : (r : Read) → head_read s (ascii "(rule ") ≡ r → rule_of s k (limited s r) ≡ Rule start end
        → Accepted s k start end
    go (At i v) e q =
        if_known (λ (x : Read). rule_of s k x ≡ Rule start end → Accepted s k start end) (ltb line_limit (length s))
        (Refused 10 line_limit) (At i v)
        (λ _ w. absurd (not_rule start end 10 line_limit (sym w)))
        (λ t w. closed i v e (ltb-false line_limit (length s) t) (read_rule (rule_text s) k) refl w) q
    go (Refused n i) e q =
        absurd (if_known (λ (x : Read). rule_of s k x ≡ Rule start end → ⊥)
        (ltb line_limit (length s) && ltb line_limit i) (Refused 10 line_limit) (Refused n i)
        (λ _ w. not_rule start end 10 line_limit (sym w)) (λ _ w. not_rule start end n i (sym w)) q)

-- No form's text is empty.
text-some : (f : Formula) → 0 < length (text_of f)
unfolding text_of
text-some (atom p b) = omega arith
text-some (constant w) = omega arith
text-some (unary w f) = omega arith
text-some (binary w f g) = omega arith

-- Behind the head the rule's bytes stand, up to the last byte.
rule_size : (s : List ℕ) → length (rule_text s) ≡ length s - 7
unfolding rule_text
rule_size s = omega (arith, length-take (length s - 7) (drop 6 s), length-drop 6 s)

rule_bytes : (s : List ℕ) (l : ℕ) → l < length (rule_text s) → byte_at s (6 + l) ≡ byte_at (rule_text s) l
unfolding rule_text
rule_bytes s l p =
    let k : l < length s - 7 = omega (arith, p, rule_size s) in
    sym (get_or-take (length s - 7) (drop 6 s) l 256 k ∙ get_or-drop 6 s l 256)

rule_span : (s : List ℕ) → 7 ≤ length s → Span s 6 (rule_text s) (length s - 1)
rule_span s long = record
    { stands = stands_of s (rule_text s) 6 (rule_bytes s); ends = omega (arith, rule_size s, long) }

rule_whole : (s : List ℕ) (i : ℕ) → 7 ≤ length s → Span s 0 (ascii "(rule ") i → byte_at s (length s - 1) ≡ 41
    → s ≡ ascii "(rule " ++ (rule_text s ++ 41 ∷ [])
rule_whole s i long head last =
    let place : i ≡ 6 = omega (arith, head.ends) in
    whole_line s (ascii "(rule " ++ (rule_text s ++ 41 ∷ [])) (length s - 1 + 1)
    (span_append (rw place at head) (span_append (rule_span s long) (span_byte s (length s - 1) 41 last)))
    (omega (arith, long))

said : (s : List ℕ) (k start end : ℕ) → Accepted s k start end → (f : Formula) × RuleSays s k f
said s k start end a =
    let r = (reader_accepts (rule_text s) k a.form_end a.form).0 a.read in
    let long : 7 ≤ length s = omega (arith, ap length r.0, text-some a.form, rule_size s) in
    let head = head_met s (ascii "(rule ") a.head_place a.head_value a.head in (
      a.form,
      record {
        text = rw r.0 (rule_whole s a.head_place long head a.last);
        grammatical = r.2;
        limits = r.3;
        short = a.short;
      },
    )

-- ---- A line that says a form is accepted

rule_text_lem : (t : List ℕ) → rule_text (ascii "(rule " ++ (t ++ 41 ∷ [])) ≡ t
unfolding rule_text
rule_text_lem t =
    let size : length (ascii "(rule " ++ (t ++ 41 ∷ [])) - 7 ≡ length t = omega (arith, length-append t (41 ∷ [])) in
    rw size (take-append_seam t (41 ∷ []))

pub rule_bytes_are_the_form : RuleBytesAreTheForm
rule_bytes_are_the_form s k f x = ap rule_text x.text ∙ rule_text_lem (text_of f)

said_accepted : (s : List ℕ) (k : ℕ) (f : Formula) → RuleSays s k f → rule_line s k ≡ Rule 6 (length s - 1)
unfolding rule_line rule_of rule_closed limited StandsAt
said_accepted s k f x =
    let all = ends-all s (ascii "(rule " ++ (text_of f ++ 41 ∷ [])) x.text in
    let head = bytes_within s (ascii "(rule ") (text_of f ++ 41 ∷ []) 0 0 all.stands in
    let rest = ends_on s (0 + 6) (text_of f) (41 ∷ []) (ends_on s 0 (ascii "(rule ") (text_of f ++ 41 ∷ []) all) in
    let place : length s - 1 ≡ 0 + 6 + length (text_of f) = omega (arith, rest.size) in
    let last : byte_at s (length s - 1) ≡ 41 = rw place rest.stands.0 in
    let read = (reader_accepts (rule_text s) k (length (rule_text s)) f).1
    (sym (rule_bytes_are_the_form s k f x), refl, x.grammatical, x.limits) in
    rw (head, le-ltb line_limit (length s) x.short, read, last)

-- ---- The theorem

pub rule_is_as_said : RuleIsAsSaid
rule_is_as_said s k start end = (
  λ h. let a = accepted s k start end h in (a.places.0, (a.places.1, said s k start end a)),
  λ x. rw (x.0, x.1.0) (said_accepted s k x.1.1.0 x.1.1.1),
)
