-- The lines on small texts, computed: the program's own example, and each kind of fault.
use Rattle.std.specs.Prelude.{ℕ, ◌≡◌, refl, List, [], ◌∷◌, map}
use Rattle.clocks.specs.Counts.{list_of}
use Rattle.codec.specs.Ascii.{ascii}
use Rattle.rules.specs.Line.{constant_weight, unary_weight, binary_weight, line_count}
use Rattle.rules.specs.Reader.{rest_at, a_word_at, e_word_at, word_at, and_then, expect, expect_digit, close_at, atom_at, inner_with, unary_with, binary_with, body_with, form_at, read_rule}
use Rattle.lines.specs.RuleLine.{RuleLine, Rule, Refused as RuleRefused}
use Rattle.lines.specs.WatchLine.{WatchLine, Watch, Refused as WatchRefused}
use Rattle.lines.specs.StartLine.{StartLine, Start, Refused as StartRefused}
use Rattle.lines.specs.DidLine.{DidLine, Did, Refused as DidRefused}
use Rattle.codec.specs.Decimal.{digits, value_from}
use Rattle.line_pieces.specs.Number.{number_of, number_at}
use Rattle.line_pieces.specs.Reading.{value_read, then_byte, then_bytes, then_number, then_end, limited, then_last}
use Rattle.line_pieces.specs.NumberList.{after_number, numbers_at, then_list, then_spaced_list, then_close}
use Rattle.lines.specs.Words.{packed_word, placed}
use Rattle.lines.specs.Lines.{watch_of, watch_line, start_of, start_line, did_of, did_line, rule_text, rule_closed, rule_of, rule_line}

-- Each line read, all definitions open.
watches : List ℕ → WatchLine
unfolding digits value_from number_of number_at value_read then_byte then_bytes then_number then_end limited then_last watch_of
    watch_line
watches s = watch_line s

starts : List ℕ → StartLine
unfolding digits value_from number_of number_at then_byte then_bytes then_end limited after_number numbers_at then_spaced_list
    then_close list_of packed_word start_of start_line
starts s = start_line s 2

did_lines : ℕ → List ℕ → DidLine
unfolding digits value_from number_of number_at value_read then_byte then_bytes then_end limited after_number numbers_at then_list
    then_close list_of packed_word placed then_last did_of did_line
did_lines k s = did_line s k

dids : List ℕ → DidLine
dids s = did_lines 2 s

rules : List ℕ → RuleLine
unfolding rest_at a_word_at e_word_at word_at and_then expect expect_digit close_at atom_at inner_with unary_with binary_with
    body_with form_at read_rule line_count constant_weight unary_weight binary_weight then_byte then_bytes limited rule_text
    rule_closed rule_of rule_line
rules s = rule_line s 2

-- Lines that are taken.
example_taken : (watches (ascii "(watch 2 4)") ≡ Watch 2 4) × (watches (ascii "(watch 0 1024)") ≡ Watch 0 1024)
    × (watches (ascii "(watch 65535 1)") ≡ Watch 65535 1) × (starts (ascii "(start 0 255)") ≡ Start 65280)
    × (dids (ascii "(did (0) (2 0) (0))") ≡ Did 1 2 0 0 0 0)
    × (dids (ascii "(did (1) (0 1) (1))") ≡ Did 2 4294967296 0 0 0 256)
    × (dids (ascii "(did (0 7) (1 65535) (3 4))") ≡ Did 129 281470681743361 0 0 0 288230376151711747)
unfolding watches starts dids did_lines
example_taken = (refl, refl, refl, refl, refl, refl, refl)

-- Counts of 32 bits, two in a word.
example_counts : (dids (ascii "(did (0) (65536 4294967295) (0))") ≡ Did 1 18446744069414649856 0 0 0 0)
    × (did_lines 8 (ascii "(did (7) (0 1 2 3 4 5 4294967295 65536) (9))")
    ≡ Did 128 4294967296 12884901890 21474836484 281479271677951 648518346341351424)
    × (dids (ascii "(did (0) (42949672950 1) (1))") ≡ DidRefused 10 10)
unfolding dids did_lines
example_counts = (refl, refl, refl)

-- 1: another byte, or the end too early; a needless leading 0.
example_1 : map watches
    (ascii "" ∷ ascii "(did" ∷ ascii "(wat" ∷ ascii "(watch 2)" ∷ ascii "(watch 2 4 4)" ∷ ascii "(watch 2 4"
    ∷ ascii "(watch 2 4) "
    ∷ ascii "(watch 02 4)" ∷ ascii "(watch 2 00)" ∷ ascii "(watch  2 4)" ∷ [])
    ≡ (WatchRefused 1 0 ∷ WatchRefused 1 1 ∷ WatchRefused 1 4 ∷ WatchRefused 1 8 ∷ WatchRefused 1 10
    ∷ WatchRefused 1 10 ∷ WatchRefused 1 11
    ∷ WatchRefused 1 8 ∷ WatchRefused 1 10 ∷ WatchRefused 1 7 ∷ [])
unfolding watches
example_1 = refl

-- 10: a number beyond its limits, judged where it has ended.
example_10 : map watches
    (ascii "(watch 2 0)" ∷ ascii "(watch 2 0" ∷ ascii "(watch 2 1025)" ∷ ascii "(watch 65536 0)"
    ∷ ascii "(watch 340282366920938463463374607431768211458 4)" ∷ [])
    ≡ (WatchRefused 10 9 ∷ WatchRefused 10 9 ∷ WatchRefused 10 9 ∷ WatchRefused 10 7 ∷ WatchRefused 10 7 ∷ [])
unfolding watches
example_10 = refl

-- Lists of a wrong length, for two processes.
example_start : map starts
    (ascii "(start)" ∷ ascii "(start )" ∷ ascii "(start 0)" ∷ ascii "(start 0 0 0)" ∷ ascii "(start 0 256)"
    ∷ ascii "(start 0 0" ∷ ascii "(start 0 0)x" ∷ [])
    ≡ (StartRefused 10 6 ∷ StartRefused 1 7 ∷ StartRefused 10 8 ∷ StartRefused 10 12
    ∷ StartRefused 10 9 ∷ StartRefused 1 10 ∷ StartRefused 1 11 ∷ [])
unfolding starts
example_start = refl

example_did : map dids
    (ascii "(di" ∷ ascii "(did () (1 0) ())" ∷ ascii "(did (1 0x" ∷ ascii "(did (8) (1 0) (1))"
    ∷ ascii "(did (0 0) (1 0) (1 1))" ∷ ascii "(did (0) () (1))"
    ∷ ascii "(did (0) (1 0 0) (1))" ∷ ascii "(did (0) (1 0) (1 1))" ∷ ascii "(did (0) (1 4294967296) (1))"
    ∷ ascii "(did (0) (1 0) (256))"
    ∷ ascii "(did (0)(1 0) (1))" ∷ ascii "(did (0) (1 0) (1)" ∷ ascii "(did (0) (1 0) (1)))"
    ∷ ascii "(did ( 0) (1 0) (1))" ∷ ascii "(did (0 ) (1 0) (1))" ∷ [])
    ≡ (DidRefused 1 3 ∷ DidRefused 10 6 ∷ DidRefused 10 8 ∷ DidRefused 10 6 ∷ DidRefused 10 8 ∷ DidRefused 10 10
    ∷ DidRefused 10 15 ∷ DidRefused 10 19 ∷ DidRefused 10 12 ∷ DidRefused 10 16
    ∷ DidRefused 1 8 ∷ DidRefused 1 18 ∷ DidRefused 1 19 ∷ DidRefused 1 6 ∷ DidRefused 1 8 ∷ [])
unfolding dids did_lines
example_did = refl

-- A rule's line: its head, the rule's own faults counted from the rule's first byte, the last byte.
example_rule : map rules
    (ascii "(rule (at 0 0))" ∷ ascii "(rule (at 0 0)x" ∷ ascii "(rule " ∷ ascii "(rule" ∷ ascii "(rule)"
    ∷ ascii "(rule )" ∷ ascii "(rule x"
    ∷ ascii "(rule (at 0 0)" ∷ ascii "(rule (true)) " ∷ ascii "(rule (at 2 0))" ∷ [])
    ≡ (Rule 6 14 ∷ RuleRefused 1 14 ∷ RuleRefused 1 0 ∷ RuleRefused 1 5 ∷ RuleRefused 1 5
    ∷ RuleRefused 1 0 ∷ RuleRefused 1 0
    ∷ RuleRefused 1 7 ∷ RuleRefused 1 6 ∷ RuleRefused 4 4 ∷ [])
unfolding rules
example_rule = refl
