-- What the code reads a line to, as the line that it gives.
use Rattle.std.specs.Prelude.{ℕ, true, false, List, Result, Ok, Err}
use Rattle.numbers.specs.declared.fault.Fault.{Fault}
use Rattle.numbers.specs.RefusalNumber.{number_of}
use Rattle.codec.specs.Ascii.{ascii}
use Rattle.line_pieces.specs.Reading.{value_read, then_byte, then_bytes, head_read, then_number, then_end}
use Rattle.line_pieces.specs.NumberList.{then_list, then_spaced_list, then_close, eight_values}
use Rattle.lines.specs.declared.watch.Watch.{Watch as WatchRead}
use Rattle.lines.specs.declared.rule.Rule.{Rule as RuleRead}
use Rattle.lines.specs.declared.did.Did.{Did as DidRead}
use Rattle.lines.specs.WatchLine.{WatchLine, Watch, Refused as WatchRefused}
use Rattle.lines.specs.RuleLine.{RuleLine, Rule, Refused as RuleRefused}
use Rattle.lines.specs.StartLine.{StartLine, Start, Refused as StartRefused}
use Rattle.lines.specs.DidLine.{DidLine, Did, Refused as DidRefused}
use Rattle.lines.specs.Lines.{k_limit, room_limit, label_limit, process_limit, count_limit, watch_of, start_of, did_of}

-- ---- What is read

abbrev pub watch_line_of : Result WatchRead Fault → WatchLine
watch_line_of (Ok watch) = Watch watch.k watch.room
watch_line_of (Err fault) = WatchRefused (number_of fault.refusal) fault.place

abbrev pub rule_line_of : Result RuleRead Fault → RuleLine
rule_line_of (Ok rule) = Rule rule.start rule.end
rule_line_of (Err fault) = RuleRefused (number_of fault.refusal) fault.place

abbrev pub start_line_of : Result ℕ Fault → StartLine
start_line_of (Ok labels) = Start labels
start_line_of (Err fault) = StartRefused (number_of fault.refusal) fault.place

abbrev pub did_line_of : Result DidRead Fault → DidLine
did_line_of (Ok did) = Did did.mask did.c01 did.c23 did.c45 did.c67 did.labels
did_line_of (Err fault) = DidRefused (number_of fault.refusal) fault.place

-- ---- The lines without the limit on their bytes

unfoldable pub watch_pieces : (s : List ℕ) → WatchLine
watch_pieces s =
    let k = then_number s 0 k_limit (head_read s (ascii "(watch ")) in
    let room = then_number s 1 room_limit (then_byte s 32 k) in
    watch_of (value_read k) (then_end s (then_byte s 41 room))

unfoldable pub start_pieces : (s : List ℕ) (k : ℕ) → StartLine
start_pieces s k =
    let labels = then_spaced_list s label_limit (head_read s (ascii "(start")) in
    start_of (eight_values labels.numbers) (then_end s (then_close s k k labels.read))

unfoldable pub did_pieces : (s : List ℕ) (k : ℕ) → DidLine
did_pieces s k =
    let processes = then_list s true process_limit (head_read s (ascii "(did (")) in
    let first = then_close s 1 8 processes.read in
    let counts = then_list s false count_limit (then_bytes s (ascii " (") first) in
    let second = then_close s k k counts.read in
    let labels = then_list s false label_limit (then_bytes s (ascii " (") second) in
    let third = then_close s (value_read first) (value_read first) labels.read in
    did_of (value_read first) processes.numbers counts.numbers labels.numbers (then_end s (then_byte s 41 third))
