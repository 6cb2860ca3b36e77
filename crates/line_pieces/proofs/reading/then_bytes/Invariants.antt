-- The loop has met the bytes before this one: those that are left decide. Each turn is `then_bytes_next`.
use Rattle.std.proofs.Common.{◌≡◌, drop}
use Rattle.line_pieces.specs.ReadingCode.{here_of}
use Rattle.line_pieces.specs.Reading.{then_bytes}
use Rattle.line_pieces.proofs.reading.then_bytes.Given as goal

abbrev pub invariant-loop-b : goal.invariant-loop-b
invariant-loop-b l = then_bytes l.line l.bytes (here_of l.initial.read)
    ≡ then_bytes l.line (drop l.b-index l.bytes) (here_of l.read)
