-- A line with the lines that it names raised: where a form's lines stand after others.
use Rattle.std.specs.Prelude.{ℕ, ◌+◌, cond, ◌||◌, eqb}
use Rattle.pactl.specs.declared.Line.{Line}
use Rattle.pactl.specs.Line.{line}

-- A line with every line that it names raised by n.
unfoldable pub raised : ℕ → Line → Line
raised n l =
    cond (eqb l.kind 0) l
    (cond (eqb l.kind 1 || eqb l.kind 3) (line l.kind (n + l.a) l.b)
    (line l.kind (n + l.a) (n + l.b)))
