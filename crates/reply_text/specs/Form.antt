-- The stored form of the program's watches.
use Rattle.std.specs.Prelude.{ℕ, ◌+◌, ◌*◌}

-- The bytes of a count (02 [6]). A record's length goes by it (records Record), and these two.
abbrev pub program_width : ℕ
program_width = 4

-- The bytes of a frontier: 56.
abbrev pub program_frontier : ℕ
program_frontier = 8 * program_width + 24

-- The bytes of the longest window, and so of the program's buffers for one: 57,344.
abbrev pub program_window : ℕ
program_window = 1024 * program_frontier
