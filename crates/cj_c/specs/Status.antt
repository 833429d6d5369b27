-- What an exported function answers, as the numbers that `include/cronsim.h` names.
use Rattle.std.specs.Prelude.{ℕ}

-- done
-- rule: library-status
abbrev pub done : ℕ
done = 0

-- there is no such time, or no such text
-- rule: library-status
abbrev pub none : ℕ
none = 1

-- a text is refused, and why is told
-- rule: library-status
abbrev pub refused : ℕ
refused = 2

-- memory ran out
-- rule: library-status
abbrev pub memory : ℕ
memory = 3

-- a time is after the year 9998
-- rule: library-status
abbrev pub range : ℕ
range = 4

-- the handle keeps nothing
-- rule: library-status
abbrev pub closed : ℕ
closed = 5

-- the buffer is too small
-- rule: library-status
abbrev pub room : ℕ
room = 6
