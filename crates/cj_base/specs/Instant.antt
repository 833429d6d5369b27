-- The instants that objects may carry.
use Rattle.std.specs.Prelude.{ℕ}

-- 9998-12-31T23:59:59Z in seconds since 1970-01-01T00:00:00Z
-- rule: instant-range
abbrev pub last_second : ℕ
last_second = 253_370_764_799

-- the last millisecond of that second, 9998-12-31T23:59:59.999Z
-- rule: moment-range
abbrev pub last_milli : ℕ
last_milli = 253_370_764_799_999
