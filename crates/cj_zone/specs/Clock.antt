-- The UTC offset of a clock, as `jiff` states it of the clock itself.
use Rattle.std.specs.Prelude.{ℕ, ℤ, pos, ◌*ℤ◌}
use Rattle.jiff_tz.specs.PosixRule as Rule
use Rattle.jiff_tz.specs.Tzif as Table
use Rattle.cj_zone.specs.declared.rules.Rules.{Rules}
use Rattle.cj_zone.specs.declared.rules.Rules.TheVariants as Kind

-- the clock's UTC offset at the instant, in seconds
abbrev pub rules_offset : Rules → ℕ → ℤ
rules_offset Kind.Utc t = pos 0
rules_offset (Kind.Posix rule) t = (Rule.offset_at rule (pos t *ℤ pos 1_000_000_000)).seconds
rules_offset (Kind.Table table) t = (Table.offset_at table (pos t *ℤ pos 1_000_000_000)).seconds
