-- Rules::zone: its one clause, at each kind of clock.
use Rattle.std.proofs.Common.{refl}
use Rattle.jiff_tz.specs.Zone.{offset_at}
use Rattle.cj_zone.proofs.rules.Rules.zone.Goals as goal

pub returns-in-Utc : goal.returns-in-Utc
unfolding offset_at
returns-in-Utc c = λ t. rw (c.to_plain.ensures, c.in-Utc.is) refl

pub returns-in-Posix : goal.returns-in-Posix
unfolding offset_at
returns-in-Posix c = λ t. rw c.in-Posix.is refl

pub returns-in-Table : goal.returns-in-Table
unfolding offset_at
returns-in-Table c = λ t. rw (c.to_plain-in-Table.ensures, c.tzif.ensures, c.in-Table.is) refl
