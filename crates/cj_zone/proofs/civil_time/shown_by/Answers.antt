-- shown_by: its one clause, since jiff's zone shows the instant and how far it is ahead.
use Rattle.std.proofs.Common.{pos, ap, ◌∙◌}
use Rattle.jiff_core.specs.DateTime.{civil_nanos}
use Rattle.cj_zone.specs.Clock.{rules_offset}
use Rattle.cj_zone.proofs.ZoneLemmas.{nanos_of_sum}
use Rattle.cj_zone.proofs.civil_time.shown_by.Goals as goal

pub returns : goal.returns
returns c = ap civil_nanos c.to_plain.ensures ∙ c.to_datetime.ensures
    ∙ rw (c.from_plain-zone.ensures, c.from_plain.ensures, c.timestamp.ensures, c.zone.ensures c.args.at)
    (nanos_of_sum (pos c.args.at) (rules_offset c.args.rules.now c.args.at))
