-- end_of_month: its clause year, since a month lies in one year.
use Rattle.std.proofs.Common.{◌≡◌, ◌∙◌, sym, ap, arith, pos, ◌+ℤ◌, ◌*ℤ◌, ◌-◌, ◌/◌}
use Rattle.jiff_core.proofs.SignedLemmas.{signed_arith}
use Rattle.jiff_core.proofs.CalendarLemmas.{days_in_month_bounds}
use Rattle.jiff_core.specs.Calendar.{days_in_month}
use Rattle.jiff_core.specs.Date.{epoch_day}
use Rattle.jiff_core.specs.DateTime.{civil_nanos}
use Rattle.jiff_core.specs.Timestamp.{nanos_of_seconds}
use Rattle.jiff_tz.specs.Zone.{offset_at}
use Rattle.cj_zone.proofs.TextLemmas.{is_at}
use Rattle.cj_zone.proofs.SteadyLemmas.{month_year, left_days}
use Rattle.cj_zone.proofs.steady.end_of_month.Goals as goal

pub returns-clause-year : goal.returns-clause-year
unfolding offset_at
returns-clause-year c = λ t above within.
    let count = c.get.ensures.value in
    let most = c.date-date.result.day_in.1 in
    let bounds = days_in_month_bounds c.date-date.result.year c.date-date.result.month in
    let days : c.days_in_month.result ≡ pos (days_in_month c.date-date.result.year c.date-date.result.month) =
    c.days_in_month.ensures in
    let day : c.day.result ≡ pos c.date-date.result.day = c.day.ensures in
    let left = left_days c.days_in_month.result c.day.result
    (days_in_month c.date-date.result.year c.date-date.result.month) c.date-date.result.day days day most bounds.0 in
    let told : civil_nanos c.to_datetime.result
    ≡ c.from_plain-instant.result.nanosecond +ℤ nanos_of_seconds (pos 0) = c.to_datetime.ensures in
    let instant : c.from_plain-instant.result.nanosecond ≡ pos c.args.at *ℤ pos 1_000_000_000 =
    rw c.from_plain-instant.ensures c.timestamp.ensures in
    let shown : civil_nanos c.to_datetime.result ≡ pos c.args.at *ℤ pos 1_000_000_000 = omega (arith, signed_arith) in
    let here : epoch_day c.date-date.result ≡ pos (c.args.at / 86_400) =
    ap epoch_day c.date-date.ensures ∙ (is_at c.to_datetime.result c.args.at shown).day in
    record {
      same = month_year c.date-date.result c.args.at c.args.at 0 here (omega arith) (omega arith)
          ∙ sym (month_year c.date-date.result c.args.at t (t / 86_400 - c.args.at / 86_400) here (omega arith)
          (omega arith));
    }
