-- The order of the lines on gaps: by the CronJob's namespace and name, then by its uid, then by
-- time.
use Rattle.std.specs.Prelude.{Bool}
use Rattle.std.specs.declared.cmp.Ordering.{Ordering}
use Rattle.std.specs.Ordering.{nat_cmp, is_lt, on, then_cmp}
use Rattle.cj_types.specs.Keys.{place_cmp}
use Rattle.cj_history.specs.declared.gaps.gap.Gap.{Gap}

abbrev pub gap_cmp : Gap → Gap → Ordering
gap_cmp = then_cmp (then_cmp (on (λ g. g.cron.key) place_cmp) (on (λ g. g.cron.meta.uid) nat_cmp))
    (on (λ g. g.time) nat_cmp)

-- rule: explain-gaps
abbrev pub comes_before : Gap → Gap → Bool
comes_before a b = is_lt (gap_cmp a b)
