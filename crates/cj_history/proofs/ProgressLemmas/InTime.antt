-- Where syncs keep up with a clock, each due time has its Job.
use Rattle.std.proofs.Common.{◌≡◌, ℕ, ◌≤◌, List, [], ◌++◌, sym, ap, ◌∙◌, arith}
use Rattle.std.proofs.lemmas.List.{append-nil}
use mathlib.Core.List.{reverse}
use Rattle.cj_types.specs.declared.cron.CronJob.{CronJob}
use Rattle.cj_schedule.specs.Matches.{Sets}
use Rattle.cj_zone.specs.declared.zone.Zone.{Zone}
use Rattle.cj_due.specs.Due.{IsQuiet, missed_times}
use Rattle.cj_due.proofs.MissedLemmas.{missed_times-none, missed_times-split}
use Rattle.cj_history.specs.progress.Every.{Moment, looked_upto, last_moment, GoOn, made_for}
use Rattle.cj_history.specs.progress.Prompt.{EachInTime, EachAllowed, EachEndedInTime}
use Rattle.cj_history.proofs.ProgressLemmas.Makers.{Good}
use Rattle.cj_history.proofs.ProgressLemmas.Synced.{looked_low, lets_each}
use Rattle.cj_history.proofs.ProgressLemmas.Since.{fresh_in, every_time_since}
use Rattle.cj_history.proofs.ProgressLemmas.Near.{low, all_due, let_idle, ended_idle}
use Rattle.cj_history.proofs.ProgressLemmas.Telling.{told_idle}

-- Where nothing is due since the last moment, all times due up to it are all that are due.
upto_now : (s : Sets) (z : Zone) (cron : CronJob) (ms : List Moment) (now : ℕ) (times : List ℕ) → GoOn cron ms
    → last_moment cron ms ≤ now → IsQuiet s z (last_moment cron ms) now
    → reverse times ≡ missed_times s z (looked_upto cron []) (last_moment cron ms)
    → reverse times ≡ missed_times s z (looked_upto cron []) now
upto_now s z cron ms now times on upto quiet all =
    let first : ℕ = looked_upto cron [] in
    let last : ℕ = last_moment cron ms in
    let a = low cron ms on in
    let b = looked_low cron ms on in
    let whole = missed_times-split s z first last now (omega (arith, a, b)) upto in
    all ∙ sym (whole ∙ (ap (λ (l : List ℕ). missed_times s z first last ++ l) (missed_times-none s z last now quiet)
    ∙ append-nil (missed_times s z first last)))

-- For keeping_up_law: the Jobs that are made are one for each due time.
pub each_in_time : EachInTime
each_in_time window start g k cron s z now short legal planned n other ample y =
    let ms : List Moment = y.syncs.moments in
    let good : Good window g = record { short = short; legal = legal; planned = planned } in
    let begun = (fresh_in window start g k cron s z ms good n y.syncs.synced).begun in
    upto_now s z cron ms now (made_for window cron.meta.uid g) y.syncs.on y.syncs.upto y.quiet
    (all_due s z cron ms (made_for window cron.meta.uid g) y.syncs.on y.prompt ample
    (let_idle s z cron ms (lets_each window start g k cron s z ms short legal planned begun y.syncs.synced other))
    (every_time_since window start g k cron s z ms short legal planned n y.syncs.on y.syncs.synced))

-- For keeping_up_law: so they are under any policy where no sync told that a Job runs already.
pub each_allowed : EachAllowed
each_allowed window start g k cron s z now short legal planned n ample y none =
    let ms : List Moment = y.syncs.moments in
    let good : Good window g = record { short = short; legal = legal; planned = planned } in
    let begun = (fresh_in window start g k cron s z ms good n y.syncs.synced).begun in
    upto_now s z cron ms now (made_for window cron.meta.uid g) y.syncs.on y.syncs.upto y.quiet
    (all_due s z cron ms (made_for window cron.meta.uid g) y.syncs.on y.prompt ample
    (told_idle window start k cron s z begun ample ms g good y.syncs.on y.prompt y.syncs.synced none)
    (every_time_since window start g k cron s z ms short legal planned n y.syncs.on y.syncs.synced))

-- For keeping_up_law: so they are under any policy where each Job ended in time.
pub each_ended_in_time : EachEndedInTime
each_ended_in_time window start g k cron s z now short legal planned n ample y ended =
    let ms : List Moment = y.syncs.moments in
    let good : Good window g = record { short = short; legal = legal; planned = planned } in
    let begun = (fresh_in window start g k cron s z ms good n y.syncs.synced).begun in
    upto_now s z cron ms now (made_for window cron.meta.uid g) y.syncs.on y.syncs.upto y.quiet
    (all_due s z cron ms (made_for window cron.meta.uid g) y.syncs.on y.prompt ample
    (ended_idle window start k cron s z begun ms g good y.syncs.synced ended)
    (every_time_since window start g k cron s z ms short legal planned n y.syncs.on y.syncs.synced))
