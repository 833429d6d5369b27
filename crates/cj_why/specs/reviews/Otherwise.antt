-- What Kubernetes' own controller does otherwise than the one of this project: Kubernetes CronJob
-- documentation, "Time zones" and "CronJob limitations".
use Rattle.std.specs.Prelude.{ℕ, nat_lt, List, [], ◌++◌, Bool, true, false, if◌then◌else◌, Option, None, Some, codes}
use Rattle.cj_types.specs.declared.cron.CronJob.{CronJob}
use Rattle.cj_zone.specs.declared.zone.Zone.{Zone}

-- by whose clock it goes
-- rule: why-otherwise
abbrev pub clock_words : Option (List ℕ) → Option Zone → List ℕ
clock_words None z = codes "Kubernetes: without spec.timeZone its controller goes by the clock of its machine, not by UTC\n"
clock_words (Some name) None =
    codes "Kubernetes: its controller looks for the zone in a database of its own\n"
clock_words (Some name) (Some z) = []

-- whether it comes in time
-- rule: why-otherwise
abbrev pub deadline_words : Option ℕ → List ℕ
deadline_words None = []
deadline_words (Some seconds) =
    if nat_lt seconds 10 then codes "Kubernetes: its controller looks every 10 s, and with a deadline below that may start none\n"
    else []

-- how many Jobs it makes
-- rule: why-otherwise
abbrev pub count_words : List ℕ
count_words = codes "Kubernetes: its controller makes a Job, then records the time; a time may get two Jobs or none\n"

-- of a suspended CronJob there is nothing to say
-- rule: why-otherwise
abbrev pub unless_suspended : Bool → List ℕ → List ℕ
unless_suspended true words = []
unless_suspended false words = words

-- rule: why-otherwise
abbrev pub otherwise_words : CronJob → Option Zone → List ℕ
otherwise_words cron z =
    unless_suspended cron.spec.suspend
    ((clock_words cron.spec.time_zone z ++ deadline_words cron.spec.starting_deadline_seconds)
    ++ count_words)
