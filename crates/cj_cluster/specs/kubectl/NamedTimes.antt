-- The scheduled time that the name of a Job tells. Kubernetes before 1.27 writes no annotation with
-- it, but makes the Job's name of the CronJob's and that time: from 1.21 on in minutes since 1970,
-- before in seconds. Kubernetes CronJob documentation, "Writing a CronJob spec" (the name of a
-- CronJob leaves room for what is appended).
use Rattle.std.specs.Prelude.{ℕ, ◌+◌, ◌-◌, ◌*◌, ◌==◌, ◌&&◌, nat_le, nat_lt, List, [], ◌∷◌, length, drop, codes, Option, Some, None, option_map, option_and_then, if◌then◌else◌}
use Rattle.std.specs.Char.{is_ascii_digit}
use Rattle.cj_base.specs.Instant.{last_second}
use Rattle.cj_cluster.specs.kubectl.Owners.{begins}

-- the number below ten billion that decimal digits spell, behind a number that was read before them
abbrev pub number_of : ℕ → List ℕ → Option ℕ
number_of n [] = Some n
number_of n (b ∷ bs) =
    if is_ascii_digit b && nat_lt n 1_000_000_000 then number_of (n * 10 + (b - 48)) bs else None

-- eight digits are minutes, ten are seconds
-- rule: cluster-named
abbrev pub seconds_of : List ℕ → Option ℕ
seconds_of digits =
    if length digits == 8 then option_map (λ minutes. minutes * 60) (number_of 0 digits)
    else (if length digits == 10 then number_of 0 digits else None)

-- what follows what a text begins with
abbrev pub behind : List ℕ → List ℕ → Option (List ℕ)
behind front text = if begins front text then Some (drop (length front) text) else None

-- the time in the name of a Job of the CronJob of that name: `CRON-DIGITS`
-- rule: cluster-named
abbrev pub time_in : List ℕ → List ℕ → Option ℕ
time_in cron name =
    option_and_then seconds_of (option_and_then (behind (codes "-")) (behind cron name))

-- an instant, where that many seconds after 1970 began is one
abbrev pub instant : ℕ → Option ℕ
instant seconds = if nat_le seconds last_second then Some seconds else None

-- by the CronJob that controls the Job, where one does
-- rule: cluster-named
abbrev pub named_time : Option (List ℕ) → List ℕ → Option ℕ
named_time None name = None
named_time (Some cron) name = option_and_then instant (time_in cron name)
