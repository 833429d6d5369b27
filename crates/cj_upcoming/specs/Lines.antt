-- The lines of what starts.
use Rattle.std.specs.Prelude.{ℕ, ◌+◌, List, [], ◌∷◌, ◌++◌, Option, Some, None, codes, decimal, slice_get, slice_range}
use Rattle.cj_zone.specs.TimeText.{time_text_of}
use Rattle.cj_cluster.specs.declared.cron.ClusterCron.{ClusterCron}
use Rattle.cj_upcoming.specs.declared.start.Start.{Start}
use Rattle.cj_upcoming.specs.declared.minute.Minute.{Minute}
use Rattle.cj_upcoming.specs.Standings.{key_text}

-- ` NAMESPACE/NAME`
abbrev pub named_text : Option ClusterCron → List ℕ
named_text None = []
named_text (Some c) = codes " " ++ key_text c.cron.key

-- of the CronJob of each start
abbrev pub names : List ClusterCron → List Start → List ℕ
names crons [] = []
names crons (s ∷ ss) = named_text (slice_get crons s.cron) ++ names crons ss

-- the starts of a minute
abbrev pub starts_in : List Start → Minute → List Start
starts_in starts m = slice_range starts m.first (m.first + m.count)

-- `start TIME NAMESPACE/NAME ..`
-- rule: upcoming-lines
abbrev pub start_line : List ClusterCron → List Start → Minute → List ℕ
start_line crons starts m =
    codes "start " ++ (time_text_of m.time ++ (names crons (starts_in starts m) ++ codes "\n"))

-- a line for each minute
-- rule: upcoming-lines
abbrev pub start_lines : List ClusterCron → List Start → List Minute → List ℕ
start_lines crons starts [] = []
start_lines crons starts (m ∷ ms) = start_line crons starts m ++ start_lines crons starts ms

-- `peak TIME COUNT NAMESPACE/NAME ..`
-- rule: upcoming-peaks
abbrev pub peak_line : List ClusterCron → List Start → Minute → List ℕ
peak_line crons starts m =
    codes "peak " ++ (time_text_of m.time ++ (codes " " ++ (decimal m.count
    ++ (names crons (starts_in starts m) ++ codes "\n"))))

-- rule: upcoming-peaks
abbrev pub peak_lines : List ClusterCron → List Start → List Minute → List ℕ
peak_lines crons starts [] = []
peak_lines crons starts (m ∷ ms) = peak_line crons starts m ++ peak_lines crons starts ms
