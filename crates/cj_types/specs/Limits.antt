-- The ranges of the numbers in a CronJob's spec: batch/v1, `CronJobSpec`, whose
-- `startingDeadlineSeconds` is an int64 and whose history limits are int32, none of them below 0.
use Rattle.std.specs.Prelude.{ℕ}

-- 2^63 - 1
-- rule: limits-by-type
abbrev pub last_deadline : ℕ
last_deadline = 9_223_372_036_854_775_807

-- 2^31 - 1
-- rule: limits-by-type
abbrev pub last_history_limit : ℕ
last_history_limit = 2_147_483_647
