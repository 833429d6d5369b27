-- The last success: no call of a sync takes status.lastSuccessfulTime of a CronJob back (Kubernetes
-- API reference, CronJobStatus, lastSuccessfulTime: "Information when was the last time the job
-- successfully completed").
use Rattle.std.specs.Prelude.{◌≡◌, ℕ, ◌≤◌, List, ◌∷◌, Some}
use Rattle.cj_fence.specs.declared.objects.Cron.{Cron}
use Rattle.cj_fence.specs.Tables.{find}
use Rattle.cj_fence.specs.History.{Deed, Asked, Wrote, Told, state_of, IsLegal, AllFollow}
use Rattle.cj_fence.specs.Others.{OthersKeepTo}
use Rattle.cj_fence.specs.Fence.{Always}

-- the CronJob still stands under its name, and its status.lastSuccessfulTime isn't earlier than it
-- was
-- rule: last-success
pub record HasNotGoneBack (h : List Told) (n : List ℕ) (was : Cron) : Type 0 where
  pub cron : Cron
  pub stands : find n (state_of h).crons ≡ Some cron
  pub uid : cron.uid ≡ was.uid
  pub success : was.success ≤ cron.success

-- after a call of a sync that is so of the CronJob of this uid, if it stood before
-- rule: last-success
abbrev pub KeepsSuccess : List ℕ → Told → List Told → Deed → Type 0
KeepsSuccess u e h (Asked y call reached a) =
    (n : List ℕ) (was : Cron) → find n (state_of h).crons ≡ Some was → was.uid ≡ u
    → HasNotGoneBack (e ∷ h) n was
KeepsSuccess u e h (Wrote w) = Unit {0}

-- an entry takes no success back
abbrev pub IsSuccessKept : List ℕ → Told → List Told → Type 0
IsSuccessKept u e h = KeepsSuccess u e h e.deed

-- no sync's call takes the last success of the CronJob back
-- rule: last-success
abbrev pub SuccessLaw : Type 0
SuccessLaw =
    (u : List ℕ) (h : List Told) → IsLegal h → AllFollow h → OthersKeepTo u h
    → Always (IsSuccessKept u) h
