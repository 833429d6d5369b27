-- Garbage: held Jobs that nobody can claim any more.
use Rattle.std.specs.Prelude.{◌≡◌, ℕ, true, false, List, [], ◌++◌, Option, Some}
use Rattle.cj_fence.specs.declared.table.Row.{Row}
use Rattle.cj_fence.specs.declared.objects.Cron.{Cron}
use Rattle.cj_fence.specs.declared.objects.Job.{Job}
use Rattle.cj_fence.specs.declared.sync.Sync.{Sync}
use Rattle.cj_fence.specs.declared.sync.Sync.TheVariants.{Tidying}
use Rattle.cj_fence.specs.Tables.{find}
use Rattle.cj_fence.specs.Objects.{ref_of, look, waits}
use Rattle.cj_fence.specs.Protocol.{seen_of, is_garbage}
use Rattle.cj_fence.specs.History.{Told, state_of, own, started, IsLegal, AllFollow}
use Rattle.cj_fence.specs.Others.{OthersKeepTo}
use Rattle.cj_fence.specs.Help.{Undisturbed}

-- a Job that stands held under its name, of the CronJob that stands, not in its status.active, and
-- of a time that isn't after its status.lastScheduleTime
-- rule: no-garbage
pub record IsGarbage (h : List Told) (n : List ℕ) (c : Cron) (x : Row Job) : Type 0 where
  pub cron : find n (state_of h).crons ≡ Some c
  pub job : find x.name (state_of h).jobs ≡ Some x.object
  pub garbage : is_garbage c x ≡ true
  pub held : waits x.object ≡ true

-- whatever is called afterwards, it isn't started
-- rule: no-garbage
abbrev pub NeverStarted : Type 0
NeverStarted =
    (h es : List Told) (n : List ℕ) (c : Cron) (x : Row Job)
    → IsLegal (es ++ h) → AllFollow (es ++ h) → OthersKeepTo c.uid (es ++ h)
    → IsGarbage h n c x → started (es ++ h) (ref_of x) ≡ false

-- a sync that has come to its end: it has listed the Jobs, and removed all garbage
-- rule: no-garbage
abbrev pub IsWhole : List ℕ → Sync → Type 0
IsWhole u (Tidying at [] fs) = at.cron.uid ≡ u
IsWhole u s = ⊥

-- gone, or with a metadata.deletionTimestamp
abbrev pub IsRemoved : Option Job → Type 0
IsRemoved (Some j) = j.deleting ≡ true
IsRemoved o = Unit {0}

-- an undisturbed sync of the CronJob that has come to its end has removed it
-- rule: no-garbage
abbrev pub IsCleared : Type 0
IsCleared =
    (h es : List Told) (y : ℕ) (n : List ℕ) (c : Cron) (x : Row Job)
    → IsLegal (es ++ h) → AllFollow (es ++ h) → OthersKeepTo c.uid (es ++ h)
    → own y h ≡ [] → Undisturbed c.uid y es h → IsGarbage h n c x
    → IsWhole c.uid (seen_of (own y (es ++ h)))
    → IsRemoved (look (state_of (es ++ h)).jobs (ref_of x))
