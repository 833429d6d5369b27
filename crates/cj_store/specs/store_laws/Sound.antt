-- The contents of a store are sound.
use Rattle.std.specs.Prelude.{◌≡◌, ℕ, Option, Ok}
use Rattle.cj_types.specs.Keys.{Place}
use Rattle.cj_types.specs.declared.cron.CronJobDraft.{CronJobDraft}
use Rattle.cj_types.specs.declared.cron.CronStatus.{CronStatus}
use Rattle.cj_types.specs.declared.job.JobDraft.{JobDraft}
use Rattle.cj_types.specs.declared.policy.Outcome.{Outcome}
use Rattle.cj_types.specs.declared.event.Event.{Event}
use Rattle.cj_store.specs.Content.{Content, IsSound, nothing}
use Rattle.cj_store.specs.Crons.{cron_created, cron_updated, status_set, cron_deleted}
use Rattle.cj_store.specs.Jobs.{job_created, job_made, job_updated, job_deleted, job_ended}
use Rattle.cj_store.specs.Change.{after, map_ok, IsNext, cron_added, cron_modified, cron_gone, job_added, job_modified, job_gone}

-- the content before the first write is sound
abbrev pub BeginsSound : Type 0
BeginsSound = IsSound nothing

-- the content after a write that was planned on a sound one is sound
abbrev pub StaysSound : Type 0
StaysSound = (s : Content) (e : Event) → IsSound s → IsNext s e → IsSound (after s e)

-- each call's plan holds for the content that it was made on
pub record ArePlansFor (s : Content) : Type 0 where
  pub cron_created : (draft : CronJobDraft) (now : ℕ) (e : Event)
      → map_ok cron_added (cron_created s draft now) ≡ Ok e → IsNext s e
  pub cron_updated : (draft : CronJobDraft) (e : Event)
      → map_ok cron_modified (cron_updated s draft) ≡ Ok e → IsNext s e
  pub status_set : (key : Place) (uid version : ℕ) (status : CronStatus) (e : Event)
      → map_ok cron_modified (status_set s key uid version status) ≡ Ok e → IsNext s e
  pub cron_deleted : (key : Place) (e : Event) → map_ok cron_gone (cron_deleted s key) ≡ Ok e
      → IsNext s e
  pub job_created : (draft : JobDraft) (now : ℕ) (e : Event)
      → map_ok job_added (job_created s draft now) ≡ Ok e → IsNext s e
  pub job_made : (draft : JobDraft) (now : ℕ) (e : Event)
      → map_ok job_added (job_made s draft now) ≡ Ok e → IsNext s e
  pub job_updated : (draft : JobDraft) (e : Event)
      → map_ok job_modified (job_updated s draft) ≡ Ok e → IsNext s e
  pub job_deleted : (key : Place) (uid : Option ℕ) (e : Event)
      → map_ok job_gone (job_deleted s key uid) ≡ Ok e → IsNext s e
  pub job_ended : (key : Place) (uid : ℕ) (outcome : Outcome) (now : ℕ) (e : Event)
      → map_ok job_modified (job_ended s key uid outcome now) ≡ Ok e → IsNext s e

-- rule: planned-change
abbrev pub PlansSound : Type 0
PlansSound = (s : Content) → IsSound s → ArePlansFor s
