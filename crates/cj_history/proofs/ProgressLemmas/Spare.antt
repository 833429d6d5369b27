-- No clean-up drops an unfinished Job of its CronJob, whatever others call.
use Rattle.std.proofs.Common.{◌≡◌, ℕ, List, ◌++◌, Some, sym, ap, subst, ◌∙◌}
use Rattle.std.specs.FinMap as map
use Rattle.cj_types.specs.Keys.{Place}
use Rattle.cj_types.specs.Uids.{uid_text}
use Rattle.cj_types.specs.declared.cron.CronJob.{CronJob}
use Rattle.cj_types.specs.declared.job.Job.{Job}
use Rattle.cj_status.specs.declared.refs.JobRef.{JobRef}
use Rattle.cj_decide.specs.laws.Laws.{IsIn}
use Rattle.cj_decide.proofs.LawsLemmas.Ends.{cleans_finished}
use Rattle.cj_calls.specs.Rows.{Told}
use Rattle.cj_state.specs.declared.phases.sync.Phase.TheVariants.{Checked}
use Rattle.cj_state.specs.WorkerCalls.{sync_of}
use Rattle.cj_state.specs.Legal.{IsLegal, state_of}
use Rattle.cj_world_laws.proofs.LegalLemmas.HeldSyncs.{syncs_agree}
use Rattle.cj_history.specs.progress.Syncs.{PlansSpare}
use Rattle.cj_history.proofs.ProgressLemmas.Ages.{settled_on, follows_rests}
use Rattle.cj_history.proofs.ProgressLemmas.Calls.{in_flight}
use Rattle.cj_history.proofs.ProgressLemmas.Started.{IsRead, plan_of, seen_in, listed_in}

-- For makes_job: what a plan cleans up is no unfinished Job of the CronJob.
pub plans_spare : (window w : ℕ) (k : Place) (cron : CronJob) (h : List Told) → IsLegal window h
    → IsRead w k cron (state_of window h) → PlansSpare window w k cron h
plans_spare window w k cron h l r p f es m q i job at u =
    let sync : sync_of (state_of window h) w ≡ Some (in_flight k (Checked p.cron p.jobs p.active)) =
    syncs_agree window h l w ∙ f.rests in
    let two = sym r.sync ∙ sync in
    let seen : p.cron ≡ Some cron = sym (ap seen_in two) in
    let listed : p.jobs ≡ r.jobs = sym (ap listed_in two) in
    let c = cleans_finished cron p.jobs p.active p.at p.zone p.steps (plan_of p cron f.decided seen) q i in
    let there : IsIn c.job r.jobs = subst (λ (js : List Job). IsIn c.job js) listed c.listed in
    follows_rests (uid_text cron.meta.uid) c.job job
    (settled_on window es h m l c.job (r.old c.job there) (r.settled c.job there) job
    (ap (λ (x : JobRef). map.get (state_of window (es ++ h)).store.jobs x.key) c.is ∙ at)
    (u ∙ sym (ap (λ (x : JobRef). x.uid) c.is)))
    c.rests
