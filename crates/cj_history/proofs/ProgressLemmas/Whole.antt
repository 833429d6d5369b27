-- A worker's Take and its readings are answered, and its plans do what they should.
use Rattle.std.proofs.Common.{◌≡◌, ℕ, true, List, ◌∷◌, Some, None, refl, sym, ap, subst, ◌∙◌}
use Rattle.cj_types.specs.Keys.{Place}
use Rattle.cj_types.specs.declared.cron.CronJob.{CronJob}
use Rattle.cj_queue.specs.Queue.{taken}
use Rattle.cj_calls.specs.declared.call.Call.TheVariants as Of
use Rattle.cj_calls.specs.Rows.{Told}
use Rattle.cj_state.specs.declared.phases.sync.Phase.TheVariants.{Held}
use Rattle.cj_state.specs.declared.state.State.{State}
use Rattle.cj_state.specs.WorkerCalls.{Handled, sync_of, with_sync}
use Rattle.cj_state.specs.Step.{step_of}
use Rattle.cj_state.specs.Legal.{IsLegal, state_of}
use Rattle.cj_world_laws.specs.legal.InFlightSyncs.{sync}
use Rattle.cj_world_laws.specs.once.Once.{is_ok}
use Rattle.cj_world_laws.proofs.LegalLemmas.HeldSyncs.{syncs_agree}
use Rattle.cj_world_laws.proofs.OnceLemmas.Maps.{sync_here}
use Rattle.cj_history.specs.progress.Undisturbed.{worker, entry, Leads}
use Rattle.cj_history.specs.progress.Syncs.{readings, IsReady, PlansWork, MakesJob}
use Rattle.cj_history.proofs.ProgressLemmas.Calls.{in_flight, take_is}
use Rattle.cj_history.proofs.ProgressLemmas.Aside.{Goes, goes_leads, ok_entered}
use Rattle.cj_history.proofs.ProgressLemmas.Started.{IsRead, readings_go, plans_make_job}
use Rattle.cj_history.proofs.ProgressLemmas.Only.{plans_make_one}
use Rattle.cj_history.proofs.ProgressLemmas.Taken.{plans_find_taken}
use Rattle.cj_history.proofs.ProgressLemmas.Rest.{plans_rest}
use Rattle.cj_history.proofs.ProgressLemmas.Closed.{plans_stay}
use Rattle.cj_history.proofs.ProgressLemmas.Spare.{plans_spare}

-- A Take by such a worker is answered, and it sits down at the key.
pub taken_legal : (window : ℕ) (h : List Told) (w : ℕ) (k : Place) (cron : CronJob) → IsLegal window h
    → IsReady window h w k cron
    → IsLegal window (entry window h w Of.Take ∷ h)
taken_legal window h w k cron l r =
    let idle : sync_of (state_of window h) w ≡ None = syncs_agree window h l w ∙ r.idle in
    let e = take_is (state_of window h) w k idle r.line in
    (refl, ok_entered (step_of (state_of window h) (worker w) Of.Take).answer (ap (λ (x : Handled). is_ok x.answer) e), l)

-- It sits there then.
pub sits_down : (window : ℕ) (h : List Told) (w : ℕ) (k : Place) (cron : CronJob) → IsLegal window h
    → IsReady window h w k cron
    → sync (entry window h w Of.Take ∷ h) w ≡ Some (in_flight k Held)
sits_down window h w k cron l r =
    let idle : sync_of (state_of window h) w ≡ None = syncs_agree window h l w ∙ r.idle in
    sym (syncs_agree window (entry window h w Of.Take ∷ h) (taken_legal window h w k cron l r) w)
    ∙ ap (λ (x : Handled). sync_of x.state w) (take_is (state_of window h) w k idle r.line)
    ∙ sync_here (state_of window h).syncs w (in_flight k Held)

-- Its readings are answered, and tell what stands.
pub reads_on : (window : ℕ) (h : List Told) (w : ℕ) (k : Place) (cron : CronJob) → IsLegal window h
    → IsReady window h w k cron
    → Leads window w k None (entry window h w Of.Take ∷ h) readings (λ g. IsRead w k cron (state_of window g))
reads_on window h w k cron l r =
    let idle : sync_of (state_of window h) w ≡ None = syncs_agree window h l w ∙ r.idle in
    let s : State = state_of window h in
    goes_leads window w k None (entry window h w Of.Take ∷ h) readings (λ g. IsRead w k cron (state_of window g))
    (IsRead w k cron) (taken_legal window h w k cron l r) (λ g m x. x)
    (subst (λ (x : Handled). Goes w k None x.state readings (IsRead w k cron)) (sym (take_is s w k idle r.line))
    (readings_go w k cron (with_sync (record s { queue = taken s.queue }) w k Held)
    (sync_here s.syncs w (in_flight k Held)) r.stands))

-- For progress_law: the latest time missed gets its Job, where the Job's name isn't taken.
pub makes_job : MakesJob
makes_job window h w k cron l r =
    let idle : sync_of (state_of window h) w ≡ None = syncs_agree window h l w ∙ r.idle in
    let s : State = state_of window h in
    let e = take_is s w k idle r.line in
    let ok : is_ok (step_of s (worker w) Of.Take).answer ≡ true = ap (λ (x : Handled). is_ok x.answer) e in (
      ok,
      goes_leads window w k None (entry window h w Of.Take ∷ h) readings (PlansWork window w k cron) (IsRead w k cron)
          (refl, ok_entered (step_of s (worker w) Of.Take).answer ok, l)
          (λ g m x. record { made = plans_make_job window w k cron g m x; one = plans_make_one window w k cron g m x; taken = plans_find_taken window w k cron g m x; rest = plans_rest window w k cron g m x; stay = plans_stay window w k cron g m x; spare = plans_spare window w k cron g m x })
          (subst (λ (x : Handled). Goes w k None x.state readings (IsRead w k cron)) (sym e)
          (readings_go w k cron (with_sync (record s { queue = taken s.queue }) w k Held)
          (sync_here s.syncs w (in_flight k Held)) r.stands)),
    )
