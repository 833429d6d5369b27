-- A sync whose plan claims nothing is accepted call by call, and cleans up.
use Rattle.std.proofs.Common.{◌≡◌, inl, ℕ, ◌≤◌, List, [], ◌∷◌, ◌++◌, map as map_list, Option, Some, None, refl, sym, ap, subst, ◌∙◌, arith}
use Rattle.std.specs.FinMap as map
use Rattle.cj_types.specs.Keys.{Place}
use Rattle.cj_types.specs.declared.cron.CronJob.{CronJob}
use Rattle.cj_types.specs.declared.cron.CronStatus.{CronStatus}
use Rattle.cj_types.specs.declared.job.Job.{Job}
use Rattle.cj_types.specs.declared.job.JobDraft.{JobDraft}
use Rattle.cj_store.specs.Content.{Content}
use Rattle.cj_store.specs.Crons.{with_status}
use Rattle.cj_status.specs.declared.refs.JobRef.{JobRef}
use Rattle.cj_decide.specs.declared.start.Claim.{Claim}
use Rattle.cj_decide.specs.declared.steps.Steps.{Steps}
use Rattle.cj_decide.specs.Finally.{standing, final, IsStatusStep}
use Rattle.cj_decide.specs.Decision.{Planned, IsDecision, claim_by}
use Rattle.cj_decide.specs.laws.Laws.{IsIn}
use Rattle.cj_decide.proofs.LawsLemmas.Claims.{no_claim}
use Rattle.cj_decide.proofs.LawsLemmas.Ends.{cleans_finished}
use Rattle.cj_calls.specs.declared.call.Call.TheVariants as Of
use Rattle.cj_calls.specs.Rows.{Told}
use Rattle.cj_state.specs.phases.Steps.{Step, drops, sets, makings, settings, all_steps}
use Rattle.cj_state.specs.declared.phases.sync.Phase.TheVariants.{Checked}
use Rattle.cj_state.specs.declared.state.State.{State}
use Rattle.cj_state.specs.WorkerCalls.{sync_of, with_sync, works, seen_version}
use Rattle.cj_state.specs.Legal.{IsLegal, state_of}
use Rattle.cj_world_laws.proofs.LegalLemmas.Inputs.{rests_exactly}
use Rattle.cj_world_laws.proofs.LegalLemmas.HeldSyncs.{syncs_agree}
use Rattle.cj_world_laws.proofs.OnceLemmas.Maps.{put_here, sync_here}
use Rattle.cj_history.specs.store.Writes.{writes}
use Rattle.cj_history.specs.progress.Syncs.{calls_left, works_off, IsUnclaimed, IsTidied, PlansRest}
use Rattle.cj_history.proofs.StoreLemmas.Stores.{store_agrees}
use Rattle.cj_history.proofs.StoreLemmas.Answered.{cron_keyed}
use Rattle.cj_history.proofs.ProgressLemmas.Calls.{in_flight, claim_none_is, Dropped, absent, found}
use Rattle.cj_history.proofs.ProgressLemmas.Aside.{AreKeyed, Goes, goes, goes_leads}
use Rattle.cj_history.proofs.ProgressLemmas.Steps.{Going, drops_go, status_goes, finish_goes}
use Rattle.cj_history.proofs.ProgressLemmas.Tidy.{IsTidy, tidy_still, tidy_kept, tidied, still_gone}
use Rattle.cj_history.proofs.ProgressLemmas.Started.{IsRead, plan_of, seen_in, listed_in}

-- A drop leaves each CronJob as it is.
cron_kept : (k : Place) (c : CronJob) (r : JobRef) (a b : Content) → Dropped a r b → map.get a.crons k ≡ Some c
    → map.get b.crons k ≡ Some c
cron_kept k c r a b (absent e n) f = ap (λ (x : Content). map.get x.crons k) e ∙ f
cron_kept k c r a b (found j at same e) f = ap (λ (x : Content). map.get x.crons k) e ∙ f

-- The final status of a plan that claims nothing has the last time that was scheduled before.
final_rest : (p : Planned) (cron : CronJob) → IsDecision cron p.jobs p.active p.at p.zone p.steps → p.steps.claim ≡ None
    → (f : CronStatus) → p.steps.status ≡ Some f → f.last_schedule_time ≡ cron.status.last_schedule_time
final_rest p cron d claim f is =
    let are = d.meant.are in
    let none : claim_by cron d.start ≡ None = sym (ap (λ (x : Steps). x.claim) are) ∙ claim in
    let step = subst (IsStatusStep (standing cron (claim_by cron d.start))
    (final cron p.jobs p.active d.start (claim_by cron d.start)))
    (sym (ap (λ (x : Steps). x.status) are) ∙ is) d.meant.changes in
    ap (λ (x : CronStatus). x.last_schedule_time) step.0
    ∙ ap (λ (o : Option Claim). (standing cron o).last_schedule_time) none

-- w is the worker, k its key, cron the CronJob, p the plan; so many uids were given out when the
-- Jobs were listed.
module _ (u w : ℕ) (k : Place) (cron : CronJob) (p : Planned) (key : cron.key ≡ k) (seen : p.cron ≡ Some cron)
    (rests : (f : CronStatus) → p.steps.status ≡ Some f → f.last_schedule_time ≡ cron.status.last_schedule_time)
    (old : (r : JobRef) → IsIn r p.steps.cleanup → r.uid ≤ u) where
  abbrev T : State → Type 0
  T t = IsUnclaimed t.store k cron × IsTidied p.steps.cleanup t.store

  -- the CronJob stands, and what was dropped so far is gone
  abbrev Left : List JobRef → Content → Type 0
  Left rs s = (map.get s.crons k ≡ Some cron) × IsTidy u p.steps.cleanup rs s

  -- With no status left to set, the sync ends as it should.
  settle_bare : (e : List Step) (t : State) → Going w k p cron.meta.version t e [] → Left [] t.store
      → Goes w k None t (calls_left p.steps.reasons []) T
  settle_bare e t g f =
      finish_goes w k None p cron.meta.version p.steps.reasons T e t g (λ a z same left.
      subst (λ (x : Content). IsUnclaimed x k cron × IsTidied p.steps.cleanup x) (sym left) (
        record { now = cron; stands = same.cron ∙ f.0; uid = refl; last = refl },
        still_gone w u k None p.steps.cleanup old t a same f.1.uids (tidied u p.steps.cleanup t.store f.1),
      ))

  -- A CronJob that is put at its key stands at the one that the worker holds.
  put_key : (t : Content) (c : CronJob) → c.key ≡ cron.key → map.get (map.insert t.crons c.key c) k ≡ Some c
  put_key t c e = ap (map.get (map.insert t.crons c.key c)) (sym (e ∙ key)) ∙ put_here t.crons c.key c

  -- With a status to set, it does so too.
  settle_status : (st : CronStatus) → p.steps.status ≡ Some st → (e : List Step) (t : State)
      → Going w k p cron.meta.version t e (sets st ∷ []) → Left [] t.store
      → Goes w k None t (calls_left p.steps.reasons (sets st ∷ [])) T
  settle_status st is e t g f =
      status_goes w k None p cron.meta.version p.steps.reasons T st cron cron e t g seen f.0 refl refl
      (λ a b e2 same g2 left. finish_goes w k None p cron.meta.version p.steps.reasons T e2 b g2 (λ a2 z same2 left2.
      let one : IsTidied p.steps.cleanup a.store = still_gone w u k None p.steps.cleanup old t a same f.1.uids
      (tidied u p.steps.cleanup t.store f.1) in
      let two : IsTidied p.steps.cleanup b.store = subst (λ (x : Content). IsTidied p.steps.cleanup x) (sym left) one in
      let low : u ≤ b.store.uids = subst (λ (x : Content). u ≤ x.uids) (sym left)
      (let c = f.1.uids in let d = same.more in omega (arith, c, d)) in
      let crons : map.get b.store.crons k ≡ Some (with_status a.store st cron) =
      ap (λ (x : Content). map.get x.crons k) left ∙ put_key a.store (with_status a.store st cron) refl in
      subst (λ (x : Content). IsUnclaimed x k cron × IsTidied p.steps.cleanup x) (sym left2) (
        record {
          now = with_status a.store st cron;
          stands = same2.cron ∙ crons;
          uid = refl;
          last = rests st is;
        },
        still_gone w u k None p.steps.cleanup old b a2 same2 low two,
      )))

  -- With the status to set, if there is one, the sync ends as it should.
  settle_rest : (o : Option CronStatus) → p.steps.status ≡ o → (e : List Step) (t : State)
      → Going w k p cron.meta.version t e (settings o) → Left [] t.store
      → Goes w k None t (calls_left p.steps.reasons (settings o)) T
  settle_rest None is e t g f = settle_bare e t g f
  settle_rest (Some st) is e t g f = settle_status st is e t g f

  -- The steps of a plan that claims nothing are accepted.
  rest_goes : (t : State) → p.steps.make ≡ None → p.steps.drop_first ≡ []
      → Going w k p cron.meta.version t [] (all_steps p.steps) → map.get t.store.crons k ≡ Some cron → u ≤ t.store.uids
      → AreKeyed t.store → Goes w k None t (calls_left p.steps.reasons (all_steps p.steps)) T
  rest_goes t make first g at low keys =
      let later : List Step = map_list drops p.steps.cleanup ++ settings p.steps.status in
      let all : all_steps p.steps ≡ later =
      ap (λ (rs : List JobRef). map_list drops rs ++ (makings p.steps.make ++ later)) first
      ∙ ap (λ (m : Option JobDraft). makings m ++ later) make in
      subst (λ (l : List Step). Goes w k None t (calls_left p.steps.reasons l) T) (sym all)
      (drops_go w k None p cron.meta.version p.steps.reasons T Left
      (λ rs s a same f. (same.cron ∙ f.0, tidy_still w u k None p.steps.cleanup old rs s a same f.1))
      (λ r rs a b d f. (cron_kept k cron r a b d f.0, tidy_kept u p.steps.cleanup r rs a b d f.1)) p.steps.cleanup
      (settings p.steps.status) [] t (record { sync = g.sync; all = all })
      (at, record { uids = low; keys = keys; gone = λ r i. inl i })
      (λ a e g2 f. settle_rest p.steps.status refl e a g2 f))

-- For makes_job: a plan that claims nothing makes no Job, and is worked off.
pub plans_rest : (window w : ℕ) (k : Place) (cron : CronJob) (h : List Told) → IsLegal window h
    → IsRead w k cron (state_of window h) → PlansRest window w k cron h
plans_rest window w k cron h l r p f claim =
    let s : State = state_of window h in
    let sync : sync_of s w ≡ Some (in_flight k (Checked p.cron p.jobs p.active)) = syncs_agree window h l w ∙ f.rests in
    let two = sym r.sync ∙ sync in
    let seen : p.cron ≡ Some cron = sym (ap seen_in two) in
    let listed : p.jobs ≡ r.jobs = sym (ap listed_in two) in
    let plan = plan_of p cron f.decided seen in
    let none = no_claim (Some cron) p.jobs p.active p.at p.zone p.steps plan claim in
    let key = cron_keyed (writes h) k cron (sym ((store_agrees window h l).crons k) ∙ r.stands) in
    let old : (x : JobRef) → IsIn x p.steps.cleanup → x.uid ≤ s.store.uids = λ x i. (
    let c = cleans_finished cron p.jobs p.active p.at p.zone p.steps plan x i in
    let u = ap (λ (z : JobRef). z.uid) c.is in
    let b = r.old c.job (subst (λ (js : List Job). IsIn c.job js) listed c.listed) in
    omega (arith, u, b)) in (
      none.make,
      goes_leads window w k None h (works_off p)
          (λ g. IsUnclaimed (state_of window g).store k cron × IsTidied p.steps.cleanup (state_of window g).store)
          (λ t. IsUnclaimed t.store k cron × IsTidied p.steps.cleanup t.store) l (λ g m x. x)
          (goes w k None s (Of.Claim p) (calls_left p.steps.reasons (all_steps p.steps))
          (λ t. IsUnclaimed t.store k cron × IsTidied p.steps.cleanup t.store) (λ t same. record {
            handled = _;
            is = claim_none_is t w k p p.cron p.jobs p.active (same.sync ∙ sync)
                ((rests_exactly p p.cron p.jobs p.active).1 (refl, refl, refl)) claim;
            accepted = refl;
            goes = rest_goes s.store.uids w k cron p key seen (final_rest p cron plan claim) old
                (with_sync t w k (works p (seen_version p.cron) 0)) none.make none.drops
                (record {
                  sync = sync_here t.syncs w (in_flight k (works p (seen_version p.cron) 0))
                      ∙ ap (λ (o : Option CronJob). Some (in_flight k (works p (seen_version o) 0))) seen;
                  all = refl;
                })
                (same.cron ∙ r.stands) same.more same.keys;
          })),
    )
