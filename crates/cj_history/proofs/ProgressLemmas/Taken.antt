-- Where the name of the Job is taken, the claim and the first drops are accepted, and the making is
-- refused.
use Rattle.std.proofs.Common.{◌≡◌, ◌≢◌, inl, inr, ℕ, ◌+◌, List, [], ◌∷◌, ◌++◌, length, map as map_list, Option, Some, is_some, refl, sym, ap, subst, ◌∙◌}
use Rattle.std.specs.Prelude.{Ok, Err, if◌then◌else◌}
use Rattle.std.specs.List.{slice_get}
use Rattle.std.specs.FinMap as map
use Rattle.cj_base.specs.declared.refusal.Refusal.TheVariants.{AlreadyExists}
use Rattle.cj_types.specs.Keys.{Place}
use Rattle.cj_types.specs.Made.{made_place}
use Rattle.cj_types.specs.declared.cron.CronJob.{CronJob}
use Rattle.cj_types.specs.declared.job.Job.{Job}
use Rattle.cj_types.specs.declared.job.JobDraft.{JobDraft}
use Rattle.cj_store.specs.Content.{Content}
use Rattle.cj_store.specs.Change.{map_ok, cron_modified, job_added, job_gone}
use Rattle.cj_store.specs.Crons.{with_status}
use Rattle.cj_store.specs.Jobs.{new_job, job_deleted}
use Rattle.cj_status.specs.declared.refs.JobRef.{JobRef}
use Rattle.cj_decide.specs.Decision.{Planned}
use Rattle.cj_decide.specs.Start.{claim_of, draft_of}
use Rattle.cj_decide.specs.declared.start.Claim.{Claim}
use Rattle.cj_decide.specs.laws.Laws.{IsIn}
use Rattle.cj_calls.specs.declared.call.Call.TheVariants as Of
use Rattle.cj_calls.specs.Rows.{Told}
use Rattle.cj_state.specs.phases.Steps.{Step, drops, makes, makings, settings, all_steps, step_at, as_make}
use Rattle.cj_state.specs.declared.phases.sync.InFlight.{InFlight}
use Rattle.cj_state.specs.declared.phases.sync.Work.{Work}
use Rattle.cj_state.specs.declared.phases.sync.Phase.TheVariants.{Checked, Works}
use Rattle.cj_state.specs.declared.state.State.{State}
use Rattle.cj_state.specs.WorkerCalls.{Handled, refused, sync_of, with_sync, written, works, drops_it, by_sync, next_sync, steps_on, event_reply, make_where, make_in, make_next}
use Rattle.cj_state.specs.Step.{step_of}
use Rattle.cj_state.specs.Legal.{IsLegal, state_of}
use Rattle.cj_world_laws.proofs.LegalLemmas.Inputs.{rests_exactly}
use Rattle.cj_world_laws.proofs.LegalLemmas.HeldSyncs.{syncs_agree}
use Rattle.cj_world_laws.proofs.OnceLemmas.Maps.{removal_at, removal_other, sync_here}
use Rattle.cj_history.specs.progress.Undisturbed.{worker}
use Rattle.cj_history.specs.progress.Syncs.{IsRefused, PlansFindTaken}
use Rattle.cj_history.proofs.ProgressLemmas.Missed.{claims_due}
use Rattle.cj_history.proofs.ProgressLemmas.Calls.{in_flight, claim_is, drop_is, Dropped, absent, found, drop_made}
use Rattle.cj_history.proofs.ProgressLemmas.Aside.{AreKeyed, Same, Goes, goes, goes_leads, same_aside}
use Rattle.cj_history.proofs.ProgressLemmas.Steps.{work_at, Going, step_is, going_on}
use Rattle.cj_history.proofs.ProgressLemmas.Started.{IsRead, Starting, plan_of, starting, seen_in}

-- A MakeNext of a Job whose name is taken is refused.
make_refused : (s : State) (w : ℕ) (k : Place) (work : Work) (d : JobDraft) (j : Job)
    → sync_of s w ≡ Some (in_flight k (Works work)) → step_at work.plan.steps work.place ≡ Some (makes d)
    → map.get s.store.jobs d.key ≡ Some j → step_of s (worker w) Of.MakeNext ≡ refused s AlreadyExists
unfolding step_of make_next
make_refused s w k work d j e f taken =
    ap (λ (o : Option InFlight). by_sync s (make_in s w) o) e
    ∙ ap (λ (o : Option Step). make_where s w k work (as_make o)) f
    ∙ ap (λ (o : Option Job). steps_on s w (next_sync k work) event_reply
    (map_ok job_added (if is_some o then Err AlreadyExists else Ok (new_job s.store d work.plan.at)))) taken

-- the worker claimed the plan, made its first drops, and the name is taken
record IsClaimed (w : ℕ) (k : Place) (p : Planned) (d : JobDraft) (more : List Step) (q : Place) (j : Job) (s : State)
    : Type 0
  where
    version : ℕ
    done : List Step
    going : Going w k p version s done (makes d ∷ more)
    taken : map.get s.store.jobs q ≡ Some j

-- The step behind so many is the next of those that are left.
at_place : (done : List Step) (x : Step) (rest : List Step) → slice_get (done ++ x ∷ rest) (length done) ≡ Some x
at_place [] x rest = refl
at_place (y ∷ done) x rest = at_place done x rest

-- The next step of such a worker is the making.
next_makes : (w : ℕ) (k : Place) (p : Planned) (v : ℕ) (s : State) (done more : List Step) (d : JobDraft)
    → Going w k p v s done (makes d ∷ more) → step_at p.steps (length done) ≡ Some (makes d)
unfolding step_at
next_makes w k p v s done more d g = ap (λ (l : List Step). slice_get l (length done)) g.all
    ∙ at_place done (makes d) more

-- each of these is another Job than the one that has the name
abbrev Others : Place → Job → List JobRef → Type 0
Others q j rs = (r : JobRef) → IsIn r rs → r.key ≡ q → r.uid ≡ j.meta.uid → ⊥

-- what is left to drop are other Jobs, and the name is taken
record IsTaken (q : Place) (j : Job) (rs : List JobRef) (s : Content) : Type 0 where
  others : Others q j rs
  keys : AreKeyed s
  taken : map.get s.jobs q ≡ Some j

-- A drop of another Job leaves the name taken.
taken_kept : (q : Place) (j : Job) (r : JobRef) (rs : List JobRef) (a b : Content) → Dropped a r b
    → IsTaken q j (r ∷ rs) a
    → IsTaken q j rs b
taken_kept q j r rs a b (absent e n) f =
    subst (IsTaken q j rs) (sym e) (record { others = λ x i. f.others x (inr i); keys = f.keys; taken = f.taken })
taken_kept q j r rs a b (found x at same e) f =
    subst (IsTaken q j rs) (sym e) (record {
      others = λ y i. f.others y (inr i);
      keys = λ i y h. f.keys i y (removal_at a.jobs x.key i y h).1;
      taken = removal_other a.jobs x.key q apart ∙ f.taken;
    })
  where
    apart : q ≢ x.key
    apart g =
        let here : r.key ≡ q = sym (g ∙ f.keys r.key x at) in
        let one : x ≡ j = cc (sym at ∙ ap (map.get a.jobs) here ∙ f.taken) in
        f.others r (inl refl) here (sym same ∙ ap (λ (z : Job). z.meta.uid) one)

-- What others leave leaves it taken.
taken_still : (w : ℕ) (k q : Place) (j : Job) (rs : List JobRef) (s t : State) → Same w k (Some q) s t
    → IsTaken q j rs s.store → IsTaken q j rs t.store
taken_still w k q j rs s t same f = record { others = f.others; keys = same.keys; taken = same.job ∙ f.taken }

-- w is the worker, k its key, q the name, which the Job j has, p the plan, d the draft of the Job
-- that it makes.
module _ (w : ℕ) (k q : Place) (j : Job) (p : Planned) (v : ℕ) (d : JobDraft) (more : List Step) where
  -- The drops of other Jobs are accepted, and leave the name taken.
  drops_lead : (rs : List JobRef) (done : List Step) (s : State)
      → Going w k p v s done (map_list drops rs ++ (makes d ∷ more))
      → IsTaken q j rs s.store
      → Goes w k (Some q) s (map_list (λ r. Of.DropNext) rs) (IsClaimed w k p d more q j)
  drops_lead [] done s g f = record { version = v; done = done; going = g; taken = f.taken }
  drops_lead (r ∷ rs) done s g f =
      goes w k (Some q) s Of.DropNext (map_list (λ r. Of.DropNext) rs) (IsClaimed w k p d more q j) (λ t same.
      let sync = next_sync k (work_at p v done) in
      let h : Going w k p v t done (drops r ∷ (map_list drops rs ++ (makes d ∷ more)))
      = record { sync = same.sync ∙ g.sync; all = g.all } in
      let y = drop_made t w sync r in
      let m : Handled = drops_it t w sync r.key (map_ok job_gone (job_deleted t.store r.key (Some r.uid))) in
      record {
        handled = m;
        is = drop_is t w k (work_at p v done) r h.sync
            (step_is w k (Some q) p v p.steps.reasons (λ x. Unit {0}) t done (drops r)
            (map_list drops rs ++ (makes d ∷ more)) h);
        accepted = y.accepted;
        goes = drops_lead rs (done ++ drops r ∷ []) m.state
            (going_on w k (Some q) p v p.steps.reasons (λ x. Unit {0}) t m.state done (drops r)
            (map_list drops rs ++ (makes d ∷ more)) h y.sync_is)
            (taken_kept q j r rs t.store m.state.store y.store (taken_still w k q j (r ∷ rs) s t same f));
      })

-- For makes_job: where the name is taken by a Job that isn't dropped first, the making is refused.
pub plans_find_taken : (window w : ℕ) (k : Place) (cron : CronJob) (h : List Told) → IsLegal window h
    → IsRead w k cron (state_of window h) → PlansFindTaken window w k cron h
plans_find_taken window w k cron h l r p time j f o others taken =
    let sync : sync_of (state_of window h) w ≡ Some (in_flight k (Checked p.cron p.jobs p.active)) =
    syncs_agree window h l w ∙ f.rests in
    let seen : p.cron ≡ Some cron = sym (ap seen_in (sym r.sync ∙ sync)) in
    let plan = plan_of p cron f.decided seen in
    let y : Claim = claim_of cron time in
    let claim = claims_due cron p.jobs p.active p.at p.zone p.steps o.zone time plan o.runs o.known o.latest o.allowed
    in
    let start : Starting p cron y = starting p cron y f.decided seen claim in
    let q : Place = made_place cron.key time in
    let d : JobDraft = draft_of cron time in
    let more : List Step = map_list drops p.steps.cleanup ++ settings p.steps.status in
    let all : all_steps p.steps ≡ map_list drops p.steps.drop_first ++ (makes d ∷ more) =
    ap (λ (m : Option JobDraft). map_list drops p.steps.drop_first ++ (makings m ++ more)) start.make in
    let R : State → Type 0 = IsClaimed w k p d more q j in
    goes_leads window w k (Some q) h (Of.Claim p ∷ map_list (λ x. Of.DropNext) p.steps.drop_first)
    (IsRefused window w k (Some q)) R l
    (λ g m c es n a. let same = same_aside window w k (Some q) es g n a in
    ap (λ (x : Handled). x.answer) (make_refused (state_of window (es ++ g)) w k
    (work_at p c.version c.done) d j (same.sync ∙ c.going.sync)
    (next_makes w k p c.version (state_of window g) c.done more d c.going) (same.job ∙ c.taken)))
    (goes w k (Some q) (state_of window h) (Of.Claim p) (map_list (λ x. Of.DropNext) p.steps.drop_first) R (λ t same.
    let z : State = with_sync (written t (cron_modified (with_status t.store y.status cron))) w k
    (works p (t.store.version + 1) 0) in
    record {
      handled = _;
      is = claim_is t w k p p.cron p.jobs p.active cron y (same.sync ∙ sync)
          ((rests_exactly p p.cron p.jobs p.active).1 (refl, refl, refl)) claim seen (same.cron ∙ r.stands);
      accepted = refl;
      goes = drops_lead w k q j p (t.store.version + 1) d more p.steps.drop_first [] z
          (record { sync = sync_here t.syncs w (in_flight k (works p (t.store.version + 1) 0)); all = all })
          (record { others = others; keys = same.keys; taken = same.job ∙ taken });
    }))
