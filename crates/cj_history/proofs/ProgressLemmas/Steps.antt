-- The steps of a claimed plan, made by its worker one after the other, whatever others call aside.
use Rattle.std.proofs.Common.{◌≡◌, ℕ, ◌+◌, List, [], ◌∷◌, ◌++◌, length, map as map_list, Option, Some, None, refl, sym, ap, ◌∙◌, arith, append_assoc, length-append}
use Rattle.std.specs.List.{slice_get}
use Rattle.std.specs.FinMap as map
use Rattle.cj_types.specs.Keys.{Place}
use Rattle.cj_types.specs.declared.cron.CronJob.{CronJob}
use Rattle.cj_types.specs.declared.cron.CronStatus.{CronStatus}
use Rattle.cj_types.specs.declared.job.JobDraft.{JobDraft}
use Rattle.cj_types.specs.declared.policy.Reason.{Reason}
use Rattle.cj_store.specs.Content.{Content}
use Rattle.cj_store.specs.Change.{after, map_ok, cron_modified, job_added, job_gone}
use Rattle.cj_store.specs.Crons.{with_status}
use Rattle.cj_store.specs.Jobs.{new_job, job_deleted}
use Rattle.cj_queue.specs.Queue.{finished_ok}
use Rattle.cj_status.specs.declared.refs.JobRef.{JobRef}
use Rattle.cj_decide.specs.Decision.{Planned}
use Rattle.cj_calls.specs.declared.call.Call.TheVariants as Of
use Rattle.cj_calls.specs.declared.end.End.TheVariants.{Well}
use Rattle.cj_state.specs.phases.Steps.{Step, drops, makes, sets, all_steps, step_at}
use Rattle.cj_state.specs.declared.phases.sync.Work.{Work}
use Rattle.cj_state.specs.declared.phases.sync.Phase.TheVariants.{Works}
use Rattle.cj_state.specs.declared.state.State.{State}
use Rattle.cj_state.specs.WorkerCalls.{Handled, sync_of, written, works, next_sync, sits, drops_it, leaves, next_ms}
use Rattle.cj_world_laws.proofs.OnceLemmas.Maps.{sync_here}
use Rattle.cj_history.specs.progress.Syncs.{calls_left}
use Rattle.cj_history.proofs.ProgressLemmas.Calls.{in_flight, drop_is, make_is, status_is, finish_is, Dropped, drop_made}
use Rattle.cj_history.proofs.ProgressLemmas.Aside.{Same, Goes, goes}

abbrev pub work_at : Planned → ℕ → List Step → Work
work_at p v done = record { plan = p; version = v; place = length done }

-- the worker has made these steps of its plan, and those are left
pub record Going (w : ℕ) (k : Place) (p : Planned) (v : ℕ) (s : State) (done rest : List Step) : Type 0 where
  pub sync : sync_of s w ≡ Some (in_flight k (Works (work_at p v done)))
  pub all : all_steps p.steps ≡ done ++ rest

-- The step behind so many is the next of those that are left.
at_end : (done : List Step) (x : Step) (rest : List Step) → slice_get (done ++ x ∷ rest) (length done) ≡ Some x
at_end [] x rest = refl
at_end (y ∷ done) x rest = at_end done x rest

-- Behind all there is no step.
past_end : (done : List Step) → slice_get (done ++ []) (length done) ≡ None
past_end [] = refl
past_end (y ∷ done) = past_end done

-- One step more is made.
longer : (done : List Step) (x : Step) → length done + 1 ≡ length (done ++ x ∷ [])
longer done x = let e = length-append done (x ∷ []) in omega (arith, e)

-- w is the worker, k its key, q the Job's name, if one is to be made, p the plan that it claimed,
-- with the version v; Q holds in the end.
module _ (w : ℕ) (k : Place) (q : Option Place) (p : Planned) (v : ℕ) (reasons : List Reason) (Q : State → Type 0) where
  -- The next step is the first of those that are left.
  pub step_is : (s : State) (done : List Step) (x : Step) (rest : List Step) → Going w k p v s done (x ∷ rest)
      → step_at p.steps (length done) ≡ Some x
  unfolding step_at
  step_is s done x rest g = ap (λ (l : List Step). slice_get l (length done)) g.all ∙ at_end done x rest

  -- Where none is left there is no next step.
  step_none : (s : State) (done : List Step) → Going w k p v s done [] → step_at p.steps (length done) ≡ None
  unfolding step_at
  step_none s done g = ap (λ (l : List Step). slice_get l (length done)) g.all ∙ past_end done

  -- After the next step the rest is left.
  pub going_on : (s t : State) (done : List Step) (x : Step) (rest : List Step) → Going w k p v s done (x ∷ rest)
      → sync_of t w ≡ Some (next_sync k (work_at p v done)) → Going w k p v t (done ++ x ∷ []) rest
  going_on s t done x rest g e = record {
    sync = e ∙ ap (λ n. Some (in_flight k (works p v n))) (longer done x);
    all = g.all ∙ sym (append_assoc done (x ∷ []) rest);
  }

  -- What others leave doesn't change how far the worker has come.
  going_still : (s t : State) (done rest : List Step) → Same w k q s t → Going w k p v s done rest
      → Going w k p v t done rest
  going_still s t done rest same g = record { sync = same.sync ∙ g.sync; all = g.all }

  -- Drops are all accepted, and keep what each of them and what others leave keep.
  pub drops_go : (P : List JobRef → Content → Type 0)
      → ((rs : List JobRef) (s t : State) → Same w k q s t → P rs s.store → P rs t.store)
      → ((r : JobRef) (rs : List JobRef) (a b : Content) → Dropped a r b → P (r ∷ rs) a → P rs b)
      → (rs : List JobRef) (more done : List Step) (s : State) → Going w k p v s done (map_list drops rs ++ more)
      → P rs s.store
      → ((t : State) (d : List Step) → Going w k p v t d more → P [] t.store
      → Goes w k q t (calls_left reasons more) Q)
      → Goes w k q s (calls_left reasons (map_list drops rs ++ more)) Q
  drops_go P calm keep [] more done s g i next = next s done g i
  drops_go P calm keep (r ∷ rs) more done s g i next =
      goes w k q s Of.DropNext (calls_left reasons (map_list drops rs ++ more)) Q (λ t same.
      let sync = next_sync k (work_at p v done) in
      let h : Going w k p v t done (drops r ∷ (map_list drops rs ++ more)) = going_still s t done _ same g in
      let d = drop_made t w sync r in
      let m : Handled = drops_it t w sync r.key (map_ok job_gone (job_deleted t.store r.key (Some r.uid))) in
      record {
        handled = m;
        is = drop_is t w k (work_at p v done) r h.sync (step_is t done (drops r) (map_list drops rs ++ more) h);
        accepted = d.accepted;
        goes = drops_go P calm keep rs more (done ++ drops r ∷ []) m.state
            (going_on t m.state done (drops r) (map_list drops rs ++ more) h d.sync_is)
            (keep r rs t.store m.state.store d.store (calm (r ∷ rs) s t same i)) next;
      })

  -- The making of a Job whose name is free is accepted.
  pub make_goes : (d : JobDraft) (more done : List Step) (s : State) → Going w k p v s done (makes d ∷ more)
      → ((t : State) → Same w k q s t → map.get t.store.jobs d.key ≡ None)
      → ((t z : State) (e : List Step) → Same w k q s t → Going w k p v z e more
      → z.store ≡ after t.store (job_added (new_job t.store d p.at)) → Goes w k q z (calls_left reasons more) Q)
      → Goes w k q s (calls_left reasons (makes d ∷ more)) Q
  make_goes d more done s g free next =
      goes w k q s Of.MakeNext (calls_left reasons more) Q (λ t same.
      let sync = next_sync k (work_at p v done) in
      let h : Going w k p v t done (makes d ∷ more) = going_still s t done _ same g in
      let z : State = sits (written t (job_added (new_job t.store d p.at))) w sync in
      record {
        handled = _;
        is = make_is t w k (work_at p v done) d h.sync (step_is t done (makes d) more h)
            (free t same);
        accepted = refl;
        goes = next t z (done ++ makes d ∷ []) same
            (going_on t z done (makes d) more h (sync_here t.syncs w sync)) refl;
      })

  -- The setting of the status, on the version that is known, is accepted.
  pub status_goes : (f : CronStatus) (cron c : CronJob) (done : List Step) (s : State)
      → Going w k p v s done (sets f ∷ []) → p.cron ≡ Some cron → map.get s.store.crons k ≡ Some c
      → c.meta.uid ≡ cron.meta.uid → c.meta.version ≡ v
      → ((t z : State) (e : List Step) → Same w k q s t → Going w k p v z e []
      → z.store ≡ after t.store (cron_modified (with_status t.store f c))
      → Goes w k q z (calls_left reasons []) Q)
      → Goes w k q s (calls_left reasons (sets f ∷ [])) Q
  status_goes f cron c done s g i at u n next =
      goes w k q s Of.SetStatus (calls_left reasons []) Q (λ t same.
      let sync = next_sync k (work_at p v done) in
      let h : Going w k p v t done (sets f ∷ []) = going_still s t done _ same g in
      let z : State = sits (written t (cron_modified (with_status t.store f c))) w sync in
      record {
        handled = _;
        is = status_is t w k (work_at p v done) f cron c h.sync (step_is t done (sets f) [] h) i (same.cron ∙ at) u n;
        accepted = refl;
        goes = next t z (done ++ sets f ∷ []) same
            (going_on t z done (sets f) [] h (sync_here t.syncs w sync)) refl;
      })

  -- The end is accepted where no step is left, and leaves the store as others left it.
  pub finish_goes : (done : List Step) (s : State) → Going w k p v s done []
      → ((t z : State) → Same w k q s t → z.store ≡ t.store → Q z) → Goes w k q s (calls_left reasons []) Q
  finish_goes done s g next =
      goes w k q s (Of.Finish Well reasons) [] Q (λ t same.
      let h : Going w k p v t done [] = going_still s t done [] same g in
      let m : Handled = leaves t w (finished_ok t.queue k (next_ms p.steps.next)) in
      record {
        handled = m;
        is = finish_is t w k (work_at p v done) reasons h.sync (step_none t done h);
        accepted = refl;
        goes = next t m.state same refl;
      })
