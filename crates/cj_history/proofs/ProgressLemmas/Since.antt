-- Before its creation nothing was made for a CronJob.
use Rattle.std.proofs.Common.{◌≡◌, ℕ, ◌+◌, ◌≤◌, ◌==◌, Bool, true, false, cond, List, [], ◌∷◌, ◌++◌, Option, Some, None, is_some, refl, sym, ap, subst, ◌∙◌, arith}
use Rattle.std.specs.Prelude.{Ok, Err, IfSome, if◌then◌else◌}
use Rattle.std.specs.List.{AllByRecursion}
use Rattle.std.specs.FinMap as map
use Rattle.std.proofs.lemmas.Bool.{eqb-true}
use Rattle.std.proofs.lemmas.List.{append-nil}
use Rattle.cj_base.specs.declared.refusal.Refusal.TheVariants.{AlreadyExists}
use Rattle.cj_types.specs.Keys.{Place}
use Rattle.cj_types.specs.declared.cron.CronJob.{CronJob}
use Rattle.cj_types.specs.declared.cron.CronJobDraft.{CronJobDraft}
use Rattle.cj_schedule.specs.Matches.{Sets}
use Rattle.cj_zone.specs.declared.zone.Zone.{Zone}
use Rattle.cj_store.specs.Change.{map_ok, cron_added}
use Rattle.cj_store.specs.Crons.{new_cron}
use Rattle.cj_store.specs.Metadata.{version_not_allowed}
use Rattle.cj_decide.specs.laws.Laws.{IsIn}
use Rattle.cj_calls.specs.declared.caller.Role.{Role}
use Rattle.cj_calls.specs.declared.caller.Role.TheVariants.{User, Runner, Informer, Worker}
use Rattle.cj_calls.specs.declared.call.Call.{Call}
use Rattle.cj_calls.specs.declared.call.Call.TheVariants as Of
use Rattle.cj_calls.specs.declared.reply.Reply.TheVariants as Say
use Rattle.cj_calls.specs.Rows.{Told}
use Rattle.cj_state.specs.declared.state.State.{State}
use Rattle.cj_state.specs.WorkerCalls.{Handled, event_reply}
use Rattle.cj_state.specs.Step.{writes, by_role, step_of}
use Rattle.cj_state.specs.Legal.{state_of}
use Rattle.cj_world_laws.specs.once.Once.{Claimed, claim_of, makes_with, with_made, makes}
use Rattle.cj_world_laws.proofs.OnceLemmas.Maps.{put_here}
use Rattle.cj_history.specs.progress.Every.{Moment, Synced, times_of, made_for, IsBegun, IsNew, AreLatest, EveryTimeSince}
use Rattle.cj_history.proofs.ProgressLemmas.Makers.{Good, earlier, facts}
use Rattle.cj_history.proofs.ProgressLemmas.Synced.{sync_begun, every_time}

-- ---- what is created

-- the CronJob is the new one of the draft, and stands
abbrev Creates : State → CronJobDraft → ℕ → CronJob → Handled → Type 0
Creates s d now cron m = (cron ≡ new_cron s.store d now) × (map.get m.state.store.crons d.key ≡ Some cron)

-- For created_by: by the two tests of a create.
created_tests : (s : State) (d : CronJobDraft) (now : ℕ) (cron : CronJob) (a b : Bool)
    → Ok (Say.Cron cron) ≡ (writes s event_reply (map_ok cron_added (if a then Err version_not_allowed
    else if b then Err AlreadyExists else Ok (new_cron s.store d now)))).answer
    → Creates s d now cron (writes s event_reply (map_ok cron_added (if a then Err version_not_allowed
    else if b then Err AlreadyExists else Ok (new_cron s.store d now))))
created_tests s d now cron true b e = absurd (cc e)
created_tests s d now cron false true e = absurd (cc e)
created_tests s d now cron false false e =
    let same : cron ≡ new_cron s.store d now = cc e in
    (same, put_here s.store.crons d.key (new_cron s.store d now) ∙ ap (λ (x : CronJob). Some x) (sym same))

-- For created: by the role.
created_by : (s : State) (role : Role) (w : ℕ) (d : CronJobDraft) (now : ℕ) (cron : CronJob)
    → Ok (Say.Cron cron) ≡ (by_role s role w (Of.CreateCron d now)).answer
    → Creates s d now cron (by_role s role w (Of.CreateCron d now))
created_by s User w d now cron e =
    created_tests s d now cron (is_some d.meta.version) (is_some (map.get s.store.crons d.key)) e
created_by s Runner w d now cron e = absurd (cc e)
created_by s Informer w d now cron e = absurd (cc e)
created_by s Worker w d now cron e = absurd (cc e)

-- A create that is answered a CronJob made it of its draft, and it stands.
created : (s : State) (role : Role) (w : ℕ) (d : CronJobDraft) (now : ℕ) (cron : CronJob)
    → Ok (Say.Cron cron) ≡ (step_of s (record { number = w; role = role }) (Of.CreateCron d now)).answer
    → Creates s d now cron (step_of s (record { number = w; role = role }) (Of.CreateCron d now))
unfolding step_of
created s role w d now cron e = created_by s role w d now cron e

-- Of owners that were there before none has a new uid.
none_for : (n : ℕ) (ms : List Claimed) → AllByRecursion (λ x. x.owner ≤ n) ms → times_of (n + 1) ms ≡ []
none_for n [] a = refl
none_for n (m ∷ ms) a = by (m.owner == n + 1) refl (none_for n ms a.1)
  where
    by : (b : Bool) → (m.owner == n + 1) ≡ b → times_of (n + 1) ms ≡ []
        → cond b (m.time ∷ times_of (n + 1) ms) (times_of (n + 1) ms) ≡ []
    by true e rest = let same = eqb-true m.owner (n + 1) e in let low = a.0 in absurd (omega (arith, same, low))
    by false e rest = rest

-- ---- from the creation on

-- The history before the syncs is such as the one after them.
synced_begun : (window : ℕ) (k : Place) (z : Zone) (start : List Told) (ms : List Moment) (g : List Told)
    → Good window g → Synced window k z start ms g → Good window start
synced_begun window k z start [] g good (es, others, is) = earlier window es start (subst (Good window) is good)
synced_begun window k z start (m ∷ ms) g good (before, after, es, rest, sync, others, is) =
    synced_begun window k z start ms before
    (sync_begun window k z m before after sync (earlier window es after (subst (Good window) is good))) rest

-- what holds after the creation
pub record Fresh (window : ℕ) (h : List Told) (k : Place) (cron : CronJob) (s : Sets) : Type 0 where
  pub begun : IsBegun window h k cron s
  pub none : made_for window cron.meta.uid h ≡ []
  pub last : cron.status.last_schedule_time ≡ None

-- It does.
fresh : (window : ℕ) (h : List Told) (k : Place) (cron : CronJob) (s : Sets) (n : IsNew h k cron s)
    → Good window (n.creation ∷ n.before) → Fresh window (n.creation ∷ n.before) k cron s
fresh window h k cron s n good =
    let st : State = state_of window n.before in
    let e : Told = n.creation in
    let told : Ok (Say.Cron cron) ≡ (step_of st e.caller (Of.CreateCron n.draft n.now)).answer =
    sym n.answer ∙ (good.legal.0 ∙ ap (λ (c : Call). (step_of st e.caller c).answer) n.call) in
    let m = created st e.caller.role e.caller.number n.draft n.now cron told in
    let uid : cron.meta.uid ≡ st.store.uids + 1 = ap (λ (c : CronJob). c.meta.uid) m.0 in
    let none : made_for window cron.meta.uid (e ∷ n.before) ≡ [] =
    ap (λ (c : Call). times_of cron.meta.uid (with_made (makes_with c e.answer)
    (claim_of window n.before e.caller.number) (makes window n.before))) n.call
    ∙ (ap (λ (u : ℕ). times_of u (makes window n.before)) uid
    ∙ none_for st.store.uids (makes window n.before)
    (facts window n.before (earlier window (e ∷ []) n.before good)).now.inv.store.made) in
    record {
      begun = record {
        stands = ap (map.get (state_of window (e ∷ n.before)).store.crons) (sym n.key)
            ∙ (ap (λ (c : Call). map.get (step_of st e.caller c).state.store.crons n.draft.key) n.call ∙ m.1);
        runs = n.runs;
        reads = n.reads;
        last = subst (λ (o : Option ℕ). IfSome o (λ t. IsIn t (made_for window cron.meta.uid (e ∷ n.before))))
            (sym (ap (λ (c : CronJob). c.status.last_schedule_time) m.0)) tt;
      };
      none = none;
      last = ap (λ (x : CronJob). x.status.last_schedule_time) m.0;
    }

-- The same of a history that begins with the creation.
pub fresh_new : (window : ℕ) (start : List Told) (k : Place) (cron : CronJob) (s : Sets) → Good window start
    → IsNew start k cron s → Fresh window start k cron s
fresh_new window start k cron s good n =
    subst (λ (h : List Told). Fresh window h k cron s) (sym n.is)
    (fresh window start k cron s n (subst (Good window) n.is good))

-- In a history that begins with the creation, it holds after that.
pub fresh_in : (window : ℕ) (start g : List Told) (k : Place) (cron : CronJob) (s : Sets) (z : Zone) (ms : List Moment)
    → Good window g → IsNew start k cron s → Synced window k z start ms g → Fresh window start k cron s
fresh_in window start g k cron s z ms good n y =
    fresh_new window start k cron s (synced_begun window k z start ms g good y) n

-- For every_time_law: from the creation on they are all Jobs that are made for the CronJob.
pub every_time_since : EveryTimeSince
every_time_since window start g k cron s z ms short legal planned n on y =
    let f = fresh_in window start g k cron s z ms (record { short = short; legal = legal; planned = planned }) n y in
    let r = every_time window start g k cron s z ms short legal planned f.begun on y in
    subst (AreLatest s z cron ms)
    (sym (r.2 ∙ (ap (λ (l : List ℕ). r.0 ++ l) f.none ∙ append-nil r.0))) r.1
