-- What the user of a run still does, by its scenario: where that doesn't write a CronJob, no entry of a user does.
use Rattle.std.proofs.Common.{◌≡◌, ◌∙◌, ◌+◌, ◌≤◌, ◌==◌, ℕ, zero, suc, Bool, true, false, List, [], ◌∷◌, ◌++◌, drop, length, map, Option, Some, None, option_map, refl, sym, ap, subst, append_assoc, arith}
use Rattle.std.specs.Prelude.{All, IfSome, Result, Ok, Err, if◌then◌else◌}
use Rattle.std.specs.List.{AllByRecursion, AllZip}
use Rattle.std.proofs.lemmas.Bool.{eq-eqb}
use Rattle.std.proofs.lemmas.List.{length-append}
use Rattle.std.proofs.lemmas.List.Elements.{All-head, All-tail}
use Rattle.cj_base.specs.declared.refusal.Refusal.{Refusal}
use Rattle.cj_types.specs.Keys.{Place}
use Rattle.cj_types.specs.declared.cron.CronJob.{CronJob}
use Rattle.cj_types.specs.declared.event.Event.{Event}
use Rattle.cj_types.specs.declared.job.Job.{Job}
use Rattle.cj_queue.specs.Parts.{key_eq}
use Rattle.cj_zone.specs.declared.table.ZoneTable.{ZoneTable}
use Rattle.cj_calls.specs.Rows.{Told}
use Rattle.cj_calls.specs.declared.call.Call.{Call}
use Rattle.cj_calls.specs.declared.call.Call.TheVariants as Of
use Rattle.cj_calls.specs.declared.caller.Caller.{Caller}
use Rattle.cj_calls.specs.declared.caller.Role.{Role}
use Rattle.cj_calls.specs.declared.caller.Role.TheVariants.{Informer, Runner, User, Worker}
use Rattle.cj_calls.specs.declared.reply.Reply.{Reply}
use Rattle.cj_state.specs.Legal.{IsLegal}
use Rattle.cj_state.specs.declared.phases.sync.InFlight.{InFlight}
use Rattle.cj_world_laws.specs.legal.Callers.{is_of_sync}
use Rattle.cj_world_laws.specs.legal.InFlightSyncs.{sync}
use Rattle.cj_world_laws.specs.once.Once.{is_ok}
use Rattle.cj_world_laws.proofs.LegalLemmas.Callers.{callers_apart}
use Rattle.cj_world.specs.Worlds.{WorldLog}
use Rattle.cj_hub.specs.Receipts.{IsExact, caller_of, placed, receipt_of}
use Rattle.cj_hub.specs.declared.receipt.Receipt.{Receipt}
use Rattle.cj_history.specs.store.Written.{cron_deleted, cron_updated, current_cron, current_job, job_deleted, job_ended, job_updated}
use Rattle.cj_history.specs.store.Writes.{entry_written, writes, written_by}
use Rattle.cj_history.specs.progress.Apart.{Spares}
use Rattle.cj_history.specs.progress.Undisturbed.{is_of, object_of}
use Rattle.cj_history.proofs.StoreLemmas.Answered.{cron_keyed}
use Rattle.cj_script.specs.operations.Calls.{IsUnseenCall}
use Rattle.cj_script.specs.declared.operations.operation.Operation.{Operation}
use Rattle.cj_script.specs.declared.operations.operation.Operation.TheVariants.{Calls, Claims, Closes, Ends}
use Rattle.cj_script.specs.declared.simulation.scenario.Simulation.{Simulation}
use Rattle.cj_run.specs.Actions.{IsOf}
use Rattle.cj_run.specs.Participants.{AreAll, IsOwn, passes_of}
use Rattle.cj_run.specs.Runs.{IsRun}
use Rattle.cj_run.specs.Simulations.{operation_writes, operations_below, writes_cron}
use Rattle.cj_run.specs.Syncs.{LeavesAlone, is_user, user_calls}
use Rattle.cj_run.specs.Turns.{turn}
use Rattle.cj_run.specs.declared.participants.Participants.{Participants}
use Rattle.cj_run.proofs.Created.{StandsAt, last_caller, last_pass, none_other, legal_back, stands_at, users_number}

-- ---- what a call writes

-- What a user's call writes that isn't to write the CronJob at the key is something else.
user_spared : (ws : List Event) (k : Place) (o : Option InFlight) (call : Call) (r : Reply)
    → (is_of_sync call ≡ true → ⊥) → writes_cron k call ≡ false
    → IfSome (written_by ws o call r) (λ x. is_of k None (object_of x) ≡ false)
user_spared ws k o (Of.CreateCron d now) r not off = off
user_spared ws k o (Of.UpdateCron d) r not off = by (current_cron ws d.key) refl
  where
    by : (x : Option CronJob) → current_cron ws d.key ≡ x
        → IfSome (option_map (cron_updated ws d) x) (λ y. is_of k None (object_of y) ≡ false)
    by None e = tt
    by (Some c) e = ap (λ (p : Place). key_eq p k) (cron_keyed ws d.key c e) ∙ off
user_spared ws k o (Of.DeleteCron q) r not off = by (current_cron ws q) refl
  where
    by : (x : Option CronJob) → current_cron ws q ≡ x
        → IfSome (option_map (cron_deleted ws) x) (λ y. is_of k None (object_of y) ≡ false)
    by None e = tt
    by (Some c) e = ap (λ (p : Place). key_eq p k) (cron_keyed ws q c e) ∙ off
user_spared ws k o (Of.CreateJob d now) r not off = refl
user_spared ws k o (Of.UpdateJob d) r not off = by (current_job ws d.key)
  where
    by : (x : Option Job) → IfSome (option_map (job_updated ws d) x) (λ y. is_of k None (object_of y) ≡ false)
    by None = tt
    by (Some j) = refl
user_spared ws k o (Of.DeleteJob q) r not off = by (current_job ws q)
  where
    by : (x : Option Job) → IfSome (option_map (job_deleted ws) x) (λ y. is_of k None (object_of y) ≡ false)
    by None = tt
    by (Some j) = refl
user_spared ws k o (Of.EndJob q u outcome now) r not off = by (current_job ws q)
  where
    by : (x : Option Job) → IfSome (option_map (job_ended ws outcome now) x) (λ y. is_of k None (object_of y) ≡ false)
    by None = tt
    by (Some j) = refl
user_spared ws k o (Of.Claim p) r not off = absurd (not refl)
user_spared ws k o Of.DropNext r not off = absurd (not refl)
user_spared ws k o Of.MakeNext r not off = absurd (not refl)
user_spared ws k o Of.SetStatus r not off = absurd (not refl)
user_spared ws k o call r not off = tt

-- So does a user's entry.
entry_spared : (window : ℕ) (e : Told) (h : List Told) (k : Place) → IsLegal window (e ∷ h) → e.caller.role ≡ User
    → writes_cron k e.call ≡ false → Spares h e k None
entry_spared window e h k l user off = by e.answer refl
  where
    by : (a : Result Reply Refusal) → e.answer ≡ a
        → IfSome (entry_written (writes h) (sync h e.caller.number) e.call a) (λ x. is_of k None (object_of x) ≡ false)
    by (Err x) f = tt
    by (Ok r) f =
        user_spared (writes h) k (sync h e.caller.number) e.call r
        (λ of. cc (sym user ∙ (callers_apart window (e ∷ h) l).alone.0 of (ap is_ok f))) off

-- An operation that doesn't write the CronJob calls for nothing that does.
call_off : (zones : ZoneTable) (k : Place) (operation : Operation) (call : Call) → IsUnseenCall zones operation call
    → operation_writes k operation ≡ false → writes_cron k call ≡ false
call_off zones k (Calls said) call is off = ap (writes_cron k) is ∙ off
call_off zones k (Ends key outcome at) call is off = ap (writes_cron k) is.is
call_off zones k (Claims at) call is off = ap (writes_cron k) is.is
call_off zones k (Closes end) call is off = ap (writes_cron k) is

-- ---- where it stands

-- users have that number
abbrev HasNumber : ℕ → Told → Type 0
HasNumber number e = e.caller.role ≡ User → e.caller.number ≡ number

-- Where all entries of a history do, so do those of its beginning.
back : {X : Type 0} (P : X → Type 0) (more h : List X) → AllByRecursion P (more ++ h) → AllByRecursion P h
back P [] h all = all
back P (x ∷ more) h all = back P more h all.1

-- In a run they do.
all_numbers : (workers : ℕ) (c : Participants) (h : List Told)
    → ((e : Told) → IsOwn (map caller_of (passes_of c)) e → HasNumber c.user.number e)
    → AllByRecursion (IsOwn (map caller_of (passes_of c))) h → AllByRecursion (HasNumber c.user.number) h
all_numbers workers c [] each all = tt
all_numbers workers c (e ∷ h) each all = (each e all.0, all_numbers workers c h each all.1)

-- So users made no more calls than have the number.
at_most : (number : ℕ) (h : List Told) → AllByRecursion (HasNumber number) h → user_calls h ≤ length (placed number h)
at_most number [] all = omega arith
at_most number (e ∷ h) all = by e.caller.role refl (e.caller.number == number) refl (at_most number h all.1)
  where
    one : (b : Bool) → length (if b then placed number h ++ receipt_of (length h + 1) e ∷ [] else placed number h)
        ≡ (if b then length (placed number h) + 1 else length (placed number h))
    one true = length-append (placed number h) (receipt_of (length h + 1) e ∷ [])
    one false = refl

    other : (role : Role) → is_user role ≡ false → (b : Bool) → user_calls h ≤ length (placed number h)
        → (if is_user role then user_calls h + 1 else user_calls h)
        ≤ (if b then length (placed number h) + 1 else length (placed number h))
    other role f b low =
        subst (λ (t : Bool). (if t then user_calls h + 1 else user_calls h)
        ≤ (if b then length (placed number h) + 1 else length (placed number h))) (sym f) (least b)
      where
        least : (b : Bool) → user_calls h ≤ (if b then length (placed number h) + 1 else length (placed number h))
        least true = omega (arith, low)
        least false = low

    with_one : (role : Role) (b : Bool) → (e.caller.number == number) ≡ b
        → (if is_user role then user_calls h + 1 else user_calls h)
        ≤ (if b then length (placed number h) + 1 else length (placed number h))
        → (if is_user role then user_calls h + 1 else user_calls h)
        ≤ length (if (e.caller.number == number) then placed number h ++ receipt_of (length h + 1) e ∷ []
        else placed number h)
    with_one role b f low =
        subst (λ (n : ℕ). (if is_user role then user_calls h + 1 else user_calls h) ≤ n)
        (sym (ap (λ (t : Bool). length (if t then placed number h ++ receipt_of (length h + 1) e ∷ []
        else placed number h)) f ∙ one b)) low

    by : (role : Role) → e.caller.role ≡ role → (b : Bool) → (e.caller.number == number) ≡ b
        → user_calls h ≤ length (placed number h)
        → user_calls (e ∷ h) ≤ length (placed number (e ∷ h))
    by User r b f low =
        let own : (e.caller.number == number) ≡ true = eq-eqb e.caller.number number (all.0 r) in
        subst (λ (x : Role). (if is_user x then user_calls h + 1 else user_calls h) ≤ length (placed number (e ∷ h)))
        (sym r) (with_one User true own (omega (arith, low)))
    by Worker r b f low =
        subst (λ (x : Role). (if is_user x then user_calls h + 1 else user_calls h) ≤ length (placed number (e ∷ h)))
        (sym r) (with_one Worker b f (other Worker refl b low))
    by Runner r b f low =
        subst (λ (x : Role). (if is_user x then user_calls h + 1 else user_calls h) ≤ length (placed number (e ∷ h)))
        (sym r) (with_one Runner b f (other Runner refl b low))
    by Informer r b f low =
        subst (λ (x : Role). (if is_user x then user_calls h + 1 else user_calls h) ≤ length (placed number (e ∷ h)))
        (sym r) (with_one Informer b f (other Informer refl b low))

-- A longer history has no fewer.
calls_on : (es h : List Told) → user_calls h ≤ user_calls (es ++ h)
calls_on [] h = omega arith
calls_on (e ∷ es) h = by (is_user e.caller.role) (calls_on es h)
  where
    by : (b : Bool) → user_calls h ≤ user_calls (es ++ h)
        → user_calls h ≤ (if b then user_calls (es ++ h) + 1 else user_calls (es ++ h))
    by true low = omega (arith, low)
    by false low = low

-- What stands behind the first n of a list has what holds of all behind these, and what matches it.
zip_behind : {A B : Type 0} (P : A → Type 0) (Q : A → B → Type 0) (xs : List A) (ys ys' : List B) (y : B) (n : ℕ)
    → All P (drop n xs) → AllZip Q xs (ys ++ y ∷ ys') → n ≤ length ys → (x : A) × P x × Q x y
zip_behind P Q [] [] ys' y n all two low = absurd two
zip_behind P Q [] (r ∷ ys) ys' y n all two low = absurd two
zip_behind P Q (x ∷ xs) [] ys' y zero all two low = (x, All-head P x xs all, two.0)
zip_behind P Q (x ∷ xs) [] ys' y (suc n) all two low = absurd (omega (arith, low))
zip_behind P Q (x ∷ xs) (r ∷ ys) ys' y zero all two low =
    zip_behind P Q xs ys ys' y zero (All-tail P x xs all) two.1 (omega arith)
zip_behind P Q (x ∷ xs) (r ∷ ys) ys' y (suc n) all two low =
    zip_behind P Q xs ys ys' y n all two.1 (omega (arith, low))

-- ---- the whole run

-- no entry of a user after the history writes the CronJob
abbrev pub AreSpared : Place → List Told → List Told → Type 0
AreSpared k [] start = Unit {0}
AreSpared k (e ∷ es) start = (e.caller.role ≡ User → Spares (es ++ start) e k None) × AreSpared k es start

-- c is the scenario of a run, and k the key of a CronJob that is created with start.
module _ (c : Simulation) (workers : ℕ) (w : WorldLog) (text : List ℕ) (k : Place) (start : List Told)
    (run : IsRun c workers w text) (left : LeavesAlone c w.history k start) where
  -- A user's entry spares it.
  spared_at : (later es : List Told) (e : Told) → w.history ≡ later ++ e ∷ (es ++ start) → e.caller.role ≡ User
      → Spares (es ++ start) e k None
  spared_at later es e whole user =
      let window : ℕ = w.limits.window in
      let before : List Told = es ++ start in
      let count : ℕ = turn c.span w.history in
      let p : Participants = run.participants in
      let number : ℕ = p.user.number in
      let all : AreAll (passes_of p) (later ++ e ∷ before) = subst (AreAll (passes_of p)) whole run.all in
      let own : e.caller.number ≡ number = users_number workers p later before e run.complete all user in
      let stands : StandsAt c.span number later before e =
      stands_at c.span number later before e (eq-eqb e.caller.number number own) in
      let exact : p.user.receipts ≡ placed number w.history =
      last_pass (IsExact w.history) ((p.workers.items ++ p.runners.items) ++ p.informer ∷ []) p.user run.all.exact in
      let receipts : p.user.receipts ≡ stands.receipts ++ receipt_of stands.place e ∷ stands.receipts_on =
      exact ∙ ap (placed number) whole ∙ stands.receipts_are in
      let numbers : AllByRecursion (HasNumber number) before =
      all_numbers workers p before
      (λ x is user.
      ap (λ (y : Caller). y.number)
      (last_caller ((p.workers.items ++ p.runners.items) ++ p.informer ∷ []) p.user x.caller x.caller.number
      (none_other workers p run.complete) is user))
      (back (IsOwn (map caller_of (passes_of p))) (later ++ e ∷ []) before
      (subst (AllByRecursion (IsOwn (map caller_of (passes_of p))))
      (sym (append_assoc later (e ∷ []) before)) all.own)) in
      let most = at_most number before numbers in
      let on = calls_on es start in
      let many : length stands.receipts ≡ length (placed number before) =
      ap (λ (rs : List Receipt). length rs) stands.before_are in
      let found = zip_behind (λ (o : Operation). operation_writes k o ≡ false) (IsOf User c.zones)
      (operations_below c count) stands.receipts stands.receipts_on (receipt_of stands.place e) (user_calls start) left
      (subst (AllZip (IsOf User c.zones) (operations_below c count)) receipts run.done.did)
      (omega (arith, most, on, many)) in
      entry_spared window e before k
      (legal_back window later (e ∷ before) (subst (IsLegal window) whole run.promise.legal)) user
      (call_off c.zones k found.0 e.call found.2.0 found.1)

  -- So do all of them.
  spared_all : (later more : List Told) → w.history ≡ later ++ (more ++ start) → AreSpared k more start
  spared_all later [] whole = tt
  spared_all later (e ∷ es) whole = (
    spared_at later es e whole,
    spared_all (later ++ e ∷ []) es (whole ∙ sym (append_assoc later (e ∷ []) (es ++ start))),
  )

-- For run_syncs_law: where the scenario leaves the CronJob alone, no entry of a user writes it.
pub are_spared : (c : Simulation) (workers : ℕ) (w : WorldLog) (text : List ℕ) (k : Place) (start more : List Told)
    → IsRun c workers w text → w.history ≡ more ++ start → LeavesAlone c w.history k start → AreSpared k more start
are_spared c workers w text k start more run is left = spared_all c workers w text k start run left [] more is
