-- In a run each CronJob is created at the moment of the instant that begins next.
use Rattle.std.proofs.Common.{◌≡◌, ◌≢◌, ◌⊎◌, inl, inr, ◌∙◌, ◌+◌, ◌-◌, ◌<◌, ◌≤◌, ◌==◌, ℕ, zero, suc, Bool, true, false, List, [], ◌∷◌, ◌++◌, length, map, Some, is_some, refl, sym, ap, subst, append_assoc, arith}
use Rattle.std.specs.Prelude.{All, Ok, Err, if◌then◌else◌, slice_get}
use Rattle.std.specs.List.{AllByRecursion, AllZip, filter}
use Rattle.std.specs.FinMap as map_of
use Rattle.std.proofs.lemmas.Bool.{eq-eqb, eqb-true}
use Rattle.std.proofs.lemmas.List.{length-append}
use Rattle.std.proofs.lemmas.List.Elements.{All-head, All-tail}
use Rattle.cj_base.specs.declared.refusal.Refusal.TheVariants.{AlreadyExists}
use Rattle.cj_types.specs.Keys.{Place}
use Rattle.cj_types.specs.declared.cron.CronJob.{CronJob}
use Rattle.cj_types.specs.declared.cron.CronJobDraft.{CronJobDraft}
use Rattle.cj_schedule.specs.Matches.{Sets}
use Rattle.cj_zone.specs.declared.table.ZoneTable.{ZoneTable}
use Rattle.cj_store.specs.Change.{map_ok, cron_added}
use Rattle.cj_store.specs.Crons.{new_cron}
use Rattle.cj_store.specs.Metadata.{version_not_allowed}
use Rattle.cj_calls.specs.Rows.{Told}
use Rattle.cj_calls.specs.declared.call.Call.{Call}
use Rattle.cj_calls.specs.declared.call.Call.TheVariants as Of
use Rattle.cj_calls.specs.declared.caller.Caller.{Caller}
use Rattle.cj_calls.specs.declared.caller.Role.{Role}
use Rattle.cj_calls.specs.declared.caller.Role.TheVariants.{Informer, Runner, User, Worker}
use Rattle.cj_calls.specs.declared.reply.Reply.{Reply}
use Rattle.cj_calls.specs.declared.reply.Reply.TheVariants as Say
use Rattle.cj_state.specs.declared.state.State.{State}
use Rattle.cj_state.specs.Legal.{IsLegal, state_of}
use Rattle.cj_state.specs.Step.{writes, by_role, step_of}
use Rattle.cj_state.specs.WorkerCalls.{event_reply}
use Rattle.cj_hub.specs.Receipts.{IsExact, PassView, caller_of, placed, receipt_of}
use Rattle.cj_hub.specs.declared.receipt.Receipt.{Receipt}
use Rattle.cj_world_laws.specs.once.Once.{is_ok}
use Rattle.cj_history.specs.progress.Every.{IsNew}
use Rattle.cj_history.proofs.ProgressLemmas.Spared.{is_users, no_user}
use Rattle.cj_script.specs.operations.Calls.{IsUnseenCall}
use Rattle.cj_script.specs.declared.operations.operation.Operation.{Operation}
use Rattle.cj_script.specs.declared.operations.operation.Operation.TheVariants.{Calls, Claims, Closes, Ends}
use Rattle.cj_script.specs.simulation.Spans.{SpanView, instant}
use Rattle.cj_script.specs.declared.simulation.scenario.Edit.{Edit}
use Rattle.cj_script.specs.declared.simulation.scenario.Simulation.{Simulation}
use Rattle.cj_world.specs.Worlds.{WorldLog}
use Rattle.cj_run.specs.Actions.{IsOf}
use Rattle.cj_run.specs.Participants.{AreAll, AreComplete, HasWorked, IsOwn, passes_of}
use Rattle.cj_run.specs.Runs.{IsRun}
use Rattle.cj_run.specs.Simulations.{AreTimed, IsTimed, creations, edits_at, operations_below}
use Rattle.cj_run.specs.Syncs.{RunCreates, next_moment}
use Rattle.cj_run.specs.Turns.{progress_after, progress_of, turn, turns_below, turns_of}
use Rattle.cj_run.specs.declared.participants.Participants.{Participants}
use Rattle.cj_run.proofs.Done.{zip_append}

-- ---- whose call it is

-- What holds of all entries holds of each.
among : {X : Type 0} (P : X → Type 0) (more before : List X) (x : X) → AllByRecursion P (more ++ x ∷ before) → P x
among P [] before x all = all.0
among P (y ∷ more) before x all = among P more before x all.1

-- it isn't the user's
abbrev IsOther : PassView → Type 0
IsOther p = p.role ≢ User

-- Passes of another role are others.
others : (P : PassView → Type 0) (ps : List PassView) → ((p : PassView) → P p → IsOther p) → All P ps
    → AllByRecursion IsOther ps
others P [] f all = tt
others P (p ∷ ps) f all = (f p (All-head P p ps all), others P ps f (All-tail P p ps all))

-- What holds of the elements of two lists holds of those of both.
all_joined : {X : Type 0} (P : X → Type 0) (xs ys : List X) → AllByRecursion P xs → AllByRecursion P ys
    → AllByRecursion P (xs ++ ys)
all_joined P [] ys all more = more
all_joined P (x ∷ xs) ys all more = (all.0, all_joined P xs ys all.1 more)

-- Where the others are no users, a caller that is one is the last.
pub last_caller : (ps : List PassView) (p : PassView) (c : Caller) (n : ℕ) → AllByRecursion IsOther ps
    → slice_get (map caller_of (ps ++ p ∷ [])) n ≡ Some c → c.role ≡ User → c ≡ caller_of p
last_caller [] p c zero none at user = cc (sym at)
last_caller [] p c (suc n) none at user = absurd (cc at)
last_caller (q ∷ ps) p c zero none at user =
    let same : caller_of q ≡ c = cc at in
    absurd (none.0 (ap (λ (x : Caller). x.role) same ∙ user))
last_caller (q ∷ ps) p c (suc n) none at user = last_caller ps p c n none.1 at user

-- What holds of all passes holds of the last.
pub last_pass : (P : PassView → Type 0) (ps : List PassView) (p : PassView) → All P (ps ++ p ∷ []) → P p
last_pass P [] p all = All-head P p [] all
last_pass P (q ∷ ps) p all = last_pass P ps p (All-tail P q (ps ++ p ∷ []) all)

-- Workers, runners and informer are others.
pub none_other : (workers : ℕ) (c : Participants) → AreComplete workers c
    → AllByRecursion IsOther ((c.workers.items ++ c.runners.items) ++ c.informer ∷ [])
none_other workers c whole =
    all_joined IsOther (c.workers.items ++ c.runners.items) (c.informer ∷ [])
    (all_joined IsOther c.workers.items c.runners.items
    (others HasWorked c.workers.items (λ p worked user. cc (sym user ∙ worked.role)) whole.worked)
    (others (λ p. p.role ≡ Runner) c.runners.items (λ p runs user. cc (sym user ∙ runs)) whole.runners))
    ((λ user. cc (sym user ∙ whole.informer)), tt)

-- So a user's entry has the number of the user's pass.
pub users_number : (workers : ℕ) (c : Participants) (more before : List Told) (e : Told) → AreComplete workers c
    → AreAll (passes_of c) (more ++ e ∷ before) → e.caller.role ≡ User → e.caller.number ≡ c.user.number
users_number workers c more before e whole all user =
    let own : IsOwn (map caller_of (passes_of c)) e =
    among (IsOwn (map caller_of (passes_of c))) more before e all.own in
    ap (λ (x : Caller). x.number)
    (last_caller ((c.workers.items ++ c.runners.items) ++ c.informer ∷ []) c.user e.caller e.caller.number
    (none_other workers c whole) own user)

-- ---- where it stands

-- among the calls with the number the entry stands there, with as many instants begun before it
pub record StandsAt (s : SpanView) (number : ℕ) (more before : List Told) (e : Told) : Type 0 where
  pub turns : List ℕ
  pub turns_on : List ℕ
  pub receipts : List Receipt
  pub receipts_on : List Receipt
  pub place : ℕ
  pub turns_are : turns_of s number (more ++ e ∷ before) ≡ turns ++ turn s before ∷ turns_on
  pub receipts_are : placed number (more ++ e ∷ before) ≡ receipts ++ receipt_of place e ∷ receipts_on
  pub same : length turns ≡ length receipts
  pub before_are : receipts ≡ placed number before

-- There are as many turns as receipts.
as_many : (s : SpanView) (number : ℕ) (h : List Told) → length (turns_of s number h) ≡ length (placed number h)
as_many s number [] = refl
as_many s number (e ∷ h) = by (e.caller.number == number) (as_many s number h)
  where
    by : (b : Bool) → length (turns_of s number h) ≡ length (placed number h)
        → length (if b then turns_of s number h ++ turn s h ∷ [] else turns_of s number h)
        ≡ length (if b then placed number h ++ receipt_of (length h + 1) e ∷ [] else placed number h)
    by true same =
        length-append (turns_of s number h) (turn s h ∷ []) ∙ ap (λ (n : ℕ). n + 1) same
        ∙ sym (length-append (placed number h) (receipt_of (length h + 1) e ∷ []))
    by false same = same

-- A caller's entry stands somewhere.
pub stands_at : (s : SpanView) (number : ℕ) (more before : List Told) (e : Told) → (e.caller.number == number) ≡ true
    → StandsAt s number more before e
stands_at s number [] before e own = record {
  turns = turns_of s number before;
  turns_on = [];
  receipts = placed number before;
  receipts_on = [];
  place = length before + 1;
  turns_are = ap (λ (b : Bool). if b then turns_of s number before ++ turn s before ∷ [] else turns_of s number before)
      own;
  receipts_are = ap (λ (b : Bool).
      if b then placed number before ++ receipt_of (length before + 1) e ∷ [] else placed number before) own;
  same = as_many s number before;
  before_are = refl;
}
stands_at s number (x ∷ more) before e own = by (x.caller.number == number) refl (stands_at s number more before e own)
  where
    h : List Told
    h = more ++ e ∷ before

    by : (b : Bool) → (x.caller.number == number) ≡ b → StandsAt s number more before e
        → StandsAt s number (x ∷ more) before e
    by true t a = record {
      turns = a.turns;
      turns_on = a.turns_on ++ turn s h ∷ [];
      receipts = a.receipts;
      receipts_on = a.receipts_on ++ receipt_of (length h + 1) x ∷ [];
      place = a.place;
      turns_are = ap (λ (b : Bool). if b then turns_of s number h ++ turn s h ∷ [] else turns_of s number h) t
          ∙ ap (λ (ns : List ℕ). ns ++ turn s h ∷ []) a.turns_are
          ∙ append_assoc a.turns (turn s before ∷ a.turns_on) (turn s h ∷ []);
      receipts_are = ap (λ (b : Bool).
          if b then placed number h ++ receipt_of (length h + 1) x ∷ [] else placed number h) t
          ∙ ap (λ (rs : List Receipt). rs ++ receipt_of (length h + 1) x ∷ []) a.receipts_are
          ∙ append_assoc a.receipts (receipt_of a.place e ∷ a.receipts_on) (receipt_of (length h + 1) x ∷ []);
      same = a.same;
      before_are = a.before_are;
    }
    by false t a = record {
      turns = a.turns;
      turns_on = a.turns_on;
      receipts = a.receipts;
      receipts_on = a.receipts_on;
      place = a.place;
      turns_are = ap (λ (b : Bool). if b then turns_of s number h ++ turn s h ∷ [] else turns_of s number h) t
          ∙ a.turns_are;
      receipts_are = ap (λ (b : Bool).
          if b then placed number h ++ receipt_of (length h + 1) x ∷ [] else placed number h) t ∙ a.receipts_are;
      same = a.same;
      before_are = a.before_are;
    }

-- What matches two lists place by place matches what stands there in both.
zip_there : {A B C : Type 0} (R : A → B → Type 0) (Q : A → C → Type 0) (xs : List A) (ys ys' : List B) (y : B)
    (zs zs' : List C) (z : C) → AllZip R xs (ys ++ y ∷ ys') → AllZip Q xs (zs ++ z ∷ zs') → length ys ≡ length zs
    → (x : A) × R x y × Q x z
zip_there R Q [] [] ys' y zs zs' z one two same = absurd one
zip_there R Q [] (q ∷ ys) ys' y zs zs' z one two same = absurd one
zip_there R Q (x ∷ xs) [] ys' y [] zs' z one two same = (x, one.0, two.0)
zip_there R Q (x ∷ xs) [] ys' y (r ∷ zs) zs' z one two same = absurd (omega (arith, same))
zip_there R Q (x ∷ xs) (q ∷ ys) ys' y [] zs' z one two same = absurd (omega (arith, same))
zip_there R Q (x ∷ xs) (q ∷ ys) ys' y (r ∷ zs) zs' z one two same =
    zip_there R Q xs ys ys' y zs zs' z one.1 two.1 (omega (arith, same))

-- ---- what is done, and when

-- the operation is one of those of the first instants, and is done after so many have begun: what it creates is of the
-- next one's moment
pub record IsAt (c : Simulation) (count : ℕ) (operation : Operation) (n : ℕ) : Type 0 where
  pub begun : (n < count) ⊎ (n ≡ 0)
  pub moment : (draft : CronJobDraft) (now : ℕ) → operation ≡ Calls (Of.CreateCron draft now) → now ≡ instant c.span n

-- So is each creation at the start.
creations_at : (c : Simulation) (count : ℕ) (drafts : List CronJobDraft)
    → AllZip (IsAt c count) (creations c.span.start drafts) (map (λ _. 0) drafts)
creations_at c count [] = tt
creations_at c count (d ∷ drafts) = (
  record {
    begun = inr refl;
    moment = λ draft now is. (let same : c.span.start ≡ now = cc is in omega (arith, same));
  },
  creations_at c count drafts,
)

-- So is each edit of an instant.
edits_are_at : (c : Simulation) (count n : ℕ) (edits : List Edit) → All IsTimed edits → n < count
    → AllZip (IsAt c count) (edits_at edits (instant c.span n)) (map (λ _. n) (edits_at edits (instant c.span n)))
unfolding edits_at
edits_are_at c count n [] timed lt = tt
edits_are_at c count n (e ∷ edits) timed lt =
    by (e.at == instant c.span n) refl (edits_are_at c count n edits (All-tail IsTimed e edits timed) lt)
  where
    at : ℕ
    at = instant c.span n

    rest : List Edit
    rest = filter (λ (x : Edit). x.at == at) edits

    by : (b : Bool) → (e.at == at) ≡ b
        → AllZip (IsAt c count) (map (λ (x : Edit). x.operation) rest)
        (map (λ (o : Operation). n) (map (λ (x : Edit). x.operation) rest))
        → AllZip (IsAt c count) (map (λ (x : Edit). x.operation) (if b then e ∷ rest else rest))
        (map (λ (o : Operation). n) (map (λ (x : Edit). x.operation) (if b then e ∷ rest else rest)))
    by true t more = (
      record {
        begun = inl lt;
        moment = λ draft now is. All-head IsTimed e edits timed draft now is ∙ eqb-true e.at at t;
      },
      more,
    )
    by false t more = more

-- So is all that the user does.
all_at : (c : Simulation) (count n : ℕ) → AreTimed c → n ≤ count
    → AllZip (IsAt c count) (operations_below c n) (turns_below c n)
all_at c count zero timed lt = creations_at c count c.crons.items
all_at c count (suc n) timed lt =
    zip_append (IsAt c count) (operations_below c n) (edits_at c.edits.items (instant c.span n)) (turns_below c n)
    (map (λ _. n) (edits_at c.edits.items (instant c.span n))) (all_at c count n timed (omega (arith, lt)))
    (edits_are_at c count n c.edits.items timed (omega (arith, lt)))

-- Only an operation that creates a CronJob does so.
of_creation : (zones : ZoneTable) (operation : Operation) (call : Call) (draft : CronJobDraft) (now : ℕ)
    → IsUnseenCall zones operation call → call ≡ Of.CreateCron draft now
    → operation ≡ Calls (Of.CreateCron draft now)
of_creation zones (Calls said) call draft now is same = ap (λ (x : Call). Calls x) (sym is ∙ same)
of_creation zones (Ends key outcome at) call draft now is same = absurd (cc (sym is.is ∙ same))
of_creation zones (Claims at) call draft now is same = absurd (cc (sym is.is ∙ same))
of_creation zones (Closes end) call draft now is same = absurd (cc (sym is ∙ same))

-- ---- what the history says

-- For created_by: by the two tests of a create.
created_tests : (s : State) (d : CronJobDraft) (now : ℕ) (cron : CronJob) (a b : Bool)
    → Ok (Say.Cron cron) ≡ (writes s event_reply (map_ok cron_added (if a then Err version_not_allowed
    else if b then Err AlreadyExists else Ok (new_cron s.store d now)))).answer
    → cron.meta.created ≡ now
created_tests s d now cron true b e = absurd (cc e)
created_tests s d now cron false true e = absurd (cc e)
created_tests s d now cron false false e =
    let same : cron ≡ new_cron s.store d now = cc e in ap (λ (x : CronJob). x.meta.created) same

-- For created_now: by the role.
created_by : (s : State) (role : Role) (w : ℕ) (d : CronJobDraft) (now : ℕ) (cron : CronJob)
    → Ok (Say.Cron cron) ≡ (by_role s role w (Of.CreateCron d now)).answer → cron.meta.created ≡ now
created_by s User w d now cron e =
    created_tests s d now cron (is_some d.meta.version) (is_some (map_of.get s.store.crons d.key)) e
created_by s Runner w d now cron e = absurd (cc e)
created_by s Informer w d now cron e = absurd (cc e)
created_by s Worker w d now cron e = absurd (cc e)

-- A CronJob is created at the moment of the call.
created_now : (s : State) (role : Role) (w : ℕ) (d : CronJobDraft) (now : ℕ) (cron : CronJob)
    → Ok (Say.Cron cron) ≡ (step_of s (record { number = w; role = role }) (Of.CreateCron d now)).answer
    → cron.meta.created ≡ now
unfolding step_of
created_now s role w d now cron e = created_by s role w d now cron e

-- A user's call begins no instant, and ends the one that goes on.
same_turn : (s : SpanView) (e : Told) (h : List Told) → e.caller.role ≡ User → turn s (e ∷ h) ≡ turn s h
same_turn s e h user =
    ap (λ (r : Role). (progress_after s (progress_of s h) r e.call).begun) user

-- and no instant goes on after one
user_off : (s : SpanView) (e : Told) (h : List Told) → e.caller.role ≡ User → (progress_of s (e ∷ h)).on ≡ false
user_off s e h user = ap (λ (r : Role). (progress_after s (progress_of s h) r e.call).on) user

-- Where a history is legal, it was so before.
pub legal_back : (window : ℕ) (more h : List Told) → IsLegal window (more ++ h) → IsLegal window h
legal_back window [] h l = l
legal_back window (e ∷ more) h l = legal_back window more h l.2

-- The creation of a CronJob is a user's call.
by_user : (window : ℕ) (e : Told) (h : List Told) (d : CronJobDraft) (now : ℕ) (r : Reply) → IsLegal window (e ∷ h)
    → e.call ≡ Of.CreateCron d now
    → e.answer ≡ Ok r → e.caller.role ≡ User
by_user window e h d now r l call answer = by e.caller.role refl
  where
    never : e.caller.role ≢ User → ⊥
    never not =
        cc (sym (no_user window e h l not (ap is_ok answer)) ∙ ap is_users call)

    by : (role : Role) → e.caller.role ≡ role → e.caller.role ≡ User
    by User f = f
    by Worker f = absurd (never (λ g. cc (sym f ∙ g)))
    by Runner f = absurd (never (λ g. cc (sym f ∙ g)))
    by Informer f = absurd (never (λ g. cc (sym f ∙ g)))

-- ---- the whole run

-- what is known of the creation of a CronJob
pub record IsCreated (s : SpanView) (g start : List Told) (creation : Told) (cron : CronJob) : Type 0 where
  pub user : creation.caller.role ≡ User
  pub off : (progress_of s start).on ≡ false
  pub at : cron.meta.created ≡ next_moment s start
  pub begun : (turn s start < turn s g) ⊎ (turn s start ≡ 0)

-- That is known of it.
pub is_created : (c : Simulation) (workers : ℕ) (w : WorldLog) (text : List ℕ) (start more : List Told) (k : Place)
    (cron : CronJob) (s : Sets) → IsRun c workers w text → AreTimed c → w.history ≡ more ++ start
    → (new : IsNew start k cron s) → IsCreated c.span w.history start new.creation cron
is_created c workers w text start more k cron s run timed is new =
    let window : ℕ = w.limits.window in
    let e : Told = new.creation in
    let before : List Told = new.before in
    let whole : w.history ≡ more ++ e ∷ before = is ∙ ap (λ (h : List Told). more ++ h) new.is in
    let count : ℕ = turn c.span w.history in
    let p : Participants = run.participants in
    let number : ℕ = p.user.number in
    let legal : IsLegal window (e ∷ before) =
    legal_back window more (e ∷ before) (subst (IsLegal window) whole run.promise.legal) in
    let user : e.caller.role ≡ User =
    by_user window e before new.draft new.now (Say.Cron cron) legal new.call new.answer in
    let own : e.caller.number ≡ number =
    users_number workers p more before e run.complete (subst (AreAll (passes_of p)) whole run.all) user in
    let stands : StandsAt c.span number more before e =
    stands_at c.span number more before e (eq-eqb e.caller.number number own) in
    let exact : p.user.receipts ≡ placed number w.history =
    last_pass (IsExact w.history) ((p.workers.items ++ p.runners.items) ++ p.informer ∷ []) p.user run.all.exact in
    let turns : turns_below c count ≡ stands.turns ++ turn c.span before ∷ stands.turns_on =
    sym run.time.turns ∙ ap (turns_of c.span number) whole ∙ stands.turns_are in
    let receipts : p.user.receipts ≡ stands.receipts ++ receipt_of stands.place e ∷ stands.receipts_on =
    exact ∙ ap (placed number) whole ∙ stands.receipts_are in
    let found = zip_there (IsAt c count) (IsOf User c.zones) (operations_below c count) stands.turns stands.turns_on
    (turn c.span before) stands.receipts stands.receipts_on (receipt_of stands.place e)
    (subst (AllZip (IsAt c count) (operations_below c count)) turns (all_at c count count timed (omega arith)))
    (subst (AllZip (IsOf User c.zones) (operations_below c count)) receipts run.done.did) stands.same in
    let st : State = state_of window before in
    let told : Ok (Say.Cron cron) ≡ (step_of st e.caller (Of.CreateCron new.draft new.now)).answer =
    sym new.answer ∙ legal.0 ∙ ap (λ (x : Call). (step_of st e.caller x).answer) new.call in
    let now : cron.meta.created ≡ new.now =
    created_now st e.caller.role e.caller.number new.draft new.now cron told in
    let then_is : new.now ≡ instant c.span (turn c.span before) =
    found.1.moment new.draft new.now
    (of_creation c.zones found.0 e.call new.draft new.now found.2.0 new.call) in
    let same : turn c.span start ≡ turn c.span before =
    ap (turn c.span) new.is ∙ same_turn c.span e before user in
    record {
      user = user;
      off = ap (λ (h : List Told). (progress_of c.span h).on) new.is ∙ user_off c.span e before user;
      at = now ∙ then_is ∙ ap (instant c.span) (sym same);
      begun = subst (λ (n : ℕ). (n < count) ⊎ (n ≡ 0)) (sym same) found.1.begun;
    }

-- For run_syncs_law: a CronJob is created at the moment of the instant that begins next.
pub run_creates : RunCreates
run_creates c workers w text start more k cron s run timed is new =
    (is_created c workers w text start more k cron s run timed is new).at
