-- Entries joined to those that come after them.
use Rattle.std.proofs.Common.{◌≡◌, ◌≢◌, ℕ, List, [], ◌∷◌, ◌++◌, Option, Some, None, Result, Ok, Err, IsOk, IsTrue, IfSome, ◌+◌, ◌<◌, map, take, drop, length, get_or, add-one, refl, ap, sym, subst, ◌∙◌, inl, inr, append_assoc}
use Rattle.std.proofs.Math.Seq.{take-suc}
use Rattle.std.proofs.lemmas.List.{append-nil, map_push, map-append, take-append-drop}
use Rattle.cj_base.specs.declared.refusal.Refusal.{Refusal}
use Rattle.cj_base.specs.declared.refusal.Refusal.TheVariants as No
use Rattle.cj_types.specs.Keys.{Place}
use Rattle.cj_types.specs.declared.cron.CronJob.{CronJob}
use Rattle.cj_types.specs.declared.job.Job.{Job}
use Rattle.cj_types.specs.declared.policy.Reason.{Reason}
use Rattle.cj_types.specs.declared.policy.Reason.TheVariants.{FailedCreate}
use Rattle.cj_zone.specs.declared.table.ZoneTable.{ZoneTable}
use Rattle.cj_calls.specs.declared.call.Call.{Call}
use Rattle.cj_calls.specs.declared.call.Call.TheVariants as Of
use Rattle.cj_calls.specs.declared.end.End.TheVariants.{Well, Again}
use Rattle.cj_calls.specs.declared.reply.Reply.{Reply}
use Rattle.cj_calls.specs.declared.reply.Reply.TheVariants as Is
use Rattle.cj_calls.specs.Rows.{Told, is_in_row, is_refused}
use Rattle.cj_decide.specs.Decision.{Planned}
use Rattle.cj_hub.specs.Runs.{IsOne}
use Rattle.cj_worker.specs.declared.gate.Point.{Point}
use Rattle.cj_worker.specs.declared.gate.Point.TheVariants.{Claimed, Made}
use Rattle.cj_worker.specs.declared.gate.Reading.{Reading}
use Rattle.cj_worker.specs.declared.gate.Turn.{Turn}
use Rattle.cj_worker.specs.declared.gate.Turn.TheVariants.{Go, Stop}
use Rattle.cj_worker.specs.declared.error.SyncError.{SyncError}
use Rattle.cj_worker.specs.declared.error.SyncError.TheVariants.{Refused, Starved, Lost}
use Rattle.cj_worker.specs.declared.ending.SyncEnd.{SyncEnd}
use Rattle.cj_worker.specs.declared.ending.SyncEnd.TheVariants.{Idle, ShutDown, Done, Retried, Broken, Stopped}
use Rattle.cj_worker.specs.declared.outline.Next.{Next}
use Rattle.cj_worker.specs.declared.outline.Next.TheVariants as Kind
use Rattle.cj_worker.specs.declared.outline.Outline.{Outline}
use Rattle.cj_worker.specs.Outlines.{IsOutline, call_by, step_calls}
use Rattle.cj_worker.specs.Sequences.{IsFinish, AllAccepted, Begun, FirstRefused, StopsAt, EndsWith, IsDone, IsWell}
use Rattle.cj_worker.specs.Syncs.{IsLost, IsUnentered, IsUnfit, IsEarly, UpToFailure, IsRetried, IsRest, IsFrom, IsRun, IsSync, SeesActive, SeesJobs, SeesCron, SeesAll, then_plan, calls_of, reasons_by, reasons_with, reasons_of, opening, is_key, key_in}
use Rattle.cj_worker.specs.Errors.{HasErred, UpToError, HasFailed, HasStepped, reasons_at, why_of}

-- none of the calls ends the sync
abbrev pub NoEnd : List Call → Type 0
NoEnd [] = Unit {0}
NoEnd (c ∷ cs) = (IsFinish c → ⊥) × NoEnd cs

-- The one entry of an accepted call is the entries of a list of just this call.
pub one_accepted : (c : Call) (es : List Told) → IsOne c IsOk es → AllAccepted (c ∷ []) es
one_accepted c es h = rw h.only (h.of, h.says, tt)

-- An answer that is a reply accepts the call.
pub ok_of : (a : Result Reply Refusal) (r : Reply) → a ≡ Ok r → IsOk a
ok_of a r is = rw is refl

-- An error at the first of some calls is where these calls end.
pub erred_first : (c : Call) (cs : List Call) (es : List Told) (h : SyncError) → HasErred c h es
    → UpToError (c ∷ cs) es h
erred_first c cs es (Refused r) h = rw h.only (h.of, inl (h.says, refl))
erred_first c cs es Starved h = rw h tt
erred_first c cs es (Lost r) h = (rw h.0 tt, h.1)

-- Entries of accepted calls before entries of other accepted calls are those of both lists of
-- calls.
pub AllAccepted-append : (cs ds : List Call) (es fs : List Told) → AllAccepted cs es → AllAccepted ds fs
    → AllAccepted (cs ++ ds) (es ++ fs)
AllAccepted-append [] ds [] fs h k = k
AllAccepted-append [] ds (e ∷ es) fs h k = absurd h
AllAccepted-append (c ∷ cs) ds [] fs h k = absurd h
AllAccepted-append (c ∷ cs) ds (e ∷ es) fs h k = (h.0, h.1, AllAccepted-append cs ds es fs h.2 k)

-- Entries in front of some that end with one that meets P leave that end as it is.
pub EndsWith-after : (P : Told → Type 0) (es fs : List Told) → EndsWith P fs → EndsWith P (es ++ fs)
EndsWith-after P [] fs h = h
EndsWith-after P (e ∷ []) [] h = absurd h
EndsWith-after P (e ∷ []) (f ∷ fs) h = h
EndsWith-after P (e ∷ g ∷ es) fs h = EndsWith-after P (g ∷ es) fs h

-- Behind accepted calls, calls that end in a first refusal make a list that ends in it.
FirstRefused-after : (cs ds : List Call) (es fs : List Told) (r : Refusal) → AllAccepted cs es → FirstRefused ds fs r
    → FirstRefused (cs ++ ds) (es ++ fs) r
FirstRefused-after [] ds [] fs r h k = k
FirstRefused-after [] ds (e ∷ es) fs r h k = absurd h
FirstRefused-after (c ∷ cs) ds [] fs r h k = absurd h
FirstRefused-after (c ∷ cs) ds (e ∷ es) fs r h k = (h.0, inr (h.1, FirstRefused-after cs ds es fs r h.2 k))

-- Behind accepted calls that don't end the sync, a beginning of other calls makes a beginning of
-- both.
Begun-after : (cs ds : List Call) (es fs : List Told) → NoEnd cs → AllAccepted cs es → Begun ds fs
    → Begun (cs ++ ds) (es ++ fs)
Begun-after [] ds [] fs on h k = k
Begun-after [] ds (e ∷ es) fs on h k = absurd h
Begun-after (c ∷ cs) ds [] fs on h k = absurd h
Begun-after (c ∷ cs) ds (e ∷ es) fs on h k = (h.0, h.1, on.0, Begun-after cs ds es fs on.1 h.2 k)

-- Behind accepted calls, calls that stop at a point make a list that stops at it.
StopsAt-after : (point : Point) (cs ds : List Call) (es fs : List Told) → AllAccepted cs es → StopsAt point ds fs
    → StopsAt point (cs ++ ds) (es ++ fs)
StopsAt-after point [] ds [] fs h k = k
StopsAt-after point [] ds (e ∷ es) fs h k = absurd h
StopsAt-after point (c ∷ cs) ds [] fs h k = absurd h
StopsAt-after point (c ∷ cs) ds (e ∷ es) fs h k = (h.0, h.1, inr (StopsAt-after point cs ds es fs h.2 k))

-- Calls that end in a first refusal do so with further calls listed behind them.
FirstRefused-longer : (cs ds : List Call) (es : List Told) (r : Refusal) → FirstRefused cs es r
    → FirstRefused (cs ++ ds) es r
FirstRefused-longer [] ds es r h = absurd h
FirstRefused-longer (c ∷ cs) ds [] r h = absurd h
FirstRefused-longer (c ∷ cs) ds (e ∷ es) r h = (
  h.0,
  elim h.1 [ inl a ↦ inl a | inr b ↦ inr (b.0, FirstRefused-longer cs ds es r b.1) ],
)

-- A beginning of some calls is one with further calls listed behind them.
Begun-longer : (cs ds : List Call) (es : List Told) → Begun cs es → Begun (cs ++ ds) es
Begun-longer cs ds [] h = tt
Begun-longer [] ds (e ∷ es) h = absurd h
Begun-longer (c ∷ cs) ds (e ∷ es) h = (h.0, h.1, h.2, Begun-longer cs ds es h.3)

-- Calls that stop at a point do so with further calls listed behind them.
pub StopsAt-longer : (point : Point) (cs ds : List Call) (es : List Told) → StopsAt point cs es
    → StopsAt point (cs ++ ds) es
StopsAt-longer point [] ds es h = absurd h
StopsAt-longer point (c ∷ cs) ds [] h = absurd h
StopsAt-longer point (c ∷ cs) ds (e ∷ es) h = (
  h.0,
  h.1,
  elim h.2 [ inl a ↦ inl a | inr b ↦ inr (StopsAt-longer point cs ds es b) ],
)

-- What calls add up to an error is the same with further calls listed behind them.
pub UpToError-longer : (cs ds : List Call) (es : List Told) (h : SyncError) → UpToError cs es h
    → UpToError (cs ++ ds) es h
UpToError-longer cs ds es (Refused r) h = FirstRefused-longer cs ds es r h
UpToError-longer cs ds es Starved h = Begun-longer cs ds es h
UpToError-longer cs ds es (Lost r) h = (Begun-longer cs ds es h.0, h.1)

-- Behind accepted calls that don't end the sync, what other calls add up to an error is what both
-- lists add up to it.
UpToError-after : (cs ds : List Call) (es fs : List Told) (h : SyncError) → NoEnd cs → AllAccepted cs es
    → UpToError ds fs h
    → UpToError (cs ++ ds) (es ++ fs) h
UpToError-after cs ds es fs (Refused r) on a k = FirstRefused-after cs ds es fs r a k
UpToError-after cs ds es fs Starved on a k = Begun-after cs ds es fs on a k
UpToError-after cs ds es fs (Lost r) on a k = (Begun-after cs ds es fs on a k.0, k.1)

-- the reasons with which an error is finished
abbrev pub Suits : (Refusal → List Reason) → List Reason → SyncError → Type 0
Suits reasons rs (Refused r) = rs ≡ reasons r
Suits reasons rs Starved = rs ≡ reasons No.OutOfMemory
Suits reasons rs (Lost r) = Unit {0}

-- After a plan, the reasons that reasons_at gives for an error are those of its refusal by
-- reasons_by.
pub Suits-by : (plain failed : List Reason) (h : SyncError) → Suits (reasons_by plain failed)
    (reasons_at plain failed h) h
Suits-by plain failed (Refused r) = refl
Suits-by plain failed Starved = refl
Suits-by plain failed (Lost r) = tt

-- Where no plan was made, no reasons at all suit any error.
pub Suits-none : (h : SyncError) → Suits (reasons_of None) [] h
Suits-none (Refused r) = refl
Suits-none Starved = refl
Suits-none (Lost r) = tt

-- A refusal after which the history takes nothing more is one of a call that isn't entered.
lost_unentered : (r : Refusal) → IsLost r → IsUnentered r
lost_unentered No.HistoryFull is = tt
lost_unentered No.Estranged is = tt
lost_unentered r is = absurd is

-- What a Finish that asks for another try can be refused with is NotPermitted or OutOfPhase.
unfit : (ms : ℕ) (rs : List Reason) (e : Refusal) → IsTrue (is_refused (Of.Finish (Again ms) rs) e) → IsUnfit e
unfit ms rs No.NotPermitted is = tt
unfit ms rs No.OutOfPhase is = tt
unfit ms rs e is = cc

-- For Held::retry: a Finish for another try that is accepted ends the sync early, as Retried.
pub early_ok : (gives : Reading → Type 0) (rs : List Reason) (why : Refusal) (reading : Reading) (es : List Told)
    → gives reading → IsOne (Of.Finish (Again reading.millis) rs) IsOk es → IsEarly gives rs why es (Retried why)
early_ok gives rs why reading es given h = (
  refl,
  record { reading = reading; given = given; entry = h.entry; only = h.only; of = h.of },
  h.says,
)

-- For Held::retry: a Finish for another try that has an error ends the sync early, as Broken.
pub early_broken : (gives : Reading → Type 0) (rs : List
    Reason) (why : Refusal) (h : SyncError) (reading : Reading) (es : List Told) → gives reading
    → HasErred (Of.Finish (Again reading.millis) rs) h es → IsEarly gives rs why es (Broken (why_of h))
early_broken gives rs why (Refused e) reading es given h = inr (
  record { reading = reading; given = given; entry = h.entry; only = h.only; of = h.of },
  h.says,
  unfit reading.millis rs e (rw h.says at h.row),
)
early_broken gives rs why Starved reading es given h = inl (h, tt)
early_broken gives rs why (Lost e) reading es given h = inl (h.0, lost_unentered e h.1)

module _ (gives : Reading → Type 0) (may : Point → Type 0) (reasons : Refusal → List Reason) where
  -- Entries up to where calls fail, then those of the early end, are what the calls add.
  early : (cs : List Call) (es fs : List Told) (why : Refusal) (end : SyncEnd) → UpToFailure cs es why
      → IsEarly gives (reasons why) why fs end → IsRest gives may reasons cs (es ++ fs) end
  early cs es fs why Idle h k = absurd k
  early cs es fs why ShutDown h k = absurd k
  early cs es fs why Done h k = absurd k
  early cs es fs why (Stopped point) h k = absurd k
  early cs es fs why (Retried r) h k = record { front = es; back = fs; why = why; split = refl; failed = h; early = k }
  early cs es fs why (Broken r) h k = inr (record {
    front = es;
    back = fs;
    why = why;
    split = refl;
    failed = h;
    early = k;
  })

  -- What calls add up to an error, then what the error leads to, are what the calls add.
  pub IsRest-failed : (cs : List Call) (es fs : List Told) (rs : List Reason) (h : SyncError) (end : SyncEnd)
      → Suits reasons rs h → UpToError cs es h → HasFailed gives rs h fs end
      → IsRest gives may reasons cs (es ++ fs) end
  IsRest-failed cs es fs rs (Refused r) end suits h k =
      let P : List Reason → Type 0 = λ x. IsEarly gives x r fs end in
      early cs es fs r end (inl h) (subst P suits k)
  IsRest-failed cs es fs rs Starved end suits h k =
      let P : List Reason → Type 0 = λ x. IsEarly gives x No.OutOfMemory fs end in
      early cs es fs No.OutOfMemory end (inr (h, refl)) (subst P suits k)
  IsRest-failed cs es fs rs (Lost r) end suits h k = rw (k.1, k.0, append-nil es) (inl h)

  -- For IsRest-after: behind accepted calls that don't end the sync, calls that fail and are then
  -- ended early make a list that is.
  retried : (cs ds : List Call) (es fs : List Told) (end : SyncEnd) → NoEnd cs → AllAccepted cs es
      → IsRetried gives reasons ds fs end → IsRetried gives reasons (cs ++ ds) (es ++ fs) end
  retried cs ds es fs end on h k = record {
    front = es ++ k.front;
    back = k.back;
    why = k.why;
    split = ap (λ xs. es ++ xs) k.split ∙ sym (append_assoc es k.front k.back);
    failed = elim k.failed [
      | inl a ↦ inl (FirstRefused-after cs ds es k.front k.why h a)
      | inr b ↦ inr
          (Begun-after cs ds es k.front on h b.0, b.1)
    ];
    early = k.early;
  }

  -- Entries of accepted calls that don't end the sync, then what other calls add, are what both
  -- lists of calls add.
  pub IsRest-after : (cs ds : List Call) (es fs : List Told) (end : SyncEnd) → NoEnd cs → AllAccepted cs es
      → IsRest gives may reasons ds fs end → IsRest gives may reasons (cs ++ ds) (es ++ fs) end
  IsRest-after cs ds es fs Idle on h k = absurd k
  IsRest-after cs ds es fs ShutDown on h k = absurd k
  IsRest-after cs ds es fs Done on h k = (AllAccepted-append cs ds es fs h k.0, EndsWith-after IsDone es fs k.1)
  IsRest-after cs ds es fs (Stopped point) on h k = (StopsAt-after point cs ds es fs h k.0, k.1)
  IsRest-after cs ds es fs (Retried r) on h k = retried cs ds es fs (Retried r) on h k
  IsRest-after cs ds es fs (Broken r) on h k = elim k
      [ inl a ↦ inl (Begun-after cs ds es fs on h a.0, a.1) | inr b ↦ inr (retried cs ds es fs (Broken r) on h b) ]

  -- An accepted Finish that says that all went well ends the sync as Done.
  pub finished : (reasons_done : List Reason) (es : List Told) → IsOne (Of.Finish Well reasons_done) IsOk es
      → IsRest gives may reasons (Of.Finish Well reasons_done ∷ []) es Done
  finished rs es h = rw h.only ((h.of, h.says, tt), well h.entry rs h.of h.says)
    where
      well : (e : Told) (rs : List Reason) → e.call ≡ Of.Finish Well rs → IsOk e.answer → IsDone e
      well e rs is ok = (subst (λ (c : Call). IsWell c) (sym is) tt, ok)

-- ---- the steps of a plan

-- The call of a step is no Finish.
step_goes_on : (step : Next) → IsFinish (call_by step) → ⊥
step_goes_on Kind.Drop is = is
step_goes_on Kind.Make is = is
step_goes_on Kind.Status is = is

-- None of the calls of some steps ends the sync.
pub steps_go_on : (steps : List Next) → NoEnd (map call_by steps)
steps_go_on [] = tt
steps_go_on (x ∷ steps) = (step_goes_on x, steps_go_on steps)

-- Steps that come behind accepted calls which don't end the sync come to the same with these in
-- front.
HasStepped-after : (may : Type 0) (cs ds : List Call) (es fs : List Told) (r : Result Turn SyncError) → NoEnd cs
    → AllAccepted cs es → HasStepped may ds r fs → HasStepped may (cs ++ ds) r (es ++ fs)
HasStepped-after may cs ds es fs (Ok Go) on h k = AllAccepted-append cs ds es fs h k
HasStepped-after may cs ds es fs (Ok Stop) on h k = (StopsAt-after Made cs ds es fs h k.0, k.1)
HasStepped-after may cs ds es fs (Err x) on h k = UpToError-after cs ds es fs x on h k

-- Steps that were stopped or failed come to the same with further steps listed behind them.
HasStepped-longer : (may : Type 0) (cs ds : List Call) (es : List Told) (r : Result Turn SyncError) → r ≢ Ok Go
    → HasStepped may cs r es → HasStepped may (cs ++ ds) r es
HasStepped-longer may cs ds es (Ok Go) other h = absurd (other refl)
HasStepped-longer may cs ds es (Ok Stop) other h = (StopsAt-longer Made cs ds es h.0, h.1)
HasStepped-longer may cs ds es (Err x) other h = UpToError-longer cs ds es x h

-- The calls of the first i + 1 steps are those of the first i and that of the step after them.
map_take : (steps : List Next) (i : ℕ) → i < length steps → map call_by (take (i + 1) steps)
    ≡ map call_by (take i steps) ++ call_by (get_or steps i Kind.Drop) ∷ []
map_take steps i lt = rw (add-one, take-suc steps i Kind.Drop lt, map_push call_by) refl

-- one more step of the list
pub step_more : (may : Type 0) (steps : List Next) (i : ℕ) (es fs : List Told) (r : Result Turn SyncError)
    → i < length steps → AllAccepted (map call_by (take i steps)) es
    → HasStepped may (call_by (get_or steps i Kind.Drop) ∷ []) r fs
    → HasStepped may (map call_by (take (i + 1) steps)) r (es ++ fs)
step_more may steps i es fs r lt h k = rw (map_take steps i lt)
    (HasStepped-after may (map call_by (take i steps)) (call_by (get_or steps i Kind.Drop) ∷ []) es fs r
    (steps_go_on (take i steps)) h k)

-- For take_steps: a step at which the gate stops or that has an error says what came of all the
-- steps.
pub step_last : (may : Type 0) (steps : List Next) (i : ℕ) (es fs : List Told) (r : Result Turn SyncError)
    → i < length steps → r ≢ Ok Go → AllAccepted (map call_by (take i steps)) es
    → HasStepped may (call_by (get_or steps i Kind.Drop) ∷ []) r fs → HasStepped may (map call_by steps) r (es ++ fs)
step_last may steps i es fs r lt other h k =
    let P : List Next → Type 0 = λ x. HasStepped may (map call_by x) r (es ++ fs) in
    subst P (take-append-drop (i + 1) steps) (rw (map-append call_by (take (i + 1) steps) (drop (i + 1) steps))
    (HasStepped-longer may (map call_by (take (i + 1) steps)) (map call_by (drop (i + 1) steps)) (es ++ fs) r other
    (step_more may steps i es fs r lt h k)))

-- ---- a sync from each of its states on

module _ (gives : Reading → Type 0) (may : Point → Type 0) (zones : ZoneTable) where
  -- For From-more: the entry of an accepted call that is no Finish, then what other calls and the
  -- plan's add, are what all of these add.
  then_more : (plan : Option Planned) (c : Call) (cs : List Call) (e : Told) (fs : List Told) (end : SyncEnd)
      → (IsFinish c → ⊥) → e.call ≡ c → IsOk e.answer
      → IsRest gives may (reasons_of plan) (then_plan cs plan) fs end
      → IsRest gives may (reasons_of plan) (then_plan (c ∷ cs) plan) (e ∷ fs) end
  then_more None c cs e fs end on is ok k = IsRest-after gives may (reasons_of None) (c ∷ []) cs (e ∷ []) fs end
      (on, tt) (is, ok, tt) k
  then_more (Some p) c cs e fs end on is ok k = IsRest-after gives may (reasons_of (Some p)) (c ∷ []) (cs ++ calls_of p)
      (e ∷ []) fs end (on, tt) (is, ok, tt) k

  -- For From-more: the plan, if one was made, meets Q where it meets P and Q follows from P.
  weaker : (plan : Option Planned) (P Q : Planned → Type 0) → ((p : Planned) → P p → Q p) → IfSome plan P
      → IfSome plan Q
  weaker None P Q more h = tt
  weaker (Some p) P Q more h = more p h

  -- The entry of an accepted call that is no Finish, then what a sync adds from a state on, are
  -- what it adds from the state before that call on.
  From-more : (K K' : Planned → List Told → Type 0) (c : Call) (cs : List Call) (e : Told) (fs : List
      Told) (end : SyncEnd) → (IsFinish c → ⊥) → e.call ≡ c → IsOk e.answer
      → ((p : Planned) → K' p fs → K p (e ∷ fs)) → IsFrom gives may zones K' cs fs end
      → IsFrom gives may zones K (c ∷ cs) (e ∷ fs) end
  From-more K K' c cs e fs end on is ok more k = record {
    plan = k.plan;
    timely = k.timely;
    seen = weaker k.plan (λ p. K' p fs) (λ p. K p (e ∷ fs)) more k.seen;
    rest = then_more k.plan c cs e fs end on is ok k.rest;
  }

  -- For see_cron, list_jobs and check_active: an error at the next call, then the end that it leads
  -- to, are all that the sync adds, and no plan is made.
  pub From-failed : (K : Planned → List Told → Type 0) (c : Call) (cs : List Call)
      (es fs : List Told) (h : SyncError) (end : SyncEnd) → UpToError (c ∷ []) es h → HasFailed gives [] h fs end
      → IsFrom gives may zones K (c ∷ cs) (es ++ fs) end
  From-failed K c cs es fs x end h k = record {
    plan = None;
    timely = tt;
    seen = tt;
    rest = IsRest-failed gives may (reasons_of None) (c ∷ cs) es fs [] x end (Suits-none x)
        (UpToError-longer (c ∷ []) cs es x h) k;
  }

  -- For Checked::decide: where memory for a plan is lacking, the early end is all that is added.
  pub From-early : (K : Planned → List Told → Type 0) (fs : List Told) (why : Refusal) (end : SyncEnd)
      → why ≡ No.OutOfMemory → IsEarly gives [] why fs end → IsFrom gives may zones K [] fs end
  From-early K fs why end is k = record {
    plan = None;
    timely = tt;
    seen = tt;
    rest = early gives may (reasons_of None) [] [] fs why end (inr (tt, is)) k;
  }

  -- For Listed::check_active: an answered SeeActive, then what a sync adds from Checked on, are
  -- what it adds from Listed on.
  pub listed_more : (cron : Option CronJob) (jobs : List Job) (active : List (Option Job))
      (es fs : List Told) (end : SyncEnd) → IsOne Of.SeeActive (λ a. a ≡ Ok (Is.SeenActive active)) es
      → IsFrom gives may zones (λ p xs. (p.cron ≡ cron) × (p.jobs ≡ jobs) × (p.active ≡ active)) [] fs end
      → IsFrom gives may zones (λ p xs. (p.cron ≡ cron) × (p.jobs ≡ jobs) × SeesActive p xs) (Of.SeeActive ∷ [])
      (es ++ fs) end
  listed_more cron jobs active es fs end one k =
      rw one.only (From-more (λ p xs. (p.cron ≡ cron) × (p.jobs ≡ jobs) × SeesActive p xs)
      (λ p xs. (p.cron ≡ cron) × (p.jobs ≡ jobs) × (p.active ≡ active)) Of.SeeActive [] one.entry fs end
      (λ f. f) one.of (ok_of one.entry.answer (Is.SeenActive active) one.says)
      (λ p h. (h.0, h.1, one.says ∙ ap (λ x. Ok (Is.SeenActive x)) (sym h.2))) k)

  -- For Seen::list_jobs: an answered SeeJobs, then what a sync adds from Listed on, are what it
  -- adds from Seen on.
  pub seen_more : (cron : Option CronJob) (jobs : List Job) (es fs : List Told) (end : SyncEnd)
      → IsOne Of.SeeJobs (λ a. a ≡ Ok (Is.SeenJobs jobs)) es
      → IsFrom gives may zones (λ p xs. (p.cron ≡ cron) × (p.jobs ≡ jobs) × SeesActive p xs) (Of.SeeActive ∷ []) fs end
      → IsFrom gives may zones (λ p xs. (p.cron ≡ cron) × SeesJobs p xs) (Of.SeeJobs ∷ Of.SeeActive ∷ [])
      (es ++ fs) end
  seen_more cron jobs es fs end one k =
      rw one.only (From-more (λ p xs. (p.cron ≡ cron) × SeesJobs p xs) (λ p xs. (p.cron ≡ cron) × (p.jobs ≡ jobs)
      × SeesActive p xs) Of.SeeJobs (Of.SeeActive ∷ []) one.entry fs end (λ f. f) one.of
      (ok_of one.entry.answer (Is.SeenJobs jobs) one.says)
      (λ p h. (h.0, (one.says ∙ ap (λ x. Ok (Is.SeenJobs x)) (sym h.1), h.2))) k)

  -- For Held::see_cron: an answered SeeCron, then what a sync adds from Seen on, are what it adds
  -- from Held on.
  pub held_more : (cron : Option CronJob) (es fs : List Told) (end : SyncEnd)
      → IsOne Of.SeeCron (λ a. a ≡ Ok (Is.SeenCron cron)) es
      → IsFrom gives may zones (λ p xs. (p.cron ≡ cron) × SeesJobs p xs) (Of.SeeJobs ∷ Of.SeeActive ∷ []) fs end
      → IsFrom gives may zones SeesCron (Of.SeeCron ∷ Of.SeeJobs ∷ Of.SeeActive ∷ []) (es ++ fs) end
  held_more cron es fs end one k =
      rw one.only (From-more SeesCron (λ p xs. (p.cron ≡ cron) × SeesJobs p xs) Of.SeeCron
      (Of.SeeJobs ∷ Of.SeeActive ∷ []) one.entry fs end (λ f. f) one.of
      (ok_of one.entry.answer (Is.SeenCron cron) one.says)
      (λ p h. (one.says ∙ ap (λ x. Ok (Is.SeenCron x)) (sym h.0), h.1)) k)

  -- For sync_run: a Take that is answered with a key, then what a sync adds from Held on, are what
  -- the whole sync adds.
  pub take_more : (key : Place) (es fs : List Told) (end : SyncEnd) → IsOne Of.Take (λ a. a ≡ Ok (Is.Key key)) es
      → IsFrom gives may zones SeesCron (Of.SeeCron ∷ Of.SeeJobs ∷ Of.SeeActive ∷ []) fs end
      → IsFrom gives may zones SeesAll opening (es ++ fs) end
  take_more key es fs end one k =
      rw one.only (From-more SeesAll SeesCron Of.Take (Of.SeeCron ∷ Of.SeeJobs ∷ Of.SeeActive ∷ []) one.entry fs end
      (λ f. f) one.of (ok_of one.entry.answer (Is.Key key) one.says) (λ p h. h) k)

-- ---- the claim

module _ (gives : Reading → Type 0) (may : Point → Type 0) where
  -- the claim was accepted
  pub claim_more : (p : Planned) (o : Outline) (es fs : List Told) (end : SyncEnd) → IsOutline p o
      → IsOne (Of.Claim p) IsOk es
      → IsRest gives may (reasons_by o.retry o.failed) (map call_by o.steps.items ++ Of.Finish Well o.done ∷ []) fs end
      → IsRest gives may (reasons_with p) (calls_of p) (es ++ fs) end
  claim_more p o es fs end is one k =
      IsRest-after gives may (reasons_with p) (Of.Claim p ∷ []) (step_calls p.steps ++ Of.Finish Well p.steps.reasons
      ∷ []) es fs end ((λ f. f), tt) (one_accepted (Of.Claim p) es one)
      (rw (is.steps, is.done, is.retry, is.failed) at k)

  -- For claim: an accepted Claim, where the gate may stop, is all of a sync that stops there.
  pub claim_stop : (p : Planned) (es : List Told) → IsOne (Of.Claim p) IsOk es → may Claimed
      → IsRest gives may (reasons_with p) (calls_of p) es (Stopped Claimed)
  claim_stop p es one can = (rw one.only (one.of, one.says, inl ((p, refl), refl)), can)

  -- For claim: a Claim that has an error, then the end that it leads to, are what the plan's calls
  -- add.
  pub claim_failed : (p : Planned) (o : Outline) (es fs : List Told) (h : SyncError) (end : SyncEnd) → IsOutline p o
      → HasErred (Of.Claim p) h es → HasFailed gives (reasons_at o.retry o.failed h) h fs end
      → IsRest gives may (reasons_with p) (calls_of p) (es ++ fs) end
  claim_failed p o es fs h end is one k =
      let rs = p.steps.reasons in
      let tried = rw (is.retry, is.failed) at k in
      IsRest-failed gives may (reasons_with p) (calls_of p) es fs (reasons_at rs (rs ++ FailedCreate ∷ []) h) h end
      (Suits-by rs (rs ++ FailedCreate ∷ []) h)
      (erred_first (Of.Claim p) (step_calls p.steps ++ Of.Finish Well rs ∷ []) es h one) tried

-- ---- the whole

-- A Take that is accepted is answered with a key.
key_row : (a : Result Reply Refusal) → IsOk a → IsTrue (is_in_row Of.Take a) → IsTrue (is_key a)
key_row (Ok (Is.Key k)) ok row = refl
key_row (Ok r) ok row = cc
key_row (Err r) ok row = cc

-- An answer that has a key is the reply with the key that is read from it.
key_is : (answer : Result Reply Refusal) (key : Place) → IsTrue (is_key answer) → key ≡ key_in answer
    → answer ≡ Ok (Is.Key key)
key_is (Ok (Is.Key k)) key has is = ap (λ x. Ok (Is.Key x)) (sym is)
key_is (Ok r) key has is = cc
key_is (Err r) key has is = cc

-- the reply to a Take has the key
pub key_told : (answer : Result Reply Refusal) (key : Place) (es : List Told) → key ≡ key_in answer
    → IsOne Of.Take (λ a. IsOk a × (a ≡ answer)) es → IsOne Of.Take (λ a. a ≡ Ok (Is.Key key)) es
key_told answer key es is h =
    let has = subst (λ a. IsTrue (is_key a)) h.says.1 (key_row h.entry.answer h.says.0 h.row) in
    record { entry = h.entry; only = h.only; of = h.of; says = h.says.1 ∙ key_is answer key has is; row = h.row }

-- For sync_one: a Take of a key and what its sync adds from there on are together what a sync adds.
pub sync_run : (gives : Reading → Type 0) (may : Point → Place → Type 0) (zones : ZoneTable) (key : Place)
    (es fs : List Told) (end : SyncEnd) → IsOne Of.Take (λ a. a ≡ Ok (Is.Key key)) es
    → IsFrom gives (λ point. may point key) zones SeesCron (Of.SeeCron ∷ Of.SeeJobs ∷ Of.SeeActive ∷ []) fs end
    → IsSync gives may zones (es ++ fs) end
sync_run gives may zones key es fs end one k = by_end end (record {
  key = key;
  took = rw one.only one.says;
  calls = take_more gives (λ point. may point key) zones key es fs end one k;
})
  where
    by_end : (at : SyncEnd) → IsRun gives may zones (es ++ fs) at → IsSync gives may zones (es ++ fs) at
    by_end Idle run = absurd run.calls.rest
    by_end ShutDown run = absurd run.calls.rest
    by_end Done run = run
    by_end (Retried r) run = run
    by_end (Broken r) run = inr (inr run)
    by_end (Stopped point) run = run
