-- What the parts of a step add to the history, by how they end.
use Rattle.std.specs.Prelude.{◌≡◌, ℕ, true, false, Bool, List, ◌∷◌, ◌++◌, Some, None, Result, Ok, Err, IfOk, map}
use Rattle.cj_base.specs.declared.refusal.Refusal.{Refusal}
use Rattle.cj_base.specs.declared.refusal.Refusal.TheVariants.{NotPermitted, Expired, HistoryFull, Estranged, OutOfMemory}
use Rattle.cj_types.specs.declared.cron.CronJob.{CronJob}
use Rattle.cj_types.specs.declared.event.Event.{Event}
use Rattle.cj_types.specs.declared.job.Job.{Job}
use Rattle.cj_calls.specs.Rows.{Told}
use Rattle.cj_calls.specs.declared.call.Call.{Call}
use Rattle.cj_calls.specs.declared.call.Call.TheVariants as Of
use Rattle.cj_calls.specs.declared.reply.Reply.TheVariants as Is
use Rattle.cj_informer.specs.Exchanges.{accepted, Goes}
use Rattle.cj_informer.specs.Informs.{Follower, ListOrWatch, IsListOrWatch, Lists, AreFeeds, feed, follow, add_both, relist, go_on, whole_step, last_version, seen_after}

-- the calls of an informer that are refused for its role alone
abbrev pub is_plain : Call → Bool
is_plain (Of.Tick now) = true
is_plain Of.ListCrons = true
is_plain Of.ListJobs = true
is_plain (Of.Feed max) = true
is_plain (Of.Add key) = true
is_plain _ = false

-- what a step can be refused with
-- rule: informer-step
abbrev pub IsStepRefusal : Refusal → Type 0
IsStepRefusal NotPermitted = Unit {0}
IsStepRefusal HistoryFull = Unit {0}
IsStepRefusal Estranged = Unit {0}
IsStepRefusal OutOfMemory = Unit {0}
IsStepRefusal _ = ⊥

-- what a Watch can be refused with: also that events have expired
abbrev pub IsWatchRefusal : Refusal → Type 0
IsWatchRefusal (Expired oldest) = Unit {0}
IsWatchRefusal refusal = IsStepRefusal refusal

-- Feeds up to a version
pub record HasFed (max wanted : ℕ) (r : Result (Unit {0}) Refusal) (es : List Told) : Type 0 where
  pub feds : List ℕ
  pub enough : AreFeeds wanted None feds
  pub goes : Goes (map (feed max) feds) r es

-- Feeds, and the Adds after a listing
pub record HasCaughtUp (max wanted : ℕ) (crons : List CronJob) (jobs : List Job)
    (r : Result ℕ Refusal) (es : List Told) : Type 0 where
  pub feds : List ℕ
  pub enough : AreFeeds wanted None feds
  pub goes : Goes (map (feed max) feds ++ add_both crons jobs) r es
  pub after : IfOk r (λ seen. seen ≡ wanted)

-- ListJobs, Feeds, and the Adds after a listing
pub record HasListedJobs (max wanted : ℕ) (crons : List CronJob) (r : Result ℕ Refusal)
    (es : List Told) : Type 0 where
  pub jobs : List Job
  pub version_of_jobs : ℕ
  pub feds : List ℕ
  pub enough : AreFeeds wanted None feds
  pub goes : Goes (accepted Of.ListJobs (Is.Jobs jobs version_of_jobs)
      ∷ (map (feed max) feds ++ add_both crons jobs)) r es
  pub after : IfOk r (λ seen. seen ≡ wanted)

-- a listing, with the version seen then
pub record HasListed (max : ℕ) (r : Result ℕ Refusal) (es : List Told) : Type 0 where
  pub lists : Lists
  pub goes : Goes (relist max lists) r es
  pub after : IfOk r (λ seen. seen ≡ lists.version)

-- a Feed and the Adds after a Watch
pub record HasFollowed (max from : ℕ) (events : List Event) (r : Result ℕ Refusal)
    (es : List Told) : Type 0 where
  pub fed : ℕ
  pub goes : Goes (follow max events fed) r es
  pub after : IfOk r (λ seen. seen ≡ last_version from events)

-- all of a step after its Tick
pub record HasGoneOn (i : Follower) (r : Result ℕ Refusal) (es : List Told) : Type 0 where
  pub list_or_watch : ListOrWatch
  pub fits : IsListOrWatch i.seen list_or_watch
  pub goes : Goes (go_on i.max list_or_watch) r es
  pub after : IfOk r (λ seen. seen ≡ seen_after list_or_watch)

-- all of a step
pub record HasLooked (i : Follower) (now : ℕ) (r : Result ℕ Refusal) (es : List Told) : Type 0 where
  pub list_or_watch : ListOrWatch
  pub fits : IsListOrWatch i.seen list_or_watch
  pub goes : Goes (whole_step i.max now list_or_watch) r es
  pub after : IfOk r (λ seen. seen ≡ seen_after list_or_watch)

-- the informer after a step: it has seen the version of this list_or_watch, or is as it was where
-- the step failed
-- rule: informer-seen
abbrev pub becomes : Follower → ListOrWatch → Result (Unit {0}) Refusal → Follower
becomes i list_or_watch (Ok u) = record i { seen = Some (seen_after list_or_watch) }
becomes i list_or_watch (Err refusal) = i

-- the entries are those of a whole step, or its first up to a refusal
-- rule: informer-step
pub record HasStepped (i : Follower) (now : ℕ) (i' : Follower) (r : Result (Unit {0}) Refusal)
    (es : List Told) : Type 0 where
  pub list_or_watch : ListOrWatch
  pub fits : IsListOrWatch i.seen list_or_watch
  pub goes : Goes (whole_step i.max now list_or_watch) r es
  pub after : i' ≡ becomes i list_or_watch r
