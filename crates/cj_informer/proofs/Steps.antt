-- The parts of a step, joined.
use Rattle.std.proofs.Common.{◌≡◌, ℕ, List, [], ◌∷◌, ◌++◌, Option, Some, None, Result, Ok, Err, map, refl, ap, sym, subst, ◌∙◌, inl, inr, arith}
use Rattle.cj_base.specs.declared.refusal.Refusal.{Refusal}
use Rattle.cj_base.specs.declared.refusal.Refusal.TheVariants.{Expired}
use Rattle.cj_types.specs.declared.cron.CronJob.{CronJob}
use Rattle.cj_types.specs.declared.event.Event.{Event}
use Rattle.cj_types.specs.declared.job.Job.{Job}
use Rattle.cj_calls.specs.Rows.{Told}
use Rattle.cj_calls.specs.declared.call.Call.TheVariants as Of
use Rattle.cj_calls.specs.declared.reply.Reply.TheVariants as Is
use Rattle.std.specs.List.{filter_map}
use Rattle.cj_informer.specs.Exchanges.{exchanges, accepted, refused, IsRefused, BreaksOff, Goes}
use Rattle.cj_informer.specs.Informs.{Follower, Follows, Starts, Resumes, Lists, feed, adds, follow, add_both, key_of_event, relist, go_on, last_version}
use Rattle.cj_informer.specs.Outcomes.{HasFed, HasCaughtUp, HasListedJobs, HasListed, HasFollowed, HasGoneOn, HasLooked, HasStepped}
use Rattle.cj_informer.proofs.Goes.{goes-then, breaks-longer, refused-first, said-then}
use Rattle.cj_informer.proofs.Feeds.{ends_at}

-- ---- after both listings

-- For catch_up: where the Feeds break off, the Feeds and Adds break off.
pub caught_up_not_fed : (max wanted : ℕ) (crons : List CronJob) (jobs : List Job) (e : Refusal) (es : List Told)
    → HasFed max wanted (Err e) es → HasCaughtUp max wanted crons jobs (Err e) es
caught_up_not_fed max wanted crons jobs e es h =
    record {
      feds = h.feds;
      enough = h.enough;
      goes = breaks-longer (map (feed max) h.feds)
          (add_both crons jobs) e es h.goes;
      after = tt;
    }

-- For catch_up: where the Feeds are made and the Adds break off, the Feeds and Adds break off.
pub caught_up_broken : (max wanted : ℕ) (crons : List CronJob) (jobs : List Job) (e : Refusal) (es fs : List Told)
    → HasFed max wanted (Ok tt) es → BreaksOff (add_both crons jobs) e fs
    → HasCaughtUp max wanted crons jobs (Err e) (es ++ fs)
caught_up_broken max wanted crons jobs e es fs h k =
    record {
      feds = h.feds;
      enough = h.enough;
      goes = goes-then {X = ℕ} (map (feed max) h.feds) (add_both crons jobs)
          (Err e) es fs h.goes k;
      after = tt;
    }

-- For catch_up: where Feeds and Adds are all made, the version seen is the one that was wanted.
pub caught_up : (max wanted : ℕ) (crons : List CronJob) (jobs : List Job) (es fs : List Told)
    → HasFed max wanted (Ok tt) es → exchanges fs ≡ add_both crons jobs →
    HasCaughtUp max wanted crons jobs (Ok wanted) (es ++ fs)
caught_up max wanted crons jobs es fs h k = record {
  feds = h.feds;
  enough = h.enough;
  goes = goes-then {X = ℕ} (map (feed max) h.feds) (add_both crons jobs) (Ok wanted) es fs h.goes k;
  after = refl;
}

-- For list_jobs: where ListJobs is refused, it and all that comes after it break off.
pub jobs_not_listed : (max wanted : ℕ) (crons : List CronJob) (e : Refusal) (es : List Told)
    → IsRefused Of.ListJobs e (exchanges es) → HasListedJobs max wanted crons (Err e) es
jobs_not_listed max wanted crons e es h = record {
  jobs = [];
  version_of_jobs = 0;
  feds = wanted ∷ [];
  enough = ends_at wanted None wanted (omega arith);
  goes = refused-first (accepted Of.ListJobs (Is.Jobs [] 0)) (map (feed max) (wanted ∷ []) ++ add_both crons []) e es h;
  after = tt;
}

-- For list_jobs: where ListJobs is accepted, all goes on as the Feeds and Adds after it do.
pub jobs_listed : (max wanted : ℕ) (crons : List CronJob) (jobs : List Job) (version : ℕ) (r : Result ℕ Refusal)
    (es fs : List Told) → exchanges es ≡ accepted Of.ListJobs (Is.Jobs jobs version) ∷ []
    → HasCaughtUp max wanted crons jobs r fs → HasListedJobs max wanted crons r (es ++ fs)
jobs_listed max wanted crons jobs version r es fs one k = record {
  jobs = jobs;
  version_of_jobs = version;
  feds = k.feds;
  enough = k.enough;
  goes = said-then (accepted Of.ListJobs (Is.Jobs jobs version)) (map (feed max) k.feds ++ add_both crons jobs) r es fs
      one k.goes;
  after = k.after;
}

-- a listing that tells nothing
no_lists : Lists
no_lists = record {
  crons = [];
  version = 0;
  jobs = [];
  version_of_jobs = 0;
  feds = 0
      ∷ [];
  enough = ends_at 0 None 0 (omega arith);
}

-- For list: where ListCrons is refused, the listing breaks off.
pub not_listed : (max : ℕ) (e : Refusal) (es : List Told) → IsRefused Of.ListCrons e (exchanges es)
    → HasListed max (Err e) es
not_listed max e es h = record {
  lists = no_lists;
  goes = refused-first (accepted Of.ListCrons (Is.Crons no_lists.crons no_lists.version))
      (accepted Of.ListJobs (Is.Jobs no_lists.jobs no_lists.version_of_jobs)
      ∷ (map (feed max) no_lists.feds ++ add_both no_lists.crons no_lists.jobs)) e es h;
  after = tt;
}

-- For list: where ListCrons is accepted, the listing goes on as ListJobs and what follows it do.
pub listed : (max : ℕ) (crons : List CronJob) (version : ℕ) (r : Result ℕ Refusal) (es fs : List Told)
    → exchanges es ≡ accepted Of.ListCrons (Is.Crons crons version) ∷ []
    → HasListedJobs max version crons r fs → HasListed max r (es ++ fs)
listed max crons version r es fs one k = record {
  lists = record {
    crons = crons;
    version = version;
    jobs = k.jobs;
    version_of_jobs = k.version_of_jobs;
    feds = k.feds;
    enough = k.enough;
  };
  goes = said-then (accepted Of.ListCrons (Is.Crons crons version))
      (accepted Of.ListJobs (Is.Jobs k.jobs k.version_of_jobs)
      ∷ (map (feed max) k.feds ++ add_both crons k.jobs)) r es fs
      one k.goes;
  after = k.after;
}

-- ---- after a Watch

-- For follow: where the Feed is refused, the Feed and the Adds break off.
pub not_fed : (max from : ℕ) (events : List Event) (e : Refusal) (es : List Told)
    → IsRefused (Of.Feed max) e (exchanges es) → HasFollowed max from events (Err e) es
not_fed max from events e es h = record {
  fed = 0;
  goes = refused-first (feed max 0)
      (adds (filter_map key_of_event events)) e es h;
  after = tt;
}

-- For follow: where the Feed is accepted and the Adds break off, both together break off.
pub followed_broken : (max from fed : ℕ) (events : List Event) (e : Refusal) (es fs : List Told)
    → exchanges es ≡ feed max fed ∷ [] → BreaksOff (adds (filter_map key_of_event events)) e fs
    → HasFollowed max from events (Err e) (es ++ fs)
followed_broken max from fed events e es fs one k =
    record {
      fed = fed;
      goes = said-then {X = ℕ} (feed max fed) (adds (filter_map key_of_event events))
          (Err e) es fs one k;
      after = tt;
    }

-- For follow: where the Feed and the Adds are all made, the version seen is that of the last event.
pub followed : (max from fed : ℕ) (events : List Event) (seen : ℕ) (es fs : List Told)
    → exchanges es ≡ feed max fed ∷ [] → exchanges fs ≡ adds (filter_map key_of_event events)
    → seen ≡ last_version from events
    → HasFollowed max from events (Ok seen) (es ++ fs)
followed max from fed events seen es fs one k is =
    record {
      fed = fed;
      goes = said-then {X = ℕ} (feed max fed) (adds (filter_map key_of_event events))
          (Ok seen) es fs one k;
      after = is;
    }

-- ---- a step

-- For watch: where the Watch is answered with events, the step goes on as the Feed and the Adds do.
pub watched : (max from : ℕ) (events : List Event) (r : Result ℕ Refusal) (es fs : List Told)
    → exchanges es ≡ accepted (Of.Watch from max) (Is.Events events) ∷ [] → HasFollowed max from events r fs
    → HasGoneOn (record { max = max; seen = Some from }) r (es ++ fs)
watched max from events r es fs one k = record {
  list_or_watch = Follows from events k.fed;
  fits = refl;
  goes = said-then (accepted (Of.Watch from max) (Is.Events events)) (follow max events k.fed) r es fs one k.goes;
  after = k.after;
}

-- For expired: a Watch that is refused as expired goes on as the listing after it does.
expired_here : (max from oldest : ℕ) (lists : Lists) (r : Result ℕ Refusal) (es fs : List Told)
    → IsRefused (Of.Watch from max) (Expired oldest) (exchanges es) → Goes (relist max lists) r fs
    → Goes (go_on max (Resumes from oldest lists)) r (es ++ fs)
expired_here max from oldest lists r es fs (inl one) k = said-then (refused (Of.Watch from max) (Expired oldest))
    (relist max lists) r es fs one k
expired_here max from oldest lists r es fs (inr none) k = absurd none.1

-- For watch: where the events have expired, the step goes on as the listing does.
pub expired : (max from oldest : ℕ) (r : Result ℕ Refusal) (es fs : List Told)
    → IsRefused (Of.Watch from max) (Expired oldest) (exchanges es) → HasListed max r fs
    → HasGoneOn (record { max = max; seen = Some from }) r (es ++ fs)
expired max from oldest r es fs one k = record {
  list_or_watch = Resumes from oldest k.lists;
  fits = refl;
  goes = expired_here max from oldest k.lists r es fs one k.goes;
  after = k.after;
}

-- For watch: where the Watch is refused, the step breaks off.
pub not_watched : (max from : ℕ) (e : Refusal) (es : List Told) → IsRefused (Of.Watch from max) e (exchanges es)
    → HasGoneOn (record { max = max; seen = Some from }) (Err e) es
not_watched max from e es h = record {
  list_or_watch = Follows from [] 0;
  fits = refl;
  goes = refused-first (accepted (Of.Watch from max) (Is.Events [])) (follow max [] 0) e es h;
  after = tt;
}

-- Where the Tick is accepted, a whole step goes on as what comes after it does.
ticked : (i : Follower) (now : ℕ) (r : Result ℕ Refusal) (es fs : List Told)
    → exchanges es ≡ accepted (Of.Tick now) Is.Done ∷ [] → HasGoneOn i r fs → HasLooked i now r (es ++ fs)
ticked i now r es fs one k = record {
  list_or_watch = k.list_or_watch;
  fits = k.fits;
  goes = said-then (accepted (Of.Tick now) Is.Done) (go_on i.max k.list_or_watch) r es fs one k.goes;
  after = k.after;
}

-- For look: after an accepted Tick and with a version seen, a whole step goes on as the Watch from
-- it does.
pub ticked_watch : (max now from : ℕ) (seen : Option ℕ) (r : Result ℕ Refusal) (es fs : List Told) → seen ≡ Some from
    → exchanges es ≡ accepted (Of.Tick now) Is.Done ∷ [] → HasGoneOn (record { max = max; seen = Some from }) r fs
    → HasLooked (record { max = max; seen = seen }) now r (es ++ fs)
ticked_watch max now from seen r es fs is one k =
    let P : Option ℕ → Type 0 = λ x. HasLooked (record { max = max; seen = x }) now r (es ++ fs) in
    subst P (sym is) (ticked (record { max = max; seen = Some from }) now r es fs one k)

-- For look: after an accepted Tick and with no version seen, a whole step goes on as the listing
-- does.
pub ticked_list : (max now : ℕ) (seen : Option ℕ) (r : Result ℕ Refusal) (es fs : List Told) → seen ≡ None
    → exchanges es ≡ accepted (Of.Tick now) Is.Done ∷ [] → HasListed max r fs
    → HasLooked (record { max = max; seen = seen }) now r (es ++ fs)
ticked_list max now seen r es fs is one k =
    let P : Option ℕ → Type 0 = λ x. HasLooked (record { max = max; seen = x }) now r (es ++ fs) in
    subst P (sym is) (ticked (record { max = max; seen = None }) now r es fs one
    (record { list_or_watch = Starts k.lists; fits = refl; goes = k.goes; after = k.after }))

-- For look: where the Tick is refused, the step breaks off.
pub not_ticked : (max now : ℕ) (seen : Option ℕ) (e : Refusal) (es : List Told)
    → IsRefused (Of.Tick now) e (exchanges es) → HasLooked (record { max = max; seen = seen }) now (Err e) es
not_ticked max now None e es h = record {
  list_or_watch = Starts no_lists;
  fits = refl;
  goes = refused-first (accepted (Of.Tick now) Is.Done) (go_on max (Starts no_lists)) e es h;
  after = tt;
}
not_ticked max now (Some from) e es h = record {
  list_or_watch = Follows from [] 0;
  fits = refl;
  goes = refused-first (accepted (Of.Tick now) Is.Done) (go_on max (Follows from [] 0)) e es h;
  after = tt;
}

-- For Informer::step: after a whole step the informer has seen the version that its list_or_watch
-- tells.
pub stepped : (i i' : Follower) (now seen : ℕ) (es : List Told) → i' ≡ record i { seen = Some seen }
    → HasLooked i now (Ok seen) es → HasStepped i now i' (Ok tt) es
stepped i i' now seen es is h = record {
  list_or_watch = h.list_or_watch;
  fits = h.fits;
  goes = h.goes;
  after = is
      ∙ ap (λ (v : ℕ). record i { seen = Some v }) h.after;
}

-- For Informer::step: after a step that broke off the informer is as it was.
pub not_stepped : (i i' : Follower) (now : ℕ) (e : Refusal) (es : List Told) → i' ≡ i → HasLooked i now (Err e) es
    → HasStepped i now i' (Err e) es
not_stepped i i' now e es is h = record { list_or_watch = h.list_or_watch; fits = h.fits; goes = h.goes; after = is }
