-- The calls by which a sync carries out its plan, if each of them is taken and nothing else happens
-- meanwhile.
use Rattle.std.specs.Prelude.{◌≡◌, ℕ, true, false, List, [], ◌∷◌, ◌++◌, map, codes, None, Option}
use Rattle.cj_fence.specs.Protocol.{drops_of}
use Rattle.cj_fence.specs.declared.call.Call.{Call}
use Rattle.cj_fence.specs.declared.call.Claim.{Claim}
use Rattle.cj_fence.specs.declared.call.Tidy.{Tidy}
use Rattle.cj_fence.specs.declared.call.Call.TheVariants as Of
use Rattle.cj_fence.specs.declared.objects.Job.{Job}
use Rattle.cj_fence.specs.declared.refs.Ref.{Ref}
use Rattle.cj_fence.specs.declared.sync.At.{At}
use Rattle.cj_control.specs.declared.coming.Ahead.{Ahead}
use Rattle.cj_control.specs.declared.coming.Errand.{Errand}
use Rattle.cj_control.specs.declared.coming.Errand.TheVariants as To
use Rattle.cj_control.specs.declared.sent.Request.{Request}
use Rattle.cj_control.specs.SentFor.{IsSentFor}

-- ---- what the server is yet to give

-- in place of the uid of the Job that is created
-- rule: control-coming
abbrev pub new_uid : List ℕ
new_uid = codes "(uid of the created Job)"

-- in place of the CronJob's resourceVersion once its time is claimed
-- rule: control-coming
abbrev pub next_version : List ℕ
next_version = codes "(resourceVersion after the claim)"

abbrev pub new_ref : List ℕ → Ref
new_ref n = record { name = n; uid = new_uid }

-- ---- the calls

-- the Job of a time, held
abbrev pub new_job : At → ℕ → Job
new_job at t = record {
  uid = [];
  version = [];
  owner = at.cron.uid;
  time = t;
  policy = at.cron.policy;
  held = true;
  finished = false;
  deleting = false;
  pinned = false;
}

-- what runs, and the new Job, with a later success if there is one
abbrev pub claim_of : At → List ℕ → ℕ → Option ℕ → Claim
claim_of at n t success = record {
  name = at.name;
  uid = at.cron.uid;
  version = at.cron.version;
  time = t;
  job = new_ref n;
  active = at.alive ++ new_ref n ∷ [];
  success = success;
}

abbrev pub tidy_of : At → List ℕ → List Ref → Option ℕ → Tidy
tidy_of at version active success = record {
  name = at.name;
  uid = at.cron.uid;
  version = version;
  active = active;
  success = success;
}

abbrev pub deletions : List Ref → List Call
deletions rs = map Of.Delete rs

-- what was deleted for the start leaves the status
abbrev pub left_after : At → List ℕ → List Ref → List Call
left_after at n [] = []
left_after at n (d ∷ ds) = Of.Tidy (tidy_of at next_version (new_ref n ∷ []) None) ∷ []

-- a Job is created held, its time is claimed, what it replaces is deleted, and it is started
-- rule: control-coming
abbrev pub making : At → List ℕ → ℕ → Option ℕ → List Ref → List Call
making at n t success drops =
    ((Of.Create n (new_job at t) ∷ Of.Claim (claim_of at n t success) ∷ []) ++ deletions drops)
    ++ (Of.Start (new_ref n) ∷ left_after at n drops)

-- where another Job has the name, what comes after the creation rests on the answer
-- rule: control-coming
abbrev pub calls_to : At → Option ℕ → Errand → List Call
calls_to at success To.Rests = []
calls_to at success To.Tidies = Of.Tidy (tidy_of at at.cron.version at.alive success) ∷ []
calls_to at success (To.Makes n t) = making at n t success (drops_of at.cron.policy at.alive)
calls_to at success (To.Tries n t) = Of.Create n (new_job at t) ∷ []
calls_to at success (To.Helps h) =
    deletions (drops_of h.found.policy at.alive) ++ (Of.Start h.job ∷ [])
calls_to at success (To.Expires h now) = Of.Expire h.job h.found.version now ∷ []

-- what a sync is to do first, and then the deletion of garbage and of finished Jobs
-- rule: control-coming
abbrev pub calls_ahead : Ahead → List Call
calls_ahead a = calls_to a.at a.success a.errand ++ deletions a.gone

-- ---- their requests

-- one for each call, in their order
-- rule: control-coming
abbrev pub AreSentFor : List Call → List Request → Type 0
AreSentFor [] rs = rs ≡ []
AreSentFor (call ∷ calls) rs =
    (r : Request) × (more : List Request) × IsSentFor call r × AreSentFor calls more
    × (rs ≡ r ∷ more)
