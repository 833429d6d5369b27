-- Lists of calls that compute: two replicas, a stall between claim and start, help, adoption, Replace with a deletion,
-- a name that is taken; and lists that break a promise, each refused at the call where it goes wrong.
use Rattle.std.proofs.Common.{◌≡◌, ◌⊎◌, inl, inr, ℕ, ◌<◌, ◌==◌, Bool, true, false, List, [], ◌∷◌, ◌++◌, length, Option, Some, None, refl, sym, ap, subst, ◌∙◌, arith}
use Rattle.std.specs.Prelude.{if◌then◌else◌}
use Rattle.cj_fence.specs.declared.policy.Policy.{Policy}
use Rattle.cj_fence.specs.declared.policy.Policy.TheVariants.{Allow, Forbid, Replace}
use Rattle.cj_fence.specs.declared.refs.Ref.{Ref}
use Rattle.cj_fence.specs.declared.objects.Cron.{Cron}
use Rattle.cj_fence.specs.declared.objects.Job.{Job}
use Rattle.cj_fence.specs.declared.cluster.Cluster.{Cluster}
use Rattle.cj_fence.specs.declared.call.Call.{Call}
use Rattle.cj_fence.specs.declared.call.Call.TheVariants as Of
use Rattle.cj_fence.specs.declared.call.Write.{Write}
use Rattle.cj_fence.specs.declared.call.Write.TheVariants as By
use Rattle.cj_fence.specs.declared.answer.Answer.{Answer}
use Rattle.cj_fence.specs.declared.answer.Answer.TheVariants as Is
use Rattle.cj_fence.specs.declared.answer.Stamp.{Stamp}
use Rattle.cj_fence.specs.declared.sync.Sync.TheVariants.{Over}
use Rattle.cj_fence.specs.Texts.{is_same}
use Rattle.cj_fence.specs.Tables.{find, put}
use Rattle.cj_fence.specs.Objects.{ref}
use Rattle.cj_fence.specs.Server.{made, served, put_cron}
use Rattle.cj_fence.specs.Protocol.{seen_of, May, Follows}
use Rattle.cj_fence.specs.History.{Deed, Asked, Wrote, Told, state_of, GaveUid, GaveVersion, IsFresh, IsAnswer, Answered, Listed, IsLegal, AllFollow, own_after, own, started}
use Rattle.cj_fence.specs.Others.{KeepsJob, OthersKeepTo}
use Rattle.cj_fence.specs.Fence.{Always, IsClaimed}
use Rattle.cj_fence.specs.Help.{IsBeside, Undisturbed}
use Rattle.cj_fence.proofs.FenceLemmas.Lost.{put_other}
use Rattle.cj_fence.proofs.FenceLemmas.Entries.{same_number}
use Rattle.cj_fence.proofs.FenceLemmas.Whole.{followed}

-- ---- how lists are written

abbrev id : ℕ → List ℕ
id n = n ∷ []

-- the stamp of the entry that comes next
abbrev stamp : List Told → Stamp
stamp h = record { uid = id (length h); version = id (length h) }

-- a sync calls, and hears the server's answer
abbrev asks : ℕ → Call → List Told → List Told
asks y call h = record { stamp = stamp h; deed = Asked y call true (served (state_of h) (stamp h) call).answer } ∷ h

-- a sync calls, and hears what a cache says
abbrev hears : ℕ → Call → Answer → List Told → List Told
hears y call a h = record { stamp = stamp h; deed = Asked y call false a } ∷ h

-- somebody else writes
abbrev writes : Write → List Told → List Told
writes w h = record { stamp = stamp h; deed = Wrote w } ∷ h

-- a CronJob under the name 7; the first entry creates it, so that its uid is 0
abbrev cron_of : Policy → Cron
cron_of p = record { uid = []; version = []; last = 0; success = 0; active = []; policy = p; deadline = None }

abbrev born : Policy → List Told
born p = writes (By.PutCron (id 7) (cron_of p)) []

-- a held Job of it for a time
abbrev job_for : ℕ → Policy → Job
job_for t p = record {
  uid = [];
  version = [];
  owner = id 0;
  time = t;
  policy = p;
  held = true;
  finished = false;
  deleting = false;
  pinned = false;
}

abbrev get : Call
get = Of.GetCron (id 7)

-- the POST of the Job for a time, under the name of the time
abbrev hold : ℕ → Policy → Call
hold t p = Of.Create (id t) (job_for t p)

-- the claim on a version, of a time, for the Job that the entry of this number made, beside others
abbrev claims_for : ℕ → ℕ → ℕ → List Ref → Call
claims_for v t n others = Of.Claim (record {
  name = id 7;
  uid = id 0;
  version = id v;
  time = t;
  job = ref (id t) (id n);
  active = others ++ ref (id t) (id n) ∷ [];
  success = None;
})

abbrev start_of : ℕ → ℕ → Call
start_of t n = Of.Start (ref (id t) (id n))

-- ---- one sync, and another that helps it

-- the CronJob is read, its Job is held and claimed: the Job of the time 5 has the uid 2
abbrev claimed_by_one : Policy → List Told
claimed_by_one p = asks 1 (claims_for 0 5 2 []) (asks 1 (hold 5 p) (asks 1 get (born p)))

-- it may start it, and does
pub one_may_start : May (seen_of (own 1 (claimed_by_one Forbid))) (start_of 5 2)
unfolding is_same put
one_may_start = refl

-- It was started.
pub one_starts : started (asks 1 (start_of 5 2) (claimed_by_one Forbid)) (ref (id 5) (id 2)) ≡ true
unfolding is_same put
one_starts = refl

-- ---- and such a list is one that the laws are about

-- each stamp is the number of its entry
abbrev Numbered : List Told → Type 0
Numbered [] = Unit {0}
Numbered (e ∷ h) = (e.stamp ≡ stamp h) × Numbered h

-- Uids that were given have smaller numbers.
uids_below : (h : List Told) → Numbered h → (n : ℕ) → GaveUid h (id n) → n < length h
uids_below [] k n g = absurd g
uids_below (e ∷ h) k n (inl x) =
    let same : id (length h) ≡ id n = sym (ap (λ (t : Stamp). t.uid) k.0) ∙ x in
    let one : length h ≡ n = cc in
    omega arith
uids_below (e ∷ h) k n (inr g) = let l = uids_below h k.1 n g in omega arith

-- So have versions.
versions_below : (h : List Told) → Numbered h → (n : ℕ) → GaveVersion h (id n) → n < length h
versions_below [] k n g = absurd g
versions_below (e ∷ h) k n (inl x) =
    let same : id (length h) ≡ id n = sym (ap (λ (t : Stamp). t.version) k.0) ∙ x in
    let one : length h ≡ n = cc in
    omega arith
versions_below (e ∷ h) k n (inr g) = let l = versions_below h k.1 n g in omega arith

-- The next stamp is fresh.
next_is_fresh : (h : List Told) → Numbered h → IsFresh h (stamp h)
next_is_fresh h k = record {
  uid = λ g. let l = uids_below h k (length h) g in absurd (omega arith);
  version = λ g. let l = versions_below h k (length h) g in absurd (omega arith);
}

-- the calls of one sync, and writes of others
abbrev IsOfOne : Deed → Type 0
IsOfOne (Asked y call reached a) = y ≡ 1
IsOfOne (Wrote w) = Unit {0}

abbrev OnlyOne : List Told → Type 0
OnlyOne [] = Unit {0}
OnlyOne (e ∷ h) = IsOfOne e.deed × OnlyOne h

-- For all_follow: after one entry more.
one_more : (d : Deed) (h : List Told) → IsOfOne d → Follows (own_after 1 d (own 1 h)) → ((y : ℕ) → Follows (own y h))
    → (y : ℕ) → Follows (own_after y d (own y h))
one_more (Wrote w) h i f k y = k y
one_more (Asked x call reached a) h i f k y = by_test (x == y) refl
  where
    by_test : (b : Bool) → (x == y) ≡ b → Follows (if b then record { call = call; answer = a } ∷ own y h else own y h)
    by_test true e =
        let one : 1 ≡ y = sym i ∙ same_number x y e in
        let both = subst (λ (z : ℕ). Follows (own_after z (Asked x call reached a) (own z h))) one f in
        subst (λ (b : Bool). Follows (if b then record { call = call; answer = a } ∷ own y h else own y h)) e both
    by_test false e = k y

-- Where one sync alone calls, all follow the protocol where it does.
all_follow : (h : List Told) → OnlyOne h → Follows (own 1 h) → AllFollow h
all_follow [] i f = λ y. tt
all_follow (e ∷ h) i f = one_more e.deed h i.0 f (all_follow h i.1 (followed 1 e.deed (own 1 h) f))

abbrev whole : List Told
whole = asks 1 (start_of 5 2) (claimed_by_one Forbid)

-- Each answer in it is the server's.
pub whole_is_legal : IsLegal whole
unfolding is_same put
whole_is_legal = (
  next_is_fresh (claimed_by_one Forbid) (refl, (refl, (refl, (refl, tt)))),
  Answered refl refl,
  (
    next_is_fresh (asks 1 (hold 5 Forbid) (asks 1 get (born Forbid))) (refl, (refl, (refl, tt))),
    Answered refl refl,
    (
      next_is_fresh (asks 1 get (born Forbid)) (refl, (refl, tt)),
      Answered refl refl,
      (next_is_fresh (born Forbid) (refl, tt), Answered refl refl, (next_is_fresh [] tt, tt, tt)),
    ),
  ),
)

-- Its sync follows the protocol.
pub whole_follows : AllFollow whole
unfolding is_same put
whole_follows = all_follow whole (refl, (refl, (refl, (refl, (tt, tt))))) (
  refl,
  (
    record { name = refl; uid = refl; version = refl; time = refl; job = refl; active = refl; success = tt },
    (record { owner = refl; held = refl; policy = refl; time = omega arith; alone = refl }, (tt, tt)),
  ),
)

-- The user who created the CronJob keeps to the premises.
pub whole_keeps_to : OthersKeepTo (id 0) whole
whole_keeps_to = (tt, (tt, (tt, (tt, (tt, tt)))))

-- ---- help

-- the first replica stalls between claim and start; another one finds the Job held and starts it
abbrev helped_by_two : List Told
helped_by_two = asks 2 (start_of 5 2) (asks 2 (Of.GetJob (id 5)) (asks 2 get (claimed_by_one Forbid)))

-- The other replica's start is of the Job that the first one claimed.
pub two_helps : started helped_by_two (ref (id 5) (id 2)) ≡ true
unfolding is_same put
two_helps = refl

-- the first one's start, late, is refused, and its sync is over
pub late_start : seen_of (own 1 (asks 1 (start_of 5 2) helped_by_two)) ≡ Over
unfolding is_same put
late_start = refl

-- The server refuses that late start, since the hold is gone.
pub late_is_refused : (served (state_of helped_by_two) (stamp helped_by_two) (start_of 5 2)).answer ≡ Is.Refused
unfolding is_same put
late_is_refused = refl

-- ---- under Replace: a deletion first

-- the Job of the time 5 runs, and another sync claims the time 6: its Job has the uid 7
abbrev replaced : List Told
replaced = asks 2 (claims_for 3 6 7 (ref (id 5) (id 2) ∷ []))
    (asks 2 (hold 6 Replace) (asks 2 (Of.GetJob (id 5)) (asks 2 get (asks 1 (start_of 5 2) (claimed_by_one Replace)))))

-- A start before the deletion may not be made.
pub not_beside : May (seen_of (own 2 replaced)) (start_of 6 7) → ⊥
unfolding is_same put
not_beside m = m

-- What it may do is delete the Job that runs.
pub first_deletes : May (seen_of (own 2 replaced)) (Of.Delete (ref (id 5) (id 2)))
unfolding is_same put
first_deletes = refl

-- After the deletion it starts its Job.
pub then_starts : started (asks 2 (start_of 6 7) (asks 2 (Of.Delete (ref (id 5) (id 2))) replaced)) (ref (id 6) (id 7))
    ≡ true
unfolding is_same put
then_starts = refl

-- a third sync that helps deletes first as well
abbrev helper : List Told
helper = asks 3 (Of.GetJob (id 6)) (asks 3 (Of.GetJob (id 5)) (asks 3 get replaced))

-- A helper may not start the claimed Job beside the one that runs.
pub helper_waits : May (seen_of (own 3 helper)) (start_of 6 7) → ⊥
unfolding is_same put
helper_waits m = m

-- It deletes the one that runs first.
pub helper_deletes : May (seen_of (own 3 helper)) (Of.Delete (ref (id 5) (id 2)))
unfolding is_same put
helper_deletes = refl

-- ---- adoption, and a name that is taken

-- the first replica stops after it held the Job; the second finds the name taken, looks, and adopts it
abbrev adopted_by_two : List Told
adopted_by_two = asks 2 (claims_for 0 5 2 []) (asks 2 (Of.GetJob (id 5)) (asks 2 (hold 5 Forbid)
    (asks 2 get (asks 1 (hold 5 Forbid) (asks 1 get (born Forbid))))))

-- The Job that the first one held is started by the second.
pub adopts : started (asks 2 (start_of 5 2) adopted_by_two) (ref (id 5) (id 2)) ≡ true
unfolding is_same put
adopts = refl

-- a stranger's Job has the name: it isn't adopted, and another name is taken
abbrev stranger : Job
stranger = record (job_for 5 Forbid) { owner = id 9; held = false }

abbrev name_is_taken : List Told
name_is_taken = asks 1 (Of.GetJob (id 5)) (asks 1 (hold 5 Forbid)
    (asks 1 get (writes (By.PutJob (id 5) stranger) (born Forbid))))

-- A stranger's Job isn't claimed.
pub not_adopted : May (seen_of (own 1 name_is_taken)) (claims_for 0 5 1 []) → ⊥
unfolding is_same put
not_adopted m = m

-- Under another name the Job is held, claimed and started.
pub another_name : started (asks 1 (Of.Start (ref (id 50) (id 5))) (asks 1 (Of.Claim (record {
  name = id 7;
  uid = id 0;
  version = id 0;
  time = 5;
  job = ref (id 50) (id 5);
  active = ref (id 50) (id 5) ∷ [];
  success = None;
})) (asks 1 (Of.Create (id 50) (job_for 5 Forbid)) name_is_taken))) (ref (id 50) (id 5)) ≡ true
unfolding is_same put
another_name = refl

-- a Job that was held under Allow, found once the policy is Replace
abbrev held_under_allow : List Told
held_under_allow = asks 2 (Of.GetJob (id 5)) (asks 2 get (writes (By.PutCron (id 7) (cron_of Replace))
    (asks 1 (hold 5 Allow) (asks 1 get (born Allow)))))

-- A Job that was held under another policy isn't claimed.
pub other_policy : May (seen_of (own 2 held_under_allow)) (claims_for 3 5 2 []) → ⊥
unfolding is_same put
other_policy m = m

-- ---- what else goes wrong, and is refused

-- a sync that finds a claimed Job held
abbrev finds_held : List Told
finds_held = asks 2 (Of.GetJob (id 5)) (asks 2 get (claimed_by_one Forbid))

-- It may not hold a Job for a later time.
pub no_other : May (seen_of (own 2 finds_held)) (hold 6 Forbid) → ⊥
unfolding is_same put
no_other m = m

-- a claim that leaves its Job out of status.active
abbrev leaves_out : Call
leaves_out =
    Of.Claim (record { name = id 7; uid = id 0; version = id 0; time = 5; job = ref (id 5) (id 2); active = []; success = None })

abbrev before_claim : List Told
before_claim = asks 1 (hold 5 Forbid) (asks 1 get (born Forbid))

-- Such a claim may not be made.
pub not_left_out : May (seen_of (own 1 before_claim)) leaves_out → ⊥
unfolding is_same put
not_left_out m = absurd (cc m.active)

-- a claim on the version read, after another sync claimed and started a Job
abbrev stale_claim : List Told
stale_claim = asks 2 (hold 6 Forbid) (asks 1 (start_of 5 2) (asks 1 (claims_for 0 5 2 []) (asks 2 get before_claim)))

-- The server refuses it: another version stands.
pub is_conflict : (served (state_of stale_claim) (stamp stale_claim) (claims_for 0 6 6 [])).answer ≡ Is.Refused
unfolding is_same put
is_conflict = refl

-- After a claim nothing is created.
pub nothing_made : May (seen_of (own 1 (claimed_by_one Forbid)))
    (Of.Create (id 5) (record (job_for 5 Forbid) { held = false })) → ⊥
unfolding is_same put
nothing_made m = m

-- a sync that lists the Jobs while another one holds one for a time to come
abbrev lists_it : List Told
lists_it = asks 2 Of.ListJobs (asks 2 get before_claim)

-- It may not be deleted.
pub not_garbage : May (seen_of (own 2 lists_it)) (Of.Delete (ref (id 5) (id 2))) → ⊥
unfolding is_same put
not_garbage m = absurd (cc m)

-- a cache that still calls the Job held isn't believed
abbrev old_cache : List Told
old_cache = hears 2 (Of.CacheJob (id 5)) (served (state_of (claimed_by_one Forbid)) (stamp [])
    (Of.GetJob (id 5))).answer
    (asks 2 get (asks 1 (start_of 5 2) (claimed_by_one Forbid)))

-- The sync may not start it.
pub not_by_cache : May (seen_of (own 2 old_cache)) (start_of 5 2) → ⊥
unfolding is_same put
not_by_cache m = m

-- under Forbid, while the Job of the time 5 runs
abbrev finds_running : List Told
finds_running = asks 2 (Of.GetJob (id 5)) (asks 2 get (asks 1 (start_of 5 2) (claimed_by_one Forbid)))

-- Nothing is held beside it.
pub not_under_forbid : May (seen_of (own 2 finds_running)) (hold 6 Forbid) → ⊥
unfolding is_same put
not_under_forbid m = absurd (cc m.alone)

-- A time that was claimed isn't held again.
pub not_again : May (seen_of (own 1 (asks 1 (start_of 5 2) (claimed_by_one Allow)))) (hold 5 Allow) → ⊥
unfolding is_same put
not_again m = let l = m.time in absurd (omega arith)

-- A start by name alone, of whatever uid, may not be made.
pub not_by_name : May (seen_of (own 1 (claimed_by_one Forbid))) (start_of 5 9) → ⊥
unfolding is_same put
not_by_name m =
    let uid : id 9 ≡ id 2 = ap (λ (r : Ref). r.uid) m in
    absurd (cc uid)

-- No Job is created started.
pub not_at_once : May (seen_of (own 1 (asks 1 get (born Forbid))))
    (Of.Create (id 5) (record (job_for 5 Forbid) { held = false })) → ⊥
unfolding is_same put
not_at_once m = absurd (cc m.held)

-- a sync that creates its Job started: no protocol lets it, but the server takes it
abbrev created_started : List Told
created_started = asks 1 (Of.Create (id 5) (record (job_for 5 Forbid) { held = false })) (asks 1 get (born Forbid))

-- Each answer in it is the server's.
pub created_is_legal : IsLegal created_started
unfolding is_same put
created_is_legal = (
  next_is_fresh (asks 1 get (born Forbid)) (refl, (refl, tt)),
  Answered refl refl,
  (next_is_fresh (born Forbid) (refl, tt), Answered refl refl, (next_is_fresh [] tt, tt, tt)),
)

-- What is started so wasn't claimed, and the law says that it was.
pub not_started_so : Always (IsClaimed (id 0)) created_started → ⊥
unfolding is_same put
not_started_so a =
    let k = a.0.before (ref (id 5) (id 2)) (made (stamp (asks 1 get (born Forbid)))
    (record (job_for 5 Forbid) { held = false })) refl refl refl in
    absurd (cc k.claimed)

-- a list row by row: the Job of the time 5 as it was before its start, and in another order
abbrev listed_late : Answer
listed_late = Is.Jobs (record { name = id 5; object = made (stamp (asks 1 get (born Forbid))) (job_for 5 Forbid) } ∷ [])

-- Such a list can be heard.
pub rows_late : IsAnswer whole (stamp whole) Of.ListJobs false listed_late
unfolding is_same put
rows_late = Listed
    (record { name = id 5; object = made (stamp (asks 1 get (born Forbid))) (job_for 5 Forbid) } ∷ [])
    refl refl (inr (inl refl), tt)

-- a sync that holds a Job which it then leaves alone, for another name
abbrev leaves_alone : List Told
leaves_alone = asks 1 (Of.Create (id 50) (job_for 5 Forbid)) before_claim

-- The other one is claimed in its place.
pub takes_another : May (seen_of (own 1 leaves_alone)) (Of.Claim (record {
  name = id 7;
  uid = id 0;
  version = id 0;
  time = 5;
  job = ref (id 50) (id 3);
  active = ref (id 50) (id 3) ∷ [];
  success = None;
}))
unfolding is_same put
takes_another = record { name = refl; uid = refl; version = refl; time = refl; job = refl; active = refl; success = tt }

-- a DELETE before a start that somebody refuses, who may not have asked the server
abbrev refused_delete : List Told
refused_delete = hears 2 (Of.Delete (ref (id 5) (id 2))) Is.Refused replaced

-- It lets nothing be started.
pub not_refused : seen_of (own 2 refused_delete) ≡ Over
unfolding is_same put
not_refused = refl

-- a Job that status.active names twice
abbrev named_twice : List Told
named_twice = asks 2 (Of.GetJob (id 5)) (asks 2 (Of.GetJob (id 5)) (asks 2 get (writes (By.PutCron (id 7) (record
    (cron_of Replace) { last = 5; active = ref (id 5) (id 2) ∷ ref (id 5) (id 2) ∷ [] }))
    (asks 1 (start_of 5 2) (claimed_by_one Replace)))))

-- It counts once.
pub counts_once : May (seen_of (own 2 named_twice)) (Of.Tidy (record {
  name = id 7;
  uid = id 0;
  version = id 5;
  active = ref (id 5) (id 2) ∷ [];
  success = None;
}))
unfolding is_same put
counts_once = record { name = refl; uid = refl; version = refl; active = refl; success = tt; changes = λ s e. absurd (cc e) }

-- a status.active as Kubernetes' own controller can leave it: with a reference that has no name
abbrev nameless : List Told
nameless = asks 2 get (writes (By.PutCron (id 7) (record (cron_of Forbid) { active = ref [] (id 3) ∷ [] }))
    (born Forbid))

-- It may be written without it, and nothing is to be read first.
pub drops_nameless : May (seen_of (own 2 nameless)) (Of.Tidy (record {
  name = id 7;
  uid = id 0;
  version = id 1;
  active = [];
  success = None;
}))
unfolding is_same put
drops_nameless = record { name = refl; uid = refl; version = refl; active = refl; success = tt; changes = λ s e. absurd (cc e) }

-- No Job is made without a name.
pub no_name : (served (state_of (born Forbid)) (stamp (born Forbid)) (Of.Create [] (job_for 5 Forbid))).answer
    ≡ Is.Refused
no_name = refl

-- a Job with finalizers that was deleted
abbrev deleted_once : List Told
deleted_once = asks 1 (Of.Delete (ref (id 5) (id 1)))
    (writes (By.PutJob (id 5) (record stranger { pinned = true })) (born Forbid))

-- A second DELETE writes nothing.
pub no_version : state_of (asks 1 (Of.Delete (ref (id 5) (id 1))) deleted_once) ≡ state_of deleted_once
unfolding is_same put
no_version = refl

-- a Job of another CronJob that somebody orphans, while one of this CronJob is claimed
abbrev orphaned : List Told
orphaned = writes (By.PutJob (id 8) (record stranger { owner = [] }))
    (writes (By.PutJob (id 8) stranger) (claimed_by_one Forbid))

-- For orphan_keeps_to: neither that Job nor what is made of it is of this CronJob.
not_mine : (j i : Job) → (id 9 ≡ id 0) ⊎ ([] ≡ id 0) → KeepsJob j i
not_mine j i (inl e) = absurd (cc e)
not_mine j i (inr e) = absurd (cc e)

-- For this CronJob that keeps to the premises.
pub orphan_keeps_to : OthersKeepTo (id 0) orphaned
unfolding is_same put
orphan_keeps_to = (
  λ e. not_mine (record stranger { owner = [] }) (made (stamp (claimed_by_one Forbid)) stranger) e,
  (tt, (tt, (tt, (tt, (tt, tt))))),
)

-- For the other one it doesn't.
pub orphan_breaks : OthersKeepTo (id 9) orphaned → ⊥
unfolding is_same put
orphan_breaks k = absurd (cc (k.0 (inl refl)).owner)

-- a status.active that names a Job of another controller, as its uid has it
abbrev names_strangers : List Told
names_strangers = asks 2 (Of.GetJob (id 5)) (asks 2 get (writes (By.PutCron (id 7) (record (cron_of Allow)
    { active = ref (id 5) (id 1) ∷ [] })) (writes (By.PutJob (id 5) (record stranger { held = true })) (born Allow))))

-- A sync doesn't start it.
pub not_of_another : May (seen_of (own 2 names_strangers)) (start_of 5 1) → ⊥
unfolding is_same put
not_of_another m = m

-- ---- the last success

-- a CronJob with a last success at 3, which a sync reads
abbrev reads_success : List Told
reads_success = asks 2 get (writes (By.PutCron (id 7) (record (cron_of Forbid) { success = 3 })) (born Forbid))

-- a status that has nothing new in it but a success, if it is sent
abbrev succeeded : Option ℕ → Call
succeeded sent = Of.Tidy (record { name = id 7; uid = id 0; version = id 1; active = []; success = sent })

-- the last success of the CronJob that stands
abbrev success_in : Option Cron → ℕ
success_in None = 0
success_in (Some c) = c.success

-- A later success may be sent, where nothing else is new.
pub sends_success : May (seen_of (own 2 reads_success)) (succeeded (Some 4))
unfolding is_same put
sends_success =
    record { name = refl; uid = refl; version = refl; active = refl; success = omega arith; changes = λ s e. absurd (cc s) }

-- It is written.
pub success_is_written : success_in (find (id 7) (state_of (asks 2 (succeeded (Some 4)) reads_success)).crons) ≡ 4
unfolding is_same put
success_is_written = refl

-- A status that sends none leaves the one that stood.
pub success_stays : success_in (find (id 7) (state_of (asks 2 (succeeded None) reads_success)).crons) ≡ 3
unfolding is_same put
success_stays = refl

-- An earlier one may not be sent.
pub no_earlier_success : May (seen_of (own 2 reads_success)) (succeeded (Some 2)) → ⊥
unfolding is_same put
no_earlier_success m = let l : 3 < 2 = m.success in omega arith

-- Nor the one that stands.
pub no_same_success : May (seen_of (own 2 reads_success)) (succeeded (Some 3)) → ⊥
unfolding is_same put
no_same_success m = let l : 3 < 3 = m.success in omega arith

-- Where nothing is new, nothing may be written.
pub not_for_nothing : May (seen_of (own 2 reads_success)) (succeeded None) → ⊥
unfolding is_same put
not_for_nothing m = m.changes refl refl

-- ---- beside others

-- another sync reads the CronJob
abbrev read_by_another : Told
read_by_another =
    let h = claimed_by_one Forbid in
    record { stamp = stamp h; deed = Asked 3 get true (served (state_of h) (stamp h) get).answer }

-- A reading of another sync doesn't disturb one.
pub not_by_reading : Undisturbed (id 0) 2 (read_by_another ∷ []) (claimed_by_one Forbid)
not_by_reading = (
  inr (record {
    others = λ e. absurd (cc e);
    leaves = record {
      cron = λ n c at u. at;
      held = λ n j at o e. at;
      jobs = λ n j at o. record { job = j; stands = at; uid = refl };
    };
  }),
  tt,
)

-- Nor does a write of another CronJob, whatever stands.
pub not_by_another : (u n : List ℕ) (c : Cron) (y : ℕ) (s : Cluster) (t : Stamp)
    → ((old : Cron) → find n s.crons ≡ Some old → old.uid ≡ u → ⊥) → IsBeside u y s t (Wrote (By.PutCron n c))
not_by_another u n c y s t f = record {
  others = tt;
  leaves = record {
    cron = λ m d at o. put_other n m (put_cron t c (find n s.crons)) s.crons
        (λ e. f d (subst (λ (z : List ℕ). find z s.crons ≡ Some d) (sym e) at) o) ∙ at;
    held = λ m j at o e. at;
    jobs = λ m j at o. record { job = j; stands = at; uid = refl };
  };
}

-- The deletion of its claimed Job by others does.
pub by_deletion : (t : Stamp) → IsBeside (id 0) 2 (state_of (claimed_by_one Forbid)) t (Wrote (By.DropJob (id 5))) → ⊥
unfolding is_same put
by_deletion t b =
    let gone = b.leaves.held (id 5) (made (record { uid = id 2; version = id 2 }) (job_for 5 Forbid)) refl refl refl in
    absurd (cc gone)
