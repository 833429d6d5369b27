-- What a history says of a scheduled time of a CronJob, which is known by its uid: that a worker
-- claimed it, that its Job was made (Kubernetes CronJob documentation, "Job creation"), or that the
-- making was refused since the name was taken. A history has its newest entry first.
use Rattle.std.specs.Prelude.{ℕ, Bool, true, false, ◌==◌, ◌&&◌, ◌||◌, if◌then◌else◌, List, [], ◌∷◌, Option, Some, None, Result, Ok, Err}
use Rattle.cj_base.specs.declared.refusal.Refusal.{Refusal}
use Rattle.cj_base.specs.declared.refusal.Refusal.TheVariants as No
use Rattle.cj_types.specs.declared.cron.CronJob.{CronJob}
use Rattle.cj_calls.specs.Rows.{Told}
use Rattle.cj_calls.specs.declared.call.Call.{Call}
use Rattle.cj_calls.specs.declared.call.Call.TheVariants as Of
use Rattle.cj_calls.specs.declared.reply.Reply.{Reply}
use Rattle.cj_calls.specs.declared.reply.Reply.TheVariants as Say
use Rattle.cj_history.specs.declared.gaps.mark.Deed.{Deed}
use Rattle.cj_history.specs.declared.gaps.mark.Deed.TheVariants.{Claimed, Refused, Made}
use Rattle.cj_history.specs.declared.gaps.mark.Start.{Start}
use Rattle.cj_history.specs.declared.gaps.mark.Mark.{Mark}

abbrev pub is_deed : Deed → Deed → Bool
is_deed Claimed Claimed = true
is_deed Refused Refused = true
is_deed Made Made = true
is_deed a b = false

abbrev pub is_mark : Mark → Mark → Bool
is_mark a b = (a.uid == b.uid) && ((a.time == b.time) && is_deed a.deed b.deed)

abbrev pub newer : {A : Type 0} → Option A → Option A → Option A
newer None was = was
newer (Some x) was = Some x

-- ---- claims

abbrev pub claimed_for : Option CronJob → ℕ → Option Start
claimed_for None t = None
claimed_for (Some cron) t = Some (record { uid = cron.meta.uid; time = t })

-- the CronJob and the time that an accepted claim is for, if it claims one
abbrev pub claimed_in : Option CronJob → Reply → Option Start
claimed_in cron (Say.Claimed (Some c)) = claimed_for cron c.0
claimed_in cron reply = None

abbrev pub start_in : Call → Result Reply Refusal → Option Start
start_in (Of.Claim p) (Ok reply) = claimed_in p.cron reply
start_in call answer = None

-- the last that the caller claimed
-- rule: gaps
abbrev pub last_claimed : List Told → ℕ → Option Start
last_claimed [] w = None
last_claimed (e ∷ h) w = newer (if e.caller.number == w then start_in e.call e.answer else None)
    (last_claimed h w)

-- ---- what an entry says

abbrev pub claim_mark : Option Start → Option Mark
claim_mark None = None
claim_mark (Some s) = Some (record { uid = s.uid; time = s.time; deed = Claimed })

-- what came of a making: it is accepted, or refused since there is a Job of its name
abbrev pub deed_in : Result Reply Refusal → Option Deed
deed_in (Ok reply) = Some Made
deed_in (Err No.AlreadyExists) = Some Refused
deed_in (Err e) = None

abbrev pub marked : Start → Option Deed → Option Mark
marked s None = None
marked s (Some d) = Some (record { uid = s.uid; time = s.time; deed = d })

-- of the time that its caller claimed last
abbrev pub making_mark : Option Start → Call → Result Reply Refusal → Option Mark
making_mark (Some s) Of.MakeNext answer = marked s (deed_in answer)
making_mark o call answer = None

abbrev pub mark_of : List Told → Told → Option Mark
mark_of h e = newer (claim_mark (start_in e.call e.answer))
    (making_mark (last_claimed h e.caller.number) e.call e.answer)

abbrev pub says : Option Mark → Mark → Bool
says None m = false
says (Some n) m = is_mark n m

-- some entry says so
-- rule: gaps
abbrev pub is_told : List Told → Mark → Bool
is_told [] m = false
is_told (e ∷ h) m = says (mark_of h e) m || is_told h m

-- a Job was made for that CronJob and that time
-- rule: gaps
abbrev pub has_job : (Mark → Bool) → ℕ → ℕ → Bool
has_job told u t = told (record { uid = u; time = t; deed = Made })
