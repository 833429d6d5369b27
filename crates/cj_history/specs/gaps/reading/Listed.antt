-- The gaps one by one, in the order of the syncs that counted them first and of their times.
use Rattle.std.specs.Prelude.{◌≡◌, ◌⊎◌, ℕ, Bool, List, [], ◌∷◌, ◌++◌, Option, Some, None, if◌then◌else◌}
use Rattle.cj_types.specs.declared.cron.CronJob.{CronJob}
use Rattle.cj_schedule.specs.Matches.{Sets}
use Rattle.cj_schedule.specs.Grammar.{IsSchedule}
use Rattle.cj_zone.specs.declared.zone.Zone.{Zone}
use Rattle.cj_due.specs.Due.{missed_times}
use Rattle.cj_decide.specs.Decision.{Planned}
use Rattle.cj_calls.specs.Rows.{Told}
use Rattle.cj_history.specs.declared.gaps.gap.Gap.{Gap}
use Rattle.cj_history.specs.declared.gaps.gap.Why.{Why}
use Rattle.cj_history.specs.declared.gaps.late.Standing.{Standing}
use Rattle.cj_history.specs.declared.gaps.mark.Mark.{Mark}
use Rattle.cj_history.specs.declared.gaps.intervals.Intervals.{Intervals}
use Rattle.cj_history.specs.gaps.Causes.{cause}
use Rattle.cj_history.specs.gaps.Late.{unsynced}
use Rattle.cj_history.specs.gaps.Syncs.{plan_in, last_scheduled}
use Rattle.cj_history.specs.gaps.reading.Settled.{is_settled}
use Rattle.cj_history.specs.gaps.reading.Intervals.{Covers}

-- of a time, with its cause
abbrev pub gap_by : CronJob → (ℕ → Why) → ℕ → Gap
gap_by cron why t = record { cron = cron; time = t; why = why t }

abbrev pub gap_if : (ℕ → Bool) → CronJob → (ℕ → Why) → ℕ → List Gap
gap_if settled cron why t = if settled t then [] else gap_by cron why t ∷ []

-- of these times those that aren't settled
abbrev pub gaps_with : (ℕ → Bool) → CronJob → (ℕ → Why) → List ℕ → List Gap
gaps_with settled cron why [] = []
gaps_with settled cron why (t ∷ ts) = gap_if settled cron why t ++ gaps_with settled cron why ts

-- of times that a sync counts, after these gaps
abbrev pub gaps_among : (Mark → Bool) → List Gap → CronJob → Planned → List ℕ → List Gap
gaps_among told gs cron p ts = gaps_with (is_settled told gs cron.meta.uid) cron (cause told cron p)
    ts

-- of those that a plan of the CronJob counts in the zone; a text that isn't a schedule has none
abbrev pub GapsFrom : (Mark → Bool) → List Gap → CronJob → Planned → Zone → List Gap → Type 0
GapsFrom told gs cron p z new =
    ((s : Sets) × IsSchedule cron.spec.schedule s
    × (new ≡ gaps_among told gs cron p (missed_times s z (last_scheduled cron) p.at)))
    ⊎ (((s : Sets) → IsSchedule cron.spec.schedule s → ⊥) × (new ≡ []))

abbrev pub GapsBy : (Mark → Bool) → List Gap → Planned → Option CronJob → Option Zone → List Gap
    → Type 0
GapsBy told gs p None z new = new ≡ []
GapsBy told gs p (Some cron) None new = new ≡ []
GapsBy told gs p (Some cron) (Some z) new = GapsFrom told gs cron p z new

abbrev pub GapsOf : (Mark → Bool) → List Gap → Option Planned → List Gap → Type 0
GapsOf told gs None new = new ≡ []
GapsOf told gs (Some p) new = GapsBy told gs p p.cron p.zone new

abbrev pub AreListed : (Mark → Bool) → List Told → List Gap → Type 0
AreListed told [] gs = gs ≡ []
AreListed told (e ∷ h) gs =
    (old new : List Gap) × AreListed told h old × GapsOf told old (plan_in e.call e.answer) new
    × (gs ≡ old ++ new)

-- some such gaps were put after those that were there
abbrev pub Adds : (List Gap → Type 0) → List Gap → List Gap → Type 0
Adds P before after = (gs : List Gap) × P gs × (after ≡ before ++ gs)

-- and what was looked at is settled still
pub record GoesOn (told : Mark → Bool) (P : List Gap → Type 0) (before after : List Gap)
    (l : Intervals) : Type 0 where
  pub adds : Adds P before after
  pub covers : Covers (is_settled told after) l

-- ---- what no sync counted

-- of a CronJob at an instant
abbrev pub LateFrom : (Mark → Bool) → List Gap → ℕ → Standing → List Gap → Type 0
LateFrom told gs at x new =
    ((s : Sets) × IsSchedule x.cron.spec.schedule s
    × (new ≡ gaps_with (is_settled told gs x.cron.meta.uid) x.cron unsynced
    (missed_times s x.zone (last_scheduled x.cron) at)))
    ⊎ (((s : Sets) → IsSchedule x.cron.spec.schedule s → ⊥) × (new ≡ []))

-- of several, one after the other
abbrev pub AreLateFrom : (Mark → Bool) → List Gap → ℕ → List Standing → List Gap → Type 0
AreLateFrom told gs at [] new = new ≡ []
AreLateFrom told gs at (x ∷ xs) new =
    (one rest : List Gap) × LateFrom told gs at x one × AreLateFrom told gs at xs rest
    × (new ≡ one ++ rest)
