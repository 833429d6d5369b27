-- The gaps that one sync counted first, as they are listed: what reads the schedule and the plan.
use Rattle.std.proofs.Common.{◌≡◌, inl, inr, Bool, List, [], Option, Some, refl, sym, subst, append-nil}
use Rattle.cj_types.specs.declared.cron.CronJob.{CronJob}
use Rattle.cj_schedule.specs.Matches.{Sets}
use Rattle.cj_schedule.specs.Grammar.{IsSchedule}
use Rattle.cj_zone.specs.declared.zone.Zone.{Zone}
use Rattle.cj_due.specs.Due.{missed_times}
use Rattle.cj_decide.specs.Decision.{Planned}
use Rattle.cj_history.specs.declared.gaps.gap.Gap.{Gap}
use Rattle.cj_history.specs.declared.gaps.mark.Mark.{Mark}
use Rattle.cj_history.specs.declared.gaps.intervals.Intervals.{Intervals}
use Rattle.cj_history.specs.gaps.Syncs.{last_scheduled}
use Rattle.cj_history.specs.gaps.reading.Listed.{gaps_among, GapsFrom, GapsBy, GoesOn}
use Rattle.cj_history.specs.gaps.reading.Settled.{is_settled}
use Rattle.cj_history.specs.gaps.reading.Intervals.{Covers}

-- What goes on with gaps of one kind goes on with those of another that they are.
pub goes_weaker : (told : Mark → Bool) (P Q : List Gap → Type 0) (before after : List Gap) (l : Intervals)
    → ((gs : List Gap) → P gs → Q gs) → GoesOn told P before after l → GoesOn told Q before after l
goes_weaker told P Q before after l f g = record {
  adds = (g.adds.0, f g.adds.0 g.adds.1, g.adds.2);
  covers = g.covers;
}

-- Where nothing is listed, nothing changes.
pub goes_none : (told : Mark → Bool) (P : List Gap → Type 0) (gs : List Gap) (l : Intervals) → P []
    → Covers (is_settled told gs) l → GoesOn told P gs gs l
goes_none told P gs l none covers = record { adds = ([], none, sym (append-nil gs)); covers = covers }

module _ (told : Mark → Bool) (p : Planned) (gs after : List Gap) (l : Intervals) where
  -- For note_cron: where the text of the CronJob, as it was read, is a schedule.
  pub from_read : (C : Type 0) (c cron : CronJob) (z : Zone) (s : Sets) → c ≡ cron → IsSchedule c.spec.schedule s
      → (C
      → GoesOn told (λ new. new ≡ gaps_among told gs cron p (missed_times s z (last_scheduled cron) p.at)) gs after l)
      → C → GoesOn told (GapsFrom told gs cron p z) gs after l
  from_read C c cron z s same reads g x =
      goes_weaker told (λ new. new ≡ gaps_among told gs cron p (missed_times s z (last_scheduled cron) p.at))
      (GapsFrom told gs cron p z) gs after l
      (λ new is. inl (s, subst (λ (y : CronJob). IsSchedule y.spec.schedule s) same reads, is)) (g x)

  -- For note_plan: where its CronJob and its zone are known.
  pub by_plan : (C : Type 0) (c : CronJob) (z : Zone) → p.cron ≡ Some c → p.zone ≡ Some z
      → (C → GoesOn told (GapsFrom told gs c p z) gs after l)
      → C → GoesOn told (GapsBy told gs p p.cron p.zone) gs after l
  by_plan C c z stands known g x =
      goes_weaker told (GapsFrom told gs c p z) (GapsBy told gs p p.cron p.zone) gs after l
      (λ new is. subst (λ (o : Option CronJob). GapsBy told gs p o p.zone new) (sym stands)
      (subst (λ (o : Option Zone). GapsBy told gs p (Some c) o new) (sym known) is)) (g x)

-- For note_cron: where the text isn't a schedule, there is none.
pub from_none : (told : Mark → Bool) (p : Planned) (gs : List Gap) (l : Intervals) (c cron : CronJob) (z : Zone)
    → c ≡ cron → ((s : Sets) → IsSchedule c.spec.schedule s → ⊥) → Covers (is_settled told gs) l
    → GoesOn told (GapsFrom told gs cron p z) gs gs l
from_none told p gs l c cron z same none covers =
    goes_none told (GapsFrom told gs cron p z) gs l
    (inr (λ s h. none s (subst (λ (x : CronJob). IsSchedule x.spec.schedule s) (sym same) h), refl)) covers
