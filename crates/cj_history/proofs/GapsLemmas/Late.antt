-- The times that are listed as late are just those that no sync counted, and rise.
use Rattle.std.proofs.Common.{◌≡◌, ◌∙◌, inl, inr, ℕ, Bool, true, List, [], ◌∷◌, ◌++◌, refl, sym, ap, subst, append_assoc, append-nil}
use Rattle.cj_types.specs.declared.cron.CronJob.{CronJob}
use Rattle.cj_schedule.specs.Matches.{Sets}
use Rattle.cj_schedule.specs.Grammar.{IsSchedule}
use Rattle.cj_due.specs.Due.{due, missed_times}
use Rattle.cj_decide.specs.laws.Laws.{IsIn}
use Rattle.cj_calls.specs.Rows.{Told}
use Rattle.cj_history.specs.declared.gaps.gap.Gap.{Gap}
use Rattle.cj_history.specs.declared.gaps.late.Standing.{Standing}
use Rattle.cj_history.specs.declared.gaps.mark.Mark.{Mark}
use Rattle.cj_history.specs.declared.gaps.marks.Marks.{Marks}
use Rattle.cj_history.specs.gaps.Marks.{is_told, has_job}
use Rattle.cj_history.specs.gaps.Syncs.{last_scheduled}
use Rattle.cj_history.specs.gaps.Gaps.{Rise}
use Rattle.cj_history.specs.gaps.Late.{IsLate, AreLateOf, AreLate, AreAllGaps, unsynced}
use Rattle.cj_history.specs.gaps.reading.Known.{has, Knows}
use Rattle.cj_history.specs.gaps.reading.Listed.{gap_by, gaps_with, Adds, AreListed, LateFrom, AreLateFrom}
use Rattle.cj_history.specs.gaps.reading.Settled.{is_listed, is_settled}
use Rattle.cj_history.proofs.GapsLemmas.Among.{in_missed, missed_in, among_is, is_among, among_rises, missed_rises}
use Rattle.cj_history.proofs.GapsLemmas.Settled.{both_false}
use Rattle.cj_history.proofs.GapsLemmas.Whole.{one_schedule, just_gaps, are_gaps, open_first, first_open, AreAll}

-- For note_standing: where the text is a schedule.
pub late_read : (told : Mark → Bool) (gs : List Gap) (at : ℕ) (x : Standing) (c : CronJob) (s : Sets)
    (before after : List Gap) → c ≡ x.cron → IsSchedule c.spec.schedule s
    → after ≡ before
    ++ gaps_with (is_settled told gs x.cron.meta.uid) x.cron unsynced (missed_times s x.zone (last_scheduled x.cron) at)
    → Adds (LateFrom told gs at x) before after
late_read told gs at x c s before after same reads is = (
  gaps_with (is_settled told gs x.cron.meta.uid) x.cron unsynced (missed_times s x.zone (last_scheduled x.cron) at),
  inl (s, subst (λ (y : CronJob). IsSchedule y.spec.schedule s) same reads, refl),
  is,
)

-- For note_standing: where it isn't, there is none.
pub late_none : (told : Mark → Bool) (gs : List Gap) (at : ℕ) (x : Standing) (c : CronJob) (before : List Gap)
    → c ≡ x.cron → ((s : Sets) → IsSchedule c.spec.schedule s → ⊥) → Adds (LateFrom told gs at x) before before
late_none told gs at x c before same none = (
  [],
  inr (λ s h. none s (subst (λ (y : CronJob). IsSchedule y.spec.schedule s) (sym same) h), refl),
  sym (append-nil before),
)

-- For late_of: with one CronJob more.
pub late_more : (told : Mark → Bool) (gs : List Gap) (at : ℕ) (xs : List Standing) (x : Standing)
    (before after : List Gap) → AreLateFrom told gs at xs before → Adds (LateFrom told gs at x) before after
    → AreLateFrom told gs at (xs ++ x ∷ []) after
late_more told gs at [] x before after none (new, is, e) = (
  new,
  [],
  is,
  refl,
  e ∙ ap (λ (l : List Gap). l ++ new) none ∙ sym (append-nil new),
)
late_more told gs at (y ∷ xs) x before after (one, rest, first, others, are) (new, is, e) = (
  one,
  rest ++ new,
  first,
  late_more told gs at xs x rest (rest ++ new) others (new, is, refl),
  e ∙ ap (λ (l : List Gap). l ++ new) are ∙ append_assoc one rest new,
)

-- What is told and listed is of the history h.
module _ (h : List Told) (gs : List Gap) (all : AreAll (is_told h) h gs) (at : ℕ) where
  -- Those of one CronJob are just these.
  late_is : (x : Standing) (new : List Gap) → LateFrom (is_told h) gs at x new → AreLateOf h at x new
  late_is x new (inl (s, reads, are)) = record {
    exact = λ g. (to g, back g);
    rise = subst Rise (sym are) (among_rises had x.cron unsynced times
        (missed_rises s x.zone (last_scheduled x.cron) at));
  }
    where
      had : ℕ → Bool
      had = is_settled (is_told h) gs x.cron.meta.uid

      times : List ℕ
      times = missed_times s x.zone (last_scheduled x.cron) at

      to : (g : Gap) → IsIn g new → IsLate h x.cron x.zone at g
      to g i =
          let r = among_is had x.cron unsynced times g (subst (IsIn g) are i) in
          let q = in_missed s x.zone (last_scheduled x.cron) at g.time r.0 in
          record {
            of = sym (ap (λ (y : Gap). y.cron) r.2);
            missed = record { schedule = s; reads = reads; is_due = q.2; above = q.0; within = q.1 };
            uncounted = open_first (is_told h) h gs all x.cron.meta.uid g.time r.1;
            jobless = (both_false (has_job (is_told h) x.cron.meta.uid g.time)
                (is_listed gs x.cron.meta.uid g.time) r.1).0;
            why = sym (ap (λ (y : Gap). y.why) r.2);
          }

      back : (g : Gap) → IsLate h x.cron x.zone at g → IsIn g new
      back g a =
          let m = a.missed in
          let same : m.schedule ≡ s = one_schedule x.cron.spec.schedule m.schedule s m.reads reads in
          let one : gap_by x.cron unsynced g.time ≡ g =
          λ i. record { cron = sym a.of i; time = g.time; why = sym a.why i } in
          subst (IsIn g) (sym are)
          (subst (λ (y : Gap). IsIn y (gaps_with had x.cron unsynced times)) one
          (is_among had x.cron unsynced times g.time
          (missed_in s x.zone (last_scheduled x.cron) at g.time m.above m.within
          (subst (λ (y : Sets). due y x.zone g.time ≡ true) same m.is_due))
          (first_open (is_told h) h gs all x.cron.meta.uid g.time a.jobless a.uncounted)))
  late_is x new (inr (never, is)) = record {
    exact = λ g. ((λ i. absurd (subst (IsIn g) is i)), (λ a. absurd (never a.missed.schedule a.missed.reads)));
    rise = subst Rise (sym is) tt;
  }

  -- So are those of several.
  late_all : (xs : List Standing) (new : List Gap) → AreLateFrom (is_told h) gs at xs new → AreLate h at xs new
  late_all [] new none = none
  late_all (x ∷ xs) new (one, rest, first, others, are) = (one, rest, late_is x one first, late_all xs rest others, are)

-- For all_gaps_of: the gaps of the history, and what is late.
pub all_gaps : (t : Marks) (h : List Told) (gs late both : List Gap) (at : ℕ) (xs : List Standing) → Knows t h
    → AreListed (has t) h gs → AreLateFrom (has t) gs at xs late → both ≡ gs ++ late
    → AreAllGaps h at xs both
all_gaps t h gs late both at xs knows are rest is =
    let all = just_gaps t h gs knows are in
    let same : has t ≡ is_told h = λ i. λ m. knows.told m i in
    record {
      settled = gs;
      late = late;
      are = are_gaps h gs all;
      rest = late_all h gs all at xs late (subst (λ (f : Mark → Bool). AreLateFrom f gs at xs late) same rest);
      is = is;
    }
