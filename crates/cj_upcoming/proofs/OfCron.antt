-- The starts of one CronJob, by its schedule and its zone.
use Rattle.std.proofs.Common.{◌≡◌, inl, inr, ℕ, true, false, List, Some, None, sym, ◌∙◌, subst}
use Rattle.std.specs.BTreeSet.{BTreeSet}
use Rattle.cj_types.specs.declared.cron.CronSpec.{CronSpec}
use Rattle.cj_schedule.specs.Grammar.{IsSchedule}
use Rattle.cj_schedule.specs.Matches.{Sets}
use Rattle.cj_zone.specs.declared.zone.Zone.{Zone}
use Rattle.cj_cluster.specs.Content.{is_halted}
use Rattle.cj_cluster.specs.declared.cron.ClusterCron.{ClusterCron}
use Rattle.cj_upcoming.specs.declared.start.Start.{Start}
use Rattle.cj_upcoming.specs.Window.{Span}
use Rattle.cj_upcoming.specs.Notes.{Notes, Exceeds}
use Rattle.cj_upcoming.specs.Starts.{zone_for, IsDueIn, IsStartBy, IsStartOf}
use Rattle.cj_upcoming.specs.Times.{IsTimeAt}
use Rattle.cj_upcoming.proofs.Noting.{notes_as, notes_none}
use Rattle.cj_upcoming.proofs.Walks.{true_false}

module _ (zones : List Zone) (w : Span) (place : ℕ) (spec : CronSpec) where
  -- A suspended CronJob has none.
  pub of_suspended : spec.suspend ≡ true → (a : BTreeSet Start) → Notes (IsStartOf zones w place spec) a a
  of_suspended is a = notes_none (IsStartOf zones w place spec) a (λ s h. true_false spec.suspend is h.at_time.runs)

  -- Nor has one without a schedule.
  pub of_none : ((t : Sets) → IsSchedule spec.schedule t → ⊥) → (a : BTreeSet Start)
      → Notes (IsStartOf zones w place spec) a a
  of_none none a = notes_none (IsStartOf zones w place spec) a
      (λ s h. none h.at_time.schedule h.at_time.clock.reads)

  -- Nor one without a zone.
  pub of_no_zone : zone_for spec.time_zone zones ≡ None → (a : BTreeSet Start)
      → Notes (IsStartOf zones w place spec) a a
  of_no_zone none a = notes_none (IsStartOf zones w place spec) a
      (λ s h. absurd (cc (sym none ∙ h.at_time.clock.in_zone)))

  module _ (t : Sets) (z : Zone) (runs : spec.suspend ≡ false) (reads : IsSchedule spec.schedule t)
      (only : (u : Sets) → IsSchedule spec.schedule u
      → Some t ≡ Some u) (in_zone : zone_for spec.time_zone zones ≡ Some z) where
    -- A due time of the schedule in the zone is a start.
    to_start : (s : Start) → IsTimeAt w t z place s → IsStartOf zones w place spec s
    to_start s h = record {
      at_place = h.at_place;
      at_time = record {
        runs = runs;
        schedule = t;
        zone = z;
        clock = record { reads = reads; in_zone = in_zone };
        due_in = h.due_in;
      };
    }

    -- A start is at a due time of the schedule in the zone.
    from_start : (s : Start) → IsStartOf zones w place spec s → IsTimeAt w t z place s
    from_start s h =
        let one : h.at_time.schedule ≡ t = cc (only h.at_time.schedule h.at_time.clock.reads) in
        let other : h.at_time.zone ≡ z = cc (sym h.at_time.clock.in_zone ∙ in_zone) in
        record {
          at_place = h.at_place;
          due_in = subst (λ (x : Zone). IsDueIn w t x s.time) other
              (subst (λ (x : Sets). IsDueIn w x h.at_time.zone s.time) one h.at_time.due_in);
        }

    -- With the due times the starts are noted.
    pub of_clock : (a b : BTreeSet Start) → Notes (IsTimeAt w t z place) a b → Notes (IsStartOf zones w place spec) a b
    of_clock a b n = notes_as (IsTimeAt w t z place) (IsStartOf zones w place spec) a b to_start from_start n

    -- Where the due times are too many, the starts are.
    pub over_clock : (most : ℕ) (a b : BTreeSet Start) → Exceeds most (IsTimeAt w t z place) a b
        → Exceeds most (IsStartOf zones w place spec) a b
    over_clock most a b over = record {
      found = λ s h. elim (over.found s h) [ inl was ↦ inl was | inr is ↦ inr (to_start s is) ];
      more = over.more;
      ordered = over.ordered;
    }

module _ (zones : List Zone) (w : Span) (place : ℕ) (c : ClusterCron) where
  -- A CronJob that is being deleted or stuck has no start.
  pub by_halted : is_halted c.marks ≡ true → (a : BTreeSet Start) → Notes (IsStartBy zones w place c) a a
  by_halted is a = notes_none (IsStartBy zones w place c) a (λ s h. true_false (is_halted c.marks) is h.goes)

  -- One that is neither has those of its spec.
  pub by_spec : is_halted c.marks ≡ false → (a b : BTreeSet Start) → Notes (IsStartOf zones w place c.cron.spec) a b
      → Notes (IsStartBy zones w place c) a b
  by_spec goes a b n = notes_as (IsStartOf zones w place c.cron.spec) (IsStartBy zones w place c) a b
      (λ s h. record { goes = goes; start = h }) (λ s h. h.start) n

  -- Where those are too many, its own are.
  pub over_spec : is_halted c.marks ≡ false → (most : ℕ) (a b : BTreeSet Start)
      → Exceeds most (IsStartOf zones w place c.cron.spec) a b → Exceeds most (IsStartBy zones w place c) a b
  over_spec goes most a b over = record {
    found = λ s h. elim (over.found s h) [ inl was ↦ inl was | inr is ↦ inr (record { goes = goes; start = is }) ];
    more = over.more;
    ordered = over.ordered;
  }
