-- note_cron: its clause ok, from what is noted of single Jobs, of Jobs of one time, and of Jobs beside each other.
use Rattle.std.proofs.Common.{◌≡◌, ◌∙◌, Some, None, sym, ap, subst}
use Rattle.cj_types.specs.declared.cron.CronJob.{CronJob}
use Rattle.cj_types.specs.declared.cron.CronSpec.{CronSpec}
use Rattle.cj_zone.specs.Table.{zones_of}
use Rattle.cj_audit.specs.declared.pairing.Pairing.TheVariants.{SameTime, SideBySide}
use Rattle.cj_audit.specs.Kinds.{exclusive_of}
use Rattle.cj_audit.specs.Runs.{AreRunsOf}
use Rattle.cj_audit.specs.Notes.{Notes}
use Rattle.cj_audit.specs.Findings.{IsFindingOf, IsPairOf}
use Rattle.cj_audit.proofs.RunsIn.{runs_are, runs_moved}
use Rattle.cj_audit.proofs.OfCron.{noted_all, noted_most, pairs_of}
use Rattle.cj_audit.proofs.cron.note_cron.Goals as goal
use Rattle.cj_audit.proofs.cron.note_cron.Goals.{in-Some+in_ok-note_pairs-2, in_default}

pub note_alone-requires : goal.note_alone-requires
note_alone-requires c =
    let content = c.args.cluster.now in
    let cron = c.args.cron.now in
    subst (λ xs. AreRunsOf content cron xs) (sym (c.as_slice.ensures.value ∙ c.in_ok-runs.ensures.ok))
    (runs_are content cron)

pub returns-clause-ok : goal.returns-clause-ok
returns-clause-ok c =
    let zones = zones_of c.args.zones.now in
    let content = c.args.cluster.now in
    let cron = c.args.cron.now in
    let runs = c.in_ok-runs.runs.items in
    let moved = c.note_pairs.new.runs.items in
    let start = c.args.notes.now in
    let are : AreRunsOf content cron runs = subst (λ xs. AreRunsOf content cron xs) (sym c.in_ok-runs.ensures.ok)
    (runs_are content cron) in
    let single = c.in_ok-note_alone.ensures.ok in
    let twice : Notes (IsPairOf SameTime content cron) c.note_alone.new.notes c.note_pairs.new.notes = pairs_of SameTime
    content cron runs are c.note_alone.new.notes c.note_pairs.new.notes c.in_ok-note_pairs.ensures.ok in
    let again : AreRunsOf content cron moved = runs_moved content cron runs moved c.in_ok-note_pairs.ensures.same are in
    let spec : c.get.result.now ≡ cron.cron.spec = c.get.ensures ∙ ap (λ (x : CronJob). x.spec) c.deref.ensures in
    let policy = ap (λ (x : CronSpec). exclusive_of x.policy) (sym spec) in
    elim c.match-of.branch [
      | in-Some+in_ok-note_pairs-2 w ↦
          let e = w.in-Some.exclusive in
          let last = w.note_pairs-in-Some.new.notes in
          let is : exclusive_of cron.cron.spec.policy ≡ Some e = policy ∙ sym w.in-Some.ensures in
          let beside = pairs_of (SideBySide e) content cron moved again c.note_pairs.new.notes last
          w.in_ok-note_pairs-2.ensures.ok in
          subst (λ s. Notes (IsFindingOf zones content cron) start s) (sym w.notes-is)
          (noted_all zones content cron e is start c.note_alone.new.notes c.note_pairs.new.notes last single twice
          beside)
      | in_default w ↦
          let is : exclusive_of cron.cron.spec.policy ≡ None = policy ∙ sym c.of.ensures ∙ w.in_default.is in
          subst (λ s. Notes (IsFindingOf zones content cron) start s) (sym w.notes-is)
          (noted_most zones content cron is start c.note_alone.new.notes c.note_pairs.new.notes single twice)
    ]
