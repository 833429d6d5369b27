-- The test by which a claim tells whether a plan rests on what its worker got is equality.
use Rattle.std.proofs.Common.{◌≡◌, Bool, true, false, ◌&&◌, List, Option, refl, IsTrue}
use Rattle.std.specs.Prelude.{◌↔◌}
use Rattle.cj_types.specs.declared.cron.CronJob.{CronJob}
use Rattle.cj_types.specs.declared.job.Job.{Job}
use Rattle.cj_decide.specs.Decision.{Planned}
use Rattle.cj_store.proofs.Codes.{same_is_equal}
use Rattle.cj_state.specs.phases.Inputs.{same_cron, same_jobs, same_active, rests_on, RestsOnThree}

-- Where two tests are true together, each of them is true.
both_of : (a b : Bool) → (a && b) ≡ true → (a ≡ true) × (b ≡ true)
both_of true true e = (refl, refl)
both_of true false e = absurd (cc e)
both_of false b e = absurd (cc e)

-- Where each of two tests is true, they are true together.
of_both : (a b : Bool) → a ≡ true → b ≡ true → (a && b) ≡ true
of_both true true e f = refl
of_both true false e f = absurd (cc f)
of_both false b e f = absurd (cc e)

-- For input_law: the test is true just where the plan's three inputs are the three answers.
pub rests_exactly : (p : Planned) (c : Option CronJob) (js : List Job) (ks : List (Option Job))
    → IsTrue (rests_on p c js ks) ↔ RestsOnThree p c js ks
unfolding rests_on
rests_exactly p c js ks = (
  λ h.
      let a = both_of (same_cron p.cron c && same_jobs p.jobs js) (same_active p.active ks) h in
      let b = both_of (same_cron p.cron c) (same_jobs p.jobs js) a.0 in
      ((same_is_equal _ p.cron c).0 b.0, (same_is_equal _ p.jobs js).0 b.1, (same_is_equal _ p.active ks).0 a.1),
  λ e.
      of_both (same_cron p.cron c && same_jobs p.jobs js) (same_active p.active ks)
      (of_both (same_cron p.cron c) (same_jobs p.jobs js) ((same_is_equal _ p.cron c).1 e.0)
      ((same_is_equal _ p.jobs js).1 e.1))
      ((same_is_equal _ p.active ks).1 e.2),
)
