-- Two Jobs of a CronJob of which one should not be: Kubernetes CronJob documentation, "CronJob
-- limitations" ("there are certain circumstances where two Jobs might be created") and "Concurrency
-- policy".
use Rattle.std.specs.Prelude.{◌≡◌, ℕ, Bool, true, false, ◌&&◌, ◌||◌, ◌==◌, nat_lt, List, Option, Some, None, is_some, unwrap_or}
use Rattle.std.specs.declared.cmp.Ordering.{Ordering}
use Rattle.std.specs.Ordering.{nat_cmp, is_lt, on, then_cmp}
use Rattle.std.specs.Cmp.Lexicographic.{slice_cmp}
use Rattle.cj_cluster.specs.declared.cron.ClusterCron.{ClusterCron}
use Rattle.cj_audit.specs.declared.kind.FindingKind.{FindingKind}
use Rattle.cj_audit.specs.declared.kind.FindingKind.TheVariants.{Twice, Beside}
use Rattle.cj_audit.specs.declared.finding.Finding.{Finding}
use Rattle.cj_audit.specs.declared.pairing.Pairing.{Pairing}
use Rattle.cj_audit.specs.declared.pairing.Pairing.TheVariants.{SameTime, SideBySide}
use Rattle.cj_audit.specs.declared.run.Run.{Run}

abbrev pub kind_of : Pairing → FindingKind
kind_of SameTime = Twice
kind_of (SideBySide e) = Beside e

-- when the Job was created
abbrev pub created : Run → ℕ
created run = run.job.meta.created

-- the bytes of its name
abbrev pub name_of : Run → List ℕ
name_of run = run.job.key.name

-- the scheduled time, and without one the creation time; or that alone
abbrev pub key_of : Pairing → Run → ℕ
key_of SameTime run = unwrap_or run.times.scheduled (created run)
key_of (SideBySide e) run = created run

-- by that time, then by the bytes of the name
abbrev pub run_cmp : Pairing → Run → Run → Ordering
run_cmp p = then_cmp (on (key_of p) nat_cmp) (on name_of (slice_cmp nat_cmp))

abbrev pub comes_before : Pairing → Run → Run → Bool
comes_before p a b = is_lt (run_cmp p a b)

-- both have a scheduled time, and it is the same
-- rule: audit-twice
abbrev pub at_one_time : Option ℕ → Option ℕ → Bool
at_one_time (Some a) (Some b) = a == b
at_one_time (Some a) None = false
at_one_time None b = false

-- the Job has not ended, or only after this time
abbrev pub before_end : ℕ → Option ℕ → Bool
before_end time (Some ended) = nat_lt time ended
before_end time None = true

-- the second was created while the first ran, or the first while the second ran that was created at
-- the same time
-- rule: audit-beside
abbrev pub beside : Run → Run → Bool
beside first second =
    before_end (created second) first.times.ended
    || ((created first == created second) && before_end (created first) second.times.ended)

abbrev pub meets : Pairing → Run → Run → Bool
meets SameTime first second = at_one_time first.times.scheduled second.times.scheduled
meets (SideBySide e) first second = beside first second

-- the first is before the second, and they meet
-- rules: audit-twice, audit-beside
abbrev pub is_pair : Pairing → Run → Run → Bool
is_pair p first second = comes_before p first second && meets p first second

-- a later one of Jobs in order may still meet the first
abbrev pub reaches : Pairing → Run → Run → Bool
reaches SameTime first second =
    is_some first.times.scheduled && (key_of SameTime first == key_of SameTime second)
reaches (SideBySide e) first second =
    before_end (created second) first.times.ended || (created first == created second)

-- the finding on two Jobs
abbrev pub pair_finding : Pairing → ClusterCron → Run → Run → Finding
pair_finding p c first second = record {
  namespace = c.cron.key.namespace;
  cron = c.cron.key.name;
  time = key_of p second;
  first = name_of first;
  second = Some (name_of second);
  kind = kind_of p;
}

-- the finding is that of these two
pub record IsPairNote (p : Pairing) (c : ClusterCron) (first second : Run) (f : Finding)
    : Type 0 where
  pub pair : is_pair p first second ≡ true
  pub is : f ≡ pair_finding p c first second
