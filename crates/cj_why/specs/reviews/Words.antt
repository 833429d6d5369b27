-- What `why` says of each CronJob of a cluster: why it starts a Job, or why not.
use Rattle.std.specs.Prelude.{◌≡◌, ℕ, List, [], ◌∷◌, ◌++◌, codes, Bool, true, false, Option, None, Some}
use Rattle.cj_types.specs.declared.cron.CronJob.{CronJob}
use Rattle.cj_types.specs.Keys.{Place}
use Rattle.cj_zone.specs.declared.zone.Zone.{Zone}
use Rattle.cj_decide.specs.Decision.{running_of}
use Rattle.cj_why.specs.Why.{IsWhy}
use Rattle.cj_cluster.specs.Content.{Content}
use Rattle.cj_cluster.specs.declared.cron.ClusterCron.{ClusterCron}
use Rattle.cj_due.specs.declared.answer.Missed.{Missed}
use Rattle.cj_why.specs.reviews.Late.{IsLateOf, late_words}
use Rattle.cj_why.specs.reviews.Otherwise.{otherwise_words}
use Rattle.cj_why.specs.reviews.Review.{IsCronReview}
use Rattle.cj_why.specs.reviews.Seen.{found, gone, unknown}
use Rattle.cj_why.specs.reviews.ZoneFor.{zone_for}

-- `NAMESPACE/NAME, by the clock of ZONE:`
-- rule: why-explained
abbrev pub title_line : Place → List ℕ → List ℕ
title_line key zone = key.namespace
    ++ (codes "/" ++ (key.name ++ (codes ", by the clock of " ++ (zone ++ codes ":\n"))))

-- the name of the zone, UTC where none is named
abbrev pub zone_title : Option (List ℕ) → List ℕ
zone_title None = codes "UTC"
zone_title (Some name) = name

-- of a Job that `status.active` names, in a list that has other Jobs of the CronJob
abbrev pub gone_end : List ℕ
gone_end = codes ", which status.active names; the list has other Jobs of the CronJob, and not this one\n"

abbrev pub gone_line : List ℕ → List ℕ
gone_line name = codes "gone: " ++ (name ++ gone_end)

-- rule: why-lacks
abbrev pub gone_lines : List (List ℕ) → List ℕ
gone_lines [] = []
gone_lines (name ∷ names) = gone_line name ++ gone_lines names

abbrev pub deleting_words : List ℕ
deleting_words = codes "start: none, since metadata.deletionTimestamp is set: the CronJob is being deleted\n"

abbrev pub stuck_words : List ℕ
stuck_words = codes "start: none, since a reference in status.active has no name, so that each sync of Kubernetes' controller fails; kubectl edit --subresource=status takes it out\n"

-- why it starts nothing, or else by its spec, its Jobs and the times that it missed
-- rules: why-explained, cluster-deleting, cluster-stuck
abbrev pub IsReason : Bool → Bool → List Zone → Content → ℕ → ClusterCron → List ℕ → Type 0
IsReason true stuck zones content now c why = why ≡ deleting_words
IsReason false true zones content now c why = why ≡ stuck_words
IsReason false false zones content now c why =
    IsWhy c.cron (zone_for c.cron.spec.time_zone zones) (running_of c.cron (found content c))
    (unknown content c) now why

-- the line of the times that came too late
pub record IsLateLine (zones : List Zone) (now : ℕ) (cron : CronJob) (text : List ℕ) : Type 0 where
  pub late : Missed
  pub counted : IsLateOf cron (zone_for cron.spec.time_zone zones) now late
  pub are : text ≡ late_words cron.status.last_schedule_time late

-- that line, the Jobs that are gone, the times that came too late, why, and what Kubernetes' own
-- controller does otherwise
-- rules: why-explained, why-otherwise, why-late
pub record IsCronWords (zones : List Zone) (content : Content) (now : ℕ) (c : ClusterCron)
    (text : List ℕ) : Type 0 where
  pub late : List ℕ
  pub too_late : IsLateLine zones now c.cron late
  pub why : List ℕ
  pub reason : IsReason c.marks.is_deleting c.marks.is_stuck zones content now c why
  pub are : text ≡ (title_line c.cron.key (zone_title c.cron.spec.time_zone)
      ++ (gone_lines (gone content c)
      ++ (late ++ why)))
      ++ otherwise_words c.cron (zone_for c.cron.spec.time_zone zones)

-- where people ask for it
abbrev pub IsAskedWords : Bool → List Zone → Content → ℕ → ClusterCron → List ℕ → Type 0
IsAskedWords true zones content now c text = IsCronWords zones content now c text
IsAskedWords false zones content now c text = text ≡ []

-- of one CronJob
pub record IsOne (explain : Bool) (zones : List Zone) (content : Content) (now : ℕ)
    (c : ClusterCron) (printed said : List ℕ) : Type 0 where
  pub lines : IsCronReview zones content now c printed
  pub words : IsAskedWords explain zones content now c said

-- of CronJobs one after the other: what is printed of them, and what is said to people
-- rule: why-lines
abbrev pub IsReview : Bool → List Zone → Content → ℕ → List ClusterCron → List ℕ → List ℕ → Type 0
IsReview explain zones content now [] printed said = (printed ≡ []) × (said ≡ [])
IsReview explain zones content now (c ∷ cs) printed said =
    (one : List ℕ) × (told : List ℕ) × (lines : List ℕ) × (words : List ℕ)
    × IsOne explain zones content now c one told
    × IsReview explain zones content now cs lines words
    × (printed ≡ one ++ lines) × (said ≡ told ++ words)
