-- What is said of a CronJob is said of the same one, wherever it stands.
use Rattle.std.proofs.Common.{◌≡◌, ◌++◌, ◌∙◌, ℕ, List, Option, ap, subst}
use Rattle.cj_types.specs.declared.cron.CronJob.{CronJob}
use Rattle.cj_types.specs.declared.job.Job.{Job}
use Rattle.cj_zone.specs.declared.zone.Zone.{Zone}
use Rattle.cj_decide.specs.Decision.{running_of}
use Rattle.cj_why.specs.Why.{IsWhy}
use Rattle.cj_why.specs.reviews.Otherwise.{otherwise_words}
use Rattle.cj_why.specs.reviews.Words.{IsLateLine, title_line, zone_title}
use Rattle.cj_why.specs.reviews.ZoneFor.{zone_for}

-- For seen_why: why the same CronJob starts a Job, by what was found for the same names and what is lacking.
pub why_moved : (cron other : CronJob) (zones : List Zone) (found live : List (Option Job))
    (lacking hidden : List (List ℕ)) (now : ℕ) (words : List ℕ) → other ≡ cron → live ≡ found → hidden ≡ lacking
    → IsWhy other (zone_for other.spec.time_zone zones) (running_of other live) hidden now words
    → IsWhy cron (zone_for cron.spec.time_zone zones) (running_of cron found) lacking now words
why_moved cron other zones found live lacking hidden now words e f g h =
    subst (λ (n : List (List ℕ)). IsWhy cron (zone_for cron.spec.time_zone zones) (running_of cron found) n now words) g
    (subst (λ (l : List (Option Job)). IsWhy cron (zone_for cron.spec.time_zone zones)
    (running_of cron l) hidden now words) f
    (subst (λ (c : CronJob). IsWhy c (zone_for c.spec.time_zone zones) (running_of c live) hidden now words) e h))

-- For cron_words: the line of the same CronJob, with the same words behind it.
pub title_moved : (cron other : CronJob) (gone late words rest gone' late' words' rest' text : List ℕ) → other ≡ cron
    → gone' ≡ gone → late' ≡ late → words' ≡ words → rest' ≡ rest
    → text ≡ (title_line other.key (zone_title other.spec.time_zone) ++ (gone' ++ (late' ++ words'))) ++ rest'
    → text ≡ (title_line cron.key (zone_title cron.spec.time_zone) ++ (gone ++ (late ++ words))) ++ rest
title_moved cron other gone late words rest gone' late' words' rest' text e g l w r h =
    let title = title_line cron.key (zone_title cron.spec.time_zone) in
    h
    ∙ ap (λ (c : CronJob). (title_line c.key (zone_title c.spec.time_zone) ++ (gone' ++ (late' ++ words'))) ++ rest') e
    ∙ ap (λ x. (title ++ (x ++ (late' ++ words'))) ++ rest') g
    ∙ ap (λ x. (title ++ (gone ++ (x ++ words'))) ++ rest') l
    ∙ ap (λ x. (title ++ (gone ++ (late ++ x))) ++ rest') w
    ∙ ap (λ x. (title ++ (gone ++ (late ++ words))) ++ x) r

-- For cron_words: the line of the times that came too late for the same CronJob.
pub late_moved : (cron other : CronJob) (zones : List Zone) (now : ℕ) (text : List ℕ) → other ≡ cron
    → IsLateLine zones now other text → IsLateLine zones now cron text
late_moved cron other zones now text e h = subst (λ (x : CronJob). IsLateLine zones now x text) e h

-- For cron_words: what Kubernetes' own controller does otherwise with the same CronJob.
pub otherwise_moved : (cron other : CronJob) (zones : List Zone) (words said : List ℕ) → other ≡ cron → said ≡ words
    → words ≡ otherwise_words other (zone_for other.spec.time_zone zones)
    → said ≡ otherwise_words cron (zone_for cron.spec.time_zone zones)
otherwise_moved cron other zones words said e w h =
    w ∙ h ∙ ap (λ (c : CronJob). otherwise_words c (zone_for c.spec.time_zone zones)) e
