-- What is told of a list's CronJobs at a moment has no float, and nests a few levels deep.
--     crons_free, why_free         it has no float
--     crons_within, why_within     it isn't deep
use Rattle.std.proofs.Common.{◌≡◌, refl, sym, subst, ℕ, suc, ◌≤◌, List, [], ◌∷◌, Bool, true, false, not, ◌&&◌}
use Rattle.std.specs.Prelude.{is_some}
use Rattle.std.proofs.Math.Nat.{max-le}
use Rattle.serde_json.specs.Data.{Data, depth}
use Rattle.serde_json.specs.Written.{has_float}
use Rattle.cj_audit.specs.Items.{others_data}
use Rattle.cj_explain.specs.RefusedItems.{refused_data}
use Rattle.cj_cluster.specs.Content.{Content, is_halted}
use Rattle.cj_cluster.specs.declared.cron.ClusterCron.{ClusterCron}
use Rattle.cj_cluster.specs.declared.kubectl.notes.ItemNote.{ItemNote}
use Rattle.cj_decide.specs.Decision.{running_of}
use Rattle.cj_decide.specs.declared.steps.Steps.{Steps}
use Rattle.cj_due.specs.Window.{window_of}
use Rattle.cj_due.specs.declared.answer.Missed.{Missed}
use Rattle.cj_due.specs.declared.answer.Missed.TheVariants as Kind
use Rattle.cj_json.specs.Values.{time_or_null}
use Rattle.cj_types.specs.Keys.{Place}
use Rattle.cj_why.specs.declared.reviews.verdict.Verdict.{Verdict}
use Rattle.cj_why.specs.reviews.CronJson.{AreCronJson, IsCronJson, cron_data, missed_data, plan_where}
use Rattle.cj_why.specs.reviews.PlanJson.{jobs_data, texts_data}
use Rattle.cj_why.specs.reviews.Late.{base_of}
use Rattle.cj_why.specs.reviews.Lacking.{is_known}
use Rattle.cj_why.specs.reviews.Seen.{found, lacking, unknown}
use Rattle.cj_why.specs.reviews.Verdict.{next_of, verdict_of}
use Rattle.cj_why.specs.reviews.ZoneFor.{zone_for}
use Rattle.cj_zone.specs.declared.zone.Zone.{Zone}
use Rattle.cj_c.specs.answers.Why.{why_data}
use Rattle.cj_c.proofs.Depths.{AreWithin, jobs_within, least, others_within, plan_within, refused_within, texts_within, time_within, up, within_as}
use Rattle.cj_c.proofs.NoFloats.{AreFree, free_as, jobs_free, neither, others_free, plan_free, refused_free, texts_free, time_free}

-- ---- no float

-- of the times missed
missed_free : (m : Missed) (since : ℕ) → has_float (missed_data m since) ≡ false
missed_free Kind.None since = refl
missed_free (Kind.Some count latest) since = refl
missed_free (Kind.Many latest) since = refl

-- of a plan, or none
where_free : (b : Bool) (p : Steps) → has_float (plan_where b p) ≡ false
where_free true p = plan_free p
where_free false p = refl

-- of a CronJob, by its members
members_free : (key : Place) (lacks running late missed plan next : Data) (v : Verdict) (why : List ℕ)
    → has_float lacks ≡ false → has_float running ≡ false → has_float late ≡ false → has_float missed ≡ false
    → has_float plan ≡ false → has_float next ≡ false
    → has_float (cron_data key lacks running late missed plan next v why) ≡ false
members_free key lacks running late missed plan next v why a b l c d e =
    neither (has_float lacks) _ a (neither (has_float late) _ l (neither (has_float missed) _ c
    (neither (has_float next) _ e (neither (has_float plan) _ d (neither (has_float running) false b refl)))))

-- whether the plan of a CronJob is told
abbrev Tells : Content → ClusterCron → Steps → Bool
Tells content c steps = not (is_halted c.marks) && is_known (unknown content c) c.cron.spec.policy steps

-- what comes of a CronJob at a moment
abbrev Seen : List Zone → Content → ClusterCron → Missed → Steps → Verdict
Seen zones content c late steps =
    verdict_of c (is_some (zone_for c.cron.spec.time_zone zones)) (unknown content c) late content steps

-- of a CronJob
cron_free : (zones : List Zone) (content : Content) (now : ℕ) (c : ClusterCron) (d : Data)
    → IsCronJson zones content now c d → has_float d ≡ false
cron_free zones content now c d is =
    free_as d _ is.are (members_free c.cron.key (texts_data (lacking content c))
    (jobs_data (running_of c.cron (found content c))) (missed_data is.late (base_of c.cron))
    (missed_data is.missed (window_of c.cron now)) (plan_where (Tells content c is.steps) is.steps)
    (time_or_null (next_of c is.steps)) (Seen zones content c is.late is.steps) is.why
    (texts_free (lacking content c)) (jobs_free (running_of c.cron (found content c)))
    (missed_free is.late (base_of c.cron)) (missed_free is.missed (window_of c.cron now))
    (where_free (Tells content c is.steps) is.steps) (time_free (next_of c is.steps)))

-- of each of them
pub crons_free : (zones : List Zone) (content : Content) (now : ℕ) (cs : List ClusterCron) (ds : List Data)
    → AreCronJson zones content now cs ds → AreFree ds
crons_free zones content now [] ds none = subst AreFree (sym none) refl
crons_free zones content now (c ∷ cs) ds (d, rest, is, are, both) =
    subst AreFree (sym both)
    (neither (has_float d) _ (cron_free zones content now c d is) (crons_free zones content now cs rest are))

-- of all
pub why_free : (now : ℕ) (crons : List Data) (notes : List ItemNote) → AreFree crons
    → has_float (why_data now crons notes) ≡ false
why_free now crons notes are =
    neither _ _ are (neither (has_float (others_data notes)) _ (others_free notes)
    (neither (has_float (refused_data notes)) false (refused_free notes) refl))

-- ---- not deep

-- of the times missed
missed_within : (k : ℕ) (m : Missed) (since : ℕ) → depth (missed_data m since) ≤ suc k
missed_within k Kind.None since =
    up k _ (max-le (least k) (max-le (least k) (max-le (least k) (max-le (least k) (least k)))))
missed_within k (Kind.Some count latest) since =
    up k _ (max-le (least k) (max-le (least k) (max-le (least k) (max-le (least k) (least k)))))
missed_within k (Kind.Many latest) since =
    up k _ (max-le (least k) (max-le (least k) (max-le (least k) (max-le (least k) (least k)))))

-- of a plan, or none
where_within : (k : ℕ) (b : Bool) (p : Steps) → depth (plan_where b p) ≤ suc (suc (suc k))
where_within k true p = plan_within k p
where_within k false p = least (suc (suc (suc k)))

-- of a CronJob, by its members
members_within : (k : ℕ) (key : Place) (lacks running late missed plan next : Data) (v : Verdict) (why : List ℕ)
    → depth lacks ≤ k → depth running ≤ k → depth late ≤ k → depth missed ≤ k → depth plan ≤ k → depth next ≤ k
    → depth (cron_data key lacks running late missed plan next v why) ≤ suc k
members_within k key lacks running late missed plan next v why a b l c d e =
    up k _ (max-le a (max-le l (max-le c (max-le (least k) (max-le (least k) (max-le e (max-le d (max-le b
    (max-le (least k) (max-le (least k) (least k)))))))))))

-- of a CronJob
cron_within : (k : ℕ) (zones : List Zone) (content : Content) (now : ℕ) (c : ClusterCron) (d : Data)
    → IsCronJson zones content now c d → depth d ≤ suc (suc (suc (suc k)))
cron_within k zones content now c d is =
    let n : ℕ = suc (suc (suc k)) in
    within_as (suc n) d _ is.are (members_within n c.cron.key (texts_data (lacking content c))
    (jobs_data (running_of c.cron (found content c))) (missed_data is.late (base_of c.cron))
    (missed_data is.missed (window_of c.cron now)) (plan_where (Tells content c is.steps) is.steps)
    (time_or_null (next_of c is.steps)) (Seen zones content c is.late is.steps) is.why
    (texts_within (suc (suc k)) (lacking content c)) (jobs_within (suc (suc k)) (running_of c.cron (found content c)))
    (missed_within (suc (suc k)) is.late (base_of c.cron))
    (missed_within (suc (suc k)) is.missed (window_of c.cron now)) (where_within k (Tells content c is.steps) is.steps)
    (time_within n (next_of c is.steps)))

-- of each of them
pub crons_within : (k : ℕ) (zones : List Zone) (content : Content) (now : ℕ) (cs : List ClusterCron)
    (ds : List Data) → AreCronJson zones content now cs ds → AreWithin (suc (suc (suc (suc k)))) ds
crons_within k zones content now [] ds none =
    subst (AreWithin (suc (suc (suc (suc k))))) (sym none) (least (suc (suc (suc (suc k)))))
crons_within k zones content now (c ∷ cs) ds (d, rest, is, are, both) =
    subst (AreWithin (suc (suc (suc (suc k))))) (sym both)
    (max-le (cron_within k zones content now c d is) (crons_within k zones content now cs rest are))

-- of all
pub why_within : (now : ℕ) (crons : List Data) (notes : List ItemNote) → AreWithin 125 crons
    → depth (why_data now crons notes) ≤ 127
why_within now crons notes are =
    up 126 _ (max-le (up 125 _ are) (max-le (least 126) (max-le (up 125 _ (others_within 124 notes))
    (max-le (up 125 _ (refused_within 122 notes)) (least 126)))))
