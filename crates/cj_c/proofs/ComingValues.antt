-- What is told of a window of time, and of a schedule, has no float, and nests a few levels deep.
--     upcoming_free, upcoming_within     of a window
--     describe_free, describe_within     of a schedule
use Rattle.std.proofs.Common.{◌≡◌, refl, sym, subst, ℕ, suc, ◌-◌, ◌≤◌, List, [], ◌∷◌, Bool, true, false, Option, None, Some}
use Rattle.std.proofs.Math.Nat.{max-le}
use Rattle.std.specs.Prelude.{length, slice_get, ◌==◌}
use Rattle.serde_json.specs.Data.{Data, depth}
use Rattle.serde_json.specs.Written.{has_float}
use Rattle.cj_audit.specs.Items.{others_data}
use Rattle.cj_explain.specs.RefusedItems.{refused_data}
use Rattle.cj_cluster.specs.declared.cron.ClusterCron.{ClusterCron}
use Rattle.cj_cluster.specs.declared.kubectl.notes.ItemNote.{ItemNote}
use Rattle.cj_schedule.specs.Matches.{Sets}
use Rattle.cj_types.specs.Keys.{Place}
use Rattle.cj_upcoming.specs.Changes.{changes}
use Rattle.cj_upcoming.specs.Lines.{starts_in}
use Rattle.cj_upcoming.specs.Minutes.{minutes}
use Rattle.cj_upcoming.specs.Window.{Span}
use Rattle.cj_upcoming.specs.Zones.{named}
use Rattle.cj_upcoming.specs.declared.minute.Minute.{Minute}
use Rattle.cj_upcoming.specs.declared.standing.Standing.{Standing}
use Rattle.cj_upcoming.specs.declared.standing.Standing.TheVariants.{Comes, Deleting, Suspended, Never, Stuck, Unread}
use Rattle.cj_upcoming.specs.declared.start.Start.{Start}
use Rattle.cj_upcoming.specs.json.Changes.{change_data, changes_data, changes_where, zone_changes}
use Rattle.cj_upcoming.specs.json.Coming.{changes_along, coming_data, times_data}
use Rattle.cj_upcoming.specs.json.Minutes.{cron_at, crons_in, minute_data, minutes_data}
use Rattle.cj_upcoming.specs.json.Standings.{AreStandingData, standing_data}
use Rattle.cj_zone.specs.Zones.{zone_named}
use Rattle.cj_zone.specs.declared.zone.Zone.{Zone}
use Rattle.cj_c.specs.answers.Describe.{describe_data, zone_data, zone_where}
use Rattle.cj_c.specs.answers.Upcoming.{AreParts, IsIdleData, IsPeaksData, Telling, files_data, upcoming_data}
use Rattle.cj_c.proofs.Depths as deep
use Rattle.cj_c.proofs.Depths.{AreWithin, least, others_within, refused_within, up, within_as}
use Rattle.cj_c.proofs.NoFloats.{AreFree, free_as, joined, mapped, neither, others_free, refused_free}

-- ---- no float

-- of the times at which a clock is put
changes_free : (z : Zone) (ts : List ℕ) → AreFree (changes_data z ts)
changes_free z ts = mapped (change_data z) (λ t. refl) ts

-- of a zone, if it is given
where_free : (z : Option Zone) (w : Span) → AreFree (changes_where z w)
where_free None w = refl
where_free (Some z) w = changes_free z (changes z w.from (w.end - 1))

-- of all that are named
zones_free : (zones : List Zone) (w : Span) (names : List (List ℕ)) → AreFree (zone_changes zones w names)
zones_free zones w [] = refl
zones_free zones w (n ∷ ns) =
    joined (changes_where (zone_named n zones) w) _ (where_free (zone_named n zones) w) (zones_free zones w ns)

-- on the way to the last of some times
along_free : (z : Zone) (after : ℕ) (ts : List ℕ) → AreFree (changes_along z after ts)
along_free z after [] = refl
along_free z after (t ∷ ts) =
    joined (changes_data z (changes z after t)) _ (changes_free z (changes z after t)) (along_free z t ts)

-- of a CronJob that starts nothing
standing_free : (s : Standing) (key : Place) → AreFree (standing_data s key)
standing_free Comes key = refl
standing_free Suspended key = refl
standing_free Never key = refl
standing_free Unread key = refl
standing_free Deleting key = refl
standing_free Stuck key = refl

-- of each of them
standings_free : (zones : List Zone) (from : ℕ) (cs : List ClusterCron) (ds : List Data)
    → AreStandingData zones from cs ds → AreFree ds
standings_free zones from [] ds none = subst AreFree (sym none) refl
standings_free zones from (c ∷ cs) ds are =
    subst AreFree (sym are.are) (joined (standing_data are.standing c.cron.key) _
    (standing_free are.standing c.cron.key) (standings_free zones from cs are.rest are.more))

-- of all
idle_free : (zones : List Zone) (from : ℕ) (cs : List ClusterCron) (d : Data) → IsIdleData zones from cs d
    → has_float d ≡ false
idle_free zones from cs d (ds, are, is) = free_as d _ is (standings_free zones from cs ds are)

-- of the CronJob at a place, if there is one
at_free : (c : Option ClusterCron) → AreFree (cron_at c)
at_free None = refl
at_free (Some c) = refl

-- of the CronJobs of some starts
in_free : (crons : List ClusterCron) (starts : List Start) → AreFree (crons_in crons starts)
in_free crons [] = refl
in_free crons (s ∷ ss) =
    joined (cron_at (slice_get crons s.cron)) _ (at_free (slice_get crons s.cron)) (in_free crons ss)

-- of a minute
minute_free : (crons : List ClusterCron) (starts : List Start) (m : Minute)
    → has_float (minute_data crons starts m) ≡ false
minute_free crons starts m = neither _ false (in_free crons (starts_in starts m)) refl

-- of each
minutes_free : (crons : List ClusterCron) (starts : List Start) (ms : List Minute)
    → has_float (minutes_data crons starts ms) ≡ false
minutes_free crons starts ms = mapped (minute_data crons starts) (minute_free crons starts) ms

-- of the fullest
peaks_free : (most : ℕ) (crons : List ClusterCron) (starts : List Start) (d : Data)
    → IsPeaksData most crons starts d → has_float d ≡ false
peaks_free most crons starts d (ms, are, is) = free_as d _ is (minutes_free crons starts ms)

-- of the items that can't be used
files_free : (notes : List ItemNote) → has_float (files_data notes) ≡ false
files_free notes =
    neither _ false (neither (has_float (others_data notes)) _ (others_free notes)
    (neither (has_float (refused_data notes)) false (refused_free notes) refl)) refl

-- of a window
pub upcoming_free : (zones : List Zone) (w : Span) (crons : List ClusterCron) (most : ℕ) (starts : List Start)
    (notes : List ItemNote) (p : Telling) (files : Data) → files ≡ files_data notes
    → AreParts zones w crons most starts p
    → has_float (upcoming_data w (length crons) (length starts) files p) ≡ false
upcoming_free zones w crons most starts notes p files files_are are =
    neither (has_float p.changes) _ (free_as p.changes _ are.changes (zones_free zones w (named [] crons)))
    (neither (has_float files) _ (free_as files _ files_are (files_free notes))
    (neither (has_float p.idle) _ (idle_free zones w.from crons p.idle are.idle)
    (neither (has_float p.all_minutes) _
    (free_as p.all_minutes _ are.all_minutes (minutes_free crons starts (minutes starts)))
    (neither (has_float p.peaks) false (peaks_free most crons starts p.peaks are.peaks) refl))))

-- of times
times_free : (z : Zone) (after : ℕ) (ts : List ℕ) → has_float (times_data z after ts) ≡ false
times_free z after ts = mapped (coming_data z after) (λ t. refl) ts

-- of the zone
zone_free : (b : Bool) (rule : List ℕ) → has_float (zone_where b rule) ≡ false
zone_free true rule = refl
zone_free false rule = refl

-- of a schedule
pub describe_free : (schedule rule : List ℕ) (s : Sets) (z : Zone) (after : ℕ) (ts : List ℕ)
    → has_float (describe_data schedule rule s z after ts) ≡ false
describe_free schedule rule s z after ts =
    neither _ _ (along_free z after ts) (neither (has_float (zone_data rule)) _ (zone_free (length rule == 0) rule)
    (neither (has_float (times_data z after ts)) false (times_free z after ts) refl))

-- ---- not deep

-- of a time at which a clock is put
change_within : (k : ℕ) (z : Zone) (t : ℕ) → depth (change_data z t) ≤ suc k
change_within k z t =
    up k _ (max-le (least k) (max-le (least k) (max-le (least k) (max-le (least k) (max-le (least k) (least k))))))

-- of all times of a zone
changes_within : (k : ℕ) (z : Zone) (ts : List ℕ) → AreWithin (suc k) (changes_data z ts)
changes_within k z ts = deep.mapped (suc k) (change_data z) (change_within k z) ts

-- of a zone, if it is given
where_within : (k : ℕ) (z : Option Zone) (w : Span) → AreWithin (suc k) (changes_where z w)
where_within k None w = least (suc k)
where_within k (Some z) w = changes_within k z (changes z w.from (w.end - 1))

-- of all that are named
zones_within : (k : ℕ) (zones : List Zone) (w : Span) (names : List (List ℕ))
    → AreWithin (suc k) (zone_changes zones w names)
zones_within k zones w [] = least (suc k)
zones_within k zones w (n ∷ ns) =
    deep.joined (suc k) (changes_where (zone_named n zones) w) _ (where_within k (zone_named n zones) w)
    (zones_within k zones w ns)

-- on the way to the last of some times
along_within : (k : ℕ) (z : Zone) (after : ℕ) (ts : List ℕ) → AreWithin (suc k) (changes_along z after ts)
along_within k z after [] = least (suc k)
along_within k z after (t ∷ ts) =
    deep.joined (suc k) (changes_data z (changes z after t)) _ (changes_within k z (changes z after t))
    (along_within k z t ts)

-- of a CronJob that starts nothing
standing_within : (k : ℕ) (s : Standing) (key : Place) → AreWithin (suc k) (standing_data s key)
standing_within k Comes key = least (suc k)
standing_within k Suspended key =
    max-le (up k _ (max-le (least k) (max-le (least k) (max-le (least k) (least k))))) (least (suc k))
standing_within k Never key =
    max-le (up k _ (max-le (least k) (max-le (least k) (max-le (least k) (least k))))) (least (suc k))
standing_within k Unread key =
    max-le (up k _ (max-le (least k) (max-le (least k) (max-le (least k) (least k))))) (least (suc k))
standing_within k Deleting key =
    max-le (up k _ (max-le (least k) (max-le (least k) (max-le (least k) (least k))))) (least (suc k))
standing_within k Stuck key =
    max-le (up k _ (max-le (least k) (max-le (least k) (max-le (least k) (least k))))) (least (suc k))

-- of each of them
standings_within : (k : ℕ) (zones : List Zone) (from : ℕ) (cs : List ClusterCron) (ds : List Data)
    → AreStandingData zones from cs ds → AreWithin (suc k) ds
standings_within k zones from [] ds none = subst (AreWithin (suc k)) (sym none) (least (suc k))
standings_within k zones from (c ∷ cs) ds are =
    subst (AreWithin (suc k)) (sym are.are) (deep.joined (suc k) (standing_data are.standing c.cron.key) _
    (standing_within k are.standing c.cron.key) (standings_within k zones from cs are.rest are.more))

-- of all
idle_within : (k : ℕ) (zones : List Zone) (from : ℕ) (cs : List ClusterCron) (d : Data)
    → IsIdleData zones from cs d → depth d ≤ suc (suc k)
idle_within k zones from cs d (ds, are, is) =
    within_as (suc (suc k)) d _ is (up (suc k) _ (standings_within k zones from cs ds are))

-- of the CronJob at a place, if there is one
at_within : (k : ℕ) (c : Option ClusterCron) → AreWithin (suc k) (cron_at c)
at_within k None = least (suc k)
at_within k (Some c) = max-le (up k _ (max-le (least k) (max-le (least k) (least k)))) (least (suc k))

-- of the CronJobs of some starts
in_within : (k : ℕ) (crons : List ClusterCron) (starts : List Start) → AreWithin (suc k) (crons_in crons starts)
in_within k crons [] = least (suc k)
in_within k crons (s ∷ ss) =
    deep.joined (suc k) (cron_at (slice_get crons s.cron)) _ (at_within k (slice_get crons s.cron))
    (in_within k crons ss)

-- of a minute
minute_within : (k : ℕ) (crons : List ClusterCron) (starts : List Start) (m : Minute)
    → depth (minute_data crons starts m) ≤ suc (suc (suc k))
minute_within k crons starts m =
    up (suc (suc k)) _ (max-le (least (suc (suc k))) (max-le (up (suc k) _ (in_within k crons (starts_in starts m)))
    (max-le (least (suc (suc k))) (least (suc (suc k))))))

-- of each
minutes_within : (k : ℕ) (crons : List ClusterCron) (starts : List Start) (ms : List Minute)
    → depth (minutes_data crons starts ms) ≤ suc (suc (suc (suc k)))
minutes_within k crons starts ms =
    up (suc (suc (suc k))) _
    (deep.mapped (suc (suc (suc k))) (minute_data crons starts) (minute_within k crons starts) ms)

-- of the fullest
peaks_within : (k most : ℕ) (crons : List ClusterCron) (starts : List Start) (d : Data)
    → IsPeaksData most crons starts d → depth d ≤ suc (suc (suc (suc k)))
peaks_within k most crons starts d (ms, are, is) =
    within_as (suc (suc (suc (suc k)))) d _ is (minutes_within k crons starts ms)

-- of the items that can't be used
files_within : (notes : List ItemNote) → depth (files_data notes) ≤ 126
files_within notes =
    up 125 _ (max-le (up 124 _ (max-le (least 124) (max-le (up 123 _ (others_within 122 notes))
    (max-le (up 123 _ (refused_within 120 notes)) (least 124))))) (least 125))

-- of a window
pub upcoming_within : (zones : List Zone) (w : Span) (crons : List ClusterCron) (most : ℕ) (starts : List Start)
    (notes : List ItemNote) (p : Telling) (files : Data) → files ≡ files_data notes
    → AreParts zones w crons most starts p
    → depth (upcoming_data w (length crons) (length starts) files p) ≤ 127
upcoming_within zones w crons most starts notes p files files_are are =
    up 126 _ (max-le (within_as 126 p.changes _ are.changes (up 125 _ (zones_within 124 zones w (named [] crons))))
    (max-le (least 126) (max-le (within_as 126 files _ files_are (files_within notes)) (max-le (least 126)
    (max-le (idle_within 124 zones w.from crons p.idle are.idle)
    (max-le (within_as 126 p.all_minutes _ are.all_minutes (minutes_within 122 crons starts (minutes starts)))
    (max-le (peaks_within 122 most crons starts p.peaks are.peaks)
    (max-le (least 126) (max-le (least 126) (least 126))))))))))

-- of times
times_within : (k : ℕ) (z : Zone) (after : ℕ) (ts : List ℕ) → depth (times_data z after ts) ≤ suc (suc k)
times_within k z after ts =
    up (suc k) _ (deep.mapped (suc k) (coming_data z after)
    (λ t. up k _ (max-le (least k) (max-le (least k) (max-le (least k) (max-le (least k) (max-le (least k)
    (least k))))))) ts)

-- of the zone
zone_within : (k : ℕ) (b : Bool) (rule : List ℕ) → depth (zone_where b rule) ≤ k
zone_within k true rule = least k
zone_within k false rule = least k

-- of a schedule
pub describe_within : (schedule rule : List ℕ) (s : Sets) (z : Zone) (after : ℕ) (ts : List ℕ)
    → depth (describe_data schedule rule s z after ts) ≤ 127
describe_within schedule rule s z after ts =
    up 126 _ (max-le (least 126) (max-le (up 125 _ (along_within 124 z after ts)) (max-le (least 126)
    (max-le (least 126) (max-le (zone_within 126 (length rule == 0) rule)
    (max-le (times_within 124 z after ts) (least 126)))))))
