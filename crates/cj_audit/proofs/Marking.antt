-- What the Jobs of a CronJob tell together of a time that has none.
use Rattle.std.proofs.Common.{◌≡◌, ℕ, Bool, true, false, ◌&&◌, ◌||◌, not, nat_lt, List, [], ◌∷◌, Option, Some, None, ◌==◌, cond, refl, sym, ap, ◌∙◌, arith}
use Rattle.std.proofs.lemmas.Bool.Decides.{nat_tests}
use Rattle.std.specs.List.{list_any}
use Rattle.std.specs.BTreeSet.{BTreeSet, contains, Updates}
use Rattle.std.specs.Ordering.{is_eq, nat_cmp}
use Rattle.cj_types.specs.declared.job.Job.{Job}
use Rattle.cj_cluster.specs.declared.cron.ClusterCron.{ClusterCron}
use Rattle.cj_audit.specs.declared.ending.Ending.{Ending}
use Rattle.cj_audit.specs.declared.ending.Ending.TheVariants.{Success, Failure}
use Rattle.cj_audit.specs.declared.marks.Marks.{Marks}
use Rattle.cj_audit.specs.declared.run.Run.{Run}
use Rattle.cj_audit.specs.Marks.{earlier, ended_time, keeps, kept_in, lacks, lacks_in, later, latest, oldest, time_where, AreMarks, AreTimes, Marked}
use Rattle.cj_audit.specs.Missing.{ended_count, ends, is_at, is_behind, is_earlier, is_later, is_older, is_time}

-- Of three tests either of the first two, or the third.
pub or_moved : (a b c : Bool) → ((a || b) || c) ≡ (a || (b || c))
or_moved true b c = refl
or_moved false b c = refl

-- What never holds adds nothing.
pub or_false : (b : Bool) → (b || false) ≡ b
or_false true = refl
or_false false = refl

-- Of two times the later is after one where either is.
later_either : (t : ℕ) (a b : Option ℕ) → is_later t (later a b) ≡ (is_later t a || is_later t b)
later_either t None b = refl
later_either t (Some x) None = sym (or_false (nat_lt t x))
later_either t (Some x) (Some y) = grind (arith, nat_tests)

-- Of two times the earlier is before one where either is.
earlier_either : (t : ℕ) (a b : Option ℕ) → is_earlier t (earlier a b) ≡ (is_earlier t a || is_earlier t b)
earlier_either t None b = refl
earlier_either t (Some x) None = sym (or_false (nat_lt x t))
earlier_either t (Some x) (Some y) = grind (arith, nat_tests)

-- For oldest_any: a time where a test holds is before one where both are so.
earlier_where : (b : Bool) (t : ℕ) (o : Option ℕ) → is_earlier t (time_where b o) ≡ (b && is_earlier t o)
earlier_where true t o = refl
earlier_where false t o = refl

-- The greatest scheduled time is after one where that of any Job is.
latest_any : (t : ℕ) (first : Option ℕ) (runs : List Run)
    → is_later t (latest first runs) ≡ (is_later t first || list_any (is_behind t) runs)
latest_any t first [] = sym (or_false (is_later t first))
latest_any t first (run ∷ runs) =
    latest_any t (later first run.times.scheduled) runs
    ∙ ap (λ b. b || list_any (is_behind t) runs) (later_either t first run.times.scheduled)
    ∙ or_moved (is_later t first) (is_behind t run) (list_any (is_behind t) runs)

-- The least scheduled time of those that ended so is before one where that of any such Job is.
oldest_any : (e : Ending) (t : ℕ) (first : Option ℕ) (runs : List Run)
    → is_earlier t (oldest e first runs) ≡ (is_earlier t first || list_any (is_older e t) runs)
oldest_any e t first [] = sym (or_false (is_earlier t first))
oldest_any e t first (run ∷ runs) =
    oldest_any e t (earlier first (ended_time e run)) runs
    ∙ ap (λ b. b || list_any (is_older e t) runs) (earlier_either t first (ended_time e run)
    ∙ ap (λ b. is_earlier t first || b) (earlier_where (ends e run.job) t run.times.scheduled))
    ∙ or_moved (is_earlier t first) (is_older e t run) (list_any (is_older e t) runs)

-- What Jobs tell together of a time is what they tell one by one.
pub marks_lack : (c : ClusterCron) (runs : List Run) (jobs : List Job) (m : Marks) → AreMarks c runs jobs m → (t : ℕ)
    → lacks m c.cron.spec t ≡ lacks_in c runs jobs t
marks_lack c runs jobs m are t =
    let a : is_later t m.latest ≡ list_any (is_behind t) runs = ap (is_later t) are.latest ∙ latest_any t None runs in
    let b : contains nat_cmp m.times t ≡ list_any (is_at t) runs = are.times.has t in
    let x : keeps m.completed c.cron.spec.successful_limit t ≡ kept_in Success c runs jobs t =
    ap (λ e. keeps e c.cron.spec.successful_limit t) are.completed
    ∙ ap (λ z. z
    || nat_lt (ended_count Success c jobs) c.cron.spec.successful_limit) (oldest_any Success t None runs) in
    let y : keeps m.failed c.cron.spec.failed_limit t ≡ kept_in Failure c runs jobs t =
    ap (λ e. keeps e c.cron.spec.failed_limit t) are.failed
    ∙ ap (λ z. z || nat_lt (ended_count Failure c jobs) c.cron.spec.failed_limit) (oldest_any Failure t None runs) in
    ap (λ z. z && (not (contains nat_cmp m.times t) && (keeps m.completed c.cron.spec.successful_limit t
    && keeps m.failed c.cron.spec.failed_limit t))) a
    ∙ ap (λ z. list_any (is_behind t) runs && (not z && (keeps m.completed c.cron.spec.successful_limit t
    && keeps m.failed c.cron.spec.failed_limit t))) b
    ∙ ap (λ z. list_any (is_behind t) runs && (not (list_any (is_at t) runs) && (z
    && keeps m.failed c.cron.spec.failed_limit t))) x
    ∙ ap (λ z. list_any (is_behind t) runs && (not (list_any (is_at t) runs) && (kept_in Success c runs jobs t && z))) y

-- what the set has and what is told by the rest of the Jobs are the scheduled times of all
pub record Leaves (times : BTreeSet ℕ) (rest runs : List Run) : Type 0 where
  pub has : (t : ℕ) → (contains nat_cmp times t || list_any (is_at t) rest) ≡ list_any (is_at t) runs

-- For times_of: with the time of the first of the rest it leaves one fewer.
pub leaves_step : (old new : BTreeSet ℕ) (run : Run) (rest next runs : List Run) → rest ≡ run ∷ next
    → Leaves old rest runs → Marked run old new → Leaves new next runs
leaves_step old new run rest next runs is leaves marked = record {
  has = λ t. ap (λ b. b || list_any (is_at t) next) (marked.has t)
      ∙ or_moved (contains nat_cmp old t) (is_at t run) (list_any (is_at t) next)
      ∙ ap (λ xs. contains nat_cmp old t || list_any (is_at t) xs) (sym is) ∙ leaves.has t;
}

-- For times_of: where nothing is left the set has all.
pub leaves_done : (times : BTreeSet ℕ) (rest runs : List Run) → rest ≡ [] → Leaves times rest runs
    → AreTimes runs times
leaves_done times rest runs none leaves = record {
  has = λ t. sym (or_false (contains nat_cmp times t))
      ∙ ap (λ xs. contains nat_cmp times t || list_any (is_at t) xs) (sym none) ∙ leaves.has t;
}

-- For mark: with a time put in, the set has just this one more.
pub mark_one : (run : Run) (time : ℕ) (old new : BTreeSet ℕ) → run.times.scheduled ≡ Some time
    → Updates nat_cmp old new time true → Marked run old new
mark_one run time old new is updates = record {
  has = λ t. updates.0 t ∙ by (is_eq (nat_cmp time t)) (contains nat_cmp old t) t refl
      ∙ ap (λ o. contains nat_cmp old t || is_time t o) (sym is);
}
  where
    same : (t : ℕ) → is_eq (nat_cmp time t) ≡ (t == time)
    same t = grind (arith, nat_tests)

    by : (b was : Bool) (t : ℕ) → is_eq (nat_cmp time t) ≡ b → cond b true was ≡ (was || (t == time))
    by true true t e = refl
    by true false t e = sym e ∙ same t
    by false true t e = refl
    by false false t e = sym e ∙ same t
