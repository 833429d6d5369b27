-- The intervals that were looked at, with one more: what is due in them is settled still.
use Rattle.std.proofs.Common.{◌≡◌, ◌∙◌, inl, inr, ℕ, ◌<◌, ◌≤◌, Bool, true, false, cond, if◌then◌else◌, List, ◌++◌, Some, refl, sym, ap, subst, arith}
use Rattle.std.proofs.lemmas.Bool.{eqb-true, cases_lt}
use Rattle.std.specs.Prelude.{◌==◌, max}
use Rattle.std.specs.Ordering.{nat_cmp}
use Rattle.std.specs.BTreeMap as tree
use Rattle.cj_types.specs.declared.cron.CronJob.{CronJob}
use Rattle.cj_schedule.specs.Matches.{Sets}
use Rattle.cj_zone.specs.declared.zone.Zone.{Zone}
use Rattle.cj_due.specs.Due.{due, missed_times}
use Rattle.cj_decide.specs.Decision.{Planned}
use Rattle.cj_history.specs.declared.gaps.gap.Gap.{Gap}
use Rattle.cj_history.specs.declared.gaps.gap.Why.{Why}
use Rattle.cj_history.specs.declared.gaps.mark.Mark.{Mark}
use Rattle.cj_history.specs.declared.gaps.intervals.Interval.{Interval}
use Rattle.cj_history.specs.declared.gaps.intervals.Intervals.{Intervals}
use Rattle.cj_history.specs.gaps.Causes.{cause}
use Rattle.cj_history.specs.gaps.Syncs.{last_scheduled}
use Rattle.cj_history.specs.gaps.reading.Listed.{gaps_with, gaps_among, GoesOn}
use Rattle.cj_history.specs.gaps.reading.Settled.{is_settled}
use Rattle.cj_history.specs.gaps.reading.Intervals.{interval_at, IsLookedAt, PutInterval, Covers}
use Rattle.cj_history.proofs.GapsLemmas.Known.{eq_nat}
use Rattle.cj_history.proofs.GapsLemmas.Settled.{settled_still}
use Rattle.cj_history.proofs.GapsLemmas.Among.{missed_in, among_later, among_settled}

-- For put: with an interval put in for a CronJob.
pub interval_put : (u : ℕ) (x : Interval) (a b : Intervals) → tree.Updates nat_cmp a.intervals b.intervals u (Some x)
    → PutInterval u x a b
interval_put u x a b up = λ q. up.0 q ∙ ap (λ (y : Bool). cond y (Some x) (interval_at a q)) (eq_nat u q)

module _ (told : Mark → Bool) (gs : List Gap) (l m : Intervals) (cron : CronJob) (why : ℕ → Why) (s : Sets) (z : Zone)
    (from lo at : ℕ) (low : from ≤ lo) (seen : from < lo → IsLookedAt l cron.meta.uid s z from lo)
    (covers : Covers (is_settled told gs) l) where
  -- What is due from the beginning up to where it goes on is settled already.
  known : (t : ℕ) → from < t → t ≤ lo → due s z t ≡ true → is_settled told gs cron.meta.uid t ≡ true
  known t a b e =
      let k = seen (omega (arith, a, b)) in
      let x = k.of.begins in
      let y = k.within in
      covers cron.meta.uid k.interval k.is t (omega (arith, a, x)) (omega (arith, b, y))
      (subst (λ (r : Sets). due r k.interval.zone t ≡ true) (sym k.of.schedule)
      (subst (λ (r : Zone). due s r t ≡ true) (sym k.of.zone) e))

  -- the gaps that are listed more
  abbrev here : List Gap
  here = gaps_with (is_settled told gs cron.meta.uid) cron why (missed_times s z lo at)

  -- The new interval is settled, by what was and by what is listed.
  both : (t : ℕ) → from < t → t ≤ max lo at → due s z t ≡ true
      → is_settled told (gs ++ here) cron.meta.uid t ≡ true
  both t a b e = elim (cases_lt lo t) [
    | inl over ↦
        among_settled told gs cron why (missed_times s z lo at) t
        (missed_in s z lo at t over (omega (arith, b, over)) e)
    | inr within ↦ settled_still told gs here cron.meta.uid t (known t a within e)
  ]

  -- So are all, with it.
  covers_more : PutInterval cron.meta.uid (record { schedule = s; zone = z; from = from; upto = max lo at }) l m
      → Covers (is_settled told (gs ++ here)) m
  covers_more put = λ u x is t a b e. by u x t a b e (cron.meta.uid == u) refl (sym (put u) ∙ is)
    where
      by : (u : ℕ) (x : Interval) (t : ℕ) → x.from < t → t ≤ x.upto → due x.schedule x.zone t ≡ true
          → (b : Bool) → (cron.meta.uid == u) ≡ b
          → (if b then Some (record { schedule = s; zone = z; from = from; upto = max lo at }) else interval_at l u)
          ≡ Some x
          → is_settled told (gs ++ here) u t ≡ true
      by u x t a b e true same is =
          let n : ◌≡◌ {A = Interval} (record { schedule = s; zone = z; from = from; upto = max lo at }) x = cc is in
          subst (λ (v : ℕ). is_settled told (gs ++ here) v t ≡ true) (eqb-true cron.meta.uid u same)
          (both t (subst (λ (y : Interval). y.from < t) (sym n) a) (subst (λ (y : Interval). t ≤ y.upto) (sym n) b)
          (subst (λ (y : Interval). due y.schedule y.zone t ≡ true) (sym n) e))
      by u x t a b e false same is = settled_still told gs here u t (covers u x is t a b e)

  -- What is listed is what is counted and isn't settled.
  goes_on : (after : List Gap) → after ≡ gs ++ here
      → PutInterval cron.meta.uid (record { schedule = s; zone = z; from = from; upto = max lo at }) l m
      → GoesOn told (λ new. new ≡ gaps_with (is_settled told gs cron.meta.uid) cron why (missed_times s z from at)) gs
      after m
  goes_on after is put = record {
    adds = (
      here,
      among_later (is_settled told gs cron.meta.uid) cron why s z from lo at low known,
      is,
    );
    covers = subst (λ (x : List Gap). Covers (is_settled told x) m) (sym is) (covers_more put);
  }

-- For note_schedule: what is listed is what the plan counts and isn't settled.
pub goes_schedule : (told : Mark → Bool) (gs after : List Gap) (l m : Intervals) (cron c d : CronJob) (p : Planned)
    (s : Sets) (z y x w : Zone) (from lo at upto : ℕ) → c ≡ cron → d ≡ cron → y ≡ z → x ≡ z → w ≡ z
    → from ≡ last_scheduled d → at ≡ p.at → upto ≡ max lo at → from ≤ lo
    → (from < lo → IsLookedAt l c.meta.uid s y from lo)
    → after ≡ gs ++ gaps_among told gs cron p (missed_times s x lo p.at)
    → PutInterval c.meta.uid (record { schedule = s; zone = w; from = from; upto = upto }) l m
    → Covers (is_settled told gs) l
    → GoesOn told (λ new. new ≡ gaps_among told gs cron p (missed_times s z (last_scheduled cron) p.at)) gs after m
goes_schedule told gs after l m cron c d p s z y x w from lo at upto one two three four five begins moment end low
    seen is put covers =
    subst (λ (f : ℕ). GoesOn told (λ new. new ≡ gaps_among told gs cron p (missed_times s z f p.at)) gs after m)
    (begins ∙ ap last_scheduled two)
    (goes_on told gs l m cron (cause told cron p) s z from lo p.at low
    (λ k. subst (λ (o : CronJob). IsLookedAt l o.meta.uid s z from lo) one
    (subst (λ (o : Zone). IsLookedAt l c.meta.uid s o from lo) three (seen k)))
    covers after
    (is ∙ ap (λ (o : Zone). gs ++ gaps_among told gs cron p (missed_times s o lo p.at)) four)
    (subst
    (λ (o : CronJob). PutInterval o.meta.uid (record { schedule = s; zone = z; from = from; upto = max lo p.at }) l m) one
    (subst (λ (o : Zone). PutInterval c.meta.uid (record { schedule = s; zone = o; from = from; upto = max lo p.at }) l m)
    five
    (subst (λ (o : ℕ). PutInterval c.meta.uid (record { schedule = s; zone = w; from = from; upto = o }) l m)
    (end ∙ ap (λ (o : ℕ). max lo o) moment) put))))
