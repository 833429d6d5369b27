-- The gaps that are listed are just the gaps of the history, each once and in their order.
use Rattle.std.proofs.Common.{◌≡◌, ◌∙◌, inl, inr, ◌⊎◌, ℕ, ◌<◌, Bool, true, false, List, [], ◌∷◌, ◌++◌, Option, Some, None, refl, sym, ap, subst, arith}
use Rattle.std.specs.Prelude.{◌==◌, Ok}
use Rattle.std.specs.List.{AllByRecursion}
use Rattle.std.proofs.lemmas.Bool.Decides.{nat_tests}
use Rattle.cj_types.specs.declared.cron.CronJob.{CronJob}
use Rattle.cj_schedule.specs.Matches.{Sets}
use Rattle.cj_schedule.specs.Grammar.{IsSchedule}
use Rattle.cj_schedule.proofs.Laws.{only_by, lists_complete}
use Rattle.cj_zone.specs.declared.zone.Zone.{Zone}
use Rattle.cj_due.specs.Due.{due, missed_times}
use Rattle.cj_decide.specs.Decision.{Planned}
use Rattle.cj_decide.specs.laws.Laws.{IsIn}
use Rattle.cj_decide.proofs.LawsLemmas.Members.{in_left, in_parts}
use Rattle.cj_calls.specs.Rows.{Told}
use Rattle.cj_history.specs.declared.gaps.gap.Gap.{Gap}
use Rattle.cj_history.specs.declared.gaps.mark.Mark.{Mark}
use Rattle.cj_history.specs.declared.gaps.marks.Marks.{Marks}
use Rattle.cj_history.specs.declared.gaps.intervals.Intervals.{Intervals}
use Rattle.cj_history.specs.gaps.Marks.{has_job, is_told}
use Rattle.cj_history.specs.gaps.Syncs.{plan_in, last_scheduled, IsMissed, Counts, CountedAt, CountedIn}
use Rattle.cj_history.specs.gaps.Causes.{cause}
use Rattle.cj_history.specs.gaps.Gaps.{IsGapAt, IsGapIn, IsApart, AreApart, Rise, InOrder, AreGaps}
use Rattle.cj_history.specs.gaps.reading.Goes.{Goes}
use Rattle.cj_history.specs.gaps.reading.Known.{has, Knows}
use Rattle.cj_history.specs.gaps.reading.Listed.{gap_by, gaps_with, gaps_among, GapsFrom, GapsBy, GapsOf, AreListed, GoesOn}
use Rattle.cj_history.specs.gaps.reading.Settled.{is_listed, is_settled}
use Rattle.cj_history.specs.gaps.reading.Intervals.{Covers}
use Rattle.cj_history.proofs.GapsLemmas.Settled.{both_false, false_both, listed_is, is_there, settled_still, settled_new}
use Rattle.cj_history.proofs.GapsLemmas.Among.{in_right, all_in, in_missed, missed_in, among_is, is_among, among_rises, missed_rises}

-- A text is a schedule with one value of Sets at most.
pub one_schedule : (text : List ℕ) (s t : Sets) → IsSchedule text s → IsSchedule text t → s ≡ t
one_schedule text s t h k =
    let same = only_by text (Ok s) t (h.lists, lists_complete text h.lists h.short h.fields, h.sets) k in
    cc

-- A number tests as equal to itself.
pub same_nat : (u : ℕ) → (u == u) ≡ true
same_nat u = grind (arith, nat_tests)

-- ---- gaps apart

-- Gaps whose times rise are apart.
rise_apart : (gs : List Gap) → Rise gs → AreApart gs
rise_apart [] r = tt
rise_apart (g ∷ gs) r = (all gs r.0, rise_apart gs r.1)
  where
    all : (l : List Gap) → AllByRecursion (λ b. g.time < b.time) l → AllByRecursion (IsApart g) l
    all [] k = tt
    all (x ∷ l) k = let a = k.0 in ((λ same at. absurd (omega (arith, a, at))), all l k.1)

-- Of two lists that are apart from one another, each of which is apart, all are.
apart_append : (xs ys : List Gap) → AreApart xs → AreApart ys
    → ((a b : Gap) → IsIn a xs → IsIn b ys → IsApart a b) → AreApart (xs ++ ys)
apart_append [] ys a b h = b
apart_append (x ∷ xs) ys a b h = (
  all_in (IsApart x) (xs ++ ys) (λ g k. by g (in_parts g xs ys k)),
  apart_append xs ys a.1 b (λ c d i j. h c d (inr i) j),
)
  where
    old : (g : Gap) (l : List Gap) → AllByRecursion (IsApart x) l → IsIn g l → IsApart x g
    old g [] r i = absurd i
    old g (y ∷ l) r (inl e) = λ same at.
        r.0 (same ∙ ap (λ (z : Gap). z.cron.meta.uid) (sym e)) (at ∙ ap (λ (z : Gap). z.time) (sym e))
    old g (y ∷ l) r (inr i) = old g l r.1 i

    by : (g : Gap) → IsIn g xs ⊎ IsIn g ys → IsApart x g
    by g (inl i) = old g xs a.0 i
    by g (inr i) = h x g (inl refl) i

module _ (told : Mark → Bool) where
  -- ---- gaps and counted times

  -- The time of a gap is counted.
  pub gap_counted : (h : List Told) (g : Gap) → IsGapIn told h g → CountedIn h g.cron.meta.uid g.time
  gap_counted [] g k = absurd k
  gap_counted (e ∷ h) g (inl a) = inl (record {
    plan = a.plan;
    sync = a.sync;
    cron = g.cron;
    stands = a.stands;
    uid = refl;
    counts = a.counts;
  })
  gap_counted (e ∷ h) g (inr k) = inr (gap_counted h g k)

  -- It got no Job.
  pub gap_jobless : (h : List Told) (g : Gap) → IsGapIn told h g → has_job told g.cron.meta.uid g.time ≡ false
  gap_jobless [] g k = absurd k
  gap_jobless (e ∷ h) g (inl a) = a.jobless
  gap_jobless (e ∷ h) g (inr k) = gap_jobless h g k

  -- ---- the gaps at an entry

  -- after these entries and their gaps: those that are listed are the gaps at the entry, none of which was listed; and
  -- each time that it counts is settled with them
  pub record AreHere (h : List Told) (gs : List Gap) (e : Told) (new : List Gap) : Type 0 where
    pub is : (g : Gap) → IsIn g new
        → ((first : CountedIn h g.cron.meta.uid g.time → ⊥) → IsGapAt told h e g)
        × (is_settled told gs g.cron.meta.uid g.time ≡ false)
    pub all : (g : Gap) → IsGapAt told h e g → is_settled told gs g.cron.meta.uid g.time ≡ false → IsIn g new
    pub settles : (u t : ℕ) → CountedAt e u t → is_settled told (gs ++ new) u t ≡ true
    pub rise : Rise new

  -- Where the entry counts nothing, none are listed.
  none_here : (h : List Told) (gs : List Gap) (e : Told) (new : List Gap) → new ≡ []
      → ((u t : ℕ) → CountedAt e u t → ⊥)
      → AreHere h gs e new
  none_here h gs e new none k = record {
    is = λ g i. absurd (subst (IsIn g) none i);
    all = λ g a f. absurd (k g.cron.meta.uid g.time (record {
      plan = a.plan;
      sync = a.sync;
      cron = g.cron;
      stands = a.stands;
      uid = refl;
      counts = a.counts;
    }));
    settles = λ u t c. absurd (k u t c);
    rise = subst Rise (sym none) tt;
  }

  module _ (h : List Told) (gs : List Gap) (e : Told) (p : Planned) (sync : plan_in e.call e.answer ≡ Some p)
      (new : List Gap) where
    module _ (c : CronJob) (z : Zone) (stands : p.cron ≡ Some c) (known : p.zone ≡ Some z) where
      -- What another plan of the entry counts for another CronJob, this one does for its own.
      pub one_count : (q : Planned) (d : CronJob) (t : ℕ) → plan_in e.call e.answer ≡ Some q → q.cron ≡ Some d
          → Counts d q t
          → (q ≡ p) × (d ≡ c) × IsMissed c z p.at t
      one_count q d t f s k =
          let same : q ≡ p = (let o : Some q ≡ Some p = sym f ∙ sync in cc) in
          let cron : d ≡ c = (let o : Some d ≡ Some c = sym s ∙ ap (λ (x : Planned). x.cron) same ∙ stands in cc) in
          let zone : k.zone ≡ z =
          (let o : Some k.zone ≡ Some z = sym k.known ∙ ap (λ (x : Planned). x.zone) same ∙ known in cc) in (
            same,
            cron,
            subst (λ (x : Planned). IsMissed c z x.at t) same
                (subst (λ (x : CronJob). IsMissed x z q.at t) cron
                (subst (λ (x : Zone). IsMissed d x q.at t) zone k.missed)),
          )

      -- Where the CronJob's schedule is read, those among the times missed that weren't settled.
      read_here : (s : Sets) → IsSchedule c.spec.schedule s
          → new ≡ gaps_among told gs c p (missed_times s z (last_scheduled c) p.at) → AreHere h gs e new
      read_here s reads are = record {
        is = to;
        all = back;
        settles = settles;
        rise = subst Rise (sym are) (among_rises had c (cause told c p) times
            (missed_rises s z (last_scheduled c) p.at));
      }
        where
          had : ℕ → Bool
          had = is_settled told gs c.meta.uid

          times : List ℕ
          times = missed_times s z (last_scheduled c) p.at

          -- a time that was missed is one of these
          there : (t : ℕ) → IsMissed c z p.at t → IsIn t times
          there t m = missed_in s z (last_scheduled c) p.at t m.above m.within
              (subst (λ (x : Sets). due x z t ≡ true)
              (one_schedule c.spec.schedule m.schedule s m.reads reads) m.is_due)

          to : (g : Gap) → IsIn g new
              → ((first : CountedIn h g.cron.meta.uid g.time → ⊥) → IsGapAt told h e g)
              × (is_settled told gs g.cron.meta.uid g.time ≡ false)
          to g i =
              let r = among_is had c (cause told c p) times g (subst (IsIn g) are i) in
              let q = in_missed s z (last_scheduled c) p.at g.time r.0 in
              let cron : c ≡ g.cron = ap (λ (x : Gap). x.cron) r.2 in
              let missed : IsMissed c z p.at g.time = record {
                schedule = s;
                reads = reads;
                is_due = q.2;
                above = q.0;
                within = q.1;
              } in
              let counts : Counts c p g.time = record { zone = z; known = known; missed = missed } in (
                (λ first. record {
                  plan = p;
                  sync = sync;
                  stands = stands ∙ ap (λ (x : CronJob). Some x) cron;
                  counts = subst (λ (x : CronJob). Counts x p g.time) cron counts;
                  first = first;
                  jobless = subst (λ (x : CronJob). has_job told x.meta.uid g.time ≡ false) cron
                      (both_false (has_job told c.meta.uid g.time) (is_listed gs c.meta.uid g.time) r.1).0;
                  why = sym (ap (λ (x : Gap). x.why) r.2) ∙ ap (λ (x : CronJob). cause told x p g.time) cron;
                }),
                subst (λ (x : CronJob). is_settled told gs x.meta.uid g.time ≡ false) cron r.1,
              )

          back : (g : Gap) → IsGapAt told h e g → is_settled told gs g.cron.meta.uid g.time ≡ false → IsIn g new
          back g a f =
              let k = one_count a.plan g.cron g.time a.sync a.stands a.counts in
              let cron : c ≡ g.cron = sym k.1 in
              let why : cause told c p g.time ≡ g.why =
              ap (λ (x : CronJob). cause told x p g.time) cron
              ∙ ap (λ (x : Planned). cause told g.cron x g.time) (sym k.0) ∙ sym a.why in
              let one : gap_by c (cause told c p) g.time ≡ g =
              λ i. record { cron = cron i; time = g.time; why = why i } in
              subst (IsIn g) (sym are)
              (subst (λ (x : Gap). IsIn x (gaps_with had c (cause told c p) times)) one
              (is_among had c (cause told c p) times g.time (there g.time k.2)
              (subst (λ (x : CronJob). is_settled told gs x.meta.uid g.time ≡ false) (sym cron) f)))

          settles : (u t : ℕ) → CountedAt e u t → is_settled told (gs ++ new) u t ≡ true
          settles u t a =
              let k = one_count a.plan a.cron t a.sync a.stands a.counts in
              let uid : c.meta.uid ≡ u = ap (λ (x : CronJob). x.meta.uid) (sym k.1) ∙ a.uid in
              subst (λ (x : ℕ). is_settled told (gs ++ new) x t ≡ true) uid
              (by (there t k.2) (had t) refl)
            where
              by : IsIn t times → (b : Bool) → had t ≡ b → is_settled told (gs ++ new) c.meta.uid t ≡ true
              by i true f = settled_still told gs new c.meta.uid t f
              by i false f =
                  settled_new told gs new c.meta.uid t
                  (is_there new (gap_by c (cause told c p) t) c.meta.uid t
                  (subst (IsIn (gap_by c (cause told c p) t)) (sym are)
                  (is_among had c (cause told c p) times t i f)) refl refl)

      -- Where its text isn't a schedule, none.
      text_here : GapsFrom told gs c p z new → AreHere h gs e new
      text_here (inl (s, reads, are)) = read_here s reads are
      text_here (inr (none, is)) = none_here h gs e new is (λ u t a.
          (let m = (one_count a.plan a.cron t a.sync a.stands a.counts).2 in none m.schedule m.reads))

    -- Without a CronJob or a zone, none.
    by_here : (c : Option CronJob) (z : Option Zone) → p.cron ≡ c → p.zone ≡ z → GapsBy told gs p c z new
        → AreHere h gs e new
    by_here None z a b k = none_here h gs e new k (λ u t x.
        (let o : Some x.plan ≡ Some p = sym x.sync ∙ sync in
        let same : x.plan ≡ p = cc o in
        let f : None ≡ Some x.cron = sym a ∙ ap (λ (y : Planned). y.cron) (sym same) ∙ x.stands in absurd (cc f)))
    by_here (Some c) None a b k = none_here h gs e new k (λ u t x.
        (let o : Some x.plan ≡ Some p = sym x.sync ∙ sync in
        let same : x.plan ≡ p = cc o in
        let f : None ≡ Some x.counts.zone = sym b ∙ ap (λ (y : Planned). y.zone) (sym same)
        ∙ x.counts.known in absurd (cc f)))
    by_here (Some c) (Some z) a b k = text_here c z a b k

  -- Of an entry that isn't an accepted claim, none.
  of_here : (h : List Told) (gs : List Gap) (e : Told) (new : List Gap) (o : Option Planned)
      → plan_in e.call e.answer ≡ o → GapsOf told gs o new → AreHere h gs e new
  of_here h gs e new None sync k = none_here h gs e new k (λ u t x.
      (let f : None ≡ Some x.plan = sym sync ∙ x.sync in absurd (cc f)))
  of_here h gs e new (Some p) sync k = by_here h gs e p sync new p.cron p.zone refl refl k

  -- ---- the gaps of all entries

  -- those that are listed are just these, each once, in their order; and each time that was counted is settled
  pub record AreAll (h : List Told) (gs : List Gap) : Type 0 where
    pub is : (g : Gap) → IsIn g gs → IsGapIn told h g
    pub all : (g : Gap) → IsGapIn told h g → IsIn g gs
    pub settled : (u t : ℕ) → CountedIn h u t → is_settled told gs u t ≡ true
    pub apart : AreApart gs
    pub order : InOrder told h gs

  -- A time that isn't settled isn't counted.
  pub open_first : (h : List Told) (gs : List Gap) → AreAll h gs → (u t : ℕ) → is_settled told gs u t ≡ false
      → CountedIn h u t
      → ⊥
  open_first h gs a u t f c = let s = sym f ∙ a.settled u t c in absurd (cc s)

  -- And one that isn't counted, and got no Job, isn't settled.
  pub first_open : (h : List Told) (gs : List Gap) → AreAll h gs → (u t : ℕ) → has_job told u t ≡ false
      → (CountedIn h u t → ⊥) → is_settled told gs u t ≡ false
  first_open h gs a u t f c = false_both (has_job told u t) (is_listed gs u t) f (by (is_listed gs u t) refl)
    where
      by : (b : Bool) → is_listed gs u t ≡ b → b ≡ false
      by true e =
          let l = listed_is gs u t e in
          absurd (c (subst (λ (v : ℕ). CountedIn h v t) l.2
          (subst (λ (v : ℕ). CountedIn h l.0.cron.meta.uid v) l.3 (gap_counted h l.0 (a.is l.0 l.1)))))
      by false e = refl

  -- Those that are listed are the gaps, by induction over the entries.
  pub all_listed : (h : List Told) (gs : List Gap) → AreListed told h gs → AreAll h gs
  all_listed [] gs none = record {
    is = λ g i. subst (IsIn g) none i;
    all = λ g k. absurd k;
    settled = λ u t k. absurd k;
    apart = subst AreApart (sym none) tt;
    order = none;
  }
  all_listed (e ∷ h) gs (old, new, before, at, are) = with_more (all_listed h old before)
      (of_here h old e new (plan_in e.call e.answer) refl at)
    where
      with_more : AreAll h old → AreHere h old e new → AreAll (e ∷ h) gs
      with_more b n = record {
        is = λ g i. (elim (in_parts g old new (subst (IsIn g) are i))
            [ inl k ↦ inr (b.is g k) | inr k ↦ inl (here g k) ]);
        all = λ g k. subst (IsIn g) (sym are) (elim k [
          | inl a ↦ in_right g old new (n.all g a (first_open h old b g.cron.meta.uid g.time a.jobless a.first))
          | inr a ↦ in_left g old new (b.all g a)
        ]);
        settled = λ u t k. subst (λ (l : List Gap). is_settled told l u t ≡ true) (sym are) (elim k [
          | inl a ↦ n.settles u t a
          | inr a ↦ settled_still told old new u t (b.settled u t a)
        ]);
        apart = subst AreApart (sym are) (apart_append old new b.apart (rise_apart new n.rise) apart);
        order = (old, new, b.order, record { are = here; rise = n.rise }, are);
      }
        where
          here : (g : Gap) → IsIn g new → IsGapAt told h e g
          here g k = let r = n.is g k in r.0 (open_first h old b g.cron.meta.uid g.time r.1)

          apart : (x y : Gap) → IsIn x old → IsIn y new → IsApart x y
          apart x y i j = λ same at.
              (let f = (both_false (has_job told y.cron.meta.uid y.time) (is_listed old y.cron.meta.uid y.time)
              (n.is y j).1).1 in
              let k = is_there old x y.cron.meta.uid y.time i same at in
              let s = sym f ∙ k in absurd (cc s))

-- So are those that are listed with what is known of the history.
pub just_gaps : (t : Marks) (h : List Told) (gs : List Gap) → Knows t h → AreListed (has t) h gs
    → AreAll (is_told h) h gs
just_gaps t h gs knows are =
    let same : has t ≡ is_told h = λ i. λ m. knows.told m i in
    all_listed (is_told h) h gs (subst (λ (f : Mark → Bool). AreListed f h gs) same are)

-- For gaps_of: in the words of its clause.
pub are_gaps : (h : List Told) (gs : List Gap) → AreAll (is_told h) h gs → AreGaps h gs
are_gaps h gs a = record { exact = λ g. (a.is g, a.all g); apart = a.apart; order = a.order }

-- ---- an entry more

-- For note_entry: after an accepted claim, with the gaps at it.
pub goes_with : (told : Mark → Bool) (e : Told) (p : Planned) (l m : Intervals) (gs after : List Gap)
    → Some p ≡ plan_in e.call e.answer
    → (Covers (is_settled told gs) l → GoesOn told (GapsBy told gs p p.cron p.zone) gs after m)
    → (h : List Told) → Goes told h l gs → Goes told (e ∷ h) m after
goes_with told e p l m gs after sync goes h before =
    let on = goes before.covers in
    record {
      covers = on.covers;
      gaps = (
        gs,
        on.adds.0,
        before.gaps,
        subst (λ (o : Option Planned). GapsOf told gs o on.adds.0) sync on.adds.1,
        on.adds.2,
      );
    }

-- For note_entry: an entry that isn't an accepted claim.
pub goes_without : (told : Mark → Bool) (e : Told) (l : Intervals) (gs : List Gap) → None ≡ plan_in e.call e.answer
    → (h : List Told) → Goes told h l gs → Goes told (e ∷ h) l gs
goes_without told e l gs sync h g = record {
  covers = g.covers;
  gaps = (
    gs,
    [],
    g.gaps,
    subst (λ (o : Option Planned). GapsOf told gs o []) sync refl,
    sym (append_nil gs),
  );
}
  where
    append_nil : (xs : List Gap) → xs ++ [] ≡ xs
    append_nil [] = refl
    append_nil (x ∷ xs) = ap (λ (l : List Gap). x ∷ l) (append_nil xs)
