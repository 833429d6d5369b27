-- What is told of makings is what was made; so each time that a sync counted has one Job or one gap.
use Rattle.std.proofs.Common.{◌≡◌, ◌∙◌, inl, inr, ◌&&◌, ◌||◌, ℕ, suc, ◌+◌, ◌==◌, Bool, true, false, cond, if◌then◌else◌, List, [], ◌∷◌, length, filter, Option, Some, None, refl, sym, ap, subst}
use Rattle.std.specs.Prelude.{Result, Ok, Err}
use Rattle.std.specs.FinMap as map
use Rattle.std.specs.List.{list_any, AllByRecursion}
use Rattle.std.proofs.lemmas.Bool.{eqb-true}
use Rattle.cj_base.specs.declared.refusal.Refusal.{Refusal}
use Rattle.cj_base.specs.declared.refusal.Refusal.TheVariants as No
use Rattle.cj_types.specs.declared.cron.CronJob.{CronJob}
use Rattle.cj_store.specs.Content.{Content}
use Rattle.cj_decide.specs.Decision.{Planned}
use Rattle.cj_decide.specs.laws.Laws.{IsIn}
use Rattle.cj_calls.specs.Rows.{Told}
use Rattle.cj_calls.specs.declared.call.Call.{Call}
use Rattle.cj_calls.specs.declared.call.Call.TheVariants as Of
use Rattle.cj_calls.specs.declared.reply.Reply.{Reply}
use Rattle.cj_calls.specs.declared.reply.Reply.TheVariants as Say
use Rattle.cj_state.specs.Legal.{state_of}
use Rattle.cj_world_laws.specs.once.Once.{Claimed, claimed_under, claimed_of, claim_answered, claim_after, claim_of, makes_with, is_making, with_made, makes, IsNew, Once}
use Rattle.cj_world_laws.proofs.OnceLemmas.Whole.{both}
use Rattle.cj_history.specs.declared.gaps.gap.Gap.{Gap}
use Rattle.cj_history.specs.declared.gaps.mark.Deed.TheVariants.{Made}
use Rattle.cj_history.specs.declared.gaps.mark.Start.{Start}
use Rattle.cj_history.specs.declared.gaps.mark.Mark.{Mark}
use Rattle.cj_history.specs.gaps.Marks.{newer, claimed_for, start_in, last_claimed, claim_mark, making_mark, mark_of, says, is_told, has_job}
use Rattle.cj_history.specs.gaps.Gaps.{IsApart, AreApart}
use Rattle.cj_history.specs.gaps.Whole.{is_gap_of, jobs_for, gaps_for, MadeOrTold, ToldIsMade}
use Rattle.cj_history.specs.gaps.reading.Settled.{is_listed}
use Rattle.cj_history.specs.progress.Every.{times_of}
use Rattle.cj_history.specs.progress.Syncs.{is_for}
use Rattle.cj_history.proofs.GapsLemmas.Settled.{listed_is, of_which, left_true, right_true, true_both, eq_test}
use Rattle.cj_history.proofs.GapsLemmas.Whole.{AreAll, gap_jobless}

-- ---- claims

-- of which CronJob and which time it is
abbrev start_of : Claimed → Start
start_of m = record { uid = m.owner; time = m.time }

-- A claim under what stands is of the CronJob and the time.
under : (u t : ℕ) (r : Option CronJob) (m : Claimed) → claimed_under u t r ≡ Some m
    → ◌≡◌ {A = Option Start} (Some (record { uid = u; time = t })) (Some (start_of m))
under u t None m e = absurd (cc e)
under u t (Some cron) m e =
    let same : ◌≡◌ {A = Claimed} (record { owner = u; time = t; policy = cron.spec.policy }) m = cc e in
    ap (λ (x : Claimed). Some (start_of x)) same

-- What a plan's claim records is what it starts.
of_cron : (s : Content) (t : ℕ) (o : Option CronJob) (was : Option Start) (m : Claimed) → claimed_of s t o ≡ Some m
    → newer (claimed_for o t) was ≡ Some (start_of m)
of_cron s t None was m e = absurd (cc e)
of_cron s t (Some cron) was m e = under cron.meta.uid t (map.get s.crons cron.key) m e

-- After an answer to a Claim.
answered : (s : Content) (p : Planned) (a : Result Reply Refusal) (before : Option Claimed) (was : Option Start)
    → ((m : Claimed) → before ≡ Some m → was ≡ Some (start_of m)) → (m : Claimed)
    → claim_answered s p a before ≡ Some m
    → newer (start_in (Of.Claim p) a) was ≡ Some (start_of m)
answered s p (Ok (Say.Claimed (Some (t, v)))) before was k m e = of_cron s t p.cron was m e
answered s p (Ok reply) before was k m e = absurd (cc e)
answered s p (Err x) before was k m e = k m e

-- After an answer to any call.
after : (s : Content) (call : Call) (a : Result Reply Refusal) (before : Option Claimed) (was : Option Start)
    → ((m : Claimed) → before ≡ Some m → was ≡ Some (start_of m)) → (m : Claimed)
    → claim_after s call a before ≡ Some m
    → newer (start_in call a) was ≡ Some (start_of m)
after s (Of.Claim p) a before was k m e = answered s p a before was k m e
after s call a before was k m e = k m e

-- What is a caller's last accepted claim by the law is what it claimed last by what is told.
claim_start : (window : ℕ) (h : List Told) (w : ℕ) (m : Claimed) → claim_of window h w ≡ Some m
    → last_claimed h w ≡ Some (start_of m)
claim_start window [] w m e = absurd (cc e)
claim_start window (e ∷ h) w m is = by (claim_start window h w) (w == e.caller.number) refl is
  where
    by : ((n : Claimed) → claim_of window h w ≡ Some n → last_claimed h w ≡ Some (start_of n))
        → (b : Bool) → (w == e.caller.number) ≡ b
        → cond b (claim_after (state_of window h).store e.call e.answer (claim_of window h w)) (claim_of window h w)
        ≡ Some m
        → last_claimed (e ∷ h) w ≡ Some (start_of m)
    by rest true t f =
        ap (λ (b : Bool). newer (if b then start_in e.call e.answer else None) (last_claimed h w))
        (eq_test e.caller.number w (sym (eqb-true w e.caller.number t)))
        ∙ after (state_of window h).store e.call e.answer (claim_of window h w) (last_claimed h w)
        rest m f
    by rest false t f = other (e.caller.number == w) refl
      where
        other : (b : Bool) → (e.caller.number == w) ≡ b
            → newer (if b then start_in e.call e.answer else None) (last_claimed h w) ≡ Some (start_of m)
        other true n = let s = sym t ∙ eq_test w e.caller.number (sym (eqb-true e.caller.number w n)) in absurd (cc s)
        other false n = rest m f

-- ---- makings

module _ (u t : ℕ) where
  -- the mark that its Job was made
  abbrev mark : Mark
  mark = record { uid = u; time = t; deed = Made }

  and_true : (a b : Bool) → (a && (b && true)) ≡ (a && b)
  and_true true true = refl
  and_true true false = refl
  and_true false b = refl

  and_false : (a b : Bool) → (a && (b && false)) ≡ false
  and_false true true = refl
  and_false true false = refl
  and_false false b = refl

  -- What a claim tells is no making.
  claim_says : (o : Option Start) → says (newer (claim_mark o) None) mark ≡ false
  claim_says None = refl
  claim_says (Some s) = and_false (s.uid == u) (s.time == t)

  -- Nor is what a making tells that was refused since the name was taken.
  refused_says : (last : Option Start) → says (making_mark last Of.MakeNext (Err No.AlreadyExists)) mark ≡ false
  refused_says None = refl
  refused_says (Some s) = and_false (s.uid == u) (s.time == t)

  -- Nor another refusal.
  other_says : (last : Option Start) → says None mark ≡ false
  other_says last = refl

  -- An entry tells of a making just where one is made.
  entry_same : (call : Call) (a : Result Reply Refusal) (last : Option Start) (o : Option Claimed) (ms : List Claimed)
      → (makes_with call a ≡ true → (m : Claimed) × (o ≡ Some m) × (last ≡ Some (start_of m)))
      → (says (newer (claim_mark (start_in call a)) (making_mark last call a)) mark || list_any (is_for u t) ms)
      ≡ list_any (is_for u t) (with_made (makes_with call a) o ms)
  entry_same Of.MakeNext (Ok reply) last o ms rests =
      let c = rests refl in
      ap (λ (l : Option Start). says (making_mark l Of.MakeNext (Ok reply)) mark || list_any (is_for u t) ms) c.2
      ∙ ap (λ (b : Bool). b || list_any (is_for u t) ms) (and_true (c.0.owner == u) (c.0.time == t))
      ∙ ap (λ (x : Option Claimed). list_any (is_for u t) (with_made true x ms)) (sym c.1)
  entry_same Of.MakeNext (Err No.AlreadyExists) last o ms rests =
      ap (λ (b : Bool). b || list_any (is_for u t) ms) (refused_says last)
  entry_same Of.MakeNext (Err e) None o ms rests = refl
  entry_same Of.MakeNext (Err e) (Some s) o ms rests = refl
  entry_same (Of.Claim p) a None o ms rests =
      ap (λ (b : Bool). b || list_any (is_for u t) ms) (claim_says (start_in (Of.Claim p) a))
  entry_same (Of.Claim p) a (Some s) o ms rests =
      ap (λ (b : Bool). b || list_any (is_for u t) ms) (claim_says (start_in (Of.Claim p) a))
  entry_same call a None o ms rests = refl
  entry_same call a (Some s) o ms rests = refl

  -- Where each making rests on a claim, what is told is what was made.
  told_same : (window : ℕ) (h : List Told) → Once window h
      → has_job (is_told h) u t ≡ list_any (is_for u t) (makes window h)
  told_same window [] o = refl
  told_same window (e ∷ h) o =
      ap (λ (b : Bool). says (mark_of h e) mark || b) (told_same window h o.1)
      ∙ entry_same e.call e.answer (last_claimed h e.caller.number) (claim_of window h e.caller.number) (makes window h)
      (λ m. (let c = o.0 m in (c.0, c.1, claim_start window h e.caller.number c.0 c.1)))

  -- ---- how many

  -- A claim that tests as one of the CronJob and the time is one.
  is_claim_of : (x : Claimed) → is_for u t x ≡ true → (x.owner ≡ u) × (x.time ≡ t)
  is_claim_of x e = parts (x.owner == u) (x.time == t) e refl refl
    where
      parts : (a b : Bool) → (a && b) ≡ true → (x.owner == u) ≡ a → (x.time == t) ≡ b → (x.owner ≡ u) × (x.time ≡ t)
      parts true true e f g = (eqb-true x.owner u f, eqb-true x.time t g)
      parts true false e f g = absurd (cc e)
      parts false b e f g = absurd (cc e)

  -- Beside one of it a new one is none of it.
  none_new : (m : Claimed) (ms : List Claimed) → is_for u t m ≡ true → IsNew m ms
      → length (filter (is_for u t) ms) ≡ 0
  none_new m [] e n = refl
  none_new m (x ∷ ms) e n = by (is_for u t x) refl (none_new m ms e n.1)
    where
      by : (b : Bool) → is_for u t x ≡ b → length (filter (is_for u t) ms) ≡ 0
          → length (cond b (x ∷ filter (is_for u t) ms) (filter (is_for u t) ms)) ≡ 0
      by true f rest =
          let a = is_claim_of x f in let c = is_claim_of m e in absurd (n.0 (a.0 ∙ sym c.0) (a.1 ∙ sym c.1))
      by false f rest = rest

  -- each claim is new beside those that follow it
  abbrev AreNew : List Claimed → Type 0
  AreNew [] = Unit {0}
  AreNew (m ∷ ms) = IsNew m ms × AreNew ms

  -- Those that were made are.
  are_new : (window : ℕ) (h : List Told) → Once window h → AreNew (makes window h)
  are_new window [] o = tt
  are_new window (e ∷ h) o = by (are_new window h o.1) (is_making e) refl
    where
      by : AreNew (makes window h) → (b : Bool) → is_making e ≡ b
          → AreNew (with_made b (claim_of window h e.caller.number) (makes window h))
      by rest true k =
          let c = o.0 k in
          subst (λ (x : Option Claimed). AreNew (with_made true x (makes window h))) (sym c.1) (c.2, rest)
      by rest false k = rest

  -- So of each time there is one or none.
  one_or_none : (ms : List Claimed) → AreNew ms
      → length (filter (is_for u t) ms) ≡ cond (list_any (is_for u t) ms) 1 0
  one_or_none [] n = refl
  one_or_none (m ∷ ms) n = by (is_for u t m) refl (one_or_none ms n.1)
    where
      by : (b : Bool) → is_for u t m ≡ b
          → length (filter (is_for u t) ms) ≡ cond (list_any (is_for u t) ms) 1 0
          → length (cond b (m ∷ filter (is_for u t) ms) (filter (is_for u t) ms))
          ≡ cond (b || list_any (is_for u t) ms) 1 0
      by true e rest = ap suc (none_new m ms e n.0)
      by false e rest = rest

  -- Beside a gap of it one that is apart is none of it.
  none_apart : (g : Gap) (gs : List Gap) → is_gap_of u t g ≡ true → AllByRecursion (IsApart g) gs
      → length (filter (is_gap_of u t) gs) ≡ 0
  none_apart g [] e n = refl
  none_apart g (x ∷ gs) e n = by (is_gap_of u t x) refl (none_apart g gs e n.1)
    where
      by : (b : Bool) → is_gap_of u t x ≡ b → length (filter (is_gap_of u t) gs) ≡ 0
          → length (cond b (x ∷ filter (is_gap_of u t) gs) (filter (is_gap_of u t) gs)) ≡ 0
      by true f rest =
          let a = of_which u t x f in let c = of_which u t g e in absurd (n.0 (c.0 ∙ sym a.0) (c.1 ∙ sym a.1))
      by false f rest = rest

  -- So of each time there is one gap or none.
  one_gap_or_none : (gs : List Gap) → AreApart gs → gaps_for gs u t ≡ cond (is_listed gs u t) 1 0
  one_gap_or_none [] n = refl
  one_gap_or_none (g ∷ gs) n = by (is_gap_of u t g) refl (one_gap_or_none gs n.1)
    where
      by : (b : Bool) → is_gap_of u t g ≡ b
          → length (filter (is_gap_of u t) gs) ≡ cond (is_listed gs u t) 1 0
          → length (cond b (g ∷ filter (is_gap_of u t) gs) (filter (is_gap_of u t) gs))
          ≡ cond (b || is_listed gs u t) 1 0
      by true e rest = ap suc (none_apart g gs e n.0)
      by false e rest = rest

  -- ---- which times

  -- A claim of it is among the times made.
  any_in : (ms : List Claimed) → list_any (is_for u t) ms ≡ true → IsIn t (times_of u ms)
  any_in [] e = absurd (cc e)
  any_in (m ∷ ms) e = by (any_in ms) (m.owner == u) (m.time == t) refl refl e
    where
      by : (list_any (is_for u t) ms ≡ true → IsIn t (times_of u ms))
          → (a b : Bool) → (m.owner == u) ≡ a → (m.time == t) ≡ b → ((a && b) || list_any (is_for u t) ms) ≡ true
          → IsIn t (if a then m.time ∷ times_of u ms else times_of u ms)
      by rest true true f g k = inl (eqb-true m.time t g)
      by rest true false f g k = inr (rest k)
      by rest false b f g k = rest k

  -- And conversely.
  in_any : (ms : List Claimed) → IsIn t (times_of u ms) → list_any (is_for u t) ms ≡ true
  in_any [] i = absurd i
  in_any (m ∷ ms) i = by (in_any ms) (m.owner == u) refl i
    where
      by : (IsIn t (times_of u ms) → list_any (is_for u t) ms ≡ true)
          → (a : Bool) → (m.owner == u) ≡ a → IsIn t (if a then m.time ∷ times_of u ms else times_of u ms)
          → list_any (is_for u t) (m ∷ ms) ≡ true
      by rest true f (inl e) =
          left_true (is_for u t m) (list_any (is_for u t) ms)
          (true_both (m.owner == u) (m.time == t) f (eq_test m.time t e))
      by rest true f (inr k) = right_true (is_for u t m) (list_any (is_for u t) ms) (rest k)
      by rest false f k = right_true (is_for u t m) (list_any (is_for u t) ms) (rest k)

-- For made_or_told_law: in a legal history what is told is what was made.
pub told_is_made : ToldIsMade
told_is_made window h short l planned u t =
    let same = told_same u t window h (both window h short l planned).0 in (
      (λ e. any_in u t (makes window h) (sym same ∙ e)),
      (λ i. same ∙ in_any u t (makes window h) i),
    )

-- For gaps_of: each time that was counted has one Job or one gap.
pub made_or_told : (h : List Told) (gs : List Gap) → AreAll (is_told h) h gs → MadeOrTold h gs
made_or_told h gs a window short l planned u t counted =
    let once = (both window h short l planned).0 in
    let jobs : jobs_for window h u t ≡ cond (has_job (is_told h) u t) 1 0 =
    one_or_none u t (makes window h) (are_new u t window h once)
    ∙ ap (λ (b : Bool). cond b 1 0) (sym (told_same u t window h once)) in
    ap (λ (n : ℕ). n + gaps_for gs u t) jobs
    ∙ ap (λ (n : ℕ). cond (has_job (is_told h) u t) 1 0 + n) (one_gap_or_none u t gs a.apart)
    ∙ by (has_job (is_told h) u t) (is_listed gs u t) refl refl (a.settled u t counted)
  where
    by : (b c : Bool) → has_job (is_told h) u t ≡ b → is_listed gs u t ≡ c → (b || c) ≡ true
        → cond b 1 0 + cond c 1 0 ≡ 1
    by true true e f k =
        let g = listed_is gs u t f in
        let no = gap_jobless (is_told h) h g.0 (a.is g.0 g.1) in
        let yes = ap (λ (x : ℕ). has_job (is_told h) x g.0.time) g.2
        ∙ ap (λ (x : ℕ). has_job (is_told h) u x) g.3 ∙ e in
        let s = sym no ∙ yes in
        absurd (cc s)
    by true false e f k = refl
    by false true e f k = refl
    by false false e f k = absurd (cc k)
