-- Who holds a key: the look-back of the key and that of the caller agree, so no key is in two
-- hands.
use Rattle.std.proofs.Common.{◌≡◌, ℕ, ◌==◌, Bool, true, false, cond, not, ◌&&◌, List, ◌∷◌, Option, Some, None, is_some, refl, sym, ap, ◌∙◌, arith}
use Rattle.std.specs.Prelude.{Result, Ok, Err, if◌then◌else◌}
use Rattle.std.proofs.lemmas.Bool.{eqb-true}
use Rattle.std.proofs.lemmas.Bool.Decides.{nat_tests}
use Rattle.cj_base.specs.declared.refusal.Refusal.{Refusal}
use Rattle.cj_types.specs.Keys.{Place}
use Rattle.cj_queue.specs.Parts.{key_eq}
use Rattle.cj_queue.proofs.Sets.{eq_true}
use Rattle.cj_calls.specs.declared.call.Call.{Call}
use Rattle.cj_calls.specs.declared.call.Call.TheVariants as Of
use Rattle.cj_calls.specs.declared.end.End.TheVariants.{Well, Again}
use Rattle.cj_calls.specs.declared.reply.Reply.{Reply}
use Rattle.cj_calls.specs.declared.reply.Reply.TheVariants as Is
use Rattle.cj_calls.specs.Rows.{Told}
use Rattle.cj_state.specs.declared.phases.sync.Phase.{Phase}
use Rattle.cj_state.specs.declared.phases.sync.InFlight.{InFlight}
use Rattle.cj_world_laws.specs.legal.InFlightSyncs.{sync, sync_after, accepted, at_phase, on}
use Rattle.cj_history.specs.queue.Deeds.{Deed, adds, ticks, takes, ends, fails, shuts, nothing, deed}
use Rattle.cj_history.specs.queue.LookBacks.{is_take, is_finish, is_by}
use Rattle.cj_history.specs.queue.Calls.{sits}
use Rattle.cj_history.proofs.QueueLemmas.Turns.{key_of}

abbrev pub holds : Option Place → Place → Bool
holds None k = false
holds (Some s) k = key_eq k s

abbrev pub holder_after : Deed → ℕ → Place → Option ℕ → Option ℕ
holder_after d v k o = cond (is_take d k) (Some v) (cond (is_finish d && is_by o v) None o)

abbrev pub MayTake : Deed → Option Place → (Place → Option ℕ) → Type 0
MayTake (takes j) s o = (s ≡ None) × (o j ≡ None)
MayTake _ s o = Unit {0}

-- For tie_step, a take of a key that nobody holds by a caller without a key: the two still agree.
tie_took : (a b : Bool) (v w : ℕ) (j k : Place) (o : Option ℕ) (s : Option Place) → key_eq k j ≡ a → (v == w) ≡ b
    → is_by o w ≡ holds s k → (a ≡ true → o ≡ None) → (b ≡ true → s ≡ None)
    → is_by (cond a (Some v) o) w ≡ holds (cond b (Some j) s) k
tie_took true true v w j k o s p q t free idle = q ∙ sym p
tie_took true false v w j k o s p q t free idle = q ∙ ap (λ (x : Option ℕ). is_by x w) (sym (free refl)) ∙ t
tie_took false true v w j k o s p q t free idle = t ∙ ap (λ (x : Option Place). holds x k) (idle refl) ∙ sym p
tie_took false false v w j k o s p q t free idle = t

-- For tie_step, an end, after which its caller's key is free and the caller without: the two agree.
tie_finished : (a b : Bool) (v w : ℕ) (k : Place) (o : Option ℕ) (s : Option Place) → is_by o v ≡ a → (v == w) ≡ b
    → is_by o w ≡ holds s k → is_by (cond a None o) w ≡ holds (cond b None s) k
tie_finished true true v w k o s p q t = refl
tie_finished true false v w k None s p q t = cc (p)
tie_finished true false v w k (Some u) s p q t = sym q ∙ ap (λ x. x == w) (sym (eqb-true u v p)) ∙ t
tie_finished false true v w k None s p q t = refl
tie_finished false true v w k (Some u) s p q t = ap (λ x. u == x) (sym (eqb-true v w q)) ∙ p
tie_finished false false v w k o s p q t = t

-- For tie_step: a caller whose key stays as it is holds just what it held.
tie_other : (b : Bool) (s : Option Place) (k : Place) → holds (cond b s s) k ≡ holds s k
tie_other true s k = refl
tie_other false s k = refl

-- After any deed a caller is the holder of a key just where it is the key that the caller holds.
pub tie_step : (d : Deed) (v w : ℕ) (k : Place) (o : Place → Option ℕ) (s : ℕ → Option Place)
    → ((j : Place) (u : ℕ) → is_by (o j) u ≡ holds (s u) j) → MayTake d (s v) o
    → is_by (holder_after d v k (o k)) w ≡ holds (cond (v == w) (sits d (s w)) (s w)) k
tie_step (takes j) v w k o s t may =
    tie_took (key_eq k j) (v == w) v w j k (o k) (s w) refl refl (t k w)
    (λ is. ap o (eq_true k j is) ∙ may.1)
    (λ is. ap s (sym (eqb-true v w is)) ∙ may.0)
tie_step (ends n) v w k o s t may = tie_finished (is_by (o k) v) (v == w) v w k (o k) (s w) refl refl (t k w)
tie_step (fails n) v w k o s t may = tie_finished (is_by (o k) v) (v == w) v w k (o k) (s w) refl refl (t k w)
tie_step (adds j) v w k o s t may = t k w ∙ sym (tie_other (v == w) (s w) k)
tie_step (ticks n) v w k o s t may = t k w ∙ sym (tie_other (v == w) (s w) k)
tie_step shuts v w k o s t may = t k w ∙ sym (tie_other (v == w) (s w) k)
tie_step nothing v w k o s t may = t k w ∙ sym (tie_other (v == w) (s w) k)

-- A key that is dirty but not held, as those in the line are, has no holder.
pub free : (d : Bool) (o : Option ℕ) → (d && not (is_some o)) ≡ true → o ≡ None
free true None e = refl
free true (Some v) e = cc (e)
free false o e = cc (e)

-- ---- syncs and the keys that they have

-- A sync that is put at a given phase keeps its key.
phase_key : (o : Option InFlight) (p : Phase) → key_of (at_phase o p) ≡ key_of o
phase_key None p = refl
phase_key (Some s) p = refl

-- A sync whose phase is made from the one before keeps its key.
on_key : (f : Phase → Phase) (o : Option InFlight) → key_of (on f o) ≡ key_of o
on_key f None = refl
on_key f (Some s) = refl

-- An accepted call leaves its caller's sync the key that its deed says.
claimed_key : (o : Option InFlight) (call : Call) (r : Reply) → key_of (accepted o call r)
    ≡ sits (deed o call (Ok r)) (key_of o)
claimed_key o (Of.Add k) Is.Done = refl
claimed_key o (Of.Tick now) Is.Done = refl
claimed_key o Of.Shut Is.Done = refl
claimed_key o Of.Take (Is.Key k) = refl
claimed_key o Of.SeeCron (Is.SeenCron c) = phase_key o _
claimed_key o Of.SeeJobs (Is.SeenJobs js) = on_key _ o
claimed_key o Of.SeeActive (Is.SeenActive ks) = on_key _ o
claimed_key o (Of.Claim p) (Is.Claimed None) = phase_key o _
claimed_key o (Of.Claim p) (Is.Claimed (Some c)) = phase_key o _
claimed_key o Of.DropNext (Is.Dropped d) = on_key _ o
claimed_key o Of.MakeNext (Is.Job j) = on_key _ o
claimed_key o Of.SetStatus (Is.Version v) = on_key _ o
claimed_key o (Of.Finish Well rs) Is.Done = refl
claimed_key o (Of.Finish (Again now) rs) Is.Done = refl
claimed_key o call r = refl

-- Any call, accepted or refused, leaves its caller's sync the key that its deed says.
after_key : (o : Option InFlight) (call : Call) (a : Result Reply Refusal) → key_of (sync_after o call a)
    ≡ sits (deed o call a) (key_of o)
after_key o call (Ok r) = claimed_key o call r
after_key o call (Err e) = refl

-- the key that a worker holds after an entry
key_case : (b : Bool) (v w : ℕ) (h : List Told) (call : Call) (a : Result Reply Refusal) → (b ≡ true → v ≡ w)
    → key_of (if b then sync_after (sync h w) call a else sync h w) ≡ cond b
    (sits (deed (sync h v) call a) (key_of (sync h w))) (key_of (sync h w))
key_case true v w h call a e = after_key (sync h w) call a ∙ ap (λ u. sits (deed (sync h u) call a) (key_of (sync h w)))
    (sym (e refl))
key_case false v w h call a e = refl

-- It makes no difference which of two numbers is compared with the other.
same_number : (v w : ℕ) → (w == v) ≡ (v == w)
same_number v w = grind (arith, nat_tests)

-- One entry more leaves the caller's sync the key that its deed says, and each other sync its own.
pub next_key : (e : Told) (h : List Told) (w : ℕ)
    → key_of (sync (e ∷ h) w) ≡ cond (e.caller.number == w)
    (sits (deed (sync h e.caller.number) e.call e.answer) (key_of (sync h w))) (key_of (sync h w))
next_key e h w =
    ap (λ b. key_of (if b then sync_after (sync h w) e.call e.answer else sync h w)) (same_number e.caller.number w)
    ∙ key_case (e.caller.number == w) e.caller.number w h e.call e.answer (eqb-true e.caller.number w)
