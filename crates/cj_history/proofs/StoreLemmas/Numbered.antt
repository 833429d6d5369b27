-- Each write has the number after the last, and each new object a uid that is above all before.
use Rattle.std.proofs.Common.{◌≡◌, ◌+◌, ◌<◌, ◌≤◌, List, [], ◌∷◌, ◌++◌, reverse, refl, sym, subst, arith}
use Rattle.std.specs.Prelude.{Option, Some, None, IfSome, option_map, Result, Ok, Err}
use Rattle.std.proofs.lemmas.List.{reverse-append, length-reverse}
use Rattle.cj_base.specs.declared.refusal.Refusal.{Refusal}
use Rattle.cj_types.specs.Keys.{Place}
use Rattle.cj_types.specs.Events.{object_version, version_of}
use Rattle.cj_types.specs.declared.event.Object.{Object}
use Rattle.cj_types.specs.declared.event.Event.{Event}
use Rattle.cj_types.specs.declared.event.Event.TheVariants.{Added, Modified, Deleted}
use Rattle.cj_decide.specs.Decision.{Planned}
use Rattle.cj_decide.specs.declared.start.Claim.{Claim}
use Rattle.cj_calls.specs.declared.call.Call.{Call}
use Rattle.cj_calls.specs.declared.call.Call.TheVariants as Of
use Rattle.cj_calls.specs.declared.reply.Reply.{Reply}
use Rattle.cj_calls.specs.declared.reply.Reply.TheVariants as Is
use Rattle.cj_calls.specs.Rows.{Told}
use Rattle.cj_state.specs.phases.Steps.{Step, drops, makes, sets, step_at}
use Rattle.cj_state.specs.declared.phases.sync.Phase.{Phase}
use Rattle.cj_state.specs.declared.phases.sync.Phase.TheVariants.{Held, Seen, Listed, Checked, Works}
use Rattle.cj_state.specs.declared.phases.sync.InFlight.{InFlight}
use Rattle.cj_watch.specs.Numbers.{IsNumbered}
use Rattle.cj_watch.proofs.Numbered.{numbered_snoc}
use Rattle.cj_history.specs.store.Written.{version, made, current_cron, current_job}
use Rattle.cj_history.specs.store.Writes.{claimed, stepped, stepped_in, stepped_by, written_by, entry_written, with_write, writes}
use Rattle.cj_history.specs.store.Numbers.{uid_of, NumbersLaw, UidLaw}
use Rattle.cj_world_laws.specs.legal.InFlightSyncs.{sync}

abbrev pub Right : List Event → Event → Type 0
Right ws (Added o) = (object_version o ≡ version ws + 1) × (uid_of o ≡ made ws + 1)
Right ws (Modified o) = object_version o ≡ version ws + 1
Right ws (Deleted o) = object_version o ≡ version ws + 1

-- What is written of an object, if there is one, has the next numbers if it has them for any.
mapped : {X : Type 0} (ws : List Event) (f : X → Event) (o : Option X) → ((x : X) → Right ws (f x))
    → IfSome (option_map f o) (Right ws)
mapped ws f None h = tt
mapped ws f (Some x) h = h x

-- What a claim writes has the next version.
claim_right : (ws : List Event) (o : Option InFlight) (c : Option Claim) → IfSome (claimed ws o c) (Right ws)
claim_right ws None c = tt
claim_right ws (Some s) None = tt
claim_right ws (Some s) (Some c) = mapped ws _ (current_cron ws s.key) (λ x. refl)

-- What a step of a plan writes has the next version, and a new Job the next uid.
step_right : (ws : List Event) (k : Place) (p : Planned) (o : Option Step) → IfSome (stepped ws k p o) (Right ws)
step_right ws k p None = tt
step_right ws k p (Some (drops r)) = mapped ws _ (current_job ws r.key) (λ x. refl)
step_right ws k p (Some (makes d)) = (refl, refl)
step_right ws k p (Some (sets s)) = mapped ws _ (current_cron ws k) (λ x. refl)

-- What a worker writes by the step of its phase has the next numbers.
phase_right : (ws : List Event) (k : Place) (p : Phase) → IfSome (stepped_in ws k p) (Right ws)
phase_right ws k (Works work) = step_right ws k work.plan (step_at work.plan.steps work.place)
phase_right ws k Held = tt
phase_right ws k (Seen c) = tt
phase_right ws k (Listed c js) = tt
phase_right ws k (Checked c js ks) = tt

-- What a caller writes by the step of its sync, if it has one, has the next numbers.
sync_right : (ws : List Event) (o : Option InFlight) → IfSome (stepped_by ws o) (Right ws)
sync_right ws None = tt
sync_right ws (Some s) = phase_right ws s.key s.phase

-- What an accepted call writes has the next version, and a new object the next uid.
call_right : (ws : List Event) (o : Option InFlight) (call : Call) (r : Reply) → IfSome (written_by ws o call r)
    (Right ws)
call_right ws o (Of.CreateCron d now) r = (refl, refl)
call_right ws o (Of.UpdateCron d) r = mapped ws _ (current_cron ws d.key) (λ x. refl)
call_right ws o (Of.DeleteCron k) r = mapped ws _ (current_cron ws k) (λ x. refl)
call_right ws o (Of.CreateJob d now) r = (refl, refl)
call_right ws o (Of.UpdateJob d) r = mapped ws _ (current_job ws d.key) (λ x. refl)
call_right ws o (Of.DeleteJob k) r = mapped ws _ (current_job ws k) (λ x. refl)
call_right ws o (Of.EndJob k u outcome now) r = mapped ws _ (current_job ws k) (λ x. refl)
call_right ws o (Of.Claim p) (Is.Claimed (Some c)) = claim_right ws o p.steps.claim
call_right ws o Of.DropNext (Is.Dropped (Some d)) = sync_right ws o
call_right ws o Of.MakeNext r = sync_right ws o
call_right ws o Of.SetStatus r = sync_right ws o
call_right ws o call r = tt

-- What an entry writes, which is nothing where it was refused, has the next numbers.
entry_right : (ws : List Event) (o : Option InFlight) (call : Call) (a : Result Reply Refusal)
    → IfSome (entry_written ws o call a) (Right ws)
entry_right ws o call (Ok r) = call_right ws o call r
entry_right ws o call (Err e) = tt

-- each of these was the next after the rest
abbrev pub AreRight : List Event → Type 0
AreRight [] = Unit {0}
AreRight (w ∷ ws) = Right ws w × AreRight ws

-- Writes that each had the next numbers stay such with one that has them, or none.
with_right : (ws : List Event) (o : Option Event) → IfSome o (Right ws) → AreRight ws → AreRight (with_write o ws)
with_right ws None h a = a
with_right ws (Some w) h a = (h, a)

-- The writes of any list of entries each had the next numbers.
pub are_right : (h : List Told) → AreRight (writes h)
are_right [] = tt
are_right (e ∷ h) = with_right (writes h) _ (entry_right (writes h) (sync h e.caller.number) e.call e.answer)
    (are_right h)

-- ---- versions

-- A write with the next numbers has the version after the last.
right_version : (ws : List Event) (w : Event) → Right ws w → version_of w ≡ version ws + 1
right_version ws (Added o) r = r.0
right_version ws (Modified o) r = r
right_version ws (Deleted o) r = r

-- Of writes in their order, the newest comes last.
pub one_later : (w : Event) (ws : List Event) → reverse (w ∷ ws) ≡ reverse ws ++ w ∷ []
one_later w ws = reverse-append (w ∷ []) ws

-- Writes that each had the next numbers have the versions from 1 on, in their order.
numbered : (ws : List Event) → AreRight ws → IsNumbered 0 (reverse ws)
numbered [] a = tt
numbered (w ∷ ws) a =
    subst (IsNumbered 0) (sym (one_later w ws))
    (numbered_snoc 0 (reverse ws) w (numbered ws a.1)
    (let v = right_version ws w a.0 in let n = length-reverse ws in omega (arith, v, n)))

-- For number_law, clause versions: the n-th write of any list of entries has version n.
pub numbers_law : NumbersLaw
numbers_law h = numbered (writes h) (are_right h)

-- ---- uids

-- Later writes make the creations no fewer.
made_app : (xs ys : List Event) → made ys ≤ made (xs ++ ys)
made_app [] ys = omega arith
made_app (Added o ∷ xs) ys = let i = made_app xs ys in omega arith
made_app (Modified o ∷ xs) ys = made_app xs ys
made_app (Deleted o ∷ xs) ys = made_app xs ys

-- Of writes that each had the next numbers, the earlier ones did so too.
right_rest : (xs ys : List Event) → AreRight (xs ++ ys) → AreRight ys
right_rest [] ys a = a
right_rest (w ∷ xs) ys a = right_rest xs ys a.1

-- Of two creations among writes that each had the next numbers, the later has the greater uid.
uids_rise : (after between before : List Event) (second first : Object) →
    AreRight (after ++ Added second ∷ (between ++ Added first ∷ before)) → uid_of first < uid_of second
uids_rise after between before second first a =
    let r = right_rest after (Added second ∷ (between ++ Added first ∷ before)) a in
    let q = right_rest between (Added first ∷ before) r.1 in
    let i = r.0.1 in
    let j = q.0.1 in
    let m = made_app between (Added first ∷ before) in
    omega (arith, i, j, m)

-- For number_law, clause uids: of two objects that were created the later has the greater uid.
pub uid_law : UidLaw
uid_law h after between before second first e = uids_rise after between before second first
    (subst AreRight e (are_right h))
