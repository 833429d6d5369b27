-- What is known of the work of a run, entry by entry.
use Rattle.std.proofs.Common.{◌≡◌, ◌∙◌, ◌+◌, ◌<◌, ◌≤◌, ◌&&◌, ℕ, ◌==◌, Bool, true, false, List, [], ◌∷◌, ◌++◌, Option, Some, None, get_or, length, take, map as map_list, refl, sym, ap, subst, arith}
use Rattle.std.specs.Prelude.{IsTrue, Result, Ok, Err, if◌then◌else◌}
use mathlib.Core.List.{reverse}
use Rattle.std.specs.FinMap as map
use Rattle.std.specs.FinMap.{get-entries, same_map, nat_cmp-IsAntisymmetric}
use Rattle.std.specs.BTreeMap as tree
use Rattle.std.specs.Map.{lookup}
use Rattle.std.specs.Ordering.{nat_cmp}
use Rattle.std.specs.Cmp.{nat_cmp_total}
use Rattle.std.proofs.lemmas.Bool.{eqb-true, false≢true}
use Rattle.std.proofs.lemmas.List.{reverse-append, take_all, take_more}
use Rattle.cj_base.specs.declared.refusal.Refusal.{Refusal}
use Rattle.cj_types.specs.Keys.{Place, place_cmp}
use Rattle.cj_types.specs.declared.cron.CronJobDraft.{CronJobDraft}
use Rattle.cj_types.specs.declared.job.Job.{Job}
use Rattle.cj_queue.specs.Queue.{Queue, first, new_queue}
use Rattle.cj_calls.specs.Rows.{Told}
use Rattle.cj_calls.specs.declared.call.Call.{Call}
use Rattle.cj_calls.specs.declared.call.Call.TheVariants as Of
use Rattle.cj_calls.specs.declared.end.End.TheVariants.{Again, Well}
use Rattle.cj_calls.specs.declared.reply.Reply.{Reply}
use Rattle.cj_calls.specs.declared.reply.Reply.TheVariants as Is
use Rattle.cj_state.specs.Legal.{IsLegal, state_of}
use Rattle.cj_state.specs.Step.{step_of}
use Rattle.cj_state.specs.declared.phases.sync.InFlight.{InFlight}
use Rattle.cj_state.specs.declared.phases.sync.Phase.{Phase}
use Rattle.cj_state.specs.declared.phases.sync.Phase.TheVariants.{Listed, Seen, Works}
use Rattle.cj_world_laws.specs.legal.InFlightSyncs.{accepted, checking, going, listing, on, sync, sync_after}
use Rattle.cj_world_laws.specs.legal.Rest.{IsAtRest}
use Rattle.cj_world_laws.proofs.LegalLemmas.HeldSyncs.{syncs_agree}
use Rattle.cj_history.specs.queue.Calls.{called}
use Rattle.cj_history.specs.queue.Deeds.{deed, next_in}
use Rattle.cj_history.proofs.QueueLemmas.Turns as calls
use Rattle.cj_history.proofs.QueueLemmas.Turns.{key_of, turns}
use Rattle.cj_script.specs.simulation.Spans.{SpanView}
use Rattle.cj_run.specs.Turns.{progress, progress_after, progress_of}
use Rattle.cj_run.specs.Upkeep.{ComesToRest, Drafts, Goes, IsClear, IsIdle, IsSettled, Knows, Looks, Sets, Turns, hand_after, hand_by, hand_of, holds, is_over_with, queue_after, untaken_by}
use Rattle.cj_run.specs.declared.turns.Progress.{Progress}
use Rattle.cj_run.specs.declared.upkeep.Hand.{Hand}
use Rattle.cj_run.specs.declared.upkeep.Upkeep.{Upkeep}
use Rattle.cj_run.specs.declared.upkeep.Work.{Work}

-- ---- what a worker holds

-- A listing leaves the next time of the plan.
listing_next : (p : Phase) (js : List Job) → next_in (listing p js) ≡ next_in p
listing_next (Seen c) js = refl
listing_next p js = refl

-- A live read leaves it too.
checking_next : (p : Phase) (ks : List (Option Job)) → next_in (checking p ks) ≡ next_in p
checking_next (Listed c js) ks = refl
checking_next p ks = refl

-- And so does a step of the plan.
going_next : (p : Phase) → next_in (going p) ≡ next_in p
going_next (Works work) = refl
going_next p = refl

-- For after_hand: what leaves the next time leaves what is held.
on_hand : (f : Phase → Phase) (o : Option InFlight) → ((p : Phase) → next_in (f p) ≡ next_in p)
    → hand_of (on f o) ≡ hand_of o
on_hand f None same = refl
on_hand f (Some s) same = ap (holds s.key) (same s.phase)

-- An accepted call leaves its caller to hold what its sync then says.
after_hand : (o : Option InFlight) (call : Call) (r : Reply) → hand_of (accepted o call r)
    ≡ hand_after (hand_of o) call r
after_hand o Of.Take (Is.Key k) = refl
after_hand None Of.SeeCron (Is.SeenCron c) = refl
after_hand (Some s) Of.SeeCron (Is.SeenCron c) = refl
after_hand o Of.SeeJobs (Is.SeenJobs js) = on_hand (λ p. listing p js) o (λ p. listing_next p js)
after_hand o Of.SeeActive (Is.SeenActive ks) = on_hand (λ p. checking p ks) o (λ p. checking_next p ks)
after_hand None (Of.Claim p) (Is.Claimed None) = refl
after_hand (Some s) (Of.Claim p) (Is.Claimed None) = refl
after_hand None (Of.Claim p) (Is.Claimed (Some c)) = refl
after_hand (Some s) (Of.Claim p) (Is.Claimed (Some c)) = refl
after_hand o Of.DropNext (Is.Dropped d) = on_hand going o going_next
after_hand o Of.MakeNext (Is.Job j) = on_hand going o going_next
after_hand o Of.SetStatus (Is.Version v) = on_hand going o going_next
after_hand o (Of.Finish end rs) Is.Done = refl
after_hand o call r = refl

-- And the queue is after it as the call's deed says.
called_by : (o : Option InFlight) (call : Call) (r : Reply) (q : Queue)
    → called (deed o call (Ok r)) (key_of o) q ≡ queue_after (hand_of o) call r q
called_by o (Of.Add k) Is.Done q = refl
called_by o (Of.Tick now) Is.Done q = refl
called_by o Of.Take (Is.Key k) q = refl
called_by None (Of.Finish Well rs) Is.Done q = refl
called_by (Some s) (Of.Finish Well rs) Is.Done q = refl
called_by None (Of.Finish (Again now) rs) Is.Done q = refl
called_by (Some s) (Of.Finish (Again now) rs) Is.Done q = refl
called_by o Of.Shut Is.Done q = refl
called_by o call r q = refl

-- ---- one entry more

-- e is the next entry after the history h, and both together are legal.
module _ (window : ℕ) (e : Told) (h : List Told) (l : IsLegal window (e ∷ h)) where
  -- The queue is turned by the deed of the entry.
  turned : calls.Turns (sync h e.caller.number) e.call (state_of window h)
      (step_of (state_of window h) e.caller e.call)
  turned = subst (λ (o : Option InFlight). calls.Turns o e.call (state_of window h)
      (step_of (state_of window h) e.caller e.call))
      (syncs_agree window h l.2 e.caller.number) (turns (state_of window h) e.caller e.call)

  -- So it is by the entry's answer, which is the history's.
  queue_then : (state_of window (e ∷ h)).queue
      ≡ called (deed (sync h e.caller.number) e.call e.answer) (key_of (sync h e.caller.number))
      (state_of window h).queue
  queue_then = turned.queue
      ∙ ap (λ (a : Result Reply Refusal).
      called (deed (sync h e.caller.number) e.call a) (key_of (sync h e.caller.number)) (state_of window h).queue)
      (sym l.0)

-- For knows_more: the queue after an answer.
queue_by : (n : ℕ) (call : Call) (a : Result Reply Refusal) (o : Option InFlight) (q : Queue) (v w : Work)
    → Goes n call a v w → v.queue ≡ q → hand_by v.hands n ≡ hand_of o → w.queue ≡ called (deed o call a) (key_of o) q
queue_by n call (Ok r) o q v w goes same held =
    goes.queue ∙ ap (λ (g : Option Hand). queue_after g call r v.queue) held
    ∙ ap (λ (x : Queue). queue_after (hand_of o) call r x) same ∙ sym (called_by o call r q)
queue_by n call (Err e) o q v w goes same held = ap (λ (x : Work). x.queue) goes ∙ same

-- For hands_by: what the caller holds, and what another one does.
hands_case : (b : Bool) (call : Call) (r : Reply) (o p : Option InFlight) (g f : Option Hand) → g ≡ hand_of o
    → f ≡ hand_of p → (b ≡ true → p ≡ o)
    → (if b then hand_after g call r else f) ≡ hand_of (if b then sync_after p call (Ok r) else p)
hands_case true call r o p g f one other same =
    ap (λ (x : Option Hand). hand_after x call r) one ∙ sym (after_hand o call r)
    ∙ ap (λ (x : Option InFlight). hand_of (accepted x call r)) (sym (same refl))
hands_case false call r o p g f one other same = other

-- A refused call changes nothing for anybody.
still : (b : Bool) (call : Call) (e : Refusal) (p : Option InFlight)
    → hand_of p ≡ hand_of (if b then sync_after p call (Err e) else p)
still true call e p = refl
still false call e p = refl

-- For knows_more: what anybody holds after an answer.
hands_by : (n m : ℕ) (call : Call) (a : Result Reply Refusal) (o p : Option InFlight) (v w : Work) → Goes n call a v w
    → hand_by v.hands n ≡ hand_of o → hand_by v.hands m ≡ hand_of p → (m ≡ n → p ≡ o)
    → hand_by w.hands m ≡ hand_of (if m == n then sync_after p call a else p)
hands_by n m call (Ok r) o p v w goes one other same =
    goes.hands m
    ∙ hands_case (m == n) call r o p (hand_by v.hands n) (hand_by v.hands m) one other (λ t. same (eqb-true m n t))
hands_by n m call (Err e) o p v w goes one other same =
    ap (λ (x : Work). hand_by x.hands m) goes ∙ other ∙ still (m == n) call e p

-- What is known is known with one entry more.
knows_more : (window : ℕ) (e : Told) (h : List Told) (v w : Work) → IsLegal window (e ∷ h)
    → Goes e.caller.number e.call e.answer v w
    → Knows window h v
    → Knows window (e ∷ h) w
knows_more window e h v w l goes k =
    let n = e.caller.number in
    record {
      queue = queue_by n e.call e.answer (sync h n) (state_of window h).queue v w goes k.queue (k.hands n)
          ∙ sym (queue_then window e h l);
      hands = λ m. hands_by n m e.call e.answer (sync h n) (sync h m) v w goes (k.hands n) (k.hands m) (ap (sync h));
    }

-- ---- rest

-- Who holds nothing has no sync.
none_of : (o : Option InFlight) → hand_of o ≡ None → o ≡ None
none_of None e = refl
none_of (Some s) e = absurd (cc e)

-- Where no work is left, the world is at rest.
at_rest : (window : ℕ) (h : List Told) (w : Work) → IsLegal window h → Knows window h w → IsIdle w
    → IsAtRest (state_of window h)
at_rest window h w l k idle = (
  ap (λ (q : Queue). q.row.line) (sym k.queue) ∙ idle.line,
  same_map nat_cmp_total nat_cmp-IsAntisymmetric _ _ (λ n.
      syncs_agree window h l n ∙ none_of (sync h n) (sym (k.hands n) ∙ idle.hands n)
      ∙ sym (map.get-empty nat_cmp n)),
)

-- Where nothing is left, the world is settled.
settled : (window : ℕ) (s : SpanView) (h : List Told) (v : Upkeep) → IsLegal window h → Looks s v h → IsClear v
    → IsSettled window h
settled window s h v l k clear = record {
  rest = at_rest window h v.work l (k.knows window l) clear.idle;
  runs = ap (λ (q : Queue). q.shut) (sym (k.knows window l).queue) ∙ clear.idle.runs;
  taken = λ q. ap (λ (m : Drafts). map.get m q) (sym k.untaken_is) ∙ clear.taken q;
}

-- For none_untaken: a map without values has nothing at any key.
pub none_at : (m : Drafts) → length (map.values m) ≡ 0 → (k : Place) → map.get m k ≡ None
none_at m none k = get-entries m k ∙ by (map.entries m) none
  where
    by : (es : List (Place × CronJobDraft)) → length (map_list (λ (e : Place × CronJobDraft). e.1) es) ≡ 0
        → map.find place_cmp k es ≡ None
    by [] e = refl
    by (x ∷ es) e = absurd (omega (arith, e))

-- For no_line: a list without a first key is empty.
pub none_first : (xs : List Place) → None ≡ first xs → xs ≡ []
none_first [] e = refl
none_first (x ∷ xs) e = absurd (cc e)

-- For no_hands: an empty map has nothing for anybody.
pub none_held : (hands : tree.BTreeMap ℕ Hand) → length hands.entries ≡ 0 → (n : ℕ) → hand_by hands n ≡ None
none_held hands none n = by hands.entries none
  where
    by : (es : List (ℕ × Hand)) → length es ≡ 0 → lookup (tree.is_at (nat_cmp n)) es ≡ None
    by [] e = refl
    by (x ∷ es) e = absurd (omega (arith, e))

-- ---- what was seen

-- the first of a list
abbrev pub head_of : Told → List Told → Told
head_of d [] = d
head_of d (x ∷ xs) = x

-- all but the first
abbrev pub tail_of : List Told → List Told
tail_of [] = []
tail_of (x ∷ xs) = xs

-- A run that kept up so far does with one entry more, where the world is settled if an instant is over with it.
keeps_more : (window : ℕ) (s : SpanView) (h : List Told) (e : Told) → ComesToRest window s h
    → (is_over_with s (progress_of s h) e ≡ true → IsSettled window h) → ComesToRest window s (e ∷ h)
keeps_more window s h e k rest [] before x is over =
    let t : h ≡ before = ap tail_of is in
    let d : e ≡ x = ap (head_of e) is in
    subst (λ (b : List Told). IsSettled window b) t
    (rest (ap (λ (b : List Told). is_over_with s (progress_of s b) e) t
    ∙ ap (λ (y : Told). is_over_with s (progress_of s before) y) d ∙ over))
keeps_more window s h e k rest (y ∷ later) before x is over = k later before x (ap tail_of is) over

-- For look_more: what a test that still passes says.
kept_parts : (kept clear : Bool) → IsTrue (kept && clear) → IsTrue kept × IsTrue clear
kept_parts true clear t = (refl, t)
kept_parts false clear t = absurd (false≢true t)

-- For Upkeep::see: what was seen is of the history with one entry more.
pub look_more : (s : SpanView) (e : Told) (h : List Told) (v v' : Upkeep) (over clear : Bool)
    → over ≡ is_over_with s v.progress e
    → (IsTrue clear → over ≡ true → IsClear v)
    → v'.kept ≡ (v.kept && clear)
    → Goes e.caller.number e.call e.answer v.work v'.work
    → v'.untaken ≡ untaken_by v.untaken e.call e.answer
    → v'.progress ≡ progress_after s v.progress e.caller.role e.call
    → Looks s v h
    → Looks s v' (e ∷ h)
look_more s e h v v' over clear is left kept goes noted went k = record {
  progress = went ∙ ap (λ (p : Progress). progress_after s p e.caller.role e.call) k.progress;
  knows = λ window l. knows_more window e h v.work v'.work l goes (k.knows window l.2);
  untaken_is = noted ∙ ap (λ (m : Drafts). untaken_by m e.call e.answer) k.untaken_is;
  kept = λ t window l.
      let parts = kept_parts v.kept clear (sym kept ∙ t) in
      keeps_more window s h e (k.kept parts.0 window l.2) (λ o.
      settled window s h v l.2 k
      (left parts.1 (is ∙ ap (λ (p : Progress). is_over_with s p e) k.progress ∙ o)));
}

-- For Work::step: what was taken from its place, and put there again.
pub turns_it : (number : ℕ) (call : Call) (reply : Reply) (v w : Work) (between : tree.BTreeMap ℕ Hand)
    (hand : Option Hand)
    → hand ≡ hand_by v.hands number
    → Sets number None v.hands between
    → w.queue ≡ queue_after hand call reply v.queue
    → Sets number (hand_after hand call reply) between w.hands
    → Turns number call reply v w
turns_it number call reply v w between hand is cut turned put = record {
  queue = turned ∙ ap (λ (g : Option Hand). queue_after g call reply v.queue) is;
  hands = λ n. put n ∙ over (n == number) (hand_by between n) (hand_by v.hands n) (cut n)
      ∙ ap (λ (g : Option Hand). if n == number then hand_after g call reply else hand_by v.hands n) is;
}
  where
    over : (b : Bool) (x y : Option Hand) → x ≡ (if b then None else y)
        → (if b then hand_after hand call reply else x) ≡ (if b then hand_after hand call reply else y)
    over true x y e = refl
    over false x y e = e

-- No entry is one of none.
pub no_entry : (later before : List Told) (e : Told) → [] ≡ later ++ e ∷ before → ⊥
no_entry [] before e is = cc (is)
no_entry (y ∷ later) before e is = cc (is)

-- For comes_to_rest: before the first entry.
pub look_none : (s : SpanView) (v : Upkeep) → v.progress ≡ progress 0 false false → v.work.queue ≡ new_queue
    → ((n : ℕ) → hand_by v.work.hands n ≡ None)
    → v.untaken ≡ map.empty
    → Looks s v []
look_none s v begun queue hands none = record {
  progress = begun;
  untaken_is = none;
  knows = λ window l. record { queue = queue; hands = hands };
  kept = λ t window l later before e is over. absurd (no_entry later before e is);
}

-- For comes_to_rest: with the entry at that place, those up to it were seen.
pub look_on : (s : SpanView) (i : ℕ) (es : List Told) (e : Told) (v : Upkeep) → i < length es → e ≡ get_or es i e
    → Looks s v (e ∷ reverse (take i es))
    → Looks s v (reverse (take (i + 1) es))
look_on s i es e v lt is k =
    let more : reverse (take (i + 1) es) ≡ e ∷ reverse (take i es) =
    ap (λ (xs : List Told). reverse xs) (take_more es i e lt ∙ ap (λ (x : Told). take i es ++ x ∷ []) (sym is))
    ∙ reverse-append (take i es) (e ∷ []) in
    subst (λ (h : List Told). Looks s v h) (sym more) k

-- For comes_to_rest: with all entries, the whole history was seen.
pub rests_whole : (s : SpanView) (i : ℕ) (es : List Told) (v : Upkeep) → length es ≤ i → Looks s v (reverse (take i es))
    → IsTrue v.kept → (window : ℕ) → IsLegal window (reverse es) → ComesToRest window s (reverse es)
rests_whole s i es v all k kept window l =
    (subst (λ (xs : List Told). Looks s v (reverse xs)) (take_all i es all) k).kept kept window l
