-- What a run reports, put together.
use Rattle.std.proofs.Common.{◌≡◌, ◌∙◌, ◌<◌, ℕ, List, [], ◌++◌, map, sym, ap, subst, arith}
use Rattle.std.proofs.lemmas.Bool.{false≢true}
use Rattle.std.specs.Prelude.{All, IsOk, OnOk, Result, Ok, Err}
use Rattle.std.specs.List.{AllByRecursion}
use Rattle.cj_calls.specs.declared.caller.Caller.{Caller}
use Rattle.cj_calls.specs.declared.call.Call.TheVariants.{Shut}
use Rattle.cj_calls.specs.declared.caller.Role.{Role}
use Rattle.cj_calls.specs.declared.caller.Role.TheVariants.{User}
use Rattle.cj_hub.specs.Receipts.{IsExact, PassView, caller_of}
use Rattle.cj_hub.specs.declared.receipt.Receipt.{Receipt}
use Rattle.cj_script.specs.simulation.Spans.{SpanView}
use Rattle.cj_script.specs.declared.simulation.scenario.Simulation.{Simulation}
use Rattle.cj_run.specs.Simulations.{operations_below}
use Rattle.cj_world_laws.specs.Promise.{KeepsPromise}
use Rattle.cj_world.specs.Worlds.{WorldLog}
use Rattle.cj_report.specs.Reports.{report_of}
use Rattle.cj_run.specs.Participants.{AreNumbered, AreComplete, IsOwn, passes_of}
use Rattle.cj_run.specs.Actions.{AreFresh, AreOf, Called, Does, HasDone, HasDriven, HasRunLoop, HaveRunLoop}
use Rattle.cj_run.specs.Drivers.{notes_of, watch_of}
use Rattle.cj_run.specs.Made.{Notes, no_notes}
use Rattle.cj_run.specs.Rounds.{GoesRounds, watch}
use Rattle.cj_run.specs.Turns.{AllInstants, KeepsTime, turn}
use Rattle.cj_run.specs.Validation.{IsValid}
use Rattle.cj_run.specs.Upkeep.{ComesToRest}
use Rattle.cj_run.specs.Zones.{AreZoned}
use Rattle.cj_run.specs.Runs.{HasRun, IsReport, IsRun}
use Rattle.cj_run.specs.declared.participants.Participants.{Participants}
use Rattle.cj_run.specs.declared.drive.Driver.{Driver}
use Rattle.cj_run.specs.declared.rest.Follower.{Follower}
use Rattle.cj_run.proofs.Caught.{keeps_up}
use Rattle.cj_run.proofs.Ordered.{ends_first}

-- For same_count: one count of a clock's instants isn't below another.
not_below : (s : SpanView) (a b : ℕ) → AllInstants s a → AllInstants s b → (a < b → ⊥)
not_below s a b f g lt = omega (arith, (f a).1 ((g a).0 lt))

-- A clock has one count of instants.
pub same_count : (s : SpanView) (a b : ℕ) → AllInstants s a → AllInstants s b → a ≡ b
same_count s a b f g = omega (arith, not_below s a b f g, not_below s b a g f)

-- The receipts of a user's pass that had none are the new ones.
news_alone : (c : Simulation) (n : ℕ) (p p' : PassView) → p.receipts ≡ [] → p.role ≡ User
    → (d : Does c.zones (operations_below c n) p p')
    → AreOf User c.zones (operations_below c n) p'.receipts
news_alone c n p p' none user d =
    subst (λ (role : Role). AreOf role c.zones (operations_below c n) p'.receipts) user
    (subst (λ (rs : List Receipt). AreOf p.role c.zones (operations_below c n) rs)
    (ap (λ (rs : List Receipt). rs ++ d.news) (sym none) ∙ ap (λ (q : PassView). q.receipts) (sym d.kept))
    d.are)

-- For run_instants: all instants, and then the end of the queue.
pub has_run_loop : (c : Simulation) (a b : Driver) (f : Follower) → HasDriven c a b → Called Shut b.follower.pass f.pass
    → HasRunLoop c a (record b { follower = f })
has_run_loop c a b f driven shut = record {
  last = b.follower;
  driven = record {
    instants = driven.instants;
    all = driven.all;
    did = driven.did;
    rounds = driven.rounds;
  };
  shut = shut;
}

-- For run_on_hub: those who had done nothing before ran all instants.
pub have_run_loop : {E : Type 0} (c : Simulation) (a b : Driver) (r : Result (Unit {0}) E) → AreFresh a
    → OnOk r (HasRunLoop c a b)
    → OnOk r (HaveRunLoop c b)
have_run_loop c a b (Ok u) fresh ran = record { before = a; fresh = fresh; ran = ran }
have_run_loop c a b (Err e) fresh ran = tt

-- For run_loop: where nothing kept them from it, they did.
pub ran_all : {E : Type 0} (c : Simulation) (b : Driver) (r : Result (Unit {0}) E) → IsOk r → OnOk r (HaveRunLoop c b)
    → HaveRunLoop c b
ran_all c b (Ok u) ok ran = ran
ran_all c b (Err e) ok ran = absurd (false≢true ok)

-- What those who had done nothing before did is all that user, runners and informer did.
has_done : (c : Simulation) (b : Driver) (l : HaveRunLoop c b) (participants : Participants)
    → participants.user ≡ b.user
    → participants.runners.items ≡ b.runners.items
    → participants.informer ≡ b.follower.pass
    → HasDone c l.ran.driven.instants participants
has_done c b l participants user runners informer =
    let n = l.ran.driven.instants in
    record {
      did = subst (λ (p : PassView). AreOf User c.zones (operations_below c n) p.receipts) (sym user)
          (news_alone c n l.before.user b.user l.fresh.user l.fresh.role l.ran.driven.did);
      idle = l.before.runners.items;
      idle_still = l.fresh.runners;
      made = notes_of b;
      first = l.before.follower;
      fresh = l.fresh.follower;
      last = l.ran.last;
      rounds =
          subst (λ (ps : List PassView). GoesRounds c n l.before.follower l.ran.last
          (watch l.before.runners.items no_notes)
          (watch ps (notes_of b))) (sym runners)
          (subst (λ (m : Notes). GoesRounds c n l.before.follower l.ran.last (watch l.before.runners.items m)
          (watch_of b))
          l.fresh.made l.ran.driven.rounds);
      shut = subst (λ (p : PassView). Called Shut l.ran.last.pass p) (sym informer) l.ran.shut;
    }

-- For run_to_end: participants of whom none is missing, and who did what the scenario says.
pub has_run : (c : Simulation) (workers : ℕ) (participants : Participants) (b : Driver) → participants.user ≡ b.user
    → participants.runners.items ≡ b.runners.items
    → participants.informer ≡ b.follower.pass
    → AreComplete workers participants
    → HaveRunLoop c b
    → HasRun c workers participants
has_run c workers participants b user runners informer whole l = record {
  complete = whole;
  instants = l.ran.driven.instants;
  every = l.ran.driven.all;
  done = has_done c b l participants user runners informer;
}

-- For report: the report of a history that was closed with the passes of the participants, and validated.
pub reported : (c : Simulation) (participants : Participants) (w : WorldLog) (text : List ℕ) (ps : List PassView)
    (callers : List Caller) (user : ℕ)
    → ps ≡ passes_of participants
    → callers ≡ map caller_of ps
    → user ≡ participants.user.number
    → AreNumbered 0 callers
    → KeepsPromise w.limits.window w.history
    → All (IsExact w.history) ps
    → IsValid c callers user w.history
    → AreZoned c.zones w.history
    → ComesToRest w.limits.window c.span w.history
    → text ≡ report_of w.limits.window w.history
    → IsReport c participants w text
reported c participants w text ps callers user are of whose numbered promise exact kept zoned rests printed =
    let e : callers ≡ map caller_of (passes_of participants) = of ∙ ap (map caller_of) are in
    record {
      promise = promise;
      all = record {
        numbered = subst (λ (cs : List Caller). AreNumbered 0 cs) e numbered;
        own = subst (λ (cs : List Caller). AllByRecursion (IsOwn cs) w.history) e kept.own;
        exact = subst (λ (qs : List PassView). All (IsExact w.history) qs) are exact;
      };
      time = subst (λ (n : ℕ). KeepsTime c n w.history) whose kept.time;
      zones = zoned;
      rests = rests;
      printed = printed;
    }

-- For run_simulation: where the participants did what the scenario says, the report of their history is that of the
-- run.
pub run_of : (c : Simulation) (workers : ℕ) (participants : Participants) (w : WorldLog) (text : List ℕ)
    → HasRun c workers participants
    → IsReport c participants w text
    → IsRun c workers w text
run_of c workers participants w text ran r =
    let e : ran.instants ≡ turn c.span w.history = same_count c.span ran.instants (turn c.span w.history) ran.every
    r.time.all in
    record {
      participants = participants;
      complete = ran.complete;
      promise = r.promise;
      all = r.all;
      time = r.time;
      ends_first = ends_first c.span w.history r.time.timely;
      zones = r.zones;
      keeps_up = keeps_up w.limits.window c.span w.history r.promise.legal r.rests;
      done = subst (λ (n : ℕ). HasDone c n participants) e ran.done;
      printed = r.printed;
    }
