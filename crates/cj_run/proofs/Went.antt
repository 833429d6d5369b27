-- What is done at each instant beside the user's edits, one after the other.
use Rattle.std.proofs.Common.{◌≡◌, ◌+◌, ◌*◌, ◌∙◌, ℕ, suc, Bool, true, false, List, [], ◌∷◌, drop, length, map, add-one, ap, arith, refl, subst}
use Rattle.std.proofs.Math.Seq.{drop-append_seam}
use Rattle.std.specs.Prelude.{filter}
use Rattle.cj_hub.specs.Receipts.{PassView}
use Rattle.cj_hub.specs.declared.receipt.Receipt.{Receipt}
use Rattle.cj_runner.specs.Dues.{end_call, is_due}
use Rattle.cj_runner.specs.Ends.{AreEnded}
use Rattle.cj_runner.specs.declared.running.Running.{Running}
use Rattle.cj_script.specs.simulation.Runs.{RunTable}
use Rattle.cj_script.specs.simulation.Spans.{instant}
use Rattle.cj_script.specs.declared.simulation.scenario.Simulation.{Simulation}
use Rattle.cj_run.specs.Follows.{Follows}
use Rattle.cj_run.specs.Made.{Notes, noted_news}
use Rattle.cj_run.specs.Rounds.{EndsDue, FollowsOn, GoesRound, GoesRounds, NotesMade, Watch, watch, without_due}
use Rattle.cj_run.specs.declared.rest.Follower.{Follower}
use Rattle.cj_run.proofs.Followed.{follows_longer}

-- For filter_twice: with one member more.
kept_once : {X : Type 0} (p : X → Bool) (x : X) (xs : List X) (b : Bool) → p x ≡ b
    → filter p (filter p xs) ≡ filter p xs
    → filter p (filter p (x ∷ xs)) ≡ filter p (x ∷ xs)
kept_once p x xs true e is = grind (arith, e, is)
kept_once p x xs false e is = grind (arith, e, is)

-- What passes a test all passes it.
filter_twice : {X : Type 0} (p : X → Bool) (xs : List X) → filter p (filter p xs) ≡ filter p xs
filter_twice p [] = refl
filter_twice p (x ∷ xs) = kept_once p x xs (p x) refl (filter_twice p xs)

-- For end_jobs: where the ends are of those that were sorted out as due, they are of all that are due.
pub all_ended : (at : ℕ) (running due : List Running) (ps qs : List PassView) (receipts : List Receipt)
    → due ≡ filter (is_due at) running
    → AreEnded at due ps qs receipts
    → (rs : List Receipt) × AreEnded at running ps qs rs
all_ended at running due ps qs receipts is ended = (
  receipts,
  record {
    ends = ended.ends ∙ ap (λ (rs : List Running). map (end_call at) (filter (is_due at) rs)) is
        ∙ ap (map (end_call at)) (filter_twice (is_due at) running);
    handed = ended.handed;
  },
)

-- For end: what end_jobs says of the passes and of the notes.
pub ends_due : (at : ℕ) (ps qs : List PassView) (n n' : Notes)
    → ((receipts : List Receipt) × AreEnded at n.running ps qs receipts)
    → n' ≡ without_due at n
    → EndsDue at (watch ps n) (watch qs n')
ends_due at ps qs n n' ended noted = record { receipts = ended.0; ends = ended.1; noted = noted }

-- For note: what was noted, by nobody's call.
pub notes_made : (runs : RunTable) (at : ℕ) (news : List Receipt) (ps : List PassView) (n n' : Notes)
    → n' ≡ noted_news runs at news n
    → NotesMade runs at news (watch ps n) (watch ps n')
notes_made runs at news ps n n' noted = record { passes = refl; noted = noted }

-- For follow: the informer's steps, and the notes of the receipts that it got in these.
pub follows_on : (runs : RunTable) (at millis known : ℕ) (f g : Follower) (a b : Watch)
    → millis ≡ at * 1000
    → known ≡ length f.pass.receipts
    → Follows millis f g
    → NotesMade runs at (drop known g.pass.receipts) a b
    → FollowsOn runs at f g a b
follows_on runs at millis known f g a b moment count followed made =
    let long = follows_longer millis f g followed in
    let news : drop known g.pass.receipts ≡ long.0 =
    ap (λ (k : ℕ). drop k g.pass.receipts) count
    ∙ ap (λ (p : PassView). drop (length f.pass.receipts) p.receipts) long.1
    ∙ drop-append_seam f.pass.receipts long.0 in
    record {
      followed = subst (λ (n : ℕ). Follows n f g) moment followed;
      news = long.0;
      kept = long.1;
      notes = subst (λ (rs : List Receipt). NotesMade runs at rs a b) news made;
    }

-- For run_instant: the ends, and then the informer's steps, which the edits between leave as they are.
pub goes_round : (runs : RunTable) (at : ℕ) (f f' f'' g : Follower) (a m m' b : Watch) → f' ≡ f → f'' ≡ f' → m' ≡ m
    → EndsDue at a m
    → FollowsOn runs at f'' g m' b
    → GoesRound runs at f g a b
goes_round runs at f f' f'' g a m m' b one two same ends follows =
    record {
      between = m;
      ends = ends;
      follows = subst (λ (w : Watch). FollowsOn runs at f g w b) same
          (subst (λ (x : Follower). FollowsOn runs at x g m' b) (two ∙ one) follows);
    }

-- For drive: after the first n instants, the next makes those of n + 1.
pub round_more : (c : Simulation) (n : ℕ) (f h g : Follower) (a m b : Watch) → GoesRounds c n f h a m
    → GoesRound c.runs (instant c.span n) h g m b
    → GoesRounds c (n + 1) f g a b
round_more c n f h g a m b went goes =
    let r : GoesRounds c (suc n) f g a b = (h, m, went, goes) in
    rw (add-one) r
