-- Histories of a few calls, which are legal, and in which a key was added and not taken since.
use Rattle.std.proofs.Common.{◌≡◌, ℕ, ◌≤◌, [], ◌∷◌, refl, sym, subst, arith}
use Rattle.std.specs.Prelude.{Ok}
use Rattle.cj_calls.specs.declared.caller.Role.TheVariants.{Informer, Worker}
use Rattle.cj_calls.specs.declared.call.Call.TheVariants as Of
use Rattle.cj_calls.specs.declared.end.End.TheVariants.{Again}
use Rattle.cj_calls.specs.declared.reply.Reply.TheVariants as Say
use Rattle.cj_state.specs.Step.{step_of}
use Rattle.cj_state.specs.Legal.{IsLegal, state_of}
use Rattle.cj_history.specs.queue.Deeds.{operations}
use Rattle.cj_history.specs.queue.LookBacks.{mark}
use Rattle.cj_history.specs.progress.Kept.{by_name, by_moment, IsWanted, IsToRetry, retry_at, IsLined, IsKept}
use Rattle.cj_history.proofs.QueueLemmas.Sample.{a, told, taken, added_again, early, due, legal_take}
use Rattle.cj_history.proofs.QueueLemmas.Answered.{answers_agree}
use Rattle.cj_history.proofs.ProgressLemmas.Kept.{none_lost}

-- The history with a second add of the key while it is held is legal.
pub legal_again : IsLegal 3 added_again
unfolding step_of
legal_again = (refl, refl, legal_take)

-- In it the key was added and not taken since.
pub wanted_again : IsWanted added_again a
wanted_again = record {
  after = [];
  entry = told 0 Informer (Of.Add a) (Ok Say.Done);
  before = taken;
  is = refl;
  runs = refl;
  adds = by_name (record { call = refl; answer = refl });
  untaken = tt;
}

-- So its queue keeps the key.
pub kept_again : IsKept (state_of 3 added_again).queue a
kept_again = (none_lost 3 added_again legal_again).added a wanted_again

-- The history of a sync that is to be tried again, with ticks before and at that time, is legal.
pub legal_due : IsLegal 3 due
unfolding step_of
legal_due = (refl, refl, (refl, refl, (sym (answers_agree 3 taken (record { number = 1; role = Worker }) (Of.Finish (Again 1000) []) legal_take), refl, legal_take)))

-- In it the second tick adds the key, which wasn't taken since.
pub wanted_due : IsWanted due a
wanted_due = record {
  after = [];
  entry = told 0 Informer (Of.Tick 1005) (Ok Say.Done);
  before = early;
  is = refl;
  runs = refl;
  adds = by_moment 1005 1005 (record { call = refl; answer = refl }) refl (omega arith);
  untaken = tt;
}

-- So its queue keeps the key.
pub lined_due : IsKept (state_of 3 due).queue a
lined_due = (none_lost 3 due legal_due).added a wanted_due

-- In it the sync of the key, which failed for the first time, is to be tried again.
pub to_retry : IsToRetry due a 1000
to_retry = record {
  after = told 0 Informer (Of.Tick 1005) (Ok Say.Done) ∷ told 0 Informer (Of.Tick 1004) (Ok Say.Done) ∷ [];
  entry = told 1 Worker (Of.Finish (Again 1000) []) (Ok Say.Done);
  before = taken;
  is = refl;
  end = record { sits = _; held = refl; key = refl; reasons = []; call = refl; answer = refl };
  runs = refl;
  untaken = ((λ t. absurd (cc t.call)), ((λ t. absurd (cc t.call)), tt));
}

-- After the first delay, of 5 milliseconds.
pub retry_then : retry_at to_retry ≡ 1005
unfolding to_retry
retry_then = refl

-- So at the tick of that time it stands in the line.
pub retried_due : IsLined (state_of 3 due).queue a
retried_due = (none_lost 3 due legal_due).retried a 1000 to_retry
    (subst (λ (n : ℕ). n ≤ mark (operations due)) (sym retry_then) (omega arith))
