-- A history of a few calls: a CronJob is created, deleted, and created anew under its name.
use Rattle.std.proofs.Common.{◌≡◌, ℕ, List, [], ◌∷◌, Some, None, refl, sym}
use Rattle.std.specs.Prelude.{Result, Ok}
use Rattle.cj_base.specs.declared.refusal.Refusal.{Refusal}
use Rattle.cj_types.specs.Keys.{Place, place}
use Rattle.cj_types.specs.declared.cron.CronJob.{CronJob}
use Rattle.cj_types.specs.declared.cron.CronJobDraft.{CronJobDraft}
use Rattle.cj_calls.specs.declared.caller.Caller.{Caller}
use Rattle.cj_calls.specs.declared.caller.Role.{Role}
use Rattle.cj_calls.specs.declared.caller.Role.TheVariants.{User, Informer}
use Rattle.cj_calls.specs.declared.call.Call.{Call}
use Rattle.cj_calls.specs.declared.call.Call.TheVariants as Of
use Rattle.cj_calls.specs.declared.reply.Reply.{Reply}
use Rattle.cj_calls.specs.declared.reply.Reply.TheVariants as Say
use Rattle.cj_calls.specs.Rows.{Told}
use Rattle.cj_store.specs.Crons.{first_status}
use Rattle.cj_state.specs.Legal.{IsLegal}
use Rattle.cj_history.specs.store.Written.{version, made, current_cron}
use Rattle.cj_history.specs.store.Writes.{writes}
use Rattle.cj_history.specs.store.Mirrors.{fed}
use Rattle.cj_history.proofs.StoreLemmas.Answered.{answers_agree}

abbrev pub a : Place
a = place (1 ∷ []) (97 ∷ [])

abbrev pub told : ℕ → Role → Call → Result Reply Refusal → Told
told w role call answer = record { caller = record { number = w; role = role }; call = call; answer = answer }

abbrev user : Caller
user = record { number = 1; role = User }

-- d is a draft, whose labels, annotations and spec the created CronJobs have.
module _ (d : CronJobDraft) where
  -- the draft, with the key a, no uid and no version
  abbrev pub named : CronJobDraft
  named = record d {
    key = a;
    meta = record {
      uid = None;
      version = None;
      labels = d.meta.labels;
      annotations = d.meta.annotations;
    };
  }

  -- the CronJob that the n-th write creates as the u-th object
  abbrev pub new : ℕ → ℕ → CronJob
  new n u = record {
    key = a;
    meta = record {
      uid = u;
      version = n;
      generation = 1;
      created = 60;
      labels = d.meta.labels;
      annotations = d.meta.annotations;
    };
    spec = d.spec;
    status = first_status;
  }

  -- the history in which a CronJob is created
  abbrev pub created : List Told
  created = told 1 User (Of.CreateCron named 60) (Ok (Say.Cron (new 1 1))) ∷ []

  -- that in which it is then deleted
  abbrev deleted : List Told
  deleted = told 1 User (Of.DeleteCron a) (Ok (Say.Version 2)) ∷ created

  -- and that in which one is then created anew under its name
  abbrev created_again : List Told
  created_again = told 1 User (Of.CreateCron named 60) (Ok (Say.Cron (new 3 2))) ∷ deleted

  -- The history of one create is legal.
  pub legal_created : IsLegal 3 created
  legal_created = (sym (answers_agree 3 [] user (Of.CreateCron named 60) tt), refl, tt)

  -- The history of a create and a deletion is legal.
  pub legal_deleted : IsLegal 3 deleted
  legal_deleted = (sym (answers_agree 3 created user (Of.DeleteCron a) legal_created), refl, legal_created)

  -- The history of a create, a deletion and a create under the same name is legal.
  pub legal_again : IsLegal 3 created_again
  legal_again = (sym (answers_agree 3 deleted user (Of.CreateCron named 60) legal_deleted), refl, legal_deleted)

  -- After the deletion no CronJob stands at the key.
  pub none_then : current_cron (writes deleted) a ≡ None
  none_then = refl

  -- After the second create the new CronJob stands there, with version 3 and uid 2.
  pub another : current_cron (writes created_again) a ≡ Some (new 3 2)
  another = refl

  -- The three calls made three writes.
  pub three_writes : version (writes created_again) ≡ 3
  three_writes = refl

  -- Of the three writes two created an object.
  pub two_objects : made (writes created_again) ≡ 2
  two_objects = refl

  -- After a Feed of at most two the listing knows two of the three writes.
  pub knows_two : fed 3 (told 2 Informer (Of.Feed 2) (Ok (Say.Version 2)) ∷ created_again) ≡ 2
  knows_two = refl
