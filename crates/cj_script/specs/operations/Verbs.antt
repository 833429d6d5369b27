-- The words for what a step does: the name of a call with a small first letter.
use Rattle.std.specs.Prelude.{ℕ, List, codes, bytes_eq, if◌then◌else◌, Option, Some, None}
use Rattle.cj_script.specs.declared.operations.verb.Plain.TheVariants as Kind
use Rattle.cj_script.specs.declared.operations.verb.Write.TheVariants as Written
use Rattle.cj_script.specs.declared.operations.verb.Verb.{Verb}
use Rattle.cj_script.specs.declared.operations.verb.Verb.TheVariants.{Does, Writes}

-- what workers do
abbrev pub worker_verb : List ℕ → Option Verb
worker_verb word =
    if bytes_eq word (codes "take") then Some (Does Kind.Take)
    else (if bytes_eq word (codes "seeCron") then Some (Does Kind.SeeCron)
    else (if bytes_eq word (codes "seeJobs") then Some (Does Kind.SeeJobs)
    else (if bytes_eq word (codes "seeActive") then Some (Does Kind.SeeActive)
    else (if bytes_eq word (codes "claim") then Some (Does Kind.Claim)
    else (if bytes_eq word (codes "drop") then Some (Does Kind.Drops)
    else (if bytes_eq word (codes "make") then Some (Does Kind.Make)
    else (if bytes_eq word (codes "setStatus") then Some (Does Kind.SetStatus)
    else (if bytes_eq word (codes "finish") then Some (Does Kind.Finish)
    else None))))))))

-- what informers do, or else workers
unfoldable pub informer_verb : List ℕ → Option Verb
informer_verb word =
    if bytes_eq word (codes "watch") then Some (Does Kind.Watch)
    else (if bytes_eq word (codes "add") then Some (Does Kind.Add)
    else (if bytes_eq word (codes "tick") then Some (Does Kind.Tick)
    else (if bytes_eq word (codes "shut") then Some (Does Kind.Shut)
    else (if bytes_eq word (codes "feed") then Some (Does Kind.Feed)
    else worker_verb word))))

-- what users and runners do, or else others
-- rule: step-form
unfoldable pub verb_named : List ℕ → Option Verb
verb_named word =
    if bytes_eq word (codes "createCron") then Some (Writes Written.CreateCron)
    else (if bytes_eq word (codes "updateCron") then Some (Writes Written.UpdateCron)
    else (if bytes_eq word (codes "deleteCron") then Some (Does Kind.DeleteCron)
    else (if bytes_eq word (codes "createJob") then Some (Writes Written.CreateJob)
    else (if bytes_eq word (codes "updateJob") then Some (Writes Written.UpdateJob)
    else (if bytes_eq word (codes "deleteJob") then Some (Does Kind.DeleteJob)
    else (if bytes_eq word (codes "endJob") then Some (Does Kind.EndJob)
    else informer_verb word))))))
