-- Words of verbs and refusals, as they are printed.
use Rattle.std.specs.Prelude.{ℕ, List, codes}
use Rattle.cj_base.specs.declared.refusal.Refusal.{Refusal}
use Rattle.cj_base.specs.declared.refusal.Refusal.TheVariants as No
use Rattle.cj_script.specs.declared.operations.verb.Plain.{Plain}
use Rattle.cj_script.specs.declared.operations.verb.Plain.TheVariants as Kind
use Rattle.cj_script.specs.declared.operations.verb.Write.{Write}
use Rattle.cj_script.specs.declared.operations.verb.Write.TheVariants as Written
use Rattle.cj_script.specs.declared.operations.verb.Verb.{Verb}
use Rattle.cj_script.specs.declared.operations.verb.Verb.TheVariants.{Does, Writes}

abbrev pub write_word : Write → List ℕ
write_word Written.CreateCron = codes "createCron"
write_word Written.UpdateCron = codes "updateCron"
write_word Written.CreateJob = codes "createJob"
write_word Written.UpdateJob = codes "updateJob"

abbrev pub plain_word : Plain → List ℕ
plain_word Kind.DeleteCron = codes "deleteCron"
plain_word Kind.DeleteJob = codes "deleteJob"
plain_word Kind.EndJob = codes "endJob"
plain_word Kind.Watch = codes "watch"
plain_word Kind.Add = codes "add"
plain_word Kind.Tick = codes "tick"
plain_word Kind.Shut = codes "shut"
plain_word Kind.Feed = codes "feed"
plain_word Kind.Take = codes "take"
plain_word Kind.SeeCron = codes "seeCron"
plain_word Kind.SeeJobs = codes "seeJobs"
plain_word Kind.SeeActive = codes "seeActive"
plain_word Kind.Claim = codes "claim"
plain_word Kind.Drops = codes "drop"
plain_word Kind.Make = codes "make"
plain_word Kind.SetStatus = codes "setStatus"
plain_word Kind.Finish = codes "finish"

-- the name of a call with a small first letter
-- rule: step-line
unfoldable pub verb_word : Verb → List ℕ
verb_word (Writes verb) = write_word verb
verb_word (Does verb) = plain_word verb

-- rule: step-line
unfoldable pub refusal_name : Refusal → List ℕ
refusal_name No.Syntax = codes "Syntax"
refusal_name (No.Invalid faults) = codes "Invalid"
refusal_name No.NotPermitted = codes "NotPermitted"
refusal_name No.NotFound = codes "NotFound"
refusal_name No.AlreadyExists = codes "AlreadyExists"
refusal_name (No.Conflict current) = codes "Conflict"
refusal_name (No.Expired oldest) = codes "Expired"
refusal_name No.OutOfPhase = codes "OutOfPhase"
refusal_name No.Stale = codes "Stale"
refusal_name No.Empty = codes "Empty"
refusal_name No.ShutDown = codes "ShutDown"
refusal_name No.HistoryFull = codes "HistoryFull"
refusal_name No.Estranged = codes "Estranged"
refusal_name No.OutOfMemory = codes "OutOfMemory"
refusal_name No.AlreadyFinished = codes "AlreadyFinished"
