-- How a call is described to people: by the object that it names, and by what its refusal means.
use Rattle.std.specs.Prelude.{ℕ, List, [], ◌++◌, codes, Option, Some, None}
use Rattle.cj_base.specs.declared.refusal.Refusal.{Refusal}
use Rattle.cj_base.specs.declared.refusal.Refusal.TheVariants as No
use Rattle.cj_types.specs.Keys.{Place}
use Rattle.cj_calls.specs.declared.call.Call.{Call}
use Rattle.cj_calls.specs.declared.call.Call.TheVariants as Of

-- the object that a call names
abbrev pub place_in : Call → Option Place
place_in (Of.CreateCron draft at) = Some draft.key
place_in (Of.UpdateCron draft) = Some draft.key
place_in (Of.DeleteCron key) = Some key
place_in (Of.CreateJob draft at) = Some draft.key
place_in (Of.UpdateJob draft) = Some draft.key
place_in (Of.DeleteJob key) = Some key
place_in (Of.EndJob key uid outcome at) = Some key
place_in (Of.Add key) = Some key
place_in call = None

abbrev pub place_text : Option Place → List ℕ
place_text None = []
place_text (Some key) = codes " " ++ (key.namespace ++ (codes "/" ++ key.name))

-- the name of a refusal, and what it means for a user
-- rule: explain-refused
unfoldable pub refusal_words : Refusal → List ℕ
refusal_words (No.Invalid faults) = codes
    "Invalid, since a new object may have no metadata.resourceVersion"
refusal_words No.NotPermitted = codes "NotPermitted, since a user may not do that"
refusal_words No.NotFound = codes "NotFound, since there is no such object"
refusal_words No.AlreadyExists = codes "AlreadyExists, since there is an object of that name"
refusal_words (No.Conflict version) = codes
    "Conflict, since the object has another uid or resourceVersion"
refusal_words (No.Expired version) = codes "Expired, since events of so long ago aren't kept"
refusal_words No.AlreadyFinished = codes "AlreadyFinished, since the Job has ended"
refusal_words No.Syntax = codes "Syntax"
refusal_words No.OutOfPhase = codes "OutOfPhase"
refusal_words No.Stale = codes "Stale"
refusal_words No.Empty = codes "Empty"
refusal_words No.ShutDown = codes "ShutDown"
refusal_words No.HistoryFull = codes "HistoryFull"
refusal_words No.Estranged = codes "Estranged"
refusal_words No.OutOfMemory = codes "OutOfMemory"
