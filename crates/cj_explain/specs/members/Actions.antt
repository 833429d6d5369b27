-- What a step says that is done, `do`, and the members that this needs.
use Rattle.std.specs.Prelude.{List, ℕ, codes, Bool, false, if◌then◌else◌, Option, Some, None, Ok, is_some, option_and_then}
use Rattle.serde_json.specs.Data.{Data}
use Rattle.serde_json.specs.Find.{as_bool, as_str}
use Rattle.cj_manifest.specs.Members.{present}
use Rattle.cj_script.specs.declared.operations.verb.Plain.{Plain}
use Rattle.cj_script.specs.declared.operations.verb.Plain.TheVariants as Kind
use Rattle.cj_script.specs.declared.operations.verb.Verb.{Verb}
use Rattle.cj_script.specs.declared.operations.verb.Verb.TheVariants.{Does, Writes}
use Rattle.cj_script.specs.declared.operations.verb.Write.{Write}
use Rattle.cj_script.specs.declared.operations.verb.Write.TheVariants as Written
use Rattle.cj_script.specs.operations.Verbs.{verb_named}
use Rattle.cj_explain.specs.declared.members.want.Range.TheVariants.{Any, Max}
use Rattle.cj_explain.specs.declared.members.want.Want.TheVariants.{Manifest, Number, Reasons, Text, Truth}
use Rattle.cj_explain.specs.declared.members.want.Word.TheVariants as Word
use Rattle.cj_explain.specs.members.Members.{Checked, at_fault, both, may, missing, must, other}

abbrev pub moment : List ℕ → Data → Checked
moment path d = must path d (codes "at") (Text Word.Time)

abbrev pub key : List ℕ → Data → Checked
key path d = must path d (codes "key") (Text Word.Key)

abbrev pub most : List ℕ → Data → Checked
most path d = must path d (codes "max") (Number Max)

abbrev pub manifest : List ℕ → Data → Checked
manifest path d = must path d (codes "object") Manifest

abbrev pub created : List ℕ → Data → Checked
created path d = both (moment path d) (manifest path d)

-- rule: explain-members
abbrev pub written : List ℕ → Write → Data → Checked
written path Written.CreateCron d = created path d
written path Written.UpdateCron d = manifest path d
written path Written.CreateJob d = created path d
written path Written.UpdateJob d = manifest path d

abbrev pub ended : List ℕ → Data → Checked
ended path d = both (moment path d) (both (must path d (codes "outcome") (Text Word.End))
    (key path d))

abbrev pub watched : List ℕ → Data → Checked
watched path d = both (must path d (codes "version") (Number Any)) (most path d)

-- a sync that is tried again needs the time
abbrev pub is_again : Option Bool → Bool
is_again None = false
is_again (Some again) = again

abbrev pub retried : List ℕ → Data → Checked
retried path d =
    if is_again (option_and_then as_bool (present (codes "retry") d)) then moment path d else Ok tt

abbrev pub finished : List ℕ → Data → Checked
finished path d =
    both (may path d (codes "retry") Truth)
    (both (retried path d) (may path d (codes "reasons") Reasons))

-- rule: explain-members
abbrev pub plain : List ℕ → Plain → Data → Checked
plain path Kind.DeleteCron d = key path d
plain path Kind.DeleteJob d = key path d
plain path Kind.EndJob d = ended path d
plain path Kind.Watch d = watched path d
plain path Kind.Add d = key path d
plain path Kind.Tick d = moment path d
plain path Kind.Feed d = most path d
plain path Kind.Claim d = moment path d
plain path Kind.Finish d = finished path d
plain path Kind.Shut d = Ok tt
plain path Kind.Take d = Ok tt
plain path Kind.SeeCron d = Ok tt
plain path Kind.SeeJobs d = Ok tt
plain path Kind.SeeActive d = Ok tt
plain path Kind.Drops d = Ok tt
plain path Kind.Make d = Ok tt
plain path Kind.SetStatus d = Ok tt

abbrev pub done_by : List ℕ → Verb → Data → Checked
done_by path (Writes verb) d = written path verb d
done_by path (Does verb) d = plain path verb d

abbrev pub done : List ℕ → Option Verb → Data → Checked
done path None d = Ok tt
done path (Some verb) d = done_by path verb d

abbrev pub verb_in : Data → Option Verb
verb_in d = option_and_then verb_named (option_and_then as_str (present (codes "do") d))

-- rule: explain-members
abbrev pub action : List ℕ → Data → Checked
action path d = both (must path d (codes "do") (Text Word.Verb)) (done path (verb_in d) d)

-- ---- who does it

abbrev pub caller_words : List ℕ
caller_words = codes "the name of one of the callers"

-- the text names a member of `callers`
abbrev pub is_caller : Data → Data → Bool
is_caller whole who =
    is_some (option_and_then (λ name. option_and_then (present name)
    (present (codes "callers") whole)) (as_str who))

abbrev pub caller_by : List ℕ → Data → Option Data → Checked
caller_by path whole None = at_fault path (codes "who") missing caller_words
caller_by path whole (Some who) =
    if is_caller whole who then Ok tt else at_fault path (codes "who") other caller_words

-- rule: explain-members
abbrev pub caller : List ℕ → Data → Data → Checked
caller path whole d = caller_by path whole (present (codes "who") d)
