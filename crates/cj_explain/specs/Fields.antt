-- What each field of a manifest wants, in words: batch/v1, `CronJob` and `Job`; Kubernetes, "Object
-- Names and IDs".
use Rattle.std.specs.Prelude.{ℕ, List, codes}
use Rattle.cj_base.specs.declared.field.Field.{Field}
use Rattle.cj_base.specs.declared.field.Field.TheVariants as Of

-- the JSON type of its value
-- rule: explain-field
abbrev pub form : Field → List ℕ
form Of.Labels = codes "an object of texts"
form Of.Annotations = codes "an object of texts"
form Of.JobTemplateLabels = codes "an object of texts"
form Of.JobTemplateAnnotations = codes "an object of texts"
form Of.Zones = codes "an object of texts"
form Of.OwnerReferences = codes "a list of owner references"
form Of.ApiVersion = codes "a text"
form Of.Kind = codes "a text"
form Of.Name = codes "a text"
form Of.Namespace = codes "a text"
form Of.Uid = codes "a text"
form Of.ResourceVersion = codes "a text"
form Of.ScheduleText = codes "a text"
form Of.TimeZone = codes "a text"
form Of.ConcurrencyPolicy = codes "a text"
form Of.JobTemplateRestartPolicy = codes "a text"
form Of.RestartPolicy = codes "a text"
form Of.CreationTimestamp = codes "a time"
form Of.ScheduledTimestamp = codes "a time"
form Of.LastScheduleTime = codes "a time"
form Of.LastSuccessfulTime = codes "a time"
form Of.CompletionTime = codes "a time"
form Of.Active = codes "a list of objects, each with a name"
form Of.Conditions = codes "a list of objects, each with a type and a status"
form Of.Suspend = codes "true or false"
form Of.StartingDeadlineSeconds = codes "a whole number"
form Of.SuccessfulJobsHistoryLimit = codes "a whole number"
form Of.FailedJobsHistoryLimit = codes "a whole number"
form _ = codes "an object"

-- the texts that it may have
-- rule: explain-field
abbrev pub choices : Field → List ℕ
choices Of.ApiVersion = codes "batch/v1"
choices Of.Kind = codes "CronJob or Job"
choices Of.ConcurrencyPolicy = codes "Allow, Forbid or Replace"
choices Of.JobTemplateRestartPolicy = codes "Never or OnFailure"
choices Of.RestartPolicy = codes "Never or OnFailure"
choices _ = codes "another text"

-- what is wanted where it is left out
-- rule: explain-field
abbrev pub need : Field → List ℕ
need Of.ApiVersion = choices Of.ApiVersion
need Of.Kind = choices Of.Kind
need Of.JobTemplateRestartPolicy = choices Of.JobTemplateRestartPolicy
need Of.RestartPolicy = choices Of.RestartPolicy
need Of.Uid = codes "the text that the cluster gives it; kubectl get -o json prints it, and a manifest has none"
need Of.ScheduleText = codes "a schedule like */15 * * * *"
need field = form field

-- the numbers that it may have
-- rule: explain-field
abbrev pub numbers : Field → List ℕ
numbers Of.StartingDeadlineSeconds = codes "0 to 9223372036854775807"
numbers Of.SuccessfulJobsHistoryLimit = codes "0 to 2147483647"
numbers Of.FailedJobsHistoryLimit = codes "0 to 2147483647"
numbers _ = codes "another number"

-- of what form its text is
-- rule: explain-field
abbrev pub text_form : Field → List ℕ
text_form Of.CreationTimestamp = codes "a time like 2024-01-01T00:00:00Z"
text_form Of.ScheduledTimestamp = codes "a time like 2024-01-01T00:00:00Z or 2024-01-01T01:00:00+01:00"
text_form Of.LastScheduleTime = codes "a time like 2024-01-01T00:00:00Z"
text_form Of.LastSuccessfulTime = codes "a time like 2024-01-01T00:00:00Z"
text_form Of.Conditions = codes "a lastTransitionTime like 2024-01-01T00:00:00Z"
text_form Of.CompletionTime = codes "a time like 2024-01-01T00:00:00Z"
text_form _ = codes "a to z, 0 to 9, - and in a name dots, with a letter or a digit at both ends"

-- how long its text may be
-- rule: explain-field
abbrev pub most : Field → List ℕ
most Of.Name = codes "at most 63 characters, in a CronJob 52"
most _ = codes "at most 63 characters"
